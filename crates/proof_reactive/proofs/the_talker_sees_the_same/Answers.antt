use Rattle.std.proofs.Common.{[], ◌∷◌, refl}
use Rattle.proof_reactive.specs.Echo.{busy, echo, echoes, members, serves, silent, talker}
use Rattle.proof_reactive.specs.Playing.{by_answers, played}
use Rattle.proof_reactive.proofs.the_talker_sees_the_same.Goals as goal

pub returns-clause-beside_a_line : goal.returns-clause-beside_a_line
returns-clause-beside_a_line c = λ own code other f g many more.
    let these = c.an_answering_device_is_in_the_loop.ensures.lawful own code in
    c.members_see_the_same_with_answering_devices.ensures (echo own code) members these.0 these.1
    (by_answers echoes (0 ∷ [])) (echo own other) f g (played echoes silent members (echo own code) f many) (played echoes busy members (echo own other) g more)
    (c.an_answering_device_is_in_the_loop.ensures.looped own code other f g many more) talker talker refl refl refl

pub returns-clause-beside_a_card : goal.returns-clause-beside_a_card
returns-clause-beside_a_card c = λ own code other f g many more.
    let these = c.an_answering_device_is_in_the_loop.ensures.lawful own code in
    c.members_see_the_same_with_answering_devices.ensures (echo own code) members these.0 these.1
    (by_answers serves (0 ∷ [])) (echo own other) f g (played serves silent members (echo own code) f many) (played serves busy members (echo own other) g more)
    (c.a_card_with_a_ring_is_in_the_loop.ensures.looped own code other f g many more) talker talker refl refl refl
