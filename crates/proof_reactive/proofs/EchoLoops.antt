-- The two systems are looped, by each of the two devices.
use Rattle.std.proofs.Common.{ℕ, List, [], ◌∷◌, min, sym, subst, arith}
use Rattle.std.specs.List.{All}
use Rattle.policy_lawful.specs.Contents.{Held}
use Rattle.subject_model.specs.DeviceRecord.{NamedInput}
use Rattle.proof_isolation.specs.Agree.{WritesTheSame}
use Rattle.proof_reactive.specs.Answering.{AreLooped, Heard, heard}
use Rattle.proof_reactive.specs.Echo.{busy, echo, echoes, members, serves, silent}
use Rattle.proof_reactive.specs.Laws.{CardsAreLooped, EchoesAreLooped}
use Rattle.proof_reactive.specs.Playing.{AreTold, by_answers, played}
use Rattle.proof_reactive.proofs.Echo.{all_given, all_write, closed, echoes_agree, lawful, told_busy, told_card_busy, told_card_silent, told_silent}
use Rattle.proof_reactive.proofs.Playing.{play_follows}

-- whatever both run, whether the other device is silent or busy, and however long the runs are
module _ (own code other : List ℕ) (f g : Held) (many more : ℕ) (answers : Heard → ℕ → List NamedInput)
    (told : AreTold answers silent (0 ∷ []) members (echo own code) (echo own other)) (told_too : AreTold answers busy (0 ∷ []) members (echo own other) (echo own code))
    (writes : (h : Heard) (tick : ℕ) → All (WritesTheSame members (echo own code) (echo own other)) (answers h tick)) where
  looped : AreLooped (by_answers answers (0 ∷ [])) members (echo own code) (echo own other) f g (played answers silent members (echo own code) f many) (played answers busy members (echo own other) g more) (min many more)
  looped =
      let follows = play_follows answers silent members (echo own code) f (echo own other) (0 ∷ []) many (min many more) told (omega arith) in
      record {
        lawful = lawful own other;
        closed = closed own other;
        agree = echoes_agree own code other f g (played answers silent members (echo own code) f many) (min many more)
            (λ tick low. subst (All (WritesTheSame members (echo own code) (echo own other))) (sym (follows.inputs tick low)) (writes (heard (echo own code) members f (played answers silent members (echo own code) f many) tick) tick));
        follows = follows;
        follows_too = play_follows answers busy members (echo own other) g (echo own code) (0 ∷ []) more (min many more) told_too (omega arith);
      }

pub echoes_looped : EchoesAreLooped
echoes_looped own code other f g many more = looped own code other f g many more echoes (told_silent own code other) (told_busy own other code) (all_write own code other)

pub cards_looped : CardsAreLooped
cards_looped own code other f g many more = looped own code other f g many more serves (told_card_silent own code other) (told_card_busy own other code) (all_given own code other)
