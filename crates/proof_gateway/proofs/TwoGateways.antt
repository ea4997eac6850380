-- What is printed of the members of the gateway is the same in both others.
use Rattle.std.proofs.Common.{ℕ, List, [], ◌∷◌}
use Rattle.proof_isolation.specs.Flows.{IsClosed}
use Rattle.policy_lawful.specs.Lawful.{IsLawful}
use Rattle.policy_lawful.specs.source.Mapping.{Mapping}
use Rattle.policy_lawful.specs.source.Region.{Region}
use Rattle.proof_isolation.proofs.TwoEnds.{printed_alike}
use Rattle.proof_gateway.specs.Gateway.{with_black, gateway, other_black, more_memory, black_code, halt_code, pad, on_pad, members, network}
use Rattle.proof_gateway.specs.Laws.{PrintsMembersAsTheGateway}
use Rattle.proof_gateway.proofs.Agree.{agree}
use Rattle.proof_gateway.proofs.Lawful.{closed, closed_with_more, lawful, lawful_with_more}

-- whatever `black` is in a second lawful policy in which the set is closed
alike_with : (regions : List Region) (windows : List Mapping) (code : List ℕ) → IsLawful (with_black regions windows code)
    → IsClosed (with_black regions windows code) members → PrintsMembersAsTheGateway (with_black regions windows code)
alike_with regions windows code keeps shut f g s w member is there =
    printed_alike gateway f network (lawful black_code) (with_black regions windows code) g network members keeps (closed black_code) shut
    (agree [] regions [] windows black_code code f g) s w member is there

-- whatever program `black` runs
pub with_program : (code : List ℕ) → PrintsMembersAsTheGateway (with_black [] [] code)
with_program code = alike_with [] [] code (lawful code) (closed code)

pub with_another : PrintsMembersAsTheGateway other_black
with_another = with_program halt_code

pub with_more : PrintsMembersAsTheGateway more_memory
with_more = alike_with (pad ∷ []) (on_pad ∷ []) black_code lawful_with_more closed_with_more
