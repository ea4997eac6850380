-- The members of sets that are the closures are apart from all others.
use Rattle.std.proofs.Common.{List, Bool, subst}
use Rattle.policy_lawful.specs.Lawful.{IsLawful}
use Rattle.policy_lawful.specs.source.Source.{Source}
use Rattle.policy_lawful.specs.source.Subject.{Subject}
use Rattle.policy_flows.specs.Flows.{closure_of}
use Rattle.muen_num.proofs.Members.{In, all_from, map_in, map_some}
use Rattle.proof_isolation.specs.TwoSystems.{DependOnMembersAlone}
use Rattle.proof_isolation.proofs.TwoSystems.{same_by_flows}
use Rattle.flow_report.specs.Sets.{AreApart, AreFlows, members_of}

pub apart_from : (p : Source) → IsLawful p → (sets : List (List Bool)) → AreFlows p sets → AreApart p sets
apart_from p lawful sets h =
    all_from (λ set. DependOnMembersAlone p (members_of p set)) sets
    (λ set i.
    let within = subst (In (members_of p set)) h (map_in (members_of p) sets set i) in
    let source = map_some (λ (s : Subject). closure_of p s.name) p.subjects (members_of p set) within in
    subst (DependOnMembersAlone p) source.image (same_by_flows p source.one.name lawful))
