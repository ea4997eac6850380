use Rattle.std.proofs.Common.{◌≡◌, map}
use Rattle.serde_json.specs.View.{members_view}
use Rattle.policy_json.specs.Objects.{has_known}
use Rattle.policy_json.proofs.object.has_known.Given as goal

abbrev pub invariant-loop-key : goal.invariant-loop-key
invariant-loop-key l =
    has_known (map (λ k. k.now) l.keys) (members_view l.key-iterator) ≡ has_known (map (λ k. k.now) l.keys) (members_view l.members.entries)
