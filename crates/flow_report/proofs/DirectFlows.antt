-- Direct flows by names are those by contacts.
use Rattle.std.proofs.Common.{◌≡◌, ℕ, Bool, true, false, refl, ◌∙◌, ◌⊎◌, inl, inr}
use Rattle.std.specs.Prelude.{◌||◌}
use Rattle.policy_lawful.specs.Resolution.{IsResolved, Resolution, source_of, subject_named}
use Rattle.policy_lawful.specs.declared.resolved.Subject.{Subject}
use Rattle.policy_lawful.proofs.UniqueNames.{unique}
use Rattle.policy_flows.specs.Flows.{by_channel, by_event, by_memory, flows_to}
use Rattle.muen_num.proofs.Members.{In, at_in, map_in}
use Rattle.flow_report.specs.ByIndex.{contacts_of, flows_between}
use Rattle.flow_report.proofs.ChannelFlows.{channel_same}
use Rattle.flow_report.proofs.EventFlows.{sources_same}
use Rattle.policy_flows.proofs.EventWaysFlow.{by_sources, event_parts, sources_count}
use Rattle.policy_flows.proofs.UniqueSubjects.{HasUniqueNames, unique_names}
use Rattle.flow_report.proofs.MemoryFlows.{memory_same}
use Rattle.flow_report.proofs.MonitorFlows.{change_same, plan_same, sight_same}
use Rattle.flow_report.proofs.IndexesOfSubjects.{At, is_in_range}

-- of three tests the last in a narrower form
joined : (c m e f : Bool) → (f ≡ true → e ≡ true) → (e ≡ true → (c ≡ true) ⊎ (f ≡ true)) → (c || m || e) ≡ (c || m || f)
joined true m e f less more = refl
joined false true e f less more = refl
joined false false true true less more = refl
joined false false false false less more = refl
joined false false true false less more = elim (more refl) as (λ _. true ≡ false) [ inl x ↦ absurd (cc) | inr x ↦ absurd (cc) ]
joined false false false true less more = less refl

pub names_unique : (r : Resolution) → IsResolved r → HasUniqueNames (source_of r)
names_unique r q = unique_names (source_of r) (unique (source_of r) q.names).subjects

-- a subject of the policy
named_in : (r : Resolution) (k : ℕ) (s : Subject) → At r k s → In (subject_named r s) (source_of r).subjects
unfolding source_of
named_in r k s h = map_in (subject_named r) r.subjects s (at_in r.subjects k s h.at)

pub flows_same : (r : Resolution) → IsResolved r → (i j : ℕ) (u s : Subject) → At r i u → At r j s
    → flows_to (source_of r) (subject_named r u) (subject_named r s) ≡ flows_between (contacts_of r (i, u)) (contacts_of r (j, s))
unfolding flows_to flows_between
flows_same r q i j u s left right =
    let p = source_of r in
    let a = subject_named r u in
    let b = subject_named r s in
    let from = is_in_range r q i u left in
    let to = is_in_range r q j s right in
    let events = joined (by_channel p a b) (by_memory p a b) (by_event p a b) (by_sources p a b) (sources_count p a b) (event_parts p (names_unique r q) a b (named_in r j s right)) in
    let channel = channel_same r q u s from to in
    let memory = memory_same r q s to u from in
    let sources = sources_same r q j s right u from in
    let plan = plan_same r u in
    let sight = sight_same r q i j u s left right in
    let change = change_same r q i j u s left right in
    let three = events ∙ (λ k. channel k || memory k || sources k) in
    λ k. three k || plan k || sight k || change k
