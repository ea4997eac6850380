-- The set in which devices count is least, and holds the one in which they don't.
use Rattle.std.proofs.Common.{◌≡◌, ℕ, Bool, true, List, map, subst}
use Rattle.std.specs.List.{All}
use Rattle.std.specs.Str.{bytes_eq}
use Rattle.muen_num.proofs.Members.{In, all_from, all_in, left_in, map_in}
use Rattle.policy_lawful.specs.Lawful.{IsLawful}
use Rattle.policy_lawful.specs.source.Source.{Source}
use Rattle.policy_lawful.specs.source.Subject.{Subject}
use Rattle.policy_lawful.proofs.KeptRules.{rules_of}
use Rattle.policy_lawful.proofs.UniqueNames.{unique}
use Rattle.policy_flows.specs.Flows.{IsWithin, closure_of, flows_to, is_member}
use Rattle.policy_flows.proofs.Closures.{closure_is_least as declared_is_least, member_in, member_some, passing}
use Rattle.policy_flows.proofs.UniqueSubjects.{HasUniqueNames, unique_names}
use Rattle.device_flows.specs.Accesses.{HoldsDeclaredFlows}
use Rattle.device_flows.specs.Closures.{IsLeastFrom}
use Rattle.device_flows.specs.DeviceFlows.{device_closure_of, is_subject, reaches_over_devices}
use Rattle.device_flows.specs.Ends.{subject, device, ends_of, leads_to}
use Rattle.device_flows.proofs.Closures.{closure_is_least}

pub reach_is_least : (p : Source) (name : List ℕ) → IsLeastFrom (leads_to p) (ends_of p) (is_subject name) (reaches_over_devices p name)
unfolding reaches_over_devices
reach_is_least p name = closure_is_least (leads_to p) (ends_of p) (is_subject name)

pub names_unique : (p : Source) → IsLawful p → HasUniqueNames p
names_unique p lawful = unique_names p (unique p (rules_of lawful).rule_1).subjects

module _ (p : Source) (lawful : IsLawful p) (name : List ℕ) where
  abbrev reached : Subject → Bool
  reached u = reaches_over_devices p name (subject u)

  among_ends : (u : Subject) → In u p.subjects → In (subject u) (ends_of p)
  among_ends u i = left_in (map subject p.subjects) (map device p.devices) (subject u) (map_in subject p.subjects u i)

  has : (s : Subject) → In s p.subjects → bytes_eq s.name name ≡ true → is_member (passing p reached) s ≡ true
  has s i h =
      member_in p reached s i
      (all_in (λ e. is_subject name e ≡ true → reaches_over_devices p name e ≡ true) (ends_of p) (reach_is_least p name).has (subject s) (among_ends s i) h)

  closed : (s u : Subject) → In s p.subjects → In u p.subjects → is_member (passing p reached) s ≡ true → flows_to p u s ≡ true → is_member (passing p reached) u ≡ true
  closed s u i j h to =
      let one = member_some p reached s h in
      let passes : reached s ≡ true = subst (λ t. reached t ≡ true) ((names_unique p lawful).same one.one s one.within i one.name) one.passes in
      member_in p reached u j
      (all_in (λ a. leads_to p a (subject s) ≡ true → reaches_over_devices p name a ≡ true) (ends_of p)
      (all_in (λ b. reaches_over_devices p name b ≡ true → All (λ a. leads_to p a b ≡ true → reaches_over_devices p name a ≡ true) (ends_of p)) (ends_of p) (reach_is_least p name).closed.sources
      (subject s) (among_ends s i) passes)
      (subject u) (among_ends u j) to)

  within_reach : IsWithin p (closure_of p name) (passing p reached)
  within_reach =
      (declared_is_least p name).least (passing p reached)
      (all_from (λ s. bytes_eq s.name name ≡ true → is_member (passing p reached) s ≡ true) p.subjects (λ s i. has s i))
      (record {
        sources = all_from (λ s. is_member (passing p reached) s ≡ true → All (λ u. flows_to p u s ≡ true → is_member (passing p reached) u ≡ true) p.subjects) p.subjects
            (λ s i h. all_from (λ u. flows_to p u s ≡ true → is_member (passing p reached) u ≡ true) p.subjects (λ u j to. closed s u i j h to));
      })

pub held : (p : Source) → IsLawful p → HoldsDeclaredFlows p
unfolding device_closure_of
held p lawful = λ name. within_reach p lawful name
