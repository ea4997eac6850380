-- Whatever holds of each of the four members holds of a member; and what a policy says of members, whatever `black` is.
use Rattle.std.proofs.Common.{◌≡◌, ℕ, true, List, [], ◌∷◌, filter, refl, sym, ap, ◌∙◌, ◌+◌, true≢false}
use Rattle.std.specs.Prelude.{Some}
use Rattle.std.specs.List.{list_any}
use Rattle.std.specs.Str.{bytes_eq}
use Rattle.proof_isolation.specs.Flows.{is_member}
use Rattle.proof_isolation.specs.Range.{numbers_below}
use Rattle.proof_isolation.specs.limits.TheConstants.{LAST_PORT}
use Rattle.policy_lawful.specs.source.Mapping.{Mapping}
use Rattle.policy_lawful.specs.source.Region.{Region}
use Rattle.policy_lawful.specs.source.Source.{Source}
use Rattle.policy_lawful.specs.source.Subject.{Subject}
use Rattle.subject_model.specs.Resources.{port_ranges_of, ports_of}
use Rattle.policy_lawful.specs.PortRanges.{has_port}
use Rattle.subject_model.specs.System.{subject_named}
use Rattle.proof_isolation.proofs.WrittenOut.{of_found}
use Rattle.proof_gateway.specs.Gateway.{with_black, plain, keys, slots, cipher, members}

-- ---- by cases over the members

pub record OfMembers (P : Subject → Type 0) : Type 0 where
  pub of_plain : P plain
  pub of_keys : P keys
  pub of_slots : P slots
  pub of_cipher : P cipher

pub each_member : (P : Subject → Type 0) (regions : List Region) (windows : List Mapping) (code : List ℕ) → OfMembers P
    → (s : Subject) → is_member members s ≡ true → subject_named (with_black regions windows code) s.name ≡ Some s → P s
each_member P regions windows code of s member is =
    of_found (λ s. is_member members s ≡ true → P s) (λ u. bytes_eq u.name s.name) (with_black regions windows code).subjects
    (λ _. of.of_plain, (λ _. of.of_keys, (λ _. of.of_slots, (λ _. of.of_cipher, (λ h. absurd (true≢false (sym h)), tt))))) s is member

-- ---- a member is given no port

no_one : (xs : List ℕ) → filter (λ port. list_any (λ r. has_port r port) []) xs ≡ []
no_one [] = refl
no_one (x ∷ xs) = no_one xs

no_ports : (p : Source) (s : Subject) → port_ranges_of p s ≡ [] → ports_of p s ≡ []
unfolding ports_of
no_ports p s none =
    let ports = numbers_below (LAST_PORT + 1) in
    ap (λ ranges. filter (λ port. list_any (λ r. has_port r port) ranges) ports) none ∙ no_one ports

pub members_have_no_ports : (regions : List Region) (windows : List Mapping) (code : List ℕ) → OfMembers (λ s. ports_of (with_black regions windows code) s ≡ [])
unfolding port_ranges_of
members_have_no_ports regions windows code = let p = with_black regions windows code in record {
  of_plain = no_ports p plain refl;
  of_keys = no_ports p keys refl;
  of_slots = no_ports p slots refl;
  of_cipher = no_ports p cipher refl;
}
