-- The MSRs that are granted one by one are those of the granted ranges.
use Rattle.std.proofs.Common.{◌≡◌, ℕ, zero, suc, ◌+◌, ◌-◌, ◌==◌, Bool, true, false, List, [], ◌∷◌, map, refl, sym, ap, ap₂, ◌∙◌, arith}
use Rattle.std.specs.Prelude.{◌&&◌, ◌||◌, nat_le, nat_lt, if◌then◌else◌}
use Rattle.std.specs.List.{flat_map, list_any}
use Rattle.std.proofs.lemmas.Bool.Decides.{nat_tests}
use Rattle.std.proofs.lemmas.List.Folds.{list_any-append}
use Rattle.expand_grants.specs.Resources.{Msr, msr_grant, each_msr_in}
use Rattle.muen_num.proofs.Lists.{list_any-map}
use Rattle.muen_num.specs.Range.{numbers_below}
use Rattle.policy_lawful.specs.MsrGrants.{allows, has_msr, is_granted as is_msr_granted}
use Rattle.policy_lawful.specs.source.Msrs.{Msrs}

and_false : (b : Bool) → (b && false || false) ≡ false
and_false true = refl
and_false false = refl

joined : (a b c ok : Bool) → (a || b) ≡ c → (a && ok || (b && ok || false)) ≡ (c && ok)
joined true b true ok h = elim ok as (λ ok. (ok || (b && ok || false)) ≡ ok) [ true ↦ refl | false ↦ and_false b ]
joined true b false ok h = absurd (cc)
joined false true true ok h = elim ok as (λ ok. (ok || false) ≡ ok) [ true ↦ refl | false ↦ refl ]
joined false true false ok h = absurd (cc)
joined false false true ok h = absurd (cc)
joined false false false ok h = refl

one_more : (start index n : ℕ) → ((nat_le start index && nat_lt index (start + n)) || (start + n == index)) ≡ (nat_le start index && nat_lt index (start + suc n))
one_more start index n = grind (arith, nat_tests)

none_yet : (start index : ℕ) → (nat_le start index && nat_lt index (start + 0)) ≡ false
none_yet start index = grind (arith, nat_tests)

numbered : (start index : ℕ) (ok : Bool) (n : ℕ) → list_any (λ k. (start + k == index) && ok) (numbers_below n) ≡ ((nat_le start index && nat_lt index (start + n)) && ok)
numbered start index ok zero = ap (λ b. b && ok) (sym (none_yet start index))
numbered start index ok (suc n) =
    list_any-append (λ k. (start + k == index) && ok) (numbers_below n) (n ∷ [])
    ∙ ap (λ b. b || ((start + n == index) && ok || false)) (numbered start index ok n)
    ∙ joined (nat_le start index && nat_lt index (start + n)) (start + n == index) (nat_le start index && nat_lt index (start + suc n)) ok (one_more start index n)

in_range : (start end index : ℕ) → (nat_le start index && nat_lt index (start + (end + 1 - start))) ≡ (nat_le start index && nat_le index end)
in_range start end index = grind (arith, nat_tests)

-- that of one range
pub one_range : (x : Msrs) (index : ℕ) (write : Bool) → list_any (λ (m : Msr). (m.index == index) && (if write then m.write else m.read)) (each_msr_in x) ≡ (has_msr (msr_grant x) index && allows (msr_grant x) write)
one_range x index write =
    let ok : Bool = if write then x.rights.write else x.rights.read in
    list_any-map (λ (m : Msr). (m.index == index) && (if write then m.write else m.read)) (λ k. record { index = x.start + k; read = x.rights.read; write = x.rights.write }) (numbers_below (x.end + 1 - x.start))
    ∙ numbered x.start index ok (x.end + 1 - x.start)
    ∙ ap (λ b. b && ok) (in_range x.start x.end index)

pub msr_granted : (ranges : List Msrs) (index : ℕ) (write : Bool) → list_any (λ (m : Msr). (m.index == index) && (if write then m.write else m.read)) (flat_map each_msr_in ranges) ≡ is_msr_granted (map msr_grant ranges) index write
unfolding is_msr_granted
msr_granted [] index write = refl
msr_granted (x ∷ xs) index write =
    list_any-append (λ (m : Msr). (m.index == index) && (if write then m.write else m.read)) (each_msr_in x) (flat_map each_msr_in xs)
    ∙ ap₂ (λ a b. a || b) (one_range x index write) (msr_granted xs index write)
