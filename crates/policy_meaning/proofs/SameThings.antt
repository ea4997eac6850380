-- Things are the same just where they are so by the test of their names.
use Rattle.std.proofs.Common.{◌≡◌, ◌⊎◌, ℕ, true, List, sym, ap, ◌∙◌, inl, inr}
use Rattle.std.specs.Prelude.{◌&&◌}
use Rattle.std.specs.Str.{bytes_eq}
use Rattle.std.proofs.lemmas.Bool.{cases_Bool, true≢false}
use Rattle.policy_meaning.specs.Thing.{Thing, region, channel, provided, device_memory, state, same_thing}
use Rattle.muen_num.proofs.Lookups.{same_names, same_self}

both_names : (a b c d : List ℕ) {X : Type 0} → (bytes_eq a b && bytes_eq c d) ≡ true → (a ≡ b → c ≡ d → X) → X
both_names a b c d h k =
    elim (cases_Bool (bytes_eq a b)) [ inl e ↦ let g = rw e at h in k (same_names a b e) (same_names c d g) | inr n ↦ let g = rw n at h in absurd (true≢false (sym g)) ]

-- things that are the same by the test are the same
pub same_things : (x y : Thing) → same_thing x y ≡ true → x ≡ y
same_things (region a) (region b) h = ap region (same_names a b h)
same_things (channel a) (channel b) h = ap channel (same_names a b h)
same_things (provided s a) (provided t b) h = both_names s t a b h (λ e f. ap (λ z. provided z a) e ∙ ap (provided t) f)
same_things (device_memory s a) (device_memory t b) h = both_names s t a b h (λ e f. ap (λ z. device_memory z a) e ∙ ap (device_memory t) f)
same_things (state a) (state b) h = ap state (same_names a b h)
same_things (region a) (channel c) h = absurd (true≢false (sym h))
same_things (region a) (provided c d) h = absurd (true≢false (sym h))
same_things (region a) (device_memory c d) h = absurd (true≢false (sym h))
same_things (region a) (state c) h = absurd (true≢false (sym h))
same_things (channel a) (region c) h = absurd (true≢false (sym h))
same_things (channel a) (provided c d) h = absurd (true≢false (sym h))
same_things (channel a) (device_memory c d) h = absurd (true≢false (sym h))
same_things (channel a) (state c) h = absurd (true≢false (sym h))
same_things (provided a b) (region c) h = absurd (true≢false (sym h))
same_things (provided a b) (channel c) h = absurd (true≢false (sym h))
same_things (provided a b) (device_memory c d) h = absurd (true≢false (sym h))
same_things (provided a b) (state c) h = absurd (true≢false (sym h))
same_things (device_memory a b) (region c) h = absurd (true≢false (sym h))
same_things (device_memory a b) (channel c) h = absurd (true≢false (sym h))
same_things (device_memory a b) (provided c d) h = absurd (true≢false (sym h))
same_things (device_memory a b) (state c) h = absurd (true≢false (sym h))
same_things (state a) (region c) h = absurd (true≢false (sym h))
same_things (state a) (channel c) h = absurd (true≢false (sym h))
same_things (state a) (provided c d) h = absurd (true≢false (sym h))
same_things (state a) (device_memory c d) h = absurd (true≢false (sym h))

-- a thing is the same as itself
pub same_thing_self : (x : Thing) → same_thing x x ≡ true
same_thing_self (region a) = same_self a
same_thing_self (channel a) = same_self a
same_thing_self (provided s a) = rw (same_self s) (same_self a)
same_thing_self (device_memory s a) = rw (same_self s) (same_self a)
same_thing_self (state a) = same_self a

-- things are the same or not
pub cases_thing : (x y : Thing) → (x ≡ y) ⊎ (x ≡ y → ⊥)
cases_thing x y =
    elim (cases_Bool (same_thing x y)) [
      | inl h ↦ inl (same_things x y h)
      | inr n ↦ inr (λ e. true≢false (sym (same_thing_self x) ∙ (ap (same_thing x) e ∙ n)))
    ]

pub state_names : (a b : List ℕ) → state a ≡ state b → a ≡ b
state_names a b e = cc (e)
