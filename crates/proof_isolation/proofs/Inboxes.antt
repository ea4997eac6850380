-- Equal inboxes give equal turns.
use Rattle.std.proofs.Common.{◌≡◌, ℕ, Bool, true, false, cond, List, [], ◌∷◌, map, filter, Some, None, refl, sym, ap, ◌∙◌, inl, inr, true≢false}
use Rattle.std.specs.Prelude.{◌==◌, slice_get, slice_index_or, unwrap_or}
use Rattle.std.specs.List.{list_any}
use Rattle.std.specs.Option.{option_map_or}
use Rattle.std.proofs.lemmas.Bool.{cases_Bool, or_left, or_right, eq-eqb}
use Rattle.std.proofs.lemmas.Option.{unwrap_or-slice_get}
use Rattle.policy_lawful.specs.Thing.{Thing, same_thing}
use Rattle.policy_lawful.specs.Windows.{Window}
use Rattle.subject_model.proofs.KeyLaws.{value_filtered}
use Rattle.policy_lawful.proofs.SameThings.{same_things}
use Rattle.subject_model.proofs.SystemLaws.{inbox_alone}
use Rattle.subject_model.specs.Alone.{Inbox, Own, OwnState, Things, solo_turn, thing_in}
use Rattle.subject_model.specs.System.{is_shown}

-- ---- the things that windows show

-- of a thing that isn't shown nothing is left
none_left : (test : Thing → Bool) (things : Things) (x : Thing) → test x ≡ false → thing_in (filter (λ e. test e.0) things) x ≡ None
none_left test [] x h = refl
none_left test (e ∷ es) x h =
    elim (cases_Bool (test e.0)) as (λ _. thing_in (cond (test e.0) (e ∷ filter (λ e. test e.0) es) (filter (λ e. test e.0) es)) x ≡ None) [
      | inl t ↦
          let other : same_thing e.0 x ≡ false = elim (cases_Bool (same_thing e.0 x)) as (λ _. same_thing e.0 x ≡ false) [
            | inl s ↦ absurd (true≢false (sym t ∙ ap test (same_things e.0 x s) ∙ h))
            | inr n ↦ n
          ] in
          ap (λ b. thing_in (cond b (e ∷ filter (λ e. test e.0) es) (filter (λ e. test e.0) es)) x) t
          ∙ ap (λ b. cond b (Some e.1) (thing_in (filter (λ e. test e.0) es) x)) other
          ∙ none_left test es x h
      | inr n ↦ ap (λ b. thing_in (cond b (e ∷ filter (λ e. test e.0) es) (filter (λ e. test e.0) es)) x) n ∙ none_left test es x h
    ]

-- what two systems show alike is alike, whatever stands beside it
pub shown_alike : (windows : List (Window Thing)) (a b : Things) → ((x : Thing) → is_shown windows x ≡ true → thing_in a x ≡ thing_in b x) → (x : Thing) → thing_in (filter (λ e. is_shown windows e.0) a) x ≡ thing_in (filter (λ e. is_shown windows e.0) b) x
shown_alike windows a b same x =
    elim (cases_Bool (is_shown windows x)) as (λ _. thing_in (filter (λ e. is_shown windows e.0) a) x ≡ thing_in (filter (λ e. is_shown windows e.0) b) x) [
      | inl t ↦
          let keeps : (y : Thing) → same_thing y x ≡ true → is_shown windows y ≡ true = λ y e. ap (is_shown windows) (same_things y x e) ∙ t in
          value_filtered same_thing (is_shown windows) x a keeps ∙ same x t ∙ sym (value_filtered same_thing (is_shown windows) x b keeps)
      | inr n ↦ none_left (is_shown windows) a x n ∙ sym (none_left (is_shown windows) b x n)
    ]

-- ---- ports

pub ports_alike : (ports : List ℕ) (a b : List ℕ) → ((n : ℕ) → list_any (λ m. m == n) ports ≡ true → slice_get a n ≡ slice_get b n) → map {B = ℕ × ℕ} (λ n. (n, slice_index_or a n 0)) ports ≡ map (λ n. (n, slice_index_or b n 0)) ports
ports_alike [] a b same = refl
ports_alike (n ∷ ns) a b same =
    let here : slice_index_or a n 0 ≡ slice_index_or b n 0 =
    sym (unwrap_or-slice_get a n 0) ∙ ap (λ o. unwrap_or o 0) (same n (or_left (n == n) (list_any (λ m. m == n) ns) (eq-eqb n n refl))) ∙ unwrap_or-slice_get b n 0 in
    let rest = ports_alike ns a b (λ k h. same k (or_right (n == k) (list_any (λ m. m == k) ns) h)) in
    λ i. (n, here i) ∷ rest i

-- ---- turns

pub same_turn : (own : Own) (mine : OwnState) (a b : Inbox) → ((x : Thing) → thing_in a.things x ≡ thing_in b.things x) → a.ports ≡ b.ports → a.now ≡ b.now → a.later ≡ b.later → a.first ≡ b.first → a.tick ≡ b.tick → solo_turn own mine a ≡ solo_turn own mine b
same_turn own mine a b things ports now later first tick =
    inbox_alone own mine a b (λ x. ap (λ o. option_map_or (λ bytes. bytes) o []) (things x)) ports now later first tick
