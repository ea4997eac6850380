-- The map of choices, one entry after another; and what is seen by it.
use Rattle.std.proofs.Common.{◌≡◌, ℕ, zero, suc, ◌+◌, ◌-◌, ◌<◌, ◌≤◌, Bool, true, false, cond, List, [], ◌∷◌, ◌++◌, length, Option, Some, None, refl, sym, ap, ◌∙◌, subst, arith, get_or, take, inl, inr}
use Rattle.std.specs.Prelude.{⊤, ◌==◌, is_some, option_and_then, option_map, slice_get, unwrap_or}
use Rattle.std.specs.BTreeMap.{BTreeMap, IsOrdered, get}
use Rattle.std.specs.Option.{option_or}
use Rattle.std.specs.Ordering.{is_eq, nat_cmp}
use Rattle.std.specs.List.{cons_option, enumerate_from, filter_map, find}
use Rattle.std.specs.List.Sorted.{IsStrictlySortedBy}
use Rattle.std.specs.Map.{keys_of, lookup}
use Rattle.std.proofs.lemmas.Bool.{cases_eq, cases_order, eq-eqb, ne_eqb}
use Rattle.std.proofs.lemmas.Bool.Decides.{nat_tests}
use Rattle.std.proofs.lemmas.Map.Keys.{below_from_sorted, sorted_tail}
use Rattle.std.proofs.lemmas.List.{take_more}
use Rattle.std.proofs.lemmas.List.Folds.{find-append}
use Rattle.policy_lawful.specs.Resolution.{Resolution}
use Rattle.policy_lawful.specs.declared.resolved.MapEntry.{MapEntry}
use Rattle.policy_lawful.specs.declared.resolved.Wanted.{Wanted}
use Rattle.policy_lawful.specs.declared.resolved.Wanted.TheVariants.{Memory as WantedMemory, Channel as WantedChannel}
use Rattle.policy_lawful.specs.source.ComponentChannel.{ComponentChannel}
use Rattle.policy_lawful.specs.source.Required.{Required}
use Rattle.policy_views.specs.Entries.{HasChoices, choice_of, chosen_channel, chosen_end, chosen_region, index_among, noted, wanted_at}
use Rattle.policy_lawful.specs.Views.{channel_view, component_channel_view, component_end, entry_for, region_view, required_view, same_wanted}
use Rattle.policy_views.specs.declared.entries.Choice.{Choice}
use Rattle.policy_views.specs.declared.entries.Wants.{Wants}
use Rattle.policy_views.specs.declared.entries.Wants.TheVariants.{Memory as WantsMemory, Channel as WantsChannel}
use Rattle.policy_lawful.specs.declared.view.IndexedEnd.{IndexedEnd}

-- ---- one entry more

-- an entry's logical name, by its index among those of the kind
abbrev noted_by : Option Choice → Option ℕ → ℕ → Choice → Option Choice
noted_by old None k c = old
noted_by old (Some index) k c = noted old (index == k) c

pub noted_at : (kind : Wants) (wanted : Wanted) (k : ℕ) (old : Option Choice) (c : Choice) → noted old (same_wanted wanted (wanted_at kind k)) c ≡ noted_by old (index_among kind wanted) k c
noted_at WantsMemory (WantedMemory j) k old c = refl
noted_at WantsMemory (WantedChannel j) k old c = refl
noted_at WantsChannel (WantedMemory j) k old c = refl
noted_at WantsChannel (WantedChannel j) k old c = refl

stays : (o : Option Choice) (c : Choice) → is_some o ≡ true → o ≡ option_or o (Some c)
stays None c some = absurd (cc)
stays (Some x) c some = refl

-- what is noted at an index that has a choice, and at one that has none
pub noted_old : (f : ℕ → Option Choice) (index k : ℕ) (c : Choice) → is_some (f index) ≡ true → f k ≡ noted (f k) (index == k) c
noted_old f index k c some =
    elim (cases_eq index k) as (λ _. f k ≡ noted (f k) (index == k) c) [
      | inl same ↦
          let here : is_some (f k) ≡ true = subst (λ j. is_some (f j) ≡ true) same some in
          stays (f k) c here ∙ sym (ap (λ b. noted (f k) b c) (eq-eqb index k same))
      | inr other ↦ sym (ap (λ b. noted (f k) b c) (ne_eqb index k other))
    ]

equal_numbers : (a b : ℕ) → a ≡ b → is_eq (nat_cmp a b) ≡ true
equal_numbers a b same = grind (arith, nat_tests)

other_numbers : (a b : ℕ) → (a ≡ b → ⊥) → is_eq (nat_cmp a b) ≡ false
other_numbers a b other = grind (arith, nat_tests)

comes : (o : Option Choice) (c : Choice) → is_some o ≡ false → Some c ≡ option_or o (Some c)
comes None c none = refl
comes (Some x) c none = absurd (cc)

pub noted_new : (f g : ℕ → Option Choice) (index k : ℕ) (c : Choice) → is_some (f index) ≡ false → g k ≡ cond (is_eq (nat_cmp index k)) (Some c) (f k) → g k ≡ noted (f k) (index == k) c
noted_new f g index k c none now =
    elim (cases_eq index k) as (λ _. g k ≡ noted (f k) (index == k) c) [
      | inl same ↦
          let here : is_some (f k) ≡ false = subst (λ j. is_some (f j) ≡ false) same none in
          now ∙ (ap (λ b. cond b (Some c) (f k)) (equal_numbers index k same) ∙ (comes (f k) c here ∙ sym (ap (λ b. noted (f k) b c) (eq-eqb index k same))))
      | inr other ↦ now ∙ (ap (λ b. cond b (Some c) (f k)) (other_numbers index k other) ∙ sym (ap (λ b. noted (f k) b c) (ne_eqb index k other)))
    ]

noted_found : (o : Option MapEntry) (b : Bool) (e : MapEntry) → option_map choice_of (option_or o (cond b (Some e) None)) ≡ noted (option_map choice_of o) b (choice_of e)
noted_found None true e = refl
noted_found None false e = refl
noted_found (Some x) true e = refl
noted_found (Some x) false e = refl

-- no entry, no choices
pub none_yet : (kind : Wants) (choices : BTreeMap ℕ Choice) → choices.entries ≡ [] → HasChoices kind choices []
none_yet kind choices empty = record { at = λ k. ap (lookup (λ q. is_eq (nat_cmp k q))) empty }

pub choices_more : (kind : Wants) (before after : BTreeMap ℕ Choice) (es : List MapEntry) (i : ℕ) (e : MapEntry) → HasChoices kind before (take i es)
    → ((k : ℕ) → get nat_cmp after k ≡ noted (get nat_cmp before k) (same_wanted e.logical (wanted_at kind k)) (choice_of e)) → i < length es → e ≡ get_or es i e
    → HasChoices kind after (take (i + 1) es)
choices_more kind before after es i e had notes within is = record {
  at = λ k.
      let test : MapEntry → Bool = λ e. same_wanted e.logical (wanted_at kind k) in
      let found : find test (take (i + 1) es) ≡ option_or (find test (take i es)) (cond (test e) (Some e) None) =
      ap (find test) (take_more es i e within ∙ ap (λ x. take i es ++ x ∷ []) (sym is)) ∙ find-append test (take i es) (e ∷ []) in
      notes k
      ∙ (ap (λ o. noted o (test e) (choice_of e)) (had.at k)
      ∙ sym (ap (option_map choice_of) found ∙ noted_found (find test (take i es)) (test e) e));
}

-- ---- seen by the map

filter_indexes : {X V : Type 0} (f g : ℕ × X → Option V) (n : ℕ) (xs : List X) → ((k : ℕ) (x : X) → n ≤ k → f (k, x) ≡ g (k, x)) → filter_map f (enumerate_from n xs) ≡ filter_map g (enumerate_from n xs)
filter_indexes f g n [] same = refl
filter_indexes {X} f g n (x ∷ xs) same =
    let later : (k : ℕ) (y : X) → n + 1 ≤ k → f (k, y) ≡ g (k, y) = λ k y l. same k y (omega (arith, l)) in
    ap (λ o. cons_option o (filter_map f (enumerate_from (n + 1) xs))) (same n x (omega arith)) ∙ ap (cons_option (g (n, x))) (filter_indexes f g (n + 1) xs later)

-- entries whose keys are at least so much
abbrev Beyond : {C : Type 0} → ℕ → List (ℕ × C) → Type 0
Beyond n [] = ⊤
Beyond n (e ∷ es) = (n ≤ e.0) × Beyond n es

beyond_first : {C : Type 0} (k n : ℕ) (es : List (ℕ × C)) → n ≤ k + 1 → ((j d : ℕ) → j < length (keys_of es) → k < get_or (keys_of es) j d) → Beyond n es
beyond_first k n [] l after = tt
beyond_first k n (e ∷ es) l after =
    let here : k < e.0 = after 0 0 (omega arith) in
    (omega (arith, here, l), beyond_first k n es l (λ j d m. after (suc j) d (omega (arith, m))))

-- those behind the first key of keys that ascend
beyond_head : {C : Type 0} (e : ℕ × C) (n : ℕ) (es : List (ℕ × C)) → n ≤ e.0 + 1 → IsStrictlySortedBy nat_cmp (keys_of (e ∷ es)) → Beyond n es
beyond_head e n es l up = beyond_first e.0 n es l (λ j d m. below_from_sorted (keys_of (e ∷ es)) 0 (suc j) d up (omega arith) (omega (arith, m)))

beyond_none : {C : Type 0} (es : List (ℕ × C)) → Beyond 0 es
beyond_none [] = tt
beyond_none (e ∷ es) = (omega arith, beyond_none es)

none_before : {C : Type 0} (n : ℕ) (es : List (ℕ × C)) → Beyond (n + 1) es → lookup (λ q. is_eq (nat_cmp n q)) es ≡ None
none_before n [] low = refl
none_before n (e ∷ es) low =
    let here : n + 1 ≤ e.0 = low.0 in
    ap (λ b. cond b (Some e.1) (lookup (λ q. is_eq (nat_cmp n q)) es)) (other_numbers n e.0 (λ same. absurd (omega (arith, here, same)))) ∙ none_before n es low.1

-- some of a list's elements are chosen, by their indexes in order: those that are looked up at each index
module _ {X C Z : Type 0} (f : ℕ → X → C → Option Z) where
  abbrev by_choice : List X → ℕ → ℕ × C → Option Z
  by_choice xs n (k, c) = option_and_then (λ x. f k x c) (slice_get xs (k - n))

  abbrev by_element : List (ℕ × C) → ℕ × X → Option Z
  by_element es (k, x) = option_and_then (f k x) (lookup (λ q. is_eq (nat_cmp k q)) es)

  shifted_at : (x : X) (xs : List X) (n k : ℕ) (c : C) → n + 1 ≤ k → by_choice (x ∷ xs) n (k, c) ≡ by_choice xs (n + 1) (k, c)
  shifted_at x xs n k c l =
      let next : k - n ≡ suc (k - (n + 1)) = omega (arith, l) in
      ap (λ j. option_and_then (λ x. f k x c) (slice_get (x ∷ xs) j)) next

  shifted : (x : X) (xs : List X) (n : ℕ) (es : List (ℕ × C)) → Beyond (n + 1) es → filter_map (by_choice (x ∷ xs) n) es ≡ filter_map (by_choice xs (n + 1)) es
  shifted x xs n [] low = refl
  shifted x xs n (e ∷ es) low =
      ap (λ o. cons_option o (filter_map (by_choice (x ∷ xs) n) es)) (shifted_at x xs n e.0 e.1 low.0)
      ∙ ap (cons_option (by_choice xs (n + 1) e)) (shifted x xs n es low.1)

  none_there : (n : ℕ) (es : List (ℕ × C)) → filter_map (by_choice [] n) es ≡ []
  none_there n [] = refl
  none_there n (e ∷ es) = none_there n es

  passed : (e : ℕ × C) (es : List (ℕ × C)) (xs : List X) → filter_map (by_element es) (enumerate_from (e.0 + 1) xs) ≡ filter_map (by_element (e ∷ es)) (enumerate_from (e.0 + 1) xs)
  passed e es xs =
      filter_indexes (by_element es) (by_element (e ∷ es)) (e.0 + 1) xs
      (λ k x l. sym (ap (λ b. option_and_then (f k x) (cond b (Some e.1) (lookup (λ q. is_eq (nat_cmp k q)) es))) (other_numbers k e.0 (λ same. absurd (omega (arith, l, same))))))

  sparse : (xs : List X) (n : ℕ) (es : List (ℕ × C)) → Beyond n es → IsStrictlySortedBy nat_cmp (keys_of es) → filter_map (by_choice xs n) es ≡ filter_map (by_element es) (enumerate_from n xs)
  sparse [] n es low up = none_there n es
  sparse (x ∷ xs) n [] low up = sparse xs (n + 1) [] tt up
  sparse (x ∷ xs) n (e ∷ es) low up =
      elim (cases_eq e.0 n) as (λ _. filter_map (by_choice (x ∷ xs) n) (e ∷ es) ≡ filter_map (by_element (e ∷ es)) (enumerate_from n (x ∷ xs))) [
        | inl same ↦
            let after : Beyond (n + 1) es = beyond_head e (n + 1) es (omega (arith, same)) up in
            let rest_up = sorted_tail nat_cmp e.0 (keys_of es) up in
            let at_first : e.0 - n ≡ 0 = omega (arith, same) in
            let first : by_choice (x ∷ xs) n e ≡ by_element (e ∷ es) (n, x) =
            ap (λ j. option_and_then (λ x. f e.0 x e.1) (slice_get (x ∷ xs) j)) at_first
            ∙ (ap (λ k. f k x e.1) same
            ∙ sym (ap (λ b. option_and_then (f n x) (cond b (Some e.1) (lookup (λ q. is_eq (nat_cmp n q)) es))) (equal_numbers n e.0 (sym same)))) in
            let rest : filter_map (by_choice (x ∷ xs) n) es ≡ filter_map (by_element (e ∷ es)) (enumerate_from (n + 1) xs) =
            shifted x xs n es after ∙ (sparse xs (n + 1) es after rest_up
            ∙ subst (λ m. filter_map (by_element es) (enumerate_from (m + 1) xs) ≡ filter_map (by_element (e ∷ es)) (enumerate_from (m + 1) xs)) same (passed e es xs)) in
            (λ i. cons_option (first i) (rest i))
        | inr other ↦
            let here : n ≤ e.0 = low.0 in
            let more : n + 1 ≤ e.0 = elim (cases_order e.0 n) as (λ _. n + 1 ≤ e.0) [ inl same ↦ absurd (other same) | inr apart ↦ elim apart as (λ _. n + 1 ≤ e.0) [ inl l ↦ absurd (omega (arith, l, here)) | inr l ↦ omega (arith, l) ] ] in
            let all : Beyond (n + 1) (e ∷ es) = (more, beyond_head e (n + 1) es (omega (arith, more)) up) in
            shifted x xs n (e ∷ es) all
            ∙ (sparse xs (n + 1) (e ∷ es) all up
            ∙ sym (ap (λ o. cons_option (option_and_then (f n x) o) (filter_map (by_element (e ∷ es)) (enumerate_from (n + 1) xs))) (none_before n (e ∷ es) all)))
      ]

  each_choice : (xs : List X) (g : ℕ × C → Option Z) → ((k : ℕ) (c : C) → g (k, c) ≡ option_and_then (λ x. f k x c) (slice_get xs k)) → (es : List (ℕ × C)) → filter_map g es ≡ filter_map (by_choice xs 0) es
  each_choice xs g same [] = refl
  each_choice xs g same (e ∷ es) =
      let from_first : e.0 ≡ e.0 - 0 = omega arith in
      ap (λ o. cons_option o (filter_map g es)) (same e.0 e.1 ∙ ap (λ j. option_and_then (λ x. f e.0 x e.1) (slice_get xs j)) from_first)
      ∙ ap (cons_option (by_choice xs 0 e)) (each_choice xs g same es)

  -- from the first on
  pub by_map : (xs : List X) (m : BTreeMap ℕ C) (g : ℕ × C → Option Z) (h : ℕ × X → Option Z) → IsOrdered nat_cmp m → ((k : ℕ) (c : C) → g (k, c) ≡ option_and_then (λ x. f k x c) (slice_get xs k))
      → ((k : ℕ) (x : X) → option_and_then (f k x) (get nat_cmp m k) ≡ h (k, x)) → filter_map g m.entries ≡ filter_map h (enumerate_from 0 xs)
  by_map xs m g h up choices elements =
      each_choice xs g choices m.entries
      ∙ (sparse xs 0 m.entries (beyond_none m.entries) up
      ∙ filter_indexes (by_element m.entries) h 0 xs (λ k x l. elements k x))

then_of_choice : {Z : Type 0} (f : Choice → Option Z) (o : Option MapEntry) → option_and_then f (option_map choice_of o) ≡ option_and_then (λ e. f (choice_of e)) o
then_of_choice f None = refl
then_of_choice f (Some e) = refl

then_some : {X Z : Type 0} (f : X → Z) (o : Option X) → option_map f o ≡ option_and_then (λ x. Some (f x)) o
then_some f None = refl
then_some f (Some x) = refl

pub regions_chosen : (r : Resolution) (choices : BTreeMap ℕ Choice) (entries : List MapEntry) (xs : List Required) → HasChoices WantsMemory choices entries → IsOrdered nat_cmp choices
    → filter_map (chosen_region r xs) choices.entries ≡ filter_map (required_view r entries) (enumerate_from 0 xs)
regions_chosen r choices entries xs has up =
    by_map (λ k x c. region_view r c.physical x.virtual_address (unwrap_or c.rights x.rights)) xs choices (chosen_region r xs) (required_view r entries) up
    (λ k c. refl)
    (λ k x.
    ap (option_and_then (λ c. region_view r c.physical x.virtual_address (unwrap_or c.rights x.rights))) (has.at k)
    ∙ then_of_choice (λ c. region_view r c.physical x.virtual_address (unwrap_or c.rights x.rights)) (entry_for entries (WantedMemory k)))

pub channels_chosen : (r : Resolution) (choices : BTreeMap ℕ Choice) (entries : List MapEntry) (xs : List ComponentChannel) → HasChoices WantsChannel choices entries → IsOrdered nat_cmp choices
    → filter_map (chosen_channel r xs) choices.entries ≡ filter_map (component_channel_view r entries) (enumerate_from 0 xs)
channels_chosen r choices entries xs has up =
    by_map (λ k x c. channel_view r c.physical x.virtual_address x.role) xs choices (chosen_channel r xs) (component_channel_view r entries) up
    (λ k c. refl)
    (λ k x.
    ap (option_and_then (λ c. channel_view r c.physical x.virtual_address x.role)) (has.at k)
    ∙ then_of_choice (λ c. channel_view r c.physical x.virtual_address x.role) (entry_for entries (WantedChannel k)))

abbrev end_of : ComponentChannel → Choice → IndexedEnd
end_of x c = record { channel = c.physical; role = x.role; call = x.call; vector = x.vector }

pub ends_chosen : (choices : BTreeMap ℕ Choice) (entries : List MapEntry) (xs : List ComponentChannel) → HasChoices WantsChannel choices entries → IsOrdered nat_cmp choices
    → filter_map (chosen_end xs) choices.entries ≡ filter_map (component_end entries) (enumerate_from 0 xs)
ends_chosen choices entries xs has up =
    by_map (λ k x c. Some (end_of x c)) xs choices (chosen_end xs) (component_end entries) up
    (λ k c. then_some (λ x. end_of x c) (slice_get xs k))
    (λ k x.
    ap (option_and_then (λ c. Some (end_of x c))) (has.at k)
    ∙ (then_of_choice (λ c. Some (end_of x c)) (entry_for entries (WantedChannel k)) ∙ sym (then_some (λ e. end_of x (choice_of e)) (entry_for entries (WantedChannel k)))))
