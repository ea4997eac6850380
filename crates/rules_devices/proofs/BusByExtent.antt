-- Bus, device and function numbers are the same just where the numbers made of them are.
use Rattle.std.proofs.Common.{◌≡◌, ℕ, ◌+◌, ◌*◌, true, false, cond, List, [], ◌∷◌, ◌++◌, Option, Some, None, refl, sym, ap, ◌∙◌, arith}
use Rattle.std.specs.Prelude.{option_and_then, ◌==◌, ◌&&◌, ◌||◌, not, nat_le, nat_lt}
use Rattle.std.specs.List.{cons_option, filter_map, list_all}
use Rattle.std.specs.Option.{option_or}
use Rattle.std.proofs.lemmas.Bool.{and_parts, and_from, ltb-true}
use Rattle.std.proofs.lemmas.Bool.Decides.{nat_tests}
use Rattle.std.proofs.lemmas.List.{append-nil}
use Rattle.std.proofs.lemmas.List.Elements.{filter_map-append}
use Rattle.std.proofs.lemmas.List.Folds.{list_all-append}
use Rattle.muen_num.specs.Search.{first_after, first_in, first_pair, unless}
use Rattle.muen_num.proofs.SearchLaws.{all_pass}
use Rattle.policy_lawful.specs.Domains.{is_bdf, same_bdf}
use Rattle.policy_lawful.specs.Offences.{alone, two}
use Rattle.policy_lawful.specs.Rules.{overlapping, first_overlap}
use Rattle.policy_lawful.specs.declared.offence.Extent.{Extent}
use Rattle.policy_lawful.specs.declared.offence.Offence.{Offence}
use Rattle.policy_lawful.specs.source.Bdf.{Bdf}
use Rattle.policy_lawful.specs.source.Device.{Device}
use Rattle.rules_devices.specs.Domains.{bus_extent}

abbrev extent_of : Device → Option Extent
extent_of d = bus_extent d.name d.bdf

abbrev extents : List Device → List Extent
extents ds = filter_map (λ d. bus_extent d.name d.bdf) ds

-- ---- two bus, device and function numbers

abbrev bdf_number : Bdf → ℕ
bdf_number b = b.bus * 256 + b.device * 8 + b.function

-- numbers that are the same
same_number : (a b c x y z : ℕ) → nat_lt b 32 && nat_lt c 8 ≡ true → nat_lt y 32 && nat_lt z 8 ≡ true
    → (nat_le (a * 256 + b * 8 + c + 1) (x * 256 + y * 8 + z) || nat_le (x * 256 + y * 8 + z + 1) (a * 256 + b * 8 + c)) ≡ not ((a == x) && (b == y) && (c == z))
same_number a b c x y z h k =
    let p = and_parts (nat_lt b 32) (nat_lt c 8) h in
    let q = and_parts (nat_lt y 32) (nat_lt z 8) k in
    let b' = ltb-true b 32 p.0 in
    let c' = ltb-true c 8 p.1 in
    let y' = ltb-true y 32 q.0 in
    let z' = ltb-true z 8 q.1 in
    grind (arith, nat_tests)

-- a bus, device and function number as a range under a name
abbrev bdf_extent : List ℕ → Bdf → Extent
bdf_extent name b = record { name = name; address = b.bus * 256 + b.device * 8 + b.function; size = 1 }

is_there : (name : List ℕ) (b : Bdf) → is_bdf (Some b) ≡ true → bus_extent name (Some b) ≡ Some (bdf_extent name b)
is_there name b ok = ap (λ t. cond t (Some (bdf_extent name b)) None) ok

-- the earlier device against one that has a bus, device and function number
earlier : (name later : List ℕ) (o : Option Bdf) (x : Bdf) → is_bdf o ≡ true → is_bdf (Some x) ≡ true
    → option_and_then (λ b. overlapping b (bdf_extent later x)) (bus_extent name o) ≡ unless (not (same_bdf o (Some x))) (two name later)
earlier name later None x here ok = refl
earlier name later (Some b) x here ok =
    ap (option_and_then (λ b. overlapping b (bdf_extent later x))) (is_there name b here)
    ∙ ap (λ t. unless t (two name later)) (same_number b.bus b.device b.function x.bus x.device x.function here ok)

first_cons : (at : Extent → Option Offence) (o : Option Extent) (es : List Extent) → first_in at (cons_option o es) ≡ option_or (option_and_then at o) (first_in at es)
first_cons at None es = refl
first_cons at (Some e) es = refl

abbrev clash : Device → Device → Option Offence
clash a b = unless (not (same_bdf a.bdf b.bdf)) (two a.name b.name)

first_before : (later : List ℕ) (x : Bdf) → is_bdf (Some x) ≡ true → (before : List Device) → list_all (λ d. is_bdf d.bdf) before ≡ true
    → first_in (λ b. overlapping b (bdf_extent later x)) (extents before) ≡ first_in (λ a. unless (not (same_bdf a.bdf (Some x))) (two a.name later)) before
first_before later x ok [] all = refl
first_before later x ok (d ∷ ds) all =
    let parts = and_parts (is_bdf d.bdf) (list_all (λ d. is_bdf d.bdf) ds) all in
    first_cons (λ b. overlapping b (bdf_extent later x)) (extent_of d) (extents ds)
    ∙ ap (λ o. option_or o (first_in (λ b. overlapping b (bdf_extent later x)) (extents ds))) (earlier d.name later d.bdf x parts.0 ok)
    ∙ ap (option_or (unless (not (same_bdf d.bdf (Some x))) (two d.name later))) (first_before later x ok ds parts.1)

same_none : (o : Option Bdf) → same_bdf o None ≡ false
same_none None = refl
same_none (Some b) = refl

none_before : (later : List ℕ) (before : List Device) → first_in (λ a. unless {O = Offence} (not (same_bdf a.bdf None)) (two a.name later)) before ≡ None
none_before later [] = refl
none_before later (d ∷ ds) =
    ap (λ t. option_or (unless {O = Offence} (not t) (two d.name later)) (first_in (λ a. unless (not (same_bdf a.bdf None)) (two a.name later)) ds)) (same_none d.bdf)
    ∙ none_before later ds

one_more : (before : List Device) (d : Device) (o : Option Extent) → extent_of d ≡ o → extents (before ++ d ∷ []) ≡ extents before ++ cons_option o []
one_more before d o is =
    filter_map-append (λ d. bus_extent d.name d.bdf) before (d ∷ []) ∙ ap (λ o. extents before ++ cons_option o []) is

abbrev overlap_after : List Extent → List Extent → Option Offence
overlap_after before es = first_after (λ before x. first_in (λ b. overlapping b x) before) before es

abbrev clash_after : List Device → List Device → Option Offence
clash_after before ds = first_after (λ before x. first_in (λ b. clash b x) before) before ds

same_after : (before ds : List Device) → list_all (λ d. is_bdf d.bdf) before ≡ true → list_all (λ d. is_bdf d.bdf) ds ≡ true → overlap_after (extents before) (extents ds) ≡ clash_after before ds
same_after before [] sound all = refl
same_after before (d ∷ ds) sound all =
    let parts = and_parts (is_bdf d.bdf) (list_all (λ d. is_bdf d.bdf) ds) all in
    let more : list_all (λ d. is_bdf d.bdf) (before ++ d ∷ []) ≡ true =
    list_all-append (λ d. is_bdf d.bdf) before (d ∷ []) ∙ and_from _ _ sound (and_from (is_bdf d.bdf) true parts.0 refl) in
    let later : overlap_after (extents (before ++ d ∷ [])) (extents ds) ≡ clash_after (before ++ d ∷ []) ds = same_after (before ++ d ∷ []) ds more parts.1 in
    elim (d.bdf) as (λ o. d.bdf ≡ o → overlap_after (extents before) (extents (d ∷ ds)) ≡ clash_after before (d ∷ ds)) [
      | None ↦ λ n.
          let is : extent_of d ≡ None = ap (bus_extent d.name) n in
          let none : first_in (λ b. clash b d) before ≡ None = ap (λ o. first_in (λ a. unless {O = Offence} (not (same_bdf a.bdf o)) (two a.name d.name)) before) n ∙ none_before d.name before in
          ap (λ o. overlap_after (extents before) (cons_option o (extents ds))) is
          ∙ ap (λ es. overlap_after es (extents ds)) (sym (one_more before d None is ∙ append-nil (extents before)))
          ∙ later
          ∙ sym (ap (λ o. option_or o (clash_after (before ++ d ∷ []) ds)) none)
      | Some b ↦ λ s.
          let ok : is_bdf (Some b) ≡ true = ap is_bdf (sym s) ∙ parts.0 in
          let x = bdf_extent d.name b in
          let is : extent_of d ≡ Some x = ap (bus_extent d.name) s ∙ is_there d.name b ok in
          let here : first_in (λ b. overlapping b x) (extents before) ≡ first_in (λ b. clash b d) before =
          first_before d.name b ok before sound ∙ sym (ap (λ o. first_in (λ a. unless {O = Offence} (not (same_bdf a.bdf o)) (two a.name d.name)) before) s) in
          ap (λ o. overlap_after (extents before) (cons_option o (extents ds))) is
          ∙ ap (λ o. option_or o (overlap_after (extents before ++ x ∷ []) (extents ds))) here
          ∙ ap (λ es. option_or (first_in (λ b. clash b d) before) (overlap_after es (extents ds))) (sym (one_more before d (Some x) is))
          ∙ ap (option_or (first_in (λ b. clash b d) before)) later
    ] refl

-- the first two that share a number are the first two with the same bus, device and function number
pub bus_by_extent : (ds : List Device) → first_in (λ d. unless {O = Offence} (is_bdf d.bdf) (alone d.name)) ds ≡ None
    → first_overlap (filter_map (λ d. bus_extent d.name d.bdf) ds) ≡ first_pair (λ a b. unless (not (same_bdf a.bdf b.bdf)) (two a.name b.name)) ds
unfolding first_overlap
bus_by_extent ds none = same_after [] ds refl (all_pass (λ d. is_bdf d.bdf) (λ d. alone d.name) ds none)
