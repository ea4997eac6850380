-- There is room for the regions of each generated system.
use Rattle.std.proofs.Common.{◌≡◌, ℕ, ◌+◌, ◌*◌, ◌%◌, ◌^◌, ◌≤◌, Bool, false, List, [], ◌∷◌, ◌++◌, length, map, None, refl, sym, ap, subst, ◌∙◌, arith}
use Rattle.std.specs.Prelude.{◌||◌}
use Rattle.std.specs.Fmt.{digits}
use Rattle.std.specs.List.{AllByRecursion, flat_map}
use Rattle.std.proofs.lemmas.Bool.Decides.{nat_tests}
use Rattle.std.proofs.lemmas.List.{map-append}
use Rattle.std.proofs.lemmas.List.Elements.{All-from_recursion}
use Rattle.region_alloc.proofs.PageCounts.{count_none, count_three}
use Rattle.region_alloc.specs.Pages.{count, ept_pages, is_taken, touches}
use Rattle.region_alloc.specs.Regions.{kernel_regions, kernel_regions_of, region_of, regions_of, window_range}
use Rattle.region_alloc.specs.thing.Region.{Region}
use Rattle.region_alloc.specs.window.GuestRange.{GuestRange}
use Rattle.policy_lawful.specs.Thing.{channel_item, component_by, placed_items, provided_items, region_item}
use Rattle.policy_lawful.specs.Windows.{windows_of}
use Rattle.policy_lawful.specs.source.Source.{Source}
use Rattle.policy_lawful.specs.source.Subject.{Subject}
use Rattle.region_alloc.proofs.HasRoom.{has_room}
use Rattle.region_alloc.specs.Placement.{no_room, placement_of}
use Rattle.generated_system.proofs.Room.{IsSmall, small_placed}
use Rattle.generated_system.proofs.Shapes.{below_four}
use Rattle.generated_system.specs.System.{generated_block, channel, code_of, code_region, first_ticks_for, generated_system, subject, subjects_on, system_with}
use Rattle.muen_num.specs.Range.{numbers_below}

-- ---- the tables of a subject

abbrev page_at : ℕ → GuestRange
page_at guest = record { guest = guest; size = 4096 }

-- the windows of each subject: its code, and two channels
abbrev ranges : List GuestRange
ranges = page_at 4194304 ∷ page_at 6291456 ∷ page_at 6295552 ∷ []

no_touch : (r : GuestRange) (lo n : ℕ) → r.guest + r.size ≤ lo → touches r lo n ≡ false
no_touch r lo n h = grind (arith, nat_tests)

not_taken : (size v : ℕ) → 6299648 ≤ size * v → is_taken ranges size v ≡ false
not_taken size v h =
    ap (λ b. b || (touches (page_at 6291456) (size * v) size || (touches (page_at 6295552) (size * v) size || false))) (no_touch (page_at 4194304) (size * v) size (omega arith))
    ∙ ap (λ b. b || (touches (page_at 6295552) (size * v) size || false)) (no_touch (page_at 6291456) (size * v) size (omega arith))
    ∙ ap (λ b. b || false) (no_touch (page_at 6295552) (size * v) size (omega arith))

-- the first numbers of each level
first_of_39 : count (is_taken ranges (2 ^ 39)) 0 1 ≡ 1
unfolding count
first_of_39 = refl

first_of_30 : count (is_taken ranges (2 ^ 30)) 0 1 ≡ 1
unfolding count
first_of_30 = refl

first_of_21 : count (is_taken ranges (2 ^ 21)) 0 4 ≡ 2
unfolding count
first_of_21 = refl

none_of_none : (p : ℕ → Bool) (lo : ℕ) → count p lo 0 ≡ 0
none_of_none p lo = count_none p lo 0 (λ v a b. absurd (omega arith))

level_39 : count (is_taken ranges (2 ^ 39)) 0 (2 ^ 9) ≡ 1
level_39 =
    let p : ℕ → Bool = is_taken ranges (2 ^ 39) in
    let parts = count_three p 0 1 511 0 (2 ^ 9) refl in
    let later = count_none p 1 511 (λ v le l. not_taken (2 ^ 39) v (omega arith)) in
    omega (arith, parts, first_of_39, later, none_of_none p 512)

level_30 : count (is_taken ranges (2 ^ 30)) 0 (2 ^ 18) ≡ 1
level_30 =
    let p : ℕ → Bool = is_taken ranges (2 ^ 30) in
    let parts = count_three p 0 1 262143 0 (2 ^ 18) refl in
    let later = count_none p 1 262143 (λ v le l. not_taken (2 ^ 30) v (omega arith)) in
    omega (arith, parts, first_of_30, later, none_of_none p 262144)

level_21 : count (is_taken ranges (2 ^ 21)) 0 (2 ^ 27) ≡ 2
level_21 =
    let p : ℕ → Bool = is_taken ranges (2 ^ 21) in
    let parts = count_three p 0 4 134217724 0 (2 ^ 27) refl in
    let later = count_none p 4 134217724 (λ v le l. not_taken (2 ^ 21) v (omega arith)) in
    omega (arith, parts, first_of_21, later, none_of_none p 134217728)

five_pages : ept_pages ranges ≡ 5
five_pages = omega (arith, level_39, level_30, level_21)

-- ---- regions of at most eight pages

abbrev AreSmall : List Region → Type 0
AreSmall = AllByRecursion IsSmall

both_small : (xs ys : List Region) → AreSmall xs → AreSmall ys → AreSmall (xs ++ ys)
both_small [] ys h k = k
both_small (x ∷ xs) ys h k = (h.0, both_small xs ys h.1 k)

page : (r : Region) → r.fixed ≡ None → r.alignment ≡ 4096 → r.size ≡ 4096 → IsSmall r
page r f a s = record { anywhere = f; alignment = a; size = omega arith }

own_small : (code : ℕ → List ℕ) (is : List ℕ) → AreSmall (map region_of (map region_item (map (code_region code) is)))
own_small code [] = tt
own_small code (i ∷ is) = (record { anywhere = refl; alignment = refl; size = omega arith }, own_small code is)

channels_small : (is : List ℕ) → AreSmall (map region_of (map channel_item (map channel is)))
channels_small [] = tt
channels_small (i ∷ is) = (record { anywhere = refl; alignment = refl; size = omega arith }, channels_small is)

provided_small : (p : Source) (cpus : ℕ) (is : List ℕ) → AreSmall (map region_of (flat_map (λ s. provided_items s.name (component_by p s.component)) (map (subject cpus) is)))
provided_small p cpus [] = tt
provided_small p cpus (i ∷ is) = provided_small p cpus is

declared_small : (cpus first : ℕ) (code : ℕ → List ℕ) → AreSmall (map region_of (placed_items (system_with cpus first code)))
unfolding placed_items
declared_small cpus first code =
    let is : List ℕ = numbers_below (subjects_on cpus) in
    let p : Source = system_with cpus first code in
    rw (map-append, map-append)
    (both_small _ _ (both_small _ _ (own_small code is) (channels_small is)) (provided_small p cpus is))

kernel_five : (name : List ℕ) → AreSmall (kernel_regions name 5)
kernel_five name = (
  record { anywhere = refl; alignment = refl; size = omega arith },
  (
    record { anywhere = refl; alignment = refl; size = omega arith },
    (
      record { anywhere = refl; alignment = refl; size = omega arith },
      (
        record { anywhere = refl; alignment = refl; size = omega arith },
        (record { anywhere = refl; alignment = refl; size = omega arith }, tt),
      ),
    ),
  ),
)

-- the subject has these windows
abbrev SeesThree : Source → Subject → Type 0
SeesThree p s = map window_range (windows_of p s) ≡ ranges

kernel_small : (p : Source) (subjects : List Subject) → AllByRecursion (SeesThree p) subjects → AreSmall (flat_map (kernel_regions_of p) subjects)
kernel_small p [] h = tt
kernel_small p (s ∷ subjects) h =
    both_small (kernel_regions_of p s) (flat_map (kernel_regions_of p) subjects)
    (subst (λ k. AreSmall (kernel_regions s.name k)) (sym (ap ept_pages h.0 ∙ five_pages)) (kernel_five s.name))
    (kernel_small p subjects h.1)

-- ---- each generated system

-- what is computed of a system with so many CPUs
record IsKnown (cpus : ℕ) : Type 0 where
  see : (first : ℕ) (code : ℕ → List ℕ) → AllByRecursion (SeesThree (system_with cpus first code)) (system_with cpus first code).subjects
  few : (first : ℕ) (code : ℕ → List ℕ) → length (regions_of (system_with cpus first code)) ≤ 127

known_of_one : IsKnown 1
unfolding windows_of regions_of placed_items digits
known_of_one = record { see = λ first code. (refl, (refl, tt)); few = λ first code. omega arith }

known_of_two : IsKnown 2
unfolding windows_of regions_of placed_items digits
known_of_two = record { see = λ first code. (refl, (refl, (refl, (refl, tt)))); few = λ first code. omega arith }

known_of_three : IsKnown 3
unfolding windows_of regions_of placed_items digits
known_of_three = record { see = λ first code. (refl, (refl, (refl, (refl, (refl, (refl, tt)))))); few = λ first code. omega arith }

known_of_four : IsKnown 4
unfolding windows_of regions_of placed_items digits
known_of_four = record { see = λ first code. (refl, (refl, (refl, (refl, (refl, (refl, (refl, (refl, tt)))))))); few = λ first code. omega arith }

small_regions : (cpus first : ℕ) (code : ℕ → List ℕ) → IsKnown cpus → AreSmall (regions_of (system_with cpus first code))
unfolding regions_of
small_regions cpus first code known =
    let p : Source = system_with cpus first code in
    both_small (map region_of (placed_items p)) (flat_map (kernel_regions_of p) p.subjects) (declared_small cpus first code) (kernel_small p p.subjects (known.see first code))

room_for : (cpus first : ℕ) (code : ℕ → List ℕ) → IsKnown cpus → no_room (system_with cpus first code) ≡ None
unfolding placement_of
room_for cpus first code known =
    let p : Source = system_with cpus first code in
    let small = All-from_recursion IsSmall (regions_of p) (small_regions cpus first code known) in
    let places = small_placed generated_block (regions_of p) (refl, refl) small (known.few first code) in
    has_room p places.addresses places.is

pub generated_room : (n : ℕ) → no_room (generated_system n) ≡ None
unfolding generated_system
generated_room n =
    room_for (1 + n % 4) (first_ticks_for n) (code_of n)
    (below_four (λ m. IsKnown (1 + m)) known_of_one known_of_two known_of_three known_of_four (n % 4) (omega arith))
