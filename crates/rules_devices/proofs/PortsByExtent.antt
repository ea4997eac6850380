-- Ranges of ports are ranges of addresses, empty where they are none.
use Rattle.std.proofs.Common.{◌≡◌, ℕ, ◌+◌, ◌-◌, ◌<◌, ◌≤◌, Bool, true, false, cond, List, [], ◌∷◌, ◌++◌, length, get_or, map, take, Option, refl, sym, ap, ◌∙◌, subst, arith}
use Rattle.std.specs.Prelude.{◌==◌, ◌||◌, not, nat_lt, nat_le, option_map, slice_get}
use Rattle.std.specs.Option.{option_or}
use Rattle.std.specs.List.{flat_map, list_all, position_or_len}
use Rattle.std.proofs.lemmas.Bool.{and_parts, and_from, leb-true, lt-ltb}
use Rattle.std.proofs.lemmas.Bool.Decides.{nat_tests}
use Rattle.std.proofs.lemmas.List.{append-nil, map_push, map-append, take_more}
use Rattle.std.proofs.lemmas.List.Concat.{flat_map-cons}
use Rattle.std.proofs.lemmas.List.Folds.{list_all-append}
use Rattle.std.proofs.lemmas.List.Sums.{prefix_len-le-length}
use Rattle.std.proofs.lemmas.Grind.{flat_map-append}
use Rattle.muen_num.specs.declared.limits.TheConstants.{LAST_PORT}
use Rattle.muen_num.specs.Search.{first_in, first_after, unless}
use Rattle.muen_num.proofs.SameAnswers.{first_in-map}
use Rattle.rules_extents.proofs.OwnThenPairs.{BreaksAt, breaks_at_first, first_fault_is}
use Rattle.policy_lawful.specs.MoreRules.{offence_10, ports_apart, ports_offence}
use Rattle.policy_lawful.specs.Offences.{alone, two}
use Rattle.policy_lawful.specs.Resolution.{Resolution, source_of}
use Rattle.policy_lawful.specs.Rules.{overlapping, first_overlap}
use Rattle.policy_lawful.specs.declared.offence.Extent.{Extent}
use Rattle.policy_lawful.specs.declared.offence.Offence.{Offence}
use Rattle.policy_lawful.specs.source.Device.{Device}
use Rattle.policy_lawful.specs.source.Ports.{Ports}
use Rattle.policy_lawful.proofs.Positions.{position_same}
use Rattle.rules_devices.specs.Ranges.{port_extent}
use Rattle.policy_lawful.specs.Ranges.{is_port_range}

-- one more device
pub ports_more : (ds : List Device) (i : ℕ) (d : Device) → i < length ds → d ≡ get_or ds i d → map port_extent (flat_map (λ d. d.io_ports) (take i ds)) ++ map port_extent d.io_ports ≡ map port_extent (flat_map (λ d. d.io_ports) (take (i + 1) ds))
ports_more ds i d within is =
    sym (
    ap (λ xs. map port_extent (flat_map (λ d. d.io_ports) xs)) (take_more ds i d within)
    ∙ ap (map port_extent) (flat_map-append (λ d. d.io_ports) (take i ds) (get_or ds i d ∷ []))
    ∙ ap (λ xs. map port_extent (flat_map (λ d. d.io_ports) (take i ds) ++ xs)) (flat_map-cons (λ d. d.io_ports) (get_or ds i d) [] ∙ append-nil (get_or ds i d).io_ports)
    ∙ map-append port_extent (flat_map (λ d. d.io_ports) (take i ds)) (get_or ds i d).io_ports
    ∙ ap (λ x. map port_extent (flat_map (λ d. d.io_ports) (take i ds)) ++ map port_extent x.io_ports) (sym is)
    )

-- ---- those that aren't empty

empty_is : (n : ℕ) → (n == 0) ≡ not (nat_lt 0 n)
empty_is n = grind (arith, nat_tests)

breaks : (xs : List Extent) → BreaksAt (λ e. nat_lt 0 e.size) xs (position_or_len (λ e. e.size == 0) xs)
breaks xs =
    subst (BreaksAt (λ e. nat_lt 0 e.size) xs) (sym (position_same (λ e. e.size == 0) (λ e. not (nat_lt 0 e.size)) (λ e. empty_is e.size) xs))
    (breaks_at_first (λ e. nat_lt 0 e.size) xs)

pub sound_within : (xs : List Extent) → position_or_len (λ e. e.size == 0) xs ≤ length xs
sound_within xs = prefix_len-le-length (λ e. not (e.size == 0)) xs

-- ---- as ranges of addresses

size_is : (x : Ports) → is_port_range x ≡ true → (port_extent x).size ≡ x.end - x.start + 1
size_is x sound = ap (λ b. cond b (x.end - x.start + 1) 0) sound

sized : (x : Ports) (b : Bool) → is_port_range x ≡ b → nat_lt 0 (port_extent x).size ≡ b
sized x true e = ap (nat_lt 0) (size_is x e) ∙ lt-ltb 0 (x.end - x.start + 1) (omega arith)
sized x false e = ap (λ b. nat_lt 0 (cond b (x.end - x.start + 1) 0)) e

below_same : (a b n : ℕ) → a ≤ b → nat_le (a + (b - a + 1)) n ≡ nat_le (b + 1) n
below_same a b n l =
    let e : a + (b - a + 1) ≡ b + 1 = omega arith in
    ap (λ m. nat_le m n) e

below : (a b : Ports) → is_port_range a ≡ true → nat_le ((port_extent a).address + (port_extent a).size) (port_extent b).address ≡ nat_le (a.end + 1) b.start
below a b sound =
    let l = leb-true a.start a.end (and_parts (nat_le a.start a.end) (nat_le a.end LAST_PORT) sound).0 in
    ap (λ n. nat_le (a.start + n) b.start) (size_is a sound) ∙ below_same a.start a.end b.start l

apart_same : (b x : Ports) → is_port_range x ≡ true → is_port_range b ≡ true → overlapping (port_extent b) (port_extent x) ≡ unless (ports_apart b x) (two b.name x.name)
apart_same b x sound other =
    ap (λ t. unless (t || nat_le ((port_extent x).address + (port_extent x).size) (port_extent b).address) (two b.name x.name)) (below b x other)
    ∙ ap (λ t. unless (nat_le (b.end + 1) x.start || t) (two b.name x.name)) (below x b sound)

-- a range by itself, then against each before it
abbrev extent_offence : List Extent → Extent → Option Offence
extent_offence before x = option_or (unless (nat_lt 0 x.size) (alone x.name)) (first_in (λ b. overlapping b x) before)

own_same : (x : Ports) → unless {O = Offence} (nat_lt 0 (port_extent x).size) (alone x.name) ≡ unless (is_port_range x) (alone x.name)
own_same x = ap (λ b. unless b (alone x.name)) (sized x (is_port_range x) refl)

same_after : (before xs : List Ports) → list_all is_port_range before ≡ true → first_after extent_offence (map port_extent before) (map port_extent xs) ≡ first_after ports_offence before xs
same_after before [] all = refl
same_after before (x ∷ xs) all =
    elim (is_port_range x) as (λ b. is_port_range x ≡ b → first_after extent_offence (map port_extent before) (map port_extent (x ∷ xs)) ≡ first_after ports_offence before (x ∷ xs)) [
      | true ↦ λ sound.
          let pairs = first_in-map port_extent (λ b. overlapping b (port_extent x)) (λ b. unless (ports_apart b x) (two b.name x.name)) is_port_range (λ b other. apart_same b x sound other) before all in
          let more : list_all is_port_range (before ++ x ∷ []) ≡ true =
          list_all-append is_port_range before (x ∷ []) ∙ and_from _ _ all (and_from (is_port_range x) true sound refl) in
          let here : extent_offence (map port_extent before) (port_extent x) ≡ ports_offence before x =
          ap (λ o. option_or o (first_in (λ b. overlapping b (port_extent x)) (map port_extent before))) (own_same x)
          ∙ ap (option_or (unless (is_port_range x) (alone x.name))) pairs in
          ap (λ o. option_or o (first_after extent_offence (map port_extent before ++ port_extent x ∷ []) (map port_extent xs))) here
          ∙ ap (λ ys. option_or (ports_offence before x) (first_after extent_offence ys (map port_extent xs))) (sym (map_push port_extent before x))
          ∙ ap (option_or (ports_offence before x)) (same_after (before ++ x ∷ []) xs more)
      | false ↦ λ fault.
          let fails = sized x false fault in
          ap (λ b. option_or (option_or (unless b (alone x.name)) (first_in (λ b. overlapping b (port_extent x)) (map port_extent before))) (first_after extent_offence (map port_extent before ++ port_extent x ∷ []) (map port_extent xs))) fails
          ∙ sym (ap (λ b. option_or (option_or (unless b (alone x.name)) (first_in (λ b. unless (ports_apart b x) (two b.name x.name)) before)) (first_after ports_offence (before ++ x ∷ []) xs)) fault)
    ] refl

-- what is found of the ranges of addresses is the offence
pub ports_by_extent : (r : Resolution) (xs : List Extent) → xs ≡ map port_extent (flat_map (λ d. d.io_ports) r.devices)
    → option_or (first_overlap (take (position_or_len (λ e. e.size == 0) xs) xs)) (option_map (λ e. alone e.name) (slice_get xs (position_or_len (λ e. e.size == 0) xs))) ≡ offence_10 (source_of r)
unfolding offence_10 source_of
ports_by_extent r xs is =
    sym (first_fault_is (λ e. nat_lt 0 e.size) xs (position_or_len (λ e. e.size == 0) xs) (breaks xs))
    ∙ ap (first_after extent_offence []) is
    ∙ same_after [] (flat_map (λ d. d.io_ports) r.devices) refl
