-- Rule 13 by names and by indexes.
use Rattle.std.proofs.Common.{◌≡◌, ℕ, zero, suc, ◌+◌, ◌<◌, Bool, true, false, cond, List, [], ◌∷◌, length, map, Option, Some, None, get_or, refl, sym, ap, ◌∙◌, arith}
use Rattle.std.specs.Prelude.{◌==◌, ◌&&◌, ◌||◌, filter, not, nat_lt, slice_get}
use Rattle.std.specs.Option.{option_or}
use Rattle.std.specs.List.{enumerate_from, flat_map, list_all, list_any}
use Rattle.std.specs.Str.{bytes_eq}
use Rattle.std.proofs.lemmas.Bool.{and_from, and_parts, eq-eqb, lt-ltb, ltb-true}
use Rattle.std.proofs.lemmas.Bool.Decides.{nat_tests}
use Rattle.std.proofs.lemmas.List.{length-map, get_or-map}
use Rattle.std.proofs.lemmas.List.Concat.{flat_map-cons}
use Rattle.std.proofs.lemmas.List.Folds.{list_all-append, list_all-map, list_any-append}
use Rattle.std.proofs.lemmas.Slice.Eq.{bytes_eq-Decides}
use Rattle.std.proofs.lemmas.Option.{slice_get_within, get_or_from_slice_get}
use Rattle.std.proofs.Math.Bool.{and-false, and-true, or-false}
use Rattle.muen_num.specs.Search.{first_in, unless}
use Rattle.muen_num.specs.declared.mode.EventMode.{EventMode}
use Rattle.muen_num.specs.declared.mode.EventMode.TheVariants.{Asap, Async, Own, Switch}
use Rattle.muen_num.proofs.Lists.{any_same, list_any-map, map-map}
use Rattle.muen_num.proofs.SameAnswers.{both_numbered, first_in-map, first_numbered_same, list_all_same}
use Rattle.muen_num.proofs.Lookups.{same_self}
use Rattle.policy_lawful.specs.MoreRules as rules
use Rattle.policy_lawful.specs.MoreRules.{channel_mode_offence, is_writer, mode_offence, offence_13, readers_of, some_group_lists, sources_of, targets_of, writers_of}
use Rattle.policy_lawful.specs.Offences.{two}
use Rattle.policy_lawful.specs.Resolution.{Resolution, IsResolved, group_named, group_in_range, name_at, source_of}
use Rattle.policy_lawful.specs.Rules.{repeated}
use Rattle.policy_lawful.specs.declared.resolved.Group.{Group as ResolvedGroup}
use Rattle.policy_lawful.specs.declared.resolved.Subject.{Subject as ResolvedSubject}
use Rattle.policy_lawful.proofs.Indexes.{same_name}
use Rattle.policy_lawful.proofs.SourceElements.{parts_in_range}
use Rattle.policy_lawful.proofs.UniqueNames.{channel_names, subject_names, subjects_unique}
use Rattle.policy_lawful.specs.source.Channel.{Channel}
use Rattle.policy_lawful.specs.source.Event.{Event}
use Rattle.policy_lawful.specs.Views.{channel_ends_of}
use Rattle.rules_channels.specs.ByIndex.{AreItems, items_at_index}
use Rattle.rules_events.specs.Listings.{all_memberships, memberships}
use Rattle.muen_num.specs.Numbers.{is_among, share}
use Rattle.rules_events.specs.Directions.{channel_mode_fault, channel_mode, channels_fault, event_direction_fault, events_fault, parties_fit_mode, mode_fault, parties_of, source_fault}
use Rattle.rules_channels.specs.ChannelEnds.{all_channel_ends, all_readers, all_writers, met, met_channel_ends}
use Rattle.rules_channels.specs.Parties.{party, source_parties, sources_at, target_parties, targets_at}
use Rattle.rules_channels.specs.declared.channel_ends.Met.{Met}
use Rattle.rules_channels.specs.declared.parties.Party.{Party}
use Rattle.rules_channels.proofs.ChannelsByIndex.{name_of_channel}
use Rattle.rules_channels.proofs.EndsByChannel.{met_named, readers_same, writers_same}
use Rattle.rules_events.proofs.EventsByIndex.{name_of_event, sources_same, targets_same}
use Rattle.rules_channels.proofs.NotedItems.{items-append}

-- ---- lists

any_numbered : {X : Type 0} (f : ℕ × X → Bool) (h : X → Bool) (n : ℕ) (xs : List X) → ((k : ℕ) (x : X) → slice_get xs k ≡ Some x → f (n + k, x) ≡ h x) → list_any f (enumerate_from n xs) ≡ list_any h xs
any_numbered f h n [] same = refl
any_numbered {X} f h n (x ∷ xs) same =
    let here : f (n, x) ≡ h x = ap (λ m. f (m, x)) (omega arith) ∙ same 0 x refl in
    let later : (k : ℕ) (y : X) → slice_get xs k ≡ Some y → f (n + 1 + k, y) ≡ h y = λ k y e. ap (λ m. f (m, y)) (omega arith) ∙ same (suc k) y e in
    ap (λ b. b || list_any f (enumerate_from (n + 1) xs)) here ∙ ap (λ b. h x || b) (any_numbered f h (n + 1) xs later)

all_kept : {X : Type 0} (q t : X → Bool) (xs : List X) → list_all q xs ≡ true → list_all q (filter t xs) ≡ true
all_kept q t [] all = refl
all_kept q t (x ∷ xs) all =
    let parts = and_parts (q x) (list_all q xs) all in
    elim (t x) as (λ b. list_all q (cond b (x ∷ filter t xs) (filter t xs)) ≡ true) [
      | true ↦ and_from (q x) (list_all q (filter t xs)) parts.0 (all_kept q t xs parts.1)
      | false ↦ all_kept q t xs parts.1
    ]

always : {X : Type 0} (b : Bool) → b ≡ true → (xs : List X) → list_all (λ _. b) xs ≡ true
always b e [] = refl
always b e (x ∷ xs) = and_from b (list_all (λ _. b) xs) e (always b e xs)

-- where each that is noted passes, so do those at an index
at_passes : {X : Type 0} (q : X → Bool) (k : ℕ) (xs : List (ℕ × X)) → list_all (λ x. q x.1) xs ≡ true → list_all q (items_at_index k xs) ≡ true
at_passes q k xs all = list_all-map q (λ x. x.1) (filter (λ x. x.0 == k) xs) ∙ all_kept (λ x. q x.1) (λ x. x.0 == k) xs all

each_noted : {S X : Type 0} (q : X → Bool) (f : ℕ × S → List (ℕ × X)) (n : ℕ) (ss : List S) → ((i : ℕ) (s : S) → slice_get ss i ≡ Some s → list_all (λ x. q x.1) (f (n + i, s)) ≡ true)
    → list_all (λ x. q x.1) (flat_map f (enumerate_from n ss)) ≡ true
each_noted q f n [] each = refl
each_noted {S} q f n (s ∷ ss) each =
    let here : list_all (λ x. q x.1) (f (n, s)) ≡ true = ap (λ m. list_all (λ x. q x.1) (f (m, s))) (omega arith) ∙ each 0 s refl in
    let later : (i : ℕ) (t : S) → slice_get ss i ≡ Some t → list_all (λ x. q x.1) (f (n + 1 + i, t)) ≡ true = λ i t e. ap (λ m. list_all (λ x. q x.1) (f (m, t))) (omega arith) ∙ each (suc i) t e in
    ap (list_all (λ x. q x.1)) (flat_map-cons f (n, s) (enumerate_from (n + 1) ss))
    ∙ list_all-append (λ x. q x.1) (f (n, s)) (flat_map f (enumerate_from (n + 1) ss))
    ∙ and_from _ _ here (each_noted q f (n + 1) ss later)

-- ---- the groups of a subject

-- the group lists the subject at an index
abbrev lists : ℕ → ResolvedGroup → Bool
lists k g = list_any (λ i. i == k) g.subjects

absorb : (a b : Bool) → (a || (b && a)) ≡ a
absorb true b = refl
absorb false true = refl
absorb false false = refl

of_group : (test : ℕ → Bool) (k n : ℕ) (is : List ℕ) → list_any test (items_at_index k (map (λ i. (i, n)) is)) ≡ (list_any (λ i. i == k) is && test n)
of_group test k n [] = refl
of_group test k n (i ∷ is) =
    let rest : list_any test (items_at_index k (map (λ i. (i, n)) is)) ≡ (list_any (λ i. i == k) is && test n) = of_group test k n is in
    let found : List (ℕ × ℕ) = filter (λ x. x.0 == k) (map (λ i. (i, n)) is) in
    elim (i == k) as (λ b. list_any test (map (λ x. x.1) (cond b ((i, n) ∷ found) found)) ≡ ((b || list_any (λ i. i == k) is) && test n)) [
      | true ↦ ap (λ b. test n || b) rest ∙ absorb (test n) (list_any (λ i. i == k) is)
      | false ↦ rest
    ]

-- a test of the groups of a subject
of_groups : (test : ℕ → Bool) (k n : ℕ) (gs : List ResolvedGroup) → list_any test (items_at_index k (flat_map memberships (enumerate_from n gs))) ≡ list_any (λ x. lists k x.1 && test x.0) (enumerate_from n gs)
of_groups test k n [] = refl
of_groups test k n (g ∷ gs) =
    ap (λ xs. list_any test (items_at_index k xs)) (flat_map-cons memberships (n, g) (enumerate_from (n + 1) gs))
    ∙ ap (list_any test) (items-append k (memberships (n, g)) (flat_map memberships (enumerate_from (n + 1) gs)))
    ∙ list_any-append test (items_at_index k (memberships (n, g))) (items_at_index k (flat_map memberships (enumerate_from (n + 1) gs)))
    ∙ ap (λ b. b || list_any test (items_at_index k (flat_map memberships (enumerate_from (n + 1) gs)))) (of_group test k n g.subjects)
    ∙ ap (λ b. (lists k g && test n) || b) (of_groups test k (n + 1) gs)

other_number : (m n : ℕ) → m < n → (n == m) ≡ false
other_number m n l = grind (arith, nat_tests)

none_later : (test : ResolvedGroup → Bool) (m n : ℕ) (gs : List ResolvedGroup) → m < n → list_any (λ x. test x.1 && (x.0 == m)) (enumerate_from n gs) ≡ false
none_later test m n [] l = refl
none_later test m n (g ∷ gs) l =
    ap (λ b. (test g && b) || list_any (λ x. test x.1 && (x.0 == m)) (enumerate_from (n + 1) gs)) (other_number m n l)
    ∙ ap (λ b. b || list_any (λ x. test x.1 && (x.0 == m)) (enumerate_from (n + 1) gs)) (and-false (test g))
    ∙ none_later test m (n + 1) gs (omega arith)

-- one group has this number
one_number : (test : ResolvedGroup → Bool) (n i : ℕ) (gs : List ResolvedGroup) (g : ResolvedGroup) → slice_get gs i ≡ Some g → list_any (λ x. test x.1 && (x.0 == n + i)) (enumerate_from n gs) ≡ test g
one_number test n i [] g is = absurd (cc)
one_number test n zero (h ∷ gs) g is =
    let same : h ≡ g = cc in
    let here : (n == n + 0) ≡ true = eq-eqb n (n + 0) (omega arith) in
    ap (λ b. (test h && b) || list_any (λ x. test x.1 && (x.0 == n + 0)) (enumerate_from (n + 1) gs)) here
    ∙ ap (λ b. b || list_any (λ x. test x.1 && (x.0 == n + 0)) (enumerate_from (n + 1) gs)) (and-true (test h))
    ∙ ap (λ b. test h || b) (none_later test (n + 0) (n + 1) gs (omega arith))
    ∙ or-false (test h) ∙ ap test same
one_number test n (suc i) (h ∷ gs) g is =
    let other : (n == n + suc i) ≡ false = grind (arith, nat_tests) in
    let index : n + suc i ≡ n + 1 + i = omega arith in
    ap (λ b. (test h && b) || list_any (λ x. test x.1 && (x.0 == n + suc i)) (enumerate_from (n + 1) gs)) other
    ∙ ap (λ b. b || list_any (λ x. test x.1 && (x.0 == n + suc i)) (enumerate_from (n + 1) gs)) (and-false (test h))
    ∙ ap (λ m. list_any (λ x. test x.1 && (x.0 == m)) (enumerate_from (n + 1) gs)) index
    ∙ one_number test (n + 1) i gs g is

-- two subjects share a group just where some group lists both
shared : (a b : ℕ) (gs : List ResolvedGroup) → share (items_at_index a (all_memberships gs)) (items_at_index b (all_memberships gs)) ≡ list_any (λ g. lists a g && lists b g) gs
shared a b gs =
    of_groups (is_among (items_at_index b (all_memberships gs))) a 0 gs
    ∙ any_numbered (λ x. lists a x.1 && is_among (items_at_index b (all_memberships gs)) x.0) (λ g. lists a g && lists b g) 0 gs
    (λ i g is. ap (λ t. lists a g && t) (of_groups (λ j. j == 0 + i) b 0 gs ∙ one_number (lists b) 0 i gs g is))

member_same : (r : Resolution) (k : ℕ) (g : ResolvedGroup) → repeated (subject_names r) ≡ None → k < length r.subjects → group_in_range r g ≡ true
    → list_any (λ n. bytes_eq n (name_at (subject_names r) k)) (map (name_at (subject_names r)) g.subjects) ≡ lists k g
member_same r k g unique within in_range =
    let many : length (subject_names r) ≡ length r.subjects = length-map r.subjects (λ s. s.name) in
    list_any-map (λ n. bytes_eq n (name_at (subject_names r) k)) (name_at (subject_names r)) g.subjects
    ∙ any_same (λ i. bytes_eq (name_at (subject_names r) i) (name_at (subject_names r) k)) (λ i. i == k) (λ i. nat_lt i (length r.subjects))
    (λ i ok. let l = ltb-true i (length r.subjects) ok in same_name (subject_names r) i k unique (omega (arith, many, l)) (omega (arith, many, within))) g.subjects in_range

groups_same : (r : Resolution) (a b : ℕ) → IsResolved r → a < length r.subjects → b < length r.subjects
    → some_group_lists (source_of r) (name_at (subject_names r) a) (name_at (subject_names r) b) ≡ share (items_at_index a (all_memberships r.scheduling.groups)) (items_at_index b (all_memberships r.scheduling.groups))
unfolding source_of
groups_same r a b h la lb =
    let unique = subjects_unique r h.names in
    let in_range = (parts_in_range r h.in_range).groups in
    let na = name_at (subject_names r) a in
    let nb = name_at (subject_names r) b in
    list_any-map (λ g. list_any (λ n. bytes_eq n na) g.subjects && list_any (λ n. bytes_eq n nb) g.subjects) (group_named r) r.scheduling.groups
    ∙ any_same (λ g. list_any (λ n. bytes_eq n na) (map (name_at (subject_names r)) g.subjects) && list_any (λ n. bytes_eq n nb) (map (name_at (subject_names r)) g.subjects)) (λ g. lists a g && lists b g) (group_in_range r)
    (λ g ok. ap (λ t. t && list_any (λ n. bytes_eq n nb) (map (name_at (subject_names r)) g.subjects)) (member_same r a g unique la ok) ∙ ap (λ t. lists a g && t) (member_same r b g unique lb ok)) r.scheduling.groups in_range
    ∙ sym (shared a b r.scheduling.groups)

-- ---- parties

-- the party is a subject of the policy
abbrev is_there : Resolution → Party → Bool
is_there r x = nat_lt x.index (length r.subjects) && bytes_eq x.name (name_at (subject_names r) x.index)

name_is : (r : Resolution) (x : Party) → is_there r x ≡ true → x.name ≡ name_at (subject_names r) x.index
name_is r x ok = (bytes_eq-Decides x.name (name_at (subject_names r) x.index)).0 (and_parts _ _ ok).1

index_is : (r : Resolution) (x : Party) → is_there r x ≡ true → x.index < length r.subjects
index_is r x ok = ltb-true x.index (length r.subjects) (and_parts _ _ ok).0

party_there : (r : Resolution) (i : ℕ) (s : ResolvedSubject) → slice_get r.subjects i ≡ Some s → is_there r (party (0 + i, s)) ≡ true
party_there r i s is =
    let within : i < length r.subjects = slice_get_within r.subjects i s is in
    let name : name_at (subject_names r) i ≡ s.name = get_or-map (λ x. x.name) r.subjects i s [] within ∙ ap (λ x. x.name) (get_or_from_slice_get r.subjects i s s is) in
    let at : is_there r (party (i, s)) ≡ true = and_from _ _ (lt-ltb i (length r.subjects) within) (ap (bytes_eq s.name) name ∙ same_self s.name) in
    let index : 0 + i ≡ i = omega arith in
    ap (λ j. is_there r (party (j, s))) index ∙ at

fits_same : (r : Resolution) (groups : List (List ℕ)) → IsResolved r → AreItems groups (length r.subjects) (all_memberships r.scheduling.groups) → (mode : EventMode) (a b : Party) → is_there r a ≡ true → is_there r b ≡ true
    → rules.fits_mode (source_of r) mode a.name b.name ≡ parties_fit_mode groups mode a b
fits_same r groups h had Asap a b x y = refl
fits_same r groups h had Async a b x y = refl
fits_same r groups h had Own a b x y = refl
fits_same r groups h had Switch a b x y =
    let la = index_is r a x in
    let lb = index_is r b y in
    let one : some_group_lists (source_of r) a.name b.name ≡ share (get_or groups a.index []) (get_or groups b.index []) =
    (λ i. some_group_lists (source_of r) (name_is r a x i) (name_is r b y i)) ∙ groups_same r a.index b.index h la lb ∙ (λ i. share (sym (had.at a.index la) i) (sym (had.at b.index lb) i)) in
    ap (λ t. not (bytes_eq a.name b.name) && t) one

mode_same : (r : Resolution) (groups : List (List ℕ)) → IsResolved r → AreItems groups (length r.subjects) (all_memberships r.scheduling.groups) → (mode : EventMode) (name : List ℕ) (sources targets : List Party)
    → list_all (is_there r) sources ≡ true → list_all (is_there r) targets ≡ true
    → mode_offence (source_of r) mode name (map (λ x. x.name) sources) (map (λ x. x.name) targets) ≡ mode_fault groups mode name sources targets
mode_same r groups h had mode name sources targets a b =
    first_in-map (λ x. x.name) (λ s. unless (list_all (rules.fits_mode (source_of r) mode s) (map (λ x. x.name) targets)) (two name s)) (source_fault groups mode name targets) (is_there r)
    (λ s ok. ap (λ t. unless t (two name s.name)) (
    list_all-map (rules.fits_mode (source_of r) mode s.name) (λ x. x.name) targets
    ∙ list_all_same (λ t. rules.fits_mode (source_of r) mode s.name t.name) (parties_fit_mode groups mode s) (is_there r) (λ t ok2. fits_same r groups h had mode s t ok ok2) targets b)) sources a

sources_there : (r : Resolution) (k : ℕ) → list_all (is_there r) (sources_at r k) ≡ true
sources_there r k =
    at_passes (is_there r) k (flat_map source_parties (enumerate_from 0 r.subjects))
    (each_noted (is_there r) source_parties 0 r.subjects
    (λ i s is. list_all-map (λ x. is_there r x.1) (λ e. (e.event, party (0 + i, s))) s.sources ∙ always (is_there r (party (0 + i, s))) (party_there r i s is) s.sources))

targets_there : (r : Resolution) (k : ℕ) → list_all (is_there r) (targets_at r k) ≡ true
targets_there r k =
    at_passes (is_there r) k (flat_map target_parties (enumerate_from 0 r.subjects))
    (each_noted (is_there r) target_parties 0 r.subjects
    (λ i s is. list_all-map (λ x. is_there r x.1) (λ e. (e.event, party (0 + i, s))) s.targets ∙ always (is_there r (party (0 + i, s))) (party_there r i s is) s.targets))

channel_ends_there : (r : Resolution) → list_all (λ x. is_there r x.1.party) (all_channel_ends r) ≡ true
channel_ends_there r =
    each_noted (λ m. is_there r m.party) (met_channel_ends r) 0 r.subjects
    (λ i s is. list_all-map (λ x. is_there r x.1.party) (λ e. (e.channel, met (party (0 + i, s)) e)) (channel_ends_of r s) ∙ always (is_there r (party (0 + i, s))) (party_there r i s is) (channel_ends_of r s))

-- the parties of a channel's ends that pass a test
parties_there : (r : Resolution) (test : ℕ × Met → Bool) (k : ℕ) → list_all (is_there r) (map (λ m. m.party) (items_at_index k (filter test (all_channel_ends r)))) ≡ true
parties_there r test k =
    list_all-map (is_there r) (λ m. m.party) (items_at_index k (filter test (all_channel_ends r)))
    ∙ at_passes (λ m. is_there r m.party) k (filter test (all_channel_ends r)) (all_kept (λ x. is_there r x.1.party) test (all_channel_ends r) (channel_ends_there r))

-- ---- channels and events

names_same : (r : Resolution) (ms : List Met) → map (λ e. e.0) (map (met_named r) ms) ≡ map (λ x. x.name) (map (λ m. m.party) ms)
names_same r ms = map-map (λ e. e.0) (met_named r) ms ∙ sym (map-map (λ x. x.name) (λ m. m.party) ms)

channel_mode_same : (r : Resolution) (groups : List (List ℕ)) → IsResolved r → AreItems groups (length r.subjects) (all_memberships r.scheduling.groups) → (k : ℕ) (c : Channel) → k < length r.channels → c.name ≡ name_at (channel_names r) k → (mode : Option EventMode)
    → channel_mode_offence (source_of r) c mode ≡ channel_mode groups c mode (map (λ m. m.party) (items_at_index k (all_writers r))) (map (λ m. m.party) (items_at_index k (all_readers r)))
channel_mode_same r groups h had k c within name None = refl
channel_mode_same r groups h had k c within name (Some mode) =
    let w : map (λ e. e.0) (writers_of (source_of r) c.name) ≡ map (λ x. x.name) (map (λ m. m.party) (items_at_index k (all_writers r))) =
    ap (λ n. map (λ e. e.0) (writers_of (source_of r) n)) name ∙ ap (map (λ e. e.0)) (writers_same r k h within) ∙ names_same r (items_at_index k (all_writers r)) in
    let d : map (λ e. e.0) (readers_of (source_of r) c.name) ≡ map (λ x. x.name) (map (λ m. m.party) (items_at_index k (all_readers r))) =
    ap (λ n. map (λ e. e.0) (readers_of (source_of r) n)) name ∙ ap (map (λ e. e.0)) (readers_same r k h within) ∙ names_same r (items_at_index k (all_readers r)) in
    (λ i. mode_offence (source_of r) mode c.name (w i) (d i))
    ∙ mode_same r groups h had mode c.name (map (λ m. m.party) (items_at_index k (all_writers r))) (map (λ m. m.party) (items_at_index k (all_readers r)))
    (parties_there r (λ x. is_writer x.1.end.role) k) (parties_there r (λ x. not (is_writer x.1.end.role)) k)

channels_same : (r : Resolution) (groups : List (List ℕ)) → IsResolved r → AreItems groups (length r.subjects) (all_memberships r.scheduling.groups)
    → first_in (λ c. channel_mode_offence (source_of r) c c.has_event) r.channels ≡ channels_fault r groups
channels_same r groups h had =
    first_numbered_same (λ c. channel_mode_offence (source_of r) c c.has_event)
    (λ x. channel_mode groups x.1 x.1.has_event (map (λ m. m.party) (items_at_index x.0 (all_writers r))) (map (λ m. m.party) (items_at_index x.0 (all_readers r)))) 0 r.channels
    (λ k c is. let index : k ≡ 0 + k = omega arith in
    channel_mode_same r groups h had k c (slice_get_within r.channels k c is) (name_of_channel r k c is) c.has_event
    ∙ ap (λ j. channel_mode groups c c.has_event (map (λ m. m.party) (items_at_index j (all_writers r))) (map (λ m. m.party) (items_at_index j (all_readers r)))) index)

event_mode_same : (r : Resolution) (groups : List (List ℕ)) → IsResolved r → AreItems groups (length r.subjects) (all_memberships r.scheduling.groups) → (k : ℕ) (e : Event) → slice_get r.events k ≡ Some e
    → mode_offence (source_of r) e.mode e.name (sources_of (source_of r) e.name) (targets_of (source_of r) e.name) ≡ mode_fault groups e.mode e.name (sources_at r k) (targets_at r k)
event_mode_same r groups h had k e is =
    let within : k < length r.events = slice_get_within r.events k e is in
    let name = name_of_event r k e is in
    let s : sources_of (source_of r) e.name ≡ map (λ x. x.name) (sources_at r k) = ap (sources_of (source_of r)) name ∙ sources_same r k h within in
    let t : targets_of (source_of r) e.name ≡ map (λ x. x.name) (targets_at r k) = ap (targets_of (source_of r)) name ∙ targets_same r k h within in
    (λ i. mode_offence (source_of r) e.mode e.name (s i) (t i))
    ∙ mode_same r groups h had e.mode e.name (sources_at r k) (targets_at r k) (sources_there r k) (targets_there r k)

events_same : (r : Resolution) (groups : List (List ℕ)) → IsResolved r → AreItems groups (length r.subjects) (all_memberships r.scheduling.groups)
    → first_in (λ e. mode_offence (source_of r) e.mode e.name (sources_of (source_of r) e.name) (targets_of (source_of r) e.name)) r.events ≡ events_fault r groups
events_same r groups h had =
    first_numbered_same (λ e. mode_offence (source_of r) e.mode e.name (sources_of (source_of r) e.name) (targets_of (source_of r) e.name))
    (λ x. mode_fault groups x.1.mode x.1.name (sources_at r x.0) (targets_at r x.0)) 0 r.events
    (λ k e is. let index : k ≡ 0 + k = omega arith in
    event_mode_same r groups h had k e is ∙ ap (λ j. mode_fault groups e.mode e.name (sources_at r j) (targets_at r j)) index)

pub modes_by_index : (r : Resolution) (groups : List (List ℕ)) → IsResolved r → AreItems groups (length r.subjects) (all_memberships r.scheduling.groups)
    → option_or (channels_fault r groups) (events_fault r groups) ≡ offence_13 (source_of r)
unfolding offence_13 source_of
modes_by_index r groups h had = sym (λ i. option_or (channels_same r groups h had i) (events_same r groups h had i))

-- ---- what is noted

pub channels_noted : (r : Resolution) (groups : List (List ℕ)) (writers readers : List (List Met)) → AreItems writers (length r.channels) (all_writers r) → AreItems readers (length r.channels) (all_readers r)
    → first_in (channel_mode_fault groups (parties_of writers) (parties_of readers)) (enumerate_from 0 r.channels) ≡ channels_fault r groups
channels_noted r groups writers readers a b =
    let of_list : (lists : List (List Met)) (all : List (ℕ × Met)) → AreItems lists (length r.channels) all → (k : ℕ) → k < length r.channels → get_or (parties_of lists) (0 + k) [] ≡ map (λ m. m.party) (items_at_index (0 + k) all) =
    λ lists all had k l.
    let index : 0 + k ≡ k = omega arith in
    let l' : 0 + k < length lists = omega (arith, had.room, l) in
    get_or-map (map (λ m. m.party)) lists (0 + k) [] [] l' ∙ ap (map (λ m. m.party)) (had.at (0 + k) (omega (arith, l))) in
    both_numbered (channel_mode_fault groups (parties_of writers) (parties_of readers))
    (λ x. channel_mode groups x.1 x.1.has_event (map (λ m. m.party) (items_at_index x.0 (all_writers r))) (map (λ m. m.party) (items_at_index x.0 (all_readers r)))) 0 r.channels
    (λ k c l. (λ i. channel_mode groups c c.has_event (of_list writers (all_writers r) a k l i) (of_list readers (all_readers r) b k l i)))

pub events_noted : (r : Resolution) (groups : List (List ℕ)) (sources targets : List (List Party))
    → AreItems sources (length r.events) (flat_map source_parties (enumerate_from 0 r.subjects)) → AreItems targets (length r.events) (flat_map target_parties (enumerate_from 0 r.subjects))
    → first_in (event_direction_fault groups sources targets) (enumerate_from 0 r.events) ≡ events_fault r groups
events_noted r groups sources targets a b =
    both_numbered (event_direction_fault groups sources targets) (λ x. mode_fault groups x.1.mode x.1.name (sources_at r x.0) (targets_at r x.0)) 0 r.events
    (λ k e l. (λ i. mode_fault groups e.mode e.name (a.at (0 + k) (omega (arith, l)) i) (b.at (0 + k) (omega (arith, l)) i)))
