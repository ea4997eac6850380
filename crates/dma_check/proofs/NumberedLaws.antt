-- What is declared, by the numbers of things.
use Rattle.std.proofs.Common.{◌≡◌, ℕ, zero, suc, ◌+◌, ◌-◌, ◌<◌, ◌≤◌, ◌^◌, ◌==◌, Bool, true, false, not, cond, List, [], ◌∷◌, length, map, ◌++◌, filter, zip, All, Option, Some, None, refl, sym, ap, subst, ◌∙◌, inl, inr, arith, append_assoc}
use Rattle.std.specs.Prelude.{nat_le, nat_lt, if◌then◌else◌, option_and_then, option_map, option_to_list, slice_get, slice_index_or, position}
use Rattle.std.specs.List.{cons_option, filter_map, find, flat_map, position_or_len}
use Rattle.std.specs.Option.{option_map_or}
use Rattle.std.specs.Str.{bytes_eq}
use Rattle.std.proofs.lemmas.Bool.{cases_Bool, cases_lt, le-ltb, lt-ltb}
use Rattle.std.proofs.lemmas.List.{map-append}
use Rattle.std.proofs.lemmas.List.Elements.{All-cons, All-nil, filter_map-append}
use Rattle.std.proofs.lemmas.Option.{same_Some, slice_get_past}
use Rattle.std.proofs.lemmas.List.Folds.{find_at}
use Rattle.muen_num.proofs.Lists.{some_below}
use Rattle.muen_num.proofs.Lookups.{found_passes}
use Rattle.std.proofs.lemmas.Slice.Eq.{bytes_eq-Decides}
use Rattle.std.proofs.lemmas.Slice.Zip.{AllZip-long}
use Rattle.dma_check.specs.Numbered.{address_of_number, domain_by, numbered_window, thing_addresses, unless_kernel, windows_by, window_at_number}
use Rattle.dma_check.specs.Held.{AreFor, IsLow, has_address, told, told_by}
use Rattle.dma_check.specs.Sources.{comes_to, declared, device_of, source_windows}
use Rattle.dma_check.specs.declared.held.DmaWindow.{DmaWindow}
use Rattle.image_memory.specs.Memory.{Span, address_at, by_number, span_at}
use Rattle.image_pack.proofs.PartsKeep.{parts_keep}
use Rattle.image_pack.specs.ImageConditions.{IsContent}
use Rattle.image_pack.specs.Parts.{IsParts}
use Rattle.image_pack.specs.SpanConditions.{IsSpan}
use Rattle.image_pack.specs.declared.parts.Image.{Image}
use Rattle.image_pack.specs.declared.parts.SpanPart.{SpanPart}
use Rattle.image_soundness.specs.Sound.{address_of, is_kernel, led, thing_spans}
use Rattle.muen_num.specs.Range.{numbers_below}
use Rattle.muen_num.specs.declared.access.AccessKind.TheVariants.{Read, Write}
use Rattle.policy_lawful.specs.Dma.{domain_of, domain_windows, dma_windows}
use Rattle.policy_lawful.specs.Rights.{allows}
use Rattle.policy_lawful.specs.Thing.{Item, Thing, component_by, provided_items, region, region_item, channel_item, device_items, items_of, placed_items, same_thing, state, things_of}
use Rattle.policy_lawful.specs.Windows.{Window, access_by, access_of, byte, violation, holds, region_window, window}
use Rattle.policy_lawful.specs.source.Device.{Device}
use Rattle.policy_lawful.specs.source.Domain.{Domain}
use Rattle.policy_lawful.specs.source.Mapping.{Mapping}
use Rattle.policy_lawful.specs.source.Region.{Region}
use Rattle.policy_lawful.specs.source.Source.{Source}
use Rattle.policy_lawful.specs.source.Subject.{Subject}

-- ---- a loop over the numbers

cons_list : {X : Type 0} (o : Option X) → cons_option o [] ≡ option_to_list o
cons_list None = refl
cons_list (Some x) = refl

pub one_more : (f : ℕ → Option ℕ) (n : ℕ) (before after : List ℕ) (o : Option ℕ) → before ≡ filter_map f (numbers_below n) → after ≡ before ++ option_to_list o → o ≡ f n → after ≡ filter_map f (numbers_below (n + 1))
one_more f n before after o was now is =
    let up : n + 1 ≡ suc n = omega arith in
    rw up (now
    ∙ ap (λ ks. ks ++ option_to_list o) was
    ∙ ap (λ x. filter_map f (numbers_below n) ++ option_to_list x) is
    ∙ ap (λ ks. filter_map f (numbers_below n) ++ ks) (sym (cons_list (f n)))
    ∙ sym (filter_map-append f (numbers_below n) (n ∷ [])))

-- ---- the addresses of the spans

abbrev keeps : Span → Bool
keeps e = not (is_kernel e.0.kind)

abbrev kept_address : Option Span → Option ℕ
kept_address o = option_and_then (λ (e : Span). unless_kernel e.0) o

found_both : (t : SpanPart → Bool) (xs : List SpanPart) (ys : List (List ℕ)) → length ys ≡ length xs → kept_address (find (λ (e : Span). t e.0) (zip xs ys)) ≡ option_and_then unless_kernel (find t xs)
found_both t [] ys h = refl
found_both t (x ∷ xs) [] h = absurd (omega (arith, h))
found_both t (x ∷ xs) (y ∷ ys) h = elim (cases_Bool (t x)) [
  | inl e ↦ rw e refl
  | inr e ↦ rw e (found_both t xs ys (omega (arith, h)))
]

kept_cons : (o : Option Span) (es : List Span) → map (λ (e : Span). e.0.address) (filter keeps (cons_option o es)) ≡ cons_option (kept_address o) (map (λ (e : Span). e.0.address) (filter keeps es))
kept_cons None es = refl
kept_cons (Some e) es = elim (cases_Bool (is_kernel e.0.kind)) [ inl h ↦ rw h refl | inr h ↦ rw h refl ]

numbers_kept : (i : Image) → length i.contents ≡ length i.spans → (ns : List ℕ) → map (λ (e : Span). e.0.address) (filter keeps (filter_map (span_at i) ns)) ≡ filter_map (address_of_number i.spans) ns
numbers_kept i h [] = refl
numbers_kept i h (n ∷ ns) =
    kept_cons (span_at i n) (filter_map (span_at i) ns)
    ∙ ap (λ o. cons_option o (map (λ (e : Span). e.0.address) (filter keeps (filter_map (span_at i) ns)))) (found_both (λ s. s.number == n) i.spans i.contents h)
    ∙ ap (cons_option (address_of_number i.spans n)) (numbers_kept i h ns)

pub addresses_are : (i : Image) → IsParts i → map (λ (e : Span). e.0.address) (thing_spans i) ≡ thing_addresses i.spans
unfolding by_number thing_addresses
addresses_are i h = numbers_kept i (AllZip-long IsContent i.spans i.contents (parts_keep i h).contents) (numbers_below (length i.spans))

-- ---- where regions lie

abbrev at_thing : Thing → Thing × ℕ → Bool
at_thing x e = same_thing e.0 x

-- no state page is a region
no_page : (name : List ℕ) (ss : List Subject) (qs : List ℕ) → find (at_thing (region name)) (zip (map (λ (s : Subject). state s.name) ss) qs) ≡ None
no_page name [] qs = refl
no_page name (s ∷ ss) [] = refl
no_page name (s ∷ ss) (q ∷ qs) = no_page name ss qs

region_beside : (name : List ℕ) (rs : List Region) (rest : List Thing) (ps : List ℕ) (ss : List Subject) (qs : List ℕ) (r : Region) → find (λ (r : Region). bytes_eq r.name name) rs ≡ Some r
    → option_map_or (λ (e : Thing × ℕ). e.1) (find (at_thing (region name)) (zip (map (λ (r : Region). region r.name) rs ++ rest) ps ++ zip (map (λ (s : Subject). state s.name) ss) qs)) 0
    ≡ slice_index_or ps (position_or_len (λ (r : Region). bytes_eq r.name name) rs) 0
region_beside name [] rest ps ss qs r h = absurd (cc)
region_beside name (x ∷ rs) rest [] ss qs r h = let none = no_page name ss qs in rw none refl
region_beside name (x ∷ rs) rest (p ∷ ps) ss qs r h = elim (bytes_eq x.name name) as (λ b. cond b (Some x) (find (λ (r : Region). bytes_eq r.name name) rs) ≡ Some r
    → option_map_or (λ (e : Thing × ℕ). e.1) (cond b (Some (region x.name, p)) (find (at_thing (region name)) (zip (map (λ (r : Region). region r.name) rs ++ rest) ps ++ zip (map (λ (s : Subject). state s.name) ss) qs))) 0
    ≡ slice_index_or (p ∷ ps) (cond (not b) (1 + position_or_len (λ (r : Region). bytes_eq r.name name) rs) 0) 0) [
      | true ↦ λ e. refl
      | false ↦ λ e.
          let next : suc (position_or_len (λ (r : Region). bytes_eq r.name name) rs) ≡ 1 + position_or_len (λ (r : Region). bytes_eq r.name name) rs = omega arith in
          region_beside name rs rest ps ss qs r e ∙ ap (λ n. slice_index_or (p ∷ ps) n 0) next
    ] h

regions_of : (rs : List Region) → map (λ (i : Item). i.thing) (map region_item rs) ≡ map (λ (r : Region). region r.name) rs
regions_of [] = refl
regions_of (r ∷ rs) = ap (λ xs. region r.name ∷ xs) (regions_of rs)

regions_in : (rs : List Region) (others : List Item) → map (λ (i : Item). i.thing) (map region_item rs ++ others) ≡ map (λ (r : Region). region r.name) rs ++ map (λ (i : Item). i.thing) others
regions_in rs others = map-append (λ (i : Item). i.thing) (map region_item rs) others ∙ ap (λ xs. xs ++ map (λ (i : Item). i.thing) others) (regions_of rs)

joined : (rs bs cs ds : List Item) → ((rs ++ bs) ++ cs) ++ ds ≡ rs ++ ((bs ++ cs) ++ ds)
joined rs bs cs ds = ap (λ xs. xs ++ ds) (append_assoc rs bs cs) ∙ append_assoc rs (bs ++ cs) ds

-- what follows the regions
abbrev others_of : Source → List Item
others_of p = map channel_item p.channels ++ flat_map (λ (s : Subject). provided_items s.name (component_by p s.component)) p.subjects ++ device_items p

regions_first : (p : Source) → (rest : List Thing) × (things_of p ≡ map (λ (r : Region). region r.name) p.memory ++ rest)
unfolding things_of items_of placed_items
regions_first p =
    let channels : List Item = map channel_item p.channels in
    let provided : List Item = flat_map (λ (s : Subject). provided_items s.name (component_by p s.component)) p.subjects in
    (map (λ (i : Item). i.thing) (others_of p), ap (map (λ (i : Item). i.thing)) (joined (map region_item p.memory) channels provided (device_items p)) ∙ regions_in p.memory (others_of p))

-- ---- the index of what is found

pub some_by_position : {X Y : Type 0} (test : X → Bool) (xs : List X) (x : X) → find test xs ≡ Some x → (f : ℕ → Option Y) → option_and_then f (position test xs) ≡ f (position_or_len test xs)
some_by_position test xs x h f = elim (cases_lt (position_or_len test xs) (length xs)) [
  | inl l ↦ let low = lt-ltb (position_or_len test xs) (length xs) l in rw low refl
  | inr l ↦ absurd (let bad = sym (sym (find_at test xs) ∙ h) ∙ slice_get_past xs (position_or_len test xs) l in cc)
]

pub none_by_position : {X Y : Type 0} (test : X → Bool) (xs : List X) → find test xs ≡ None → (f : ℕ → Option Y) → option_and_then f (position test xs) ≡ None
none_by_position test xs h f = elim (cases_lt (position_or_len test xs) (length xs)) [
  | inl l ↦ absurd (some_below xs (position_or_len test xs) l (sym (find_at test xs) ∙ h))
  | inr l ↦ let high = le-ltb (position_or_len test xs) (length xs) l in rw high refl
]

-- ---- a window on a region

module _ (p : Source) (i : Image) (parts : IsParts i) where
  abbrev places : List ℕ
  places = thing_addresses i.spans

  address_is : (name : List ℕ) (r : Region) → find (λ (r : Region). bytes_eq r.name name) p.memory ≡ Some r → address_of p i (region name) ≡ slice_index_or places (position_or_len (λ (r : Region). bytes_eq r.name name) p.memory) 0
  unfolding address_of
  address_is name r h =
      let first = regions_first p in
      ap (λ xs. option_map_or (λ (e : Thing × ℕ). e.1) (find (at_thing (region name)) (zip xs (map (λ (e : Span). e.0.address) (thing_spans i)) ++ zip (map (λ (s : Subject). state s.name) p.subjects) (map (λ q. address_at i q.state) i.subjects))) 0) first.1
      ∙ ap (λ ps. option_map_or (λ (e : Thing × ℕ). e.1) (find (at_thing (region name)) (zip (map (λ (r : Region). region r.name) p.memory ++ first.0) ps ++ zip (map (λ (s : Subject). state s.name) p.subjects) (map (λ q. address_at i q.state) i.subjects))) 0) (addresses_are i parts)
      ∙ region_beside name p.memory first.0 places p.subjects (map (λ q. address_at i q.state) i.subjects) r h

  -- a window where the image has what it shows
  abbrev shown : Window Thing → DmaWindow
  shown w = record { guest = w.guest; size = w.size; address = address_of p i w.thing; rights = w.rights }

  window_by : (m : Mapping) (o : Option Region) → find (λ (r : Region). bytes_eq r.name m.region) p.memory ≡ o → numbered_window p.memory places m ≡ option_map shown (option_map (λ (r : Region). window m.virtual_address r.size m.rights (region r.name)) o)
  window_by m None h =
      none_by_position (λ (r : Region). bytes_eq r.name m.region) p.memory h (window_at_number p.memory places m)
  window_by m (Some r) h =
      let test : Region → Bool = λ r. bytes_eq r.name m.region in
      let name : r.name ≡ m.region = (bytes_eq-Decides r.name m.region).0 (found_passes test p.memory r h) in
      let lies : slice_index_or places (position_or_len test p.memory) 0 ≡ address_of p i (region r.name) = sym (address_is m.region r h) ∙ ap (λ n. address_of p i (region n)) (sym name) in
      some_by_position test p.memory r h (window_at_number p.memory places m)
      ∙ ap (option_map (λ (x : Region). record { guest = m.virtual_address; size = x.size; address = slice_index_or places (position_or_len test p.memory) 0; rights = m.rights })) (sym (find_at test p.memory) ∙ h)
      ∙ ap (λ a. Some (record { guest = m.virtual_address; size = r.size; address = a; rights = m.rights })) lies

  cons_shown : (o : Option (Window Thing)) (ws : List (Window Thing)) → cons_option (option_map shown o) (map shown ws) ≡ map shown (cons_option o ws)
  cons_shown None ws = refl
  cons_shown (Some w) ws = refl

  windows_shown : (ms : List Mapping) → filter_map (numbered_window p.memory places) ms ≡ map shown (filter_map (λ (m : Mapping). region_window p m.region m.virtual_address m.rights) ms)
  windows_shown [] = refl
  windows_shown (m ∷ ms) =
      ap (λ o. cons_option o (filter_map (numbered_window p.memory places) ms)) (window_by m (find (λ (r : Region). bytes_eq r.name m.region) p.memory) refl)
      ∙ ap (cons_option (option_map shown (region_window p m.region m.virtual_address m.rights))) (windows_shown ms)
      ∙ cons_shown (region_window p m.region m.virtual_address m.rights) (filter_map (λ (m : Mapping). region_window p m.region m.virtual_address m.rights) ms)

  -- ---- where it leads

  led_by : (b : Bool) (w : Window Thing) (addr : ℕ) → cond b (Some (address_of p i w.thing + (addr - w.guest))) None ≡ comes_to (led (address_of p i) (cond b (byte w.thing (addr - w.guest)) (violation (Some w.rights))))
  led_by true w addr = refl
  led_by false w addr = refl

  told_shown : (ws : List (Window Thing)) (addr : ℕ) (write : Bool) → told (map shown ws) addr write ≡ comes_to (led (address_of p i) (access_of ws addr (if write then Write else Read)))
  told_shown [] addr write = refl
  told_shown (w ∷ ws) addr write = elim (cases_Bool (holds w addr)) [
    | inl y ↦ rw y (led_by (allows w.rights (if write then Write else Read)) w addr)
    | inr n ↦ rw n (told_shown ws addr write)
  ]

  declared_by : (source addr : ℕ) (write : Bool) (o : Option Device) → device_of p source ≡ o → (d : Option Domain) → option_and_then (λ (x : Device). domain_of p x.name) o ≡ d
      → declared p i source addr write ≡ told (option_map_or (λ (d : Domain). filter_map (numbered_window p.memory places) d.memory) d []) addr write
  unfolding declared
  declared_by source addr write o is d has =
      ap (λ x. comes_to (led (address_of p i) (access_of (option_map_or (λ (d : Device). dma_windows p d.name) x []) addr (if write then Write else Read)))) is
      ∙ ap (λ ws. comes_to (led (address_of p i) (access_of ws addr (if write then Write else Read)))) (by_domain o d has)
      ∙ of_domain d
    where
      by_domain : (o : Option Device) (d : Option Domain) → option_and_then (λ (x : Device). domain_of p x.name) o ≡ d → option_map_or (λ (d : Device). dma_windows p d.name) o [] ≡ option_map_or (domain_windows p) d []
      by_domain None d e = ap (λ x. option_map_or (domain_windows p) x []) e
      by_domain (Some x) d e = ap (λ x. option_map_or (domain_windows p) x []) e

      of_domain : (d : Option Domain) → comes_to (led (address_of p i) (access_of (option_map_or (domain_windows p) d []) addr (if write then Write else Read))) ≡ told (option_map_or (λ (d : Domain). filter_map (numbered_window p.memory places) d.memory) d []) addr write
      of_domain None = refl
      of_domain (Some d) = sym (ap (λ ws. told ws addr write) (windows_shown d.memory) ∙ told_shown (domain_windows p d) addr write)

  -- **the windows by number are what is declared**
  pub are_declared : (source : ℕ) → AreFor (declared p i) source (windows_by p places source)
  are_declared source = λ addr write. declared_by source addr write (device_of p source) refl (domain_by p source) refl

-- ---- no address is too large

one_all : {B : Type 0} (P : B → Type 0) (o : Option B) → ((y : B) → o ≡ Some y → P y) → (ys : List B) → All P ys → All P (cons_option o ys)
one_all P None h ys all = all
one_all P (Some y) h ys all = All-cons P y ys (h y refl) all

filter_all : {A B : Type 0} (P : B → Type 0) (f : A → Option B) → ((x : A) (y : B) → f x ≡ Some y → P y) → (xs : List A) → All P (filter_map f xs)
filter_all P f h [] = All-nil P
filter_all P f h (x ∷ xs) = one_all P (f x) (h x) (filter_map f xs) (filter_all P f h xs)

-- one that is found is as all are
found_all : {X : Type 0} (P : X → Type 0) (test : X → Bool) (xs : List X) (x : X) → All P xs → find test xs ≡ Some x → P x
found_all P test [] x all h = absurd (cc)
found_all P test (y ∷ ys) x all h = elim (test y) as (λ b. cond b (Some y) (find test ys) ≡ Some x → P x) [
  | true ↦ λ e. subst P (same_Some y x e) (all 0 y (omega arith))
  | false ↦ λ e. found_all P test ys x (λ k d l. all (suc k) d (omega (arith, l))) e
] h

abbrev AreLow : List ℕ → Type 0
AreLow = All (λ a. a < 2 ^ 63)

span_low : (s : SpanPart) (a : ℕ) → IsSpan s → unless_kernel s ≡ Some a → a < 2 ^ 63
span_low s a is h = elim (is_kernel s.kind) as (λ b. cond b None (Some s.address) ≡ Some a → a < 2 ^ 63) [
  | true ↦ λ e. absurd (cc)
  | false ↦ λ e. let same : s.address ≡ a = same_Some s.address a e in let low = is.low in omega (arith, same, low)
] h

number_low : (spans : List SpanPart) (n a : ℕ) → All IsSpan spans → address_of_number spans n ≡ Some a → a < 2 ^ 63
number_low spans n a all h = elim (find (λ s. s.number == n) spans) as (λ o. find (λ s. s.number == n) spans ≡ o → option_and_then unless_kernel o ≡ Some a → a < 2 ^ 63) [
  | None ↦ λ is e. absurd (cc)
  | Some s ↦ λ is e. span_low s a (found_all IsSpan (λ s. s.number == n) spans s all is) e
] refl h

pub places_low : (spans : List SpanPart) → All IsSpan spans → AreLow (thing_addresses spans)
unfolding thing_addresses
places_low spans all = filter_all (λ a. a < 2 ^ 63) (address_of_number spans) (λ n a e. number_low spans n a all e) (numbers_below (length spans))

low_at : (xs : List ℕ) (k : ℕ) → AreLow xs → slice_index_or xs k 0 < 2 ^ 63
low_at [] k h = omega arith
low_at (a ∷ xs) zero h = h 0 0 (omega arith)
low_at (a ∷ xs) (suc k) h = low_at xs k (λ j d l. h (suc j) d (omega (arith, l)))

window_low : (regions : List Region) (addresses : List ℕ) (m : Mapping) (w : DmaWindow) (k : ℕ) → AreLow addresses → window_at_number regions addresses m k ≡ Some w → IsLow w
window_low regions addresses m w k low h = elim (slice_get regions k) as (λ o. option_map (λ (r : Region). record { guest = m.virtual_address; size = r.size; address = slice_index_or addresses k 0; rights = m.rights }) o ≡ Some w → IsLow w) [
  | None ↦ λ e. absurd (cc)
  | Some r ↦ λ e. subst IsLow (same_Some _ _ e) (low_at addresses k low)
] h

number_window_low : (regions : List Region) (addresses : List ℕ) (m : Mapping) (w : DmaWindow) → AreLow addresses → numbered_window regions addresses m ≡ Some w → IsLow w
number_window_low regions addresses m w low h = elim (position (λ (r : Region). bytes_eq r.name m.region) regions) as (λ o. option_and_then (window_at_number regions addresses m) o ≡ Some w → IsLow w) [
  | None ↦ λ e. absurd (cc)
  | Some k ↦ λ e. window_low regions addresses m w k low e
] h

domain_low : (p : Source) (addresses : List ℕ) (d : Option Domain) → AreLow addresses → All IsLow (option_map_or (λ (d : Domain). filter_map (numbered_window p.memory addresses) d.memory) d [])
domain_low p addresses None low = All-nil IsLow
domain_low p addresses (Some d) low = filter_all IsLow (numbered_window p.memory addresses) (λ m w e. number_window_low p.memory addresses m w low e) d.memory

pub windows_low : (p : Source) (addresses : List ℕ) (source : ℕ) → AreLow addresses → All IsLow (windows_by p addresses source)
windows_low p addresses source low = domain_low p addresses (domain_by p source) low
