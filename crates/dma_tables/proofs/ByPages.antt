-- Walks and spans go by pages: where an address leads follows from its page.
use Rattle.std.proofs.Common.{◌≡◌, ◌∙◌, refl, ap, arith, ℕ, zero, suc, ◌+◌, ◌*◌, ◌/◌, ◌%◌, ◌<◌, ◌≤◌, ◌&&◌, Bool, true, false, nat_le, nat_lt, lt-ltb, le-leb, inl, inr, List, [], ◌∷◌, Option, Some, None, if◌then◌else◌}
use Rattle.std.specs.Prelude.{option_and_then, option_map}
use Rattle.std.specs.List.{All, find, slice_get}
use Rattle.std.specs.Str.{bytes_eq}
use Rattle.std.proofs.lemmas.Bool.{cases_lt, le-ltb, lt-leb}
use Rattle.std.proofs.lemmas.List.Elements.{All-head, All-tail}
use Rattle.muen_num.specs.declared.limits.TheConstants.{GUEST_END, PAGE, PHYSICAL_END}
use Rattle.machine_layout.specs.Walks.{index_at}
use Rattle.image_pack.specs.Parts.{IsParts}
use Rattle.image_pack.specs.SpanConditions.{end_of}
use Rattle.image_pack.specs.declared.parts.DevicePart.{DevicePart}
use Rattle.image_pack.specs.declared.parts.Image.{Image}
use Rattle.image_pack.specs.declared.parts.SpanPart.{SpanPart}
use Rattle.image_pack.proofs.PartsKeep.{parts_keep}
use Rattle.dma_tables.specs.DmaWalk.{device_page, device_walk, dma_walk, is_paging, next_page, page_in, paged, root_page, word_of}
use Rattle.dma_tables.specs.Lowered.{goes, in_spans, is_in_spans, landing}
use Rattle.dma_tables.specs.declared.file.DmaDevice.{DmaDevice}
use Rattle.dma_tables.specs.declared.file.DmaFile.{DmaFile}

-- ---- orders that agree

pub same_lt : (a b c : ℕ) → (a < c → b < c) → (b < c → a < c) → nat_lt a c ≡ nat_lt b c
same_lt a b c to from =
    elim (cases_lt a c) [
      | inl lt ↦ rw (lt-ltb a c lt, lt-ltb b c (to lt)) refl
      | inr le ↦ elim (cases_lt b c) [
        | inl lt ↦ absurd (let h : a < c = from lt in omega (arith, h, le))
        | inr more ↦ rw (le-ltb a c le, le-ltb b c more) refl
      ]
    ]

pub same_le : (a b c : ℕ) → (c ≤ a → c ≤ b) → (c ≤ b → c ≤ a) → nat_le c a ≡ nat_le c b
same_le a b c to from =
    elim (cases_lt a c) [
      | inl lt ↦ elim (cases_lt b c) [
        | inl less ↦ rw (lt-leb c a lt, lt-leb c b less) refl
        | inr le ↦ absurd (let h : c ≤ a = from le in omega (arith, h, lt))
      ]
      | inr le ↦ rw (le-leb c a le, le-leb c b (to le)) refl
    ]

pub both_same : (a b c d : Bool) → a ≡ b → c ≡ d → (a && c) ≡ (b && d)
both_same a b c d e f = rw (e, f) refl

pub then_same : {A B : Type 0} (f g : A → Option B) → ((x : A) → f x ≡ g x) → (o p : Option A) → o ≡ p → option_and_then f o ≡ option_and_then g p
then_same f g h None p e = rw (← e) refl
then_same f g h (Some x) p e = rw (← e) (h x)

-- ---- an address leads where its page does

abbrev pub along : ℕ → Option ℕ → Option ℕ
along addr o = option_map (λ page. PAGE * page + addr % PAGE) o

pub record IsByPage (go : ℕ → Option ℕ) : Type 0 where
  pub page : ℕ → Option ℕ
  pub is : (addr : ℕ) → go addr ≡ along addr (page (addr / PAGE))

-- ---- the walk

index_same : (level addr : ℕ) → level < 4 → index_at level addr ≡ index_at level (PAGE * (addr / PAGE))
index_same zero addr low = omega arith
index_same (suc zero) addr low = omega arith
index_same (suc (suc zero)) addr low = omega arith
index_same (suc (suc (suc zero))) addr low = omega arith
index_same (suc (suc (suc (suc level)))) addr low = absurd (omega (arith, low))

next_same : (word : ℕ → ℕ → Option ℕ) (addr : ℕ) (write : Bool) (level table : ℕ) → level < 4 → next_page word addr write level table ≡ next_page word (PAGE * (addr / PAGE)) write level table
next_same word addr write level table low = ap (λ i. option_and_then (λ entry. if is_paging write entry then Some (page_in entry) else None) (word table i)) (index_same level addr low)

paged_same : (word : ℕ → ℕ → Option ℕ) (addr : ℕ) (write : Bool) (table : ℕ) → paged word addr write table ≡ paged word (PAGE * (addr / PAGE)) write table
paged_same word addr write table =
    then_same _ _ (λ t. next_same word addr write 0 t (omega arith)) _ _ (
    then_same _ _ (λ t. next_same word addr write 1 t (omega arith)) _ _ (
    then_same _ _ (λ t. next_same word addr write 2 t (omega arith)) _ _ (
    next_same word addr write 3 table (omega arith))))

page_same : (word : ℕ → ℕ → Option ℕ) (root : ℕ) (d : DmaDevice) (addr : ℕ) (write : Bool) → device_page word root d addr write ≡ device_page word root d (PAGE * (addr / PAGE)) write
page_same word root d addr write = then_same _ _ (λ t. paged_same word addr write t) _ _ refl

abbrev walk_page : DmaFile → DmaDevice → Bool → ℕ → Option ℕ
walk_page t d write k = if nat_lt (PAGE * k) GUEST_END then device_page (word_of t) (root_page t) d (PAGE * k) write else None

guest_same : (addr : ℕ) → nat_lt addr GUEST_END ≡ nat_lt (PAGE * (addr / PAGE)) GUEST_END
guest_same addr = same_lt addr (PAGE * (addr / PAGE)) GUEST_END (λ h. omega (arith, h)) (λ h. omega (arith, h))

if_along : (b : Bool) (addr : ℕ) (o p : Option ℕ) → o ≡ p → (if b then along addr o else None) ≡ along addr (if b then p else None)
if_along true addr o p e = rw e refl
if_along false addr o p e = refl

device_along : (t : DmaFile) (d : DmaDevice) (addr : ℕ) (write : Bool) → device_walk t d addr write ≡ along addr (walk_page t d write (addr / PAGE))
unfolding device_walk
device_along t d addr write =
    ap (λ b. if b then along addr (device_page (word_of t) (root_page t) d addr write) else None) (guest_same addr)
    ∙ if_along (nat_lt (PAGE * (addr / PAGE)) GUEST_END) addr _ _ (page_same (word_of t) (root_page t) d addr write)

then_along : {A : Type 0} (f : A → ℕ → Option ℕ) (p : A → ℕ → Option ℕ) → ((x : A) (addr : ℕ) → f x addr ≡ along addr (p x (addr / PAGE)))
    → (o : Option A) (addr : ℕ) → option_and_then (λ x. f x addr) o ≡ along addr (option_and_then (λ x. p x (addr / PAGE)) o)
then_along f p h None addr = refl
then_along f p h (Some x) addr = h x addr

abbrev pub named_page : DmaFile → List ℕ → Bool → ℕ → Option ℕ
named_page t device write k = option_and_then (λ d. walk_page t d write k) (find (λ d. bytes_eq d.name device) t.devices)

walk_along : (t : DmaFile) (device : List ℕ) (addr : ℕ) (write : Bool) → dma_walk t device addr write ≡ along addr (named_page t device write (addr / PAGE))
unfolding dma_walk
walk_along t device addr write =
    then_along (λ d a. device_walk t d a write) (λ d k. walk_page t d write k) (λ d a. device_along t d a write) (find (λ d. bytes_eq d.name device) t.devices) addr

-- ---- the spans

-- each begins with a page
abbrev pub AreAligned : List SpanPart → Type 0
AreAligned spans = All (λ s. s.address % PAGE ≡ 0) spans

pub parts_aligned : (i : Image) → IsParts i → AreAligned i.spans
parts_aligned i is = λ k d l. ((parts_keep i is).spans.each k d l).aligned

pub parts_low : (i : Image) → IsParts i → All (λ s. end_of s ≤ PHYSICAL_END) i.spans
parts_low i is = λ k d l. ((parts_keep i is).spans.each k d l).low

begins_same : (s n : ℕ) (r : ℕ) → s % PAGE ≡ 0 → r < PAGE → nat_le s (PAGE * n + r) ≡ nat_le s (PAGE * n)
begins_same s n r e low = same_le (PAGE * n + r) (PAGE * n) s (λ h. omega (arith, e, low, h)) (λ h. omega (arith, h))

ends_same : (s m n : ℕ) (r : ℕ) → s % PAGE ≡ 0 → r < PAGE → nat_lt (PAGE * n + r) (s + PAGE * m) ≡ nat_lt (PAGE * n) (s + PAGE * m)
ends_same s m n r e low = same_lt (PAGE * n + r) (PAGE * n) (s + PAGE * m) (λ h. omega (arith, h)) (λ h. omega (arith, e, low, h))

either_same : (a b c d : Bool) → a ≡ b → c ≡ d → (if a then true else c) ≡ (if b then true else d)
either_same a b c d e f = rw (e, f) refl

pub spans_same : (spans : List SpanPart) (n r : ℕ) → AreAligned spans → r < PAGE → is_in_spans spans (PAGE * n + r) ≡ is_in_spans spans (PAGE * n)
spans_same [] n r all low = refl
spans_same (s ∷ spans) n r all low =
    let e : s.address % PAGE ≡ 0 = All-head (λ x. x.address % PAGE ≡ 0) s spans all in
    let here = both_same _ _ _ _ (begins_same s.address n r e low) (ends_same s.address s.pages n r e low) in
    let rest = spans_same spans n r (All-tail (λ x. x.address % PAGE ≡ 0) s spans all) low in
    rw (here, rest) refl

-- ---- where writes go

abbrev pub spans_page : List SpanPart → ℕ → Option ℕ
spans_page spans n = if is_in_spans spans (PAGE * n) then Some n else None

in_along : (b : Bool) (n r : ℕ) (c : Bool) → c ≡ b → (if c then Some (PAGE * n + r) else None) ≡ option_map (λ page. PAGE * page + r) (if b then Some n else None)
in_along true n r c e = rw e refl
in_along false n r c e = rw e refl

spans_along : (spans : List SpanPart) (addr : ℕ) (o : Option ℕ) → AreAligned spans → option_and_then (in_spans spans) (along addr o) ≡ along addr (option_and_then (spans_page spans) o)
spans_along spans addr None all = refl
spans_along spans addr (Some n) all = in_along (is_in_spans spans (PAGE * n)) n (addr % PAGE) _ (spans_same spans n (addr % PAGE) all (omega arith))

abbrev pub landing_page : DmaFile → List SpanPart → List ℕ → ℕ → Option ℕ
landing_page t spans device k = option_and_then (spans_page spans) (named_page t device true k)

landing_along : (t : DmaFile) (spans : List SpanPart) (device : List ℕ) (addr : ℕ) → AreAligned spans → landing t spans device addr ≡ along addr (landing_page t spans device (addr / PAGE))
landing_along t spans device addr all =
    ap (option_and_then (in_spans spans)) (walk_along t device addr true) ∙ spans_along spans addr (named_page t device true (addr / PAGE)) all

abbrev pub goes_page : Option DmaFile → Image → ℕ → ℕ → Option ℕ
goes_page tables i device k = option_and_then (λ (t : DmaFile). option_and_then (λ (d : DevicePart). landing_page t i.spans d.name k) (slice_get i.devices device)) tables

pub goes_is : (tables : Option DmaFile) (i : Image) (device addr : ℕ) → AreAligned i.spans → goes tables i device addr ≡ along addr (goes_page tables i device (addr / PAGE))
unfolding goes
goes_is tables i device addr all =
    then_along (λ (t : DmaFile) (a : ℕ). option_and_then (λ (d : DevicePart). landing t i.spans d.name a) (slice_get i.devices device)) (λ (t : DmaFile) (k : ℕ). option_and_then (λ (d : DevicePart). landing_page t i.spans d.name k) (slice_get i.devices device))
    (λ t a. then_along (λ (d : DevicePart) (b : ℕ). landing t i.spans d.name b) (λ (d : DevicePart) (k : ℕ). landing_page t i.spans d.name k) (λ d b. landing_along t i.spans d.name b all) (slice_get i.devices device) a)
    tables addr

pub goes_by_page : (tables : Option DmaFile) (i : Image) (device : ℕ) → AreAligned i.spans → IsByPage (goes tables i device)
goes_by_page tables i device all = record { page = goes_page tables i device; is = λ addr. goes_is tables i device addr all }

-- ---- above all addresses

none_each : {A B : Type 0} (f : A → Option B) → ((x : A) → f x ≡ None) → (o : Option A) → option_and_then f o ≡ None
none_each f h None = refl
none_each f h (Some x) = h x

walk_high : (t : DmaFile) (device : List ℕ) (addr : ℕ) (write : Bool) → GUEST_END ≤ addr → dma_walk t device addr write ≡ None
unfolding dma_walk device_walk
walk_high t device addr write high = none_each (λ d. device_walk t d addr write) (λ d. rw (le-ltb addr GUEST_END high) refl) (find (λ d. bytes_eq d.name device) t.devices)

pub goes_high : (tables : Option DmaFile) (i : Image) (device addr : ℕ) → GUEST_END ≤ addr → goes tables i device addr ≡ None
unfolding goes
goes_high tables i device addr high =
    none_each (λ (t : DmaFile). option_and_then (λ (d : DevicePart). landing t i.spans d.name addr) (slice_get i.devices device))
    (λ t. none_each (λ (d : DevicePart). landing t i.spans d.name addr) (λ d. ap (option_and_then (in_spans i.spans)) (walk_high t d.name addr true high)) (slice_get i.devices device)) tables
