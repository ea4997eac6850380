-- Spans that fit the form of an image keep its conditions.
use Rattle.std.proofs.Common.{◌≡◌, ◌≢◌, ◌∙◌, sym, subst, ap, arith, ℕ, suc, ◌+◌, ◌*◌, ◌%◌, ◌<◌, ◌≤◌, ◌&&◌, ◌||◌, not, cond, Bool, true, false, true≢false, List, [], ◌∷◌, length, length-set, get_or, get_or-set_other, eqb, eq-eqb, nat_le, nat_lt, ◌==◌, IfSome}
use Rattle.std.specs.Prelude.{slice_index_or, slice_set}
use Rattle.std.specs.List.{All, sum_by}
use Rattle.std.proofs.lemmas.Bool.{and_parts, eqb-true, leb-true, ltb-true, not-true}
use Rattle.std.proofs.lemmas.List.{get_or-set_same}
use Rattle.std.proofs.lemmas.List.Elements.{All-cons, All-nil}
use Rattle.std.proofs.lemmas.List.Kept.{AllPairs-cons}
use Rattle.std.proofs.lemmas.List.Sums.{sum_by-cons}
use Rattle.binary_form.specs.Form.{all_fit, field, only, gap, done, number, byte, coded, either, present, absent_value}
use Rattle.binary_form.proofs.NameLaws.{name_kept}
use Rattle.muen_num.specs.Naming.{is_name}
use Rattle.muen_num.specs.declared.limits.TheConstants.{PAGE, PHYSICAL_END, MOST_BLOCK_BYTES, MOST_DEVICE_BYTES}
use Rattle.muen_num.specs.declared.tag.TagPart.{TagPart}
use Rattle.muen_num.specs.declared.tag.TagPart.TheVariants.{Whole, Named, State, Ept, Iobm, Msrbm, Msrs}
use Rattle.image_pack.specs.Codes.{is_device, part_code, part_name}
use Rattle.image_pack.specs.Image.{after, device_pages_with, spans_have_room, is_kind, pages_with, span, suits_tau0, sum32, title}
use Rattle.image_pack.specs.SpanConditions.{Ascend, HaveDifferentNumbers, IsSpan, device_pages_of, end_of, pages_of}
use Rattle.image_pack.specs.declared.outline.Header.{Header}
use Rattle.image_pack.specs.declared.parts.SpanPart.{SpanPart}
use Rattle.image_pack.specs.declared.reading.spans.SpansBefore.{SpansBefore}

-- ---- parts

title_kept : (q : TagPart) → (title (part_code q)).fits (part_name q) → IfSome (part_name q) (λ text. is_name text ≡ true)
unfolding title either present absent_value
title_kept Whole h = tt
title_kept (Named called) h = name_kept called h
title_kept State h = tt
title_kept Ept h = tt
title_kept Iobm h = tt
title_kept Msrbm h = tt
title_kept Msrs h = tt

-- ---- one span

-- a span that stands behind what was before
record Stands (h : Header) (b : SpansBefore) (x : SpanPart) : Type 0 where
  one : IsSpan x
  behind : b.end ≤ x.address
  numbered : x.number < h.spans
  unseen : slice_index_or b.seen x.number true ≡ false
  choice : suits_tau0 h.tau0 x.number x.kind ≡ true
  room : spans_have_room b x.pages x.kind ≡ true

one_stands : (h : Header) (b : SpansBefore) (x : SpanPart) → (span h b).fits x → Stands h b x
unfolding span field only gap done number byte coded is_kind
one_stands h b x f =
    let address = and_parts (eqb (x.address % PAGE) 0) (nat_le b.end x.address) f.0.1 in
    let size = and_parts (nat_lt 0 x.pages) (nat_le (x.address + PAGE * x.pages) PHYSICAL_END) f.1.0.1 in
    let fresh = and_parts (nat_lt x.number h.spans) (not (slice_index_or b.seen x.number true)) f.1.1.0.1 in
    let kind = and_parts (suits_tau0 h.tau0 x.number x.kind) (spans_have_room b x.pages x.kind) f.1.1.1.0.1 in
    record {
      one = record {
        aligned = eqb-true (x.address % PAGE) 0 address.0;
        some = ltb-true 0 x.pages size.0;
        low = leb-true (x.address + PAGE * x.pages) PHYSICAL_END size.1;
        part = f.1.1.1.1.0.1;
        owner = name_kept x.tag.owner f.1.1.1.1.1.0;
        called = title_kept x.tag.part f.1.1.1.1.1.1.0;
      };
      behind = leb-true b.end x.address address.1;
      numbered = ltb-true x.number h.spans fresh.0;
      unseen = not-true (slice_index_or b.seen x.number true) fresh.1;
      choice = kind.0;
      room = kind.1;
    }

-- ---- pages so far

-- a sum that is small is the sum
exact_own : (d : Bool) (a p r m : ℕ) → m ≤ 67108864 → 4096 * (cond d a (sum32 a p) + r) ≤ m → 4096 * (a + (cond d 0 p + r)) ≤ m
exact_own true a p r m few h = omega (arith, h)
exact_own false a p r m few h = omega (arith, few, h)

exact_device : (d : Bool) (a p r m : ℕ) → m ≤ 67108864 → 4096 * (cond d (sum32 a p) a + r) ≤ m → 4096 * (a + (cond d p 0 + r)) ≤ m
exact_device true a p r m few h = omega (arith, few, h)
exact_device false a p r m few h = omega (arith, h)

own_pages : (b : SpansBefore) (x : SpanPart) (xs : List SpanPart) → PAGE * (pages_with b x.kind x.pages + sum_by pages_of xs) ≤ MOST_BLOCK_BYTES → PAGE * (b.pages + sum_by pages_of (x ∷ xs)) ≤ MOST_BLOCK_BYTES
own_pages b x xs h = subst (λ n. PAGE * (b.pages + n) ≤ MOST_BLOCK_BYTES) (sym (sum_by-cons pages_of x xs)) (exact_own (is_device x.kind) b.pages x.pages (sum_by pages_of xs) MOST_BLOCK_BYTES (omega arith) h)

device_pages : (b : SpansBefore) (x : SpanPart) (xs : List SpanPart) → PAGE * (device_pages_with b x.kind x.pages + sum_by device_pages_of xs) ≤ MOST_DEVICE_BYTES → PAGE * (b.device_pages + sum_by device_pages_of (x ∷ xs)) ≤ MOST_DEVICE_BYTES
device_pages b x xs h = subst (λ n. PAGE * (b.device_pages + n) ≤ MOST_DEVICE_BYTES) (sym (sum_by-cons device_pages_of x xs)) (exact_device (is_device x.kind) b.device_pages x.pages (sum_by device_pages_of xs) MOST_DEVICE_BYTES (omega arith) h)

last_room : (b p q : Bool) → b ≡ true → (not b || (p && q)) ≡ true → (p ≡ true) × (q ≡ true)
last_room true p q e h = and_parts p q h
last_room false p q e h = absurd (true≢false (sym e))

with_none : (n m : ℕ) → 4096 * n ≤ m → 4096 * (n + 0) ≤ m
with_none n m h = omega (arith, h)

-- pages of spans of memory, where the last one told that there is room
own_room : (b : SpansBefore) (x : SpanPart) (xs : List SpanPart) → b.left ≡ suc (length xs) → spans_have_room b x.pages x.kind ≡ true
    → (0 < length xs → PAGE * (pages_with b x.kind x.pages + sum_by pages_of xs) ≤ MOST_BLOCK_BYTES) → PAGE * (b.pages + sum_by pages_of (x ∷ xs)) ≤ MOST_BLOCK_BYTES
own_room b x [] left room later =
    let p : ℕ = PAGE * pages_with b x.kind x.pages in
    let q : ℕ = PAGE * device_pages_with b x.kind x.pages in
    let here = last_room (b.left == 1) (nat_le p MOST_BLOCK_BYTES) (nat_le q MOST_DEVICE_BYTES) (eq-eqb b.left 1 left) room in
    own_pages b x [] (with_none (pages_with b x.kind x.pages) MOST_BLOCK_BYTES (leb-true p MOST_BLOCK_BYTES here.0))
own_room b x (y ∷ ys) left room later = own_pages b x (y ∷ ys) (later (omega arith))

-- and those of devices' memories
device_room : (b : SpansBefore) (x : SpanPart) (xs : List SpanPart) → b.left ≡ suc (length xs) → spans_have_room b x.pages x.kind ≡ true
    → (0 < length xs → PAGE * (device_pages_with b x.kind x.pages + sum_by device_pages_of xs) ≤ MOST_DEVICE_BYTES) → PAGE * (b.device_pages + sum_by device_pages_of (x ∷ xs)) ≤ MOST_DEVICE_BYTES
device_room b x [] left room later =
    let p : ℕ = PAGE * pages_with b x.kind x.pages in
    let q : ℕ = PAGE * device_pages_with b x.kind x.pages in
    let here = last_room (b.left == 1) (nat_le p MOST_BLOCK_BYTES) (nat_le q MOST_DEVICE_BYTES) (eq-eqb b.left 1 left) room in
    device_pages b x [] (with_none (device_pages_with b x.kind x.pages) MOST_DEVICE_BYTES (leb-true q MOST_DEVICE_BYTES here.1))
device_room b x (y ∷ ys) left room later = device_pages b x (y ∷ ys) (later (omega arith))

-- ---- all spans

-- spans that stand behind what was before
pub record Follow (h : Header) (b : SpansBefore) (xs : List SpanPart) : Type 0 where
  pub each : All IsSpan xs
  pub ascend : Ascend xs
  pub behind : All (λ s. b.end ≤ s.address) xs
  pub numbered : All (λ s. s.number < h.spans) xs
  pub differ : HaveDifferentNumbers xs
  pub unseen : All (λ s. slice_index_or b.seen s.number true ≡ false) xs
  pub pages : 0 < length xs → PAGE * (b.pages + sum_by pages_of xs) ≤ MOST_BLOCK_BYTES
  pub device_pages : 0 < length xs → PAGE * (b.device_pages + sum_by device_pages_of xs) ≤ MOST_DEVICE_BYTES
  pub choice : All (λ s. suits_tau0 h.tau0 s.number s.kind ≡ true) xs

none_follow : (h : Header) (b : SpansBefore) → Follow h b []
none_follow h b = record {
  each = All-nil IsSpan;
  ascend = λ i j d lt l. absurd (omega (arith, l));
  behind = λ k d l. absurd (omega (arith, l));
  numbered = λ k d l. absurd (omega (arith, l));
  differ = λ i j d lt l. absurd (omega (arith, l));
  unseen = λ k d l. absurd (omega (arith, l));
  pages = λ l. absurd (omega (arith, l));
  device_pages = λ l. absurd (omega (arith, l));
  choice = λ k d l. absurd (omega (arith, l));
}

-- a mark that is set differs from one that isn't
other_mark : (seen : List Bool) (n m : ℕ) → n < length seen → slice_index_or (slice_set seen n true) m true ≡ false → n ≢ m
other_mark seen n m low unset e = true≢false (sym (get_or-set_same seen n true true low) ∙ ap (λ k. get_or (slice_set seen n true) k true) e ∙ unset)

one_follows : (h : Header) (b : SpansBefore) (x : SpanPart) (xs : List SpanPart) → b.left ≡ suc (length xs) → length b.seen ≡ h.spans → Stands h b x → Follow h (after h b x) xs → Follow h b (x ∷ xs)
unfolding after
one_follows h b x xs left all s f =
    let begins : b.end ≤ x.address = s.behind in
    let numbered : x.number < h.spans = s.numbered in
    let differ : (k : ℕ) (d : SpanPart) → k < length xs → x.number ≢ (get_or xs k d).number = λ k d l. other_mark b.seen x.number (get_or xs k d).number (omega (arith, numbered, all)) (f.unseen k d l) in
    record {
      each = All-cons IsSpan x xs s.one f.each;
      ascend = AllPairs-cons (λ p q. end_of p ≤ q.address) x xs (λ k d l. f.behind k d l) f.ascend;
      behind = All-cons (λ q. b.end ≤ q.address) x xs s.behind (λ k d l. let later = f.behind k d l in omega (arith, begins, later));
      numbered = All-cons (λ q. q.number < h.spans) x xs s.numbered f.numbered;
      differ = AllPairs-cons (λ p q. p.number ≢ q.number) x xs differ f.differ;
      unseen = All-cons (λ q. slice_index_or b.seen q.number true ≡ false) x xs s.unseen (λ k d l. sym (get_or-set_other b.seen x.number (get_or xs k d).number true true (λ e. differ k d l (sym e))) ∙ f.unseen k d l);
      pages = λ l. own_room b x xs left s.room f.pages;
      device_pages = λ l. device_room b x xs left s.room f.device_pages;
      choice = All-cons (λ q. suits_tau0 h.tau0 q.number q.kind ≡ true) x xs s.choice f.choice;
    }

pub spans_follow : (h : Header) (b : SpansBefore) (xs : List SpanPart) → b.left ≡ length xs → length b.seen ≡ h.spans → all_fit (after h) (λ d. (span h d).fits) b xs → Follow h b xs
unfolding all_fit after
spans_follow h b [] left all f = none_follow h b
spans_follow h b (x ∷ xs) left all f =
    one_follows h b x xs left all (one_stands h b x f.0) (spans_follow h (after h b x) xs (omega (arith, left)) (length-set b.seen x.number true ∙ all) f.1)
