-- Spans that keep the conditions of an image fit its form.
use Rattle.std.proofs.Common.{◌≡◌, ◌∙◌, refl, ℕ, suc, ◌+◌, ◌-◌, ◌*◌, ◌<◌, ◌≤◌, ◌^◌, not, cond, min, Bool, true, false, List, [], ◌∷◌, length, length-set, get_or, get_or-set_other, mul-le-mul_left, eq-eqb, le-leb, lt-ltb, Some, IfSome, arith, sym, ap}
use Rattle.std.specs.List.{All, sum_by}
use Rattle.std.specs.Prelude.{slice_index_or}
use Rattle.std.proofs.lemmas.Bool.{and_from, or_right}
use Rattle.std.proofs.lemmas.List.Elements.{All-head, All-tail}
use Rattle.std.proofs.lemmas.List.Sums.{sum_by-cons}
use Rattle.binary_form.specs.Form.{all_fit, field, only, gap, done, number, byte, coded, either, present, absent_value}
use Rattle.binary_form.proofs.NameLaws.{name_fits}
use Rattle.muen_num.specs.declared.limits.TheConstants.{PAGE, MOST_BLOCK_BYTES, MOST_DEVICE_BYTES}
use Rattle.muen_num.specs.Naming.{is_name}
use Rattle.muen_num.specs.declared.tag.TagPart.{TagPart}
use Rattle.muen_num.specs.declared.tag.TagPart.TheVariants.{Whole, Named, State, Ept, Iobm, Msrbm, Msrs}
use Rattle.image_pack.specs.Codes.{is_device, kind_bytes, kind_in, span_kind_of, part_code, part_name, part_of, plain_part}
use Rattle.image_pack.specs.Image.{after, device_pages_with, spans_have_room, is_kind, is_new, pages_with, span, suits_tau0, sum32, title}
use Rattle.image_pack.specs.SpanConditions.{Ascend, HaveDifferentNumbers, IsSpan, device_pages_of, pages_of}
use Rattle.image_pack.specs.declared.outline.Header.{Header}
use Rattle.image_pack.specs.declared.parts.SpanKind.{SpanKind}
use Rattle.image_pack.specs.declared.parts.SpanKind.TheVariants.{Own, Channel, Provided, Kernel, Device}
use Rattle.image_pack.specs.declared.parts.SpanPart.{SpanPart}
use Rattle.image_pack.specs.declared.reading.spans.SpansBefore.{SpansBefore}

-- spans that may stand behind what was before
pub record GoOn (h : Header) (b : SpansBefore) (xs : List SpanPart) : Type 0 where
  pub left : b.left ≡ length xs
  pub all : length b.seen ≡ h.spans
  pub each : All IsSpan xs
  pub ascend : Ascend xs
  pub behind : All (λ s. b.end ≤ s.address) xs
  pub numbered : All (λ s. s.number < h.spans) xs
  pub differ : HaveDifferentNumbers xs
  pub unseen : All (λ s. slice_index_or b.seen s.number true ≡ false) xs
  pub pages : PAGE * (b.pages + sum_by pages_of xs) ≤ MOST_BLOCK_BYTES
  pub device_pages : PAGE * (b.device_pages + sum_by device_pages_of xs) ≤ MOST_DEVICE_BYTES
  pub choice : All (λ s. suits_tau0 h.tau0 s.number s.kind ≡ true) xs

-- ---- one field and another

kind_decodes : (k : SpanKind) → kind_in (kind_bytes k) ≡ Some k
unfolding kind_in span_kind_of
kind_decodes Own = refl
kind_decodes Channel = refl
kind_decodes Provided = refl
kind_decodes Kernel = refl
kind_decodes Device = refl

part_small : (q : TagPart) → part_code q < 256
part_small Whole = omega arith
part_small (Named name) = omega arith
part_small State = omega arith
part_small Ept = omega arith
part_small Iobm = omega arith
part_small Msrbm = omega arith
part_small Msrs = omega arith

part_back : (q : TagPart) → part_of (part_code q) (part_name q) ≡ q
unfolding plain_part
part_back Whole = refl
part_back (Named name) = refl
part_back State = refl
part_back Ept = refl
part_back Iobm = refl
part_back Msrbm = refl
part_back Msrs = refl

title_fits : (q : TagPart) → IfSome (part_name q) (λ text. is_name text ≡ true) → (title (part_code q)).fits (part_name q)
unfolding title either present absent_value
title_fits Whole h = refl
title_fits (Named name) h = name_fits name h
title_fits State h = refl
title_fits Ept h = refl
title_fits Iobm h = refl
title_fits Msrbm h = refl
title_fits Msrs h = refl

-- ---- pages so far

fewer : (p a b m : ℕ) → a ≤ b → p * b ≤ m → p * a ≤ m
fewer p a b m le h = let up : p * a ≤ p * b = mul-le-mul_left p le in omega (arith, up, h)

min_below : (a m : ℕ) → min a m ≤ a
min_below a m = omega arith

with_own : (d : Bool) (a p : ℕ) → cond d a (sum32 a p) ≤ a + cond d 0 p
with_own true a p = omega arith
with_own false a p = min_below (a + p) (2 ^ 32 - 1)

with_device : (d : Bool) (a p : ℕ) → cond d (sum32 a p) a ≤ a + cond d p 0
with_device true a p = min_below (a + p) (2 ^ 32 - 1)
with_device false a p = omega arith

own_pages : (h : Header) (b : SpansBefore) (x : SpanPart) (xs : List SpanPart) → GoOn h b (x ∷ xs) → PAGE * (pages_with b x.kind x.pages + sum_by pages_of xs) ≤ MOST_BLOCK_BYTES
own_pages h b x xs g =
    let more = with_own (is_device x.kind) b.pages x.pages in
    let sum = sum_by-cons pages_of x xs in
    fewer PAGE (pages_with b x.kind x.pages + sum_by pages_of xs) (b.pages + sum_by pages_of (x ∷ xs)) MOST_BLOCK_BYTES (omega (arith, more, sum)) g.pages

more_device_pages : (h : Header) (b : SpansBefore) (x : SpanPart) (xs : List SpanPart) → GoOn h b (x ∷ xs) → PAGE * (device_pages_with b x.kind x.pages + sum_by device_pages_of xs) ≤ MOST_DEVICE_BYTES
more_device_pages h b x xs g =
    let more = with_device (is_device x.kind) b.device_pages x.pages in
    let sum = sum_by-cons device_pages_of x xs in
    fewer PAGE (device_pages_with b x.kind x.pages + sum_by device_pages_of xs) (b.device_pages + sum_by device_pages_of (x ∷ xs)) MOST_DEVICE_BYTES (omega (arith, more, sum)) g.device_pages

room : (h : Header) (b : SpansBefore) (x : SpanPart) (xs : List SpanPart) → GoOn h b (x ∷ xs) → spans_have_room b x.pages x.kind ≡ true
room h b x xs g =
    let own = fewer PAGE (pages_with b x.kind x.pages) (pages_with b x.kind x.pages + sum_by pages_of xs) MOST_BLOCK_BYTES (omega arith) (own_pages h b x xs g) in
    let device = fewer PAGE (device_pages_with b x.kind x.pages) (device_pages_with b x.kind x.pages + sum_by device_pages_of xs) MOST_DEVICE_BYTES (omega arith) (more_device_pages h b x xs g) in
    or_right _ _ (and_from _ _ (le-leb _ _ own) (le-leb _ _ device))

-- ---- one span

number_new : (h : Header) (b : SpansBefore) (x : SpanPart) → x.number < h.spans → slice_index_or b.seen x.number true ≡ false → is_new h b x.number ≡ true
number_new h b x low unseen = and_from _ _ (lt-ltb _ _ low) (ap not unseen)

one_fits : (h : Header) (b : SpansBefore) (x : SpanPart) (xs : List SpanPart) → h.spans < 2 ^ 16 → GoOn h b (x ∷ xs) → (span h b).fits x
unfolding span field only gap done number byte coded is_kind
one_fits h b x xs few g =
    let s = All-head IsSpan x xs g.each in
    let behind : b.end ≤ x.address = g.behind 0 x (omega arith) in
    let low : x.address + PAGE * x.pages ≤ 2 ^ 40 = s.low in
    let number : x.number < h.spans = g.numbered 0 x (omega arith) in
    let unseen : slice_index_or b.seen x.number true ≡ false = g.unseen 0 x (omega arith) in
    let choice : suits_tau0 h.tau0 x.number x.kind ≡ true = g.choice 0 x (omega arith) in (
      (omega (arith, low), and_from _ _ (eq-eqb _ _ s.aligned) (le-leb _ _ behind)),
      (
        (omega (arith, low), and_from _ _ (lt-ltb _ _ s.some) (le-leb _ _ s.low)),
        (
          (omega (arith, number, few), number_new h b x number unseen),
          (
            (kind_decodes x.kind, and_from _ _ choice (room h b x xs g)),
            (
              (part_small x.tag.part, s.part),
              (
                name_fits x.tag.owner s.owner,
                (
                  title_fits x.tag.part s.called,
                  ap (λ q. record { address = x.address; pages = x.pages; number = x.number; kind = x.kind; tag = record { owner = x.tag.owner; part = q } }) (sym (part_back x.tag.part)),
                ),
              ),
            ),
          ),
        ),
      ),
    )

next_go : (h : Header) (b : SpansBefore) (x : SpanPart) (xs : List SpanPart) → GoOn h b (x ∷ xs) → GoOn h (after h b x) xs
unfolding after
next_go h b x xs g = record {
  left = omega (arith, g.left);
  all = length-set b.seen x.number true ∙ g.all;
  each = All-tail IsSpan x xs g.each;
  ascend = λ i j d lt l. g.ascend (suc i) (suc j) d (omega (arith, lt)) (omega (arith, l));
  behind = λ k d l. g.ascend 0 (suc k) d (omega arith) (omega (arith, l));
  numbered = All-tail (λ s. s.number < h.spans) x xs g.numbered;
  differ = λ i j d lt l. g.differ (suc i) (suc j) d (omega (arith, lt)) (omega (arith, l));
  unseen = λ k d l. get_or-set_other b.seen x.number (get_or xs k d).number true true (λ e. g.differ 0 (suc k) d (omega arith) (omega (arith, l)) (sym e)) ∙ g.unseen (suc k) d (omega (arith, l));
  pages = own_pages h b x xs g;
  device_pages = more_device_pages h b x xs g;
  choice = All-tail (λ s. suits_tau0 h.tau0 s.number s.kind ≡ true) x xs g.choice;
}

-- ---- all spans

pub spans_fit : (h : Header) (b : SpansBefore) (xs : List SpanPart) → h.spans < 2 ^ 16 → GoOn h b xs → all_fit (after h) (λ d. (span h d).fits) b xs
unfolding all_fit
spans_fit h b [] few g = tt
spans_fit h b (x ∷ xs) few g = (one_fits h b x xs few g, spans_fit h (after h b x) xs few (next_go h b x xs g))
