-- The spans that aren't the kernel's, in the order of their numbers, by their indexes.
use Rattle.std.proofs.Common.{◌≡◌, ℕ, suc, ◌+◌, ◌<◌, ◌==◌, Bool, true, false, not, cond, List, [], ◌∷◌, length, map, ◌++◌, filter, get_or, zip, All, Option, Some, None, IfSome, refl, sym, ap, subst, ◌∙◌, inl, inr, arith}
use Rattle.std.specs.Prelude.{nat_lt, option_and_then, option_map, option_to_list, slice_get}
use Rattle.std.specs.List.{cons_option, filter_map, find, position_or_len}
use Rattle.std.proofs.lemmas.Bool.{cases_Bool, cases_lt, lt-ltb, le-ltb}
use Rattle.std.proofs.lemmas.List.Elements.{All-append, All-cons, All-nil, filter_map-append}
use Rattle.std.proofs.lemmas.Option.{slice_get-get_or, slice_get_past}
use Rattle.std.proofs.lemmas.Slice.Zip.{AllZip-long}
use Rattle.image_checks.specs.Contents.{thing_index, thing_indexes, unless_kernel}
use Rattle.image_pack.proofs.PartsKeep.{parts_keep}
use Rattle.image_pack.specs.ImageConditions.{IsContent}
use Rattle.image_pack.specs.Parts.{IsParts}
use Rattle.image_pack.specs.declared.parts.Image.{Image}
use Rattle.image_pack.specs.declared.parts.SpanKind.TheVariants.{Own}
use Rattle.image_pack.specs.declared.parts.SpanPart.{SpanPart}
use Rattle.image_soundness.specs.Memory.{Span, by_number, span_at}
use Rattle.image_soundness.specs.Sound.{is_kernel, thing_spans}
use Rattle.muen_num.specs.Range.{numbers_below}
use Rattle.muen_num.specs.declared.tag.TagPart.TheVariants.{Whole}

-- as many contents as spans
pub as_many : (i : Image) → IsParts i → length i.contents ≡ length i.spans
as_many i h = AllZip-long IsContent i.spans i.contents (parts_keep i h).contents

-- a span to read by
abbrev pub no_span : SpanPart
no_span = record { address = 0; pages = 0; number = 0; kind = Own; tag = record { owner = []; part = Whole } }

-- the span at an index, with what it holds
abbrev pub span_of : List SpanPart → List (List ℕ) → ℕ → Span
span_of xs ys k = (get_or xs k no_span, get_or ys k [])

abbrev keeps : Span → Bool
keeps e = not (is_kernel e.0.kind)

abbrev kept : Option Span → Option Span
kept o = option_and_then (λ e. cond (keeps e) (Some e) None) o

abbrev pair_at : List SpanPart → List (List ℕ) → ℕ → Option Span
pair_at xs ys k = option_and_then (λ s. option_map (λ h. (s, h)) (slice_get ys k)) (slice_get xs k)

-- ---- one number

zip_found : (t : SpanPart → Bool) (xs : List SpanPart) (ys : List (List ℕ)) → length ys ≡ length xs → find (λ e. t e.0) (zip xs ys) ≡ pair_at xs ys (position_or_len t xs)
zip_found t [] ys h = refl
zip_found t (x ∷ xs) [] h = absurd (omega (arith, h))
zip_found t (x ∷ xs) (y ∷ ys) h = elim (cases_Bool (t x)) [
  | inl e ↦ rw e refl
  | inr e ↦
      let one : 1 + position_or_len t xs ≡ suc (position_or_len t xs) = omega arith in
      rw (e, one) (zip_found t xs ys (omega (arith, h)))
]

kept_one : (b : Bool) (e : Span) (k : ℕ) (xs : List SpanPart) (ys : List (List ℕ)) → e ≡ span_of xs ys k → cond (not b) (Some e) None ≡ option_map (span_of xs ys) (cond b None (Some k))
kept_one true e k xs ys h = refl
kept_one false e k xs ys h = ap (λ x. Some x) h

kept_at : (xs : List SpanPart) (ys : List (List ℕ)) (k : ℕ) → length ys ≡ length xs → kept (pair_at xs ys k) ≡ option_map (span_of xs ys) (option_and_then (λ j. option_and_then (unless_kernel j) (slice_get xs j)) (cond (nat_lt k (length xs)) (Some k) None))
kept_at xs ys k h = elim (cases_lt k (length xs)) [
  | inl l ↦
      let in_xs = slice_get-get_or xs k no_span l in
      let in_ys = slice_get-get_or ys k [] (omega (arith, l, h)) in
      let low = lt-ltb k (length xs) l in
      rw (low, in_xs, in_ys) (kept_one (is_kernel (get_or xs k no_span).kind) (span_of xs ys k) k xs ys refl)
  | inr l ↦
      let out = slice_get_past xs k l in
      let high = le-ltb k (length xs) l in
      rw (high, out) refl
]

number_kept : (i : Image) → length i.contents ≡ length i.spans → (n : ℕ) → kept (span_at i n) ≡ option_map (span_of i.spans i.contents) (thing_index i.spans n)
unfolding thing_index
number_kept i h n =
    ap kept (zip_found (λ s. s.number == n) i.spans i.contents h)
    ∙ kept_at i.spans i.contents (position_or_len (λ s. s.number == n) i.spans) h

-- ---- all numbers

filter_cons : (o : Option Span) (es : List Span) → filter keeps (cons_option o es) ≡ cons_option (kept o) (filter keeps es)
filter_cons None es = refl
filter_cons (Some e) es = elim (cases_Bool (keeps e)) [ inl h ↦ rw h refl | inr h ↦ rw h refl ]

map_cons : (f : ℕ → Span) (o : Option ℕ) (ks : List ℕ) → map f (cons_option o ks) ≡ cons_option (option_map f o) (map f ks)
map_cons f None ks = refl
map_cons f (Some k) ks = refl

numbers_kept : (i : Image) → length i.contents ≡ length i.spans → (ns : List ℕ) → filter keeps (filter_map (span_at i) ns) ≡ map (span_of i.spans i.contents) (filter_map (thing_index i.spans) ns)
numbers_kept i h [] = refl
numbers_kept i h (n ∷ ns) =
    filter_cons (span_at i n) (filter_map (span_at i) ns)
    ∙ ap (λ o. cons_option o (filter keeps (filter_map (span_at i) ns))) (number_kept i h n)
    ∙ ap (cons_option (option_map (span_of i.spans i.contents) (thing_index i.spans n))) (numbers_kept i h ns)
    ∙ sym (map_cons (span_of i.spans i.contents) (thing_index i.spans n) (filter_map (thing_index i.spans) ns))

pub thing_spans_are : (i : Image) → IsParts i → thing_spans i ≡ map (span_of i.spans i.contents) (thing_indexes i.spans)
unfolding by_number thing_indexes
thing_spans_are i h = numbers_kept i (as_many i h) (numbers_below (length i.spans))

-- ---- a loop over the numbers

cons_list : {X : Type 0} (o : Option X) → cons_option o [] ≡ option_to_list o
cons_list None = refl
cons_list (Some x) = refl

pub one_more : (f : ℕ → Option ℕ) (n : ℕ) (before after : List ℕ) (o : Option ℕ) → before ≡ filter_map f (numbers_below n) → after ≡ before ++ option_to_list o → o ≡ f n → after ≡ filter_map f (numbers_below (n + 1))
one_more f n before after o was now is =
    let up : n + 1 ≡ suc n = omega arith in
    rw up (now
    ∙ ap (λ ks. ks ++ option_to_list o) was
    ∙ ap (λ x. filter_map f (numbers_below n) ++ option_to_list x) is
    ∙ ap (λ ks. filter_map f (numbers_below n) ++ ks) (sym (cons_list (f n)))
    ∙ sym (filter_map-append f (numbers_below n) (n ∷ [])))

pub all_more : (most : ℕ) (before after : List ℕ) (o : Option ℕ) → All (λ k. k < most) before → after ≡ before ++ option_to_list o → IfSome o (λ k. k < most) → All (λ k. k < most) after
all_more most before after None was now low = subst (All (λ k. k < most)) (sym now) (All-append (λ k. k < most) before [] was (All-nil (λ k. k < most)))
all_more most before after (Some k) was now low = subst (All (λ k. k < most)) (sym now) (All-append (λ k. k < most) before (k ∷ []) was (All-cons (λ k. k < most) k [] low (All-nil (λ k. k < most))))
