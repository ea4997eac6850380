-- What the text of a line tells.
use Rattle.std.proofs.Common.{◌≡◌, ◌∙◌, inl, inr, refl, sym, subst, ap, arith, ℕ, zero, suc, ◌+◌, ◌*◌, ◌<◌, ◌≤◌, ◌&&◌, All, Bool, true, false, true≢false, not, List, [], ◌∷◌, length, map, take, drop, Option, Some, None, Result, Ok, Err, if◌then◌else◌}
use Rattle.std.specs.Prelude.{is_none, is_some, nat_le, nat_lt, option_and_then, option_map, slice_get, unwrap_or}
use Rattle.std.specs.List.{flat_map}
use Rattle.std.specs.Option.{option_or}
use Rattle.std.specs.Result.{result_err, result_ok}
use Rattle.std.proofs.lemmas.Bool.{and_parts, cases_Bool, cases_lt, le-leb, leb-true, lt-leb, ltb-true}
use Rattle.std.proofs.lemmas.List.Elements.{All-cons, All-nil}
use Rattle.muen_num.specs.declared.limits.TheConstants.{PAGE}
use Rattle.muen_num.proofs.Indexed.{found_at, pairs_at}
use Rattle.muen_num.proofs.Lists.{found}
use Rattle.muen_num.proofs.Options.{one_value}
use Rattle.image_pack.proofs.PartsKeep.{parts_keep}
use Rattle.image_pack.specs.Parts.{IsParts}
use Rattle.image_pack.specs.SpanConditions.{Ascend, end_of}
use Rattle.image_pack.specs.declared.parts.DevicePart.{DevicePart}
use Rattle.image_pack.specs.declared.parts.Image.{Image}
use Rattle.image_pack.specs.declared.parts.SpanPart.{SpanPart}
use Rattle.device_bench.specs.declared.effect.Effect.{Effect}
use Rattle.device_bench.specs.declared.effect.Effect.TheVariants.{Mem as ToMem}
use Rattle.dma_tables.specs.DmaWalk.{dma_walk}
use Rattle.dma_tables.specs.Lowered.{all_go, by_pages, goes, in_spans, is_in_spans, is_line, landing, left_in_page, line_writes, write_of}
use Rattle.dma_tables.specs.declared.file.DmaFile.{DmaFile}
use Rattle.dma_tables.proofs.Lines.{all_split, has_two, line_length}
use Rattle.dma_lines.specs.LineLaws.{HasSpan, IsFirstLost, IsTold}
use Rattle.dma_lines.specs.LinesText.{Lost, dropped, line_outcome, outcome_text, write_text}
use Rattle.dma_lines.specs.Losses.{comes}
use Rattle.dma_lines.specs.declared.loss.Loss.{Loss}
use Rattle.dma_lines.proofs.Outcomes.{dropped_line, first_lost, lost, no_line_dropped}
use Rattle.dma_lines.proofs.Ways.{comes_goes}

-- ---- the first address that is lost

module _ (way : ℕ → Result ℕ Loss) (go : ℕ → Option ℕ) (same : (a : ℕ) → result_ok (way a) ≡ go a) where
  goes_on : (a y : ℕ) → way a ≡ Ok y → is_some (go a) ≡ true
  goes_on a y e = ap is_some (sym (same a) ∙ ap result_ok e)

  stops : (a : ℕ) (why : Loss) → way a ≡ Err why → is_some (go a) ≡ false
  stops a why e = ap is_some (sym (same a) ∙ ap result_ok e)

  abbrev lost_by : ℕ → Result ℕ Loss → Option Lost
  lost_by a r = option_map (lost a) (result_err r)

  some_lost : (a : ℕ) (bytes : List ℕ) → is_some (first_lost way a bytes) ≡ not (all_go go a bytes)
  some_lost a [] = refl
  some_lost a (x ∷ bytes) =
      elim (way a) as (λ r. way a ≡ r → is_some (option_or (lost_by a r) (first_lost way (a + 1) bytes)) ≡ not (is_some (go a) && all_go go (a + 1) bytes)) [
        | Ok y ↦ λ e. some_lost (a + 1) bytes ∙ sym (ap (λ b. not (b && all_go go (a + 1) bytes)) (goes_on a y e))
        | Err why ↦ λ e. sym (ap (λ b. not (b && all_go go (a + 1) bytes)) (stops a why e))
      ] refl

  before_it : (a : ℕ) (y n : ℕ) → way a ≡ Ok y → ((k : ℕ) → k < n → is_some (go (a + 1 + k)) ≡ true) → (k : ℕ) → k < suc n → is_some (go (a + k)) ≡ true
  before_it a y n e h zero less =
      let here : a + 0 ≡ a = omega arith in
      ap (λ b. is_some (go b)) here ∙ goes_on a y e
  before_it a y n e h (suc k) less =
      let next : a + suc k ≡ a + 1 + k = omega arith in
      ap (λ b. is_some (go b)) next ∙ h k (omega (arith, less))

  one_lost : (a : ℕ) (why : Loss) (l : Lost) → Some (lost a why) ≡ Some l → lost a why ≡ l
  one_lost a why l e = cc

  none_is : (l : Lost) → None ≡ Some l → ⊥
  none_is l e = cc

  pub first_is : (a : ℕ) (bytes : List ℕ) (l : Lost) → first_lost way a bytes ≡ Some l → IsFirstLost go way a bytes l
  first_is a [] l h = absurd (none_is l h)
  first_is a (x ∷ bytes) l h =
      elim (way a) as (λ r. way a ≡ r → option_or (lost_by a r) (first_lost way (a + 1) bytes) ≡ Some l → IsFirstLost go way a (x ∷ bytes) l) [
        | Ok y ↦ λ e f.
            let q = first_is (a + 1) bytes l f in
            record {
              place = suc q.place;
              within = omega (arith, q.within);
              at = omega (arith, q.at);
              why = q.why;
              before = before_it a y q.place e q.before;
            }
        | Err why ↦ λ e f.
            let is = one_lost a why l f in
            record {
              place = 0;
              within = omega arith;
              at = sym (ap (λ (l : Lost). l.at) is) ∙ omega arith;
              why = ap way (sym (ap (λ (l : Lost). l.at) is)) ∙ e ∙ ap (λ (l : Lost). Err l.why) is;
              before = λ k less. absurd (omega (arith, less));
            }
      ] refl h

-- ---- lines

whether_written : (b : Bool) (writes : List Effect) → is_none (if b then Some writes else None) ≡ not b
whether_written true writes = refl
whether_written false writes = refl

-- of what is written nothing is dropped
none_dropped : (o : Option Lost) (n : Option (List Effect)) (writes : List Effect) → is_some o ≡ is_none n → n ≡ Some writes → o ≡ None
none_dropped None n writes h e = refl
none_dropped (Some l) n writes h e = absurd (true≢false (h ∙ ap is_none e))

module _ (tables : Option DmaFile) (i : Image) (device addr : ℕ) (bytes : List ℕ) where
  abbrev way : ℕ → Result ℕ Loss
  way = comes tables i device

  abbrev go : ℕ → Option ℕ
  go = goes tables i device

  written_line : is_line bytes ≡ true → line_writes go addr bytes ≡ (if all_go go addr bytes then Some (map (write_of go) (by_pages addr bytes)) else None)
  unfolding line_writes
  written_line line = rw line refl

  no_line : is_line bytes ≡ false → line_writes go addr bytes ≡ None
  unfolding line_writes
  no_line line = rw line refl

  pub dropped_unwritten : is_some (dropped way addr bytes) ≡ is_none (line_writes go addr bytes)
  dropped_unwritten = elim (cases_Bool (is_line bytes)) [
    | inl line ↦
        ap is_some (dropped_line way addr bytes line)
        ∙ some_lost way go (λ a. comes_goes tables i device a) addr bytes
        ∙ sym (ap is_none (written_line line) ∙ whether_written (all_go go addr bytes) (map (write_of go) (by_pages addr bytes)))
    | inr line ↦ ap is_some (no_line_dropped way addr bytes line) ∙ sym (ap is_none (no_line line))
  ]

  pub first_told : (l : Lost) → is_line bytes ≡ true → dropped way addr bytes ≡ Some l → IsFirstLost go way addr bytes l
  first_told l line e = first_is way go (λ a. comes_goes tables i device a) addr bytes l (sym (dropped_line way addr bytes line) ∙ e)

  pub writes_told : (writes : List Effect) → line_writes go addr bytes ≡ Some writes → line_outcome tables i device addr bytes ≡ flat_map (write_text i.spans) writes
  unfolding line_outcome
  writes_told writes e =
      let none : dropped way addr bytes ≡ None = none_dropped (dropped way addr bytes) (line_writes go addr bytes) writes dropped_unwritten e in
      ap (λ o. outcome_text i.spans o (unwrap_or (line_writes go addr bytes) [])) none ∙ ap (λ o. flat_map (write_text i.spans) (unwrap_or o [])) e

-- ---- spans

two_spans : (a b : SpanPart) (at : ℕ) → end_of a ≤ b.address → at < end_of a → b.address ≤ at → ⊥
two_spans a b at before high low = omega (arith, before, high, low)

one_span : (spans : List SpanPart) (at k n : ℕ) (s t : SpanPart) → Ascend spans → slice_get spans k ≡ Some s → slice_get spans n ≡ Some t → s.address ≤ at → at < end_of s → t.address ≤ at → at < end_of t → s ≡ t
one_span spans at k n s t ascend here there low high low_t high_t =
    elim (cases_lt k n) [
      | inl less ↦ absurd (two_spans s t at (pairs_at (λ a b. end_of a ≤ b.address) spans k n s t ascend less here there) high low_t)
      | inr more ↦ elim (cases_lt n k) [
        | inl less ↦ absurd (two_spans t s at (pairs_at (λ a b. end_of a ≤ b.address) spans n k t s ascend less there here) high_t low)
        | inr few ↦ let same : k ≡ n = omega (arith, more, few) in one_value (slice_get spans n) s t (ap (slice_get spans) (sym same) ∙ here) there
      ]
    ]

has_span : (i : Image) (at : ℕ) → IsParts i → is_in_spans i.spans at ≡ true → HasSpan i.spans at
has_span i at is h =
    let s = found (λ (s : SpanPart). nat_le s.address at && nat_lt at (s.address + PAGE * s.pages)) i.spans h in
    let both = and_parts (nat_le s.item.address at) (nat_lt at (s.item.address + PAGE * s.item.pages)) s.passes in
    let low : s.item.address ≤ at = leb-true s.item.address at both.0 in
    let high : at < end_of s.item = ltb-true at (end_of s.item) both.1 in
    let q = found_at (λ (s : SpanPart). nat_le s.address at && nat_lt at (s.address + PAGE * s.pages)) i.spans s.item s.is in
    record {
      span = s.item;
      told = s.is;
      begins = low;
      ends = high;
      alone = λ k t here low_t high_t. one_span i.spans at k q.index t s.item (parts_keep i is).spans.ascend here q.here low_t high_t low high;
    }

landed_in : (spans : List SpanPart) (at : ℕ) (o : Option ℕ) → option_and_then (in_spans spans) o ≡ Some at → is_in_spans spans at ≡ true
landed_in spans at None e = absurd cc
landed_in spans at (Some n) e =
    elim (is_in_spans spans n) as (λ b. is_in_spans spans n ≡ b → (if b then Some n else None) ≡ Some at → is_in_spans spans at ≡ true) [
      | true ↦ λ is f. let same : n ≡ at = cc in ap (is_in_spans spans) (sym same) ∙ is
      | false ↦ λ is f. absurd cc
    ] refl e

goes_into : (tables : Option DmaFile) (i : Image) (device addr at : ℕ) → goes tables i device addr ≡ Some at → is_in_spans i.spans at ≡ true
unfolding goes
goes_into None i device addr at e = absurd cc
goes_into (Some t) i device addr at e =
    elim (slice_get i.devices device) as (λ o. option_and_then (λ (d : DevicePart). landing t i.spans d.name addr) o ≡ Some at → is_in_spans i.spans at ≡ true) [
      | None ↦ λ f. absurd cc
      | Some d ↦ λ f. landed_in i.spans at (dma_walk t d.name addr true) f
    ] e

-- the span of what goes somewhere
span_of : (tables : Option DmaFile) (i : Image) (device addr : ℕ) → IsParts i → is_some (goes tables i device addr) ≡ true → HasSpan i.spans (unwrap_or (goes tables i device addr) 0)
span_of tables i device addr is h =
    elim (goes tables i device addr) as (λ o. goes tables i device addr ≡ o → is_some o ≡ true → HasSpan i.spans (unwrap_or o 0)) [
      | None ↦ λ e f. absurd cc
      | Some at ↦ λ e f. has_span i at is (goes_into tables i device addr at e)
    ] refl h

first_goes : (go : ℕ → Option ℕ) (addr : ℕ) (bytes : List ℕ) → 1 ≤ length bytes → all_go go addr bytes ≡ true → is_some (go addr) ≡ true
first_goes go addr [] some all = absurd (omega (arith, some))
first_goes go addr (x ∷ bytes) some all = (and_parts (is_some (go addr)) (all_go go (addr + 1) bytes) all).0

-- what holds of the writes where all goes somewhere holds of what is written
of_written : (P : List Effect → Type 0) (all : Bool) (xs writes : List Effect) → (all ≡ true → P xs) → ◌≡◌ {A = Option (List Effect)} (if all then Some xs else None) (Some writes) → P writes
of_written P true xs writes h e = let is : xs ≡ writes = cc in subst P is (h refl)
of_written P false xs writes h e = absurd cc

each_told : (tables : Option DmaFile) (i : Image) (device addr : ℕ) (bytes : List ℕ) → IsParts i → is_line bytes ≡ true → all_go (goes tables i device) addr bytes ≡ true
    → All (IsTold i.spans) (map (write_of (goes tables i device)) (by_pages addr bytes))
each_told tables i device addr bytes is line all =
    let go = goes tables i device in
    let size = line_length bytes line in
    let front = span_of tables i device addr is (first_goes go addr bytes size.0 all) in
    elim (cases_lt (left_in_page addr) (length bytes)) [
      | inl long ↦
          let n : ℕ = left_in_page addr in
          let two = has_two go addr bytes long size.1 in
          let split = and_parts (all_go go addr (take n bytes)) (all_go go (addr + n) (drop n bytes)) (sym (all_split go addr n bytes (omega (arith, long))) ∙ all) in
          let back = span_of tables i device (addr + n) is (first_goes go (addr + n) (drop n bytes) two.back split.1) in
          rw (lt-leb (length bytes) n long)
          (All-cons (IsTold i.spans) (ToMem (unwrap_or (go addr) 0) (take n bytes)) (ToMem (unwrap_or (go (addr + n)) 0) (drop n bytes) ∷ []) front
          (All-cons (IsTold i.spans) (ToMem (unwrap_or (go (addr + n)) 0) (drop n bytes)) [] back (All-nil (IsTold i.spans))))
      | inr short ↦ rw (le-leb (length bytes) (left_in_page addr) short) (All-cons (IsTold i.spans) (ToMem (unwrap_or (go addr) 0) bytes) [] front (All-nil (IsTold i.spans)))
    ]

pub spans_told : (tables : Option DmaFile) (i : Image) (device addr : ℕ) (bytes : List ℕ) (writes : List Effect) → IsParts i → line_writes (goes tables i device) addr bytes ≡ Some writes → All (IsTold i.spans) writes
spans_told tables i device addr bytes writes is e = elim (cases_Bool (is_line bytes)) [
  | inl line ↦
      of_written (All (IsTold i.spans)) (all_go (goes tables i device) addr bytes) (map (write_of (goes tables i device)) (by_pages addr bytes)) writes
      (λ all. each_told tables i device addr bytes is line all) (sym (written_line tables i device addr bytes line) ∙ e)
  | inr line ↦ absurd (let none = no_line tables i device addr bytes line in let both : None ≡ Some writes = sym none ∙ e in cc)
]
