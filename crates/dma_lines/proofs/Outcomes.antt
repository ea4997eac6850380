-- What a line did, by where its first address and that of its second page come.
use Rattle.std.proofs.Common.{◌≡◌, ◌∙◌, refl, sym, ap, arith, ℕ, ◌+◌, ◌-◌, ◌/◌, ◌<◌, ◌≤◌, true, false, true≢false, List, [], ◌∷◌, ◌++◌, length, take, drop, Option, Some, None, Result, Ok, Err, append-nil, inl, inr}
use Rattle.std.specs.Prelude.{is_some, option_map, unwrap_or}
use Rattle.std.specs.List.{enumerate_from, flat_map}
use Rattle.std.specs.Option.{option_or}
use Rattle.std.specs.Result.{result_err, result_ok}
use Rattle.std.proofs.lemmas.Bool.{and_parts, cases_lt}
use Rattle.std.proofs.lemmas.List.{length-drop, length-take, take-append-drop}
use Rattle.muen_num.proofs.Lists.{numbered_append}
use Rattle.muen_num.proofs.SearchLaws.{first_in-append}
use Rattle.muen_num.specs.Search.{first_in}
use Rattle.muen_num.specs.declared.limits.TheConstants.{GUEST_END, PAGE}
use Rattle.image_pack.specs.Parts.{IsParts}
use Rattle.image_pack.specs.declared.parts.Image.{Image}
use Rattle.device_bench.specs.declared.effect.Effect.{Effect}
use Rattle.dma_tables.specs.LineWrites.{one_write, two_writes}
use Rattle.dma_tables.specs.Lowered.{all_go, goes, is_line, left_in_page, line_writes}
use Rattle.dma_tables.specs.declared.file.DmaFile.{DmaFile}
use Rattle.dma_tables.proofs.ByPages.{IsByPage, goes_by_page, goes_high, parts_aligned}
use Rattle.dma_tables.proofs.Lines.{all_as_one, goes_some, has_two, line_in_one, line_in_two, line_length}
use Rattle.dma_lines.specs.Losses.{comes}
use Rattle.dma_lines.specs.LinesText.{Lost, bytes_text, dropped, line_outcome, lost_at, lost_text, outcome_text, write_text}
use Rattle.dma_lines.specs.declared.loss.Loss.{Loss}
use Rattle.dma_lines.specs.declared.loss.Loss.TheVariants.{NoLine}
use Rattle.dma_lines.proofs.Ways.{comes_goes}

-- ---- the first address that is lost

abbrev pub lost : ℕ → Loss → Lost
lost at why = record { at = at; why = why }

abbrev pub first_lost : (ℕ → Result ℕ Loss) → ℕ → List ℕ → Option Lost
first_lost way addr bytes = first_in (λ e. lost_at way e.0) (enumerate_from addr bytes)

module _ (way : ℕ → Result ℕ Loss) (go : ℕ → Option ℕ) (same : (a : ℕ) → result_ok (way a) ≡ go a) where
  not_lost : (a : ℕ) (r : Result ℕ Loss) → way a ≡ r → is_some (go a) ≡ true → lost_at way a ≡ None
  not_lost a (Ok x) e h = ap (λ q. option_map (lost a) (result_err q)) e
  not_lost a (Err why) e h = absurd (let none : go a ≡ None = sym (same a) ∙ ap result_ok e in let some : is_some (go a) ≡ false = ap is_some none in true≢false (sym h ∙ some))

  -- where each goes, none is lost
  pub none_lost : (a : ℕ) (bytes : List ℕ) → all_go go a bytes ≡ true → first_lost way a bytes ≡ None
  none_lost a [] all = refl
  none_lost a (x ∷ bytes) all =
      let two = and_parts (is_some (go a)) (all_go go (a + 1) bytes) all in
      ap (λ o. option_or o (first_lost way (a + 1) bytes)) (not_lost a (way a) refl two.0) ∙ none_lost (a + 1) bytes two.1

  pub lost_here : (a : ℕ) (bytes : List ℕ) (why : Loss) → 1 ≤ length bytes → way a ≡ Err why → first_lost way a bytes ≡ Some (lost a why)
  lost_here a [] why some e = absurd (omega (arith, some))
  lost_here a (x ∷ bytes) why some e = ap (λ q. option_or (option_map (lost a) (result_err q)) (first_lost way (a + 1) bytes)) e

  -- what comes of the second part of a line, of whose first part none is lost
  pub lost_behind : (a n : ℕ) (bytes : List ℕ) → n ≤ length bytes → all_go go a (take n bytes) ≡ true → first_lost way a bytes ≡ first_lost way (a + n) (drop n bytes)
  lost_behind a n bytes many all =
      let front : length (take n bytes) ≡ n = omega (arith, length-take n bytes) in
      ap (first_lost way a) (sym (take-append-drop n bytes))
      ∙ ap (first_in (λ e. lost_at way e.0)) (numbered_append a (take n bytes) (drop n bytes))
      ∙ first_in-append (λ e. lost_at way e.0) (enumerate_from a (take n bytes)) (enumerate_from (a + length (take n bytes)) (drop n bytes))
      ∙ ap (λ o. option_or o (first_lost way (a + length (take n bytes)) (drop n bytes))) (none_lost a (take n bytes) all)
      ∙ ap (λ k. first_lost way (a + k) (drop n bytes)) front

pub dropped_line : (way : ℕ → Result ℕ Loss) (addr : ℕ) (bytes : List ℕ) → is_line bytes ≡ true → dropped way addr bytes ≡ first_lost way addr bytes
unfolding dropped
dropped_line way addr bytes line = rw line refl

pub no_line_dropped : (way : ℕ → Result ℕ Loss) (addr : ℕ) (bytes : List ℕ) → is_line bytes ≡ false → dropped way addr bytes ≡ Some (lost addr NoLine)
unfolding dropped
no_line_dropped way addr bytes line = rw line refl

-- ---- what a line did

module _ (tables : Option DmaFile) (i : Image) (device addr : ℕ) (bytes : List ℕ) where
  abbrev way : ℕ → Result ℕ Loss
  way = comes tables i device

  abbrev go : ℕ → Option ℕ
  go = goes tables i device

  abbrev same : (a : ℕ) → result_ok (way a) ≡ go a
  same a = comes_goes tables i device a

  abbrev writes : List Effect
  writes = unwrap_or (line_writes go addr bytes) []

  there : (a at : ℕ) → way a ≡ Ok at → go a ≡ Some at
  there a at e = sym (same a) ∙ ap result_ok e

  -- it comes somewhere only below the end of addresses
  pub comes_low : (a at : ℕ) → way a ≡ Ok at → a < GUEST_END
  comes_low a at e = elim (cases_lt a GUEST_END) [ inl low ↦ low | inr high ↦ absurd (let h = sym (goes_high tables i device a high) ∙ there a at e in cc h) ]

  told : (o : Option Lost) → dropped way addr bytes ≡ o → line_outcome tables i device addr bytes ≡ outcome_text i.spans o writes
  unfolding line_outcome
  told o e = ap (λ p. outcome_text i.spans p writes) e

  pub not_line : is_line bytes ≡ false → line_outcome tables i device addr bytes ≡ lost_text addr NoLine
  not_line line = told (Some (lost addr NoLine)) (no_line_dropped way addr bytes line)

  pub first_is_lost : (why : Loss) → is_line bytes ≡ true → way addr ≡ Err why → line_outcome tables i device addr bytes ≡ lost_text addr why
  first_is_lost why line e = told (Some (lost addr why)) (dropped_line way addr bytes line ∙ lost_here way go same addr bytes why (line_length bytes line).0 e)

  module _ (parts : IsParts i) (line : is_line bytes ≡ true) (at : ℕ) (e : way addr ≡ Ok at) where
    abbrev pages : IsByPage go
    pages = goes_by_page tables i device (parts_aligned i parts)

    pub in_one : length bytes ≤ left_in_page addr → line_outcome tables i device addr bytes ≡ bytes_text i.spans at (length bytes)
    in_one few =
        let one : is_some (go addr) ≡ is_some (pages.page (addr / PAGE)) = goes_some go pages (addr / PAGE) addr (omega arith) (omega arith) in
        let all : all_go go addr bytes ≡ true =
        all_as_one go pages (addr / PAGE) addr bytes (line_length bytes line).0 (omega arith) (omega (arith, few)) ∙ sym one ∙ ap is_some (there addr at e) in
        told None (dropped_line way addr bytes line ∙ none_lost way go same addr bytes all)
        ∙ ap (flat_map (write_text i.spans)) (line_in_one go pages addr bytes line few ∙ ap (λ o. one_write o bytes) (there addr at e))
        ∙ append-nil (bytes_text i.spans at (length bytes))

    module _ (long : left_in_page addr < length bytes) where
      abbrev n : ℕ
      n = left_in_page addr

      front_goes : all_go go addr (take n bytes) ≡ true
      front_goes =
          let two = has_two go addr bytes long (line_length bytes line).1 in
          let one : is_some (go addr) ≡ is_some (pages.page (addr / PAGE)) = goes_some go pages (addr / PAGE) addr (omega arith) (omega arith) in
          all_as_one go pages (addr / PAGE) addr (take n bytes) two.front (omega arith) two.front_in ∙ sym one ∙ ap is_some (there addr at e)

      behind : dropped way addr bytes ≡ first_lost way (addr + n) (drop n bytes)
      behind = dropped_line way addr bytes line ∙ lost_behind way go same addr n bytes (omega (arith, long)) front_goes

      pub second_is_lost : (why : Loss) → way (addr + n) ≡ Err why → line_outcome tables i device addr bytes ≡ lost_text (addr + n) why
      second_is_lost why f =
          let two = has_two go addr bytes long (line_length bytes line).1 in
          told (Some (lost (addr + n) why)) (behind ∙ lost_here way go same (addr + n) (drop n bytes) why two.back f)

      pub in_two : (to : ℕ) → way (addr + n) ≡ Ok to → line_outcome tables i device addr bytes ≡ bytes_text i.spans at n ++ bytes_text i.spans to (length bytes - n)
      in_two to f =
          let two = has_two go addr bytes long (line_length bytes line).1 in
          let one : is_some (go (addr + n)) ≡ is_some (pages.page (addr / PAGE + 1)) = goes_some go pages (addr / PAGE + 1) (addr + n) (omega arith) (omega arith) in
          let all : all_go go (addr + n) (drop n bytes) ≡ true =
          all_as_one go pages (addr / PAGE + 1) (addr + n) (drop n bytes) two.back (omega arith) two.back_in ∙ sym one ∙ ap is_some (there (addr + n) to f) in
          let front : length (take n bytes) ≡ n = omega (arith, long, length-take n bytes) in
          let back : length (drop n bytes) ≡ length bytes - n = length-drop n bytes in
          told None (behind ∙ none_lost way go same (addr + n) (drop n bytes) all)
          ∙ ap (flat_map (write_text i.spans))
          (line_in_two go pages addr bytes long line ∙ ap (λ o. two_writes o (take n bytes) (go (addr + n)) (drop n bytes)) (there addr at e) ∙ ap (λ o. two_writes (Some at) (take n bytes) o (drop n bytes)) (there (addr + n) to f))
          ∙ ap (λ xs. bytes_text i.spans at (length (take n bytes)) ++ xs) (append-nil (bytes_text i.spans to (length (drop n bytes))))
          ∙ ap (λ k. bytes_text i.spans at k ++ bytes_text i.spans to (length (drop n bytes))) front
          ∙ ap (λ k. bytes_text i.spans at n ++ bytes_text i.spans to k) back
