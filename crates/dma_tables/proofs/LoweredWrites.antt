-- What a line writes, byte by byte and page by page.
use Rattle.std.proofs.Common.{◌≡◌, ◌∙◌, ◌-◌, ◌+◌, ◌*◌, ◌/◌, ◌%◌, ◌≤◌, ◌&&◌, ◌∷◌, ◌++◌, if◌then◌else◌}
use Rattle.std.proofs.Common.{inl, inr, le-leb, refl, sym, subst, ap, arith, ℕ, Bool, true, false, true≢false, List, [], length, map, take, drop, Option, Some, None, flat_map}
use Rattle.std.specs.Prelude.{is_some, unwrap_or}
use Rattle.std.specs.List.{All, enumerate_from}
use Rattle.std.proofs.lemmas.Bool.{and_parts, cases_lt, lt-leb}
use Rattle.std.proofs.lemmas.List.{append-nil, length-drop, length-take, map-append, take-append-drop}
use Rattle.std.proofs.lemmas.List.Elements.{All-cons, All-nil}
use Rattle.muen_num.proofs.Lists.{numbered_append}
use Rattle.muen_num.specs.declared.limits.TheConstants.{PAGE}
use Rattle.image_pack.specs.Parts.{IsParts}
use Rattle.image_pack.specs.declared.parts.Image.{Image}
use Rattle.device_bench.specs.declared.effect.Effect.{Effect}
use Rattle.device_bench.specs.declared.effect.Effect.TheVariants.{Mem as ToMem}
use Rattle.dma_tables.specs.LineWrites.{IsInPage, byte_going, bytes_written, pages_touched}
use Rattle.dma_tables.specs.Lowered.{all_go, by_pages, goes, is_line, left_in_page, line_writes, write_of}
use Rattle.dma_tables.specs.declared.file.DmaFile.{DmaFile}
use Rattle.dma_tables.proofs.ByPages.{IsByPage, along, goes_by_page, parts_aligned}
use Rattle.dma_tables.proofs.Lines.{all_as_one, all_split, bytes_as_one, has_two, line_length}

-- what is written if all goes somewhere is written only then
written_if : (writes : List Effect) (all : Bool) (xs : List Effect) → ◌≡◌ {A = Option (List Effect)} (if all then Some xs else None) (Some writes) → (all ≡ true) × (xs ≡ writes)
written_if writes true xs e = (refl, cc)
written_if writes false xs e = absurd cc

-- ---- byte by byte

-- the bytes of two writes are those of one behind those of the other
two_written : (go next : Option ℕ) (front back : List ℕ) (es fs : List (ℕ × ℕ)) → enumerate_from (unwrap_or go 0) front ≡ es → enumerate_from (unwrap_or next 0) back ≡ fs
    → flat_map bytes_written (ToMem (unwrap_or go 0) front ∷ ToMem (unwrap_or next 0) back ∷ []) ≡ es ++ fs
two_written go next front back es fs a b =
    ap (λ x. enumerate_from (unwrap_or go 0) front ++ x) (append-nil (enumerate_from (unwrap_or next 0) back) ∙ b) ∙ ap (λ x. x ++ fs) a

-- what is there has a value
there : (o : Option ℕ) → is_some o ≡ true → (n : ℕ) × (o ≡ Some n)
there None h = absurd (true≢false (sym h))
there (Some n) h = (n, refl)

-- the bytes of a line in one page
part_written : (go : ℕ → Option ℕ) (b : IsByPage go) (k a : ℕ) (bytes : List ℕ) → all_go go a bytes ≡ true
    → 1 ≤ length bytes → PAGE * k ≤ a → a + length bytes ≤ PAGE * k + PAGE
    → enumerate_from (unwrap_or (go a) 0) bytes ≡ map (byte_going go) (enumerate_from a bytes)
part_written go b k a bytes all some low high =
    let at = there (b.page k) (sym (all_as_one go b k a bytes some low high) ∙ all) in
    let in_it : a / PAGE ≡ k = omega (arith, low, high, some) in
    let is : go a ≡ Some (PAGE * at.0 + a % PAGE) = b.is a ∙ ap (along a) (ap b.page in_it ∙ at.1) in
    let from : PAGE * at.0 + a % PAGE + PAGE * k ≡ PAGE * at.0 + a = omega (arith, low, high, some) in
    ap (λ o. enumerate_from (unwrap_or o 0) bytes) is ∙ bytes_as_one go b k a at.0 (PAGE * at.0 + a % PAGE) bytes at.1 from low high

-- the bytes of a line stand in its two parts
line_split : (go : ℕ → Option ℕ) (addr n : ℕ) (bytes : List ℕ) → n ≤ length bytes
    → map (byte_going go) (enumerate_from addr bytes) ≡ map (byte_going go) (enumerate_from addr (take n bytes)) ++ map (byte_going go) (enumerate_from (addr + n) (drop n bytes))
line_split go addr n bytes le =
    let size : length (take n bytes) ≡ n = omega (arith, le, length-take n bytes) in
    let whole : enumerate_from addr bytes ≡ enumerate_from addr (take n bytes) ++ enumerate_from (addr + n) (drop n bytes) =
    ap (enumerate_from addr) (sym (take-append-drop n bytes))
    ∙ numbered_append addr (take n bytes) (drop n bytes)
    ∙ ap (λ k. enumerate_from addr (take n bytes) ++ enumerate_from (addr + k) (drop n bytes)) size in
    ap (map (byte_going go)) whole ∙ map-append (byte_going go) (enumerate_from addr (take n bytes)) (enumerate_from (addr + n) (drop n bytes))

-- a line of which all goes somewhere is written byte by byte where it goes
line_written : (go : ℕ → Option ℕ) (b : IsByPage go) (addr : ℕ) (bytes : List ℕ) → length bytes ≤ 64 → all_go go addr bytes ≡ true
    → flat_map bytes_written (map (write_of go) (by_pages addr bytes)) ≡ map (byte_going go) (enumerate_from addr bytes)
line_written go b addr [] few all = rw (le-leb 0 (left_in_page addr) (omega arith)) refl
line_written go b addr (x ∷ rest) few all =
    let bytes : List ℕ = x ∷ rest in
    let n : ℕ = left_in_page addr in
    elim (cases_lt n (length bytes)) [
      | inl long ↦
          let two = has_two go addr bytes long few in
          let split = and_parts (all_go go addr (take n bytes)) (all_go go (addr + n) (drop n bytes)) (sym (all_split go addr n bytes (omega (arith, long))) ∙ all) in
          let front = part_written go b (addr / PAGE) addr (take n bytes) split.0 two.front (omega arith) two.front_in in
          let back = part_written go b (addr / PAGE + 1) (addr + n) (drop n bytes) split.1 two.back (omega arith) two.back_in in
          rw (lt-leb (length bytes) n long)
          (two_written (go addr) (go (addr + n)) (take n bytes) (drop n bytes) _ _ front back ∙ sym (line_split go addr n bytes (omega (arith, long))))
      | inr short ↦
          rw (le-leb (length bytes) n short)
          (append-nil (enumerate_from (unwrap_or (go addr) 0) bytes) ∙ part_written go b (addr / PAGE) addr bytes all (omega arith) (omega arith) (omega (arith, short)))
    ]

-- each byte of a line that is written is written where it goes
pub each_byte : (t : Option DmaFile) (i : Image) (device addr : ℕ) (bytes : List ℕ) (writes : List Effect) → IsParts i → line_writes (goes t i device) addr bytes ≡ Some writes
    → flat_map bytes_written writes ≡ map (byte_going (goes t i device)) (enumerate_from addr bytes)
unfolding line_writes
each_byte t i device addr bytes writes parts e =
    let go = goes t i device in
    let h = written_if writes (is_line bytes && all_go go addr bytes) (map (write_of go) (by_pages addr bytes)) e in
    let two = and_parts (is_line bytes) (all_go go addr bytes) h.0 in
    ap (flat_map bytes_written) (sym h.1) ∙ line_written go (goes_by_page t i device (parts_aligned i parts)) addr bytes (line_length bytes two.0).1 two.1

-- ---- page by page

-- where a page leads, an address is no further from the page's beginning
page_start : (a : ℕ) (o : Option ℕ) → unwrap_or (along a o) 0 % PAGE ≤ a % PAGE
page_start a None = omega arith
page_start a (Some n) = omega arith

-- bytes of one page are written in one page
in_its_page : (go : ℕ → Option ℕ) (b : IsByPage go) (a : ℕ) (bytes : List ℕ) → a % PAGE + length bytes ≤ PAGE → IsInPage (write_of go (a, bytes))
in_its_page go b a bytes few =
    let h : unwrap_or (go a) 0 % PAGE ≤ a % PAGE = subst (λ o. unwrap_or o 0 % PAGE ≤ a % PAGE) (sym (b.is a)) (page_start a (b.page (a / PAGE))) in
    omega (arith, h, few)

-- a line is written page by page
line_paged : (go : ℕ → Option ℕ) (b : IsByPage go) (addr : ℕ) (bytes : List ℕ) → is_line bytes ≡ true
    → (length (map (write_of go) (by_pages addr bytes)) ≡ pages_touched addr bytes) × All IsInPage (map (write_of go) (by_pages addr bytes))
line_paged go b addr bytes line =
    let n : ℕ = left_in_page addr in
    let size = line_length bytes line in
    let some : 1 ≤ length bytes = size.0 in
    let few : length bytes ≤ 64 = size.1 in
    elim (cases_lt n (length bytes)) [
      | inl long ↦
          let front : length (take n bytes) ≡ n = omega (arith, long, length-take n bytes) in
          let back : length (drop n bytes) ≡ length bytes - n = omega (arith, length-drop n bytes) in
          let later : All IsInPage (write_of go (addr + n, drop n bytes) ∷ []) =
          All-cons IsInPage (write_of go (addr + n, drop n bytes)) [] (in_its_page go b (addr + n) (drop n bytes) (omega (arith, back, few))) (All-nil IsInPage) in
          rw (lt-leb (length bytes) n long) (
            omega (arith, long, few),
            All-cons IsInPage (write_of go (addr, take n bytes)) (write_of go (addr + n, drop n bytes) ∷ []) (in_its_page go b addr (take n bytes) (omega (arith, front))) later,
          )
      | inr short ↦
          rw (le-leb (length bytes) n short) (
            omega (arith, short, some),
            All-cons IsInPage (write_of go (addr, bytes)) [] (in_its_page go b addr bytes (omega (arith, short))) (All-nil IsInPage),
          )
    ]

-- so there is a write for each page that a line touches
pub each_page : (t : Option DmaFile) (i : Image) (device addr : ℕ) (bytes : List ℕ) (writes : List Effect) → IsParts i → line_writes (goes t i device) addr bytes ≡ Some writes
    → (length writes ≡ pages_touched addr bytes) × All IsInPage writes
unfolding line_writes
each_page t i device addr bytes writes parts e =
    let go = goes t i device in
    let h = written_if writes (is_line bytes && all_go go addr bytes) (map (write_of go) (by_pages addr bytes)) e in
    let two = and_parts (is_line bytes) (all_go go addr bytes) h.0 in
    subst (λ (ws : List Effect). (length ws ≡ pages_touched addr bytes) × All IsInPage ws) h.1
    (line_paged go (goes_by_page t i device (parts_aligned i parts)) addr bytes two.0)
