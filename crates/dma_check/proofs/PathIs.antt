-- The tables to which a walk comes, one below the other.
use Rattle.std.proofs.Common.{◌≡◌, ℕ, ◌+◌, ◌*◌, ◌/◌, ◌%◌, ◌^◌, ◌<◌, Bool, List, Option, Some, refl, sym, ap, ◌∙◌, arith}
use Rattle.std.specs.Prelude.{option_and_then}
use Rattle.dma_check.proofs.Sounds.{in_range, in_source}
use Rattle.dma_check.specs.Held.{view_by}
use Rattle.dma_check.specs.Marked.{IsPath}
use Rattle.dma_check.specs.Views.{addr_of, bus_of, devfn_of, source_of, table_at, table_below}
use Rattle.dma_check.specs.declared.path.Path.{Path}
use Rattle.dma_tables.specs.DmaWalk.{context_table, highest_table, root_page, word_of}
use Rattle.dma_tables.specs.declared.file.DmaFile.{DmaFile}
use Rattle.image_pack.specs.declared.parts.SpanPart.{SpanPart}

module _ (t : DmaFile) (spans : List SpanPart) (declared : ℕ → ℕ → Bool → Option ℕ) (source addr : ℕ) (low : addr < 2 ^ 48) where
  pub path_is : (path : Path) → path.root ≡ root_page t → path.context ≡ context_table (word_of t) (root_page t) (source / 256)
      → path.level_3 ≡ option_and_then (λ table. highest_table (word_of t) table (source % 256)) path.context
      → path.level_2 ≡ option_and_then (table_below (word_of t) addr 3) path.level_3
      → path.level_1 ≡ option_and_then (table_below (word_of t) addr 2) path.level_2
      → path.level_0 ≡ option_and_then (table_below (word_of t) addr 1) path.level_1
      → IsPath (view_by t spans declared) (2 ^ 48 * source + addr) path
  unfolding table_at
  path_is path root context top second first last =
      let own = in_source source addr low in
      let at = in_range source addr low in
      let v = view_by t spans declared in
      let n = 2 ^ 48 * source + addr in
      let one : path.context ≡ table_at v n 1 = context ∙ ap (λ s. context_table (word_of t) (root_page t) (bus_of s)) (sym own) in
      let two : path.level_3 ≡ table_at v n 2 = top ∙ ap (λ s. option_and_then (λ table. highest_table (word_of t) table (devfn_of s)) path.context) (sym own) ∙ ap (option_and_then (λ table. highest_table (word_of t) table (devfn_of (source_of n)))) one in
      let three : path.level_2 ≡ table_at v n 3 = second ∙ ap (λ a. option_and_then (table_below (word_of t) a 3) path.level_3) (sym at) ∙ ap (option_and_then (table_below (word_of t) (addr_of n) 3)) two in
      let four : path.level_1 ≡ table_at v n 4 = first ∙ ap (λ a. option_and_then (table_below (word_of t) a 2) path.level_2) (sym at) ∙ ap (option_and_then (table_below (word_of t) (addr_of n) 2)) three in
      let five : path.level_0 ≡ table_at v n 5 = last ∙ ap (λ a. option_and_then (table_below (word_of t) a 1) path.level_1) (sym at) ∙ ap (option_and_then (table_below (word_of t) (addr_of n) 1)) four in
      record { root = ap (λ x. Some x) (sym root); context = one; level_3 = two; level_2 = three; level_1 = four; level_0 = five }
