-- A file of tables is spelled in bytes, in no more than the longest one has.
use Rattle.std.proofs.Common.{◌≡◌, refl, sym, subst, ℕ, ◌+◌, ◌*◌, ◌≤◌, ◌&&◌, nat_le, List, length, arith}
use Rattle.std.specs.Int.{w32, w64}
use Rattle.std.specs.Prelude.{IsTrue}
use Rattle.std.proofs.lemmas.Bool.{leb-true, and_parts}
use Rattle.std.proofs.lemmas.List.{length-append}
use Rattle.muen_num.specs.declared.limits.TheConstants.{MOST_DEVICES, PAGE, PHYSICAL_END}
use Rattle.binary_form.specs.declared.fault.Field.{Field}
use Rattle.binary_form.specs.Form.{Form, IsBytes, tag}
use Rattle.binary_form.proofs.Leaves.{wide32, wide64}
use Rattle.binary_form.proofs.Sizes.{IsSized, both_bytes, byte_sized, bytes_sized, condition, done_sized, each_low, field_sized, gap_sized, items_sized, name_sized, number_sized, only_sized, rows, wider}
use Rattle.dma_tables.specs.DmaFile.{after_dma_device, device, dma_file, is_dma_size, dma_mark_bytes}
use Rattle.dma_tables.specs.Tables.{IsDmaFile, dma_device_size, most_dma_bytes}
use Rattle.dma_tables.specs.declared.file.TheConstants.{MOST_DMA_PAGES}
use Rattle.dma_tables.specs.declared.file.DmaFile.{DmaFile}

tag_sized : {S : Type 0} (m : ℕ) (wanted : List ℕ) (title : Field) (more : Form S) → IsBytes wanted → IsSized m more → IsSized (length wanted + m) (tag wanted title more)
unfolding tag
tag_sized m wanted _ more low s = record {
  bytes = λ x fits. both_bytes wanted (more.spell x) low (s.bytes x fits);
  few = λ x fits.
      let behind = s.few x fits in
      let sum = length-append wanted (more.spell x) in
      omega (arith, sum, behind);
}

pub device_sized : (among : Unit {0}) (names : List (List ℕ)) → IsSized dma_device_size (device among names)
unfolding device
device_sized among names =
    field_sized 64 4 _ _ _ (only_sized 64 _ _ _ name_sized) (λ called a.
    field_sized 1 3 _ _ _ byte_sized (λ bus b.
    field_sized 1 2 _ _ _ byte_sized (λ devfn c.
    gap_sized 2 0 _ _ (done_sized _))))

few_pages : (base pages : ℕ) → IsTrue (is_dma_size base pages) → PAGE * pages ≤ PAGE * MOST_DMA_PAGES
few_pages base pages h =
    let a = and_parts (nat_le 1 pages) (nat_le pages MOST_DMA_PAGES && nat_le (base + PAGE * pages) PHYSICAL_END) h in
    let b = and_parts (nat_le pages MOST_DMA_PAGES) (nat_le (base + PAGE * pages) PHYSICAL_END) a.1 in
    let few : pages ≤ 16384 = leb-true pages MOST_DMA_PAGES b.0 in
    omega (arith, few)

marked : IsBytes dma_mark_bytes
unfolding dma_mark_bytes
marked = each_low dma_mark_bytes refl

pub marked_size : length dma_mark_bytes ≡ 8
unfolding dma_mark_bytes
marked_size = refl

sized : IsSized (length dma_mark_bytes + 67111056) dma_file
unfolding dma_file
sized =
    tag_sized 67111056 _ _ _ marked (
    field_sized 8 67111048 _ _ _ (only_sized 8 _ _ _ (number_sized w64 wide64)) (λ base a.
    field_sized 4 67111044 _ _ _ (only_sized 4 _ _ _ (number_sized w32 wide32)) (λ pages b.
    field_sized 1 67111043 _ _ _ (only_sized 1 _ _ _ byte_sized) (λ count c.
    gap_sized 3 67111040 _ _ (
    field_sized 2176 67108864 _ _ _
    (rows count MOST_DEVICES dma_device_size _ (leb-true count MOST_DEVICES (condition _ _ _ count c)) (items_sized (after_dma_device tt) (device tt) _ count dma_device_size (device_sized tt))) (λ devices d.
    field_sized 67108864 0 _ _ _ (wider (PAGE * pages) 67108864 _ (few_pages base pages (condition _ _ _ pages b)) (bytes_sized (PAGE * pages))) (λ bytes e.
    done_sized _)))))))

pub file_sized : IsSized most_dma_bytes dma_file
file_sized = wider (length dma_mark_bytes + 67111056) most_dma_bytes dma_file (let size = marked_size in omega (arith, size)) sized

pub file_bytes : (bytes : List ℕ) (t : DmaFile) → IsDmaFile bytes t → IsBytes bytes
file_bytes bytes t is = subst IsBytes (sym is.bytes_are) (file_sized.bytes t is.tables)

pub file_bounded : (bytes : List ℕ) (t : DmaFile) → IsDmaFile bytes t → length bytes ≤ most_dma_bytes
file_bounded bytes t is = subst (λ (b : List ℕ). length b ≤ most_dma_bytes) (sym is.bytes_are) (file_sized.few t is.tables)
