-- The laws of the form of a file of tables.
use Rattle.std.proofs.Common.{◌≡◌, ℕ, ◌*◌, ◌/◌, List, length, arith}
use Rattle.std.specs.Int.{w32, w64}
use Rattle.muen_num.specs.declared.limits.TheConstants.{PAGE}
use Rattle.binary_form.specs.Form.{fixed_bytes, only}
use Rattle.binary_form.proofs.Leaves.{Laws, byte_laws, bytes_laws, number_laws, wide32, wide64}
use Rattle.binary_form.proofs.Forms.{Knows, done_laws, field_laws, gap_laws, items_laws, knows_count, knows_field, knows_gap, knows_within, laws, only_laws, tag_laws}
use Rattle.binary_form.proofs.NameLaws.{name_laws}
use Rattle.dma_tables.specs.DmaFile.{device, dma_file}

device_laws : (among : Unit {0}) (names : List (List ℕ)) → Laws (device among names)
unfolding device only
device_laws among names =
    field_laws _ _ _ (only_laws _ _ _ name_laws) (λ called. search laws depth 60) (λ called.
    field_laws _ _ _ byte_laws (λ bus. search laws depth 60) (λ bus.
    field_laws _ _ _ byte_laws (λ devfn. search laws depth 60) (λ devfn.
    gap_laws _ _ _ (done_laws _))))

-- so many bytes are so many pages
knows_pages : (n : ℕ) → Knows (λ (bytes : List ℕ). length bytes / PAGE) n (fixed_bytes (PAGE * n))
unfolding fixed_bytes
knows_pages n = record {
  is = λ bytes fits.
      let many : length bytes ≡ 4096 * n = fits.0 in
      let pages : length bytes / PAGE ≡ n = omega (arith, many) in
      pages;
}

pub file_laws : Laws dma_file
unfolding dma_file
file_laws =
    tag_laws _ _ _ (
    field_laws _ _ _ (only_laws _ _ _ (number_laws w64 wide64)) (λ base. search laws depth 60) (λ base.
    field_laws _ _ _ (only_laws _ _ _ (number_laws w32 wide32))
    (λ pages. knows_field _ _ _ _ _ (λ count. knows_gap _ _ _ _ _ (knows_field _ _ _ _ _ (λ devices. knows_within _ _ _ _ _ (knows_pages pages)))))
    (λ pages.
    field_laws _ _ _ (only_laws _ _ _ byte_laws) (λ count. knows_gap _ _ _ _ _ (knows_count _ _ _ _ _ _)) (λ count.
    gap_laws _ _ _ (
    field_laws _ _ _ (items_laws _ _ _ _ (device_laws tt)) (λ devices. search laws depth 60) (λ devices.
    field_laws _ _ _ (bytes_laws _) (λ bytes. search laws depth 60) (λ bytes.
    done_laws _)))))))
