-- A fault of a file of tables is that of the bytes up to the end of its field: each field of the form has no more bytes than there is room for.
use Rattle.std.proofs.Common.{ℕ, List, refl, arith}
use Rattle.binary_form.specs.declared.fault.Field.TheVariants as at
use Rattle.dma_tables.specs.DmaFile.{after_dma_device, device, dma_file, dma_mark_bytes}
use Rattle.dma_tables.proofs.FileSizes.{marked_size}
use Rattle.proof_faults.proofs.Fields.{byte_local, bytes_local, done_local, field_local, items_local, tag_local}
use Rattle.proof_faults.proofs.Rooms.{Local, eight, four, new_name, one, zeros}
use Rattle.proof_faults.specs.Room.{room_of}

device_local : (among : Unit {0}) (names : List (List ℕ)) → Local (device among names)
unfolding device
device_local among names =
    field_local room_of _ _ _ (new_name _) (λ called.
    field_local room_of _ _ _ (byte_local room_of at.Zero (omega arith)) (λ bus.
    field_local room_of _ _ _ (byte_local room_of at.Zero (omega arith)) (λ devfn.
    zeros 2 _ refl refl (done_local room_of _))))

pub tables_local : Local dma_file
unfolding dma_file
tables_local =
    tag_local room_of dma_mark_bytes at.Magic _ (omega (arith, marked_size)) (omega (arith, marked_size)) (
    field_local room_of _ _ _ (eight _ at.Place refl) (λ base.
    field_local room_of _ _ _ (four _ at.Pages refl) (λ pages.
    field_local room_of _ _ _ (one _ at.Count refl) (λ count.
    zeros 3 _ refl refl (
    field_local room_of _ _ _ (items_local room_of (after_dma_device tt) (device tt) _ count (device_local tt)) (λ devices.
    field_local room_of _ _ _ (bytes_local room_of _) (λ bytes.
    done_local room_of _)))))))
