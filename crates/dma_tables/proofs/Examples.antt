-- Tables, worked out: six pages from address 0 on, by which a device on bus 0, with devfn 24, reaches the page at 0x107000 by its
-- addresses 4,096 to 8,191.
use Rattle.std.proofs.Common.{◌≡◌, refl, ℕ, ◌+◌, ◌*◌, ◌%◌, ◌==◌, ◌&&◌, true, false, if◌then◌else◌, [], ◌∷◌, Option, Some, None, Err}
use Rattle.std.specs.Prelude.{option_map}
use Rattle.device_bench.specs.declared.effect.Effect.TheVariants.{Mem}
use Rattle.binary_form.specs.Faults.{unpacked}
use Rattle.binary_form.specs.Form.{tag, tag_at, whole}
use Rattle.binary_form.specs.declared.fault.ImageFault.TheVariants.{Short}
use Rattle.dma_tables.specs.DmaFile.{dma_file, dma_mark_bytes}
use Rattle.dma_tables.specs.DmaWalk.{device_page, is_context, is_paging, is_root}
use Rattle.dma_tables.specs.Lowered.{by_pages, line_writes}
use Rattle.dma_tables.specs.Tables.{most_dma_bytes}
use Rattle.dma_tables.specs.declared.file.DmaDevice.{DmaDevice}
use Rattle.dma_tables.specs.declared.file.TheConstants.{MOST_DMA_PAGES}

-- the words of the pages that aren't zero
abbrev words : ℕ → ℕ → Option ℕ
words page i =
    if (page == 0) && (i == 0) then Some 0x1001
    else (if (page == 1) && (i == 48) then Some 0x2001
    else (if (page == 1) && (i == 49) then Some 0x102
    else (if (page == 2) && (i == 0) then Some 0x3003
    else (if (page == 3) && (i == 0) then Some 0x4003
    else (if (page == 4) && (i == 0) then Some 0x5003
    else (if (page == 5) && (i == 1) then Some 0x107003
    else Some 0))))))

abbrev nic : DmaDevice
nic = record { name = 110 ∷ 105 ∷ 99 ∷ []; bus = 0; devfn = 24 }

abbrev reached : ℕ → Option ℕ
reached addr = device_page words 0 nic addr true

-- where a write goes
abbrev go : ℕ → Option ℕ
go addr = option_map (λ page. 4096 * page + addr % 4096) (reached addr)

first_byte : go 4096 ≡ Some 0x107000
first_byte = refl

eighth_byte : go 4104 ≡ Some 0x107008
eighth_byte = refl

last_byte : go 8191 ≡ Some 0x107FFF
last_byte = refl

behind : go 8192 ≡ None
behind = refl

below : go 4095 ≡ None
below = refl

other_function : device_page words 0 (record { name = nic.name; bus = 0; devfn = 25 }) 4104 true ≡ None
other_function = refl

other_bus : device_page words 0 (record { name = nic.name; bus = 1; devfn = 24 }) 4104 true ≡ None
other_bus = refl

-- two bytes inside
a_line : line_writes go 4104 (7 ∷ 0 ∷ []) ≡ Some (Mem 0x107008 (7 ∷ 0 ∷ []) ∷ [])
unfolding line_writes
a_line = refl

-- the second byte goes nowhere
a_line_across : line_writes go 8191 (7 ∷ 7 ∷ []) ≡ None
unfolding line_writes
a_line_across = refl

-- a line that touches two pages is cut between them
cut : by_pages 8191 (7 ∷ 8 ∷ 9 ∷ []) ≡ (8191, 7 ∷ []) ∷ (8192, 8 ∷ 9 ∷ []) ∷ []
cut = refl

-- ---- entries

an_undefined_bit : is_root 0x1003 0 ≡ false
an_undefined_bit = refl

a_high_bit : is_root 0x10000001001 0 ≡ false
a_high_bit = refl

three_levels : is_context 0x2001 0x101 ≡ false
three_levels = refl

-- a translation type
of_another_type : is_context 0x2005 0x102 ≡ false
of_another_type = refl

-- a right to write alone is one
write_alone : is_paging true 0x107002 ≡ true
write_alone = refl

read_alone : is_paging true 0x107001 ≡ false
read_alone = refl

-- ---- files

no_file : unpacked dma_file [] ≡ Err (Short 0)
unfolding unpacked dma_file dma_mark_bytes tag tag_at whole
no_file = refl

a_longest_file : most_dma_bytes ≡ 67111064
a_longest_file = refl

-- 64 MiB of tables, this project's profile
most_pages : MOST_DMA_PAGES ≡ 16384
most_pages = refl
