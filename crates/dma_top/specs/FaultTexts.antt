-- The text of what is wrong with tables, as it is printed.
use Rattle.std.specs.Prelude.{ℕ, ◌/◌, ◌%◌, List, [], ◌∷◌, ◌++◌, codes, decimal}
use Rattle.hex.specs.Hex.{encode_lower}
use Rattle.muen_num.specs.Fixed.{hex16}
use Rattle.dma_check.specs.declared.fault.DmaFault.{DmaFault}
use Rattle.dma_check.specs.declared.fault.DmaFault.TheVariants.{Listing, Tables}
use Rattle.dma_check.specs.declared.fault.FaultKind.{FaultKind}
use Rattle.dma_check.specs.declared.fault.FaultKind.TheVariants.{Outside, Twice, Leak, Lacks}

abbrev pub kind_word : FaultKind → List ℕ
kind_word Outside = codes "not sound: outside "
kind_word Twice = codes "not sound: twice "
kind_word Leak = codes "not sound: leak "
kind_word Lacks = codes "not sound: lacks "

-- a byte in two hexadecimal digits
abbrev pub byte_text : ℕ → List ℕ
byte_text n = encode_lower (n ∷ [])

-- bus, device and function of a source of requests, as PCI has them
abbrev pub source_text : ℕ → ℕ → List ℕ
source_text bus devfn = byte_text bus ++ (codes ":" ++ (byte_text (devfn / 8) ++ (codes "." ++ decimal (devfn % 8))))

abbrev pub unfit_text : DmaFault → List ℕ
unfit_text (Listing device) = codes "not sound: device " ++ device
unfit_text (Tables fault) = kind_word fault.kind ++ (source_text fault.bus fault.devfn ++ (codes " " ++ hex16 fault.addr))
