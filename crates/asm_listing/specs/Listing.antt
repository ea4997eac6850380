-- A listing of bytes: of each chunk its address, its bytes and what the source has for it.
use Rattle.std.specs.Prelude.{ℕ, ◌+◌, ◌-◌, ◌*◌, ◌%◌, ◌^◌, List, ◌++◌, length, replicate, codes}
use Rattle.std.specs.List.{enumerate_from, flat_map}
use Rattle.hex.specs.Hex.{encode_lower}
use Rattle.muen_num.specs.Fixed.{hex16}
use Rattle.asm_listing.specs.Source.{chunk_text, chunks_of}

-- two digits a byte, and blanks up to those of eight bytes
abbrev pub digits_text : List ℕ → List ℕ
digits_text chunk = encode_lower chunk ++ replicate (16 - 2 * length chunk) 32

unfoldable pub listing_line : ℕ → List ℕ → List ℕ
listing_line address chunk = hex16 address ++ codes "  " ++ digits_text chunk ++ codes "  " ++ chunk_text chunk ++ codes "\n"

-- the line of the chunk with this number, where the first chunk has the address `base`; addresses wrap at 2^64
abbrev pub listing_line_at : ℕ → ℕ × List ℕ → List ℕ
listing_line_at base (number, chunk) = listing_line ((base + 8 * number) % 2 ^ 64) chunk

unfoldable pub listing_of : ℕ → List ℕ → List ℕ
listing_of base bytes = flat_map (listing_line_at base) (enumerate_from 0 (chunks_of bytes))
