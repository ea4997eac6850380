-- What stands in memory: pages of 4,096 bytes by their numbers. An address is in the page of its quotient by 4,096.
use Rattle.std.specs.Prelude.{ℕ, zero, suc, ◌+◌, ◌*◌, ◌/◌, ◌%◌, ◌==◌, if◌then◌else◌, Bool, List, [], ◌∷◌, take, drop, Option, Some, None, is_some, option_map}

pub record Page : Type 0 where
  pub number : ℕ
  pub bytes : List ℕ

-- the bytes of the page of this number
abbrev pub page_of : List Page → ℕ → Option (List ℕ)
page_of [] k = None
page_of (p ∷ ps) k = if p.number == k then Some p.bytes else page_of ps k

abbrev pub is_there : List Page → ℕ → Bool
is_there m k = is_some (page_of m k)

-- the pages with one of them changed, the same where it isn't there
abbrev pub change : List Page → ℕ → (List ℕ → List ℕ) → List Page
change [] k f = []
change (p ∷ ps) k f =
    if p.number == k then record { number = p.number; bytes = f p.bytes } ∷ ps else p ∷ change ps k f

-- with these bytes over those from an offset on, as far as there are so many
abbrev pub over : List ℕ → ℕ → List ℕ → List ℕ
over [] offset new = []
over (x ∷ xs) zero [] = x ∷ xs
over (x ∷ xs) zero (b ∷ bs) = b ∷ over xs zero bs
over (x ∷ xs) (suc offset) bs = x ∷ over xs offset bs

-- ---- numbers as bytes, the lowest first

-- the number that bytes spell
abbrev pub le_number : List ℕ → ℕ
le_number [] = 0
le_number (b ∷ bs) = b + 256 * le_number bs

-- n bytes that spell v modulo 256 ^ n
abbrev pub le_bytes : ℕ → ℕ → List ℕ
le_bytes zero v = []
le_bytes (suc n) v = v % 256 ∷ le_bytes n (v / 256)

-- ---- loads and stores within one page

-- the n bytes from there on
abbrev pub read : List Page → ℕ → ℕ → Option (List ℕ)
read m at n = option_map (λ bytes. take n (drop (at % 4096) bytes)) (page_of m (at / 4096))

abbrev pub write : List Page → ℕ → List ℕ → List Page
write m at bytes = change m (at / 4096) (λ old. over old (at % 4096) bytes)

-- the number of n bytes that is loaded from there
abbrev pub load_of : List Page → ℕ → ℕ → Option ℕ
load_of m at n = option_map le_number (read m at n)

-- with the n low bytes of v stored there
abbrev pub store_of : List Page → ℕ → ℕ → ℕ → List Page
store_of m at n v = write m at (le_bytes n v)
