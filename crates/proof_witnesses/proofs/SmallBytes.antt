-- What stands in the pages of the small image: how long they are, that they are bytes, and which numbers a table spells.
use Rattle.std.proofs.Common.{◌≡◌, ℕ, zero, suc, true, ◌+◌, ◌-◌, ◌*◌, ◌^◌, ◌<◌, List, [], ◌∷◌, ◌++◌, length, take, drop, replicate, refl, sym, ap, ◌∙◌, arith}
use Rattle.std.specs.List.{All}
use Rattle.std.proofs.lemmas.List.{drop-drop, drop_at, length-append, length-replicate, take_all, take_at}
use Rattle.std.proofs.lemmas.List.Elements.{All-append, All-head, All-replicate, All-tail}
use Rattle.binary_form.specs.Form.{IsBytes}
use Rattle.guest_isa.proofs.StateLaws.{le_bytes_small, written_bytes}
use Rattle.guest_isa.specs.Words.{IsByte}
use Rattle.image_emit.proofs.RegionSizes.{length-page}
use Rattle.machine_layout.proofs.BitmapLaws.{all_set}
use Rattle.machine_layout.proofs.PageFieldLaws.{length-le_bytes, number_of_bytes}
use Rattle.machine_layout.specs.Exits.{is_set}
use Rattle.machine_layout.specs.Memory.{le_bytes, le_number}
use Rattle.proof_witnesses.specs.SmallImage.{leaf_entry, ones_page, port_pages, repeated, small_tables, table_entry, table_page, zero_page}
use Rattle.state_page.specs.StatePage.{page_bytes}
use Rattle.state_page.specs.States.{started}

-- ---- lengths

repeated_long : (count byte : ℕ) → length (repeated count byte) ≡ count
unfolding repeated
repeated_long count byte = length-replicate {A = ℕ} count byte

pub zeros_long : length zero_page ≡ 4096
zeros_long = repeated_long 4096 0

pub ones_long : length ones_page ≡ 4096
ones_long = repeated_long 4096 255

pub ports_long : length port_pages ≡ 8192
unfolding port_pages
ports_long = omega (arith, length-append ones_page ones_page, ones_long)

pub table_long : (e : ℕ) → length (table_page e) ≡ 4096
unfolding table_page
table_long e = omega (arith, length-append (le_bytes 8 e) (repeated 4088 0), length-le_bytes 8 e, repeated_long 4088 0)

abbrev first_table : List ℕ
first_table = table_page (table_entry 259)

abbrev second_table : List ℕ
second_table = table_page (table_entry 260)

abbrev third_table : List ℕ
third_table = table_page (table_entry 261)

abbrev last_table : List ℕ
last_table = table_page leaf_entry

pub tables_long : length small_tables ≡ 16384
unfolding small_tables
tables_long =
    omega (
      arith,
      length-append first_table (second_table ++ (third_table ++ last_table)),
      length-append second_table (third_table ++ last_table),
      length-append third_table last_table,
      table_long (table_entry 259),
      table_long (table_entry 260),
      table_long (table_entry 261),
      table_long leaf_entry,
    )

-- ---- the pages of tables and of bitmaps

pub first_page : take 4096 (drop 0 small_tables) ≡ first_table
unfolding small_tables
first_page = take_at first_table (second_table ++ (third_table ++ last_table)) 4096 (table_long (table_entry 259))

behind_first : drop 4096 small_tables ≡ second_table ++ (third_table ++ last_table)
unfolding small_tables
behind_first = drop_at first_table (second_table ++ (third_table ++ last_table)) 4096 (table_long (table_entry 259))

pub second_page : take 4096 (drop 4096 small_tables) ≡ second_table
second_page = ap (take 4096) behind_first ∙ take_at second_table (third_table ++ last_table) 4096 (table_long (table_entry 260))

behind_second : drop 8192 small_tables ≡ third_table ++ last_table
behind_second = sym (drop-drop 4096 4096 small_tables) ∙ ap (drop 4096) behind_first ∙ drop_at second_table (third_table ++ last_table) 4096 (table_long (table_entry 260))

pub third_page : take 4096 (drop 8192 small_tables) ≡ third_table
third_page = ap (take 4096) behind_second ∙ take_at third_table last_table 4096 (table_long (table_entry 261))

behind_third : drop 12288 small_tables ≡ last_table
behind_third = sym (drop-drop 4096 8192 small_tables) ∙ ap (drop 4096) behind_second ∙ drop_at third_table last_table 4096 (table_long (table_entry 261))

pub last_page : take 4096 (drop 12288 small_tables) ≡ last_table
last_page = ap (take 4096) behind_third ∙ take_all 4096 last_table (omega (arith, table_long leaf_entry))

pub ports_low : take 4096 (drop 0 port_pages) ≡ ones_page
unfolding port_pages
ports_low = take_at ones_page ones_page 4096 ones_long

pub ports_high : take 4096 (drop 4096 port_pages) ≡ ones_page
unfolding port_pages
ports_high = ap (take 4096) (drop_at ones_page ones_page 4096 ones_long) ∙ take_all 4096 ones_page (omega (arith, ones_long))

pub ones_whole : take 4096 (drop 0 ones_page) ≡ ones_page
ones_whole = take_all 4096 ones_page (omega (arith, ones_long))

pub state_whole : take 4096 (drop 0 (page_bytes (started 0))) ≡ page_bytes (started 0)
state_whole = take_all 4096 (page_bytes (started 0)) (omega (arith, length-page 0))

-- ---- each is a byte

bytes_from : (bytes : List ℕ) → All IsByte bytes → IsBytes bytes
bytes_from [] h i = omega arith
bytes_from (b ∷ bytes) h zero = All-head IsByte b bytes h
bytes_from (b ∷ bytes) h (suc i) = bytes_from bytes (All-tail IsByte b bytes h) i

repeated_bytes : (count byte : ℕ) → byte < 256 → All IsByte (repeated count byte)
unfolding repeated
repeated_bytes count byte low = All-replicate IsByte count byte low

pub zeros_bytes : IsBytes zero_page
zeros_bytes = bytes_from zero_page (repeated_bytes 4096 0 (omega arith))

all_ones : All IsByte ones_page
all_ones = repeated_bytes 4096 255 (omega arith)

pub ones_bytes : IsBytes ones_page
ones_bytes = bytes_from ones_page all_ones

pub ports_bytes : IsBytes port_pages
unfolding port_pages
ports_bytes = bytes_from (ones_page ++ ones_page) (All-append IsByte ones_page ones_page all_ones all_ones)

pub state_bytes : IsBytes (page_bytes (started 0))
state_bytes = bytes_from (page_bytes (started 0)) (written_bytes (started 0))

all_table : (e : ℕ) → All IsByte (table_page e)
unfolding table_page
all_table e = All-append IsByte (le_bytes 8 e) (repeated 4088 0) (le_bytes_small 8 e) (repeated_bytes 4088 0 (omega arith))

pub tables_bytes : IsBytes small_tables
unfolding small_tables
tables_bytes =
    bytes_from (first_table ++ (second_table ++ (third_table ++ last_table)))
    (All-append IsByte first_table (second_table ++ (third_table ++ last_table)) (all_table (table_entry 259))
    (All-append IsByte second_table (third_table ++ last_table) (all_table (table_entry 260))
    (All-append IsByte third_table last_table (all_table (table_entry 261)) (all_table leaf_entry))))

-- ---- the entries of a table

zeros_taken : (k n : ℕ) → le_number (take k (replicate n 0)) ≡ 0
zeros_taken zero n = refl
zeros_taken (suc k) zero = refl
zeros_taken (suc k) (suc n) = ap (λ (x : ℕ). 0 + 256 * x) (zeros_taken k n)

zeros_read : (k m n : ℕ) → le_number (take k (drop m (replicate n 0))) ≡ 0
zeros_read k zero n = zeros_taken k n
zeros_read k (suc m) zero = zeros_taken k zero
zeros_read k (suc m) (suc n) = zeros_read k m n

nothing_read : (k m count : ℕ) → le_number (take k (drop m (repeated count 0))) ≡ 0
unfolding repeated
nothing_read k m count = zeros_read k m count

pub first_entry : (e : ℕ) → e < 256 ^ 8 → le_number (take 8 (drop 0 (table_page e))) ≡ e
unfolding table_page
first_entry e low = ap le_number (take_at (le_bytes 8 e) (repeated 4088 0) 8 (length-le_bytes 8 e)) ∙ number_of_bytes 8 e low

pub other_entry : (e k : ℕ) → 0 < k → le_number (take 8 (drop (8 * k) (table_page e))) ≡ 0
unfolding table_page
other_entry e k some =
    let before = 8 * (k - 1) in
    let same : 8 + before ≡ 8 * k = omega (arith, some) in
    ap (λ (n : ℕ). le_number (take 8 (drop n (le_bytes 8 e ++ repeated 4088 0)))) (sym same)
    ∙ ap (λ (t : List ℕ). le_number (take 8 t)) (sym (drop-drop before 8 (le_bytes 8 e ++ repeated 4088 0)) ∙ ap (drop before) (drop_at (le_bytes 8 e) (repeated 4088 0) 8 (length-le_bytes 8 e)))
    ∙ nothing_read 8 before 4088

-- ---- a bitmap of ones

ones_set : (count n : ℕ) → n < 8 * count → is_set (repeated count 255) n ≡ true
unfolding repeated
ones_set count n low = all_set count n low

pub bit_set : (n : ℕ) → n < 32768 → is_set ones_page n ≡ true
bit_set n low = ones_set 4096 n (omega (arith, low))

-- ---- a region of zeros

repeated_is : (count byte : ℕ) → repeated count byte ≡ replicate count byte
unfolding repeated
repeated_is count byte = refl

pub zeros_are : zero_page ≡ replicate 4096 0
zeros_are = repeated_is 4096 0
