-- The words of tables of entries of 16 bytes.
use Rattle.std.proofs.Common.{◌≡◌, ℕ, ◌+◌, ◌*◌, ◌^◌, ◌<◌, ◌≤◌, List, ◌++◌, length, refl, sym, ap, ◌∙◌, arith, append_assoc, length-append, take_all}
use Rattle.std.specs.Int.{w64, to_le_bytes}
use Rattle.std.specs.List.{flat_map, sum_by}
use Rattle.std.proofs.lemmas.List.Concat.{length-flat_map}
use Rattle.dma_emit.specs.declared.entries.WideEntry.{WideEntry}
use Rattle.dma_emit.specs.declared.layout.TheConstants.{ENTRIES}
use Rattle.dma_emit.specs.Entries.{wide_entry_bytes, table_bytes}
use Rattle.dma_emit.proofs.Lists.{part_at, part_left, part_of, part_right, sum_constant, sum_same}
use Rattle.ept_emit.proofs.Bytes.{same_bytes}
use Rattle.machine_layout.specs.Memory.{le_bytes, le_number}
use Rattle.machine_layout.proofs.PageFieldLaws.{length-le_bytes, number_of_bytes}
use Rattle.muen_num.specs.Range.{numbers_below}

-- ---- an entry

-- its two words, as std's bytes of them
pub entry_appended : (old : List ℕ) (e : WideEntry) → old ++ to_le_bytes w64 e.low ++ to_le_bytes w64 e.high ≡ old ++ wide_entry_bytes e
entry_appended old e =
    (λ i. old ++ same_bytes e.low i ++ same_bytes e.high i) ∙ append_assoc old (le_bytes 8 e.low) (le_bytes 8 e.high)

pub length-entry : (e : WideEntry) → length (wide_entry_bytes e) ≡ 16
length-entry e =
    let a = length-le_bytes 8 e.low in
    let b = length-le_bytes 8 e.high in
    omega (arith, length-append (le_bytes 8 e.low) (le_bytes 8 e.high), a, b)

-- the n bytes from o on, as a number
abbrev pub word_in : List ℕ → ℕ → ℕ
word_in bytes o = le_number (part_of bytes o 8)

whole_word : (v : ℕ) → v < 2 ^ 64 → le_number (part_of (le_bytes 8 v) 0 8) ≡ v
whole_word v small =
    let many = length-le_bytes 8 v in
    ap le_number (take_all 8 (le_bytes 8 v) (omega arith)) ∙ number_of_bytes 8 v (omega arith)

pub low_word : (e : WideEntry) → e.low < 2 ^ 64 → word_in (wide_entry_bytes e) 0 ≡ e.low
low_word e small =
    let many = length-le_bytes 8 e.low in
    ap le_number (part_left (le_bytes 8 e.low) (le_bytes 8 e.high) 0 8 (omega arith)) ∙ whole_word e.low small

pub high_word : (e : WideEntry) → e.high < 2 ^ 64 → word_in (wide_entry_bytes e) 8 ≡ e.high
high_word e small =
    let here : 8 ≡ 8 + 0 = refl in
    ap (word_in (wide_entry_bytes e)) here
    ∙ (ap le_number (part_right (le_bytes 8 e.low) (le_bytes 8 e.high) 8 0 8 (length-le_bytes 8 e.low)) ∙ whole_word e.high small)

-- ---- a table

module _ (entry : ℕ → WideEntry) where
  sizes : (n : ℕ) → sum_by (λ k. length (wide_entry_bytes (entry k))) (numbers_below n) ≡ 16 * n
  sizes n = sum_same (λ k. length (wide_entry_bytes (entry k))) (λ k. 16) n (λ k l. length-entry (entry k)) ∙ sum_constant 16 n

  -- its entries are as many as that
  pub table_is : (n : ℕ) → n ≡ ENTRIES → table_bytes entry ≡ flat_map (λ i. wide_entry_bytes (entry i)) (numbers_below n)
  unfolding table_bytes
  table_is n e = ap (λ k. flat_map (λ i. wide_entry_bytes (entry i)) (numbers_below k)) (sym e)

  length_of : (n : ℕ) → n ≡ ENTRIES → length (table_bytes entry) ≡ 4096
  length_of n e = ap length (table_is n e) ∙ (length-flat_map (λ i. wide_entry_bytes (entry i)) (numbers_below n) ∙ (sizes n ∙ ap (λ k. 16 * k) e))

  pub length-table : length (table_bytes entry) ≡ 4096
  length-table = length_of ENTRIES refl

  -- the word at o of the entry of a number
  word_of_entry : (n i o : ℕ) → n ≡ ENTRIES → i < n → o + 8 ≤ 16 → word_in (table_bytes entry) (16 * i + o) ≡ word_in (wide_entry_bytes (entry i)) o
  word_of_entry n i o e l room =
      let many = length-entry (entry i) in
      ap (λ t. word_in t (16 * i + o)) (table_is n e)
      ∙ (ap (λ k. word_in (flat_map (λ i. wide_entry_bytes (entry i)) (numbers_below n)) (k + o)) (sym (sizes i))
      ∙ ap le_number (part_at (λ k. wide_entry_bytes (entry k)) n i o 8 l (omega (arith, many))))

  pub low_of : (i : ℕ) → i < ENTRIES → (entry i).low < 2 ^ 64 → word_in (table_bytes entry) (16 * i) ≡ (entry i).low
  low_of i l small =
      let here : 16 * i ≡ 16 * i + 0 = omega arith in
      ap (word_in (table_bytes entry)) here ∙ (word_of_entry ENTRIES i 0 refl l (omega arith) ∙ low_word (entry i) small)

  pub high_of : (i : ℕ) → i < ENTRIES → (entry i).high < 2 ^ 64 → word_in (table_bytes entry) (16 * i + 8) ≡ (entry i).high
  high_of i l small = word_of_entry ENTRIES i 8 refl l (omega arith) ∙ high_word (entry i) small
