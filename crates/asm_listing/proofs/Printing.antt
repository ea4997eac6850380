-- Lines of the pieces of bytes, put one after another.
use Rattle.std.proofs.Common.{◌≡◌, ℕ, ◌+◌, ◌*◌, ◌%◌, ◌^◌, ◌<◌, ◌≤◌, min, false, List, [], ◌∷◌, ◌++◌, length, take, drop, refl, ap, sym, subst, ◌∙◌, inl, inr, append_assoc, append-nil, take_all, take-append-drop, drop_of_length-le, length-take-le, ◌⊎◌, Result, Ok, Err, arith}
use Rattle.std.specs.Prelude.{◌==◌, ◌↔◌, codes, IsOk, OnOk}
use Rattle.std.specs.List.{enumerate_from, flat_map}
use Rattle.std.proofs.lemmas.Bool.{cases_lt, false≢true, true≢false}
use Rattle.muen_outside.specs.Buffered.{Given, Lost, OutState}
use Rattle.muen_outside.proofs.Buffered.{given_then, lost_after, lost_first}
use Rattle.asm_listing.specs.Listing.{listing_line_at, listing_line, listing_of}
use Rattle.asm_listing.specs.Source.{chunk_text, chunks_of, source_of}
use Rattle.asm_listing.proofs.Chunks.{first_chunk, no_chunk, one_chunk}

-- ---- the next piece

pub some_bytes : (rest : List ℕ) → (length rest == 0) ≡ false → 0 < length rest
some_bytes [] h = absurd (true≢false h)
some_bytes (b ∷ rest) h = omega arith

next_chunk : (rest : List ℕ) (n : ℕ) → 0 < length rest → n ≡ min (length rest) 8 → chunks_of rest ≡ take n rest ∷ chunks_of (drop n rest)
next_chunk rest n some e = by (cases_lt (length rest) 8)
  where
    by : (length rest < 8) ⊎ (8 ≤ length rest) → chunks_of rest ≡ take n rest ∷ chunks_of (drop n rest)
    by (inl few) =
        let le : length rest ≤ n = omega arith in
        one_chunk rest some few
        ∙ (λ i. sym (take_all n rest le) i ∷ sym no_chunk i)
        ∙ ap (λ (bs : List ℕ). take n rest ∷ chunks_of bs) (sym (drop_of_length-le rest le))
    by (inr many) =
        let eight : n ≡ 8 = omega arith in
        let long : length (take n rest) ≡ 8 = length-take-le n rest (omega arith) ∙ eight in
        ap chunks_of (sym (take-append-drop n rest)) ∙ first_chunk (take n rest) (drop n rest) long

-- ---- a text of which the rest is to come

pub record IsPrinting (whole rest : List ℕ) (s t : OutState) : Type 0 where
  pub front : List ℕ
  pub given : Given front s t
  pub left : whole ≡ front ++ rest

pub printing_more : (whole rest line more : List ℕ) (s t u : OutState) → rest ≡ line ++ more → IsPrinting whole rest s t → Given line t u → IsPrinting whole more s u
printing_more whole rest line more s t u e p q = record {
  front = p.front ++ line;
  given = given_then p.front line s t u p.given q;
  left = p.left ∙ ap (λ (x : List ℕ). p.front ++ x) e ∙ sym (append_assoc p.front line more);
}

pub printing_all : (whole rest : List ℕ) (s t : OutState) → rest ≡ [] → IsPrinting whole rest s t → Given whole s t
printing_all whole rest s t e p =
    let same : p.front ≡ whole = sym (p.left ∙ ap (λ (x : List ℕ). p.front ++ x) e ∙ append-nil p.front) in
    subst (λ x. Given x s t) same p.given

pub printing_lost : (whole rest line more : List ℕ) (s t u : OutState) → rest ≡ line ++ more → IsPrinting whole rest s t → Lost line t u → Lost whole s u
printing_lost whole rest line more s t u e p q =
    let same : (p.front ++ line) ++ more ≡ whole = append_assoc p.front line more ∙ ap (λ (x : List ℕ). p.front ++ x) (sym e) ∙ sym p.left in
    subst (λ x. Lost x s u) same (lost_first (p.front ++ line) more s u (lost_after p.front line s t u p.given q))

-- ---- a source

-- a piece and what remains
pub record IsCut (rest chunk more : List ℕ) (n : ℕ) : Type 0 where
  pub some : 0 < length rest
  pub at : n ≡ min (length rest) 8
  pub front : chunk ≡ take n rest
  pub back : more ≡ drop n rest

pub source_cut : (rest chunk more : List ℕ) (n : ℕ) → IsCut rest chunk more n → source_of rest ≡ (chunk_text chunk ++ codes "\n") ++ source_of more
unfolding source_of
source_cut rest chunk more n cut =
    ap (flat_map (λ chunk. chunk_text chunk ++ codes "\n")) (next_chunk rest n cut.some cut.at)
    ∙ (λ i. (chunk_text (sym cut.front i) ++ codes "\n") ++ source_of (sym cut.back i))

pub source_end : (rest : List ℕ) → length rest ≡ 0 → source_of rest ≡ []
unfolding source_of
source_end [] h = ap (flat_map (λ chunk. chunk_text chunk ++ codes "\n")) no_chunk
source_end (b ∷ rest) h = absurd (omega arith)

-- ---- a listing

-- addresses one chunk further on
further : (base number : ℕ) (chunks : List (List ℕ))
    → flat_map (listing_line_at base) (enumerate_from (number + 1) chunks) ≡ flat_map (listing_line_at ((base + 8) % 2 ^ 64)) (enumerate_from number chunks)
further base number [] = refl
further base number (chunk ∷ chunks) =
    let same : (base + 8 * (number + 1)) % 2 ^ 64 ≡ ((base + 8) % 2 ^ 64 + 8 * number) % 2 ^ 64 = omega arith in
    λ i. listing_line (same i) chunk ++ further base (number + 1) chunks i

pub listing_cut : (address : ℕ) (rest chunk more : List ℕ) (n : ℕ) → address < 2 ^ 64 → IsCut rest chunk more n
    → listing_of address rest ≡ listing_line address chunk ++ listing_of ((address + 8) % 2 ^ 64) more
unfolding listing_of
listing_cut address rest chunk more n low cut =
    let first : (address + 8 * 0) % 2 ^ 64 ≡ address = omega (arith, low) in
    ap (λ cs. flat_map (listing_line_at address) (enumerate_from 0 cs)) (next_chunk rest n cut.some cut.at)
    ∙ (λ i. listing_line (first i) (sym cut.front i) ++ further address 0 (chunks_of (sym cut.back i)) i)

pub listing_end : (address : ℕ) (rest : List ℕ) → length rest ≡ 0 → listing_of address rest ≡ []
unfolding listing_of
listing_end address [] h = ap (λ cs. flat_map (listing_line_at address) (enumerate_from 0 cs)) no_chunk
listing_end address (b ∷ rest) h = absurd (omega arith)

-- what a call has done where it succeeds
pub if_done : {E : Type 0} (r : Result (Unit {0}) E) (P Q : Type 0) → IsOk r ↔ P → P → OnOk r Q → Q
if_done (Ok u) P Q is p q = q
if_done (Err e) P Q is p q = absurd (false≢true (is.1 p))
