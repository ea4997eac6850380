-- Tables of windows are one: which bytes they are follows from the windows, the page of the first and the rights of references.
use Rattle.std.proofs.Common.{◌≡◌, ◌+◌, ◌-◌, ◌*◌, ◌/◌, ◌%◌, ◌^◌, ◌<◌, ◌≤◌, ◌∷◌, ◌∙◌}
use Rattle.std.proofs.Common.{inl, inr, ℕ, zero, suc, false, List, [], length, get_or, take, drop, Some, refl, ap, sym, arith, subst}
use Rattle.std.specs.Prelude.{slice_index}
use Rattle.std.proofs.lemmas.Bool.{cases_lt}
use Rattle.std.proofs.lemmas.List.{get_or-drop, get_or-take, length-drop, same_lists}
use Rattle.ept_emit.specs.declared.window.Window.{Window}
use Rattle.machine_layout.specs.Memory.{le_number}
use Rattle.machine_layout.specs.Walks.{entry_size}
use Rattle.policy_types.specs.declared.rights.Rights.{Rights}
use Rattle.ept_emit.specs.Entries.{is_whole, table_entry, word_at}
use Rattle.ept_emit.specs.Tables.{AreWritten, Below, IsWritten, child}
use Rattle.ept_emit.proofs.Found.{not_lowest}
use Rattle.ept_emit.proofs.Numbered.{first_address, table_entry_of}
use Rattle.ept_emit.proofs.OneNumbering.{AreAll, Comes, as_many, below_down, below_up, comes_same, moved, same_number}
use Rattle.ept_emit.proofs.Written.{Under, Free, Whole, Part, kind_of, word_of, window_of, written_parts, none_of, leaf_of, table_of, child_of, below_lower, below_lowest}

-- ---- what a walk finds at a table that it comes to

module _ (pointers : Rights) (word : ℕ → ℕ) (base lo hi : ℕ) (ws : List Window) where
  -- it is written as it must be
  written_at : (l c g l2 k : ℕ) → IsWritten pointers word base lo hi ws l c g → Below word base ws l c g l2 k → IsWritten pointers word base lo hi ws l2 k g
  written_at zero c g l2 k h b = absurd (below_lowest word base ws c g l2 k b)
  written_at (suc l) c g l2 k h b =
      let down = below_down base ws word l c g l2 k b in
      let d = child base (word_of word (suc l) c g) in
      let deeper = (child_of pointers word base lo hi ws l c g down.0 down.1 down.2 h).1 in
      elim down.3 [
        | inl p ↦ subst (λ t. IsWritten pointers word base lo hi ws l2 t g) (sym p.1) (subst (λ i. IsWritten pointers word base lo hi ws i d g) (sym p.0) deeper)
        | inr p ↦ written_at l d g l2 k deeper p
      ]

  -- it goes on to the table that an entry there references
  goes_deeper : (l c g l2 k : ℕ) (w : Window) → window_of ws (suc l2) g ≡ Some w → is_whole w (suc l2) (g / entry_size (suc l2)) ≡ false → Below word base ws l c g (suc l2) k
      → Below word base ws l c g l2 (child base (word_of word (suc l2) k g))
  goes_deeper zero c g l2 k w some part b = absurd (below_lowest word base ws c g (suc l2) k b)
  goes_deeper (suc l) c g l2 k w some part b =
      let down = below_down base ws word l c g (suc l2) k b in
      let d = child base (word_of word (suc l) c g) in
      let e = child base (word_of word (suc l2) k g) in
      let here : Below word base ws (suc l2) k g l2 e = below_up base ws word l2 k g l2 e w some part (inl (refl, refl)) in
      elim down.3 [
        | inl p ↦
            let at : Below word base ws l d g l2 e = subst (λ t. Below word base ws l t g l2 e) p.1 (subst (λ i. Below word base ws i k g l2 e) p.0 here) in
            below_up base ws word l c g l2 e down.0 down.1 down.2 (inr at)
        | inr p ↦ below_up base ws word l c g l2 e down.0 down.1 down.2 (inr (goes_deeper l d g l2 k w some part p))
      ]

-- ---- two lists of words

-- an address of entry i of a table's
in_table : (l h i : ℕ) → l < 3 → h < 2 ^ 48 → i < 512 → entry_size l * (512 * (h / entry_size (suc l)) + i) < 2 ^ 48
in_table zero h i low in_h small = omega arith
in_table (suc zero) h i low in_h small = omega arith
in_table (suc (suc zero)) h i low in_h small = omega arith
in_table (suc (suc (suc l))) h i low in_h small = absurd (omega arith)

module _ (pointers : Rights) (a b : ℕ → ℕ) (base m n : ℕ) (ws : List Window)
    (some_a : 1 ≤ m) (some_b : 1 ≤ n) (of_a : AreAll pointers a base m ws) (of_b : AreAll pointers b base n ws)
    (rest_a : (j : ℕ) → 512 * m ≤ j → a j ≡ 0) (rest_b : (j : ℕ) → 512 * n ≤ j → b j ≡ 0) where
  -- an entry, where the tables that it may reference have one number
  one_entry : (l k g : ℕ) → IsWritten pointers a base 1 m ws l k g → IsWritten pointers b base 1 n ws l k g
      → ((w : Window) → window_of ws l g ≡ Some w → is_whole w l (g / entry_size l) ≡ false → child base (word_of a l k g) ≡ child base (word_of b l k g))
      → word_of a l k g ≡ word_of b l k g
  one_entry l k g in_a in_b same =
      let e = g / entry_size l in
      let parts_a = written_parts pointers a base 1 m ws l k g in_a in
      let parts_b = written_parts pointers b base 1 n ws l k g in_b in
      let deep_a = Under pointers a base 1 m ws l g in
      let deep_b = Under pointers b base 1 n ws l g in
      let o = window_of ws l g in
      elim (kind_of ws l g) [
        | Free none ↦ none_of pointers deep_a base 1 m l e (word_of a l k g) o none parts_a ∙ sym (none_of pointers deep_b base 1 n l e (word_of b l k g) o none parts_b)
        | Whole w some whole ↦ leaf_of pointers deep_a base 1 m l e (word_of a l k g) o w some whole parts_a ∙ sym (leaf_of pointers deep_b base 1 n l e (word_of b l k g) o w some whole parts_b)
        | Part w some part ↦
            let of_word_a = (table_of pointers deep_a base 1 m l e (word_of a l k g) o w some part parts_a).0.is in
            let of_word_b = (table_of pointers deep_b base 1 n l e (word_of b l k g) o w some part parts_b).0.is in
            of_word_a ∙ (ap (λ c. table_entry pointers (base + c)) (same w some part) ∙ sym of_word_b)
      ]

  -- of the highest table
  first_entry : (g : ℕ) → g < 2 ^ 48 → word_of a 3 0 g ≡ word_of b 3 0 g
  first_entry g in_g =
      let c = child base (word_of a 3 0 g) in
      let d = child base (word_of b 3 0 g) in
      one_entry 3 0 g (of_a.written g in_g) (of_b.written g in_g) (λ w some part.
      let here_a : Comes a base ws g 2 c = below_up base ws a 2 0 g 2 c w some part (inl (refl, refl)) in
      let here_b : Comes b base ws g 2 d = below_up base ws b 2 0 g 2 d w some part (inl (refl, refl)) in
      same_number base ws b 3 0 g g 2 c d refl (comes_same pointers a b base m n ws of_a of_b g 2 c in_g here_a) here_b)

  -- of a table that a walk comes to, by its level
  lower_same : (l k g : ℕ) (w : Window) → g < 2 ^ 48 → window_of ws l g ≡ Some w → is_whole w l (g / entry_size l) ≡ false → Comes a base ws g l k → Comes b base ws g l k
      → child base (word_of a l k g) ≡ child base (word_of b l k g)
  lower_same zero k g w in_g some part at_a at_b = absurd (not_lowest w zero (g / entry_size zero) part refl)
  lower_same (suc l) k g w in_g some part at_a at_b =
      let c = child base (word_of a (suc l) k g) in
      let d = child base (word_of b (suc l) k g) in
      let here_a = goes_deeper pointers a base 1 m ws 3 0 g l k w some part at_a in
      let here_b = goes_deeper pointers b base 1 n ws 3 0 g l k w some part at_b in
      same_number base ws b 3 0 g g l c d refl (comes_same pointers a b base m n ws of_a of_b g l c in_g here_a) here_b

  lower_entry : (l k g : ℕ) → g < 2 ^ 48 → Comes a base ws g l k → word_of a l k g ≡ word_of b l k g
  lower_entry l k g in_g at =
      let there = comes_same pointers a b base m n ws of_a of_b g l k in_g at in
      one_entry l k g (written_at pointers a base 1 m ws 3 0 g l k (of_a.written g in_g) at) (written_at pointers b base 1 n ws 3 0 g l k (of_b.written g in_g) there)
      (λ w some part. lower_same l k g w in_g some part at there)

  -- ---- by the number of a word

  first_word : (j : ℕ) → j < 512 → a j ≡ b j
  first_word j small =
      let g = entry_size 3 * j in
      let is : g / entry_size 3 ≡ j = first_address 3 j in
      let at : 512 * 0 + g / entry_size 3 % 512 ≡ j = omega (arith, is) in
      sym (ap a at) ∙ (first_entry g (omega arith) ∙ ap b at)

  lower_word : (t i : ℕ) → 1 ≤ t → t < m → i < 512 → a (512 * t + i) ≡ b (512 * t + i)
  lower_word t i some less small =
      let r = of_a.reached t some less in
      let l = r.depth in
      let p = r.addr / entry_size (suc l) in
      let g = entry_size l * (512 * p + i) in
      let is : g / entry_size l ≡ 512 * p + i = first_address l (512 * p + i) in
      let up : g / entry_size (suc l) ≡ p = table_entry_of l p g (omega (arith, is)) in
      let low = below_lower a base ws 3 0 r.addr l t r.below in
      let in_g = in_table l r.addr i low r.within small in
      let at : 512 * t + g / entry_size l % 512 ≡ 512 * t + i = omega (arith, is) in
      sym (ap a at) ∙ (lower_entry l t g in_g (moved base ws a 3 0 r.addr g l t (sym up) r.below) ∙ ap b at)

  pub words_same : (j : ℕ) → a j ≡ b j
  words_same j =
      let many = as_many pointers a b base m n ws some_a some_b of_a of_b in
      elim (cases_lt j (512 * m)) [
        | inr past ↦ rest_a j past ∙ sym (rest_b j (omega (arith, many)))
        | inl less ↦ elim (cases_lt j 512) [
          | inl first ↦ first_word j first
          | inr later ↦
              let is : 512 * (j / 512) + j % 512 ≡ j = omega arith in
              sym (ap a is) ∙ (lower_word (j / 512) (j % 512) (omega arith) (omega arith) (omega arith) ∙ ap b is)
        ]
      ]

-- ---- bytes

-- the first n of bytes that spell one number are one
same_spelled : (n : ℕ) (xs ys : List ℕ) → length xs ≡ length ys → ((i : ℕ) → slice_index xs i < 256) → ((i : ℕ) → slice_index ys i < 256)
    → le_number (take n xs) ≡ le_number (take n ys) → take n xs ≡ take n ys
same_spelled zero xs ys many in_xs in_ys same = refl
same_spelled (suc n) [] [] many in_xs in_ys same = refl
same_spelled (suc n) [] (y ∷ ys) many in_xs in_ys same = absurd (omega arith)
same_spelled (suc n) (x ∷ xs) [] many in_xs in_ys same = absurd (omega arith)
same_spelled (suc n) (x ∷ xs) (y ∷ ys) many in_xs in_ys same =
    let x_small : x < 256 = in_xs zero in
    let y_small : y < 256 = in_ys zero in
    let first : x ≡ y = omega arith in
    let rest : le_number (take n xs) ≡ le_number (take n ys) = omega arith in
    let tail = same_spelled n xs ys (omega arith) (λ i. in_xs (suc i)) (λ i. in_ys (suc i)) rest in
    λ i. first i ∷ tail i

byte_in_word : (xs : List ℕ) (k d : ℕ) → get_or (take 8 (drop (8 * (k / 8)) xs)) (k % 8) d ≡ get_or xs k d
byte_in_word xs k d =
    let is : 8 * (k / 8) + k % 8 ≡ k = omega arith in
    get_or-take 8 (drop (8 * (k / 8)) xs) (k % 8) d (omega arith) ∙ (get_or-drop (8 * (k / 8)) xs (k % 8) d ∙ ap (λ i. get_or xs i d) is)

-- bytes of the same words
same_bytes : (xs ys : List ℕ) → length xs ≡ length ys → ((i : ℕ) → slice_index xs i < 256) → ((i : ℕ) → slice_index ys i < 256)
    → ((j : ℕ) → word_at xs j ≡ word_at ys j) → xs ≡ ys
same_bytes xs ys many in_xs in_ys same =
    same_lists xs ys many (λ k d lt.
    let n = 8 * (k / 8) in
    let long : length (drop n xs) ≡ length (drop n ys) = length-drop n xs ∙ (ap (λ i. i - n) many ∙ sym (length-drop n ys)) in
    let part = same_spelled 8 (drop n xs) (drop n ys) long (λ i. subst (λ x. x < 256) (sym (get_or-drop n xs i 0)) (in_xs (n + i)))
    (λ i. subst (λ x. x < 256) (sym (get_or-drop n ys i 0)) (in_ys (n + i))) (same (k / 8)) in
    sym (byte_in_word xs k d) ∙ (ap (λ (zs : List ℕ). get_or zs (k % 8) d) part ∙ byte_in_word ys k d))

pub tables_are_one : (pointers : Rights) (ws : List Window) (page : ℕ) (a b : List ℕ) → AreWritten pointers ws page a → AreWritten pointers ws page b
    → ((i : ℕ) → slice_index a i < 256) → ((i : ℕ) → slice_index b i < 256) → a ≡ b
tables_are_one pointers ws page a b of_a of_b bytes_a bytes_b =
    same_bytes a b (of_a.len ∙ sym of_b.len) bytes_a bytes_b
    (words_same pointers (word_at a) (word_at b) page of_a.used of_b.used ws of_a.some of_b.some of_a.numbered of_b.numbered of_a.rest of_b.rest)
