-- Tables of the same windows have the same numbers, whatever lists of words they stand in.
use Rattle.std.proofs.Common.{◌≡◌, inl, inr, ℕ, zero, suc, ◌+◌, ◌*◌, ◌/◌, ◌%◌, ◌^◌, ◌<◌, ◌≤◌, false, List, Some, refl, ap, sym, ◌∙◌, arith, subst}
use Rattle.std.proofs.lemmas.Bool.{cases_eq, cases_lt, cases_order}
use Rattle.std.proofs.Math.Nat.{div-eq_of_lt-le}
use Rattle.ept_emit.specs.declared.window.Window.{Window}
use Rattle.machine_layout.specs.Walks.{entry_size}
use Rattle.policy_types.specs.declared.rights.Rights.{Rights}
use Rattle.ept_emit.specs.Entries.{is_whole, window_touching}
use Rattle.ept_emit.specs.Tables.{AreNumbered, Below, child}
use Rattle.ept_emit.proofs.Found.{around}
use Rattle.ept_emit.proofs.Numbered.{below_leaf, below_none, entry_table}
use Rattle.ept_emit.proofs.Written.{Meets, Free, Whole, Part, kind_of, word_of, window_of, below_from, below_lower, below_lowest, below_parts, below_within, leads_from, leads_to}

-- ---- addresses of one table

-- those of one entry are those of one entry of each level above
next_level : (l g h : ℕ) → g / entry_size l ≡ h / entry_size l → g / entry_size (suc l) ≡ h / entry_size (suc l)
next_level l g h e = sym (entry_table l (g / entry_size (suc l)) g refl) ∙ (ap (λ n. n / 512) e ∙ entry_table l (h / entry_size (suc l)) h refl)

above : (low l g h : ℕ) → low ≤ l → g / entry_size low ≡ h / entry_size low → g / entry_size l ≡ h / entry_size l
above low zero g h le e = let same : low ≡ 0 = omega arith in subst (λ n. g / entry_size n ≡ h / entry_size n) same e
above low (suc l) g h le e =
    elim (cases_eq low (suc l)) [
      | inl same ↦ subst (λ n. g / entry_size n ≡ h / entry_size n) same e
      | inr ne ↦ next_level l g h (above low l g h (omega arith) e)
    ]

-- an address between two of them is one
between : (l g h i : ℕ) → g / entry_size l ≡ i / entry_size l → i ≤ h → h ≤ g → g / entry_size l ≡ h / entry_size l
between l g h i e low high =
    let size = entry_size l in
    let q = g / entry_size l in
    let a = around l g in
    let b = around l i in
    let begin : size * q ≤ i = subst (λ n. size * n ≤ i) (sym e) b.0 in
    let first : q * size ≤ h = omega (arith, begin) in
    let last : h < (q + 1) * size = omega (arith, a.1) in
    sym (div-eq_of_lt-le {k = q} size {m = h} first last)

-- ---- one walk

module _ (base : ℕ) (ws : List Window) where
  -- from an entry that refers to a table, by its window
  pub below_down : (word : ℕ → ℕ) (l c g l2 k : ℕ) → Below word base ws (suc l) c g l2 k
      → (w : Window) × (window_of ws (suc l) g ≡ Some w) × (is_whole w (suc l) (g / entry_size (suc l)) ≡ false) × Meets word base ws l (child base (word_of word (suc l) c g)) g l2 k
  below_down word l c g l2 k b =
      elim (kind_of ws (suc l) g) [
        | Free none ↦ absurd (below_none word base ws (suc l) c g l2 k none b)
        | Whole w some whole ↦ absurd (below_leaf word base ws (suc l) c g l2 k w some whole b)
        | Part w some part ↦
            let d = child base (word_of word (suc l) c g) in
            (w, some, part, leads_to (λ t. Meets word base ws l t g l2 k) d (suc l) (g / entry_size (suc l)) (window_of ws (suc l) g) w some part (below_parts word base ws l c g l2 k b))
      ]

  pub below_up : (word : ℕ → ℕ) (l c g l2 k : ℕ) (w : Window) → window_of ws (suc l) g ≡ Some w → is_whole w (suc l) (g / entry_size (suc l)) ≡ false
      → Meets word base ws l (child base (word_of word (suc l) c g)) g l2 k → Below word base ws (suc l) c g l2 k
  below_up word l c g l2 k w some part m =
      let d = child base (word_of word (suc l) c g) in
      below_from word base ws l c g l2 k (leads_from (λ t. Meets word base ws l t g l2 k) d (suc l) (g / entry_size (suc l)) (window_of ws (suc l) g) w some part m)

  -- addresses of one table come to one number
  pub same_number : (word : ℕ → ℕ) (l c g h l2 k j : ℕ) → g / entry_size (suc l2) ≡ h / entry_size (suc l2) → Below word base ws l c g l2 k → Below word base ws l c h l2 j → k ≡ j
  same_number word zero c g h l2 k j e x y = absurd (below_lowest word base ws c g l2 k x)
  same_number word (suc l) c g h l2 k j e x y =
      let low = below_lower word base ws (suc l) c g l2 k x in
      let up = above (suc l2) (suc l) g h (omega (arith, low)) e in
      let one : child base (word_of word (suc l) c g) ≡ child base (word_of word (suc l) c h) = ap (λ i. child base (word (512 * c + i % 512))) up in
      let of_g = (below_down word l c g l2 k x).3 in
      let of_h = (below_down word l c h l2 j y).3 in
      elim of_g [
        | inl p ↦ elim of_h [
          | inl q ↦ p.1 ∙ (one ∙ sym q.1)
          | inr q ↦ let lower = below_lower word base ws l (child base (word_of word (suc l) c h)) h l2 j q in absurd (omega (arith, lower, p.0))
        ]
        | inr p ↦ elim of_h [
          | inl q ↦ let lower = below_lower word base ws l (child base (word_of word (suc l) c g)) g l2 k p in absurd (omega (arith, lower, q.0))
          | inr q ↦ same_number word l (child base (word_of word (suc l) c g)) g h l2 k j e p (subst (λ t. Below word base ws l t h l2 j) (sym one) q)
        ]
      ]

  -- and in other words, for the same windows, to some number
  pub other_number : (word other : ℕ → ℕ) (l c d g h l2 k : ℕ) → g / entry_size (suc l2) ≡ h / entry_size (suc l2) → Below word base ws l c g l2 k
      → (j : ℕ) × Below other base ws l d h l2 j
  other_number word other zero c d g h l2 k e x = absurd (below_lowest word base ws c g l2 k x)
  other_number word other (suc l) c d g h l2 k e x =
      let low = below_lower word base ws (suc l) c g l2 k x in
      let up = above (suc l2) (suc l) g h (omega (arith, low)) e in
      let down = below_down word l c g l2 k x in
      let w = down.0 in
      let some : window_of ws (suc l) h ≡ Some w = ap (λ i. window_touching ws (entry_size (suc l) * i) (entry_size (suc l))) (sym up) ∙ down.1 in
      let part : is_whole w (suc l) (h / entry_size (suc l)) ≡ false = ap (λ i. is_whole w (suc l) i) (sym up) ∙ down.2 in
      let c2 = child base (word_of word (suc l) c g) in
      let d2 = child base (word_of other (suc l) d h) in
      elim down.3 [
        | inl p ↦ (d2, below_up other l d h l2 d2 w some part (inl (p.0, refl)))
        | inr p ↦
            let r = other_number word other l c2 d2 g h l2 k e p in
            (r.0, below_up other l d h l2 r.0 w some part (inr r.1))
      ]

  -- an address of the same table comes to it
  pub moved : (word : ℕ → ℕ) (l c g h l2 k : ℕ) → g / entry_size (suc l2) ≡ h / entry_size (suc l2) → Below word base ws l c g l2 k → Below word base ws l c h l2 k
  moved word l c g h l2 k e x =
      let r = other_number word word l c c g h l2 k e x in
      subst (λ j. Below word base ws l c h l2 j) (sym (same_number word l c g h l2 k r.0 e x r.1)) r.1

-- ---- two lists of words

abbrev pub AreAll : Rights → (ℕ → ℕ) → ℕ → ℕ → List Window → Type 0
AreAll pointers word base top ws = AreNumbered pointers word base 1 top ws 3 0 (λ addr. addr < 2 ^ 48)

-- a walk of an address from the highest table comes to a table
abbrev pub Comes : (ℕ → ℕ) → ℕ → List Window → ℕ → ℕ → ℕ → Type 0
Comes word base ws g l k = Below word base ws 3 0 g l k

-- what comes to a table of a number below k in the one comes to that in the other
abbrev ComesBelow : (ℕ → ℕ) → (ℕ → ℕ) → ℕ → List Window → ℕ → Type 0
ComesBelow word other base ws k = (g l j : ℕ) → g < 2 ^ 48 → j < k → Comes word base ws g l j → Comes other base ws g l j

module _ (pointers : Rights) (a b : ℕ → ℕ) (base m n : ℕ) (ws : List Window)
    (of_a : AreAll pointers a base m ws) (of_b : AreAll pointers b base n ws) (k : ℕ) (a_to_b : ComesBelow a b base ws k) (b_to_a : ComesBelow b a base ws k) where
  -- the other's table of number k is another one, which lies before the table that has a greater number there; then the one
  -- numbers these two the other way round
  not_greater : (g l k2 : ℕ) → g < 2 ^ 48 → Comes a base ws g l k → Comes b base ws g l k2 → k < k2 → ⊥
  not_greater g l k2 in_g at there more =
      let some = (below_within pointers a base 1 m ws 3 0 g l k (of_a.written g in_g) at).0 in
      let first = of_b.order g l k k2 in_g there some (omega (arith, more)) in
      let h = first.addr in
      let h_level = first.depth in
      let in_h = first.within.0 in
      let s = other_number base ws b a 3 0 0 h h h_level k refl first.below in
      elim (cases_order s.0 k) [
        | inl same ↦
            let p = of_a.paths g h l h_level k in_g in_h at (subst (λ j. Comes a base ws h h_level j) same s.1) in
            let one = same_number base ws b 3 0 g h l k2 k p.1 there (subst (λ d. Comes b base ws h d k) (sym p.0) first.below) in
            omega (arith, one, more)
        | inr (inl less) ↦
            let one = same_number base ws b 3 0 h h h_level k s.0 refl first.below (a_to_b h h_level s.0 in_h less s.1) in
            omega (arith, one, less)
        | inr (inr greater) ↦
            let t = of_a.order h h_level k s.0 in_h s.1 some (omega (arith, greater)) in
            let p = of_a.paths g t.addr l t.depth k in_g t.within.0 at t.below in
            let same = between (suc l) g h t.addr p.1 t.within.1 first.within.1 in
            let here_a = moved base ws a 3 0 g h l k same at in
            let here_b = moved base ws b 3 0 g h l k2 same there in
            elim (cases_order h_level l) [
              | inl e ↦
                  let one = same_number base ws a 3 0 h h l k s.0 refl here_a (subst (λ d. Comes a base ws h d s.0) e s.1) in
                  omega (arith, one, greater)
              | inr (inl lower) ↦ let up = of_b.ascending h l k2 h_level k in_h here_b first.below lower in omega (arith, up, more)
              | inr (inr higher) ↦ let up = of_a.ascending h h_level s.0 l k in_h s.1 here_a higher in omega (arith, up, greater)
            ]
      ]

  same_at : (g l : ℕ) → g < 2 ^ 48 → Comes a base ws g l k → Comes b base ws g l k
  same_at g l in_g at =
      let r = other_number base ws a b 3 0 0 g g l k refl at in
      elim (cases_order r.0 k) [
        | inl same ↦ subst (λ j. Comes b base ws g l j) same r.1
        | inr (inl less) ↦
            let one = same_number base ws a 3 0 g g l k r.0 refl at (b_to_a g l r.0 in_g less r.1) in
            absurd (omega (arith, one, less))
        | inr (inr more) ↦ absurd (not_greater g l r.0 in_g at r.1 more)
      ]

-- up to each number
both_below : (pointers : Rights) (a b : ℕ → ℕ) (base m n : ℕ) (ws : List Window) → AreAll pointers a base m ws → AreAll pointers b base n ws
    → (k : ℕ) → ComesBelow a b base ws k × ComesBelow b a base ws k
both_below pointers a b base m n ws of_a of_b zero = ((λ g l j in_g lt x. absurd (omega (arith, lt))), (λ g l j in_g lt x. absurd (omega (arith, lt))))
both_below pointers a b base m n ws of_a of_b (suc k) =
    let less = both_below pointers a b base m n ws of_a of_b k in (
      (λ g l j in_g lt x. elim (cases_lt j k) [
        | inl below ↦ less.0 g l j in_g below x
        | inr not_below ↦
            let same : j ≡ k = omega (arith, lt, not_below) in
            subst (λ i. Comes b base ws g l i) (sym same) (same_at pointers a b base m n ws of_a of_b k less.0 less.1 g l in_g (subst (λ i. Comes a base ws g l i) same x))
      ]),
      (λ g l j in_g lt x. elim (cases_lt j k) [
        | inl below ↦ less.1 g l j in_g below x
        | inr not_below ↦
            let same : j ≡ k = omega (arith, lt, not_below) in
            subst (λ i. Comes a base ws g l i) (sym same) (same_at pointers b a base n m ws of_b of_a k less.1 less.0 g l in_g (subst (λ i. Comes b base ws g l i) same x))
      ]),
    )

-- **the number of a table** is the same
pub comes_same : (pointers : Rights) (a b : ℕ → ℕ) (base m n : ℕ) (ws : List Window) → AreAll pointers a base m ws → AreAll pointers b base n ws
    → (g l k : ℕ) → g < 2 ^ 48 → Comes a base ws g l k → Comes b base ws g l k
comes_same pointers a b base m n ws of_a of_b g l k in_g x =
    let all = both_below pointers a b base m n ws of_a of_b (suc k) in
    all.0 g l k in_g (omega arith) x

-- there are as many of them
no_more : (pointers : Rights) (a b : ℕ → ℕ) (base m n : ℕ) (ws : List Window) → 1 ≤ m → AreAll pointers a base m ws → AreAll pointers b base n ws → m < n → ⊥
no_more pointers a b base m n ws some of_a of_b less =
    let r = of_b.reached m some less in
    let here = comes_same pointers b a base n m ws of_b of_a r.addr r.depth m r.within r.below in
    let in_a = (below_within pointers a base 1 m ws 3 0 r.addr r.depth m (of_a.written r.addr r.within) here).1 in
    omega (arith, in_a)

pub as_many : (pointers : Rights) (a b : ℕ → ℕ) (base m n : ℕ) (ws : List Window) → 1 ≤ m → 1 ≤ n → AreAll pointers a base m ws → AreAll pointers b base n ws → m ≡ n
as_many pointers a b base m n ws some_a some_b of_a of_b =
    elim (cases_order m n) [
      | inl same ↦ same
      | inr (inl less) ↦ absurd (no_more pointers a b base m n ws some_a of_a of_b less)
      | inr (inr more) ↦ absurd (no_more pointers b a base n m ws some_b of_b of_a more)
    ]
