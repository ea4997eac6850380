-- The first window that doesn't end by an address.
use Rattle.std.proofs.Common.{◌≡◌, ℕ, zero, suc, ◌+◌, ◌<◌, ◌≤◌, Bool, true, false, List, [], ◌∷◌, length, None, Some, refl, sym, ap, subst, inl, inr, arith}
use Rattle.std.specs.Prelude.{nat_le, slice_index_or}
use Rattle.std.specs.List.{All, find}
use Rattle.std.specs.List.Sorted.{IsPartitionPoint}
use Rattle.std.proofs.Math.Bool.{and-false}
use Rattle.std.proofs.lemmas.Bool.{cases_lt, and_from, leb-true, leb-false, le-leb, lt-ltb, lt-leb, le-ltb}
use Rattle.ept_check.specs.Pieces.{HasNoEdgeBetween}
use Rattle.ept_check.specs.Sound.{AreApart}
use Rattle.ept_emit.specs.Emitted.{holds, window_at}
use Rattle.ept_emit.specs.Searches.{IsPast}
use Rattle.ept_emit.specs.declared.window.Leaf.TheVariants.{Small}
use Rattle.ept_emit.specs.declared.window.Window.{Window}
use Rattle.ept_emit.specs.rights.Caching.TheVariants.{Uc}
use Rattle.ept_emit.specs.rights.Rights.TheVariants.{R}

-- a window to read by
abbrev pub some_window : Window
some_window = record { guest = 0; size = 0; address = 0; rights = R; caching = Uc; leaf = Small }

abbrev end_of : Window → ℕ
end_of w = w.guest + w.size

-- it doesn't hold an address by which it ends, nor one before it
past_not : (addr : ℕ) (w : Window) → end_of w ≤ addr → holds addr w ≡ false
past_not addr w h = let out = le-ltb addr (end_of w) h in rw out (and-false (nat_le w.guest addr))

later_not : (addr : ℕ) (w : Window) → addr < w.guest → holds addr w ≡ false
later_not addr w h = let out = lt-leb w.guest addr h in rw out refl

find_none : (test : Window → Bool) (ws : List Window) → ((k : ℕ) (d : Window) → k < length ws → test (slice_index_or ws k d) ≡ false) → find test ws ≡ None
find_none test [] h = refl
find_none test (w ∷ ws) h = let first = h 0 w (omega arith) in rw first (find_none test ws (λ k d l. h (suc k) d (omega (arith, l))))

find_here : (test : Window → Bool) (ws : List Window) (n : ℕ) → n < length ws → ((k : ℕ) (d : Window) → k < n → test (slice_index_or ws k d) ≡ false) → ((d : Window) → test (slice_index_or ws n d) ≡ true) → (d : Window) → Some (slice_index_or ws n d) ≡ find test ws
find_here test [] n l h t d = absurd (omega (arith, l))
find_here test (w ∷ ws) zero l h t d = let here = t w in rw here refl
find_here test (w ∷ ws) (suc n) l h t d =
    let first = h 0 w (omega arith) in rw first (find_here test ws n (omega (arith, l)) (λ k e m. h (suc k) e (omega (arith, m))) t d)

same_item : (ws : List Window) (k : ℕ) (d e : Window) → k < length ws → slice_index_or ws k d ≡ slice_index_or ws k e
same_item [] k d e l = absurd (omega (arith, l))
same_item (w ∷ ws) zero d e l = refl
same_item (w ∷ ws) (suc k) d e l = same_item ws k d e (omega (arith, l))

-- those that end by an address come first
pub ends_parted : (ws : List Window) → AreApart ws → (addr i j : ℕ) (d : Window) → i ≤ j → j < length ws → nat_le (end_of (slice_index_or ws j d)) addr ≡ true → nat_le (end_of (slice_index_or ws i d)) addr ≡ true
ends_parted ws apart addr i j d l m h = elim (cases_lt i j) [
  | inl less ↦ let order = apart i j d less m in let late = leb-true _ addr h in le-leb _ addr (omega (arith, order, late))
  | inr more ↦ let is : i ≡ j = omega (arith, l, more) in subst (λ k. nat_le (end_of (slice_index_or ws k d)) addr ≡ true) (sym is) h
]

module _ (ws : List Window) (apart : AreApart ws) (addr place : ℕ) (past : IsPast ws addr place) where
  pub all_past : place ≡ length ws → None ≡ window_at ws addr
  all_past e = sym (find_none (holds addr) ws (λ k d l. past_not addr (slice_index_or ws k d) (past.before k d (omega (arith, e, l)))))

  -- those from the place on begin where its window does or later
  later : (e : Window) → place < length ws → (k : ℕ) (d : Window) → place ≤ k → k < length ws → (slice_index_or ws place e).guest ≤ (slice_index_or ws k d).guest
  later e l k d ge lt = elim (cases_lt place k) [
    | inl less ↦ let order = apart place k e less lt in let same = ap (λ w. w.guest) (same_item ws k d e lt) in omega (arith, order, same)
    | inr more ↦
        let is : place ≡ k = omega (arith, ge, more) in
        let same = ap (λ w. w.guest) (same_item ws place e d l) in
        subst (λ j. (slice_index_or ws place e).guest ≤ (slice_index_or ws j d).guest) is (omega (arith, same))
  ]

  pub none_here : (e : Window) → place < length ws → addr < (slice_index_or ws place e).guest → None ≡ window_at ws addr
  none_here e l h = sym (find_none (holds addr) ws (λ k d lt. elim (cases_lt k place) [
    | inl less ↦ past_not addr (slice_index_or ws k d) (past.before k d less)
    | inr more ↦ later_not addr (slice_index_or ws k d) (omega (arith, later e l k d more lt, h))
  ]))

  pub one_here : (e : Window) → place < length ws → (slice_index_or ws place e).guest ≤ addr → Some (slice_index_or ws place e) ≡ window_at ws addr
  one_here e l h = find_here (holds addr) ws place l (λ k d m. past_not addr (slice_index_or ws k d) (past.before k d m)) (λ d.
      let same = ap (λ w. w.guest) (same_item ws place d e l) in
      and_from _ _ (le-leb _ _ (omega (arith, same, h))) (lt-ltb _ _ (past.after place d (omega arith) l))) e

  before_apart : (next k : ℕ) (d : Window) → k < place → HasNoEdgeBetween addr next (slice_index_or ws k d)
  before_apart next k d less = let h = past.before k d less in record { begins = inl (omega (arith, h)); ends = inl h }

  pub all_apart : (next : ℕ) → place ≡ length ws → All (HasNoEdgeBetween addr next) ws
  all_apart next e = λ k d lt. before_apart next k d (omega (arith, e, lt))

  pub none_apart : (e : Window) (next : ℕ) → place < length ws → next ≤ (slice_index_or ws place e).guest → All (HasNoEdgeBetween addr next) ws
  none_apart e next l h = λ k d lt. elim (cases_lt k place) [
    | inl less ↦ before_apart next k d less
    | inr more ↦ let far = later e l k d more lt in record { begins = inr (omega (arith, far, h)); ends = inr (omega (arith, far, h)) }
  ]

  pub one_apart : (e : Window) (next : ℕ) → place < length ws → (slice_index_or ws place e).guest ≤ addr → next ≤ (slice_index_or ws place e).guest + (slice_index_or ws place e).size → All (HasNoEdgeBetween addr next) ws
  one_apart e next l start h = λ k d lt. elim (cases_lt k place) [
    | inl less ↦ before_apart next k d less
    | inr more ↦ elim (cases_lt place k) [
      | inl less ↦
          let order = apart place k e less lt in
          let same = ap (λ w. w.guest) (same_item ws k d e lt) in
          record { begins = inr (omega (arith, order, same, h)); ends = inr (omega (arith, order, same, h)) }
      | inr same_place ↦
          let is : place ≡ k = omega (arith, more, same_place) in
          subst (λ j. HasNoEdgeBetween addr next (slice_index_or ws j d)) is
          (let item = same_item ws place e d l in subst (λ w. HasNoEdgeBetween addr next w) item (record { begins = inl start; ends = inr h }))
    ]
  ]

-- where those that end by an address end
pub past_from : (ws : List Window) (addr i : ℕ) → i ≤ length ws → IsPartitionPoint (λ w. nat_le (end_of w) addr ≡ true) (λ w. nat_le (end_of w) addr ≡ false) ws i → IsPast ws addr i
past_from ws addr i b point =
    record {
      within = b;
      before = λ j d l. leb-true _ addr (point.0 j d (omega arith) l);
      after = λ j d l m. leb-false _ addr (point.1 j d l m);
    }
