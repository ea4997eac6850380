-- The window of an entry and the window of an address.
use Rattle.std.proofs.Common.{◌≡◌, ◌≢◌, ◌⊎◌, inl, inr, ℕ, zero, suc, ◌+◌, ◌*◌, ◌/◌, ◌<◌, ◌≤◌, true, false, List, [], ◌∷◌, length, drop, get_or, Some, None, refl, ap, sym, ◌∙◌, arith, subst, All, add-one, drop-cons}
use Rattle.std.proofs.lemmas.Bool.{cases_Bool, and_parts, and_from, and_left, and_right, or_cases, leb-true, ltb-true, le-leb, le-ltb, lt-ltb, true≢false, eqb-true, cases_eq}
use Rattle.std.proofs.lemmas.List.Elements.{All-head, All-tail}
use Rattle.std.proofs.lemmas.List.{drop_all, get_or-map, get_or_default, length-drop, length-map, get_or-drop}
use Rattle.std.proofs.Math.Nat.{mul-div-le, lt-div-mul-add}
use Rattle.ept_emit.specs.declared.window.GuestRange.{GuestRange}
use Rattle.ept_emit.specs.declared.window.Window.{Window}
use Rattle.ept_emit.specs.Pages.{touches, AreApart, guest_range_of, ranges_of}
use Rattle.machine_layout.specs.Walks.{entry_size}
use Rattle.ept_emit.specs.Entries.{level_of, is_whole, window_touching}
use Rattle.ept_emit.specs.Emitted.{holds, window_at}
use Rattle.ept_emit.specs.Searches.{IsPast}

pub span_some : (l : ℕ) → 1 ≤ entry_size l
span_some zero = omega arith
span_some (suc l) = omega (arith, span_some l)

pub around : (l g : ℕ) → (entry_size l * (g / entry_size l) ≤ g) × (g < entry_size l * (g / entry_size l) + entry_size l)
around l g = let some = span_some l in (omega (arith, mul-div-le g (entry_size l)), omega (arith, lt-div-mul-add {a = g} {b = entry_size l} some))

pub touches_parts : (w : Window) (lo n : ℕ) → touches (guest_range_of w) lo n ≡ true → (w.guest < lo + n) × (lo < w.guest + w.size)
touches_parts w lo n h = let p = and_parts _ _ h in (ltb-true _ _ p.0, ltb-true _ _ p.1)

touches_from : (w : Window) (lo n : ℕ) → w.guest < lo + n → lo < w.guest + w.size → touches (guest_range_of w) lo n ≡ true
touches_from w lo n a b = and_from _ _ (lt-ltb _ _ a) (lt-ltb _ _ b)

pub holds_parts : (addr : ℕ) (w : Window) → holds addr w ≡ true → (w.guest ≤ addr) × (addr < w.guest + w.size)
holds_parts addr w h = let q = and_parts _ _ h in (leb-true _ _ q.0, ltb-true _ _ q.1)

holds_from : (addr : ℕ) (w : Window) → w.guest ≤ addr → addr < w.guest + w.size → holds addr w ≡ true
holds_from addr w a b = and_from _ _ (le-leb _ _ a) (lt-ltb _ _ b)

none_held : (w : Window) (lo n g : ℕ) → touches (guest_range_of w) lo n ≡ false → lo ≤ g → g < lo + n → holds g w ≡ false
none_held w lo n g h a b =
    elim (cases_Bool (holds g w)) [
      | inl t ↦
          let p = holds_parts g w t in
          absurd (true≢false (sym (touches_from w lo n (omega arith) (omega arith)) ∙ h))
      | inr f ↦ f
    ]

-- ---- by the window of an entry

pub none_within : (ws : List Window) (lo n g : ℕ) → window_touching ws lo n ≡ None → lo ≤ g → g < lo + n → window_at ws g ≡ None
none_within [] lo n g h a b = refl
none_within (w ∷ ws) lo n g h a b =
    elim (cases_Bool (touches (guest_range_of w) lo n)) [
      | inl t ↦ let e = rw t at h in absurd cc
      | inr f ↦ let e = rw f at h in rw (none_held w lo n g f a b) (none_within ws lo n g e a b)
    ]

pub whole_within : (ws : List Window) (lo n g : ℕ) (w : Window) → window_touching ws lo n ≡ Some w → lo ≤ g → g < lo + n → w.guest ≤ lo → lo + n ≤ w.guest + w.size → window_at ws g ≡ Some w
whole_within [] lo n g w h a b c d = absurd cc
whole_within (x ∷ ws) lo n g w h a b c d =
    elim (cases_Bool (touches (guest_range_of x) lo n)) [
      | inl t ↦
          let e = rw t at h in
          let same : x ≡ w = cc in
          rw (same, holds_from g w (omega arith) (omega arith)) refl
      | inr f ↦ let e = rw f at h in rw (none_held x lo n g f a b) (whole_within ws lo n g w e a b c d)
    ]

pub All_on : (P : Window → Type 0) (ws : List Window) (lo n : ℕ) (w : Window) → All P ws → window_touching ws lo n ≡ Some w → P w
All_on P [] lo n w all h = absurd cc
All_on P (x ∷ ws) lo n w all h =
    elim (cases_Bool (touches (guest_range_of x) lo n)) [
      | inl t ↦
          let e = rw t at h in
          let same : x ≡ w = cc in
          subst P same (All-head P x ws all)
      | inr f ↦ let e = rw f at h in All_on P ws lo n w (All-tail P x ws all) e
    ]

pub All_at : (P : Window → Type 0) (ws : List Window) (g : ℕ) (w : Window) → All P ws → window_at ws g ≡ Some w → P w
All_at P [] g w all h = absurd cc
All_at P (x ∷ ws) g w all h =
    elim (cases_Bool (holds g x)) [
      | inl t ↦
          let e = rw t at h in
          let same : x ≡ w = cc in
          subst P same (All-head P x ws all)
      | inr f ↦ let e = rw f at h in All_at P ws g w (All-tail P x ws all) e
    ]

pub first_touched : (ws : List Window) (lo n : ℕ) (w : Window) → window_touching ws lo n ≡ Some w → (w.guest < lo + n) × (lo < w.guest + w.size)
first_touched [] lo n w h = absurd cc
first_touched (x ∷ ws) lo n w h =
    elim (cases_Bool (touches (guest_range_of x) lo n)) [
      | inl t ↦
          let e = rw t at h in
          let same : x ≡ w = cc in
          subst (λ (y : Window). (y.guest < lo + n) × (lo < y.guest + y.size)) same (touches_parts x lo n t)
      | inr f ↦ let e = rw f at h in first_touched ws lo n w e
    ]

pub first_held : (ws : List Window) (g : ℕ) (w : Window) → window_at ws g ≡ Some w → (w.guest ≤ g) × (g < w.guest + w.size)
first_held [] g w h = absurd cc
first_held (x ∷ ws) g w h =
    elim (cases_Bool (holds g x)) [
      | inl t ↦
          let e = rw t at h in
          let same : x ≡ w = cc in
          subst (λ (y : Window). (y.guest ≤ g) × (g < y.guest + y.size)) same (holds_parts g x t)
      | inr f ↦ let e = rw f at h in first_held ws g w e
    ]

-- ranges that are apart, by their windows
apart_at : (ws : List Window) → AreApart (ranges_of ws) → (i j : ℕ) (d : Window) → i < j → j < length ws → (get_or ws i d).guest + (get_or ws i d).size ≤ (get_or ws j d).guest
apart_at ws h i j d before within =
    let many = length-map ws guest_range_of in
    let first : i < length ws = omega arith in
    subst (λ (r : GuestRange). r.guest + r.size ≤ (get_or ws j d).guest) (get_or-map guest_range_of ws i d (guest_range_of d) first)
    (subst (λ (r : GuestRange). (get_or (ranges_of ws) i (guest_range_of d)).guest + (get_or (ranges_of ws) i (guest_range_of d)).size ≤ r.guest) (get_or-map guest_range_of ws j d (guest_range_of d) within)
    (h i j (guest_range_of d) before (omega (arith, many, within))))

apart_head : (w : Window) (ws : List Window) → AreApart (ranges_of (w ∷ ws)) → All (λ t. w.guest + w.size ≤ t.guest) ws
apart_head w ws h = λ k d lt. apart_at (w ∷ ws) h 0 (suc k) d (omega arith) (omega arith)

apart_tail : (w : Window) (ws : List Window) → AreApart (ranges_of (w ∷ ws)) → AreApart (ranges_of ws)
apart_tail w ws h = λ i j d a b. h (suc i) (suc j) d (omega arith) (omega arith)

-- the window of an address is that of its entry, or lies above it
same_or_later : (ws : List Window) (lo n g : ℕ) (w t : Window) → AreApart (ranges_of ws) → window_touching ws lo n ≡ Some w → window_at ws g ≡ Some t → lo ≤ g → g < lo + n → (w ≡ t) ⊎ (w.guest + w.size ≤ t.guest)
same_or_later [] lo n g w t apart h k a b = absurd cc
same_or_later (x ∷ ws) lo n g w t apart h k a b =
    elim (cases_Bool (touches (guest_range_of x) lo n)) [
      | inl p ↦
          let e = rw p at h in
          let same : x ≡ w = cc in
          elim (cases_Bool (holds g x)) [
            | inl q ↦ let f = rw q at k in let one : w ≡ t = cc in inl one
            | inr q ↦
                let f = rw q at k in
                inr (subst (λ (y : Window). y.guest + y.size ≤ t.guest) same (All_at (λ y. x.guest + x.size ≤ y.guest) ws g t (apart_head x ws apart) f))
          ]
      | inr p ↦
          let e = rw p at h in
          let q = none_held x lo n g p a b in
          same_or_later ws lo n g w t (apart_tail x ws apart) e (rw q at k) a b
    ]

pub whole_parts : (w : Window) (l e : ℕ) → l ≢ 0 → is_whole w l e ≡ true → (l ≤ level_of w.leaf) × (w.guest ≤ entry_size l * e) × (entry_size l * e + entry_size l ≤ w.guest + w.size)
whole_parts w l e ne h =
    elim (or_cases _ _ h) [
      | inl z ↦ absurd (ne (eqb-true _ _ z))
      | inr r ↦
          let p = and_parts _ _ r in
          let q = and_parts _ _ p.1 in
          (leb-true _ _ p.0, leb-true _ _ q.0, leb-true _ _ q.1)
    ]

pub not_lowest : (w : Window) (l e : ℕ) → is_whole w l e ≡ false → l ≢ 0
not_lowest w zero e h z = true≢false h
not_lowest w (suc l) e h z = omega arith

-- no page of this level around the address is the window's where the entry's window hasn't it
pub not_whole : (ws : List Window) (l g : ℕ) (w t : Window) → AreApart (ranges_of ws) → l ≢ 0 → window_touching ws (entry_size l * (g / entry_size l)) (entry_size l) ≡ Some w → is_whole w l (g / entry_size l) ≡ false → window_at ws g ≡ Some t → is_whole t l (g / entry_size l) ≡ false
not_whole ws l g w t apart ne h part k =
    let e = g / entry_size l in
    let r = around l g in
    elim (same_or_later ws (entry_size l * e) (entry_size l) g w t apart h k r.0 r.1) [
      | inl same ↦ subst (λ (y : Window). is_whole y l e ≡ false) same part
      | inr later ↦ elim (cases_Bool (is_whole t l e)) [
        | inl v ↦
            let p = whole_parts t l e ne v in
            let q = first_touched ws (entry_size l * e) (entry_size l) w h in
            absurd (omega arith)
        | inr f ↦ f
      ]
    ]

-- ---- by a binary search

next_window : (ws : List Window) (i : ℕ) (d : Window) → i < length ws → drop i ws ≡ get_or ws i d ∷ drop (i + 1) ws
next_window ws i d lt = rw (add-one, drop-cons ws i d lt) refl

ends_by : (w : Window) (lo n : ℕ) → w.guest + w.size ≤ lo → touches (guest_range_of w) lo n ≡ false
ends_by w lo n h = and_right _ _ (le-ltb _ _ h)

begins_past : (w : Window) (lo n : ℕ) → lo + n ≤ w.guest → touches (guest_range_of w) lo n ≡ false
begins_past w lo n h = and_left _ _ (le-ltb _ _ h)

skip_past : (ws : List Window) (lo n k : ℕ) → k ≤ length ws → ((j : ℕ) (d : Window) → j < k → (get_or ws j d).guest + (get_or ws j d).size ≤ lo) → window_touching ws lo n ≡ window_touching (drop k ws) lo n
skip_past ws lo n zero within h = refl
skip_past [] lo n (suc k) within h = absurd (omega arith)
skip_past (w ∷ ws) lo n (suc k) within h = rw (ends_by w lo n (h 0 w (omega arith))) (skip_past ws lo n k (omega arith) (λ j d lt. h (suc j) d (omega arith)))

none_above : (ws : List Window) (lo n : ℕ) → All (λ t. lo + n ≤ t.guest) ws → window_touching ws lo n ≡ None
none_above [] lo n h = refl
none_above (w ∷ ws) lo n h = rw (begins_past w lo n (All-head (λ t. lo + n ≤ t.guest) w ws h)) (none_above ws lo n (All-tail (λ t. lo + n ≤ t.guest) w ws h))

abbrev end_at : List Window → ℕ → Window → ℕ
end_at ws j d = (get_or ws j d).guest + (get_or ws j d).size

-- a window that ends by there, and so all before it
pub past_low : (ws : List Window) (lo m : ℕ) (e : Window) → AreApart (ranges_of ws) → m < length ws → end_at ws m e ≤ lo → (j : ℕ) (d : Window) → j < m + 1 → end_at ws j d ≤ lo
past_low ws lo m e apart lt h j d small =
    let same = get_or_default ws m d e lt in
    let there : end_at ws m d ≤ lo = rw same h in
    elim (cases_eq j m) [
      | inl q ↦ rw q there
      | inr ne ↦ let a = apart_at ws apart j m d (omega arith) lt in omega arith
    ]

-- a window that doesn't, and so none behind it
pub past_high : (ws : List Window) (lo m : ℕ) (e : Window) → AreApart (ranges_of ws) → m < length ws → lo < end_at ws m e → (j : ℕ) (d : Window) → m ≤ j → j < length ws → lo < end_at ws j d
past_high ws lo m e apart lt h j d from within =
    let same = get_or_default ws m d e lt in
    let there : lo < end_at ws m d = rw same h in
    elim (cases_eq j m) [
      | inl q ↦ rw q there
      | inr ne ↦ let a = apart_at ws apart m j d (omega arith) within in omega arith
    ]

pub on_none : (ws : List Window) (lo n k : ℕ) → IsPast ws lo k → k ≡ length ws → window_touching ws lo n ≡ None
on_none ws lo n k past e =
    skip_past ws lo n k past.within past.before
    ∙ (let all : drop k ws ≡ [] = drop_all k ws (omega arith) in rw all refl)

on_cons : (w : Window) (ws : List Window) (lo n : ℕ) → touches (guest_range_of w) lo n ≡ true → window_touching (w ∷ ws) lo n ≡ Some w
on_cons w ws lo n h = rw h refl

pub on_here : (ws : List Window) (lo n k : ℕ) (d : Window) → IsPast ws lo k → k < length ws → (get_or ws k d).guest < lo + n → window_touching ws lo n ≡ Some (get_or ws k d)
on_here ws lo n k d past lt h =
    let after = past.after k d (omega arith) lt in
    skip_past ws lo n k past.within past.before
    ∙ (ap (λ xs. window_touching xs lo n) (next_window ws k d lt)
    ∙ on_cons (get_or ws k d) (drop (k + 1) ws) lo n (and_from _ _ (lt-ltb _ _ h) (lt-ltb _ _ after)))

pub on_not : (ws : List Window) (lo n k : ℕ) (d : Window) → AreApart (ranges_of ws) → IsPast ws lo k → k < length ws → lo + n ≤ (get_or ws k d).guest → window_touching ws lo n ≡ None
on_not ws lo n k d apart past lt h =
    skip_past ws lo n k past.within past.before
    ∙ none_above (drop k ws) lo n (λ i e small.
    let len = length-drop k ws in
    let at : get_or (drop k ws) i e ≡ get_or ws (k + i) e = get_or-drop k ws i e in
    let same = get_or_default ws k e d lt in
    let first : lo + n ≤ (get_or ws k e).guest = rw same h in
    rw at (elim (cases_eq i 0) [
      | inl z ↦ let q : k + i ≡ k = omega arith in rw q first
      | inr ne ↦ let a = apart_at ws apart k (k + i) e (omega arith) (omega (arith, len)) in omega arith
    ]))
