-- One entry at a time: what stands, and what stays where other words change.
use Rattle.std.proofs.Common.{◌≡◌, ◌⊎◌, inl, inr, ℕ, zero, suc, ◌+◌, ◌*◌, ◌/◌, ◌%◌, ◌<◌, ◌≤◌, true, false, List, Option, Some, None, refl, arith}
use Rattle.std.proofs.lemmas.Bool.{cases_Bool}
use Rattle.ept_emit.specs.declared.window.Window.{Window}
use Rattle.machine_layout.specs.Walks.{entry_size}
use Rattle.policy_types.specs.declared.rights.Rights.{Rights}
use Rattle.ept_emit.specs.Entries.{is_whole, leaf_entry, window_touching}
use Rattle.ept_emit.specs.Tables.{IsWritten, Below, EntryFitsWindow, Leads, IsReference, child}

-- ---- one form for all levels

abbrev pub Under : Rights → (ℕ → ℕ) → ℕ → ℕ → ℕ → List Window → ℕ → ℕ → ℕ → Type 0
Under pointers out base lo hi ws zero g c = ⊥
Under pointers out base lo hi ws (suc l) g c = IsWritten pointers out base lo hi ws l c g

-- the entry, its word and its window
abbrev pub word_of : (ℕ → ℕ) → ℕ → ℕ → ℕ → ℕ
word_of out l k g = out (512 * k + g / entry_size l % 512)

abbrev pub window_of : List Window → ℕ → ℕ → Option Window
window_of ws l g = window_touching ws (entry_size l * (g / entry_size l)) (entry_size l)

pub written_parts : (pointers : Rights) (out : ℕ → ℕ) (base lo hi : ℕ) (ws : List Window) (l k g : ℕ) → IsWritten pointers out base lo hi ws l k g → EntryFitsWindow pointers (Under pointers out base lo hi ws l g) base lo hi l (g / entry_size l) (word_of out l k g) (window_of ws l g)
unfolding IsWritten
written_parts pointers out base lo hi ws zero k g h = h
written_parts pointers out base lo hi ws (suc l) k g h = h

pub written_from : (pointers : Rights) (out : ℕ → ℕ) (base lo hi : ℕ) (ws : List Window) (l k g : ℕ) → EntryFitsWindow pointers (Under pointers out base lo hi ws l g) base lo hi l (g / entry_size l) (word_of out l k g) (window_of ws l g) → IsWritten pointers out base lo hi ws l k g
unfolding IsWritten
written_from pointers out base lo hi ws zero k g h = h
written_from pointers out base lo hi ws (suc l) k g h = h

abbrev pub Meets : (ℕ → ℕ) → ℕ → List Window → ℕ → ℕ → ℕ → ℕ → ℕ → Type 0
Meets out base ws l k g l2 k2 = ((l2 ≡ l) × (k2 ≡ k)) ⊎ Below out base ws l k g l2 k2

pub below_parts : (out : ℕ → ℕ) (base : ℕ) (ws : List Window) (l k g l2 k2 : ℕ) → Below out base ws (suc l) k g l2 k2 → Leads (λ c. Meets out base ws l c g l2 k2) (child base (word_of out (suc l) k g)) (suc l) (g / entry_size (suc l)) (window_of ws (suc l) g)
unfolding Below
below_parts out base ws l k g l2 k2 h = h

pub below_from : (out : ℕ → ℕ) (base : ℕ) (ws : List Window) (l k g l2 k2 : ℕ) → Leads (λ c. Meets out base ws l c g l2 k2) (child base (word_of out (suc l) k g)) (suc l) (g / entry_size (suc l)) (window_of ws (suc l) g) → Below out base ws (suc l) k g l2 k2
unfolding Below
below_from out base ws l k g l2 k2 h = h

pub below_lowest : (out : ℕ → ℕ) (base : ℕ) (ws : List Window) (k g l2 k2 : ℕ) → Below out base ws zero k g l2 k2 → ⊥
unfolding Below
below_lowest out base ws k g l2 k2 h = h

-- ---- by the window

pub stands_none : (pointers : Rights) (deeper : ℕ → Type 0) (base lo hi l e word : ℕ) (o : Option Window) → o ≡ None → word ≡ 0 → EntryFitsWindow pointers deeper base lo hi l e word o
stands_none pointers deeper base lo hi l e word o none h = rw none h

pub stands_leaf : (pointers : Rights) (deeper : ℕ → Type 0) (base lo hi l e word : ℕ) (o : Option Window) (w : Window) → o ≡ Some w → is_whole w l e ≡ true → word ≡ leaf_entry w l e → EntryFitsWindow pointers deeper base lo hi l e word o
stands_leaf pointers deeper base lo hi l e word o w some whole h = rw some (rw whole h)

pub stands_table : (pointers : Rights) (deeper : ℕ → Type 0) (base lo hi l e word : ℕ) (o : Option Window) (w : Window) → o ≡ Some w → is_whole w l e ≡ false → IsReference pointers base lo hi word → deeper (child base word) → EntryFitsWindow pointers deeper base lo hi l e word o
stands_table pointers deeper base lo hi l e word o w some whole r h = rw some (rw whole (r, h))

pub table_of : (pointers : Rights) (deeper : ℕ → Type 0) (base lo hi l e word : ℕ) (o : Option Window) (w : Window) → o ≡ Some w → is_whole w l e ≡ false → EntryFitsWindow pointers deeper base lo hi l e word o → IsReference pointers base lo hi word × deeper (child base word)
table_of pointers deeper base lo hi l e word o w some whole h = let a = rw some at h in rw whole at a

pub leaf_of : (pointers : Rights) (deeper : ℕ → Type 0) (base lo hi l e word : ℕ) (o : Option Window) (w : Window) → o ≡ Some w → is_whole w l e ≡ true → EntryFitsWindow pointers deeper base lo hi l e word o → word ≡ leaf_entry w l e
leaf_of pointers deeper base lo hi l e word o w some whole h = let a = rw some at h in rw whole at a

pub none_of : (pointers : Rights) (deeper : ℕ → Type 0) (base lo hi l e word : ℕ) (o : Option Window) → o ≡ None → EntryFitsWindow pointers deeper base lo hi l e word o → word ≡ 0
none_of pointers deeper base lo hi l e word o none h = rw none at h

pub leads_none : (deeper : ℕ → Type 0) (c l e : ℕ) (o : Option Window) → o ≡ None → Leads deeper c l e o → ⊥
leads_none deeper c l e o none h = rw none at h

pub leads_leaf : (deeper : ℕ → Type 0) (c l e : ℕ) (o : Option Window) (w : Window) → o ≡ Some w → is_whole w l e ≡ true → Leads deeper c l e o → ⊥
leads_leaf deeper c l e o w some whole h = let a = rw some at h in rw whole at a

pub leads_to : (deeper : ℕ → Type 0) (c l e : ℕ) (o : Option Window) (w : Window) → o ≡ Some w → is_whole w l e ≡ false → Leads deeper c l e o → deeper c
leads_to deeper c l e o w some whole h = let a = rw some at h in rw whole at a

pub leads_from : (deeper : ℕ → Type 0) (c l e : ℕ) (o : Option Window) (w : Window) → o ≡ Some w → is_whole w l e ≡ false → deeper c → Leads deeper c l e o
leads_from deeper c l e o w some whole h = rw some (rw whole h)

-- what an entry's window says of it
pub data Kinds (ws : List Window) (l g : ℕ) : Type 0 where
  Free : window_of ws l g ≡ None → Kinds ws l g
  Whole : (w : Window) → window_of ws l g ≡ Some w → is_whole w l (g / entry_size l) ≡ true → Kinds ws l g
  Part : (w : Window) → window_of ws l g ≡ Some w → is_whole w l (g / entry_size l) ≡ false → Kinds ws l g

by_option : (ws : List Window) (l g : ℕ) (o : Option Window) → window_of ws l g ≡ o → Kinds ws l g
by_option ws l g None h = Free h
by_option ws l g (Some w) h =
    elim (cases_Bool (is_whole w l (g / entry_size l))) [
      | inl t ↦ Whole w h t
      | inr f ↦ Part w h f
    ]

pub kind_of : (ws : List Window) (l g : ℕ) → Kinds ws l g
kind_of ws l g = by_option ws l g _ refl

-- ---- what stays

pub reference_wide : (pointers : Rights) (base lo hi lo2 hi2 word : ℕ) → lo2 ≤ lo → hi ≤ hi2 → IsReference pointers base lo hi word → IsReference pointers base lo2 hi2 word
reference_wide pointers base lo hi lo2 hi2 word below above r =
    record {
      is = r.is;
      low = omega (arith, r.low);
      high = omega (arith, r.high);
    }

keeps_entry : (pointers : Rights) (base lo hi lo2 hi2 l e word : ℕ) (old new : ℕ → Type 0) (o : Option Window) → lo2 ≤ lo → hi ≤ hi2 → ((c : ℕ) → lo ≤ c → c < hi → old c → new c) → EntryFitsWindow pointers old base lo hi l e word o → EntryFitsWindow pointers new base lo2 hi2 l e word o
keeps_entry pointers base lo hi lo2 hi2 l e word old new None below above deeper = λ h. h
keeps_entry pointers base lo hi lo2 hi2 l e word old new (Some w) below above deeper =
    elim (cases_Bool (is_whole w l e)) [
      | inl t ↦ rw t (λ h. h)
      | inr f ↦ rw f (λ h. (reference_wide pointers base lo hi lo2 hi2 word below above h.0, deeper (child base word) h.0.low h.0.high h.1))
    ]

-- tables and an entry that nothing changed, in bounds as wide or wider
pub keeps : (pointers : Rights) (out new : ℕ → ℕ) (base lo hi lo2 hi2 : ℕ) (ws : List Window) → lo2 ≤ lo → hi ≤ hi2 → ((j : ℕ) → 512 * lo ≤ j → j < 512 * hi → new j ≡ out j) → (l k g : ℕ) → word_of new l k g ≡ word_of out l k g → IsWritten pointers out base lo hi ws l k g → IsWritten pointers new base lo2 hi2 ws l k g
keeps pointers out new base lo hi lo2 hi2 ws below above same zero k g at h =
    written_from pointers new base lo2 hi2 ws zero k g (rw at (keeps_entry pointers base lo hi lo2 hi2 zero (g / entry_size zero) (word_of out zero k g) (Under pointers out base lo hi ws zero g) (Under pointers new base lo2 hi2 ws zero g) (window_of ws zero g) below above (λ c _ _ s. absurd s) (written_parts pointers out base lo hi ws zero k g h)))
keeps pointers out new base lo hi lo2 hi2 ws below above same (suc l) k g at h =
    written_from pointers new base lo2 hi2 ws (suc l) k g (rw at (keeps_entry pointers base lo hi lo2 hi2 (suc l) (g / entry_size (suc l)) (word_of out (suc l) k g) (Under pointers out base lo hi ws (suc l) g) (Under pointers new base lo2 hi2 ws (suc l) g) (window_of ws (suc l) g) below above (λ c a b s. keeps pointers out new base lo hi lo2 hi2 ws below above same l c g (same _ (omega arith) (omega arith)) s) (written_parts pointers out base lo hi ws (suc l) k g h)))

-- the table that is referenced, with what is written below it
pub child_of : (pointers : Rights) (out : ℕ → ℕ) (base lo hi : ℕ) (ws : List Window) (l k g : ℕ) (w : Window) → window_of ws (suc l) g ≡ Some w → is_whole w (suc l) (g / entry_size (suc l)) ≡ false → IsWritten pointers out base lo hi ws (suc l) k g → IsReference pointers base lo hi (word_of out (suc l) k g) × IsWritten pointers out base lo hi ws l (child base (word_of out (suc l) k g)) g
child_of pointers out base lo hi ws l k g w some part h = table_of pointers (Under pointers out base lo hi ws (suc l) g) base lo hi (suc l) (g / entry_size (suc l)) (word_of out (suc l) k g) (window_of ws (suc l) g) w some part (written_parts pointers out base lo hi ws (suc l) k g h)

-- the tables below are those
pub below_within : (pointers : Rights) (out : ℕ → ℕ) (base lo hi : ℕ) (ws : List Window) (l k g l2 k2 : ℕ) → IsWritten pointers out base lo hi ws l k g → Below out base ws l k g l2 k2 → (lo ≤ k2) × (k2 < hi)
below_within pointers out base lo hi ws zero k g l2 k2 h b = absurd (below_lowest out base ws k g l2 k2 b)
below_within pointers out base lo hi ws (suc l) k g l2 k2 h b =
    let p = below_parts out base ws l k g l2 k2 b in
    let deeper : ℕ → Type 0 = λ c. Meets out base ws l c g l2 k2 in
    let c = child base (word_of out (suc l) k g) in
    elim (kind_of ws (suc l) g) [
      | Free none ↦ absurd (leads_none deeper c (suc l) (g / entry_size (suc l)) (window_of ws (suc l) g) none p)
      | Whole w some t ↦ absurd (leads_leaf deeper c (suc l) (g / entry_size (suc l)) (window_of ws (suc l) g) w some t p)
      | Part w some f ↦
          let q = child_of pointers out base lo hi ws l k g w some f h in
          elim (leads_to deeper c (suc l) (g / entry_size (suc l)) (window_of ws (suc l) g) w some f p) [
            | inl e ↦ (omega (arith, q.0.low, e.1), omega (arith, q.0.high, e.1))
            | inr d ↦ below_within pointers out base lo hi ws l c g l2 k2 q.1 d
          ]
    ]

-- of lower levels
pub below_lower : (out : ℕ → ℕ) (base : ℕ) (ws : List Window) (l k g l2 k2 : ℕ) → Below out base ws l k g l2 k2 → l2 < l
below_lower out base ws zero k g l2 k2 b = absurd (below_lowest out base ws k g l2 k2 b)
below_lower out base ws (suc l) k g l2 k2 b =
    let p = below_parts out base ws l k g l2 k2 b in
    let deeper : ℕ → Type 0 = λ c. Meets out base ws l c g l2 k2 in
    let c = child base (word_of out (suc l) k g) in
    elim (kind_of ws (suc l) g) [
      | Free none ↦ absurd (leads_none deeper c (suc l) (g / entry_size (suc l)) (window_of ws (suc l) g) none p)
      | Whole w some t ↦ absurd (leads_leaf deeper c (suc l) (g / entry_size (suc l)) (window_of ws (suc l) g) w some t p)
      | Part w some f ↦ elim (leads_to deeper c (suc l) (g / entry_size (suc l)) (window_of ws (suc l) g) w some f p) [
        | inl e ↦ omega (arith, e.0)
        | inr d ↦ let low = below_lower out base ws l c g l2 k2 d in omega (arith, low)
      ]
    ]

-- and stay the same where nothing changed
pub below_keeps : (pointers : Rights) (out new : ℕ → ℕ) (base lo hi : ℕ) (ws : List Window) → ((j : ℕ) → 512 * lo ≤ j → j < 512 * hi → new j ≡ out j) → (l k g l2 k2 : ℕ) → word_of new l k g ≡ word_of out l k g → IsWritten pointers out base lo hi ws l k g → Below out base ws l k g l2 k2 → Below new base ws l k g l2 k2
below_keeps pointers out new base lo hi ws same zero k g l2 k2 at h b = absurd (below_lowest out base ws k g l2 k2 b)
below_keeps pointers out new base lo hi ws same (suc l) k g l2 k2 at h b =
    let p = below_parts out base ws l k g l2 k2 b in
    let deeper : ℕ → Type 0 = λ c. Meets out base ws l c g l2 k2 in
    let deep : ℕ → Type 0 = λ c. Meets new base ws l c g l2 k2 in
    let c = child base (word_of out (suc l) k g) in
    elim (kind_of ws (suc l) g) [
      | Free none ↦ absurd (leads_none deeper c (suc l) (g / entry_size (suc l)) (window_of ws (suc l) g) none p)
      | Whole w some t ↦ absurd (leads_leaf deeper c (suc l) (g / entry_size (suc l)) (window_of ws (suc l) g) w some t p)
      | Part w some f ↦
          let q = child_of pointers out base lo hi ws l k g w some f h in
          let there : deep c = elim (leads_to deeper c (suc l) (g / entry_size (suc l)) (window_of ws (suc l) g) w some f p) [
            | inl e ↦ inl e
            | inr d ↦ inr (below_keeps pointers out new base lo hi ws same l c g l2 k2 (same _ (omega (arith, q.0.low)) (omega (arith, q.0.high))) q.1 d)
          ] in
          below_from new base ws l k g l2 k2 (rw at (leads_from deep c (suc l) (g / entry_size (suc l)) (window_of ws (suc l) g) w some f there))
    ]
