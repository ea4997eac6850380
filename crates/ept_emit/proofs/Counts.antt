-- How many tables lie below entries, over two runs of them.
use Rattle.std.proofs.Common.{◌≡◌, ◌≢◌, inl, inr, ℕ, zero, suc, ◌+◌, ◌-◌, ◌*◌, ◌<◌, ◌≤◌, Bool, true, List, [], ◌∷◌, Some, refl, ap, ◌∙◌, arith}
use Rattle.std.specs.List.{find, list_any}
use Rattle.std.proofs.lemmas.Bool.{cases_Bool}
use Rattle.ept_emit.specs.declared.window.GuestRange.{GuestRange}
use Rattle.ept_emit.specs.declared.window.Window.{Window}
use Rattle.ept_emit.specs.Pages.{count, one, is_taken, guest_range_of, ranges_of, touches, ept_pages}
use Rattle.machine_layout.specs.Walks.{entry_size}
use Rattle.ept_emit.specs.Entries.{window_touching}
use Rattle.ept_emit.specs.Needs.{needs}

pub count_add : (p : ℕ → Bool) (lo a b : ℕ) → count p lo (a + b) ≡ count p lo a + count p (lo + a) b
unfolding count
count_add p lo a zero = let e : a + 0 ≡ a = omega arith in rw e (omega arith)
count_add p lo a (suc b) =
    let e : a + suc b ≡ suc (a + b) = omega arith in
    let f : lo + (a + b) ≡ (lo + a) + b = omega arith in
    rw (e, f) (omega (arith, count_add p lo a b))

pub needs_add : (ws : List Window) (l e a b : ℕ) → needs ws l e (a + b) ≡ needs ws l e a + needs ws l (e + a) b
unfolding needs
needs_add ws zero e a b = refl
needs_add ws (suc l) e a b =
    let f : 512 * (a + b) ≡ 512 * a + 512 * b = omega arith in
    let g : 512 * (e + a) ≡ 512 * e + 512 * a = omega arith in
    rw (f, g) (omega (arith, count_add (is_taken (ranges_of ws) (entry_size (suc l))) e a b, needs_add ws l (512 * e) (512 * a) (512 * b)))

needs_one : (ws : List Window) (l e : ℕ) → needs ws (suc l) e 1 ≡ one (is_taken (ranges_of ws) (entry_size (suc l)) e) + needs ws l (512 * e) 512
unfolding needs count
needs_one ws l e = let z : e + 0 ≡ e = omega arith in rw z (omega arith)

any_found : (p : GuestRange → Bool) (ws : List Window) (w : Window) → find (λ w. p (guest_range_of w)) ws ≡ Some w → list_any p (ranges_of ws) ≡ true
any_found p [] w h = absurd cc
any_found p (x ∷ ws) w h =
    elim (cases_Bool (p (guest_range_of x))) [
      | inl t ↦ rw t refl
      | inr f ↦ let e = rw f at h in rw f (any_found p ws w e)
    ]

-- an entry that references a table is one of those counted
pub needs_at : (ws : List Window) (l e : ℕ) (w : Window) → l ≢ 0 → window_touching ws (entry_size l * e) (entry_size l) ≡ Some w → needs ws l e 1 ≡ 1 + needs ws (l - 1) (512 * e) 512
needs_at ws zero e w ne some = absurd (ne refl)
needs_at ws (suc l) e w ne some =
    let f : suc l - 1 ≡ l = omega arith in
    let t : one (is_taken (ranges_of ws) (entry_size (suc l)) e) ≡ 1 = ap one (any_found (λ r. touches r (entry_size (suc l) * e) (entry_size (suc l))) ws w some) in
    rw f (needs_one ws l e ∙ rw t refl)

pub pages_are : (ws : List Window) → 1 + needs ws 3 0 512 ≡ ept_pages (ranges_of ws)
unfolding needs
pages_are ws = omega arith

pub room_in : (ws : List Window) (l p i used top : ℕ) → i < 512 → top ≤ used + needs ws l (512 * p) i → top + needs ws l (512 * p + i) 1 ≤ used + needs ws l (512 * p) 512
room_in ws l p i used top lt few =
    let e : i + 1 + (511 - i) ≡ 512 = omega arith in
    let a = needs_add ws l (512 * p) i 1 in
    let b = needs_add ws l (512 * p) (i + 1) (511 - i) in
    let c = rw e at b in
    omega arith
