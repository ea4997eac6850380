-- Tables can be emitted for the windows of a subject.
use Rattle.std.proofs.Common.{◌≡◌, ℕ, ◌+◌, ◌%◌, ◌^◌, inl, inr, true, All, get_or, sym, ap, ◌∙◌, subst}
use Rattle.std.specs.Prelude.{◌==◌, ◌&&◌, nat_le, if◌then◌else◌}
use Rattle.std.proofs.lemmas.Bool.{and_parts, cases_Bool, eqb-true, leb-true, ltb-true}
use Rattle.std.proofs.lemmas.List.Elements.{All-map}
use Rattle.ept_emit.specs.declared.window.Leaf.{Leaf}
use Rattle.ept_emit.specs.declared.window.Leaf.TheVariants.{Small, Large, Huge}
use Rattle.ept_emit.specs.Entries.{IsEmittable, level_of}
use Rattle.expand_kernel.specs.granted.Grants.{Grants}
use Rattle.machine_layout.specs.Walks.{entry_size}
use Rattle.policy_lawful.specs.Rules.{is_guest, is_page_size}
use Rattle.muen_num.specs.Numbers.{is_page_aligned}
use Rattle.expand_kernel.specs.Numbered.{IsWhole}
use Rattle.expand_kernel.specs.granted.GrantedWindow.{GrantedWindow}
use Rattle.region_alloc.proofs.AddressesFit.{AreAt, whole_fits}
use Rattle.region_alloc.specs.Placed.{IsPlaced, Placement, address_of}
use Rattle.subject_emit.specs.Mapped.{leaf_for, mapped, mapped_windows}

-- ---- the greatest page

abbrev FitsLeaf : ℕ → ℕ → Leaf → Type 0
FitsLeaf guest address leaf = address % entry_size (level_of leaf) ≡ guest % entry_size (level_of leaf)

fits_large : (guest address : ℕ) → address % 4096 ≡ 0 → guest % 4096 ≡ 0 → FitsLeaf guest address (if guest % 2 ^ 21 == address % 2 ^ 21 then Large else Small)
fits_large guest address p g = elim (cases_Bool (guest % 2 ^ 21 == address % 2 ^ 21)) [
  | inl same ↦ subst (FitsLeaf guest address) (sym (ap (λ b. if b then Large else Small) same)) (sym (eqb-true (guest % 2 ^ 21) (address % 2 ^ 21) same))
  | inr other ↦ subst (FitsLeaf guest address) (sym (ap (λ b. if b then Large else Small) other)) (p ∙ sym g)
]

pub fits_leaf : (guest address : ℕ) → address % 4096 ≡ 0 → guest % 4096 ≡ 0 → FitsLeaf guest address (leaf_for guest address)
fits_leaf guest address p g =
    let less : Leaf = if guest % 2 ^ 21 == address % 2 ^ 21 then Large else Small in
    elim (cases_Bool (guest % 2 ^ 30 == address % 2 ^ 30)) [
      | inl same ↦ subst (FitsLeaf guest address) (sym (ap (λ b. if b then Huge else less) same)) (sym (eqb-true (guest % 2 ^ 30) (address % 2 ^ 30) same))
      | inr other ↦ subst (FitsLeaf guest address) (sym (ap (λ b. if b then Huge else less) other)) (fits_large guest address p g)
    ]

-- ---- one window

emittable : (x : Placement) (w : GrantedWindow) → is_guest w.guest w.size ≡ true → AreAt (address_of x w.thing) w.size → IsEmittable (mapped x w)
emittable x w guest at =
    let both = and_parts (is_page_aligned w.guest && is_page_size w.size) (nat_le (w.guest + w.size) (2 ^ 48)) guest in
    let range = and_parts (is_page_aligned w.guest) (is_page_size w.size) both.0 in
    let size = and_parts (is_page_aligned w.size) _ range.1 in
    let aligned : w.guest % 4096 ≡ 0 = eqb-true (w.guest % 4096) 0 range.0 in
    record {
      some = ltb-true 0 w.size size.1;
      guest = aligned;
      size = eqb-true (w.size % 4096) 0 size.0;
      address = at.whole;
      end = leb-true (w.guest + w.size) (2 ^ 48) both.1;
      address_end = at.end;
      aligned = fits_leaf w.guest (address_of x w.thing) at.whole aligned;
    }

-- ---- all

pub all_emittable : (x : Placement) → IsPlaced x → (g : Grants) → All (λ w. is_guest w.guest w.size ≡ true) g.windows → All (IsWhole x.expanded.lawful) g.windows → All IsEmittable (mapped_windows x g)
all_emittable x placed g guests whole =
    All-map IsEmittable (mapped x) g.windows
    (λ i d l. let w = get_or g.windows i d in emittable x w (guests i d l) (whole_fits x placed w (whole i d l)))
