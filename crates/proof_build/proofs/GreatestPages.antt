-- Each address of a subject's windows is mapped by the greatest page.
use Rattle.std.proofs.Common.{◌≡◌, ℕ, zero, suc, ◌+◌, ◌%◌, ◌≤◌, ◌^◌, ◌==◌, true, List, Option, Some, None, refl, sym, subst, arith, inl, inr, eq-eqb}
use Rattle.std.specs.Prelude.{◌&&◌, nat_le, option_map}
use Rattle.std.specs.List.{Contains, find}
use Rattle.std.specs.Option.{IfSome}
use Rattle.std.proofs.lemmas.Bool.{and_parts, cases_Bool, eqb-true}
use Rattle.std.proofs.lemmas.List.Elements.{All-contains}
use Rattle.ept_emit.specs.declared.window.Leaf.{Leaf}
use Rattle.ept_emit.specs.declared.window.Leaf.TheVariants.{Small, Large, Huge}
use Rattle.ept_emit.specs.Emitted.{IsGreatestSize, eptp_of}
use Rattle.ept_emit.specs.Entries.{level_of}
use Rattle.ept_emit.proofs.Walked.{level_low}
use Rattle.event_emit.specs.declared.event_tables.EventTables.{EventTables}
use Rattle.expand_kernel.specs.granted.Grants.{Grants}
use Rattle.proof_build.specs.Built.{HasGreatestPages, IsGreatestPage}
use Rattle.image_emit.specs.Made.{IsMade, Made, image_of, policy_of, subject_part}
use Rattle.image_emit.proofs.BySubject.{IsAtIndex, each_subject}
use Rattle.image_emit.proofs.SpansOfKernel.{placed_of}
use Rattle.proof_build.proofs.AddressesShown.{address_is}
use Rattle.proof_build.proofs.Tables.{has_tables}
use Rattle.proof_build.proofs.Walks.{mapped_at}
use Rattle.muen_num.proofs.FoundOnce.{found_contained}
use Rattle.image_soundness.specs.Memory.{memory_of}
use Rattle.image_soundness.specs.Sound.{ForEachSubject, address_of}
use Rattle.machine_layout.specs.Walks.{leaf_size, entry_size}
use Rattle.muen_num.specs.declared.limits.TheConstants.{GUEST_END}
use Rattle.policy_lawful.specs.Resolution.{source_of, subject_named}
use Rattle.policy_lawful.specs.Rules.{is_guest, is_page_size}
use Rattle.muen_num.specs.Numbers.{is_page_aligned}
use Rattle.policy_lawful.specs.declared.resolved.Subject.{Subject}
use Rattle.subject_emit.specs.Mapped.{leaf_for, mapped}
use Rattle.subject_emit.specs.Pages.{tables_at}
use Rattle.subject_emit.specs.declared.subject_pages.SubjectPages.{SubjectPages}
use Rattle.subject_emit.proofs.Emittable.{fits_leaf}
use Rattle.region_alloc.proofs.AddressesFit.{whole_fits}
use Rattle.region_alloc.specs.Placed.{address_of as placed_at}
use Rattle.expand_kernel.proofs.GrantedWindows.{named_guests, named_whole}
use Rattle.expand_kernel.specs.Grants.{numbered_window}
use Rattle.expand_kernel.specs.Numbered.{IsWhole}
use Rattle.policy_lawful.specs.Thing.{Thing}
use Rattle.policy_lawful.specs.Things.{thing_index}
use Rattle.policy_lawful.specs.Windows.{Window, holds, windows_of}
use Rattle.policy_lawful.specs.source.Source.{Source}

-- ---- where guest and physical address agree

-- modulo the size of a page, they agree modulo that of smaller ones
agree_below : (guest address : ℕ) (leaf : Leaf) (level : ℕ) → address % entry_size (level_of leaf) ≡ guest % entry_size (level_of leaf) → level ≤ level_of leaf → guest % entry_size level ≡ address % entry_size level
agree_below guest address Small zero e l = sym e
agree_below guest address Small (suc n) e l = absurd (omega (arith, l))
agree_below guest address Large zero e l = omega (arith, e)
agree_below guest address Large (suc zero) e l = sym e
agree_below guest address Large (suc (suc n)) e l = absurd (omega (arith, l))
agree_below guest address Huge zero e l = omega (arith, e)
agree_below guest address Huge (suc zero) e l = omega (arith, e)
agree_below guest address Huge (suc (suc zero)) e l = sym e
agree_below guest address Huge (suc (suc (suc n))) e l = absurd (omega (arith, l))

-- the level is that of the greatest page at which they agree
allowed : (guest address level : ℕ) → level ≤ 2 → guest % entry_size level ≡ address % entry_size level → level ≤ level_of (leaf_for guest address)
allowed guest address zero l e = omega arith
allowed guest address (suc zero) l e = elim (cases_Bool (guest % 2 ^ 30 == address % 2 ^ 30)) [
  | inl large ↦ rw (large) (omega arith)
  | inr small ↦ rw (small, eq-eqb (guest % 2 ^ 21) (address % 2 ^ 21) e) (omega arith)
]
allowed guest address (suc (suc zero)) l e = rw (eq-eqb (guest % 2 ^ 30) (address % 2 ^ 30) e) (omega arith)
allowed guest address (suc (suc (suc n))) l e = absurd (omega (arith, l))

-- ---- windows

module _ (m : Made) (h : IsMade m) (k : ℕ) (s : Subject) (g : Grants) (t : EventTables) (q : SubjectPages) (at : IsAtIndex m k s g t q) where
  abbrev p : Source
  p = source_of (policy_of m)

  abbrev windows : List (Window Thing)
  windows = windows_of p (subject_named (policy_of m) s)

  abbrev lies_at : Window Thing → ℕ
  lies_at w = placed_at m.placed (thing_index p w.thing)

  -- a window and what it shows are whole pages
  whole : (w : Window Thing) → Contains windows w → (w.guest % 4096 ≡ 0) × (lies_at w % 4096 ≡ 0)
  whole w among =
      let guest = All-contains (λ (w : Window Thing). is_guest w.guest w.size ≡ true) windows w (named_guests (policy_of m) h.resolved k s at.subject h.lawful) among in
      let shown = All-contains (λ (w : Window Thing). IsWhole (policy_of m) (numbered_window p w)) windows w (named_whole (policy_of m) h.resolved k s at.subject) among in
      let both = and_parts (is_page_aligned w.guest && is_page_size w.size) (nat_le (w.guest + w.size) GUEST_END) guest in
      let range = and_parts (is_page_aligned w.guest) (is_page_size w.size) both.0 in
      (eqb-true (w.guest % 4096) 0 range.0, (whole_fits m.placed (placed_of m h) (numbered_window p w) shown).whole)

  -- of the window that tables map, and so of the window that the policy grants
  of_window : (addr size : ℕ) (w : Window Thing) (address : ℕ) → Contains windows w → address ≡ lies_at w → IsGreatestSize (mapped m.placed (numbered_window p w)) addr size → IsGreatestPage w address addr size
  of_window addr size w address among e is =
      let to = lies_at w in
      let leaf = leaf_for w.guest to in
      let aligned = whole w among in
      subst (λ n. IsGreatestPage w n addr size) (sym e)
      (record {
        level = is.level;
        is = is.is;
        fits = record {
          small = (let few = level_low leaf in let low = is.allowed in omega (arith, few, low));
          agrees = agree_below w.guest to leaf is.level (fits_leaf w.guest to aligned.1 aligned.0) is.allowed;
          begins = is.inside.begins;
          ends = is.inside.ends;
        };
        greatest = λ higher c. is.greatest higher (allowed w.guest to higher c.small c.agrees) (record { begins = c.begins; ends = c.ends });
      })

  of_found : (addr size : ℕ) (o : Option (Window Thing)) → find (λ w. holds w addr) windows ≡ o → IfSome (option_map (λ w. mapped m.placed (numbered_window p w)) o) (λ w. IsGreatestSize w addr size)
      → IfSome o (λ w. IsGreatestPage w (address_of p (image_of m) w.thing) addr size)
  of_found addr size None e is = tt
  of_found addr size (Some w) e is = of_window addr size w _ (found_contained (λ w. holds w addr) windows w e) (address_is m h w.thing) is

  each : HasGreatestPages p (image_of m) (subject_named (policy_of m) s) (subject_part m.placed (k, (s, (g, t))))
  each addr l =
      let size = leaf_size (memory_of (image_of m)) (eptp_of (tables_at m.placed k)) addr in
      of_found addr size (find (λ w. holds w addr) windows) refl
      (subst (λ o. IfSome o (λ w. IsGreatestSize w addr size)) (mapped_at m h k s g at.granted at.grants addr)
      (at.pages.tables.leaves (memory_of (image_of m)) addr (has_tables m h k s g t q at) l))

pub leaves : (m : Made) → IsMade m → ForEachSubject (source_of (policy_of m)) (image_of m) (HasGreatestPages (source_of (policy_of m)) (image_of m))
leaves m h = each_subject m h (HasGreatestPages (source_of (policy_of m)) (image_of m)) (λ k s g t q at. each m h k s g t q at)
