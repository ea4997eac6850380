-- The walks for a subject's guest addresses go exactly where its windows lead.
use Rattle.std.proofs.Common.{◌≡◌, ℕ, ◌-◌, List, map, Option, Some, None, refl, sym, ap, ◌∙◌, subst}
use Rattle.std.specs.Prelude.{option_map, slice_get}
use Rattle.std.specs.List.{find}
use Rattle.std.specs.List.Sorted.{IsPermutation}
use Rattle.std.proofs.lemmas.List.Sorted.{IsPermutation-map}
use Rattle.std.proofs.lemmas.Option.{get_or_from_slice_get, slice_get_within}
use Rattle.ept_emit.specs.Emitted.{holds as is_in, translation, translation_in, window_at}
use Rattle.expand_kernel.specs.Grants.{AreGrantsOf, is_lower, numbered_window}
use Rattle.expand_kernel.specs.Ordered.{in_order}
use Rattle.expand_kernel.specs.granted.Grants.{Grants}
use Rattle.expand_kernel.proofs.Ordered.{in_order_permutes}
use Rattle.expand_kernel.specs.ByIndex.{CanMap}
use Rattle.expand_kernel.proofs.Numbering.{can_map_granted}
use Rattle.image_emit.specs.Made.{IsMade, Made, image_of, policy_of}
use Rattle.proof_build.proofs.AddressesShown.{address_is}
use Rattle.image_emit.proofs.BySubject.{each_subject}
use Rattle.proof_build.proofs.AddressesOfShown.{has_addresses}
use Rattle.proof_build.proofs.Tables.{has_tables}
use Rattle.muen_num.proofs.FoundOnce.{ArePassedOnce, found_permuted}
use Rattle.image_soundness.specs.Memory.{memory_of}
use Rattle.image_soundness.specs.Sound.{ForEachSubject, HasWalks, led, address_of}
use Rattle.image_soundness.proofs.Led.{by_rights}
use Rattle.muen_num.proofs.Lists.{find-map, map-map}
use Rattle.muen_num.proofs.Numbers.{not_both}
use Rattle.muen_num.specs.declared.access.AccessKind.{AccessKind}
use Rattle.policy_lawful.specs.Resolution.{source_of, subject_named}
use Rattle.policy_lawful.specs.declared.resolved.Subject.{Subject}
use Rattle.policy_lawful.specs.Thing.{Thing}
use Rattle.policy_lawful.specs.Windows.{Window, access_by, access_of, holds, windows_of}
use Rattle.policy_lawful.specs.Rights.{allows}
use Rattle.policy_lawful.specs.Things.{thing_index}
use Rattle.policy_lawful.specs.source.Source.{Source}
use Rattle.ept_emit.specs.declared.window.Window.{Window as MappedWindow}
use Rattle.region_alloc.specs.Placed.{address_of as placed_at}
use Rattle.subject_emit.specs.Mapped.{mapped, mapped_windows}
use Rattle.subject_emit.proofs.SamePages.{apart_mapped}

module _ (m : Made) (h : IsMade m) (k : ℕ) (s : Subject) (g : Grants) (there : slice_get m.placed.expanded.grants k ≡ Some g) (granted : AreGrantsOf (policy_of m) s g) where
  abbrev p : Source
  p = source_of (policy_of m)

  abbrev pub windows : List (Window Thing)
  windows = windows_of p (subject_named (policy_of m) s)

  -- a window of the policy as tables map it
  abbrev pub mapped_named : Window Thing → MappedWindow
  mapped_named w = mapped m.placed (numbered_window p w)

  -- no address is in two windows
  once : (addr : ℕ) → ArePassedOnce (is_in addr) (mapped_windows m.placed g)
  once addr =
      let can : CanMap g.windows =
      subst (λ g. CanMap g.windows) (get_or_from_slice_get m.placed.expanded.grants k g g there)
      (can_map_granted (policy_of m) m.placed.expanded.grants h.lawful h.expansion.grants k g (slice_get_within m.placed.expanded.grants k g there)) in
      let apart = apart_mapped m.placed g can.apart in
      λ i j d l n p q. not_both addr _ _ _ _ (apart i j d l n) p q

  -- the window that tables map is that which the policy grants
  pub mapped_at : (addr : ℕ) → window_at (mapped_windows m.placed g) addr ≡ option_map mapped_named (find (λ w. holds w addr) windows)
  mapped_at addr =
      let ordered = in_order is_lower windows in
      let are : mapped_windows m.placed g ≡ map mapped_named ordered = ap (map (mapped m.placed)) granted.windows ∙ map-map (mapped m.placed) (numbered_window p) ordered in
      let moved : IsPermutation (map mapped_named windows) (mapped_windows m.placed g) =
      subst (IsPermutation (map mapped_named windows)) (sym are) (IsPermutation-map mapped_named windows ordered (in_order_permutes is_lower windows)) in
      sym (found_permuted (is_in addr) (map mapped_named windows) (mapped_windows m.placed g) moved (once addr))
      ∙ find-map (is_in addr) mapped_named windows

  led_by : (addr : ℕ) (kind : AccessKind) (o : Option (Window Thing)) → translation_in (option_map mapped_named o) addr kind ≡ led (address_of p (image_of m)) (access_by o addr kind)
  led_by addr kind None = refl
  led_by addr kind (Some w) =
      by_rights (address_of p (image_of m)) (allows w.rights kind) w.thing (placed_at m.placed (thing_index p w.thing)) (addr - w.guest) w.rights (address_is m h w.thing)

  leads : (addr : ℕ) (kind : AccessKind) → translation (mapped_windows m.placed g) addr kind ≡ led (address_of p (image_of m)) (access_of windows addr kind)
  leads addr kind = ap (λ o. translation_in o addr kind) (mapped_at addr) ∙ led_by addr kind (find (λ w. holds w addr) windows)

pub walks : (m : Made) → IsMade m → ForEachSubject (source_of (policy_of m)) (image_of m) (HasWalks (source_of (policy_of m)) (image_of m))
walks m h =
    each_subject m h (HasWalks (source_of (policy_of m)) (image_of m))
    (λ k s g t q at addr kind l.
    at.pages.tables.walk (memory_of (image_of m)) addr kind (has_tables m h k s g t q at) (has_addresses m h k s g at.subject at.grants) l
    ∙ leads m h k s g at.granted at.grants addr kind)
