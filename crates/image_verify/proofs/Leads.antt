-- The windows that are checked lead each access where the policy's do.
use Rattle.std.proofs.Common.{◌≡◌, ℕ, zero, suc, ◌+◌, ◌-◌, ◌≤◌, List, [], ◌∷◌, map, Option, Some, None, refl, sym, ap, ◌∙◌}
use Rattle.std.specs.Prelude.{option_map, slice_get}
use Rattle.std.specs.List.{AllPairs, find}
use Rattle.std.proofs.lemmas.List.Elements.{All-map}
use Rattle.std.proofs.lemmas.List.Sorted.{IsPermutation-map}
use Rattle.ept_check.specs.Sound.{AreSubjectWindows, HasPages, IsWhole}
use Rattle.ept_check.specs.Emitted.{holds as is_in, translation, translation_in}
use Rattle.ept_check.specs.window.GuestRange.{GuestRange}
use Rattle.ept_check.specs.window.Window.{Window as EptWindow}
use Rattle.expand_kernel.proofs.GrantedRanges.{can_map}
use Rattle.expand_kernel.proofs.Ordered.{All-in_order, in_order_permutes}
use Rattle.expand_kernel.specs.ByIndex.{granted_range}
use Rattle.expand_kernel.specs.Grants.{granted_windows, is_lower, numbered_window}
use Rattle.expand_kernel.specs.Ordered.{in_order}
use Rattle.image_pack.specs.declared.parts.Image.{Image}
use Rattle.image_memory.specs.Memory.{memory_of}
use Rattle.image_soundness.proofs.Led.{by_rights}
use Rattle.image_soundness.specs.Sound.{address_of, led}
use Rattle.image_verify.proofs.Rooms.{Fits, guests_kept, windows_fit}
use Rattle.image_verify.specs.Filled.{IsFilled}
use Rattle.image_verify.specs.Windows.{window_on, windows_on}
use Rattle.ept_check.specs.Memory.{is_there}
use Rattle.muen_num.proofs.Lists.{find-map}
use Rattle.muen_num.proofs.Pairs.{pairs_mapped, pairs_unmapped}
use Rattle.muen_num.proofs.Numbers.{not_both}
use Rattle.muen_num.proofs.SearchLaws.{none_both}
use Rattle.muen_num.specs.Search.{first_in}
use Rattle.muen_num.specs.declared.access.AccessKind.{AccessKind}
use Rattle.policy_lawful.proofs.KeptRules.{rules_of}
use Rattle.policy_lawful.specs.Contents.{Held}
use Rattle.policy_lawful.specs.Rules.{first_overlap, offence_5, window_extents}
use Rattle.policy_lawful.specs.Thing.{Thing}
use Rattle.policy_lawful.specs.Windows.{Window, access_by, access_of, holds, windows_of}
use Rattle.policy_lawful.specs.Rights.{allows}
use Rattle.policy_lawful.specs.source.Source.{Source}
use Rattle.policy_lawful.specs.source.Subject.{Subject}
use Rattle.muen_num.proofs.FoundOnce.{ArePassedOnce, found_permuted}

-- where none has an answer, the one at an index has none
none_at : {X O : Type 0} (at : X → Option O) (xs : List X) (k : ℕ) (x : X) → first_in at xs ≡ None → slice_get xs k ≡ Some x → at x ≡ None
none_at at [] k x h e = absurd cc
none_at at (y ∷ ys) zero x h e = let same : y ≡ x = cc in ap at (sym same) ∙ (none_both (at y) (first_in at ys) h).0
none_at at (y ∷ ys) (suc k) x h e = none_at at ys k x (none_both (at y) (first_in at ys) h).1 e

abbrev ends_by : GuestRange → GuestRange → Type 0
ends_by a b = a.guest + a.size ≤ b.guest

abbrev is_behind : EptWindow → EptWindow → Type 0
is_behind a b = a.guest + a.size ≤ b.guest

module _ (p : Source) (files : Held) (i : Image) (h : IsFilled p files i) (k : ℕ) (n : Subject) (at : slice_get p.subjects k ≡ Some n) where
  -- the policy's windows
  abbrev windows : List (Window Thing)
  windows = windows_of p n

  abbrev ordered : List (Window Thing)
  ordered = in_order is_lower windows

  apart : AllPairs is_behind (windows_on p i n)
  unfolding offence_5
  apart =
      let can = can_map p n (guests_kept p files i h k n at) (none_at (λ s. first_overlap (window_extents p s)) p.subjects k n (rules_of h.lawful).rule_5 at) in
      pairs_mapped (window_on p i) is_behind ordered
      (pairs_unmapped (numbered_window p) (λ a b. a.guest + a.size ≤ b.guest) ordered (pairs_unmapped granted_range ends_by (granted_windows p n) can.apart))

  -- **the windows** can be checked
  pub are_windows : AreSubjectWindows (is_there (memory_of i)) (windows_on p i n)
  are_windows =
      let fit = All-in_order is_lower (Fits p files i h) windows (windows_fit p files i h k n at) in
      record {
        whole = All-map IsWhole (window_on p i) ordered (λ j d l. (fit j d l).whole);
        pages = All-map (HasPages (is_there (memory_of i))) (window_on p i) ordered (λ j d l. (fit j d l).pages);
        apart = apart;
      }

  -- no address is in two of them
  once : (addr : ℕ) → ArePassedOnce (is_in addr) (windows_on p i n)
  once addr = λ a b d l n y z. not_both addr _ _ _ _ (apart a b d l n) y z

  led_by : (addr : ℕ) (kind : AccessKind) (o : Option (Window Thing)) → translation_in (option_map (window_on p i) o) addr kind ≡ led (address_of p i) (access_by o addr kind)
  led_by addr kind None = refl
  led_by addr kind (Some w) = by_rights (address_of p i) (allows w.rights kind) w.thing (address_of p i w.thing) (addr - w.guest) w.rights refl

  -- **where they lead** an access, the policy's do
  pub leads : (addr : ℕ) (kind : AccessKind) → translation (windows_on p i n) addr kind ≡ led (address_of p i) (access_of windows addr kind)
  leads addr kind =
      let moved = IsPermutation-map (window_on p i) windows ordered (in_order_permutes is_lower windows) in
      ap (λ o. translation_in o addr kind) (sym (found_permuted (is_in addr) (map (window_on p i) windows) (windows_on p i n) moved (once addr)) ∙ find-map (is_in addr) (window_on p i) windows)
      ∙ led_by addr kind (find (λ w. holds w addr) windows)
