-- The windows that are granted to a subject can be mapped, and their tables take as many pages in any order.
use Rattle.std.proofs.Common.{◌≡◌, ℕ, suc, ◌+◌, ◌<◌, ◌≤◌, ◌^◌, Bool, true, false, not, List, [], ◌∷◌, length, map, get_or, None, sym, ap, ◌∙◌, arith}
use Rattle.std.specs.List.{All, AllByRecursion, AllPairs, IsDistinct, list_all}
use Rattle.std.proofs.lemmas.Bool.{and_parts, leb-true, ltb-true}
use Rattle.std.proofs.lemmas.List.Elements.{All-from_recursion, All-map}
use Rattle.std.proofs.lemmas.List.Sorted.{All-permutation, IsPermutation-map}
use Rattle.ept_emit.specs.Pages.{IsMapped, ept_pages}
use Rattle.expand_grants.specs.Grants.{granted_windows, is_lower, numbered_window}
use Rattle.expand_grants.specs.Ordered.{in_order}
use Rattle.expand_grants.proofs.Ordered.{in_order_permutes}
use Rattle.expand_kernel.specs.ByIndex.{CanMap, granted_range, granted_ranges}
use Rattle.expand_kernel.specs.Regions.{window_range}
use Rattle.expand_kernel.proofs.LowestFirst.{before_in_order, clash}
use Rattle.expand_kernel.proofs.TablePages.{pages_permuted}
use Rattle.muen_num.proofs.FirstPair.{pairs_at}
use Rattle.muen_num.proofs.Lists.{map-map}
use Rattle.muen_num.proofs.Pairs.{pairs_mapped}
use Rattle.muen_num.proofs.SearchLaws.{unless_none}
use Rattle.policy_lawful.specs.Rules.{are_apart, first_overlap, is_guest, overlapping, window_extent, window_extents}
use Rattle.policy_lawful.specs.Offences.{two}
use Rattle.policy_lawful.specs.Thing.{Thing}
use Rattle.policy_lawful.specs.Windows.{Window, windows_of}
use Rattle.policy_lawful.specs.source.Source.{Source}
use Rattle.policy_lawful.specs.source.Subject.{Subject}

-- ---- of windows, by what the rules say of their ranges

abbrev Shown : Type 0
Shown = Window Thing

abbrev IsRange : Shown → Type 0
IsRange w = IsMapped (window_range w)

guest_range : (w : Shown) → is_guest w.guest w.size ≡ true → IsRange w
guest_range w h =
    let parts = and_parts _ _ h in
    let size = and_parts _ _ (and_parts _ _ parts.0).1 in
    record { some = ltb-true 0 w.size size.1; end = leb-true (w.guest + w.size) (2 ^ 48) parts.1 }

ranges : (ws : List Shown) → list_all (λ e. is_guest e.address e.size) (map window_extent ws) ≡ true → AllByRecursion IsRange ws
ranges [] h = tt
ranges (w ∷ ws) h = let both = and_parts _ _ h in (guest_range w both.0, ranges ws both.1)

abbrev clashing : Shown → Shown → Bool
clashing = clash (λ w. w.guest) (λ w. w.size)

no_clash : (a b : Shown) → overlapping (window_extent a) (window_extent b) ≡ None → clashing a b ≡ false
no_clash a b h = ap not (unless_none (are_apart (window_extent a) (window_extent b)) (two (window_extent a).name (window_extent b).name) h)

each_apart : (w : Shown) (ws : List Shown) → ((k : ℕ) → k < length (map window_extent ws) → overlapping (window_extent w) (get_or (map window_extent ws) k (window_extent w)) ≡ None) → AllByRecursion (λ v. clashing w v ≡ false) ws
each_apart w [] h = tt
each_apart w (v ∷ vs) h = (no_clash w v (h 0 (omega arith)), each_apart w vs (λ k l. h (suc k) (omega arith)))

distinct_windows : (ws : List Shown) → AllPairs (λ a b. overlapping a b ≡ None) (map window_extent ws) → IsDistinct clashing ws
unfolding IsDistinct
distinct_windows [] h = tt
distinct_windows (w ∷ ws) h = (
  each_apart w ws (λ k l. h 0 (suc k) (window_extent w) (omega arith) (omega arith)),
  distinct_windows ws (λ i j d p q. h (suc i) (suc j) d (omega arith) (omega arith)),
)

-- ---- of a subject

module _ (p : Source) (s : Subject) where
  abbrev ordered : List Shown
  ordered = in_order is_lower (windows_of p s)

  -- numbers change no range
  ranges_are : granted_ranges (granted_windows p s) ≡ map window_range ordered
  ranges_are = map-map granted_range (numbered_window p) ordered

  -- its windows are as rules 4 and 5 say
  pub can_map : list_all (λ e. is_guest e.address e.size) (window_extents p s) ≡ true → first_overlap (window_extents p s) ≡ None → CanMap (granted_windows p s)
  unfolding first_overlap window_extents
  can_map guests none =
      let ws = windows_of p s in
      let all : All IsRange ws = All-from_recursion IsRange ws (ranges ws guests) in
      record {
        mapped = rw ranges_are (All-map IsMapped window_range ordered (All-permutation IsRange ws ordered (in_order_permutes is_lower ws) all));
        apart = rw ranges_are (pairs_mapped window_range (λ a b. a.guest + a.size ≤ b.guest) ordered
            (before_in_order (λ w. w.guest) (λ w. w.size) ws (distinct_windows ws (pairs_at overlapping (map window_extent ws) none)) (λ k d l. (all k d l).some)));
      }

  -- in order or not
  pub pages_granted : ept_pages (granted_ranges (granted_windows p s)) ≡ ept_pages (map window_range (windows_of p s))
  pages_granted =
      ap ept_pages ranges_are
      ∙ sym (pages_permuted (map window_range (windows_of p s)) (map window_range ordered) (IsPermutation-map window_range (windows_of p s) ordered (in_order_permutes is_lower (windows_of p s))))
