-- The lines by numbers are the text by names.
use Rattle.std.proofs.Common.{◌≡◌, ℕ, suc, ◌+◌, true, List, [], ◌∷◌, ◌++◌, length, Some, refl, sym, ap, ◌∙◌, arith}
use Rattle.std.specs.Prelude.{codes, slice_get}
use Rattle.std.specs.Option.{option_map_or}
use Rattle.std.specs.List.{enumerate_from, flat_map}
use Rattle.std.proofs.lemmas.List.Folds.{flat_map-map}
use Rattle.std.proofs.lemmas.Slice.Zip.{AllZip-long}
use Rattle.expand_kernel.proofs.GrantedWindows.{IsShown, windows_shown}
use Rattle.expand_kernel.proofs.Ordered.{All-in_order}
use Rattle.expand_kernel.specs.Grants.{AreGrants, AreGrantsOf, is_lower, numbered_window}
use Rattle.expand_kernel.specs.Ordered.{in_order}
use Rattle.expand_kernel.specs.granted.Grants.{Grants}
use Rattle.expand_kernel.specs.Regions.{regions_of}
use Rattle.expand_kernel.specs.thing.Region.{Region}
use Rattle.muen_num.proofs.Lists.{all_at}
use Rattle.muen_num.proofs.Pairs.{other_at}
use Rattle.muen_num.proofs.PiecesOfLists.{flat_map_at}
use Rattle.policy_lawful.proofs.ThingsByIndex.{devices_by_index}
use Rattle.policy_lawful.specs.source.Block.{Block}
use Rattle.policy_lawful.specs.Ranges.{in_a_block}
use Rattle.policy_lawful.specs.Resolution.{IsResolved, Resolution, source_of, subject_named}
use Rattle.policy_lawful.specs.declared.resolved.Subject.{Subject}
use Rattle.policy_lawful.specs.declared.thing.Thing.{Thing as NumberedThing}
use Rattle.policy_lawful.specs.Thing.{Item, device_items, thing_tag}
use Rattle.policy_lawful.specs.Things.{AreDeclared, device_things}
use Rattle.policy_lawful.specs.Windows.{windows_of}
use Rattle.region_alloc.specs.Placed.{AreInside}
use Rattle.map_report.specs.ByNumber.{all_granted_lines, granted_line, granted_lines, map_lines, memory_line, tagged_line, windows_at}
use Rattle.map_report.specs.MapText.{device_line, map_text_of, region_line, region_lines, window_line, window_lines}

-- ---- windows

-- pieces of what stands beside its index
numbered_pieces : {X Y : Type 0} (f : ℕ × X → List Y) (g : X → List Y) (n : ℕ) (xs : List X) → ((k : ℕ) (x : X) → slice_get xs k ≡ Some x → f (n + k, x) ≡ g x)
    → flat_map f (enumerate_from n xs) ≡ flat_map g xs
numbered_pieces f g n [] same = refl
numbered_pieces {X} f g n (x ∷ xs) same =
    let pair : X → ℕ → ℕ × X = λ y k. (k, y) in
    let here : f (n, x) ≡ g x = ap (λ k. f (pair x k)) (omega arith) ∙ same 0 x refl in
    let later : flat_map f (enumerate_from (n + 1) xs) ≡ flat_map g xs = numbered_pieces f g (n + 1) xs (λ k y e. ap (λ j. f (pair y j)) (omega arith) ∙ same (suc k) y e) in
    (λ i. here i ++ later i)

module _ (r : Resolution) (q : IsResolved r) where
  of_subject : (k : ℕ) (s : Subject) (g : Grants) → slice_get r.subjects k ≡ Some s → AreGrantsOf r s g → granted_lines r s.name g.windows ≡ window_lines (source_of r) (subject_named r s)
  of_subject k s g at granted =
      let p = source_of r in
      let windows = windows_of p (subject_named r s) in
      let shown = All-in_order is_lower (IsShown r) windows (windows_shown r q k s at) in
      ap (granted_lines r s.name) granted.windows
      ∙ flat_map-map (granted_line r s.name) (numbered_window p) (in_order is_lower windows)
      ∙ flat_map_at (λ w. granted_line r s.name (numbered_window p w)) (λ w. window_line s.name w.guest w.size w.rights (thing_tag w.thing)) (in_order is_lower windows)
      (λ n w e. ap (tagged_line s.name (numbered_window p w)) (all_at (IsShown r) (in_order is_lower windows) n w shown e).tag)

  windows_named : (gs : List Grants) → AreGrants r gs → all_granted_lines r gs 0 r.subjects ≡ flat_map (window_lines (source_of r)) (source_of r).subjects
  unfolding source_of
  windows_named gs zip =
      numbered_pieces (λ x. granted_lines r x.1.name (windows_at gs x.0)) (λ s. window_lines (source_of r) (subject_named r s)) 0 r.subjects
      (λ k s at.
      let g = other_at (AreGrantsOf r) r.subjects gs k s zip at in
      ap (λ n. granted_lines r s.name (windows_at gs n)) (omega arith)
      ∙ ap (λ o. granted_lines r s.name (option_map_or (λ (g : Grants). g.windows) o [])) g.1
      ∙ of_subject k s g.0 at g.2)
      ∙ sym (flat_map-map (window_lines (source_of r)) (subject_named r) r.subjects)

-- ---- the whole

devices_named : (r : Resolution) (items : List Item) (things : List NumberedThing) → AreDeclared r items things → flat_map memory_line things ≡ flat_map device_line items
devices_named r [] [] h = refl
devices_named r [] (t ∷ ts) h = absurd h
devices_named r (i ∷ items) [] h = absurd h
devices_named r (i ∷ items) (t ∷ ts) h =
    (λ j. option_map_or (λ address. region_line (codes "device") address (h.0.region j).size (h.0.region j).tag) (h.0.region j).fixed [] ++ devices_named r items ts h.1 j)

pub text_is : (r : Resolution) (addresses : List ℕ) (regions : List Region) (gs : List Grants) → IsResolved r → regions ≡ regions_of (source_of r) → AreGrants r gs
    → map_lines r addresses regions gs ≡ map_text_of (source_of r) addresses
unfolding map_text_of
text_is r addresses regions gs q is zip =
    let devices = devices_named r (device_items (source_of r)) (device_things r) (devices_by_index r q) in
    let windows = windows_named r q gs zip in
    (λ i. region_lines addresses (is i) ++ devices i ++ windows i)

-- there is an address for each region
pub as_many_addresses : (blocks : List Block) (regions : List Region) (addresses : List ℕ) → AreInside blocks regions addresses → length addresses ≡ length regions
as_many_addresses blocks regions addresses = AllZip-long (λ r address. in_a_block blocks address r.size ≡ true) regions addresses
