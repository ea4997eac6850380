-- Rules 4 and 18: the memory of devices is whole pages of physical memory, and shares no address with a block or with
-- other memory of a device.
use Rattle.std.proofs.Common.{◌≡◌, ℕ, ◌+◌, ◌≤◌, ◌⊎◌, inl, inr, true, All, List, [], ◌∷◌, ◌++◌, get_or, map, None, refl, sym, ap, ◌∙◌}
use Rattle.std.specs.Prelude.{nat_le}
use Rattle.std.specs.List.{AllPairs, flat_map, list_all}
use Rattle.std.proofs.lemmas.Bool.{and_parts, leb-true, or_cases}
use Rattle.std.proofs.lemmas.List.{map-append}
use Rattle.std.proofs.lemmas.List.Elements.{All-append, All-map, All-nil}
use Rattle.muen_num.proofs.FirstPair.{pairs_at}
use Rattle.muen_num.proofs.Lists.{map-map, all_passing, all_unmapped}
use Rattle.muen_num.proofs.Pairs.{pairs_unmapped}
use Rattle.muen_num.proofs.SearchLaws.{unless_none}
use Rattle.policy_lawful.specs.Offences.{two}
use Rattle.policy_lawful.specs.Rules.{are_apart, first_overlap, offence_4, offence_18, overlapping}
use Rattle.policy_lawful.specs.declared.offence.Extent.{Extent}
use Rattle.policy_lawful.specs.source.Block.{Block}
use Rattle.policy_lawful.specs.source.Device.{Device}
use Rattle.policy_lawful.specs.source.DeviceMemory.{DeviceMemory}
use Rattle.policy_lawful.specs.source.Source.{Source}
use Rattle.policy_lawful.specs.ByIndex.{memories_of}
use Rattle.span_emit.proofs.PairLaws.{pairs_across, pairs_second, pairs_weaker}
use Rattle.policy_lawful.proofs.KeptAddresses.{IsPhysical, addresses_kept, is_memory, physical}

-- ---- rule 4

each_device : (ds : List Device) → list_all (λ d. list_all is_memory d.memory) ds ≡ true → All (λ x. IsPhysical x.1) (memories_of ds)
each_device [] h = All-nil (λ (x : List ℕ × DeviceMemory). IsPhysical x.1)
each_device (d ∷ ds) h =
    let both = and_parts (list_all is_memory d.memory) (list_all (λ d. list_all is_memory d.memory) ds) h in
    All-append (λ (x : List ℕ × DeviceMemory). IsPhysical x.1) (map (λ m. (d.name, m)) d.memory) (memories_of ds)
    (All-map (λ (x : List ℕ × DeviceMemory). IsPhysical x.1) (λ m. (d.name, m)) d.memory (all_passing is_memory IsPhysical physical d.memory both.0))
    (each_device ds both.1)

pub devices_physical : (p : Source) → offence_4 p ≡ None → All (λ x. IsPhysical x.1) (memories_of p.devices)
devices_physical p h = each_device p.devices (addresses_kept p h).devices

-- ---- rule 18

-- two ranges of addresses share none
abbrev pub AreTwo : ℕ → ℕ → ℕ → ℕ → Type 0
AreTwo a m b n = (a + m ≤ b) ⊎ (b + n ≤ a)

abbrev memory_extent : DeviceMemory → Extent
memory_extent m = record { name = m.name; address = m.physical_address; size = m.size }

abbrev block_extent : Block → Extent
block_extent b = record { name = b.name; address = b.physical_address; size = b.size }

extents_are : (ds : List Device) → flat_map (λ d. map memory_extent d.memory) ds ≡ map (λ (x : List ℕ × DeviceMemory). memory_extent x.1) (memories_of ds)
extents_are [] = refl
extents_are (d ∷ ds) =
    let f : List ℕ × DeviceMemory → Extent = λ x. memory_extent x.1 in
    let named : DeviceMemory → List ℕ × DeviceMemory = λ m. (d.name, m) in
    ap (λ t. map memory_extent d.memory ++ t) (extents_are ds)
    ∙ ap (λ t. t ++ map f (memories_of ds)) (sym (map-map f named d.memory))
    ∙ sym (map-append f (map named d.memory) (memories_of ds))

apart_from : (a b : Extent) → overlapping a b ≡ None → AreTwo a.address a.size b.address b.size
apart_from a b h = elim (or_cases (nat_le (a.address + a.size) b.address) (nat_le (b.address + b.size) a.address) (unless_none (are_apart a b) (two a.name b.name) h)) [
  | inl before ↦ inl (leb-true _ _ before)
  | inr behind ↦ inr (leb-true _ _ behind)
]

pub record AreApart (blocks : List Block) (memories : List (List ℕ × DeviceMemory)) : Type 0 where
  -- each from each block
  pub outside : All (λ x. All (λ b. AreTwo b.physical_address b.size x.1.physical_address x.1.size) blocks) memories
  pub pairs : AllPairs (λ x y. AreTwo x.1.physical_address x.1.size y.1.physical_address y.1.size) memories

abbrev AreExtents : Extent → Extent → Type 0
AreExtents a b = AreTwo a.address a.size b.address b.size

pub devices_apart : (p : Source) → offence_18 p ≡ None → AreApart p.memory_blocks (memories_of p.devices)
unfolding offence_18 first_overlap
devices_apart p h =
    let f : List ℕ × DeviceMemory → Extent = λ x. memory_extent x.1 in
    let blocks = map block_extent p.memory_blocks in
    let whole : first_overlap (blocks ++ map f (memories_of p.devices)) ≡ None = ap (λ t. first_overlap (blocks ++ t)) (sym (extents_are p.devices)) ∙ h in
    let all : AllPairs AreExtents (blocks ++ map f (memories_of p.devices)) =
    pairs_weaker (λ a b. overlapping a b ≡ None) AreExtents apart_from _ (pairs_at overlapping _ whole) in
    let across = all_unmapped block_extent (λ a. All (AreExtents a) (map f (memories_of p.devices))) p.memory_blocks (pairs_across AreExtents blocks (map f (memories_of p.devices)) all) in
    record {
      outside = λ k d l. λ i b m. all_unmapped f (AreExtents (block_extent (get_or p.memory_blocks i b))) (memories_of p.devices) (across i b m) k d l;
      pairs = pairs_unmapped f AreExtents (memories_of p.devices) (pairs_second AreExtents blocks (map f (memories_of p.devices)) all);
    }
