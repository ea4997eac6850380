-- A store within a page, and where walks end.
use Rattle.std.proofs.Common.{◌≡◌, ℕ, ◌+◌, ◌*◌, ◌/◌, ◌%◌, ◌^◌, ◌<◌, ◌==◌, Bool, true, false, cond, List, Option, Some, None, ap₂, arith}
use Rattle.std.specs.Prelude.{bit_and}
use Rattle.std.proofs.lemmas.Nat.{and_le_l}
use Rattle.muen_num.specs.Access.{kind_bit}
use Rattle.muen_num.specs.AccessSize.{bytes_of}
use Rattle.muen_num.specs.declared.access.AccessKind.{AccessKind}
use Rattle.muen_num.specs.declared.access.AccessKind.TheVariants.{Read, Write, Fetch}
use Rattle.muen_num.specs.declared.access.AccessSize.{AccessSize}
use Rattle.muen_num.specs.declared.access.AccessSize.TheVariants.{One, Two, Four, Eight}
use Rattle.machine_layout.specs.Memory.{Page, is_there, change, over, le_bytes, store_of}
use Rattle.machine_layout.specs.Walks.{bits_of, index_at, entry_size, is_present, is_leaf, is_misconfigured, reads, walk_from, walk_of, entry_of, root_of}
use Rattle.machine_layout.specs.declared.walk.Walk.{Walk}
use Rattle.machine_layout.specs.declared.walk.Walk.TheVariants.{At, Violation, Misconfigured}
use Rattle.vmx_machine.specs.Within.{IsWithinPage, EndsWithin}

pub stored_within : (m : List Page) (page offset n v : ℕ) → offset < 4096 → store_of m (4096 * page + offset) n v ≡ change m page (λ old. over old offset (le_bytes n v))
stored_within m page offset n v h =
    let k : (4096 * page + offset) / 4096 ≡ page = omega arith in
    let o : (4096 * page + offset) % 4096 ≡ offset = omega arith in
    ap₂ (λ j i. change m j (λ old. over old i (le_bytes n v))) k o

-- an address in a page of each size keeps the multiple of the access's size
in_small : (size : AccessSize) (b addr : ℕ) → addr % bytes_of size ≡ 0 → (4096 * b + addr % 4096) % bytes_of size ≡ 0
in_small One b addr h = omega arith
in_small Two b addr h = omega arith
in_small Four b addr h = omega arith
in_small Eight b addr h = omega arith

in_large : (size : AccessSize) (b addr : ℕ) → addr % bytes_of size ≡ 0 → (4096 * b + addr % 2097152) % bytes_of size ≡ 0
in_large One b addr h = omega arith
in_large Two b addr h = omega arith
in_large Four b addr h = omega arith
in_large Eight b addr h = omega arith

in_huge : (size : AccessSize) (b addr : ℕ) → addr % bytes_of size ≡ 0 → (4096 * b + addr % 1073741824) % bytes_of size ≡ 0
in_huge One b addr h = omega arith
in_huge Two b addr h = omega arith
in_huge Four b addr h = omega arith
in_huge Eight b addr h = omega arith

in_top : (size : AccessSize) (b addr : ℕ) → addr % bytes_of size ≡ 0 → (4096 * b + addr % 549755813888) % bytes_of size ≡ 0
in_top One b addr h = omega arith
in_top Two b addr h = omega arith
in_top Four b addr h = omega arith
in_top Eight b addr h = omega arith

module _ (entry : ℕ → ℕ → Option ℕ) (there : ℕ → Bool) (addr want : ℕ) (size : AccessSize) (fine : addr % bytes_of size ≡ 0) where
  by_rights : (enough found : Bool) (rights address : ℕ) → rights < 8 → address % bytes_of size ≡ 0 → EndsWithin (bytes_of size) (cond enough (cond found (At address) Misconfigured) (Violation rights))
  by_rights true true rights address r p = p
  by_rights true false rights address r p = tt
  by_rights false found rights address r p = r

  by_entry : (present bad leaf : Bool) (end deep : Walk) → EndsWithin (bytes_of size) end → EndsWithin (bytes_of size) deep → EndsWithin (bytes_of size) (cond present (cond bad Misconfigured (cond leaf end deep)) (Violation 0))
  by_entry false bad leaf end deep e d = omega arith
  by_entry true true leaf end deep e d = tt
  by_entry true false true end deep e d = e
  by_entry true false false end deep e d = d

  kept : (rights e : ℕ) → rights < 8 → bit_and rights e < 8
  kept rights e h = let l = and_le_l rights e in omega (arith, l)

  reads_within : (level rights : ℕ) (o : Option ℕ) (below : ℕ → ℕ → Walk) → rights < 8 → ((b : ℕ) → (4096 * b + addr % entry_size level) % bytes_of size ≡ 0) → ((t r : ℕ) → r < 8 → EndsWithin (bytes_of size) (below t r)) → EndsWithin (bytes_of size) (reads there level addr want rights o below)
  reads_within level rights None below r p d = tt
  reads_within level rights (Some e) below r p d =
      by_entry (is_present e) (is_misconfigured level e) (is_leaf level e) _ _ (by_rights (bit_and (bit_and rights (bits_of e 0 2)) want == want) (there ((4096 * bits_of e 12 51 + addr % entry_size level) / 4096)) (bit_and rights (bits_of e 0 2)) (4096 * bits_of e 12 51 + addr % entry_size level) (kept rights (bits_of e 0 2) r) (p (bits_of e 12 51))) (d (bits_of e 12 51) (bit_and rights (bits_of e 0 2)) (kept rights (bits_of e 0 2) r))

  pub from_within : (table rights : ℕ) → rights < 8 → EndsWithin (bytes_of size) (walk_from entry there addr want 3 table rights)
  unfolding walk_from
  from_within table rights r = three table rights r
    where
      zero_level : (t r : ℕ) → r < 8 → EndsWithin (bytes_of size) (walk_from entry there addr want 0 t r)
      zero_level t r h = reads_within 0 r (entry t (index_at 0 addr)) (λ _ _. Misconfigured) h (λ b. in_small size b addr fine) (λ _ _ _. tt)

      one : (t r : ℕ) → r < 8 → EndsWithin (bytes_of size) (walk_from entry there addr want 1 t r)
      one t r h = reads_within 1 r (entry t (index_at 1 addr)) (λ t r. walk_from entry there addr want 0 t r) h (λ b. in_large size b addr fine) zero_level

      two : (t r : ℕ) → r < 8 → EndsWithin (bytes_of size) (walk_from entry there addr want 2 t r)
      two t r h = reads_within 2 r (entry t (index_at 2 addr)) (λ t r. walk_from entry there addr want 1 t r) h (λ b. in_huge size b addr fine) one

      three : (t r : ℕ) → r < 8 → EndsWithin (bytes_of size) (walk_from entry there addr want 3 t r)
      three t r h = reads_within 3 r (entry t (index_at 3 addr)) (λ t r. walk_from entry there addr want 2 t r) h (λ b. in_top size b addr fine) two

pub walk_within : (m : List Page) (eptp addr : ℕ) (kind : AccessKind) (size : AccessSize) (w : Walk) → addr % bytes_of size ≡ 0 → w ≡ walk_of m eptp addr kind → EndsWithin (bytes_of size) w
walk_within m eptp addr kind size w h e =
    rw e (from_within (entry_of m) (is_there m) addr (kind_bit kind) size h (root_of eptp) 7 (omega arith))

pub bit_fits : (kind : AccessKind) → kind_bit kind < 8
bit_fits Read = omega arith
bit_fits Write = omega arith
bit_fits Fetch = omega arith

-- an address is in a page, and its offset there is a multiple of what it is a multiple of
pub page_within : (address : ℕ) (size : AccessSize) → address % bytes_of size ≡ 0 → address < 2 ^ 64 → IsWithinPage (address / 4096) (address % 4096) (bytes_of size)
page_within address One h l = record { below = omega arith; inside = omega arith; aligned = omega arith }
page_within address Two h l = record { below = omega arith; inside = omega arith; aligned = omega arith }
page_within address Four h l = record { below = omega arith; inside = omega arith; aligned = omega arith }
page_within address Eight h l = record { below = omega arith; inside = omega arith; aligned = omega arith }
