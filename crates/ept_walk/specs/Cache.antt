-- Which memories a walk fits that keeps where walks led, and what it holds.
use Rattle.std.specs.Prelude.{◌≡◌, ℕ, ◌*◌, ◌/◌, ◌<◌, Bool, true, false, List, length, slice_index_or, is_some}
use Rattle.machine_layout.specs.Memory.{Page}
use Rattle.machine_layout.specs.Walks.{addresses_read}
use Rattle.ept_walk.specs.Held.{AllStand, looked_up, IsTouched}
use Rattle.ept_walk.specs.declared.cached.CachedWalk.{CachedWalk}

-- **each translation that is held is that of these pages, and the entries that it was read from are in the tables noted**
abbrev pub FitsCached : CachedWalk → List Page → Type 0
FitsCached w m = AllStand m w.slots.items w.changed.items

-- **whether a translation is held for a guest address**
abbrev pub holds_of : CachedWalk → ℕ → ℕ → Bool
holds_of w eptp addr = is_some (looked_up w.slots.items w.changed.items eptp (addr / 4096))

-- **each translation goes that was read from an entry of which a byte is among the n bytes from there on**
abbrev pub Drops : ℕ → ℕ → CachedWalk → CachedWalk → Type 0
Drops at n old new =
    (m : List Page) (eptp addr k : ℕ) → FitsCached old m → holds_of old eptp addr ≡ true
    → k < length (addresses_read m eptp (4096 * (addr / 4096)))
    → IsTouched at n (slice_index_or (addresses_read m eptp (4096 * (addr / 4096))) k 0) → holds_of new eptp addr ≡ false
