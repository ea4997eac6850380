-- The windows of a subject as its tables map them: where what they show lies, its memory type, and the greatest page.
use Rattle.std.specs.Prelude.{ℕ, ◌%◌, ◌^◌, ◌==◌, List, map, if◌then◌else◌}
use Rattle.ept_emit.specs.declared.window.Leaf.{Leaf}
use Rattle.ept_emit.specs.declared.window.Leaf.TheVariants.{Small, Large, Huge}
use Rattle.ept_emit.specs.declared.window.Window.{Window}
use Rattle.expand_kernel.specs.Numbered.{caching_of}
use Rattle.expand_kernel.specs.granted.GrantedWindow.{GrantedWindow}
use Rattle.expand_kernel.specs.granted.Grants.{Grants}
use Rattle.policy_lawful.specs.rights.Caching.{Caching}
use Rattle.region_alloc.specs.Placed.{Placement, address_of}

-- the greatest page: guest and physical address agree modulo its size
abbrev pub leaf_for : ℕ → ℕ → Leaf
leaf_for guest address =
    if guest % 2 ^ 30 == address % 2 ^ 30 then Huge
    else (if guest % 2 ^ 21 == address % 2 ^ 21 then Large else Small)

-- a window at an address
abbrev pub mapped_at : GrantedWindow → ℕ → Caching → Window
mapped_at w address caching =
    record { guest = w.guest; size = w.size; address = address; rights = w.rights; caching = caching; leaf = leaf_for w.guest address }

abbrev pub mapped : Placement → GrantedWindow → Window
mapped x w = mapped_at w (address_of x w.thing) (caching_of x.expanded.lawful w.thing)

-- the windows of a subject that is granted this
abbrev pub mapped_windows : Placement → Grants → List Window
mapped_windows x g = map (mapped x) g.windows
