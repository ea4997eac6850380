-- How many tables lie below entries.
use Rattle.std.specs.Prelude.{ℕ, zero, suc, ◌+◌, ◌*◌, List}
use Rattle.ept_emit.specs.declared.window.Window.{Window}
use Rattle.ept_emit.specs.Pages.{count, is_taken, ranges_of}
use Rattle.machine_layout.specs.Walks.{entry_size}

-- the tables below the n entries from e on of a level, as many as there can be
unfoldable pub needs : List Window → ℕ → ℕ → ℕ → ℕ
needs ws zero e n = 0
needs ws (suc level) e n = count (is_taken (ranges_of ws) (entry_size (suc level))) e n + needs ws level (512 * e) (512 * n)
