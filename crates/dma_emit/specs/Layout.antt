-- Which page of the file has which table. Pages are numbered from 0, the root table's; then come the context tables by
-- ascending bus, and then each domain's tables (this project's own order).
use Rattle.std.specs.Prelude.{ℕ, ◌+◌, ◌==◌, Bool, List, [], filter, length, slice_index_or, if◌then◌else◌}
use Rattle.std.specs.List.{list_any, sum_by}
use Rattle.dma_emit.specs.declared.domains.Domains.{Domains}
use Rattle.dma_emit.specs.declared.layout.TheConstants.{BUSES}
use Rattle.ept_emit.specs.Pages.{ept_pages, ranges_of}
use Rattle.ept_emit.specs.declared.window.Window.{Window}
use Rattle.muen_num.specs.Range.{numbers_below}

-- a device of some domain is on this bus
abbrev pub on_bus : Domains → ℕ → Bool
on_bus d bus = list_any (λ v. v.device.bus == bus) d.devices

-- some device stands in the domain of this number
abbrev pub has_device : Domains → ℕ → Bool
has_device d number = list_any (λ v. v.domain == number) d.devices

-- the buses that have a context table
abbrev pub buses_below : Domains → ℕ → List ℕ
buses_below d end = filter (on_bus d) (numbers_below end)

unfoldable pub buses : Domains → List ℕ
buses d = buses_below d BUSES

-- the page of the context table of a bus
abbrev pub context_page : Domains → ℕ → ℕ
context_page d bus = 1 + length (buses_below d bus)

-- the windows of the domain of this number
abbrev pub domain_windows_at : Domains → ℕ → List Window
domain_windows_at d number = slice_index_or d.windows number []

-- how many pages its tables take, none where no device stands in it
abbrev pub domain_pages : Domains → ℕ → ℕ
domain_pages d number = if has_device d number then ept_pages (ranges_of (domain_windows_at d number)) else 0

-- the page of its highest table; behind the last domain's, the number of all pages
abbrev pub tables_page : Domains → ℕ → ℕ
tables_page d number = 1 + length (buses d) + sum_by (domain_pages d) (numbers_below number)

abbrev pub page_count : Domains → ℕ
page_count d = tables_page d (length d.windows)
