-- Sources that an earlier one is like: with its highest table, and with its windows.
use Rattle.std.specs.Prelude.{◌≡◌, ℕ, ◌+◌, ◌*◌, ◌^◌, ◌<◌, Bool, true, List, Option, Some, None, option_and_then, slice_index_or}
use Rattle.dma_check.specs.Faults.{fault_at}
use Rattle.dma_check.specs.Held.{AreFor, OverDeclared}
use Rattle.dma_check.specs.Numbered.{windows_by}
use Rattle.dma_check.specs.Views.{View, bus_of, devfn_of}
use Rattle.dma_check.specs.declared.held.DmaWindow.{DmaWindow}
use Rattle.dma_tables.specs.DmaWalk.{context_table, highest_table, root_page, word_of}
use Rattle.dma_tables.specs.declared.file.DmaFile.{DmaFile}
use Rattle.ept_check.specs.Search.{first_from}
use Rattle.image_pack.specs.declared.parts.SpanPart.{SpanPart}
use Rattle.policy_lawful.specs.source.Source.{Source}

-- the highest table of a source
abbrev pub highest_of : DmaFile → ℕ → Option ℕ
highest_of t source =
    option_and_then (λ table. highest_table (word_of t) table (devfn_of source)) (context_table (word_of t) (root_page t) (bus_of source))

-- beside pages, from the root table's on, stand sources before this one, each beside its highest table
abbrev pub AreEarlier : DmaFile → ℕ → List (Option ℕ) → Type 0
AreEarlier t source earlier = (k s : ℕ) → slice_index_or earlier k None ≡ Some s → (s < source) × (highest_of t s ≡ Some (root_page t + k))

-- an earlier source has this one's highest table, and its windows
pub record IsAgain (t : DmaFile) (p : Source) (addresses : List ℕ) (source : ℕ) : Type 0 where
  pub earlier : ℕ
  pub before : earlier < source
  pub highest : highest_of t earlier ≡ highest_of t source
  pub windows : windows_by p addresses earlier ≡ windows_by p addresses source

-- no source before this one has a fault
abbrev pub HasNoneBefore : View → ℕ → Type 0
HasNoneBefore v source = first_from (fault_at v) 0 (2 ^ 48 * source) ≡ None

-- an earlier source with its highest table has these windows too, and no source before this one has a fault
pub record IsKnown (v : View) (t : DmaFile) (ws : List DmaWindow) (source : ℕ) : Type 0 where
  pub earlier : ℕ
  pub before : earlier < source
  pub highest : highest_of t earlier ≡ highest_of t source
  pub own : AreFor v.declared earlier ws
  pub none : HasNoneBefore v source

-- over whatever is declared for which these are a source's windows, where there is such an earlier source if that is said
abbrev pub WhereKnown : DmaFile → List SpanPart → List DmaWindow → ℕ → Bool → (View → Type 0) → Type 0
WhereKnown t spans ws source again Holds = OverDeclared t spans ws source (λ v. (again ≡ true → IsKnown v t ws source) → Holds v)
