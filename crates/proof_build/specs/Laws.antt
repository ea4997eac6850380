-- What holds of every image that is made of a placed policy.
use Rattle.std.specs.Prelude.{◌≡◌, ℕ, List}
use Rattle.image_emit.specs.Made.{IsEmitted, IsImageOf}
use Rattle.image_soundness.specs.ThingBytes.{thing_bytes}
use Rattle.image_pack.specs.declared.parts.Image.{Image}
use Rattle.image_soundness.specs.Sound.{AreFilesHeld, ForEachSubject, IsSound}
use Rattle.policy_lawful.specs.Resolution.{source_of}
use Rattle.policy_lawful.specs.Contents.{Held}
use Rattle.region_alloc.specs.Placed.{Placement}
use Rattle.policy_lawful.specs.source.Source.{Source}
use Rattle.proof_build.specs.Built.{HasGreatestPages, HasKernelSpans, HasMemoryTypes, HasNoSpareTables, HasSpans, IsMadeFor, TablesAscend}
use Rattle.image_soundness.specs.Paths.{HasOnePathPerTable}

-- where its regions hold what the policy says over some files, and those that contents name are held, it is sound for the policy and
-- these files
abbrev pub ImagesAreSound : Type 0
ImagesAreSound =
    (x : Placement) (things : List (List ℕ)) (i : Image) (files : Held) → IsEmitted x things i → things ≡ thing_bytes files x.expanded.lawful
    → AreFilesHeld (source_of x.expanded.lawful) files → IsSound (source_of x.expanded.lawful) files i

-- its spans are the policy's regions where its placement has them, and the devices' memory
abbrev pub SpansAreThePolicys : Type 0
SpansAreThePolicys = (x : Placement) (things : List (List ℕ)) (i : Image) → IsImageOf x things i → HasSpans (source_of x.expanded.lawful) i

-- the spans that a subject's part numbers are the kernel's for this subject
abbrev pub KernelSpansAreOwn : Type 0
KernelSpansAreOwn =
    (x : Placement) (things : List (List ℕ)) (i : Image) → IsImageOf x things i → ForEachSubject (source_of x.expanded.lawful) i (HasKernelSpans i)

-- no page of its tables is read at two paths
abbrev pub TablesHaveOnePath : Type 0
TablesHaveOnePath = (x : Placement) (things : List (List ℕ)) (i : Image) → IsImageOf x things i → HasOnePathPerTable i

-- along a walk its tables ascend
abbrev pub WalksAscend : Type 0
WalksAscend =
    (x : Placement) (things : List (List ℕ)) (i : Image) → IsImageOf x things i → ForEachSubject (source_of x.expanded.lawful) i (λ s q. TablesAscend i q)

-- what no walk reads of them is zero
abbrev pub NoTableIsSpare : Type 0
NoTableIsSpare =
    (x : Placement) (things : List (List ℕ)) (i : Image) → IsImageOf x things i → ForEachSubject (source_of x.expanded.lawful) i (HasNoSpareTables i)

-- each window is mapped by the greatest pages that it allows
abbrev pub PagesAreGreatest : Type 0
PagesAreGreatest =
    (x : Placement) (things : List (List ℕ)) (i : Image) → IsImageOf x things i
    → ForEachSubject (source_of x.expanded.lawful) i (HasGreatestPages (source_of x.expanded.lawful) i)

-- with the memory type of what it shows
abbrev pub PagesHaveTheirTypes : Type 0
PagesHaveTheirTypes =
    (x : Placement) (things : List (List ℕ)) (i : Image) → IsImageOf x things i
    → ForEachSubject (source_of x.expanded.lawful) i (HasMemoryTypes (source_of x.expanded.lawful) i)

-- of a policy and files there is one
abbrev pub ImagesAreOne : Type 0
ImagesAreOne = (p : Source) (files : Held) (i j : Image) → IsMadeFor p files i → IsMadeFor p files j → i ≡ j
