-- What is made of a placed policy is sound, and what else holds of it.
use Rattle.std.proofs.Common.{◌≡◌, ◌∙◌, sym, ap, subst, ℕ, List}
use Rattle.proof_build.proofs.Areas.{areas}
use Rattle.proof_build.proofs.Ascending.{ascending}
use Rattle.proof_build.proofs.Bitmaps.{bitmaps}
use Rattle.proof_build.proofs.Contents.{contents}
use Rattle.proof_build.proofs.GreatestPages.{leaves}
use Rattle.proof_build.proofs.KernelSpans.{kernel_spans}
use Rattle.proof_build.proofs.MemoryTypes.{memory_types}
use Rattle.proof_build.proofs.OwnPages.{own_pages}
use Rattle.proof_build.proofs.Paths.{paths}
use Rattle.proof_build.proofs.PlanEvents.{plan_and_events}
use Rattle.proof_build.proofs.SpansByNumber.{spans_by_number}
use Rattle.proof_build.proofs.SpareTables.{spare_tables}
use Rattle.proof_build.proofs.States.{states}
use Rattle.proof_build.proofs.Tables.{tables}
use Rattle.proof_build.proofs.Walks.{walks}
use Rattle.proof_build.specs.Built.{HasGreatestPages, HasKernelSpans, HasMemoryTypes, HasNoSpareTables, HasSpans, TablesAscend}
use Rattle.image_soundness.specs.Paths.{HasOnePathPerTable}
use Rattle.image_emit.specs.Made.{IsEmitted, IsImageOf, IsMade, Made, image_of, policy_of}
use Rattle.image_soundness.specs.ThingBytes.{thing_bytes}
use Rattle.image_pack.specs.Parts.{IsParts}
use Rattle.image_pack.specs.declared.parts.Image.{Image}
use Rattle.image_soundness.specs.Sound.{AreFilesHeld, ForEachSubject, IsSound}
use Rattle.policy_lawful.specs.Contents.{Held}
use Rattle.policy_lawful.specs.Resolution.{source_of}
use Rattle.policy_lawful.specs.source.Source.{Source}
use Rattle.region_alloc.specs.Placed.{Placement}

of_made : (files : Held) (m : Made) → IsMade m → m.things ≡ thing_bytes files (policy_of m) → IsParts (image_of m) → AreFilesHeld (source_of (policy_of m)) files
    → IsSound (source_of (policy_of m)) files (image_of m)
of_made files m h e parts held = record {
  lawful = h.lawful;
  parts = parts;
  held = held;
  contents = contents files m h e;
  walks = walks m h;
  tables = tables m h;
  bitmaps = bitmaps m h;
  msr_areas = areas m h;
  fresh_states = states m h;
  own_pages = own_pages m h;
  plan_and_events = plan_and_events m h;
}

-- it is sound, where things hold what the policy says, and the files of contents are held
pub is_sound : (x : Placement) (things : List (List ℕ)) (i : Image) → IsEmitted x things i → (files : Held) → things ≡ thing_bytes files x.expanded.lawful → AreFilesHeld (source_of x.expanded.lawful) files
    → IsSound (source_of x.expanded.lawful) files i
is_sound x things i emitted files e there =
    let m = emitted.made in
    let held : m.made.things ≡ thing_bytes files (policy_of m.made) = m.held ∙ e ∙ ap (λ (y : Placement). thing_bytes files y.expanded.lawful) (sym m.placed) in
    subst (λ j. IsSound (source_of x.expanded.lawful) files j) (sym m.image)
    (subst (λ (y : Placement). IsSound (source_of y.expanded.lawful) files (image_of m.made)) m.placed (of_made files m.made m.is held (subst IsParts m.image emitted.parts) (subst (λ (y : Placement). AreFilesHeld (source_of y.expanded.lawful) files) (sym m.placed) there)))

-- ---- and what it has beside

module _ (x : Placement) (things : List (List ℕ)) (i : Image) (m : IsImageOf x things i) where
  -- what holds of the image that the parts make holds of it
  so : (P : Source → Image → Type 0) → P (source_of (policy_of m.made)) (image_of m.made) → P (source_of x.expanded.lawful) i
  so P h = subst (λ j. P (source_of x.expanded.lawful) j) (sym m.image) (subst (λ (y : Placement). P (source_of y.expanded.lawful) (image_of m.made)) m.placed h)

  pub has_spans : HasSpans (source_of x.expanded.lawful) i
  has_spans = so (λ p j. HasSpans p j) (spans_by_number m.made m.is)

  pub has_kernel_spans : ForEachSubject (source_of x.expanded.lawful) i (HasKernelSpans i)
  has_kernel_spans = so (λ p j. ForEachSubject p j (HasKernelSpans j)) (kernel_spans m.made m.is)

  pub has_paths : HasOnePathPerTable i
  has_paths = so (λ p j. HasOnePathPerTable j) (paths m.made m.is)

  pub has_leaves : ForEachSubject (source_of x.expanded.lawful) i (HasGreatestPages (source_of x.expanded.lawful) i)
  has_leaves = so (λ p j. ForEachSubject p j (HasGreatestPages p j)) (leaves m.made m.is)

  pub has_ascending : ForEachSubject (source_of x.expanded.lawful) i (λ s q. TablesAscend i q)
  has_ascending = so (λ p j. ForEachSubject p j (λ s q. TablesAscend j q)) (ascending m.made m.is)

  pub has_spare : ForEachSubject (source_of x.expanded.lawful) i (HasNoSpareTables i)
  has_spare = so (λ p j. ForEachSubject p j (HasNoSpareTables j)) (spare_tables m.made m.is)

  pub has_types : ForEachSubject (source_of x.expanded.lawful) i (HasMemoryTypes (source_of x.expanded.lawful) i)
  has_types = so (λ p j. ForEachSubject p j (HasMemoryTypes p j)) (memory_types m.made m.is)
