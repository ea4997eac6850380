-- What the parts that were made one after another come to.
use Rattle.std.proofs.Common.{◌≡◌, refl, sym, ap, ap₂, subst, ℕ, List, length, map, Option}
use Rattle.std.specs.List.{All}
use Rattle.std.specs.List.Sorted.{IsPermutation}
use Rattle.image_pack.specs.Form.{IsBytes}
use Rattle.event_emit.specs.Named.{AreNamed}
use Rattle.image_soundness.specs.TablesOf.{AreDevices}
use Rattle.image_emit.proofs.Conditions.{keeps}
use Rattle.image_emit.proofs.ContentLengths.{contents_kept}
use Rattle.image_emit.specs.Gathered.{AreParts, IsHeld}
use Rattle.image_emit.specs.Made.{IsFilled, IsImageOf, IsMade, Made, choice_region, content_at, image_of}
use Rattle.image_pack.proofs.ConditionsFit.{conditions_fit}
use Rattle.image_pack.specs.Parts.{IsParts, counted_image}
use Rattle.image_pack.specs.SpanConditions.{AreSpans}
use Rattle.image_pack.specs.declared.parts.DevicePart.{DevicePart}
use Rattle.image_pack.specs.declared.parts.Image.{Image}
use Rattle.image_pack.specs.declared.parts.SpanPart.{SpanPart}
use Rattle.image_pack.specs.declared.parts.SubjectPart.{SubjectPart}
use Rattle.image_pack.specs.plan.Plan.{Plan}
use Rattle.image_soundness.specs.PlanOf.{IsPlanOf}
use Rattle.policy_lawful.specs.Resolution.{source_of}
use Rattle.region_alloc.specs.Placed.{IsPlaced, Placement}
use Rattle.span_emit.specs.SpansOf.{spans_of}

module _ (x : Placement) (things : List (List ℕ)) (spans : List SpanPart) (held : List (List ℕ)) (parts : List SubjectPart) (plan : Plan) (devices : List DevicePart)
    (known : IsPlaced x) (named : AreNamed x.expanded.lawful) (filled : IsFilled x things) (numbered : IsPermutation (spans_of x) spans) (are : AreSpans spans) (h : IsHeld x things spans held) (p : AreParts x parts)
    (plans : IsPlanOf (source_of x.expanded.lawful) plan) (are_devices : AreDevices x.expanded.lawful (length x.expanded.regions) x.expanded.lawful.devices devices) where
  all : Made
  all = record { placed = x; things = things; pages = h.pages; events = p.events; devices = devices; plan = plan; spans = spans }

  is_made : IsMade all
  unfolding all
  is_made = record {
    resolved = known.resolved;
    lawful = known.lawful;
    expansion = known.expansion;
    placement = known.placement;
    inside = known.inside;
    disjoint = known.disjoint;
    subjects_named = named.subjects;
    devices_named = named.devices;
    filled = filled;
    pages = h.are;
    events = p.are;
    devices = are_devices;
    plan = plans;
    spans = are;
    numbered = numbered;
  }

  -- these parts are an image that is made
  pub image_made : IsImageOf x things (counted_image x.expanded.lawful.processor.logical_cpus (choice_region x.expanded.lawful) spans parts plan devices held)
  unfolding all image_of
  image_made = record {
    made = all;
    is = is_made;
    placed = refl;
    held = refl;
    image = ap₂ (λ a b. counted_image x.expanded.lawful.processor.logical_cpus (choice_region x.expanded.lawful) spans a plan devices b) p.made h.held_by;
  }

-- the same, of counts that are the policy's
pub image_of_parts : (x : Placement) (things : List (List ℕ)) (spans : List SpanPart) (held : List (List ℕ)) (parts : List SubjectPart) (plan : Plan) (devices : List DevicePart) (cpus : ℕ) (tau0 : Option ℕ)
    → IsPlaced x → AreNamed x.expanded.lawful → IsFilled x things → IsPermutation (spans_of x) spans → AreSpans spans → IsHeld x things spans held → AreParts x parts → IsPlanOf (source_of x.expanded.lawful) plan
    → AreDevices x.expanded.lawful (length x.expanded.regions) x.expanded.lawful.devices devices → cpus ≡ x.expanded.lawful.processor.logical_cpus → tau0 ≡ choice_region x.expanded.lawful
    → IsImageOf x things (counted_image cpus tau0 spans parts plan devices held)
image_of_parts x things spans held parts plan devices cpus tau0 known named filled numbered are h p plans are_devices same chosen =
    subst (λ n. IsImageOf x things (counted_image n tau0 spans parts plan devices held)) (sym same)
    (subst (λ t. IsImageOf x things (counted_image x.expanded.lawful.processor.logical_cpus t spans parts plan devices held)) (sym chosen)
    (image_made x things spans held parts plan devices known named filled numbered are h p plans are_devices))

-- it keeps the conditions of an image, where what its spans hold are bytes
pub parts_fit : (x : Placement) (things : List (List ℕ)) (i : Image) → IsImageOf x things i → All IsBytes i.contents → IsParts i
unfolding image_of
parts_fit x things i m bytes =
    let same : i.contents ≡ map (content_at m.made) m.made.spans = ap (λ (j : Image). j.contents) m.image in
    subst (λ j. IsParts j) (sym m.image) (conditions_fit (image_of m.made) (keeps m.made m.is (contents_kept m.made m.is (subst (All IsBytes) same bytes))))
