-- The image of a policy over files is one, whatever placement of the policy it is made of.
use Rattle.std.proofs.Common.{◌≡◌, ℕ, ◌+◌, List, [], ◌∷◌, ◌++◌, get_or, length, map, refl, sym, ap, ap₂, ◌∙◌, subst, arith}
use Rattle.std.specs.Prelude.{slice_index_or}
use Rattle.std.specs.List.{AllZip, enumerate_from, flat_map, zip}
use Rattle.std.proofs.lemmas.List.{same_lists}
use Rattle.std.proofs.lemmas.List.FromFn.{length-enumerate_from}
use Rattle.std.proofs.lemmas.Option.{get_or_from_slice_get}
use Rattle.std.proofs.lemmas.Slice.Zip.{AllZip-long}
use Rattle.event_emit.specs.Tables.{AreTables}
use Rattle.event_emit.specs.declared.event_tables.EventTables.{EventTables}
use Rattle.expand_kernel.specs.Grants.{AreGrantsOf}
use Rattle.expand_kernel.specs.Regions.{regions_of}
use Rattle.expand_kernel.specs.granted.Grants.{Grants}
use Rattle.expand_kernel.specs.granted.Route.{Route}
use Rattle.image_emit.proofs.ByNumber.{zip_length}
use Rattle.image_emit.proofs.BySubject.{IsAtIndex, at_index_there}
use Rattle.image_emit.specs.Made.{IsMade, Made, choice_region, image_of, kernel_bytes, policy_of, subject_part, subject_parts}
use Rattle.image_pack.specs.Parts.{IsParts, counted_image}
use Rattle.image_pack.specs.declared.parts.DevicePart.{DevicePart}
use Rattle.image_pack.specs.declared.parts.Image.{Image}
use Rattle.image_pack.specs.declared.parts.SpanPart.{SpanPart}
use Rattle.image_pack.specs.declared.parts.SubjectPart.{SubjectPart}
use Rattle.image_pack.specs.plan.Plan.{Plan}
use Rattle.image_soundness.specs.ThingBytes.{thing_bytes}
use Rattle.msrbm_emit.specs.Area.{msr_count}
use Rattle.muen_num.proofs.Lists.{there}
use Rattle.muen_num.proofs.Pairs.{both_at}
use Rattle.policy_lawful.proofs.UniqueNames.{unique}
use Rattle.policy_lawful.specs.Contents.{Held}
use Rattle.policy_lawful.specs.Resolution.{Resolution, source_of}
use Rattle.policy_lawful.specs.declared.resolved.Subject.{Subject}
use Rattle.policy_lawful.specs.source.Source.{Source}
use Rattle.proof_build.proofs.OneEvents.{devices_are_one, tables_are_one}
use Rattle.image_soundness.proofs.OnePlan.{plans_are_one}
use Rattle.proof_build.proofs.OneResolution.{resolutions_are_one}
use Rattle.proof_build.proofs.OneSpans.{spans_are_one}
use Rattle.proof_build.proofs.PageBytes.{have_bytes}
use Rattle.proof_build.specs.Built.{IsMadeFor}
use Rattle.region_alloc.specs.Placed.{Placement}
use Rattle.region_alloc.specs.Placement.{placement_of}
use Rattle.span_emit.specs.SpansOf.{spans_of}
use Rattle.subject_emit.proofs.OnePages.{pages_are_one}
use Rattle.subject_emit.specs.Pages.{ArePages}
use Rattle.subject_emit.specs.declared.subject_pages.SubjectPages.{SubjectPages}

-- ---- what is granted

-- what an image has of grants: not the order of entries for events
record AreAlike (g h : Grants) : Type 0 where
  windows : g.windows ≡ h.windows
  ports : g.ports ≡ h.ports
  msrs : g.msrs ≡ h.msrs

grants_alike : (r : Resolution) (ss : List Subject) (gs hs : List Grants) → AllZip (AreGrantsOf r) ss gs → AllZip (AreGrantsOf r) ss hs → AllZip AreAlike gs hs
grants_alike r [] [] [] a b = tt
grants_alike r [] [] (h ∷ hs) a b = absurd b
grants_alike r [] (g ∷ gs) hs a b = absurd a
grants_alike r (s ∷ ss) [] hs a b = absurd a
grants_alike r (s ∷ ss) (g ∷ gs) [] a b = absurd b
grants_alike r (s ∷ ss) (g ∷ gs) (h ∷ hs) a b = (
  record { windows = a.0.windows ∙ sym b.0.windows; ports = a.0.ports ∙ sym b.0.ports; msrs = a.0.msrs ∙ sym b.0.msrs },
  grants_alike r ss gs hs a.1 b.1,
)

-- subjects' parts are the same by each
parts_alike : (x : Placement) (n : ℕ) (ss : List Subject) (gs hs : List Grants) (ts : List EventTables) → AllZip AreAlike gs hs
    → map (subject_part x) (enumerate_from n (zip ss (zip gs ts))) ≡ map (subject_part x) (enumerate_from n (zip ss (zip hs ts)))
parts_alike x n [] gs hs ts a = refl
parts_alike x n (s ∷ ss) [] [] ts a = refl
parts_alike x n (s ∷ ss) [] (h ∷ hs) ts a = absurd a
parts_alike x n (s ∷ ss) (g ∷ gs) [] ts a = absurd a
parts_alike x n (s ∷ ss) (g ∷ gs) (h ∷ hs) [] a = refl
parts_alike x n (s ∷ ss) (g ∷ gs) (h ∷ hs) (t ∷ ts) a =
    let part : SubjectPart = subject_part x (n, (s, (g, t))) in
    let same : part ≡ subject_part x (n, (s, (h, t))) = ap (λ c. record part { msrs = c }) (ap msr_count a.0.msrs) in
    ap₂ (λ q qs. q ∷ qs) same (parts_alike x (n + 1) ss gs hs ts a.1)

-- pages by the one are pages by the other
pages_alike : (x : Placement) (k : ℕ) (s : Subject) (g h : Grants) (q : SubjectPages) → AreAlike g h → ArePages x k s h q → ArePages x k s g q
pages_alike x k s g h q a of_h = record {
  state = of_h.state;
  tables = rw a.windows of_h.tables;
  ports_len = of_h.ports_len;
  ports = λ port size. rw a.ports (of_h.ports port size);
  msrs_len = of_h.msrs_len;
  msrs = λ index write. rw a.msrs (of_h.msrs index write);
  few = rw a.msrs of_h.few;
  area = rw a.msrs of_h.area;
}

-- ---- of one placement, but for entries for events and routes

pages_many : (m : Made) → IsMade m → length m.pages ≡ length (policy_of m).subjects
pages_many m h =
    let ss = (policy_of m).subjects in
    let gs = m.placed.expanded.grants in
    AllZip-long (λ (e : ℕ × (Subject × Grants)) (q : SubjectPages). ArePages m.placed e.0 e.1.0 e.1.1 q) (enumerate_from 0 (zip ss gs)) m.pages h.pages
    ∙ length-enumerate_from 0 (zip ss gs)
    ∙ zip_length ss gs (AllZip-long (AreGrantsOf (policy_of m)) ss gs h.expansion.grants)

module _ (m : Made) (h : IsMade m) (parts : IsParts (image_of m)) where
  module _ (grants : List Grants) (routes : List Route) (pages : List SubjectPages) (events : List EventTables) (devices : List DevicePart) (plan : Plan) (spans : List SpanPart) where
    abbrev placed : Placement
    placed = record {
      expanded = record { lawful = policy_of m; regions = m.placed.expanded.regions; grants = grants; routes = routes };
      addresses = m.placed.addresses;
    }

    abbrev other : Made
    other = record { placed = placed; things = m.things; pages = pages; events = events; devices = devices; plan = plan; spans = spans }

    -- pages of a subject by the other's placement are pages by the first's
    moved : (k : ℕ) (s : Subject) (g : Grants) (q : SubjectPages) → ArePages placed k s g q → ArePages m.placed k s g q
    moved k s g q p = record {
      state = p.state;
      tables = p.tables;
      ports_len = p.ports_len;
      ports = p.ports;
      msrs_len = p.msrs_len;
      msrs = p.msrs;
      few = p.few;
      area = p.area;
    }

    module _ (k : IsMade other) (others : IsParts (image_of other)) where
      abbrev r : Resolution
      r = policy_of m

      alike : AllZip AreAlike m.placed.expanded.grants grants
      alike = grants_alike r r.subjects m.placed.expanded.grants grants h.expansion.grants k.expansion.grants

      one_spans : m.spans ≡ spans
      unfolding spans_of
      one_spans = spans_are_one (spans_of m.placed) m.spans spans h.numbered k.numbered h.spans k.spans

      one_events : m.events ≡ events
      one_events = tables_are_one r h.resolved m.events events h.events k.events

      one_devices : m.devices ≡ devices
      one_devices = devices_are_one r h.resolved (length m.placed.expanded.regions) r.devices m.devices devices h.devices k.devices

      one_plan : m.plan ≡ plan
      one_plan = plans_are_one (source_of r) (unique (source_of r) h.resolved.names).subjects m.plan plan h.plan k.plan

      one_parts : subject_parts m ≡ subject_parts other
      one_parts =
          ap (λ ts. map (subject_part m.placed) (enumerate_from 0 (zip r.subjects (zip m.placed.expanded.grants ts)))) one_events
          ∙ parts_alike m.placed 0 r.subjects m.placed.expanded.grants grants events alike

      -- those of a subject
      at_index : (j : ℕ) (s : Subject) (g g' : Grants) (t t' : EventTables) → AreAlike g g' → (p : (q : SubjectPages) × IsAtIndex m j s g t q) (p' : (q : SubjectPages) × IsAtIndex other j s g' t' q) (d : SubjectPages)
          → get_or m.pages j d ≡ get_or pages j d
      at_index j s g g' t t' a p p' d =
          let bytes = have_bytes m h parts j s g t p.0 p.1 in
          let bytes' = have_bytes other k others j s g' t' p'.0 p'.1 in
          let same : p.0 ≡ p'.0 = pages_are_one m.placed j s g p.0 p'.0 p.1.pages (pages_alike m.placed j s g g' p'.0 a (moved j s g' p'.0 p'.1.pages)) bytes bytes' in
          get_or_from_slice_get m.pages j p.0 d p.1.kept ∙ same ∙ sym (get_or_from_slice_get pages j p'.0 d p'.1.kept)

      one_pages : m.pages ≡ pages
      one_pages =
          let gs = m.placed.expanded.grants in
          let many = pages_many m h in
          let others_many = pages_many other k in
          let grants_here = AllZip-long (AreGrantsOf r) r.subjects gs h.expansion.grants in
          let grants_there = AllZip-long (AreGrantsOf r) r.subjects grants k.expansion.grants in
          let events_here = AllZip-long (AreTables r) r.subjects m.events h.events in
          let events_there = AllZip-long (AreTables r) r.subjects events k.events in
          same_lists m.pages pages (omega (arith, many, others_many))
          (λ j d l.
          let s = there r.subjects j (omega (arith, l, many)) in
          let g = there gs j (omega (arith, l, many, grants_here)) in
          let g' = there grants j (omega (arith, l, many, grants_there)) in
          let t = there m.events j (omega (arith, l, many, events_here)) in
          let t' = there events j (omega (arith, l, many, events_there)) in
          at_index j s.0 g.0 g'.0 t.0 t'.0 (both_at AreAlike gs grants j g.0 g'.0 alike g.1 g'.1) (at_index_there m h j s.0 g.0 t.0 s.1 g.1 t.1) (at_index_there other k j s.0 g'.0 t'.0 s.1 g'.1 t'.1) d)

      pub images_same : image_of m ≡ image_of other
      unfolding image_of
      images_same =
          let spans_by = one_spans in
          let pages_by = one_pages in
          let parts_by = one_parts in
          let devices_by = one_devices in
          let plan_by = one_plan in
          λ i. counted_image r.processor.logical_cpus (choice_region r) (spans_by i) (parts_by i) (plan_by i) (devices_by i)
          (map (λ s. slice_index_or (m.things ++ flat_map kernel_bytes (pages_by i)) s.number []) (spans_by i))

  -- ---- of one policy

  module _ (n : Made) (k : IsMade n) (others : IsParts (image_of n)) (policies : policy_of m ≡ policy_of n) (things : m.things ≡ n.things) where
    sources : source_of (policy_of m) ≡ source_of (policy_of n)
    sources = ap source_of policies

    regions : m.placed.expanded.regions ≡ n.placed.expanded.regions
    regions = h.expansion.regions ∙ ap regions_of sources ∙ sym k.expansion.regions

    addresses : m.placed.addresses ≡ n.placed.addresses
    addresses =
        let both = sym h.placement ∙ ap placement_of sources ∙ k.placement in
        cc

    pub of_one_policy : image_of m ≡ image_of n
    of_one_policy =
        let grants = n.placed.expanded.grants in
        let routes = n.placed.expanded.routes in
        let region_by = regions in
        let address_by = addresses in
        let same : other grants routes n.pages n.events n.devices n.plan n.spans ≡ n =
        λ i. record {
          placed = record {
            expanded = record { lawful = policies i; regions = region_by i; grants = grants; routes = routes };
            addresses = address_by i;
          };
          things = things i;
          pages = n.pages;
          events = n.events;
          devices = n.devices;
          plan = n.plan;
          spans = n.spans;
        } in
        subst (λ (y : Made). IsMade y → IsParts (image_of y) → image_of m ≡ image_of y) same
        (images_same grants routes n.pages n.events n.devices n.plan n.spans) k others

-- **an image is one**
pub images_are_one : (p : Source) (files : Held) (i j : Image) → IsMadeFor p files i → IsMadeFor p files j → i ≡ j
images_are_one p files i j a b =
    let m = a.emitted.made in
    let n = b.emitted.made in
    let of_m : source_of (policy_of m.made) ≡ p = ap (λ (x : Placement). source_of x.expanded.lawful) m.placed ∙ a.of_policy in
    let of_n : source_of (policy_of n.made) ≡ p = ap (λ (x : Placement). source_of x.expanded.lawful) n.placed ∙ b.of_policy in
    let policies = resolutions_are_one (policy_of m.made) (policy_of n.made) m.is.resolved n.is.resolved (of_m ∙ sym of_n) in
    let things_of_m : m.made.things ≡ thing_bytes files (policy_of m.made) = m.held ∙ ap (λ (x : Placement). thing_bytes files x.expanded.lawful) (sym m.placed) in
    let things_of_n : n.made.things ≡ thing_bytes files (policy_of n.made) = n.held ∙ ap (λ (x : Placement). thing_bytes files x.expanded.lawful) (sym n.placed) in
    let things = things_of_m ∙ ap (thing_bytes files) policies ∙ sym things_of_n in
    let image = of_one_policy m.made m.is (subst IsParts m.image a.emitted.parts) n.made n.is (subst IsParts n.image b.emitted.parts) policies things in
    m.image ∙ image ∙ sym n.image
