-- Where things and state pages lie: each begins where a page does. So what a subject reaches in the memory of a sound image is
-- what its policy grants it.
use Rattle.std.proofs.Common.{◌≡◌, ℕ, zero, suc, ◌+◌, ◌/◌, ◌%◌, ◌<◌, Bool, List, [], ◌∷◌, ◌++◌, length, map, Option, Some, None, refl, sym, ap, subst, ◌∙◌, arith}
use Rattle.std.specs.Prelude.{not, slice_get, unwrap_or}
use Rattle.std.specs.List.{find, zip}
use Rattle.std.specs.Option.{option_map_or}
use Rattle.std.proofs.lemmas.Option.{slice_get-map}
use Rattle.subject_model.specs.Alone.{reach_by}
use Rattle.expand_grants.specs.Resources.{are_granted, is_granted, msrs_of, ports_of}
use Rattle.guest_isa.specs.Named.{renamed_reach}
use Rattle.guest_isa.specs.declared.reach.Reach.TheVariants.{Reached}
use Rattle.image_memory.specs.Memory.{memory_of, Span, by_number, page_at as image_page, address_at, span_at}
use Rattle.image_soundness.proofs.SoundFacts.{bitmaps_of, walks_of}
use Rattle.image_soundness.specs.Sound.{HasBitmaps, HasWalks, IsSound, is_kernel, led, address_of, thing_spans}
use Rattle.image_pack.specs.ImageConditions.{KeepsConditions}
use Rattle.image_pack.specs.SpanConditions.{IsSpan}
use Rattle.image_pack.specs.declared.parts.Image.{Image}
use Rattle.image_pack.specs.declared.parts.SubjectPart.{SubjectPart}
use Rattle.vmx_machine.specs.Exits.{msr_exits, port_exits}
use Rattle.muen_num.specs.Range.{numbers_below}
use Rattle.muen_num.specs.declared.access.AccessKind.{AccessKind}
use Rattle.muen_num.specs.declared.limits.TheConstants.{GUEST_END, PAGE}
use Rattle.muen_num.proofs.Options.{from_some}
use Rattle.muen_num.proofs.Lists.{all_at}
use Rattle.muen_num.proofs.Pairs.{both_at, zipped_both}
use Rattle.policy_lawful.specs.Contents.{Held}
use Rattle.policy_lawful.specs.Thing.{Thing, state, same_thing, things_of}
use Rattle.policy_lawful.specs.Windows.{Access, access_of, byte, violation, windows_of}
use Rattle.policy_lawful.specs.source.Source.{Source}
use Rattle.policy_lawful.specs.source.Subject.{Subject}
use Rattle.proof_turns.specs.Ground.{page_and_offset}
use Rattle.vmx_machine.specs.Machine.{look_in, msr_exits_in, page_bytes_at, ports_exit, reach_by as reach_by_walk}
use Rattle.vmx_machine.specs.declared.control.Control.{Control}
use Rattle.proof_start.specs.GroundOf.{ground_of}
use Rattle.muen_num.proofs.Indexed.{filtered_at, found_at, kept_at}
use Rattle.image_memory.proofs.SpanPages.{span_by}
use Rattle.proof_start.proofs.PageFacts.{io_page_there, msr_page_there, second_io_page_there}

-- ---- spans begin where pages do

span_aligned : (i : Image) → KeepsConditions i → (n : ℕ) (o : Option Span) → span_at i n ≡ o → option_map_or (λ (e : Span). e.0.address) o 0 % 4096 ≡ 0
span_aligned i keeps n None is = refl
span_aligned i keeps n (Some e) is =
    let within = (span_by i keeps n e is).0 in
    (all_at IsSpan i.spans within.index e.0 keeps.spans.each within.span).aligned

abbrev Addressed : Type 0
Addressed = Thing × ℕ

abbrev AreAligned : List Addressed → Type 0
AreAligned xs = (k : ℕ) (e : Addressed) → slice_get xs k ≡ Some e → e.1 % 4096 ≡ 0

both_aligned : (xs ys : List Addressed) → AreAligned xs → AreAligned ys → (k : ℕ) (e : Addressed) → slice_get (xs ++ ys) k ≡ Some e → e.1 % 4096 ≡ 0
both_aligned [] ys a b k e at = b k e at
both_aligned (x ∷ xs) ys a b zero e at = a 0 e at
both_aligned (x ∷ xs) ys a b (suc k) e at = both_aligned xs ys (λ k. a (suc k)) b k e at

things_aligned : (p : Source) (i : Image) → KeepsConditions i → (k : ℕ) (e : Addressed) → slice_get (zip (things_of p) (map (λ (e : Span). e.0.address) (thing_spans i))) k ≡ Some e → e.1 % 4096 ≡ 0
unfolding by_number
things_aligned p i keeps k e at =
    let addresses : List ℕ = map (λ (e : Span). e.0.address) (thing_spans i) in
    let there = (zipped_both (things_of p) addresses k e at).1 in
    let s = from_some (λ (e : Span). e.0.address) (slice_get (thing_spans i) k) e.1 (sym (slice_get-map (λ (e : Span). e.0.address) (thing_spans i) k) ∙ there) in
    let kept = filtered_at (λ (e : Span). not (is_kernel e.0.kind)) (by_number i) k s.0 s.1 in
    let from = kept_at (span_at i) (numbers_below (length i.spans)) kept.0 s.0 kept.1 in
    subst (λ n. n % 4096 ≡ 0) s.2 (span_aligned i keeps from.0 (Some s.0) from.1)

states_aligned : (p : Source) (i : Image) → KeepsConditions i → (k : ℕ) (e : Addressed) → slice_get (zip (map (λ (s : Subject). state s.name) p.subjects) (map (λ (q : SubjectPart). address_at i q.state) i.subjects)) k ≡ Some e → e.1 % 4096 ≡ 0
states_aligned p i keeps k e at =
    let names : List Thing = map (λ (s : Subject). state s.name) p.subjects in
    let addresses : List ℕ = map (λ (q : SubjectPart). address_at i q.state) i.subjects in
    let there = (zipped_both names addresses k e at).1 in
    let q = from_some (λ (q : SubjectPart). address_at i q.state) (slice_get i.subjects k) e.1 (sym (slice_get-map (λ (q : SubjectPart). address_at i q.state) i.subjects k) ∙ there) in
    subst (λ n. n % 4096 ≡ 0) q.2 (span_aligned i keeps q.0.state (span_at i q.0.state) refl)

-- what is found, or nothing
found_aligned : (test : Addressed → Bool) (xs : List Addressed) → AreAligned xs → (o : Option Addressed) → find test xs ≡ o → option_map_or (λ (e : Addressed). e.1) o 0 % 4096 ≡ 0
found_aligned test xs h None is = refl
found_aligned test xs h (Some e) is = let f = found_at test xs e is in h f.index e f.here

-- a thing or a state page begins where a page does
pub address_aligned : (p : Source) (i : Image) → KeepsConditions i → (x : Thing) → address_of p i x % 4096 ≡ 0
unfolding address_of
address_aligned p i keeps x =
    let things = zip (things_of p) (map (λ (e : Span). e.0.address) (thing_spans i)) in
    let states = zip (map (λ (s : Subject). state s.name) p.subjects) (map (λ (q : SubjectPart). address_at i q.state) i.subjects) in
    found_aligned (λ (e : Addressed). same_thing e.0 x) (things ++ states) (both_aligned things states (things_aligned p i keeps) (states_aligned p i keeps)) (find (λ (e : Addressed). same_thing e.0 x) (things ++ states)) refl

-- ---- walks

page_by : (address offset : ℕ) → address % 4096 ≡ 0 → (address + offset) / 4096 ≡ address / 4096 + offset / 4096
page_by address offset h = omega (arith, h)

offset_by : (address offset : ℕ) → address % 4096 ≡ 0 → (address + offset) % 4096 ≡ offset % 4096
offset_by address offset h = omega (arith, h)

-- where a walk ends that is led to a byte of a thing, there is that byte by its page
led_alike : (address : Thing → ℕ) → ((x : Thing) → address x % 4096 ≡ 0) → (kind : AccessKind) (addr : ℕ) (a : Access Thing) → reach_by_walk kind addr (led address a) ≡ renamed_reach (page_and_offset (λ x. address x / PAGE)) (reach_by kind addr a)
led_alike address aligned kind addr (byte x offset) =
    ap (λ n. Reached n ((address x + offset) % 4096)) (page_by (address x) offset (aligned x)) ∙ ap (Reached (address x / 4096 + offset / 4096)) (offset_by (address x) offset (aligned x))
led_alike address aligned kind addr (violation found) = refl

-- a walk for a subject leads where its windows do
pub walks_alike : (p : Source) (files : Held) (i : Image) → KeepsConditions i → IsSound p files i → (n : Subject) (q : SubjectPart) (kind : AccessKind) (addr : ℕ) → addr < GUEST_END → (s : ℕ) → slice_get p.subjects s ≡ Some n → slice_get i.subjects s ≡ Some q
    → look_in (memory_of i) q.eptp kind addr ≡ renamed_reach (page_and_offset (λ x. address_of p i x / PAGE)) (reach_by kind addr (access_of (windows_of p n) addr kind))
walks_alike p files i keeps sound n q kind addr low s named at =
    let walks = both_at (HasWalks p i) p.subjects i.subjects s n q (walks_of p files i sound) named at in
    ap (reach_by_walk kind addr) (walks addr kind low)
    ∙ led_alike (address_of p i) (address_aligned p i keeps) kind addr (access_of (windows_of p n) addr kind)

-- ---- bitmaps

-- those accesses of ports and MSRs exit that a subject isn't granted
pub bitmaps_alike : (p : Source) (files : Held) (i : Image) → KeepsConditions i → IsSound p files i → (n : Subject) (q : SubjectPart) (c : Control) (s : ℕ) → slice_get p.subjects s ≡ Some n → slice_get i.subjects s ≡ Some q → slice_get (ground_of p i).setup.controls s ≡ Some c
    → ((port size : ℕ) → ports_exit (memory_of i) c port size ≡ not (are_granted (ports_of p n) port size)) × ((index : ℕ) (write : Bool) → msr_exits_in (memory_of i) c index write ≡ not (is_granted (msrs_of n) index write))
bitmaps_alike p files i keeps sound n q c s named here at =
    let has = both_at (HasBitmaps p i) p.subjects i.subjects s n q (bitmaps_of p files i sound) named here in
    let first = io_page_there p i keeps s q c here at in
    let second = second_io_page_there p i keeps s q c here at in
    let msrs = msr_page_there p i keeps s q c here at in (
      (λ port size.
          ap (λ o. port_exits (unwrap_or o []) (page_bytes_at (memory_of i) (c.io_bitmaps + 1)) port size) first
          ∙ ap (λ o. port_exits (image_page i q.iobm 0) (unwrap_or o []) port size) second
          ∙ has.ports port size),
      (λ index write. ap (λ o. msr_exits (unwrap_or o []) index write) msrs ∙ has.msrs index write),
    )
