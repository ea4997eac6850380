use Rattle.std.proofs.Common.{◌≡◌, ◌+◌, ◌*◌, ◌/◌, ◌^◌, ◌<◌, All, Some, None, true, refl, sym, ap, subst, ◌∙◌, arith}
use Rattle.dma_check.proofs.NumberedLaws.{are_declared, places_low, windows_low}
use Rattle.dma_check.proofs.SourcesLaws.{all_none, later_source, none_known, none_yet, one_source}
use Rattle.dma_check.specs.Again.{AreEarlier, HasNoneBefore, IsKnown}
use Rattle.dma_check.specs.Faults.{fault_at}
use Rattle.dma_check.specs.Held.{AreFor, IsLow, view_by}
use Rattle.dma_check.specs.Marked.{Marked, seen_in}
use Rattle.dma_check.specs.Numbered.{thing_addresses, windows_by}
use Rattle.dma_check.specs.Sources.{declared}
use Rattle.dma_check.specs.Views.{view_of}
use Rattle.dma_tables.specs.DmaWalk.{root_page}
use Rattle.ept_check.specs.Search.{first_from}
use Rattle.image_pack.specs.SpanConditions.{IsSpan}
use Rattle.policy_lawful.specs.Resolution.{source_of}
use Rattle.dma_check.proofs.checking.first_fault.Goals as goal

pub loop-source-init : goal.loop-source-init
loop-source-init c =
    record {
      none = λ i parts same. none_yet (view_of (source_of c.args.policy.now) i c.args.file.now);
      long = c.in_ok-ways.ensures.long ∙ ap (λ n. n / 4096) c.len.ensures;
      earlier = λ k s has. absurd (let bad = sym has ∙ c.in_ok-earlier.ensures k in cc);
      known = λ i parts same. none_known (view_of (source_of c.args.policy.now) i c.args.file.now) (seen_in (root_page c.args.file.now) c.in_ok-ways.ways.items) (c.in_ok-ways.ensures.none (root_page c.args.file.now));
    }

pub is_again-requires-clause-earlier : goal.is_again-requires-clause-earlier
is_again-requires-clause-earlier c = subst (AreEarlier c.args.file.now c.loop-source.source) (sym c.deref-in-loop-source-2.ensures.value) c.loop-source.invariant.earlier

pub fault_of-requires-clause-low : goal.fault_of-requires-clause-low
fault_of-requires-clause-low c =
    let p = source_of c.args.policy.now in
    let each = subst (All IsSpan) (sym c.items-items.ensures.same) c.items-items.ensures.each in
    let places = subst (All (λ a. a < 2 ^ 63)) (sym (c.deref.ensures.value ∙ c.in_ok-addresses.ensures)) (places_low c.items-items.result.now each) in
    subst (All IsLow) (sym (c.deref-in-loop-source-4.ensures.value ∙ c.in_ok-windows.ensures)) (windows_low p c.deref.result.now c.loop-source.source places)

pub returns-in-Some : goal.returns-in-Some
returns-in-Some c = λ i parts same.
    let p = source_of c.args.policy.now in
    let source = c.loop-source.source in
    let told = declared p i in
    let spans : c.items-items.result.now ≡ i.spans = c.items-items.ensures.same ∙ same in
    let places = c.in_ok-addresses.ensures ∙ ap thing_addresses spans in
    let windows : c.deref-in-loop-source-4.result.now ≡ windows_by p (thing_addresses i.spans) source = c.deref-in-loop-source-4.ensures.value ∙ c.in_ok-windows.ensures ∙ ap (λ a. windows_by p a source) (c.deref.ensures.value ∙ places) in
    let own = subst (AreFor told source) (sym windows) (are_declared p i parts source) in
    let known = subst (λ s. Marked (view_by c.args.file.now s told) (seen_in (root_page c.args.file.now) c.loop-source.ways.items) (6 * (2 ^ 48 * source))) (sym spans) (c.loop-source.invariant.known i parts same) in
    let none = subst (λ s. HasNoneBefore (view_by c.args.file.now s told) source) (sym spans) (c.loop-source.invariant.none i parts same) in
    let is : c.in_ok-again.again ≡ true → IsKnown (view_by c.args.file.now c.items-items.result.now told) c.args.file.now c.deref-in-loop-source-4.result.now source = λ h.
    let r = c.in_ok-again.ensures h in
    let others = ap (λ a. windows_by p a r.earlier) (sym (c.deref-in-loop-source.ensures.value ∙ places)) ∙ r.windows ∙ ap (λ a. windows_by p a source) (c.deref-in-loop-source.ensures.value ∙ places) ∙ sym windows in
    record { earlier = r.earlier; before = r.before; highest = r.highest; own = subst (AreFor told r.earlier) others (are_declared p i parts r.earlier); none = none } in
    one_source (view_of p i c.args.file.now) source c.in-Some.fault c.loop-source-test.true (c.loop-source.invariant.none i parts same)
    (subst (λ s. Some c.in-Some.fault ≡ first_from (fault_at (view_by c.args.file.now s told)) (2 ^ 48 * source) (2 ^ 48)) spans (c.in-Some.ensures.found told own is known))

pub loop-source-preserved : goal.loop-source-preserved
loop-source-preserved c =
    let p = source_of c.args.policy.now in
    let source = c.loop-source.source in
    record {
      none = λ i parts same.
          let told = declared p i in
          let spans : c.items-items.result.now ≡ i.spans = c.items-items.ensures.same ∙ same in
          let places = c.in_ok-addresses.ensures ∙ ap thing_addresses spans in
          let windows : c.deref-in-loop-source-4.result.now ≡ windows_by p (thing_addresses i.spans) source = c.deref-in-loop-source-4.ensures.value ∙ c.in_ok-windows.ensures ∙ ap (λ a. windows_by p a source) (c.deref.ensures.value ∙ places) in
          let own = subst (AreFor told source) (sym windows) (are_declared p i parts source) in
          let known = subst (λ s. Marked (view_by c.args.file.now s told) (seen_in (root_page c.args.file.now) c.loop-source.ways.items) (6 * (2 ^ 48 * source))) (sym spans) (c.loop-source.invariant.known i parts same) in
          let none = subst (λ s. HasNoneBefore (view_by c.args.file.now s told) source) (sym spans) (c.loop-source.invariant.none i parts same) in
          let is : c.in_ok-again.again ≡ true → IsKnown (view_by c.args.file.now c.items-items.result.now told) c.args.file.now c.deref-in-loop-source-4.result.now source = λ h.
          let r = c.in_ok-again.ensures h in
          let others = ap (λ a. windows_by p a r.earlier) (sym (c.deref-in-loop-source.ensures.value ∙ places)) ∙ r.windows ∙ ap (λ a. windows_by p a source) (c.deref-in-loop-source.ensures.value ∙ places) ∙ sym windows in
          record { earlier = r.earlier; before = r.before; highest = r.highest; own = subst (AreFor told r.earlier) others (are_declared p i parts r.earlier); none = none } in
          later_source (view_of p i c.args.file.now) source (c.loop-source.invariant.none i parts same) (subst (λ s. None ≡ first_from (fault_at (view_by c.args.file.now s told)) (2 ^ 48 * source) (2 ^ 48)) spans (c.in_default.ensures.found told own is known));
      long = c.fault_of.ensures.long ∙ c.loop-source.invariant.long;
      earlier = c.note.ensures;
      known = λ i parts same.
          let told = declared p i in
          let spans : c.items-items.result.now ≡ i.spans = c.items-items.ensures.same ∙ same in
          let places = c.in_ok-addresses.ensures ∙ ap thing_addresses spans in
          let windows : c.deref-in-loop-source-4.result.now ≡ windows_by p (thing_addresses i.spans) source = c.deref-in-loop-source-4.ensures.value ∙ c.in_ok-windows.ensures ∙ ap (λ a. windows_by p a source) (c.deref.ensures.value ∙ places) in
          let own = subst (AreFor told source) (sym windows) (are_declared p i parts source) in
          let known = subst (λ s. Marked (view_by c.args.file.now s told) (seen_in (root_page c.args.file.now) c.loop-source.ways.items) (6 * (2 ^ 48 * source))) (sym spans) (c.loop-source.invariant.known i parts same) in
          let none = subst (λ s. HasNoneBefore (view_by c.args.file.now s told) source) (sym spans) (c.loop-source.invariant.none i parts same) in
          let is : c.in_ok-again.again ≡ true → IsKnown (view_by c.args.file.now c.items-items.result.now told) c.args.file.now c.deref-in-loop-source-4.result.now source = λ h.
          let r = c.in_ok-again.ensures h in
          let others = ap (λ a. windows_by p a r.earlier) (sym (c.deref-in-loop-source.ensures.value ∙ places)) ∙ r.windows ∙ ap (λ a. windows_by p a source) (c.deref-in-loop-source.ensures.value ∙ places) ∙ sym windows in
          record { earlier = r.earlier; before = r.before; highest = r.highest; own = subst (AreFor told r.earlier) others (are_declared p i parts r.earlier); none = none } in
          subst (λ s. Marked (view_by c.args.file.now s told) (seen_in (root_page c.args.file.now) c.fault_of.new.ways.items) (6 * (2 ^ 48 * (source + 1)))) spans (c.in_default.ensures.known told own is known refl);
    }

pub returns : goal.returns
returns c = λ i parts same.
    all_none (view_of (source_of c.args.policy.now) i c.args.file.now) c.loop-source.source (omega (arith, c.loop-source-test.false, c.loop-source.auto.source-end)) (c.loop-source.invariant.none i parts same)
