use Rattle.std.proofs.Common.{◌++◌, ap, ◌∙◌}
use Rattle.std.proofs.lemmas.Slice.Zip.{either_empty_from_Zip}
use Rattle.ept_emit.specs.Pages.{ept_pages}
use Rattle.expand_kernel.specs.ByIndex.{granted_ranges}
use Rattle.expand_kernel.proofs.InTurn.{all_named, at_first, at_last, can_next, next_made}
use Rattle.expand_kernel.proofs.kernel.of_kernel.Goals as goal

pub loop-subject-init : goal.loop-subject-init
loop-subject-init c = at_first c.args.subjects.now c.args.grants.now _ _ _ (cc) (cc) c.new-regions.ensures.items c.requires.windows c.requires.as_many

pub table_pages-requires : goal.table_pages-requires
table_pages-requires c =
    can_next c.args.subjects.now c.args.grants.now _ _ c.loop-subject.regions.items c.in-Some.granted.now _ _ c.loop-subject.invariant c.in-Some.ensures.steps.1 c.items.ensures

pub loop-subject-preserved : goal.loop-subject-preserved
loop-subject-preserved c =
    next_made c.args.subjects.now c.args.grants.now _ _ c.loop-subject.regions.items c.in-Some.subject.now _ c.in-Some.granted.now _ c.in_ok-pages.pages c.in_ok-more.more.items c.extend_from_slice.new.self.items
    c.loop-subject.invariant c.in-Some.ensures.steps.0 c.in-Some.ensures.steps.1
    (c.in_ok-pages.ensures.value ∙ (λ i. ept_pages (granted_ranges (c.items.ensures i))))
    c.in_ok-more.ensures.regions (c.in_ok-extend_from_slice.ensures.items ∙ ap (λ xs. c.loop-subject.regions.items ++ xs) c.deref.ensures.value)
    c.in_ok-more.ensures.named

pub returns-clause-regions : goal.returns-clause-regions
returns-clause-regions c =
    at_last c.args.subjects.now c.args.grants.now _ _ c.loop-subject.regions.items c.loop-subject.invariant
    (either_empty_from_Zip c.loop-subject.subject-iterator c.next.new.self c.next.result c.in-None.is c.next.ensures.steps)

pub returns-clause-named : goal.returns-clause-named
returns-clause-named c =
    all_named c.args.subjects.now c.args.grants.now _ _ c.loop-subject.regions.items c.loop-subject.invariant
    (either_empty_from_Zip c.loop-subject.subject-iterator c.next.new.self c.next.result c.in-None.is c.next.ensures.steps)
