use Rattle.std.proofs.Common.{◌≤◌, Some, None, refl, length, sym, ap, subst, ◌∙◌, arith}
use Rattle.std.proofs.Math.ListN.{drop_of_length-le}
use Rattle.muen_num.specs.Search.{first_in}
use Rattle.policy_views.proofs.SightsAtIndex.{behind_read, front_read}
use Rattle.rules_extents.specs.Parted.{AreProvided}
use Rattle.rules_extents.specs.Windows.{overlap_in_subject}
use Rattle.rules_extents.proofs.RangesByIndex.{windows_apart}
use Rattle.rules_extents.proofs.SubjectsInTurn.{first_in_turn}
use Rattle.rules_extents.proofs.apart.windows_apart.Goals as goal

pub loop-index-init : goal.loop-index-init
loop-index-init c = record {
  rest = refl;
  provided = subst (AreProvided c.in_ok-provided.provided.items) c.components.ensures c.in_ok-provided.ensures;
}

pub of_subject-requires-clause-front : goal.of_subject-requires-clause-front
of_subject-requires-clause-front c =
    c.front-front.ensures ∙ front_read c.args.policy.now _ c.loop-index.index c.subject-item.result c.subjects-subject-items.ensures.value c.loop-index-test.true c.subject-item.is

pub of_subject-requires-clause-behind : goal.of_subject-requires-clause-behind
of_subject-requires-clause-behind c =
    c.behind-behind.ensures ∙ behind_read c.args.policy.now _ c.loop-index.index c.subject-item.result c.subjects-subject-items.ensures.value c.loop-index-test.true c.subject-item.is

pub of_subject-requires-clause-provided : goal.of_subject-requires-clause-provided
of_subject-requires-clause-provided c = subst (λ kept. AreProvided kept c.args.policy.now.components) (sym c.deref.ensures.value) c.loop-index.invariant.provided

pub returns-in-Some : goal.returns-in-Some
returns-in-Some c =
    let r = c.args.policy.now in
    sym (first_in_turn r.subjects _ c.loop-index.index c.subject-item.result c.subjects-subject-items.ensures.value c.loop-index-test.true c.subject-item.is (overlap_in_subject r) (Some c.in-Some.offence)
    (sym c.in-Some.is ∙ c.in_ok-offence.ensures))
    ∙ c.loop-index.invariant.rest ∙ windows_apart r c.subjects-subject-items.ensures.resolved

pub loop-index-preserved : goal.loop-index-preserved
loop-index-preserved c =
    let r = c.args.policy.now in
    let s = c.subject-item.result in
    let same = c.subjects-subject-items.ensures.value in
    record {
      rest = sym (first_in_turn r.subjects _ c.loop-index.index s same c.loop-index-test.true c.subject-item.is (overlap_in_subject r) None (sym c.in_default.is ∙ c.in_ok-offence.ensures)) ∙ c.loop-index.invariant.rest;
      provided = c.loop-index.invariant.provided;
    }

pub returns : goal.returns
returns c =
    let r = c.args.policy.now in
    let behind : length r.subjects ≤ c.loop-index.index = subst (λ xs. length xs ≤ c.loop-index.index) c.subjects-subject-items.ensures.value (omega (arith, c.loop-index-test.false)) in
    ap (first_in (overlap_in_subject r)) (sym (drop_of_length-le r.subjects behind)) ∙ c.loop-index.invariant.rest ∙ windows_apart r c.subjects-subject-items.ensures.resolved
