use Rattle.std.proofs.Common.{sym, ap, ◌∙◌, drop, ◌+◌}
use Rattle.std.specs.Prelude.{◌||◌}
use Rattle.std.specs.List.{list_any}
use Rattle.policy_views.proofs.SightsAtIndex.{behind_read, front_read}
use Rattle.policy_rules.specs.Tau0.{is_chooser, is_chooser_by}
use Rattle.policy_rules.proofs.Parted.{chooser_parted}
use Rattle.rules_extents.proofs.SubjectsInTurn.{any_in_turn}
use Rattle.policy_rules.proofs.tau0.some_chooser.Goals as goal

pub returns-then-is_chooser : goal.returns-then-is_chooser
returns-then-is_chooser c =
    let r = c.args.policy.now in
    let s = c.subject-item.result in
    let same = c.subjects-subject-items.ensures.value in
    let in_front = c.front.ensures ∙ front_read r _ c.loop-index.index s same c.loop-index-test.true c.subject-item.is in
    let after = c.behind.ensures ∙ behind_read r _ c.loop-index.index s same c.loop-index-test.true c.subject-item.is in
    let is = c.is_chooser.ensures ∙ ((λ i. is_chooser_by c.args.chooser.now (in_front i) (after i) s) ∙ sym (chooser_parted r c.args.chooser.now s)) in
    ap (λ b. b || list_any (is_chooser r c.args.chooser.now) (drop (c.loop-index.index + 1) r.subjects)) (sym c.if-is_chooser.true ∙ is)
    ∙ sym (any_in_turn r.subjects _ c.loop-index.index s same c.loop-index-test.true c.subject-item.is (is_chooser r c.args.chooser.now))
    ∙ c.loop-index.invariant

pub loop-index-preserved : goal.loop-index-preserved
loop-index-preserved c =
    let r = c.args.policy.now in
    let s = c.subject-item.result in
    let same = c.subjects-subject-items.ensures.value in
    let in_front = c.front.ensures ∙ front_read r _ c.loop-index.index s same c.loop-index-test.true c.subject-item.is in
    let after = c.behind.ensures ∙ behind_read r _ c.loop-index.index s same c.loop-index-test.true c.subject-item.is in
    let is = c.is_chooser.ensures ∙ ((λ i. is_chooser_by c.args.chooser.now (in_front i) (after i) s) ∙ sym (chooser_parted r c.args.chooser.now s)) in
    ap (λ b. b || list_any (is_chooser r c.args.chooser.now) (drop (c.loop-index.index + 1) r.subjects)) (sym c.if-is_chooser.false ∙ is)
    ∙ sym (any_in_turn r.subjects _ c.loop-index.index s same c.loop-index-test.true c.subject-item.is (is_chooser r c.args.chooser.now))
    ∙ c.loop-index.invariant
