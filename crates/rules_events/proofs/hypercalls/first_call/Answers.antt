use Rattle.std.proofs.Common.{Some, sym, ap, ◌∙◌}
use Rattle.muen_num.specs.Search.{unless}
use Rattle.policy_lawful.specs.Offences.{alone}
use Rattle.policy_lawful.proofs.SeenAtIndex.{channel_ends_read}
use Rattle.rules_events.specs.Calls.{call_offence, has_numbers_with}
use Rattle.rules_events.proofs.SeenSearch.{found, further}
use Rattle.rules_events.proofs.hypercalls.first_call.Goals as goal

pub returns-then-not-branch-clause-value : goal.returns-then-not-branch-clause-value
returns-then-not-branch-clause-value c =
    let r = c.args.policy.now in
    let s = c.subject-item.result in
    let same = c.subjects-subject-items.ensures.value in
    let has = c.in_ok-has_numbers.ensures ∙ ap (λ es. has_numbers_with es s) (c.channel_ends.ensures ∙ channel_ends_read r _ c.loop-index.index s same c.loop-index-test.true c.subject-item.is) in
    found (call_offence r) r.subjects _ c.loop-index.index s same c.loop-index-test.true c.subject-item.is c.alone.result
    (ap (λ o. Some o) c.alone.ensures ∙ ap (λ b. unless b (alone s.name)) (sym c.if-not-branch.true ∙ has)) c.loop-index.invariant

pub loop-index-preserved : goal.loop-index-preserved
loop-index-preserved c =
    let r = c.args.policy.now in
    let s = c.subject-item.result in
    let same = c.subjects-subject-items.ensures.value in
    let has = c.in_ok-has_numbers.ensures ∙ ap (λ es. has_numbers_with es s) (c.channel_ends.ensures ∙ channel_ends_read r _ c.loop-index.index s same c.loop-index-test.true c.subject-item.is) in
    further (call_offence r) r.subjects _ c.loop-index.index s same c.loop-index-test.true c.subject-item.is
    (ap (λ b. unless b (alone s.name)) (sym c.if-not-branch.false ∙ has)) c.loop-index.invariant
