use Rattle.std.proofs.Common.{◌≡◌, ◌+◌, ◌<◌, ◌≤◌, ◌^◌, ◌∙◌, length, get_or, Err, ap, sym, arith, rules}
use Rattle.asm_text.proofs.RangeLaws.{magnitude_read, no_such_name, sum_fits, sum_grown, sum_read, sums_end, within_more}
use Rattle.asm_text.proofs.meaning.sum_of.Goals as goal

pub returns-in_default-clause-sum : goal.returns-in_default-clause-sum
returns-in_default-clause-sum c =
    let there : c.loop-term.term-index < length c.args.terms.now = search rules in
    let is : c.term-item.result ≡ get_or c.args.terms.now c.loop-term.term-index c.term-item.result = search rules in
    ap Err c.wanted.ensures
    ∙ sym (no_such_name c.args.names.now.entries c.loop-term.sum c.args.terms.now c.term-item.result c.loop-term.term-index there is (sym c.in_default.ensures.value))
    ∙ c.loop-term.invariant.same

pub overflow_add-sum : goal.overflow_add-sum
overflow_add-sum c =
    let there : c.loop-term.term-index < length c.args.terms.now = search rules in
    let few : length c.args.terms.now < 2 ^ 63 = search rules in
    sum_fits c.loop-term.term-index c.loop-term.sum.number c.signed.result (omega (arith, there, few)) c.loop-term.invariant.number c.signed.ensures.small

pub overflow_add-sum-in-loop-term : goal.overflow_add-sum-in-loop-term
overflow_add-sum-in-loop-term c =
    let there : c.loop-term.term-index < length c.args.terms.now = search rules in
    let few : length c.args.terms.now < 2 ^ 63 = search rules in
    sum_fits c.loop-term.term-index c.loop-term.sum.labels c.signed-in-loop-term.result (omega (arith, there, few)) c.loop-term.invariant.labels c.signed-in-loop-term.ensures.small

pub loop-term-preserved : goal.loop-term-preserved
loop-term-preserved c =
    let there : c.loop-term.term-index < length c.args.terms.now = search rules in
    let few : length c.args.terms.now < 2 ^ 63 = search rules in
    let is : c.term-item.result ≡ get_or c.args.terms.now c.loop-term.term-index c.term-item.result = search rules in
    let less : c.loop-term.term-index + 1 < 2 ^ 63 = omega (arith, there, few) in
    let value = rw (magnitude_read c.in-Some.atom.number c.in-Some.ensures.small.0) at c.signed.ensures.value in
    let other = rw (magnitude_read c.in-Some.atom.labels c.in-Some.ensures.small.1) at c.signed-in-loop-term.ensures.value in
    let number = sum_read c.loop-term.term-index c.loop-term.sum.number c.signed.result less c.loop-term.invariant.number c.signed.ensures.small in
    let labels = sum_read c.loop-term.term-index c.loop-term.sum.labels c.signed-in-loop-term.result less c.loop-term.invariant.labels c.signed-in-loop-term.ensures.small in
    rw (number, labels) (record {
      same =
          sum_grown c.args.names.now.entries c.loop-term.sum c.in-Some.atom c.args.terms.now c.term-item.result c.loop-term.term-index c.signed.result c.signed-in-loop-term.result there is (sym c.in-Some.ensures.value) value other
          ∙ c.loop-term.invariant.same;
      number = within_more c.loop-term.term-index c.loop-term.sum.number c.signed.result c.loop-term.invariant.number c.signed.ensures.small;
      labels = within_more c.loop-term.term-index c.loop-term.sum.labels c.signed-in-loop-term.result c.loop-term.invariant.labels c.signed-in-loop-term.ensures.small;
    })

pub returns-clause-sum : goal.returns-clause-sum
returns-clause-sum c =
    let past : length c.args.terms.now ≤ c.loop-term.term-index = search rules in
    sym (sums_end c.args.names.now.entries c.loop-term.sum c.args.terms.now c.loop-term.term-index past) ∙ c.loop-term.invariant.same
