use Rattle.std.proofs.Common.{◌≡◌, ◌<◌, ◌≤◌, ◌∙◌, length, get_or, inr, sym, rules}
use Rattle.asm_text.proofs.Seats.{number_put, number_refused, numbers_put}
use Rattle.asm_text.proofs.assembling.put_numbers.Goals as goal

pub returns-in-Err : goal.returns-in-Err
returns-in-Err c =
    let there : c.loop-value.value-index < length c.args.values.now = search rules in
    let is : c.value-item.result ≡ get_or c.args.values.now c.loop-value.value-index c.value-item.result = search rules in
    inr (
    sym c.loop-value.invariant
    ∙ number_refused c.args.names.now.entries c.args.size c.args.values.now c.value-item.result c.loop-value.value-index c.loop-value.out.items c.in-Err.error there is (sym c.in-Err.ensures.value)
    )

pub loop-value-preserved : goal.loop-value-preserved
loop-value-preserved c =
    let there : c.loop-value.value-index < length c.args.values.now = search rules in
    let is : c.value-item.result ≡ get_or c.args.values.now c.loop-value.value-index c.value-item.result = search rules in
    rw c.in_ok-put_number-in-Ok.ensures (
    sym (number_put c.args.names.now.entries c.args.size c.args.values.now c.value-item.result c.loop-value.value-index c.loop-value.out.items c.in-Ok.n there is (sym c.in-Ok.ensures.value))
    ∙ c.loop-value.invariant
    )

pub returns : goal.returns
returns c =
    let past : length c.args.values.now ≤ c.loop-value.value-index = search rules in
    sym c.loop-value.invariant
    ∙ numbers_put c.args.names.now.entries c.args.size c.args.values.now c.loop-value.value-index c.loop-value.out.items past
