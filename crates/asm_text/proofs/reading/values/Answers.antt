use Rattle.std.proofs.Common.{◌∙◌, inr, sym}
use Rattle.asm_text.specs.Tokens.{tokens_of}
use Rattle.asm_text.proofs.ValueLaws.{last_value, next_value, no_comma, value_refused_here}
use Rattle.asm_text.proofs.reading.values.Goals as goal

pub loop-value-preserved : goal.loop-value-preserved
loop-value-preserved c =
    rw c.in_ok-push-in-Ok.ensures.ok (
    sym (next_value c.loop-value.values (tokens_of c.loop-value.rest.now) (tokens_of c.in-Ok.behind.now) (tokens_of c.in-Ok-comma.more.now) c.in-Ok.value c.in-Ok.ensures.value (sym c.if-is_over.ensures) (sym c.in-Ok-comma.ensures.rest))
    ∙ c.loop-value.invariant
    )

pub returns-then-is_over : goal.returns-then-is_over
returns-then-is_over c =
    rw c.in_ok-push-in-Ok.ensures.ok (
    sym c.loop-value.invariant
    ∙ last_value c.loop-value.values (tokens_of c.loop-value.rest.now) (tokens_of c.in-Ok.behind.now) c.in-Ok.value c.in-Ok.ensures.value (sym c.if-is_over.ensures)
    )

pub returns-in-Err-comma : goal.returns-in-Err-comma
returns-in-Err-comma c =
    inr (
    sym c.loop-value.invariant
    ∙ no_comma c.loop-value.values (tokens_of c.loop-value.rest.now) (tokens_of c.in-Ok.behind.now) c.in-Ok.value c.in-Err-comma.error c.in-Ok.ensures.value (sym c.if-is_over.ensures) (sym c.in-Err-comma.ensures.rest)
    )

pub returns-in-Err : goal.returns-in-Err
returns-in-Err c =
    value_refused_here c.loop-value.values (tokens_of c.loop-value.rest.now) c.in-Err.error _ _ c.in-Err.ensures.value c.loop-value.invariant
