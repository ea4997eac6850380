use Rattle.std.proofs.Common.{◌≡◌, ◌+◌, ◌-◌, ◌*◌, ◌^◌, ◌<◌, ◌∙◌, suc, arith, subst}
use Rattle.image_checks.proofs.AreaLaws.{fits_eight, one_lower, one_more_byte}
use Rattle.image_checks.proofs.areas.number_at.Goals as goal

pub overflow_mul-value : goal.overflow_mul-value
overflow_mul-value c = let fits = fits_eight c.loop-left.value (c.args.count - c.loop-left.left) 0 (omega arith) c.loop-left.invariant.small (omega arith) in omega (arith, fits)

pub overflow_add-value : goal.overflow_add-value
overflow_add-value c = let fits = fits_eight c.loop-left.value (c.args.count - c.loop-left.left) c.from.result (omega arith) c.loop-left.invariant.small (omega arith) in omega (arith, fits)

pub loop-left-preserved : goal.loop-left-preserved
loop-left-preserved c =
    let more : suc (c.args.count - c.loop-left.left) ≡ c.args.count - (c.loop-left.left - 1) = omega arith in
    record {
      within = omega arith;
      small = subst (λ n. c.loop-left.value * 256 + c.from.result < 256 ^ n) more (one_more_byte c.loop-left.value (c.args.count - c.loop-left.left) c.from.result c.loop-left.invariant.small (omega arith));
      value = one_lower c.args.bytes.now c.args.at c.loop-left.left (c.loop-left.left - 1) c.args.count c.loop-left.value c.from.result (omega arith) c.loop-left.invariant.within (c.from.ensures ∙ c.byte_or_zero.ensures) c.loop-left.invariant.value;
    }
