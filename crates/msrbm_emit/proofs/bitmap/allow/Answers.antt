use Rattle.std.proofs.Common.{◌∙◌, sym}
use Rattle.msrbm_emit.proofs.MsrLaws.{covered_has_bit, run_cleared, run_of_other}
use Rattle.msrbm_emit.proofs.bitmap.allow.Goals as goal

pub returns-in_default-clause-same : goal.returns-in_default-clause-same
returns-in_default-clause-same c = absurd (covered_has_bit c.args.grant.now c.args.write c.requires.covered (sym c.in_default.ensures))

pub returns-clause-same : goal.returns-clause-same
returns-clause-same c =
    run_cleared c.args.grant.now c.in-Some.first c.args.write _ _ c.requires.covered (sym c.in-Some.ensures) c.clear_bits.ensures (sym c.is_allowed.ensures ∙ c.if-not-is_allowed.false)

pub returns-clause-other : goal.returns-clause-other
returns-clause-other c =
    run_of_other c.args.grant.now c.in-Some.first c.args.write _ _ c.requires.covered (sym c.in-Some.ensures) c.clear_bits.ensures
