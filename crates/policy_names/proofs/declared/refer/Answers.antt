use Rattle.std.proofs.Common.{None, Some, inr, sym, ap, ◌∙◌}
use Rattle.policy_names.proofs.Names.{found, offends}
use Rattle.policy_names.proofs.declared.refer.Goals as goal

pub returns-in-Some : goal.returns-in-Some
returns-in-Some c =
    let names = c.args.names.now in
    let at = sym c.index_of.ensures ∙ c.in-Some.is in
    (offends c.args.by names c.args.name (Some c.in-Some.index) (sym at), found names c.args.name c.in-Some.index at)

pub returns-in-None : goal.returns-in-None
returns-in-None c =
    inr (offends c.args.by c.args.names.now c.args.name None (sym c.in-None.is ∙ c.index_of.ensures) ∙ ap (λ o. Some o) (sym c.not_declared.ensures))
