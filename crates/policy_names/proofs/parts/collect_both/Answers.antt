use Rattle.std.proofs.Common.{◌≡◌, ◌++◌, arith}
use Rattle.std.specs.Prelude.{map, None}
use Rattle.policy_names.specs.Parts.{repeats}
use Rattle.policy_names.proofs.PartNames.{in_parts, others_alone}
use Rattle.policy_names.proofs.parts.collect_both.Goals as goal

pub returns-in_err-names_of : goal.returns-in_err-names_of
returns-in_err-names_of g c =
    let both : repeats (map g.T.Named.name c.args.items.now ++ map g.U.Named.name c.args.more.now) ≡ None = grind (arith, in_parts) in
    let alone = others_alone (map g.T.Named.name c.args.items.now) (map g.U.Named.name c.args.more.now) both in
    grind (arith, in_parts)
