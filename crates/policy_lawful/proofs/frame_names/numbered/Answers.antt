use Rattle.std.proofs.Common.{◌≡◌, ◌++◌, ◌<◌, ◌^◌, cond, Some, None, sym, ap, ◌∙◌, take, arith}
use Rattle.std.specs.Prelude.{decimal}
use Rattle.std.proofs.lemmas.Option.{none-some}
use Rattle.muen_num.specs.Naming.{name_of}
use Rattle.policy_lawful.proofs.Naming.{numbered_is_name}
use Rattle.policy_lawful.proofs.frame_names.numbered.Goals as goal

pub unreachable-requires : goal.unreachable-requires
unreachable-requires c =
    let text = c.args.front.now ++ decimal c.args.number in
    let small : c.args.number < 2 ^ 64 = omega (arith, c.ranges.number.fits) in
    let written : take c.append_decimal-end.result c.append_decimal-end.new.out ≡ text =
    c.append_decimal-end.ensures.text ∙ ap (λ front. front ++ decimal c.args.number) c.append-end.ensures.text in
    let name = ap (λ b. cond b (Some text) None) (numbered_is_name c.args.front.now c.args.number c.requires.bytes c.requires.short small) in
    none-some text (sym c.in-None.is ∙ c.read.ensures ∙ ap name_of written ∙ name)
