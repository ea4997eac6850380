use Rattle.std.proofs.Common.{not, ap, ◌∙◌, ◌++◌, length, drop}
use Rattle.std.proofs.lemmas.List.{take_at}
use Rattle.iobm_emit.specs.Ports.{is_granted_access}
use Rattle.muen_num.specs.declared.limits.TheConstants.{PAGE}
use Rattle.subject_emit.proofs.Joined.{exits_joined}
use Rattle.subject_emit.proofs.bitmaps.port_bitmaps.Goals as goal

pub returns-clause-exits : goal.returns-clause-exits
returns-clause-exits c =
    let first = c.in_ok-a.a in
    let second = c.in_ok-b.b in
    let a = c.emit.new.a in
    let b = c.emit.new.b in
    let at_a = take_at a (drop (length a) first.items) first.len (c.emit.auto.a ∙ c.as_mut_slice.ensures.len) in
    let at_b = c.deref.ensures.value ∙ take_at b (drop (length b) second.items) second.len (c.emit.auto.b ∙ c.as_mut_slice-2.ensures.len) in
    exits_joined PAGE a b c.of.result (λ port size. not (is_granted_access c.args.ports.now port size))
    (c.of.ensures ∙ c.in_ok-extend_from_slice.ensures.items ∙ (λ i. at_a i ++ at_b i))
    (c.emit.auto.a ∙ ap length c.as_mut_slice.ensures.value ∙ c.in_ok-a.ensures)
    c.emit.ensures
