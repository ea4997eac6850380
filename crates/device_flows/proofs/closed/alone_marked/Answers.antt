use Rattle.std.proofs.Common.{◌++◌, false, map, ap, ◌∙◌}
use Rattle.std.specs.Str.{bytes_eq}
use Rattle.device_flows.proofs.JoinedRows.{alone_is}
use Rattle.device_flows.proofs.closed.alone_marked.Goals as goal

pub returns : goal.returns
returns c =
    let front = c.deref.ensures.value ∙ c.in_ok-front.ensures ∙ ap (map (λ s. bytes_eq s.name c.args.name.now)) c.subjects.ensures.value in
    let back = c.deref-2.ensures.value ∙ c.in_ok-back.ensures ∙ ap (map (λ _. false)) c.devices.ensures.value in
    c.in_ok-marks.ensures ∙ (λ i. front i ++ back i) ∙ alone_is c.args.policy.now c.args.name.now
