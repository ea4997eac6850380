use Rattle.std.proofs.Common.{◌<◌, ◌==◌, ◌&&◌, length, sym, ap, ◌∙◌, option_map}
use Rattle.dma_emit.proofs.entries.context_entry.Goals as goal
use Rattle.muen_num.proofs.Members.{all_in, find_in}

pub context_of-requires-clause-there : goal.context_of-requires-clause-there
context_of-requires-clause-there c =
    let d = c.args.domains.now in
    let found = find_in (λ v. (v.device.bus == c.args.bus) && (v.device.devfn == c.args.devfn)) d.devices c.in-Some.device.now (sym c.device_on.ensures ∙ ap (option_map (λ v. v.now)) c.in-Some.is) in
    all_in (λ v. v.domain < length d.windows) d.devices c.requires.ready.domains c.in-Some.device.now found.0
