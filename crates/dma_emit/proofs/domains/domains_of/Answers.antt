use Rattle.std.proofs.Common.{◌≡◌, true, All, map, sym, ap, ◌∙◌, subst}
use Rattle.std.specs.List.{filter_map}
use Rattle.dma_emit.specs.Domains.{domain_devices, domains_of, mapped, windows_of}
use Rattle.dma_emit.specs.Ready.{HaveDifferentGuests, IsReady}
use Rattle.dma_emit.proofs.DomainsReady.{all_different, bdfs, ready}
use Rattle.dma_emit.proofs.domains.domains_of.Goals as goal
use Rattle.policy_lawful.specs.Domains.{is_bdf}
use Rattle.policy_lawful.specs.Resolution.{source_of}

pub domain_devices-requires : goal.domain_devices-requires
domain_devices-requires c =
    let is = c.resolved-policy.ensures.value ∙ c.lawful.ensures ∙ ap (λ x. x.lawful) c.expanded.ensures.value in
    subst (λ ds. All (λ d. is_bdf d.bdf ≡ true) ds) (sym (ap (λ r. r.devices) is)) (bdfs c.args.placed.now c.expanded.ensures.placed)

pub windows_of_each-requires : goal.windows_of_each-requires
windows_of_each-requires c =
    let is = c.resolved-policy.ensures.value ∙ c.lawful.ensures ∙ ap (λ x. x.lawful) c.expanded.ensures.value in
    subst (λ ds. All (λ d. HaveDifferentGuests (filter_map (mapped c.args.placed.now) d.memory)) ds) (sym (c.device_domains.ensures ∙ ap (λ r. r.device_domains) is)) (all_different c.args.placed.now c.expanded.ensures.placed)

pub returns-clause-ready : goal.returns-clause-ready
returns-clause-ready c =
    let x = c.args.placed.now in
    let is = c.resolved-policy.ensures.value ∙ c.lawful.ensures ∙ ap (λ x. x.lawful) c.expanded.ensures.value in
    let devices = c.of.ensures ∙ c.in_ok-domain_devices.ensures ∙ ap (λ r. domain_devices (source_of r)) is in
    let windows = c.in_ok-windows_of_each.ensures ∙ ap (map (windows_of x)) (c.device_domains.ensures ∙ ap (λ r. r.device_domains) is) in
    let same : record { devices = c.of.result; windows = c.in_ok-windows_of_each.field-0 } ≡ domains_of x = λ i. record { devices = devices i; windows = windows i } in
    subst IsReady (sym same) (ready x c.expanded.ensures.placed)
