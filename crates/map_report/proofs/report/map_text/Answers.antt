use Rattle.std.proofs.Common.{Ok, ap, arith, length, subst, ◌∙◌}
use Rattle.muen_outside.specs.Puts.{Puts}
use Rattle.policy_lawful.specs.Resolution.{source_of}
use Rattle.map_report.specs.MapText.{map_text_of}
use Rattle.map_report.proofs.Text.{as_many_addresses, text_is}
use Rattle.map_report.proofs.report.map_text.Goals as goal

pub print_map-requires-clause-long : goal.print_map-requires-clause-long
print_map-requires-clause-long g c =
    let long = as_many_addresses c.args.placed.now.expanded.lawful.memory_blocks c.args.placed.now.expanded.regions c.addresses.result.now c.addresses.ensures.inside in
    omega (arith, long, ap length c.regions.ensures.value, ap (λ p. length p.regions) c.expanded-expanded.ensures.value)

pub returns-clause-text : goal.returns-clause-text
returns-clause-text g c =
    let same = c.resolved-policy.ensures.value ∙ c.lawful.ensures ∙ ap (λ p. p.lawful) c.expanded-expanded.ensures.value in
    let is = text_is c.args.placed.now.expanded.lawful c.addresses.result.now c.regions.result.now c.grants.result.now (rw same at c.print_map.ensures.resolved)
    (rw c.expanded-expanded.ensures.value at c.regions.ensures.regions) (rw c.expanded-expanded.ensures.value at c.grants.ensures.grants)
    ∙ ap (map_text_of (source_of c.args.placed.now.expanded.lawful)) c.addresses.ensures.value in
    subst (λ text. Puts text (g.S.Sink.state c.args.out.now) (g.S.Sink.state c.print_map.new.out) c.print_map.result) is
    (rw same at c.print_map.ensures.text)

pub returns-clause-placement : goal.returns-clause-placement
returns-clause-placement g c = c.addresses.ensures.placement ∙ ap Ok c.addresses.ensures.value
