use Rattle.std.proofs.Common.{◌≡◌, None, length, option_map, position, sym, ap, ◌∙◌, arith}
use Rattle.std.specs.Str.{bytes_eq}
use Rattle.policy_lawful.specs.Resolution.{source_of}
use Rattle.policy_lawful.specs.Thing.{region}
use Rattle.policy_lawful.specs.Windows.{window}
use Rattle.dma_emit.proofs.Found.{none_by_position}
use Rattle.dma_emit.proofs.PlacesThere.{number_there, position_within}
use Rattle.dma_map.specs.DmaMapText.{window_shown}
use Rattle.dma_map.proofs.Rows.{row_at}
use Rattle.dma_map.proofs.windows.row.Goals as goal

pub returns-in_err-number : goal.returns-in_err-number
unfolding source_of
returns-in_err-number c =
    let x = c.args.placed.now in
    let m = c.args.mapping.now in
    let is : c.memory-memory.result.now ≡ x.expanded.lawful.memory = c.memory-memory.ensures.value ∙ ap (λ r. r.memory) (c.resolved.ensures.value ∙ c.lawful.ensures ∙ ap (λ x. x.lawful) c.expanded.ensures.value) in
    let none : position (λ r. bytes_eq r.name m.region) x.expanded.lawful.memory ≡ None = ap (position (λ r. bytes_eq r.name m.region)) (sym is) ∙ (sym c.region_number.ensures ∙ c.in_err-number.was) in
    c.from_residual.ensures
    ∙ ap (λ o. option_map (window_shown x c.args.device) (option_map (λ r. window m.virtual_address r.size m.rights (region r.name)) o)) (sym (none_by_position (λ r. bytes_eq r.name m.region) x.expanded.lawful.memory none))

pub bounds-addresses-number : goal.bounds-addresses-number
bounds-addresses-number c =
    let memory = c.memory-memory.result.now in
    let is : memory ≡ c.args.placed.now.expanded.lawful.memory = c.memory-memory.ensures.value ∙ ap (λ r. r.memory) (c.resolved.ensures.value ∙ c.lawful.ensures ∙ ap (λ x. x.lawful) c.expanded.ensures.value) in
    let within = position_within (λ r. bytes_eq r.name c.args.mapping.now.region) memory c.in_ok-number.number (sym c.region_number.ensures ∙ c.in_ok-number.was) in
    let many = ap length is in
    let there = number_there c.args.placed.now c.expanded.ensures.placed c.in_ok-number.number (omega (arith, within, many)) in
    omega (arith, there, ap length c.addresses.ensures.value)

pub returns : goal.returns
returns c =
    let x = c.args.placed.now in
    let is = c.memory-memory.ensures.value ∙ ap (λ r. r.memory) (c.resolved.ensures.value ∙ c.lawful.ensures ∙ ap (λ x. x.lawful) c.expanded.ensures.value) in
    row_at x c.args.device c.args.mapping.now c.memory-memory.result.now c.addresses.result.now c.in_ok-number.number c.index-memory-number.result is c.addresses.ensures.value (sym c.region_number.ensures ∙ c.in_ok-number.was)
