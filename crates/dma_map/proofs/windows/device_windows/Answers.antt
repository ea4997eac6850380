use Rattle.std.proofs.Common.{◌≡◌, ◌∙◌, ap}
use Rattle.std.proofs.lemmas.Result.{IfOk-weaker}
use Rattle.std.specs.List.{flat_map}
use Rattle.dma_map.specs.DmaMapText.{device_windows, windows_shown}
use Rattle.dma_map.proofs.Texts.{has_text}
use Rattle.dma_map.proofs.windows.device_windows.Goals as goal

pub returns-clause-text : goal.returns-clause-text
unfolding device_windows
returns-clause-text c =
    let x = c.args.placed.now in
    let is : c.devices.result.now ≡ x.expanded.lawful.devices = c.devices.ensures.value ∙ ap (λ r. r.devices) (c.resolved-policy.ensures.value ∙ c.lawful.ensures ∙ ap (λ x. x.lawful) c.expanded.ensures.value) in
    IfOk-weaker c.windows_of.result _ _ (λ windows same. has_text x c.expanded.ensures.placed windows (same ∙ ap (flat_map (λ d. windows_shown x d.name)) is)) c.windows_of.ensures
