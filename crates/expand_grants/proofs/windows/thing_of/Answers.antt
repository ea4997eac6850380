use Rattle.std.proofs.Common.{◌≡◌, ◌<◌, length, map, sym, ap, subst, ◌∙◌}
use Rattle.std.specs.List.{position_or_len}
use Rattle.expand_grants.proofs.Numbers.{number_is}
use Rattle.expand_grants.specs.Numbered.{IsNamed, is_called}
use Rattle.muen_num.proofs.Lists.{read_at}
use Rattle.muen_num.specs.declared.tag.TagPart.TheVariants.{Named}
use Rattle.policy_lawful.proofs.WindowsByIndex.{name_there}
use Rattle.policy_lawful.specs.Resolution.{name_at, source_of}
use Rattle.policy_lawful.specs.Thing.{Thing, channel, device_memory, provided, region, thing_tag}
use Rattle.policy_lawful.specs.Things.{region_kind, thing_index, thing_number}
use Rattle.policy_lawful.specs.Views.{thing_shown}
use Rattle.policy_lawful.specs.declared.thing.RegionKind.TheVariants.{Device as DeviceKind}
use Rattle.policy_lawful.specs.declared.thing.ThingIndex.TheVariants.{Declared}
use Rattle.policy_lawful.specs.declared.view.Shown.{Shown}
use Rattle.policy_lawful.specs.source.Device.{Device}
use Rattle.expand_grants.proofs.windows.thing_of.Goals as goal
use Rattle.expand_grants.proofs.windows.thing_of.Goals.{in-Memory, in-Channel, in-Provided, in-Device}

pub returns : goal.returns
returns c =
    let r = c.args.policy.now in
    let v = c.args.view.now in
    let number : (x : Thing) → c.match-view.kind ≡ (region_kind x, (thing_tag x).owner, (thing_tag x).part) → Declared c.number_of.result ≡ Declared (thing_number (source_of r) x) = λ x is.
    ap Declared
    (c.number_of.ensures
    ∙ (λ j. position_or_len (is_called (is j).0 (record { owner = (is j).1; part = (is j).2 })) c.things-things.result.now)
    ∙ number_is r c.things-things.result.now c.things-things.ensures.declared x) in
    let shown : (s : Shown) → v.shows ≡ s → thing_index (source_of r) (thing_shown r c.args.subject v s) ≡ thing_index (source_of r) (thing_shown r c.args.subject v v.shows) = λ s is. ap (λ s. thing_index (source_of r) (thing_shown r c.args.subject v s)) (sym is) in
    elim c.match-view.branch [
      | in-Memory w ↦ number (region v.name) w.kind-is ∙ shown _ w.in-Memory.is
      | in-Channel w ↦ number (channel v.name) w.kind-is ∙ shown _ w.in-Channel.is
      | in-Provided w ↦ number (provided c.args.subject v.name) w.kind-is ∙ shown _ w.in-Provided.is
      | in-Device w ↦
          let k = w.in-Device.device in
          let d = w.index-devices-device.result in
          let there : k < length r.devices = subst (IsNamed r v) w.in-Device.is c.requires in
          let at = read_at r.devices w.devices.result.now k d w.devices.ensures.value (subst (λ ds. k < length ds) (sym w.devices.ensures.value) there) w.index-devices-device.is in
          let owner = ap (λ (d : Device). d.name) (sym w.index-devices-device.is) ∙ sym (name_there (λ (d : Device). d.name) r.devices k d at) in
          number (device_memory (name_at (map (λ (d : Device). d.name) r.devices) k) v.name) (w.kind-is ∙ (λ j. (DeviceKind, owner j, Named v.name))) ∙ shown _ w.in-Device.is
    ]
