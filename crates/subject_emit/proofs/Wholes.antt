-- What a window shows the whole of is there.
use Rattle.std.proofs.Common.{◌≡◌, Some, ℕ}
use Rattle.std.proofs.lemmas.Option.{slice_get_within}
use Rattle.expand_kernel.specs.Numbered.{IsWhole, thing_size}
use Rattle.expand_kernel.specs.granted.GrantedWindow.{GrantedWindow}
use Rattle.muen_num.proofs.Options.{from_some}
use Rattle.muen_num.specs.declared.limits.TheConstants.{PAGE}
use Rattle.policy_lawful.specs.Resolution.{Resolution}
use Rattle.policy_lawful.specs.Things.{things_by_number}
use Rattle.policy_lawful.specs.declared.thing.ThingIndex.{ThingIndex}
use Rattle.policy_lawful.specs.declared.thing.ThingIndex.TheVariants.{Declared, State as StatePage}
use Rattle.region_alloc.specs.Placed.{IsThere}

sized_there : (r : Resolution) (thing : ThingIndex) (size : ℕ) → thing_size r thing ≡ Some size → IsThere r thing
sized_there r (Declared n) size e = let t = from_some (λ t. t.size) _ size e in slice_get_within (things_by_number r) n t.0 t.1
sized_there r (StatePage k) size e = let s = from_some (λ _. PAGE) _ size e in slice_get_within r.subjects k s.0 s.1

pub whole_there : (r : Resolution) (w : GrantedWindow) → IsWhole r w → IsThere r w.thing
whole_there r w h = sized_there r w.thing w.size h
