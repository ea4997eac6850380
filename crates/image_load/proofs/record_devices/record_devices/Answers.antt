use Rattle.std.proofs.Common.{◌≡◌, ℕ, ◌+◌, ◌<◌, List, [], ◌∷◌, ◌++◌, length, get_or, take, sym, subst, ap, ◌∙◌}
use Rattle.std.specs.List.{AllZip}
use Rattle.std.proofs.lemmas.List.{take_more}
use Rattle.std.proofs.lemmas.Slice.Zip.{all_zipped_more}
use Rattle.image_load.specs.RecordDevices.{IsRecordDevice}
use Rattle.image_load.proofs.record_devices.record_devices.Goals as goal

one_more : {A B : Type 0} (R : A → B → Type 0) (ds : List A) (i : ℕ) (d : A) (ps qs : List B) (p : B)
    → i < length ds → d ≡ get_or ds i d → AllZip R (take i ds) ps → R d p → qs ≡ ps ++ p ∷ [] → AllZip R (take (i + 1) ds) qs
one_more R ds i d ps qs p low is was here added =
    let front : take (i + 1) ds ≡ take i ds ++ d ∷ [] = take_more ds i d low ∙ ap (λ x. take i ds ++ x ∷ []) (sym is) in
    subst (λ xs. AllZip R xs qs) (sym front) (subst (λ ys. AllZip R (take i ds ++ d ∷ []) ys) (sym added) (all_zipped_more R (take i ds) ps d p was here))

pub loop-device-preserved : goal.loop-device-preserved
loop-device-preserved c =
    one_more (IsRecordDevice c.args.spans.now) c.args.devices.now c.loop-device.device-index c.device-item.result c.loop-device.made.items c.push.new.self.items c.in_ok-record_device.field-0
    c.loop-device-test.true c.device-item.is c.loop-device.invariant c.in_ok-record_device.ensures c.in_ok-push.ensures.items
