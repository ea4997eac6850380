-- What is found where only one element passes.
use Rattle.std.proofs.Common.{◌≡◌, inl, inr, ◌&&◌, ◌==◌, Bool, true, false, cond, List, [], ◌∷◌, Some, refl, ap, ◌∙◌}
use Rattle.std.specs.List.{AllPairs, find}
use Rattle.std.proofs.lemmas.Bool.{and_from, eq-eqb}
use Rattle.dma_emit.specs.declared.devices.DomainDevice.{DomainDevice}
use Rattle.dma_emit.specs.Ready.{same_place}
use Rattle.muen_num.proofs.Members.{In, all_in}
use Rattle.span_emit.proofs.PairLaws.{pairs_head, pairs_tail}

abbrev at_place : DomainDevice → DomainDevice → Bool
at_place v w = (w.device.bus == v.device.bus) && (w.device.devfn == v.device.devfn)

-- of devices at different places the one at its place
pub only_found : (v : DomainDevice) (vs : List DomainDevice) → In v vs → AllPairs (λ a b. same_place a b ≡ false) vs → find (at_place v) vs ≡ Some v
only_found v [] i apart = absurd i
only_found v (w ∷ vs) (inl same) apart =
    let here : at_place v w ≡ true = ap (at_place v) same ∙ and_from _ _ (eq-eqb v.device.bus v.device.bus refl) (eq-eqb v.device.devfn v.device.devfn refl) in
    ap (λ b. cond b (Some w) (find (at_place v) vs)) here ∙ ap Some same
only_found v (w ∷ vs) (inr i) apart =
    let other = all_in (λ b. same_place w b ≡ false) vs (pairs_head (λ a b. same_place a b ≡ false) w vs apart) v i in
    let fails : at_place v w ≡ false = other in
    ap (λ b. cond b (Some w) (find (at_place v) vs)) fails ∙ only_found v vs i (pairs_tail (λ a b. same_place a b ≡ false) w vs apart)
