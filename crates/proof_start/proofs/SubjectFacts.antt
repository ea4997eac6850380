-- The subjects of an image: their controls in the machine, and that their spans are their own.
use Rattle.std.proofs.Common.{◌≡◌, ℕ, true, false, Some, refl, sym, ap, ◌∙◌, inl, inr, arith}
use Rattle.std.specs.Prelude.{◌==◌, option_map, slice_get}
use Rattle.std.specs.List.{list_any}
use Rattle.std.proofs.lemmas.Bool.{cases_lt, eq-eqb, true≢false}
use Rattle.std.proofs.lemmas.Option.{slice_get-map}
use Rattle.std.proofs.lemmas.Map.Keys.{any_passes_from_place}
use Rattle.image_load.specs.Loaded.{control_of}
use Rattle.image_soundness.specs.Sound.{ShareNoSpan, own_spans, share_a_span}
use Rattle.image_pack.specs.declared.parts.Image.{Image}
use Rattle.image_pack.specs.declared.parts.SubjectPart.{SubjectPart}
use Rattle.muen_num.proofs.Options.{from_some}
use Rattle.policy_lawful.specs.source.Source.{Source}
use Rattle.vmx_machine.specs.declared.control.Control.{Control}
use Rattle.proof_start.specs.GroundOf.{ground_of}
use Rattle.muen_num.proofs.Indexed.{pairs_at}

-- ---- controls

-- the control of this number is that of a subject of the image
pub record Controlled (i : Image) (s : ℕ) (c : Control) : Type 0 where
  pub part : SubjectPart
  pub here : slice_get i.subjects s ≡ Some part
  pub is : control_of i.spans part ≡ c

pub controlled : (p : Source) (i : Image) (s : ℕ) (c : Control) → slice_get (ground_of p i).setup.controls s ≡ Some c → Controlled i s c
unfolding ground_of
controlled p i s c at =
    let f = from_some (control_of i.spans) (slice_get i.subjects s) c (sym (slice_get-map (control_of i.spans) i.subjects s) ∙ at) in
    record { part = f.0; here = f.1; is = f.2 }

pub control_at : (p : Source) (i : Image) (s : ℕ) (q : SubjectPart) → slice_get i.subjects s ≡ Some q → slice_get (ground_of p i).setup.controls s ≡ Some (control_of i.spans q)
unfolding ground_of
control_at p i s q at = slice_get-map (control_of i.spans) i.subjects s ∙ ap (option_map (control_of i.spans)) at

pub part_at : (p : Source) (i : Image) (s : ℕ) → slice_get (ground_of p i).setup.subjects s ≡ slice_get i.subjects s
unfolding ground_of
part_at p i s = refl

-- ---- own pages

shares : (a b : SubjectPart) (k l n : ℕ) → slice_get (own_spans a) k ≡ Some n → slice_get (own_spans b) l ≡ Some n → share_a_span a b ≡ true
shares a b k l n at to =
    any_passes_from_place (λ n. list_any (λ m. m == n) (own_spans b)) (own_spans a) k n at (any_passes_from_place (λ m. m == n) (own_spans b) l n to (eq-eqb n n refl))

-- no two subjects have a span in common
pub own_apart : (i : Image) → ShareNoSpan i.subjects → (s t : ℕ) (q r : SubjectPart) (k l n : ℕ) → slice_get i.subjects s ≡ Some q → slice_get i.subjects t ≡ Some r → slice_get (own_spans q) k ≡ Some n → slice_get (own_spans r) l ≡ Some n → s ≡ t
own_apart i own s t q r k l n at to here there =
    elim (cases_lt s t) [
      | inl less ↦ absurd (true≢false (sym (shares q r k l n here there) ∙ pairs_at (λ a b. share_a_span a b ≡ false) i.subjects s t q r own less at to))
      | inr more ↦ elim (cases_lt t s) [
        | inl less ↦ absurd (true≢false (sym (shares r q l k n there here) ∙ pairs_at (λ a b. share_a_span a b ≡ false) i.subjects t s r q own less to at))
        | inr even ↦ omega (arith, more, even)
      ]
    ]
