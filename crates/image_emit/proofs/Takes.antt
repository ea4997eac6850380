-- What spans hold, taken one after another.
use Rattle.std.proofs.Common.{◌≡◌, ◌≢◌, ◌∙◌, refl, sym, subst, ap, ap₂, arith, ℕ, suc, ◌+◌, ◌<◌, List, [], ◌∷◌, ◌++◌, length, map, get_or, get_or-set_other, set, take, Some}
use Rattle.std.specs.Prelude.{slice_index_or}
use Rattle.std.specs.List.{All}
use Rattle.std.proofs.Math.Seq.{take-suc}
use Rattle.std.proofs.lemmas.List.{map-append}
use Rattle.std.proofs.lemmas.List.Elements.{All-append, All-cons, All-nil}
use Rattle.std.proofs.lemmas.Option.{get_or_from_slice_get, slice_get-get_or, slice_get_within}
use Rattle.image_pack.specs.Form.{IsBytes}
use Rattle.image_emit.specs.Taking.{IsTaking}
use Rattle.image_pack.specs.SpanConditions.{HaveDifferentNumbers}
use Rattle.image_pack.specs.declared.parts.SpanPart.{SpanPart}

pub none_taken : (spans : List SpanPart) (old : List (List ℕ)) → IsTaking spans 0 old old []
none_taken spans old = record { taken = refl; bytes = All-nil IsBytes; left = λ k s l at. refl }

get_at : (spans : List SpanPart) (i : ℕ) (x s : SpanPart) → i < length spans → s ≡ get_or spans i s → get_or spans i x ≡ s
get_at spans i x s l is = get_or_from_slice_get spans i (get_or spans i s) x (slice_get-get_or spans i s l) ∙ sym is

pub one_taken : (spans : List SpanPart) (i : ℕ) (s : SpanPart) (old now held next more : List (List ℕ)) → HaveDifferentNumbers spans → i < length spans → s ≡ get_or spans i s → IsTaking spans i old now held
    → next ≡ set now s.number [] → more ≡ held ++ get_or now s.number [] ∷ [] → IsBytes (get_or now s.number []) → IsTaking spans (i + 1) old next more
one_taken spans i s old now held next more differ l is t rest pushed low =
    let n : i + 1 ≡ suc i = omega arith in
    let value : (x : SpanPart) → List ℕ = λ x. slice_index_or old x.number [] in
    let here : get_or now s.number [] ≡ value s = t.left i s (omega arith) (slice_get-get_or spans i s l ∙ ap Some (sym is)) in
    record {
      taken =
          pushed
          ∙ ap₂ (λ xs y. xs ++ y ∷ []) t.taken here
          ∙ sym (map-append value (take i spans) (s ∷ []))
          ∙ ap (map value) (ap (λ y. take i spans ++ y ∷ []) is ∙ sym (take-suc spans i s l) ∙ ap (λ k. take k spans) (sym n));
      bytes = subst (All IsBytes) (sym pushed) (All-append IsBytes held (get_or now s.number [] ∷ []) t.bytes (All-cons IsBytes (get_or now s.number []) [] low (All-nil IsBytes)));
      left = λ k x above at.
          let within = slice_get_within spans k x at in
          let same : get_or spans k x ≡ x = get_or_from_slice_get spans k x x at in
          let other : x.number ≢ s.number = λ e. differ i k x (omega (arith, above)) within (ap (λ (y : SpanPart). y.number) (get_at spans i x s l is) ∙ sym e ∙ ap (λ (y : SpanPart). y.number) (sym same)) in
          ap (λ (xs : List (List ℕ)). get_or xs x.number []) rest ∙ get_or-set_other now s.number x.number [] [] other ∙ t.left k x (omega (arith, above)) at;
    }
