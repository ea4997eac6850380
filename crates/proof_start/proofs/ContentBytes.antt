-- What the spans of an image hold at the start are bytes: its conditions say so.
use Rattle.std.proofs.Common.{ℕ, zero, suc, arith, List, [], ◌∷◌}
use Rattle.std.specs.List.{All, AllZip}
use Rattle.std.proofs.lemmas.List.Elements.{All-cons, All-nil}
use Rattle.image_pack.specs.Form.{IsBytes}
use Rattle.guest_isa.specs.Words.{IsByte}
use Rattle.image_pack.specs.ImageConditions.{IsContent, KeepsConditions}
use Rattle.image_pack.specs.declared.parts.Image.{Image}
use Rattle.image_pack.specs.declared.parts.SpanPart.{SpanPart}
use Rattle.proof_start.specs.GroundOf.{HoldsBytes}

small_bytes : (bytes : List ℕ) → IsBytes bytes → All IsByte bytes
small_bytes [] h k d l = absurd (omega (arith, l))
small_bytes (x ∷ bytes) h zero d l = h zero
small_bytes (x ∷ bytes) h (suc k) d l = small_bytes bytes (λ i. h (suc i)) k d (omega (arith, l))

each_small : (spans : List SpanPart) (contents : List (List ℕ)) → AllZip IsContent spans contents → All (All IsByte) contents
each_small [] [] h = All-nil (All IsByte)
each_small [] (b ∷ bs) h = absurd h
each_small (s ∷ ss) [] h = absurd h
each_small (s ∷ ss) (b ∷ bs) h = All-cons (All IsByte) b bs (small_bytes b h.0.1) (each_small ss bs h.1)

pub contents_small : (i : Image) → KeepsConditions i → HoldsBytes i
contents_small i keeps = each_small i.spans i.contents keeps.contents
