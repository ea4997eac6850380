-- What the span of a number tells, where each span has its bytes.
use Rattle.std.proofs.Common.{◌≡◌, ◌∙◌, ℕ, ◌*◌, Bool, List, length, Some, None, sym, ap}
use Rattle.std.specs.Prelude.{◌==◌, option_map}
use Rattle.std.specs.List.{find}
use Rattle.std.specs.Bool.{Decides as Tells}
use Rattle.std.proofs.lemmas.Bool.Decides.{Decides-eqb}
use Rattle.std.proofs.lemmas.Option.{same_Some}
use Rattle.image_checks.proofs.Equal.{decided}
use Rattle.image_checks.proofs.Decided.{decided as decides_same}
use Rattle.image_checks.specs.Agreement.{size_at}
use Rattle.image_checks.specs.Firsts.{Decides}
use Rattle.image_pack.specs.declared.parts.Image.{Image}
use Rattle.image_pack.specs.declared.parts.SpanPart.{SpanPart}
use Rattle.image_soundness.proofs.SpanNumbers.{span_alone}
use Rattle.image_soundness.specs.Memory.{span_at}
use Rattle.image_soundness.specs.Named.{tag_at}
use Rattle.muen_num.proofs.Lists.{option_map-option_map}
use Rattle.muen_num.specs.declared.tag.Tag.{Tag}
use Rattle.muen_num.specs.declared.limits.TheConstants.{PAGE}

module _ (i : Image) (n : ℕ) (many : length i.contents ≡ length i.spans) where
  told : {Y : Type 0} (f : SpanPart → Y) → option_map (λ e. f e.0) (span_at i n) ≡ option_map f (find (λ s. s.number == n) i.spans)
  told f =
      sym (option_map-option_map f (λ (e : SpanPart × List ℕ). e.0) (span_at i n))
      ∙ ap (option_map f) (span_alone i many n)

  -- its printed name and its size
  tag_told : tag_at i n ≡ option_map (λ s. s.tag) (find (λ s. s.number == n) i.spans)
  tag_told = told (λ s. s.tag)

  size_told : size_at i n ≡ option_map (λ s. PAGE * s.pages) (find (λ s. s.number == n) i.spans)
  size_told = told (λ s. PAGE * s.pages)

  module _ (spans : List SpanPart) (are : spans ≡ i.spans) where
    -- where none has the number
    pub no_tag : None ≡ find (λ s. s.number == n) spans → (t : Tag) → tag_at i n ≡ Some t → ⊥
    no_tag found t h =
        let e : None ≡ Some t = ap (option_map (λ (s : SpanPart). s.tag)) found ∙ ap (λ ss. option_map (λ (s : SpanPart). s.tag) (find (λ s. s.number == n) ss)) are ∙ sym tag_told ∙ h in
        absurd (cc (e))

    pub no_size : None ≡ find (λ s. s.number == n) spans → (size : ℕ) → size_at i n ≡ Some size → ⊥
    no_size found size h =
        let e : None ≡ Some size = ap (option_map (λ (s : SpanPart). PAGE * s.pages)) found ∙ ap (λ ss. option_map (λ (s : SpanPart). PAGE * s.pages) (find (λ s. s.number == n) ss)) are ∙ sym size_told ∙ h in
        absurd (cc (e))

    -- where one has it
    pub some_tag : (s : SpanPart) → Some s ≡ find (λ s. s.number == n) spans → (t : Tag) (b : Bool) → Tells b (s.tag ≡ t) → Decides (tag_at i n ≡ Some t) b
    some_tag s found t b tells =
        let is : tag_at i n ≡ Some s.tag = tag_told ∙ ap (λ ss. option_map (λ (s : SpanPart). s.tag) (find (λ s. s.number == n) ss)) (sym are) ∙ ap (option_map (λ (s : SpanPart). s.tag)) (sym found) in
        decides_same (s.tag ≡ t) (tag_at i n ≡ Some t) b (λ e. is ∙ ap Some e) (λ h. same_Some s.tag t (sym is ∙ h)) (decided b (s.tag ≡ t) tells)

    pub some_size : (s : SpanPart) → Some s ≡ find (λ s. s.number == n) spans → (bytes size : ℕ) → bytes ≡ PAGE * s.pages → Decides (size_at i n ≡ Some size) (bytes == size)
    some_size s found bytes size same =
        let is : size_at i n ≡ Some bytes = size_told ∙ ap (λ ss. option_map (λ (s : SpanPart). PAGE * s.pages) (find (λ s. s.number == n) ss)) (sym are) ∙ ap (option_map (λ (s : SpanPart). PAGE * s.pages)) (sym found) ∙ ap Some (sym same) in
        decides_same (bytes ≡ size) (size_at i n ≡ Some size) (bytes == size) (λ e. is ∙ ap Some e) (λ h. same_Some bytes size (sym is ∙ h))
        (decided (bytes == size) (bytes ≡ size) (Decides-eqb bytes size))
