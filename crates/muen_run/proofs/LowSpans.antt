-- Spans that end where physical addresses do, or before.
use Rattle.std.proofs.Common.{◌≡◌, ℕ, ◌+◌, ◌/◌, ◌^◌, ◌≤◌, ◌==◌, List, [], ◌∷◌, Some, true, false, sym, ap, subst, arith}
use Rattle.std.specs.Prelude.{if◌then◌else◌, unwrap_or}
use Rattle.std.specs.List.{find}
use Rattle.std.proofs.lemmas.Option.{none-some}
use Rattle.image_pack.specs.declared.parts.SpanPart.{SpanPart}
use Rattle.std.proofs.lemmas.List.Elements.{All-head, All-tail}
use Rattle.image_load.specs.Loading.{IsLoaded}
use Rattle.image_load.specs.Memory.{AreLow, IsLow}
use Rattle.image_load.specs.declared.loading.Loaded.{Loaded}
use Rattle.image_load.proofs.Rising.{parts_low}
use Rattle.image_pack.specs.Parts.{IsParts}
use Rattle.image_pack.specs.declared.parts.Image.{Image}

pub low_pages : (s : SpanPart) → IsLow s → s.address / 4096 + s.pages ≤ 2 ^ 52
low_pages s low = let l = low.low in omega (arith, l)

pub found_low : (spans : List SpanPart) (n : ℕ) (s : SpanPart) → AreLow spans → find (λ s. s.number == n) spans ≡ Some s → IsLow s
found_low [] n s low is = absurd (none-some s is)
found_low (x ∷ xs) n s low is =
    elim (x.number == n) as (λ b. (if b then Some x else find (λ (y : SpanPart). y.number == n) xs) ≡ Some s → IsLow s) [
      | true ↦ λ e. subst IsLow (ap (λ o. unwrap_or o x) e) (All-head IsLow x xs low)
      | false ↦ λ e. found_low xs n s (All-tail IsLow x xs low) e
    ] is

pub loaded_low : (i : Image) (l : Loaded) → IsParts i → IsLoaded i l → AreLow l.spans
loaded_low i l fits is = subst AreLow (sym is.spans) (parts_low i fits)
