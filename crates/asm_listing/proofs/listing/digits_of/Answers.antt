use Rattle.std.proofs.Common.{◌≡◌, ◌*◌, ◌++◌, List, ℕ, length, drop, replicate, ap, ◌∙◌, length-take-le, arith}
use Rattle.std.proofs.lemmas.List.{drop-replicate}
use Rattle.hex.specs.Hex.{encode_lower}
use Rattle.asm_listing.proofs.Printing.{if_done}
use Rattle.asm_listing.proofs.listing.digits_of.Goals as goal

pub returns : goal.returns
returns c =
    let chunk = c.args.chunk.now in
    let done : c.encode_to_slice.new.output ≡ encode_lower chunk = if_done c.encode_to_slice.result _ _ c.encode_to_slice.ensures.fits (length-take-le (2 * length chunk) (replicate 16 32) (omega arith)) c.encode_to_slice.ensures.written in
    ap (λ (x : List ℕ). x ++ drop (2 * length chunk) (replicate 16 32)) done ∙ ap (λ (x : List ℕ). encode_lower chunk ++ x) (drop-replicate (2 * length chunk) 16 32)
