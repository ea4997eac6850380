-- The forms of the commands, worked out by hand.
use Rattle.std.proofs.Common.{◌≡◌, List, [], ◌∷◌, ℕ, None, Some, codes, refl}
use Rattle.command_shell.specs.Forms.{usage_text}
use Rattle.dma_top.specs.Commands.{command_of, flows, forms, lines, verify, windows}

usage_told : usage_text forms ≡ codes "usage: verify IMAGE POLICY DMA, lines IMAGE RECORD DMA, map POLICY, flows POLICY"
usage_told = refl

lines_form : (image inputs tables : List ℕ) → command_of (codes "lines" ∷ image ∷ inputs ∷ tables ∷ []) ≡ Some (lines image inputs tables)
lines_form image inputs tables = refl

map_form : (policy : List ℕ) → command_of (codes "map" ∷ policy ∷ []) ≡ Some (windows policy)
map_form policy = refl

-- other words

no_words : command_of [] ≡ None
no_words = refl

one_less : (image inputs : List ℕ) → command_of (codes "lines" ∷ image ∷ inputs ∷ []) ≡ None
one_less image inputs = refl

another_word : (policy : List ℕ) → command_of (codes "maps" ∷ policy ∷ []) ≡ None
another_word policy = refl

verify_form : (image policy tables : List ℕ) → command_of (codes "verify" ∷ image ∷ policy ∷ tables ∷ []) ≡ Some (verify image policy tables)
verify_form image policy tables = refl

flows_form : (policy : List ℕ) → command_of (codes "flows" ∷ policy ∷ []) ≡ Some (flows policy)
flows_form policy = refl
