-- A name is text.
use Rattle.std.proofs.Common.{◌≡◌, ℕ, ◌<◌, true, List, arith}
use Rattle.std.specs.List.{All, list_all}
use Rattle.std.specs.Str.{IsUtf8}
use Rattle.std.proofs.lemmas.Str.{IsUtf8-from_ascii}
use Rattle.std.proofs.lemmas.Str.Ascii.{IsAscii-from_all}
use Rattle.std.proofs.lemmas.List.Sums.{AllPass-from_list_all}
use Rattle.std.proofs.lemmas.Grind.{common_steps}
use Rattle.muen_num.specs.Naming.{is_name, is_name_byte}

small : (c : ℕ) → is_name_byte c ≡ true → c < 128
small c h = grind (arith, common_steps)

all_small : (text : List ℕ) → list_all is_name_byte text ≡ true → All (λ b. b < 128) text
all_small text h i d g = small _ (AllPass-from_list_all is_name_byte text h i d g)

-- each of its bytes is below 128
pub name_is_text : (text : List ℕ) → is_name text ≡ true → IsUtf8 text
unfolding is_name
name_is_text text h = IsUtf8-from_ascii text (IsAscii-from_all text (all_small text (grind (arith, common_steps))))
