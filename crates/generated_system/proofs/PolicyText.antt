-- A text that is read back as the value of the document is the policy document.
use Rattle.std.proofs.Common.{◌≡◌, ℕ, ◌≤◌, List, Some, Ok, ap, subst, ◌∙◌, sym}
use Rattle.std.specs.Str.{IsUtf8}
use Rattle.policy_json.specs.Document.{policy_of}
use Rattle.serde_json.specs.Data.{Data, depth}
use Rattle.serde_json.specs.Read.{max_depth, read}
use Rattle.generated_system.proofs.Depths.{generated_deep}
use Rattle.generated_system.proofs.PolicyRead.{document_read}
use Rattle.generated_system.specs.PolicyValue.{generated_value}
use Rattle.generated_system.specs.System.{generated_system}

pub policy_text : (n : ℕ) (d : Data) (text : List ℕ) → IsUtf8 text → d ≡ generated_value n → (depth d ≤ max_depth → read text ≡ Some d) → policy_of text ≡ Ok (generated_system n)
policy_text n d text utf8 is back =
    document_read n text utf8 (back (subst (λ e. depth e ≤ max_depth) (sym is) (generated_deep n)) ∙ ap (λ e. Some e) is)
