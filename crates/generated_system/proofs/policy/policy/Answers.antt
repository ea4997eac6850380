use Rattle.std.proofs.Common.{ap, ◌∙◌, string_bytes}
use Rattle.std.proofs.lemmas.Str.{IsUtf8-string_bytes}
use Rattle.policy_json.specs.Document.{policy_of}
use Rattle.serde_json.specs.View.{view}
use Rattle.generated_system.proofs.PolicyText.{policy_text}
use Rattle.generated_system.proofs.policy.policy.Goals as goal

pub returns : goal.returns
returns c =
    ap (λ v. policy_of v.items) c.into_bytes.ensures.value
    ∙ policy_text c.args.number (view c.in_ok-value.field-0) (string_bytes c.in_ok-text.text) (IsUtf8-string_bytes c.in_ok-text.text) c.in_ok-value.ensures c.in_ok-text.ensures.reads_back
