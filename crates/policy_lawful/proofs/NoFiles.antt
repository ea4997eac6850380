-- Contents for which no file is read.
use Rattle.std.proofs.Common.{◌≡◌, ℕ, Bool, true, false, refl, sym, true≢false}
use Rattle.policy_lawful.specs.Contents.{Held, content_bytes}
use Rattle.policy_types.specs.declared.source.Content.{Content}
use Rattle.policy_types.specs.declared.source.Content.TheVariants.{Zero, Fill, Inline, File}

-- no file is read for this content
abbrev pub in_no_file : Content → Bool
in_no_file (File name offset most) = false
in_no_file _ = true

-- any files make the same of them
pub same_content : (f g : Held) (size : ℕ) (c : Content) → in_no_file c ≡ true → content_bytes f size c ≡ content_bytes g size c
same_content f g size Zero h = refl
same_content f g size (Fill b) h = refl
same_content f g size (Inline bytes) h = refl
same_content f g size (File name offset most) h = absurd (true≢false (sym h))
