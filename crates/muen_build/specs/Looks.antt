-- What a call has looked at.
use Rattle.std.specs.Prelude.{◌≡◌, ℕ, Bool, false, List, Option, IfSome, Ok}
use Rattle.std.specs.List.{list_any}
use Rattle.std.specs.Str.{bytes_eq}
use Rattle.muen_num.specs.declared.limits.TheConstants.{COMPONENT_FILE_MOST, POLICY_MOST}
use Rattle.muen_outside.specs.Looks.{HaveNoLookAt, AreSingle, ShowAll}
use Rattle.muen_outside.specs.States.{History, Look, look, looked}
use Rattle.muen_outside.specs.Store.{Store, whole}
use Rattle.policy_lawful.specs.Thing.{items_of}
use Rattle.policy_lawful.specs.source.Content.{Content}
use Rattle.policy_lawful.specs.source.Content.TheVariants.{Zero, Fill, Inline, File}
use Rattle.policy_lawful.specs.source.Source.{Source}

-- these looks were made, each at another name and none at this one, and nothing was written; files that tell show them
pub record Looked (name : List ℕ) (held : Option Store) (old new : History) (looks : List Look) : Type 0 where
  pub history : new ≡ looked old looks
  pub single : AreSingle looks
  pub others : HaveNoLookAt looks name
  pub told : IfSome held (λ m. ShowAll m looks)

-- ---- the files of a policy

-- the document of a policy, looked at under this name
abbrev pub document_look : List ℕ → List ℕ → Look
document_look name document = look name POLICY_MOST (Ok (whole document))

-- a component file that was read
abbrev pub file_look : List ℕ × List ℕ → Look
file_look e = look e.0 COMPONENT_FILE_MOST (Ok (whole e.1))

-- whether a content is of the file of this name
abbrev pub is_of_file : List ℕ → Content → Bool
is_of_file name Zero = false
is_of_file name (Fill byte) = false
is_of_file name (Inline bytes) = false
is_of_file name (File file offset most) = bytes_eq file name

-- whether a content of the policy is
abbrev pub names_file : Source → List ℕ → Bool
names_file p name = list_any (λ i. is_of_file name i.content) (items_of p)
