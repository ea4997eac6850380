-- The names of component files in a policy.
use Rattle.std.specs.Prelude.{ℕ, List, [], ◌∷◌}
use Rattle.std.specs.List.{flat_map}
use Rattle.policy_lawful.specs.Thing.{items_of}
use Rattle.policy_lawful.specs.source.Content.{Content}
use Rattle.policy_lawful.specs.source.Content.TheVariants.{Zero, Fill, Inline, File}
use Rattle.policy_lawful.specs.source.Source.{Source}

-- of a content, if it is of a file
abbrev pub content_file_of : Content → List (List ℕ)
content_file_of Zero = []
content_file_of (Fill byte) = []
content_file_of (Inline bytes) = []
content_file_of (File name offset most) = name ∷ []

-- those of all contents, by number
abbrev pub named_files : Source → List (List ℕ)
named_files p = flat_map (λ i. content_file_of i.content) (items_of p)
