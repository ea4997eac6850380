-- The writers of channels (this project's own).
use Rattle.std.specs.Prelude.{ℕ, ◌&&◌, Bool, List}
use Rattle.std.specs.List.{list_any}
use Rattle.std.specs.Str.{bytes_eq}
use Rattle.policy_lawful.specs.Events.{channel_ends}
use Rattle.policy_lawful.specs.MoreRules.{is_writer}
use Rattle.policy_lawful.specs.source.Source.{Source}
use Rattle.policy_lawful.specs.source.Subject.{Subject}

-- the subject has a writer's end of the channel with this name
abbrev pub is_writer_of : Source → Subject → List ℕ → Bool
is_writer_of p q name = list_any (λ e. is_writer e.role && bytes_eq e.channel name) (channel_ends p q)
