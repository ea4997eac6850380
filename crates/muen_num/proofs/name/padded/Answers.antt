use Rattle.std.proofs.Common.{ℕ, length}
use Rattle.std.proofs.lemmas.List.{drop-replicate}
use Rattle.muen_num.specs.Naming.{name_room}
use Rattle.muen_num.proofs.name.padded.Goals as goal

pub returns : goal.returns
unfolding name_room
returns c = cc (drop-replicate {X = ℕ} (length c.args.text.now) 63 0)
