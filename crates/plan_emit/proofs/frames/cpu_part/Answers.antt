use Rattle.std.proofs.Common.{◌≡◌, Some, sym}
use Rattle.std.specs.Prelude.{◌==◌, nat_lt}
use Rattle.std.specs.List.{find, list_all}
use Rattle.std.proofs.lemmas.Bool.{and_parts}
use Rattle.plan_emit.specs.Emitted.{fits_minor, fits_entry}
use Rattle.plan_emit.proofs.frames.cpu_part.Goals as goal
use Rattle.policy_lawful.specs.ByIndex.{ticks_in}
use Rattle.muen_num.proofs.Lists.{found_among}

pub minor_parts-requires : goal.minor_parts-requires
minor_parts-requires c =
    let entry = c.in-Some.entry.now in
    let is : find (λ e. e.cpu == c.args.cpu) c.args.entries.now ≡ Some entry = sym c.in-Some.ensures in
    let fits = found_among (λ e. e.cpu == c.args.cpu) fits_entry c.args.entries.now entry is c.requires in
    rw c.items.ensures (and_parts (list_all fits_minor entry.minor_frames) (nat_lt (ticks_in entry) 4294967296) fits).0
