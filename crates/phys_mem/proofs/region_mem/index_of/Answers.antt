use Rattle.std.proofs.lemmas.List.Sorted.{searched}
use Rattle.phys_mem.proofs.Rising.{not_falling, found_first, found_none}
use Rattle.phys_mem.proofs.region_mem.index_of.Goals as goal

pub returns-in-Ok : goal.returns-in-Ok
returns-in-Ok c =
    let ns = c.args.numbers.now in
    let found = searched ns c.args.number c.binary_search.result c.binary_search.ensures.position (not_falling ns c.requires) in
    found_first ns c.args.number c.in-Ok.i c.requires (rw c.in-Ok.is at found)

pub returns-in-Err : goal.returns-in-Err
returns-in-Err c =
    let ns = c.args.numbers.now in
    let found = searched ns c.args.number c.binary_search.result c.binary_search.ensures.position (not_falling ns c.requires) in
    found_none ns c.args.number c.in-Err.field-0 (rw c.in-Err.is at found)
