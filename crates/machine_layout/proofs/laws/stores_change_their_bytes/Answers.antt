use Rattle.machine_layout.proofs.StoreLaws.{other_bytes_stay, the_stored_is_loaded, lengths_stay}
use Rattle.machine_layout.proofs.laws.stores_change_their_bytes.Goals as goal

pub returns : goal.returns
returns c =
    record { apart = other_bytes_stay; stored = the_stored_is_loaded; lengths = lengths_stay }
