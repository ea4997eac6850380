use Rattle.machine_layout.proofs.PageLaws.{changes_differ_in_their_page}
use Rattle.machine_layout.proofs.StoreLaws.{stores_differ_in_their_bytes}
use Rattle.machine_layout.proofs.WalkLaws.{walks_elsewhere_stay}
use Rattle.machine_layout.proofs.laws.changes_elsewhere_change_no_walk.Goals as goal

pub returns : goal.returns
returns c =
    record {
      stores = stores_differ_in_their_bytes;
      pages = changes_differ_in_their_page;
      walks = walks_elsewhere_stay;
    }
