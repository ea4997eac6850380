use Rattle.machine_layout.proofs.PageLaws.{other_pages_stay, the_page_changes, pages_stay_there, no_page_is_made, other_pages_load_the_same}
use Rattle.machine_layout.proofs.laws.pages_change_alone.Goals as goal

pub returns : goal.returns
returns c =
    record {
      other = other_pages_stay;
      same = the_page_changes;
      there = pages_stay_there;
      none = no_page_is_made;
      loads = other_pages_load_the_same;
    }
