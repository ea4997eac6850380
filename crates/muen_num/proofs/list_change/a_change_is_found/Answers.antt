use Rattle.muen_num.proofs.ChangeLaws.{length_stays, element_changes, others_stay, changes_join}
use Rattle.muen_num.proofs.list_change.a_change_is_found.Goals as goal

pub returns : goal.returns
returns g c = record { same = element_changes; other = others_stay; length = length_stays; join = changes_join }
