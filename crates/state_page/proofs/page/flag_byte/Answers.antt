use Rattle.state_page.proofs.PageLaws.{power_small}
use Rattle.state_page.proofs.page.flag_byte.Goals as goal

pub returns-then-is_set-clause-small : goal.returns-then-is_set-clause-small
returns-then-is_set-clause-small c = power_small c.args.bit c.requires
