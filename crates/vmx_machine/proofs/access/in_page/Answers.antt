use Rattle.vmx_machine.proofs.StoreWithin.{page_within}
use Rattle.vmx_machine.proofs.access.in_page.Goals as goal

pub returns-clause-within : goal.returns-clause-within
returns-clause-within c = page_within c.args.address c.args.size c.requires c.ranges.address.fits
