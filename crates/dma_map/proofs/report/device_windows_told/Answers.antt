use Rattle.dma_map.proofs.Leads.{lead, nowhere, rise}
use Rattle.dma_map.proofs.report.device_windows_told.Goals as goal

pub returns : goal.returns
returns c = record { rise = rise; lead = lead; nowhere = nowhere }
