use Rattle.std.proofs.Common.{[], length}
use Rattle.binary_form.specs.Form.{field, gap, only, tag}
use Rattle.dma_tables.specs.DmaFile.{dma_file}
use Rattle.dma_tables.proofs.writing.put_file.Goals as goal

pub put_items-requires : goal.put_items-requires
unfolding dma_file field gap only tag
put_items-requires c = (tt, [], length c.args.file.now.devices, rw c.items.ensures c.requires.1.1.1.0)
