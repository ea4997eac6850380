-- What holds of what an image gives a machine.
use Rattle.std.specs.Prelude.{◌≡◌, map}
use Rattle.image_memory.specs.Memory.{memory_span, spans_in}
use Rattle.image_pack.specs.declared.parts.Image.{Image}
use Rattle.image_load.specs.Loaded.{setup_of}
use Rattle.image_load.specs.declared.loading.Loaded.{Loaded}

-- all that an image gives a machine
pub record IsLoaded (i : Image) (l : Loaded) : Type 0 where
  pub cpus : l.cpus ≡ i.header.cpus
  pub setup : l.setup ≡ setup_of i
  pub memory : l.memory.items ≡ map memory_span (spans_in i)
  pub spans : l.spans ≡ i.spans
