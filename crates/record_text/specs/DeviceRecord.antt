-- The device record of a run, in names (this project's own).
use Rattle.std.specs.Prelude.{ℕ, List}

-- what a device does
pub data NamedInput : Type 0 where
  -- the input byte of a device's port becomes a value
  port_input : List ℕ → ℕ → ℕ → NamedInput
  -- bytes are written into a device's memory from an offset on
  memory_input : List ℕ → List ℕ → ℕ → List ℕ → NamedInput
  -- an interrupt of a device is raised
  irq_input : List ℕ → List ℕ → NamedInput
  -- a device writes bytes from an address of its own on
  dma_input : List ℕ → ℕ → List ℕ → NamedInput

-- how many ticks the run has; the inputs with their ticks, in order; the order of the CPUs in some ticks
pub record DeviceRecord : Type 0 where
  pub end : ℕ
  pub inputs : List (ℕ × NamedInput)
  pub orders : List (ℕ × List ℕ)
