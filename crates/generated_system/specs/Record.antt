-- The device record that `load` makes of a number (this project's own).
use Rattle.std.specs.Prelude.{ℕ, ◌+◌, ◌*◌, ◌%◌, List, [], ◌∷◌, map, reverse, codes}
use Rattle.std.specs.List.{flat_map}
use Rattle.generated_system.specs.System.{cpus_for}
use Rattle.muen_num.specs.Range.{numbers_below}
use Rattle.record_text.specs.DeviceRecord.{DeviceRecord, NamedInput, port_input, irq_input}

-- in every hundredth tick, the j-th such, the device's port changes, and its interrupt is raised
abbrev pub inputs_at : ℕ → ℕ → List (ℕ × NamedInput)
inputs_at n j =
    (100 * j, port_input (codes "dev") 16 ((j + n) % 256)) ∷ (100 * j, irq_input (codes "dev") (codes "t")) ∷ []

-- in every thousandth, the k-th such, the CPUs take their turns from the last to the first
abbrev pub order_at : ℕ → ℕ → ℕ × List ℕ
order_at n k = (1000 * k, reverse (numbers_below (cpus_for n)))

unfoldable pub generated_record : ℕ → DeviceRecord
generated_record n = record {
  end = 20000;
  inputs = flat_map (inputs_at n) (numbers_below 200);
  orders = map (order_at n) (numbers_below 20);
}
