-- The text of the generated record, line by line.
use Rattle.std.specs.Prelude.{ℕ, ◌+◌, ◌*◌, ◌%◌, ◌==◌, List, [], ◌∷◌, ◌++◌, map, reverse, codes, decimal, if◌then◌else◌}
use Rattle.std.specs.List.{flat_map}
use Rattle.generated_system.specs.System.{cpus_for}
use Rattle.muen_num.specs.Range.{numbers_below}

-- a word, and further words each behind a blank
abbrev pub words_line : List ℕ → List (List ℕ) → List ℕ
words_line kind words = kind ++ flat_map (λ word. 32 ∷ word) words

abbrev pub with_line_feed : List ℕ → List ℕ
with_line_feed line = line ++ 10 ∷ []

-- the device's port has this value from a tick on
abbrev pub generated_port_line : ℕ → ℕ → List ℕ
generated_port_line tick value = words_line (codes "port") (decimal tick ∷ codes "dev" ∷ codes "16" ∷ decimal value ∷ [])

abbrev pub irq_line_text : ℕ → List ℕ
irq_line_text tick = words_line (codes "irq") (decimal tick ∷ codes "dev" ∷ codes "t" ∷ [])

-- so many CPUs, from the last to the first
abbrev pub generated_order_line : ℕ → ℕ → List ℕ
generated_order_line cpus tick = words_line (codes "order") (decimal tick ∷ map decimal (reverse (numbers_below cpus)))

-- an order in every thousandth tick
abbrev pub orders_in : ℕ → ℕ → List (List ℕ)
orders_in cpus j = if j % 10 == 0 then generated_order_line cpus (100 * j) ∷ [] else []

-- the lines of the j-th hundredth tick
abbrev pub lines_in : ℕ → ℕ → List (List ℕ)
lines_in n j = generated_port_line (100 * j) ((j + n) % 256) ∷ irq_line_text (100 * j) ∷ orders_in (cpus_for n) j

abbrev pub record_end_line_text : List ℕ
record_end_line_text = words_line (codes "end") (codes "20000" ∷ [])

unfoldable pub record_lines : ℕ → List (List ℕ)
record_lines n = flat_map (lines_in n) (numbers_below 200) ++ record_end_line_text ∷ []

unfoldable pub record_text : ℕ → List ℕ
record_text n = flat_map with_line_feed (record_lines n)
