-- The generated system at small numbers, against answers that were worked out by hand.
use Rattle.std.proofs.Common.{◌≡◌, ◌++◌, [], ◌∷◌, refl}
use Rattle.std.specs.Prelude.{codes, replicate}
use Rattle.guest_isa.specs.GuestIsa.{encoding_of, row_of}
use Rattle.record_text.specs.DeviceRecord.{irq_input, port_input}
use Rattle.generated_system.specs.Record.{inputs_at, order_at}
use Rattle.generated_system.specs.System.{code_of, cpus_for, first_ticks_for, one_before}

code_of_the_first : code_of 1 0
    ≡ 1 ∷ 16 ∷ 0 ∷ 0 ∷ 1 ∷ 0 ∷ 0 ∷ 0
    ∷ 1 ∷ 32 ∷ 0 ∷ 0 ∷ 0 ∷ 16 ∷ 96 ∷ 0
    ∷ 1 ∷ 48 ∷ 0 ∷ 0 ∷ 0 ∷ 0 ∷ 96 ∷ 0
    ∷ 1 ∷ 64 ∷ 0 ∷ 0 ∷ 1 ∷ 0 ∷ 0 ∷ 0
    ∷ 1 ∷ 80 ∷ 0 ∷ 0 ∷ 0 ∷ 0 ∷ 64 ∷ 0
    ∷ 26 ∷ 5 ∷ 0 ∷ 0 ∷ 0 ∷ 0 ∷ 0 ∷ 0
    ∷ 24 ∷ 0 ∷ 0 ∷ 0 ∷ 0 ∷ 0 ∷ 0 ∷ 0
    ∷ 11 ∷ 98 ∷ 3 ∷ 0 ∷ 0 ∷ 0 ∷ 0 ∷ 0
    ∷ 4 ∷ 22 ∷ 0 ∷ 0 ∷ 0 ∷ 0 ∷ 0 ∷ 0
    ∷ 12 ∷ 19 ∷ 3 ∷ 0 ∷ 0 ∷ 0 ∷ 0 ∷ 0
    ∷ 22 ∷ 4 ∷ 0 ∷ 0 ∷ 0 ∷ 0 ∷ 0 ∷ 0
    ∷ 17 ∷ 144 ∷ 0 ∷ 0 ∷ 16 ∷ 0 ∷ 0 ∷ 0
    ∷ 13 ∷ 0 ∷ 0 ∷ 0 ∷ 216 ∷ 255 ∷ 255 ∷ 255
    ∷ replicate 216 0
    ++ (4 ∷ 116 ∷ 0 ∷ 0 ∷ 0 ∷ 0 ∷ 0 ∷ 0
    ∷ 27 ∷ 0 ∷ 0 ∷ 0 ∷ 0 ∷ 0 ∷ 0 ∷ 0 ∷ [])
unfolding code_of encoding_of row_of
code_of_the_first = refl

-- ---- number 6: three CPUs, whose first subjects have seven of eight ticks; number 7: four, and one

cpus_of_six : cpus_for 6 ≡ 3
cpus_of_six = refl

cpus_of_seven : cpus_for 7 ≡ 4
cpus_of_seven = refl

ticks_of_six : first_ticks_for 6 ≡ 7
ticks_of_six = refl

ticks_of_seven : first_ticks_for 7 ≡ 1
ticks_of_seven = refl

-- on three CPUs the first subject reads what the last one writes, and the last what the fifth does
before_the_first : one_before 3 0 ≡ 5
before_the_first = refl

before_the_last : one_before 3 5 ≡ 4
before_the_last = refl

-- the last inputs, and the last order of turns, of number 6
last_inputs : inputs_at 6 199 ≡ (19900, port_input (codes "dev") 16 205) ∷ (19900, irq_input (codes "dev") (codes "t")) ∷ []
last_inputs = refl

last_order : order_at 6 19 ≡ (19000, 2 ∷ 1 ∷ 0 ∷ [])
last_order = refl
