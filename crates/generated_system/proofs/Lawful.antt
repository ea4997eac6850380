-- The generated systems keep every rule, whatever the code of their subjects is.
use Rattle.std.proofs.Common.{◌≡◌, ℕ, ◌+◌, ◌%◌, ◌<◌, List, None, refl, arith}
use Rattle.std.specs.Fmt.{digits}
use Rattle.policy_lawful.specs.Domains.{offence_21, offence_22, offence_23, offence_24}
use Rattle.policy_lawful.specs.Lawful.{IsLawful, offences, unlawful}
use Rattle.policy_lawful.specs.MoreRules.{offence_6, offence_7, offence_9, offence_10, offence_11, offence_12, offence_13, offence_14, offence_15, offence_19}
use Rattle.policy_lawful.specs.Rules.{offence_1, offence_2, offence_3, offence_4, offence_5, offence_8, offence_16, offence_17, offence_18, offence_20, first_overlap, window_extents}
use Rattle.policy_lawful.specs.Windows.{windows_of}
use Rattle.generated_system.proofs.Shapes.{below_four, below_seven}
use Rattle.generated_system.specs.System.{first_ticks_for, code_of, generated_system, system_with}

on_one : (code : ℕ → List ℕ) (a : ℕ) → a < 7 → IsLawful (system_with 1 (1 + a) code)
unfolding unlawful offences offence_1 offence_2 offence_3 offence_4 offence_5 offence_6 offence_7 offence_8 offence_9 offence_10 offence_11 offence_12 offence_13 offence_14 offence_15 offence_16 offence_17 offence_18 offence_19 offence_20 offence_21 offence_22 offence_23 offence_24 first_overlap window_extents windows_of digits
on_one code = below_seven (λ a. IsLawful (system_with 1 (1 + a) code)) refl refl refl refl refl refl refl

on_two : (code : ℕ → List ℕ) (a : ℕ) → a < 7 → IsLawful (system_with 2 (1 + a) code)
unfolding unlawful offences offence_1 offence_2 offence_3 offence_4 offence_5 offence_6 offence_7 offence_8 offence_9 offence_10 offence_11 offence_12 offence_13 offence_14 offence_15 offence_16 offence_17 offence_18 offence_19 offence_20 offence_21 offence_22 offence_23 offence_24 first_overlap window_extents windows_of digits
on_two code = below_seven (λ a. IsLawful (system_with 2 (1 + a) code)) refl refl refl refl refl refl refl

on_three : (code : ℕ → List ℕ) (a : ℕ) → a < 7 → IsLawful (system_with 3 (1 + a) code)
unfolding unlawful offences offence_1 offence_2 offence_3 offence_4 offence_5 offence_6 offence_7 offence_8 offence_9 offence_10 offence_11 offence_12 offence_13 offence_14 offence_15 offence_16 offence_17 offence_18 offence_19 offence_20 offence_21 offence_22 offence_23 offence_24 first_overlap window_extents windows_of digits
on_three code = below_seven (λ a. IsLawful (system_with 3 (1 + a) code)) refl refl refl refl refl refl refl

on_four : (code : ℕ → List ℕ) (a : ℕ) → a < 7 → IsLawful (system_with 4 (1 + a) code)
unfolding unlawful offences offence_1 offence_2 offence_3 offence_4 offence_5 offence_6 offence_7 offence_8 offence_9 offence_10 offence_11 offence_12 offence_13 offence_14 offence_15 offence_16 offence_17 offence_18 offence_19 offence_20 offence_21 offence_22 offence_23 offence_24 first_overlap window_extents windows_of digits
on_four code = below_seven (λ a. IsLawful (system_with 4 (1 + a) code)) refl refl refl refl refl refl refl

pub generated_lawful : (n : ℕ) → unlawful (generated_system n) ≡ None
unfolding generated_system
generated_lawful n =
    let first : n % 7 < 7 = omega arith in
    below_four (λ m. IsLawful (system_with (1 + m) (first_ticks_for n) (code_of n)))
    (on_one (code_of n) (n % 7) first) (on_two (code_of n) (n % 7) first) (on_three (code_of n) (n % 7) first) (on_four (code_of n) (n % 7) first)
    (n % 4) (omega arith)
