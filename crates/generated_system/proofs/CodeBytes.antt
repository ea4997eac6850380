-- The code of a subject: bytes, which fit a page.
use Rattle.std.proofs.Common.{◌≡◌, ℕ, zero, suc, ◌+◌, ◌/◌, ◌%◌, ◌^◌, Bool, true, false, List, [], ◌∷◌, ◌++◌, length, replicate, ℤ, pos, negsuc, refl, ◌∙◌, arith}
use Rattle.std.specs.Prelude.{◌==◌, if◌then◌else◌, nat_lt}
use Rattle.std.specs.Int.{w32, cast_unsigned}
use Rattle.std.specs.List.{flat_map, list_all}
use Rattle.std.proofs.lemmas.Bool.{and_from, and_parts, lt-ltb, ltb-true}
use Rattle.std.proofs.lemmas.List.Folds.{list_all-append}
use Rattle.guest_isa.specs.GuestIsa.{encoding_of, instruction_with, row_of}
use Rattle.guest_isa.specs.declared.instr.Instr.{Instr}
use Rattle.guest_isa.specs.declared.opcode.Opcode.TheVariants.{Nop, Li, Add, Load, Store, Jmp, In, Vmcall, Sti, Setv, Reti}
use Rattle.hex.specs.Hex.{IsBytes}
use Rattle.muen_num.specs.declared.access.AccessSize.TheVariants.{One, Eight}
use Rattle.generated_system.specs.System.{code_of, polling}

abbrev is_byte : ℕ → Bool
is_byte b = nat_lt b 256

low : (x : ℕ) → is_byte (x % 256) ≡ true
low x = lt-ltb (x % 256) 256 (omega arith)

four_low : (a b c d : ℕ) → list_all is_byte (a % 256 ∷ b % 256 ∷ c % 256 ∷ d % 256 ∷ []) ≡ true
four_low a b c d =
    and_from (is_byte (a % 256)) (list_all is_byte (b % 256 ∷ c % 256 ∷ d % 256 ∷ [])) (low a)
    (and_from (is_byte (b % 256)) (list_all is_byte (c % 256 ∷ d % 256 ∷ [])) (low b)
    (and_from (is_byte (c % 256)) (list_all is_byte (d % 256 ∷ [])) (low c)
    (and_from (is_byte (d % 256)) true (low d) refl)))

first_bytes : (m : ℤ) → list_all is_byte (encoding_of (instruction_with Li 1 0 One m)) ≡ true
unfolding encoding_of row_of
first_bytes m =
    let word : ℕ = cast_unsigned w32 m in
    four_low word (word / 256) (word / 256 ^ 2) (word / 256 ^ 3)

-- what follows the first instruction
abbrev later : ℕ → List Instr
later i =
    (instruction_with Li 2 0 One (pos 6295552)) ∷ (instruction_with Li 3 0 One (pos 6291456)) ∷ (instruction_with Li 4 0 One (pos 1)) ∷ (instruction_with Li 5 0 One (pos 4194304)) ∷ (instruction_with Setv 0 5 One (pos 0)) ∷ (instruction_with Sti 0 0 One (pos 0)) ∷ (instruction_with Load 6 2 Eight (pos 0)) ∷ (instruction_with Add 1 6 One (pos 0)) ∷ (instruction_with Store 1 3 Eight (pos 0)) ∷ (instruction_with Vmcall 0 4 One (pos 0))
    ∷ polling i ∷ (instruction_with Jmp 0 0 One (negsuc 39)) ∷ replicate 27 (instruction_with Nop 0 0 One (pos 0)) ++ ((instruction_with Add 7 4 One (pos 0)) ∷ (instruction_with Reti 0 0 One (pos 0)) ∷ [])

later_bytes : (i : ℕ) → list_all is_byte (flat_map encoding_of (later i)) ≡ true
unfolding encoding_of row_of
later_bytes i =
    elim (i == 0) as (λ b. list_all is_byte (flat_map encoding_of (
    (instruction_with Li 2 0 One (pos 6295552)) ∷ (instruction_with Li 3 0 One (pos 6291456)) ∷ (instruction_with Li 4 0 One (pos 1)) ∷ (instruction_with Li 5 0 One (pos 4194304)) ∷ (instruction_with Setv 0 5 One (pos 0)) ∷ (instruction_with Sti 0 0 One (pos 0)) ∷ (instruction_with Load 6 2 Eight (pos 0)) ∷ (instruction_with Add 1 6 One (pos 0)) ∷ (instruction_with Store 1 3 Eight (pos 0)) ∷ (instruction_with Vmcall 0 4 One (pos 0))
    ∷ (if b then (instruction_with In 9 0 One (pos 16)) else (instruction_with Nop 0 0 One (pos 0))) ∷ (instruction_with Jmp 0 0 One (negsuc 39)) ∷ replicate 27 (instruction_with Nop 0 0 One (pos 0)) ++ ((instruction_with Add 7 4 One (pos 0)) ∷ (instruction_with Reti 0 0 One (pos 0)) ∷ []))) ≡ true) [ true ↦ refl | false ↦ refl ]

bytes_from : (xs : List ℕ) → list_all is_byte xs ≡ true → IsBytes xs
bytes_from [] h i = omega arith
bytes_from (x ∷ xs) h zero = let parts = and_parts (is_byte x) (list_all is_byte xs) h in ltb-true x 256 parts.0
bytes_from (x ∷ xs) h (suc i) = let parts = and_parts (is_byte x) (list_all is_byte xs) h in bytes_from xs parts.1 i

pub code_bytes : (n i : ℕ) → IsBytes (code_of n i)
unfolding code_of
code_bytes n i =
    bytes_from (encoding_of (instruction_with Li 1 0 One (pos (n + i))) ++ flat_map encoding_of (later i))
    (list_all-append is_byte (encoding_of (instruction_with Li 1 0 One (pos (n + i)))) (flat_map encoding_of (later i))
    ∙ and_from (list_all is_byte (encoding_of (instruction_with Li 1 0 One (pos (n + i))))) (list_all is_byte (flat_map encoding_of (later i))) (first_bytes (pos (n + i))) (later_bytes i))

pub code_length : (n i : ℕ) → length (code_of n i) ≡ 336
unfolding code_of encoding_of row_of
code_length n i =
    elim (i == 0) as (λ b. length (flat_map encoding_of ((instruction_with Li 1 0 One (pos (n + i))) ∷
    (instruction_with Li 2 0 One (pos 6295552)) ∷ (instruction_with Li 3 0 One (pos 6291456)) ∷ (instruction_with Li 4 0 One (pos 1)) ∷ (instruction_with Li 5 0 One (pos 4194304)) ∷ (instruction_with Setv 0 5 One (pos 0)) ∷ (instruction_with Sti 0 0 One (pos 0)) ∷ (instruction_with Load 6 2 Eight (pos 0)) ∷ (instruction_with Add 1 6 One (pos 0)) ∷ (instruction_with Store 1 3 Eight (pos 0)) ∷ (instruction_with Vmcall 0 4 One (pos 0))
    ∷ (if b then (instruction_with In 9 0 One (pos 16)) else (instruction_with Nop 0 0 One (pos 0))) ∷ (instruction_with Jmp 0 0 One (negsuc 39)) ∷ replicate 27 (instruction_with Nop 0 0 One (pos 0)) ++ ((instruction_with Add 7 4 One (pos 0)) ∷ (instruction_with Reti 0 0 One (pos 0)) ∷ []))) ≡ 336) [ true ↦ refl | false ↦ refl ]
