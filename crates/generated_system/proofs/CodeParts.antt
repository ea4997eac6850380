-- The code of a subject, part after part.
use Rattle.std.proofs.Common.{◌≡◌, ℕ, ◌+◌, List, [], ◌∷◌, ◌++◌, replicate, pos, negsuc, sym, ap, ap₂, ◌∙◌, append_assoc, arith}
use Rattle.std.specs.List.{All, flat_map}
use Rattle.std.proofs.lemmas.List.Elements.{All-from_recursion, All-replicate}
use Rattle.std.proofs.lemmas.Grind.{flat_map-append}
use Rattle.guest_isa.specs.GuestIsa.{IsValid, encoding_of, instruction_with}
use Rattle.guest_isa.proofs.Spelled.{valid_with}
use Rattle.guest_isa.specs.declared.instr.Instr.{Instr}
use Rattle.guest_isa.specs.declared.opcode.Opcode.TheVariants.{Nop, Li, Add, Load, Store, Jmp, Vmcall, Sti, Setv, Reti}
use Rattle.muen_num.specs.declared.access.AccessSize.TheVariants.{One, Eight}
use Rattle.generated_system.specs.System.{code_of, polling}

-- what stands before the handlers and the room for them
abbrev pub round : Instr → Instr → List Instr
round own once =
    own ∷ (instruction_with Li 2 0 One (pos 6295552)) ∷ (instruction_with Li 3 0 One (pos 6291456)) ∷ (instruction_with Li 4 0 One (pos 1)) ∷ (instruction_with Li 5 0 One (pos 4194304)) ∷ (instruction_with Setv 0 5 One (pos 0)) ∷ (instruction_with Sti 0 0 One (pos 0)) ∷ (instruction_with Load 6 2 Eight (pos 0)) ∷ (instruction_with Add 1 6 One (pos 0)) ∷ (instruction_with Store 1 3 Eight (pos 0)) ∷ (instruction_with Vmcall 0 4 One (pos 0))
    ∷ once ∷ (instruction_with Jmp 0 0 One (negsuc 39)) ∷ []

abbrev pub idle : List Instr
idle = replicate 27 (instruction_with Nop 0 0 One (pos 0))

abbrev pub handlers : List Instr
handlers = (instruction_with Add 7 4 One (pos 0)) ∷ (instruction_with Reti 0 0 One (pos 0)) ∷ []

in_parts : (n i : ℕ) → code_of n i ≡ (flat_map encoding_of (round (instruction_with Li 1 0 One (pos (n + i))) (polling i)) ++ flat_map encoding_of idle) ++ flat_map encoding_of handlers
unfolding code_of
in_parts n i =
    flat_map-append encoding_of (round (instruction_with Li 1 0 One (pos (n + i))) (polling i)) (idle ++ handlers)
    ∙ ap (λ bytes. flat_map encoding_of (round (instruction_with Li 1 0 One (pos (n + i))) (polling i)) ++ bytes) (flat_map-append encoding_of idle handlers)
    ∙ sym (append_assoc (flat_map encoding_of (round (instruction_with Li 1 0 One (pos (n + i))) (polling i))) (flat_map encoding_of idle) (flat_map encoding_of handlers))

pub code_parts : (n i : ℕ) (own once : Instr) (start first second third : List ℕ) → own ≡ (instruction_with Li 1 0 One (pos (n + i))) → once ≡ polling i → start ≡ [] → first ≡ start ++ flat_map encoding_of (round own once)
    → second ≡ first ++ flat_map encoding_of idle → third ≡ second ++ flat_map encoding_of handlers → third ≡ code_of n i
code_parts n i own once start first second third e o a b c d =
    d
    ∙ ap (λ bytes. bytes ++ flat_map encoding_of handlers) (c ∙ ap (λ bytes. bytes ++ flat_map encoding_of idle) (b ∙ ap₂ (λ bytes instr. bytes ++ flat_map encoding_of (round own instr)) a o ∙ ap (λ m. flat_map encoding_of (round m (polling i))) e))
    ∙ sym (in_parts n i)

-- ---- they can be encoded

pub round_valid : (own once : Instr) → IsValid own → IsValid once → All IsValid (round own once)
round_valid own once a b =
    All-from_recursion IsValid (round own once) (
      a,
      (
        valid_with Li 2 0 One (pos 6295552) (omega arith) (omega arith),
        (
          valid_with Li 3 0 One (pos 6291456) (omega arith) (omega arith),
          (
            valid_with Li 4 0 One (pos 1) (omega arith) (omega arith),
            (
              valid_with Li 5 0 One (pos 4194304) (omega arith) (omega arith),
              (
                valid_with Setv 0 5 One (pos 0) (omega arith) (omega arith),
                (
                  valid_with Sti 0 0 One (pos 0) (omega arith) (omega arith),
                  (
                    valid_with Load 6 2 Eight (pos 0) (omega arith) (omega arith),
                    (
                      valid_with Add 1 6 One (pos 0) (omega arith) (omega arith),
                      (
                        valid_with Store 1 3 Eight (pos 0) (omega arith) (omega arith),
                        (
                          valid_with Vmcall 0 4 One (pos 0) (omega arith) (omega arith),
                          (
                            b,
                            (
                              valid_with Jmp 0 0 One (negsuc 39) (omega arith) (omega arith),
                              tt,
                            ),
                          ),
                        ),
                      ),
                    ),
                  ),
                ),
              ),
            ),
          ),
        ),
      ),
    )

pub idle_valid : All IsValid idle
idle_valid = All-replicate IsValid 27 (instruction_with Nop 0 0 One (pos 0)) (valid_with Nop 0 0 One (pos 0) (omega arith) (omega arith))
