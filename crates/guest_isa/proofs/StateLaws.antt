-- Laws of states and of their pages: what is written is read again, and bytes and words stay so.
use Rattle.std.proofs.Common.{◌≡◌, refl, ℕ, zero, suc, ◌-◌, ◌*◌, ◌/◌, ◌%◌, ◌^◌, ◌<◌, ◌≤◌, Bool, true, false, List, [], ◌∷◌, ◌++◌, length, replicate, get_or, take, drop, arith, inl, inr, flat_map}
use Rattle.std.specs.List.{All}
use Rattle.std.proofs.lemmas.Bool.{cases_lt}
use Rattle.std.proofs.lemmas.List.{get_or_past, length-map, length-take}
use Rattle.std.proofs.lemmas.List.Elements.{All-nil, All-cons, All-head, All-tail, All-append, All-replicate, All-take, All-drop, All-map}
use Rattle.std.proofs.Math.Nat.{one-le-pow, pow-suc}
use Rattle.muen_num.specs.Range.{numbers_below}
use Rattle.muen_num.specs.declared.limits.TheConstants.{PAGE}
use Rattle.state_page.specs.Memory.{over, le_bytes, le_number}
use Rattle.state_page.specs.PageFields.{number_at, padded}
use Rattle.state_page.specs.StatePage.{flag, flags_of, page_bytes, registers_in, state_in, interrupts_bit, halted_bit, stopped_bit, exited_bit}
use Rattle.state_page.proofs.PageLaws.{state_back}
use Rattle.state_page.specs.declared.state.SubjectState.{SubjectState}
use Rattle.guest_isa.specs.Finish.{injected, finished}
use Rattle.guest_isa.specs.declared.finish.Finish.{Finish}
use Rattle.guest_isa.specs.declared.finish.Finish.TheVariants.{On, Halt, Stop}
use Rattle.guest_isa.specs.Words.{IsByte, IsWord, FitsState}

-- ---- bytes

-- a number is written as bytes
pub le_bytes_small : (n v : ℕ) → All IsByte (le_bytes n v)
le_bytes_small zero v = All-nil IsByte
le_bytes_small (suc n) v = All-cons IsByte (v % 256) (le_bytes n (v / 256)) (omega arith) (le_bytes_small n (v / 256))

-- bytes over bytes are bytes
pub over_small : (old : List ℕ) (offset : ℕ) (new : List ℕ) → All IsByte old → All IsByte new → All IsByte (over old offset new)
over_small [] offset new h g = h
over_small (x ∷ xs) zero [] h g = h
over_small (x ∷ xs) zero (b ∷ bs) h g =
    All-cons IsByte b (over xs zero bs) (All-head IsByte b bs g) (over_small xs zero bs (All-tail IsByte x xs h) (All-tail IsByte b bs g))
over_small (x ∷ xs) (suc offset) bs h g =
    All-cons IsByte x (over xs offset bs) (All-head IsByte x xs h) (over_small xs offset bs (All-tail IsByte x xs h) g)

-- at most n bytes spell a number below 256 ^ n
pub le_number_small : (bytes : List ℕ) (n : ℕ) → length bytes ≤ n → All IsByte bytes → le_number bytes < 256 ^ n
le_number_small [] n l h = one-le-pow n 256 (omega arith)
le_number_small (b ∷ bs) zero l h = absurd (omega arith)
le_number_small (b ∷ bs) (suc n) l h =
    let rest = le_number_small bs n (omega arith) (All-tail IsByte b bs h) in
    let head : b < 256 = All-head IsByte b bs h in
    omega (arith, rest, head, pow-suc 256 n)

-- ---- pages of states

-- an element of words, or 0 past the end
pub word_below : (xs : List ℕ) (k : ℕ) → All IsWord xs → get_or xs k 0 < 2 ^ 64
word_below xs k h =
    elim (cases_lt k (length xs)) [
      | inl l ↦ h k 0 l
      | inr l ↦ rw (get_or_past xs k 0 l) (omega arith)
    ]

-- what is read of a page that was written is the state that was written
pub state_law : (s : SubjectState) → FitsState s → state_in (page_bytes s) ≡ s
state_law s f = state_back s (page_bytes s) f.many (λ k. word_below s.regs k f.regs) f.pc f.epc f.vbase refl

-- eight bytes of a page spell a word
pub number_small : (page : List ℕ) (at : ℕ) → All IsByte page → number_at page at 8 < 2 ^ 64
unfolding number_at
number_small page at h =
    le_number_small (take 8 (drop at page)) 8 (omega (arith, length-take 8 (drop at page))) (All-take IsByte 8 (drop at page) (All-drop IsByte at page h))

length_registers : (page : List ℕ) → length (registers_in 16 page) ≡ 16
unfolding registers_in
length_registers page = length-map (numbers_below 16) (λ i. number_at page (8 * i) 8)

registers_small : (page : List ℕ) → All IsByte page → All IsWord (registers_in 16 page)
unfolding registers_in
registers_small page h =
    All-map IsWord (λ i. number_at page (8 * i) 8) (numbers_below 16) (λ k d l. number_small page (8 * get_or (numbers_below 16) k d) h)

-- what is read of a page of bytes has words
pub read_fits : (page : List ℕ) → All IsByte page → FitsState (state_in page)
unfolding state_in
read_fits page h = record {
  many = length_registers page;
  regs = registers_small page h;
  pc = number_small page 128 h;
  epc = number_small page 136 h;
  vbase = number_small page 144 h;
}

words_small : (words : List ℕ) → All IsByte (flat_map (le_bytes 8) words)
words_small [] = All-nil IsByte
words_small (w ∷ words) =
    All-append IsByte (le_bytes 8 w) (flat_map (le_bytes 8) words) (le_bytes_small 8 w) (words_small words)

flag_small : (b : Bool) (bit n : ℕ) → 2 ^ bit ≤ n → flag b bit ≤ n
flag_small true bit n h = h
flag_small false bit n h = omega arith

flags_small : (s : SubjectState) → IsByte (flags_of s)
flags_small s =
    let a = flag_small s.interrupts interrupts_bit 1 (omega arith) in
    let b = flag_small s.halted halted_bit 2 (omega arith) in
    let c = flag_small s.stopped stopped_bit 4 (omega arith) in
    let d = flag_small s.exited exited_bit 8 (omega arith) in
    omega (arith, a, b, c, d)

padded_small : (size : ℕ) (bytes : List ℕ) → All IsByte bytes → All IsByte (padded size bytes)
unfolding padded
padded_small size bytes h =
    All-append IsByte bytes (replicate (size - length bytes) 0) h (All-replicate IsByte (size - length bytes) 0 (omega arith))

-- the page of a state has bytes
pub written_bytes : (s : SubjectState) → All IsByte (page_bytes s)
unfolding page_bytes
written_bytes s =
    let flags : All IsByte (flags_of s ∷ []) = All-cons IsByte (flags_of s) [] (flags_small s) (All-nil IsByte) in
    let from_vbase = All-append IsByte (le_bytes 8 s.vbase) (flags_of s ∷ []) (le_bytes_small 8 s.vbase) flags in
    let from_epc = All-append IsByte (le_bytes 8 s.epc) (le_bytes 8 s.vbase ++ (flags_of s ∷ [])) (le_bytes_small 8 s.epc) from_vbase in
    let from_pc = All-append IsByte (le_bytes 8 s.pc) (le_bytes 8 s.epc ++ (le_bytes 8 s.vbase ++ (flags_of s ∷ []))) (le_bytes_small 8 s.pc) from_epc in
    padded_small PAGE (flat_map (le_bytes 8) s.regs ++ (le_bytes 8 s.pc ++ (le_bytes 8 s.epc ++ (le_bytes 8 s.vbase ++ (flags_of s ∷ []))))) (All-append IsByte (flat_map (le_bytes 8) s.regs) (le_bytes 8 s.pc ++ (le_bytes 8 s.epc ++ (le_bytes 8 s.vbase ++ (flags_of s ∷ [])))) (words_small s.regs) from_pc)

-- ---- what the kernel makes of a state

-- with an event delivered
pub injected_fits : (v : ℕ) (s : SubjectState) → FitsState s → FitsState (injected v s)
injected_fits v s f = record { many = f.many; regs = f.regs; pc = omega arith; epc = f.pc; vbase = f.vbase }

-- after an exit
pub finished_fits : (how : Finish) (s : SubjectState) → FitsState s → FitsState (finished how s)
finished_fits On s f = record { many = f.many; regs = f.regs; pc = omega arith; epc = f.epc; vbase = f.vbase }
finished_fits Halt s f = record { many = f.many; regs = f.regs; pc = omega arith; epc = f.epc; vbase = f.vbase }
finished_fits Stop s f = record { many = f.many; regs = f.regs; pc = f.pc; epc = f.epc; vbase = f.vbase }
