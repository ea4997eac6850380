-- Laws of state pages.
use Rattle.std.proofs.Common.{◌≡◌, ◌∙◌, ap, sym, refl, ℕ, zero, suc, ◌+◌, ◌-◌, ◌*◌, ◌%◌, ◌^◌, ◌<◌, ◌≤◌, ◌==◌, Bool, true, false, List, [], ◌∷◌, ◌++◌, length, map, replicate, get_or, take, drop, set, arith, append_assoc, append-nil, length-append, flat_map, take-suc, add-one, ap₂, mul-zero, mul-suc, mul-le-mul_left, length-take-le, take_all, take_at, drop_at}
use Rattle.std.specs.Int.{bit_at}
use Rattle.muen_num.specs.declared.limits.TheConstants.{PAGE}
use Rattle.std.proofs.lemmas.List.{map-append, take_more, take_more_set, get_or_at, take-append-drop, drop_more}
use Rattle.std.proofs.lemmas.Grind.{flat_map-append}
use Rattle.muen_num.specs.Range.{numbers_below}
use Rattle.machine_layout.specs.Memory.{le_bytes, le_number, over}
use Rattle.machine_layout.specs.PageFields.{number_at, padded}
use Rattle.machine_layout.proofs.PageFieldLaws.{over_padded, length-le_bytes, number_of_bytes}
use Rattle.state_page.specs.declared.state.SubjectState.{SubjectState}
use Rattle.state_page.specs.StatePage.{flag, page_bytes, registers_in, state_in, flags_of, interrupts_bit, halted_bit, stopped_bit, exited_bit}

-- ---- flags

pub power_small : (k : ℕ) → k < 4 → 1 * 2 ^ k % 256 ≤ 8
power_small zero h = omega arith
power_small (suc zero) h = omega arith
power_small (suc (suc zero)) h = omega arith
power_small (suc (suc (suc zero))) h = omega arith
power_small (suc (suc (suc (suc k)))) h = absurd (omega arith)

-- ---- words one after another

pub length-words : (n : ℕ) (words : List ℕ) → length (flat_map (le_bytes n) words) ≡ n * length words
length-words n [] = sym (mul-zero n)
length-words n (w ∷ words) =
    length-append (le_bytes n w) (flat_map (le_bytes n) words) ∙ omega (arith, length-le_bytes n w, length-words n words, mul-suc n (length words))

-- one more word behind those that are there
pub words_more : (size n : ℕ) (words : List ℕ) (i word at : ℕ) (old new : List ℕ) → i < length words → at ≡ n * i → n * length words ≤ size → old ≡ padded size (flat_map (le_bytes n) (take i words)) → new ≡ over old at (le_bytes n (get_or words i word)) → new ≡ padded size (flat_map (le_bytes n) (take (i + 1) words))
words_more size n words i word at old new h e room p q =
    let front : List ℕ = flat_map (le_bytes n) (take i words) in
    let next : List ℕ = le_bytes n (get_or words i word) in
    let long : length front ≡ n * i = length-words n (take i words) ∙ ap (λ k. n * k) (length-take-le i words (omega arith)) in
    let fits : n * suc i ≤ n * length words = mul-le-mul_left n h in
    let within : length front + length next ≤ size = omega (arith, long, length-le_bytes n (get_or words i word), fits, mul-suc n i) in
    let joined : flat_map (le_bytes n) (take (i + 1) words) ≡ front ++ next = ap (flat_map (le_bytes n)) (take_more words i word h) ∙ (flat_map-append (le_bytes n) (take i words) (get_or words i word ∷ []) ∙ ap (λ x. front ++ x) (append-nil next)) in
    q ∙ (ap (λ x. over x at next) p ∙ (over_padded size front next at (e ∙ sym long) within ∙ ap (padded size) (sym joined)))

-- the four fields behind the registers
pub fields_put : (size : ℕ) (front w₁ w₂ w₃ w₄ p₀ p₁ p₂ p₃ p₄ : List ℕ) → length front ≡ 128 → length w₁ ≡ 8 → length w₂ ≡ 8 → length w₃ ≡ 8 → 152 + length w₄ ≤ size → p₀ ≡ padded size front → p₁ ≡ over p₀ 128 w₁ → p₂ ≡ over p₁ 136 w₂ → p₃ ≡ over p₂ 144 w₃ → p₄ ≡ over p₃ 152 w₄ → p₄ ≡ padded size (front ++ (w₁ ++ (w₂ ++ (w₃ ++ w₄))))
fields_put size front w₁ w₂ w₃ w₄ p₀ p₁ p₂ p₃ p₄ l₀ l₁ l₂ l₃ room e₀ e₁ e₂ e₃ e₄ =
    let n₁ : length (front ++ w₁) ≡ 136 = omega (arith, length-append front w₁) in
    let n₂ : length ((front ++ w₁) ++ w₂) ≡ 144 = omega (arith, length-append (front ++ w₁) w₂) in
    let n₃ : length (((front ++ w₁) ++ w₂) ++ w₃) ≡ 152 = omega (arith, length-append ((front ++ w₁) ++ w₂) w₃) in
    let q₁ : p₁ ≡ padded size (front ++ w₁) = e₁ ∙ (ap (λ x. over x 128 w₁) e₀ ∙ over_padded size front w₁ 128 (sym l₀) (omega arith)) in
    let q₂ : p₂ ≡ padded size ((front ++ w₁) ++ w₂) = e₂ ∙ (ap (λ x. over x 136 w₂) q₁ ∙ over_padded size (front ++ w₁) w₂ 136 (sym n₁) (omega arith)) in
    let q₃ : p₃ ≡ padded size (((front ++ w₁) ++ w₂) ++ w₃) = e₃ ∙ (ap (λ x. over x 144 w₃) q₂ ∙ over_padded size ((front ++ w₁) ++ w₂) w₃ 144 (sym n₂) (omega arith)) in
    let q₄ : p₄ ≡ padded size ((((front ++ w₁) ++ w₂) ++ w₃) ++ w₄) = e₄ ∙ (ap (λ x. over x 152 w₄) q₃ ∙ over_padded size (((front ++ w₁) ++ w₂) ++ w₃) w₄ 152 (sym n₃) (omega arith)) in
    let joined : (((front ++ w₁) ++ w₂) ++ w₃) ++ w₄ ≡ front ++ (w₁ ++ (w₂ ++ (w₃ ++ w₄))) = simp append_assoc in
    q₄ ∙ ap (padded size) joined

-- ---- reading

pub registers_none : (page : List ℕ) → [] ≡ registers_in 0 page
unfolding registers_in
registers_none page = refl

pub registers_more : (page xs : List ℕ) (i v : ℕ) → i < length xs → take i xs ≡ registers_in i page → v ≡ number_at page (8 * i) 8 → take (i + 1) (set xs i v) ≡ registers_in (i + 1) page
unfolding registers_in
registers_more page xs i v h p q =
    let next : map (λ k. number_at page (8 * k) 8) (numbers_below (i + 1)) ≡ map (λ k. number_at page (8 * k) 8) (numbers_below i) ++ number_at page (8 * i) 8 ∷ [] = ap (λ n. map (λ k. number_at page (8 * k) 8) (numbers_below n)) (add-one i) ∙ map-append (λ k. number_at page (8 * k) 8) (numbers_below i) (i ∷ []) in
    take_more_set xs i v h ∙ (ap₂ (λ ys y. ys ++ y ∷ []) p q ∙ sym next)

-- ---- reading what was written

-- a field is the bytes that were put there
number_in : (size at n : ℕ) (front word rest : List ℕ) → length front ≡ at → length word ≡ n → number_at (padded size (front ++ (word ++ rest))) at n ≡ le_number word
unfolding number_at padded
number_in size at n front word rest e f =
    let zeros : List ℕ = replicate (size - length (front ++ (word ++ rest))) 0 in
    let shape : (front ++ (word ++ rest)) ++ zeros ≡ front ++ (word ++ (rest ++ zeros)) = append_assoc front (word ++ rest) zeros ∙ ap (λ x. front ++ x) (append_assoc word rest zeros) in
    ap le_number (ap (λ x. take n (drop at x)) shape ∙ (ap (take n) (drop_at front _ at e) ∙ take_at word _ n f))

-- each word is where it was put
word_in : (size n i : ℕ) (words rest : List ℕ) → i < length words → get_or words i 0 < 256 ^ n → number_at (padded size (flat_map (le_bytes n) words ++ rest)) (n * i) n ≡ get_or words i 0
word_in size n i words rest h small =
    let w : ℕ = get_or words i 0 in
    let later : List ℕ = drop (i + 1) words in
    let front : List ℕ = flat_map (le_bytes n) (take i words) in
    let split : words ≡ take i words ++ (w ∷ later) = sym (take-append-drop i words) ∙ ap (λ x. take i words ++ x) (drop_more words i 0 h) in
    let joined : flat_map (le_bytes n) words ++ rest ≡ front ++ (le_bytes n w ++ (flat_map (le_bytes n) later ++ rest)) =
    ap (λ x. flat_map (le_bytes n) x ++ rest) split ∙ (ap (λ x. x ++ rest) (flat_map-append (le_bytes n) (take i words) (w ∷ later)) ∙ (append_assoc front _ rest ∙ ap (λ x. front ++ x) (append_assoc (le_bytes n w) _ rest))) in
    let long : length front ≡ n * i = length-words n (take i words) ∙ ap (λ k. n * k) (length-take-le i words (omega arith)) in
    ap (λ x. number_at (padded size x) (n * i) n) joined ∙ (number_in size (n * i) n front (le_bytes n w) _ long (length-le_bytes n w) ∙ number_of_bytes n w small)

map_indexes : (f : ℕ → ℕ) (xs : List ℕ) (n : ℕ) → n ≤ length xs → ((i : ℕ) → i < n → f i ≡ get_or xs i 0) → map f (numbers_below n) ≡ take n xs
map_indexes f xs zero h p = refl
map_indexes f xs (suc n) h p =
    map-append f (numbers_below n) (n ∷ []) ∙ (ap₂ (λ ys y. ys ++ y ∷ []) (map_indexes f xs n (omega arith) (λ i l. p i (omega arith))) (p n (omega arith)) ∙ sym (take-suc xs n 0 h))

pub registers_back : (size n : ℕ) (words rest page : List ℕ) → length words ≡ n → ((k : ℕ) → get_or words k 0 < 2 ^ 64) → page ≡ padded size (flat_map (le_bytes 8) words ++ rest) → registers_in n page ≡ words
unfolding registers_in
registers_back size n words rest page e small p =
    rw p (map_indexes (λ i. number_at (padded size (flat_map (le_bytes 8) words ++ rest)) (8 * i) 8) words n (omega arith) (λ i h. word_in size 8 i words rest (omega arith) (small i)) ∙ take_all n words (omega arith))

-- what is read of the four fields behind the registers
pub record Reads (page w₁ w₂ w₃ : List ℕ) (byte : ℕ) : Type 0 where
  pub first : number_at page 128 8 ≡ le_number w₁
  pub second : number_at page 136 8 ≡ le_number w₂
  pub third : number_at page 144 8 ≡ le_number w₃
  pub last : get_or page 152 0 ≡ byte

last_in : (size at byte : ℕ) (front : List ℕ) → length front ≡ at → get_or (padded size (front ++ byte ∷ [])) at 0 ≡ byte
unfolding padded
last_in size at byte front e = ap (λ x. get_or x at 0) (append_assoc front (byte ∷ []) _) ∙ get_or_at front byte _ 0 at e

fields_in : (size : ℕ) (front w₁ w₂ w₃ page : List ℕ) (byte : ℕ) → length front ≡ 128 → length w₁ ≡ 8 → length w₂ ≡ 8 → length w₃ ≡ 8 → page ≡ padded size (front ++ (w₁ ++ (w₂ ++ (w₃ ++ byte ∷ [])))) → Reads page w₁ w₂ w₃ byte
fields_in size front w₁ w₂ w₃ page byte l₀ l₁ l₂ l₃ e =
    let n₁ : length (front ++ w₁) ≡ 136 = omega (arith, length-append front w₁) in
    let n₂ : length ((front ++ w₁) ++ w₂) ≡ 144 = omega (arith, length-append (front ++ w₁) w₂) in
    let n₃ : length (((front ++ w₁) ++ w₂) ++ w₃) ≡ 152 = omega (arith, length-append ((front ++ w₁) ++ w₂) w₃) in
    let e₁ : page ≡ padded size ((front ++ w₁) ++ (w₂ ++ (w₃ ++ byte ∷ []))) = e ∙ ap (padded size) (sym (append_assoc front w₁ _)) in
    let e₂ : page ≡ padded size (((front ++ w₁) ++ w₂) ++ (w₃ ++ byte ∷ [])) = e₁ ∙ ap (padded size) (sym (append_assoc (front ++ w₁) w₂ _)) in
    let e₃ : page ≡ padded size ((((front ++ w₁) ++ w₂) ++ w₃) ++ byte ∷ []) = e₂ ∙ ap (padded size) (sym (append_assoc ((front ++ w₁) ++ w₂) w₃ _)) in
    record {
      first = ap (λ x. number_at x 128 8) e ∙ number_in size 128 8 front w₁ _ l₀ l₁;
      second = ap (λ x. number_at x 136 8) e₁ ∙ number_in size 136 8 (front ++ w₁) w₂ _ n₁ l₂;
      third = ap (λ x. number_at x 144 8) e₂ ∙ number_in size 144 8 ((front ++ w₁) ++ w₂) w₃ _ n₂ l₃;
      last = ap (λ x. get_or x 152 0) e₃ ∙ last_in size 152 byte (((front ++ w₁) ++ w₂) ++ w₃) n₃;
    }

-- ---- flags

-- the flags of a byte
pub record Tells (byte : ℕ) (a b c d : Bool) : Type 0 where
  pub interrupts : (bit_at byte interrupts_bit == 1) ≡ a
  pub halted : (bit_at byte halted_bit == 1) ≡ b
  pub stopped : (bit_at byte stopped_bit == 1) ≡ c
  pub exited : (bit_at byte exited_bit == 1) ≡ d

abbrev byte_of : Bool → Bool → Bool → Bool → ℕ
byte_of a b c d = flag a interrupts_bit + flag b halted_bit + flag c stopped_bit + flag d exited_bit

flags_tell : (a b c d : Bool) → Tells (byte_of a b c d) a b c d
flags_tell true true true true = record { interrupts = refl; halted = refl; stopped = refl; exited = refl }
flags_tell true true true false = record { interrupts = refl; halted = refl; stopped = refl; exited = refl }
flags_tell true true false true = record { interrupts = refl; halted = refl; stopped = refl; exited = refl }
flags_tell true true false false = record { interrupts = refl; halted = refl; stopped = refl; exited = refl }
flags_tell true false true true = record { interrupts = refl; halted = refl; stopped = refl; exited = refl }
flags_tell true false true false = record { interrupts = refl; halted = refl; stopped = refl; exited = refl }
flags_tell true false false true = record { interrupts = refl; halted = refl; stopped = refl; exited = refl }
flags_tell true false false false = record { interrupts = refl; halted = refl; stopped = refl; exited = refl }
flags_tell false true true true = record { interrupts = refl; halted = refl; stopped = refl; exited = refl }
flags_tell false true true false = record { interrupts = refl; halted = refl; stopped = refl; exited = refl }
flags_tell false true false true = record { interrupts = refl; halted = refl; stopped = refl; exited = refl }
flags_tell false true false false = record { interrupts = refl; halted = refl; stopped = refl; exited = refl }
flags_tell false false true true = record { interrupts = refl; halted = refl; stopped = refl; exited = refl }
flags_tell false false true false = record { interrupts = refl; halted = refl; stopped = refl; exited = refl }
flags_tell false false false true = record { interrupts = refl; halted = refl; stopped = refl; exited = refl }
flags_tell false false false false = record { interrupts = refl; halted = refl; stopped = refl; exited = refl }

-- ---- the whole

pub state_back : (s : SubjectState) (page : List ℕ) → length s.regs ≡ 16 → ((k : ℕ) → get_or s.regs k 0 < 2 ^ 64) → s.pc < 2 ^ 64 → s.epc < 2 ^ 64 → s.vbase < 2 ^ 64 → page ≡ page_bytes s → state_in page ≡ s
unfolding page_bytes state_in
state_back s page long fits pc epc vbase e =
    let front : length (flat_map (le_bytes 8) s.regs) ≡ 128 = omega (arith, length-words 8 s.regs, long) in
    let fields = fields_in PAGE (flat_map (le_bytes 8) s.regs) (le_bytes 8 s.pc) (le_bytes 8 s.epc) (le_bytes 8 s.vbase) page (flags_of s) front (length-le_bytes 8 s.pc) (length-le_bytes 8 s.epc) (length-le_bytes 8 s.vbase) e in
    let flags = flags_tell s.interrupts s.halted s.stopped s.exited in
    let test : ℕ → (byte : ℕ) → Bool = λ bit byte. bit_at byte bit == 1 in
    λ i. record {
      regs = registers_back PAGE 16 s.regs _ page long fits e i;
      pc = (fields.first ∙ number_of_bytes 8 s.pc pc) i;
      epc = (fields.second ∙ number_of_bytes 8 s.epc epc) i;
      vbase = (fields.third ∙ number_of_bytes 8 s.vbase vbase) i;
      interrupts = (ap (test interrupts_bit) fields.last ∙ flags.interrupts) i;
      halted = (ap (test halted_bit) fields.last ∙ flags.halted) i;
      stopped = (ap (test stopped_bit) fields.last ∙ flags.stopped) i;
      exited = (ap (test exited_bit) fields.last ∙ flags.exited) i;
    }
