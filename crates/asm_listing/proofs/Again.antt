-- What is printed of the bytes of a source says the instructions that the source says.
use Rattle.std.proofs.Common.{◌≡◌, ℕ, ◌-◌, ◌^◌, ◌<◌, ◌≤◌, Bool, true, false, ℤ, pos, negsuc, refl, w32, arith, ◌+◌, ◌*◌, ◌%◌, List, [], ◌∷◌, length, ap, sym, ◌∙◌, subst, ◌++◌, map, None, append_assoc, length-append}
use Rattle.std.specs.Prelude.{if◌then◌else◌}
use Rattle.std.specs.Int.{cast_signed}
use Rattle.std.specs.Int.RustNames.{FitsSigned}
use Rattle.std.proofs.lemmas.Bool.{and_parts, leb-true, ltb-true, eq-eqb}
use Rattle.guest_isa.specs.GuestIsa.{named_by, shape_of, decode_of, encoding_of}
use Rattle.guest_isa.specs.declared.instr.Instr.{Instr}
use Rattle.guest_isa.specs.declared.opcode.Shape.{Shape}
use Rattle.guest_isa.specs.declared.opcode.Shape.TheVariants.{High, Jump, JumpIf, JumpBelow}
use Rattle.muen_num.proofs.Lists.{all_front}
use Rattle.asm_text.specs.Appended.{IsFit, behind, IsFitAt}
use Rattle.asm_text.specs.Layout.{SymbolTable, at_start, in_source_line, layout_from}
use Rattle.asm_text.specs.Meaning.{fits_in_bits, fits_signed, if_fits, immediate_by, immediate_of, instruction_of, residue, sum_of, distance_by, jump_by, SourceItem, instruction, data_of, zeros, bytes_of_item, assembled_item_of, items_of, little_endian, numbers_of, source_items, bytes_of_items}
use Rattle.asm_text.specs.declared.fault.Want.{Want}
use Rattle.asm_text.specs.declared.fault.Want.TheVariants.{Near, Range}
use Rattle.asm_text.specs.declared.meaning.Sum.{Sum}
use Rattle.asm_text.specs.declared.statement.Operation.{Operation}
use Rattle.asm_listing.proofs.Chunks.{IsSound, chunks_by, first_chunk, no_chunk}
use Rattle.asm_text.proofs.Accepted.{Holds, after, holds_then, holds_at}
use Rattle.std.specs.List.{All, flat_map, Contains}
use Rattle.std.proofs.lemmas.List.Elements.{All-append, All-cons, All-nil, All-replicate, Contains-append_left, Contains-append_right}
use Rattle.muen_num.specs.AccessSize.{bytes_of}
use Rattle.muen_num.specs.declared.access.AccessSize.{AccessSize}
use Rattle.muen_num.specs.declared.access.AccessSize.TheVariants.{One, Two, Four, Eight}
use Rattle.muen_num.specs.declared.limits.TheConstants.{COMPONENT_FILE_MOST}
use Rattle.guest_isa.proofs.Spelled.{bytes_low, encoding_low, encoding_decodes, signed_fits}
use Rattle.text_words.specs.Parts.{lines_of}
use Rattle.asm_text.specs.declared.statement.Placed.{Placed}
use Rattle.asm_text.specs.declared.statement.Statement.{Statement}
use Rattle.asm_text.specs.declared.statement.Statement.TheVariants.{Nothing, Definition, Offset, Data, Instruction}
use Rattle.asm_text.proofs.Seats.{AreLaid, IsLaid, IsLong, encoding_long, filled, in_line_holds, numbers_long, numbers_many, text_laid}
use Rattle.guest_isa.specs.Words.{IsByte}
use Rattle.std.proofs.lemmas.List.{map-append}
use native.Mathlib.Nat.{zero-add}
use Rattle.asm_listing.specs.Laws.{AreBytes, SourcesSayAgain, instruction_at, instructions_from, instructions_of}
use Rattle.asm_listing.specs.Source.{chunks_of}
use Rattle.asm_listing.proofs.Sources.{bytes_back, chunk_item, item_by, source_says}

-- ---- immediates

fits_by : (z : ℤ) → fits_signed 32 z ≡ true → FitsSigned w32 z
fits_by (pos n) e = record { sfits = ltb-true n (2 ^ 31) e }
fits_by (negsuc n) e = let low : n ≤ 2 ^ 31 - 1 = leb-true n (2 ^ 31 - 1) (and_parts _ true e).0 in record { sfits = omega arith }

if_fits_holds : {X : Type 0} (P : X → Type 0) (t : Bool) (left : ℕ) (want : Want) (x : X) → (t ≡ true → P x) → Holds P (if_fits t left want x)
if_fits_holds P true left want x h = h refl
if_fits_holds P false left want x h = tt

signed_is : (left : ℕ) (want : Want) (z : ℤ) → Holds (FitsSigned w32) (if_fits (fits_signed 32 z) left want z)
signed_is left want z = if_fits_holds (FitsSigned w32) (fits_signed 32 z) left want z (fits_by z)

near : (here left : ℕ) (s : Sum) → Holds (FitsSigned w32) (jump_by here left s)
near here left s = after (FitsSigned w32) (distance_by s.labels here left s.number) _ λ d. signed_is left Near d

by_shape : (shape : Shape) (here left : ℕ) (s : Sum) → Holds (FitsSigned w32) (immediate_by shape here left s)
by_shape High here left s =
    let z = s.number in
    if_fits_holds (FitsSigned w32) (fits_in_bits 32 z) left Range (cast_signed w32 (residue 32 z)) (λ _. signed_fits (residue 32 z))
by_shape Jump here left s = near here left s
by_shape JumpIf here left s = near here left s
by_shape JumpBelow here left s = near here left s
by_shape _ here left s = signed_is left Range s.number

pub immediate_fits : (names : SymbolTable) (here : ℕ) (o : Operation) → Holds (FitsSigned w32) (immediate_of names here o)
unfolding immediate_of
immediate_fits names here o = after (FitsSigned w32) (sum_of names o.operands.value.terms) _ λ s. by_shape (shape_of o.opcode) here o.operands.value.left s

-- ---- the instruction

-- 0 fits it
none_fits : FitsSigned w32 (pos 0)
none_fits = record { sfits = omega arith }

kept_fits : (t : Bool) (z : ℤ) → FitsSigned w32 z → FitsSigned w32 (if t then z else pos 0)
kept_fits true z fits = fits
kept_fits false z fits = none_fits

pub operation_sound : (o : Operation) (z : ℤ) → IsFit o → FitsSigned w32 z → IsSound (instruction_of o z)
operation_sound o z fit fits = record { valid = fit z; fits = kept_fits (named_by o.opcode).imm z fits }

-- ---- items

-- an item that begins here
abbrev pub IsSeat : ℕ → SourceItem → Type 0
IsSeat here (instruction i) = (here % 8 ≡ 0) × IsSound i
IsSeat here (data_of size ns) = Unit {0}
IsSeat here (zeros n) = Unit {0}

-- items one behind another, the first of which begins here
abbrev pub AreStanding : ℕ → List SourceItem → Type 0
AreStanding here [] = here ≤ COMPONENT_FILE_MOST
AreStanding here (item ∷ items) = IsSeat here item × All IsByte (bytes_of_item item) × AreStanding (here + length (bytes_of_item item)) items

-- ---- bytes

number_low : (size : AccessSize) (n : ℕ) → All IsByte (little_endian size n)
number_low One n = bytes_low 0 1 n
number_low Two n = bytes_low 0 2 n
number_low Four n = bytes_low 0 4 n
number_low Eight n = bytes_low 0 8 n

numbers_low : (size : AccessSize) (ns : List ℕ) → All IsByte (flat_map (little_endian size) ns)
numbers_low size [] = All-nil IsByte
numbers_low size (n ∷ ns) = All-append IsByte (little_endian size n) (flat_map (little_endian size) ns) (number_low size n) (numbers_low size ns)

-- ---- what statements come to

-- an item that begins here and ends there
abbrev IsPlaced : ℕ → ℕ → SourceItem → Type 0
IsPlaced here to item = IsSeat here item × All IsByte (bytes_of_item item) × (here + length (bytes_of_item item) ≡ to)

item_placed : (names : SymbolTable) (here : ℕ) (statement : Statement) → IsFitAt here statement → Holds (IsPlaced here (behind here statement)) (assembled_item_of names here statement)
item_placed names here Nothing h = (tt, All-nil IsByte, omega arith)
item_placed names here (Definition left name number) h = (tt, All-nil IsByte, omega arith)
item_placed names here (Offset left offset) h =
    let none : 0 < 256 = omega arith in
    let same : here + (offset - here) ≡ offset = omega (arith, h.0) in
    (tt, All-replicate IsByte (offset - here) 0 none, filled here (offset - here) ∙ same)
item_placed names here (Data left size values) h =
    holds_then (IsLong values) (IsPlaced here (behind here (Data left size values))) (numbers_of names size values) _ (numbers_many names size values) λ ns many.
    (tt, numbers_low size ns, ap (λ n. here + n) (numbers_long size ns ∙ ap (λ n. n * bytes_of size) many))
item_placed names here (Instruction o) h =
    holds_then (FitsSigned w32) (IsPlaced here (here + 8)) (immediate_of names here o) _ (immediate_fits names here o) λ z fits.
    let sound = operation_sound o z h.1 fits in
    ((h.0, sound), encoding_low (instruction_of o z) sound.valid, ap (λ n. here + n) (encoding_long (instruction_of o z)))

pub items_standing : (names : SymbolTable) (lines : List Placed) (here : ℕ) → AreLaid here lines → Holds (AreStanding here) (items_of names lines)
unfolding items_of
items_standing names [] here h = h.1
items_standing names (line ∷ lines) here h =
    let to = behind here line.statement in
    let item = assembled_item_of names line.here line.statement in
    let placed : Holds (IsPlaced here to) item = subst (λ n. Holds (IsPlaced here to) (assembled_item_of names n line.statement)) (sym h.0.0) (item_placed names here line.statement h.0.1) in
    holds_then (IsPlaced here to) (AreStanding here) (in_source_line line.number line.end item) _ (in_line_holds (IsPlaced here to) line.number line.end item placed) λ x p.
    holds_then (AreStanding to) (AreStanding here) (items_of names lines) _ (items_standing names lines to (h.0.2, h.1)) λ xs rest.
    (p.0, p.1, subst (λ n. AreStanding n xs) (sym p.2) rest)

-- ---- a source

pub said_standing : (text : List ℕ) → Holds (AreStanding 0) (source_items text)
unfolding source_items
said_standing text =
    holds_then (IsLaid 0) (AreStanding 0) (layout_from at_start 1 (lines_of text)) _ (text_laid text) λ layout laid.
    items_standing layout.names layout.lines 0 laid

-- ---- the bytes of a source

standing_bytes : (here : ℕ) (items : List SourceItem) → AreStanding here items → (here + length (bytes_of_items items) ≤ COMPONENT_FILE_MOST) × All IsByte (bytes_of_items items)
standing_bytes here [] h = (omega (arith, h), All-nil IsByte)
standing_bytes here (item ∷ items) h =
    let rest = standing_bytes (here + length (bytes_of_item item)) items h.2 in
    let long = length-append (bytes_of_item item) (bytes_of_items items) in
    (omega (arith, long, rest.0), All-append IsByte (bytes_of_item item) (bytes_of_items items) h.1 rest.1)

-- ---- what holds of each instruction, with what is before and behind it

abbrev HoldsEach : (ℕ × Instr → Type 0) → ℕ → List SourceItem → Type 0
HoldsEach P here items =
    (before : List ℕ) (i : Instr) (behind : List ℕ) → bytes_of_items items ≡ before ++ (encoding_of i ++ behind) → (here + length before) % 8 ≡ 0 → IsSound i
    → P (here + length before, i)

abbrev HoldsFirst : (ℕ × Instr → Type 0) → ℕ → SourceItem → List ℕ → Type 0
HoldsFirst P here item rest =
    (i : Instr) (behind : List ℕ) → bytes_of_item item ++ rest ≡ encoding_of i ++ behind → here % 8 ≡ 0 → IsSound i → P (here, i)

each_instruction : (P : ℕ × Instr → Type 0) (here : ℕ) (items : List SourceItem) → AreStanding here items → HoldsEach P here items → All P (instructions_from here items)
unfolding instructions_from
each_instruction P here [] h each = All-nil P
each_instruction P here (item ∷ items) h each =
    All-append P (instruction_at here item) (instructions_from (here + length (bytes_of_item item)) items)
    (first item h.0 λ i behind e aligned sound. at_start i behind e aligned sound)
    (each_instruction P (here + length (bytes_of_item item)) items h.2 later)
  where
    at_start : HoldsFirst P here item (bytes_of_items items)
    at_start i behind e aligned sound =
        let same : here + 0 ≡ here = omega arith in
        subst (λ n. P (n, i)) same (each [] i behind e (ap (λ n. n % 8) same ∙ aligned) sound)

    first : (x : SourceItem) → IsSeat here x → HoldsFirst P here x (bytes_of_items items) → All P (instruction_at here x)
    first (instruction i) s f = All-cons P (here, i) [] (f i (bytes_of_items items) refl s.0 s.1) (All-nil P)
    first (data_of size ns) s f = All-nil P
    first (zeros n) s f = All-nil P

    later : HoldsEach P (here + length (bytes_of_item item)) items
    later before i behind e aligned sound =
        let front = bytes_of_item item in
        let long : here + length (front ++ before) ≡ here + length front + length before = omega (arith, length-append front before) in
        let whole : bytes_of_items (item ∷ items) ≡ (front ++ before) ++ (encoding_of i ++ behind) =
        ap (λ (bs : List ℕ). front ++ bs) e ∙ sym (append_assoc front before (encoding_of i ++ behind)) in
        subst (λ n. P (n, i)) long (each (front ++ before) i behind whole (ap (λ n. n % 8) long ∙ aligned) sound)

-- ---- the pieces of bytes whose front is cut at a multiple of eight

abbrev Parts : List ℕ → List ℕ → Type 0
Parts rest before = length before % 8 ≡ 0 → chunks_of (before ++ rest) ≡ chunks_of before ++ chunks_of rest

cut : (rest before : List ℕ) → Parts rest before
cut rest = chunks_by (Parts rest) none fewer full
  where
    none : Parts rest []
    none h = ap (λ (cs : List (List ℕ)). cs ++ chunks_of rest) (sym no_chunk)

    fewer : (chunk : List ℕ) → 0 < length chunk → length chunk < 8 → Parts rest chunk
    fewer chunk some few h = absurd (omega arith)

    full : (chunk more : List ℕ) → length chunk ≡ 8 → Parts rest more → Parts rest (chunk ++ more)
    full chunk more l h aligned =
        let long = length-append chunk more in
        let next : length more % 8 ≡ 0 = omega arith in
        ap chunks_of (append_assoc chunk more rest)
        ∙ first_chunk chunk (more ++ rest) l
        ∙ ap (λ (cs : List (List ℕ)). chunk ∷ cs) (h next)
        ∙ ap (λ (cs : List (List ℕ)). cs ++ chunks_of rest) (sym (first_chunk chunk more l))

-- ---- instructions among items

from_append : (here : ℕ) (xs ys : List SourceItem) → instructions_from here (xs ++ ys) ≡ instructions_from here xs ++ instructions_from (here + length (bytes_of_items xs)) ys
unfolding instructions_from
from_append here [] ys = ap (λ n. instructions_from n ys) (nothing here)
  where
    nothing : (n : ℕ) → n ≡ n + 0
    nothing n = omega arith
from_append here (x ∷ xs) ys =
    let front = bytes_of_item x in
    let long : here + length front + length (bytes_of_items xs) ≡ here + length (front ++ bytes_of_items xs) = omega (arith, length-append front (bytes_of_items xs)) in
    ap (λ (is : List (ℕ × Instr)). instruction_at here x ++ is) (from_append (here + length front) xs ys ∙ ap (λ n. instructions_from (here + length front) xs ++ instructions_from n ys) long)
    ∙ sym (append_assoc (instruction_at here x) (instructions_from (here + length front) xs) (instructions_from (here + length (front ++ bytes_of_items xs)) ys))

first_of : (here : ℕ) (i : Instr) (items : List SourceItem) → Contains (instructions_from here (instruction i ∷ items)) (here, i)
unfolding instructions_from
first_of here i items = Contains-append_left ((here, i) ∷ []) (instructions_from (here + length (encoding_of i)) items) (here, i) (0, omega arith, refl)

encoding_item : (i : Instr) → IsSound i → chunk_item (encoding_of i) ≡ instruction i
encoding_item i sound =
    let l = encoding_long i in
    ap (item_by (encoding_of i))
    (ap (λ t. if t then decode_of (encoding_of i) else None) (eq-eqb (length (encoding_of i)) 8 l) ∙ encoding_decodes i sound.valid sound.fits)

module _ (bytes : List ℕ) (low : All IsByte bytes) where
  abbrev IsPrinted : ℕ × Instr → Type 0
  IsPrinted x = Contains (instructions_of (map chunk_item (chunks_of bytes))) x

  is_printed : (before : List ℕ) (i : Instr) (behind : List ℕ) → bytes ≡ before ++ (encoding_of i ++ behind) → length before % 8 ≡ 0 → IsSound i → IsPrinted (length before, i)
  is_printed before i behind e aligned sound =
      let code = encoding_of i in
      let fronts = map chunk_item (chunks_of before) in
      let backs = map chunk_item (chunks_of behind) in
      let chunks : chunks_of bytes ≡ chunks_of before ++ (code ∷ chunks_of behind) =
      ap chunks_of e ∙ cut (code ++ behind) before aligned ∙ ap (λ (cs : List (List ℕ)). chunks_of before ++ cs) (first_chunk code behind (encoding_long i)) in
      let items : map chunk_item (chunks_of bytes) ≡ fronts ++ (instruction i ∷ backs) =
      ap (map chunk_item) chunks ∙ map-append chunk_item (chunks_of before) (code ∷ chunks_of behind) ∙ ap (λ (x : SourceItem). fronts ++ (x ∷ backs)) (encoding_item i sound) in
      let long : 0 + length (bytes_of_items fronts) ≡ length before =
      ap (λ (bs : List ℕ). 0 + length bs) (bytes_back before (all_front IsByte before (code ++ behind) (subst (All IsByte) e low))) ∙ zero-add (length before) in
      let there : Contains (instructions_from 0 (fronts ++ (instruction i ∷ backs))) (length before, i) =
      subst (λ (is : List (ℕ × Instr)). Contains is (length before, i)) (sym (from_append 0 fronts (instruction i ∷ backs) ∙ ap (λ n. instructions_from 0 fronts ++ instructions_from n (instruction i ∷ backs)) long))
      (Contains-append_right (instructions_from 0 fronts) (instructions_from (length before) (instruction i ∷ backs)) (length before, i) (first_of (length before) i backs)) in
      subst (λ items. Contains (instructions_from 0 items) (length before, i)) (sym items) there

-- ---- the law

pub sources_say_again : SourcesSayAgain
sources_say_again text items e =
    let standing = holds_at (AreStanding 0) (source_items text) items (said_standing text) e in
    let bytes = bytes_of_items items in
    let parts = standing_bytes 0 items standing in
    let are : AreBytes bytes = record { many = omega (arith, parts.0); each = parts.1 } in
    record {
      printed = map chunk_item (chunks_of bytes);
      says = source_says bytes are;
      again = each_instruction (IsPrinted bytes parts.1) 0 items standing λ before i behind whole aligned sound.
          let same : 0 + length before ≡ length before = zero-add (length before) in
          subst (λ n. IsPrinted bytes parts.1 (n, i)) (sym same) (is_printed bytes parts.1 before i behind whole (ap (λ n. n % 8) (sym same) ∙ aligned) sound);
    }
