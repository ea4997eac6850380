-- Where the lines of a source that is read begin, and how many bytes each comes to.
use Rattle.std.proofs.Common.{◌≡◌, ℕ, suc, ◌+◌, ◌-◌, ◌*◌, ◌%◌, ◌<◌, ◌≤◌, Bool, true, false, List, [], ◌∷◌, ◌++◌, length, replicate, drop, get_or, Option, Some, None, Result, Ok, Err, refl, ap, ap₂, sym, ◌∙◌, subst, inl, inr, length-append, append_assoc, append-nil, suc-mul, arith}
use Rattle.std.specs.Prelude.{◌⊎◌, ◌==◌, if◌then◌else◌, nat_lt, is_some}
use Rattle.std.specs.List.{flat_map}
use Rattle.std.proofs.lemmas.Bool.{eqb-true, ltb-false}
use Rattle.std.proofs.lemmas.List.{drop_all, drop_more}
use lib.ListN.{length-replicate}
use native.Mathlib.Nat.{add_comm}
use Rattle.muen_num.specs.AccessSize.{bytes_of}
use Rattle.muen_num.specs.declared.access.AccessSize.{AccessSize}
use Rattle.muen_num.specs.declared.access.AccessSize.TheVariants.{One, Two, Four, Eight}
use Rattle.muen_num.specs.declared.limits.TheConstants.{COMPONENT_FILE_MOST}
use Rattle.guest_isa.specs.GuestIsa.{encoding_of}
use Rattle.guest_isa.specs.declared.instr.Instr.{Instr}
use Rattle.guest_isa.proofs.Spelled.{valid_with}
use Rattle.text_words.specs.Parts.{lines_of}
use Rattle.text_words.specs.Steps.{◌>>=◌, mapped}
use Rattle.asm_text.specs.Appended.{appended, behind, of_numbers, FollowFrom, IsFit as IsFitOperation, IsFitAt}
use Rattle.asm_text.specs.Layout.{Layout, SymbolTable, LayoutState, after_line, at_start, fault_in, in_source_line, labelled, layout_from, source_line_at, meaning_of, continued_at, named, stated, with_name}
use Rattle.asm_text.specs.Meaning.{SourceItem, assembled, bytes_of_item, bytes_of_items, immediate_of, instruction_of, assembled_item_of, items_of, little_endian, number_of, numbers_of, source_items}
use Rattle.asm_text.specs.Reading.{source_line_of, wanted}
use Rattle.asm_text.specs.Tokens.{tokens_of}
use Rattle.asm_text.specs.declared.fault.LineError.{LineError}
use Rattle.asm_text.specs.declared.fault.LineError.TheVariants.{Wanted, NoMemory as LineMemory}
use Rattle.asm_text.specs.declared.fault.SourceFault.{SourceFault}
use Rattle.asm_text.specs.declared.fault.SourceFault.TheVariants.{NoMemory as SourceMemory}
use Rattle.asm_text.specs.declared.fault.Want.TheVariants.{Ahead, Aligned, NewName, Room}
use Rattle.asm_text.specs.declared.statement.Label.{Label}
use Rattle.asm_text.specs.declared.statement.Meaning.{Meaning}
use Rattle.asm_text.specs.declared.statement.Operation.{Operation}
use Rattle.asm_text.specs.declared.statement.Placed.{Placed}
use Rattle.asm_text.specs.declared.statement.SourceLine.{SourceLine}
use Rattle.asm_text.specs.declared.statement.Statement.{Statement}
use Rattle.asm_text.specs.declared.statement.Statement.TheVariants.{Nothing, Definition, Offset, Data, Instruction}
use Rattle.asm_text.specs.declared.statement.Value.{Value}
use Rattle.asm_text.proofs.Accepted.{AreFit, Holds, IsFit, IsFitLine, after, holds_at, holds_then, line_fit}

-- ---- lines

pub in_line_holds : {X : Type 0} (P : X → Type 0) (n end : ℕ) (r : Result X LineError) → Holds P r → Holds P (in_source_line n end r)
in_line_holds P n end (Ok x) h = h
in_line_holds P n end (Err (Wanted left want)) h = tt
in_line_holds P n end (Err LineMemory) h = tt

-- after a line: where the next begins
abbrev IsNext : ℕ → LayoutState → Type 0
IsNext to s = (s.here ≡ to) × (s.here ≤ COMPONENT_FILE_MOST)

moved_to : (left to : ℕ) (s : LayoutState) → Holds (IsNext to) (continued_at left to s)
moved_to left to s = by (nat_lt COMPONENT_FILE_MOST to) refl
  where
    by : (t : Bool) → nat_lt COMPONENT_FILE_MOST to ≡ t → Holds (IsNext to) (if t then wanted left Room else Ok (record { here = to; names = s.names }))
    by true e = tt
    by false e = (refl, ltb-false COMPONENT_FILE_MOST to e)

with_name_stays : (left : ℕ) (name : List ℕ) (meaning : Meaning) (s : LayoutState) → s.here ≤ COMPONENT_FILE_MOST → Holds (IsNext s.here) (with_name left name meaning s)
with_name_stays left name meaning s room = by (is_some (meaning_of s.names name))
  where
    by : (t : Bool) → Holds (IsNext s.here) (if t then wanted left NewName else Ok (record { here = s.here; names = named s.names name meaning }))
    by true = tt
    by false = (refl, room)

labelled_stays : (l : Option Label) (s : LayoutState) → s.here ≤ COMPONENT_FILE_MOST → Holds (IsNext s.here) (labelled l s)
labelled_stays None s room = (refl, room)
labelled_stays (Some l) s room = with_name_stays l.left l.name _ s room

fit_operation : (o : Operation) → AreFit o.operands → IsFitOperation o
fit_operation o h z = valid_with o.opcode o.operands.rd o.operands.rs o.operands.size z h.rd h.rs

abbrev IsAfter : ℕ → Statement → LayoutState → Type 0
IsAfter here statement s = IsFitAt here statement × IsNext (behind here statement) s

weaker : {A E : Type 0} (P Q : A → Type 0) (r : Result A E) → ((x : A) → P x → Q x) → Holds P r → Holds Q r
weaker P Q (Ok x) f h = f x h
weaker P Q (Err e) f h = tt

stated_passes : (statement : Statement) (s : LayoutState) → IsFit statement → s.here ≤ COMPONENT_FILE_MOST → Holds (IsAfter s.here statement) (stated statement s)
stated_passes Nothing s fit room = (tt, (refl, room))
stated_passes (Definition left name number) s fit room =
    weaker (IsNext s.here) (IsAfter s.here (Definition left name number)) (with_name left name _ s) (λ x h. (tt, h)) (with_name_stays left name _ s room)
stated_passes (Offset left offset) s fit room = by (nat_lt offset s.here) refl
  where
    by : (t : Bool) → nat_lt offset s.here ≡ t → Holds (IsAfter s.here (Offset left offset)) (if t then wanted left Ahead else continued_at left offset s)
    by true e = tt
    by false e =
        weaker (IsNext offset) (IsAfter s.here (Offset left offset)) (continued_at left offset s)
        (λ x h. ((ltb-false offset s.here e, subst (λ to. to ≤ COMPONENT_FILE_MOST) h.0 h.1), h)) (moved_to left offset s)
stated_passes (Data left size values) s fit room =
    let to = s.here + length values * bytes_of size in
    weaker (IsNext to) (IsAfter s.here (Data left size values)) (continued_at left to s) (λ x h. (tt, h)) (moved_to left to s)
stated_passes (Instruction o) s fit room = by (s.here % 8 == 0) refl
  where
    by : (t : Bool) → (s.here % 8 == 0) ≡ t → Holds (IsAfter s.here (Instruction o)) (if t then continued_at o.left (s.here + 8) s else wanted o.left Aligned)
    by true e =
        weaker (IsNext (s.here + 8)) (IsAfter s.here (Instruction o)) (continued_at o.left (s.here + 8) s)
        (λ x h. ((eqb-true (s.here % 8) 0 e, fit_operation o fit), h)) (moved_to o.left (s.here + 8) s)
    by false e = tt

line_passes : (line : SourceLine) (s : LayoutState) → IsFitLine line → s.here ≤ COMPONENT_FILE_MOST → Holds (IsAfter s.here line.statement) (after_line line s)
line_passes line s fit room =
    holds_then (IsNext s.here) (IsAfter s.here line.statement) (labelled line.label s) (λ s. stated line.statement s) (labelled_stays line.label s room) λ next h.
    subst (λ here. Holds (IsAfter here line.statement) (stated line.statement next)) h.0 (stated_passes line.statement next fit h.1)

-- where what follows these lines begins
abbrev pub end_of : ℕ → List Placed → ℕ
end_of here [] = here
end_of here (line ∷ lines) = end_of (behind here line.statement) lines

abbrev pub AreLaid : ℕ → List Placed → Type 0
AreLaid here lines = FollowFrom here lines × (end_of here lines ≤ COMPONENT_FILE_MOST)

abbrev pub IsLaid : ℕ → Layout → Type 0
IsLaid here layout = AreLaid here layout.lines

-- a line that begins here, and what it leaves
abbrev IsLineAt : ℕ → Placed × LayoutState → Type 0
IsLineAt here p = (p.0.here ≡ here) × IsAfter here p.0.statement p.1

line_laid : (s : LayoutState) (n : ℕ) (text : List ℕ) → s.here ≤ COMPONENT_FILE_MOST → Holds (IsLineAt s.here) (source_line_at s n text)
unfolding source_line_at
line_laid s n text room =
    let end = length text + 1 in
    holds_then IsFitLine (IsLineAt s.here) (in_source_line n end (source_line_of (tokens_of text))) _ (in_line_holds IsFitLine n end (source_line_of (tokens_of text)) (line_fit (tokens_of text))) λ line fit.
    holds_then (IsAfter s.here line.statement) (IsLineAt s.here) (in_source_line n end (after_line line s)) _ (in_line_holds (IsAfter s.here line.statement) n end (after_line line s) (line_passes line s fit room)) λ next h.
    (refl, h)

layout_laid : (texts : List (List ℕ)) (s : LayoutState) (n : ℕ) → s.here ≤ COMPONENT_FILE_MOST → Holds (IsLaid s.here) (layout_from s n texts)
unfolding layout_from
layout_laid [] s n room = (tt, room)
layout_laid (text ∷ texts) s n room =
    holds_then (IsLineAt s.here) (IsLaid s.here) (source_line_at s n text) _ (line_laid s n text room) λ p h.
    holds_then (IsLaid p.1.here) (IsLaid s.here) (layout_from p.1 (n + 1) texts) _ (layout_laid texts p.1 (n + 1) h.1.1.1) λ more rest.
    let next = subst (λ here. AreLaid here more.lines) h.1.1.0 rest in
    ((h.0, h.1.0, next.0), next.1)

-- the lines of a text that is read follow one another, within the room that there is
pub text_laid : (text : List ℕ) → Holds (IsLaid 0) (layout_from at_start 1 (lines_of text))
text_laid text = let room : 0 ≤ COMPONENT_FILE_MOST = omega arith in layout_laid (lines_of text) at_start 1 room

pub lines_follow : (text : List ℕ) (layout : Layout) → layout_from at_start 1 (lines_of text) ≡ Ok layout → FollowFrom 0 layout.lines
lines_follow text layout h = (holds_at (IsLaid 0) (layout_from at_start 1 (lines_of text)) layout (text_laid text) h).0

-- ---- how many bytes

pub number_long : (size : AccessSize) (n : ℕ) → length (little_endian size n) ≡ bytes_of size
number_long One n = refl
number_long Two n = refl
number_long Four n = refl
number_long Eight n = refl

pub numbers_long : (size : AccessSize) (ns : List ℕ) → length (flat_map (little_endian size) ns) ≡ length ns * bytes_of size
numbers_long size [] = omega arith
numbers_long size (n ∷ ns) =
    length-append (little_endian size n) (flat_map (little_endian size) ns)
    ∙ ap₂ (λ a b. a + b) (number_long size n) (numbers_long size ns)
    ∙ one_more (length ns) (bytes_of size)
  where
    one_more : (a b : ℕ) → b + a * b ≡ suc a * b
    one_more a b = sym (suc-mul a b ∙ add_comm (a * b) b)

pub encoding_long : (i : Instr) → length (encoding_of i) ≡ 8
unfolding encoding_of
encoding_long i = refl

abbrev pub IsLong : List Value → List ℕ → Type 0
IsLong values ns = length ns ≡ length values

pub numbers_many : (names : SymbolTable) (size : AccessSize) (values : List Value) → Holds (IsLong values) (numbers_of names size values)
unfolding numbers_of
numbers_many names size [] = refl
numbers_many names size (v ∷ vs) =
    after (IsLong (v ∷ vs)) (number_of names size v) _ λ n.
    holds_then (IsLong vs) (IsLong (v ∷ vs)) (numbers_of names size vs) _ (numbers_many names size vs) λ ns h.
    ap suc h

pub filled : (here n : ℕ) → here + length {A = ℕ} (replicate n 0) ≡ here + n
filled here n = ap (λ k. here + k) (length-replicate n 0)

-- an item that begins here ends there
abbrev Reaches : ℕ → ℕ → SourceItem → Type 0
Reaches here to item = here + length (bytes_of_item item) ≡ to

item_reaches : (names : SymbolTable) (here : ℕ) (statement : Statement) → IsFitAt here statement → Holds (Reaches here (behind here statement)) (assembled_item_of names here statement)
item_reaches names here Nothing h = omega arith
item_reaches names here (Definition left name number) h = omega arith
item_reaches names here (Offset left offset) h =
    let same : here + (offset - here) ≡ offset = omega (arith, h.0) in
    filled here (offset - here) ∙ same
item_reaches names here (Data left size values) h =
    holds_then (IsLong values) (Reaches here (behind here (Data left size values))) (numbers_of names size values) _ (numbers_many names size values) λ ns many.
    ap (λ n. here + n) (numbers_long size ns ∙ ap (λ n. n * bytes_of size) many)
item_reaches names here (Instruction o) h =
    after (Reaches here (here + 8)) (immediate_of names here o) _ λ z.
    ap (λ n. here + n) (encoding_long (instruction_of o z))

-- ---- as the bytes are made, line by line

first_of : (here : ℕ) (lines : List Placed) (line : Placed) (i : ℕ) → i < length lines → line ≡ get_or lines i line → FollowFrom here (drop i lines) → FollowFrom here (line ∷ drop (i + 1) lines)
first_of here lines line i less is h = rw is (rw (drop_more lines i line less) at h)

pub is_here : (here : ℕ) (lines : List Placed) (line : Placed) (i : ℕ) → i < length lines → line ≡ get_or lines i line → FollowFrom here (drop i lines) → line.here ≡ here
is_here here lines line i less is h = (first_of here lines line i less is h).0

pub is_fit : (here : ℕ) (lines : List Placed) (line : Placed) (i : ℕ) → i < length lines → line ≡ get_or lines i line → FollowFrom here (drop i lines) → IsFitAt line.here line.statement
is_fit here lines line i less is h =
    let f = first_of here lines line i less is h in
    subst (λ n. IsFitAt n line.statement) (sym f.0) f.1

new_length : (here : ℕ) (statement : Statement) (bytes new : List ℕ) (r : Result SourceItem LineError) → length bytes ≡ here → Holds (Reaches here (behind here statement)) r → appended bytes r ≡ Ok new → length new ≡ behind here statement
new_length here statement bytes new (Ok item) l h e =
    let same : bytes ++ bytes_of_item item ≡ new = cc in
    ap length (sym same) ∙ length-append bytes (bytes_of_item item) ∙ ap (λ n. n + length (bytes_of_item item)) l ∙ h
new_length here statement bytes new (Err e) l h k = cc

pub next_follows : (names : SymbolTable) (lines : List Placed) (line : Placed) (i : ℕ) (bytes new : List ℕ) → i < length lines → line ≡ get_or lines i line → FollowFrom (length bytes) (drop i lines)
    → appended bytes (assembled_item_of names line.here line.statement) ≡ Ok new → FollowFrom (length new) (drop (i + 1) lines)
next_follows names lines line i bytes new less is h e =
    let f = first_of (length bytes) lines line i less is h in
    let there = subst (λ n. appended bytes (assembled_item_of names n line.statement) ≡ Ok new) f.0 e in
    subst (λ n. FollowFrom n (drop (i + 1) lines)) (sym (new_length (length bytes) line.statement bytes new (assembled_item_of names (length bytes) line.statement) refl (item_reaches names (length bytes) line.statement f.1) there)) f.2

-- bytes, and behind them those of items
abbrev pub finished : List ℕ → Result (List SourceItem) SourceFault → Result (List ℕ) SourceFault
finished bytes r = mapped (λ items. bytes ++ bytes_of_items items) r

by_item : (r : Result SourceItem LineError) (rest : Result (List SourceItem) SourceFault) (n end : ℕ) (bytes new : List ℕ) → appended bytes r ≡ Ok new
    → finished bytes (◌>>=◌ {B = List SourceItem} (in_source_line n end r) (λ item. rest >>= λ items. Ok (item ∷ items))) ≡ finished new rest
by_item (Ok item) (Ok items) n end bytes new h =
    let same : bytes ++ bytes_of_item item ≡ new = cc in
    ap Ok (sym (append_assoc bytes (bytes_of_item item) (bytes_of_items items)) ∙ ap (λ b. b ++ bytes_of_items items) same)
by_item (Ok item) (Err fault) n end bytes new h = refl
by_item (Err e) rest n end bytes new h = cc

pub line_put : (names : SymbolTable) (lines : List Placed) (line : Placed) (i : ℕ) (bytes new : List ℕ) → i < length lines → line ≡ get_or lines i line → appended bytes (assembled_item_of names line.here line.statement) ≡ Ok new
    → finished bytes (items_of names (drop i lines)) ≡ finished new (items_of names (drop (i + 1) lines))
unfolding items_of
line_put names lines line i bytes new less is h =
    ap (λ ls. finished bytes (items_of names ls)) (drop_more lines i line less ∙ ap (λ x. x ∷ drop (i + 1) lines) (sym is))
    ∙ by_item (assembled_item_of names line.here line.statement) (items_of names (drop (i + 1) lines)) line.number line.end bytes new h

by_fault : (r : Result SourceItem LineError) (rest : Result (List SourceItem) SourceFault) (n end : ℕ) (bytes : List ℕ) (e : LineError) → appended bytes r ≡ Err e
    → finished bytes (◌>>=◌ {B = List SourceItem} (in_source_line n end r) (λ item. rest >>= λ items. Ok (item ∷ items))) ≡ Err (fault_in n end e)
by_fault (Ok item) rest n end bytes e h = cc
by_fault (Err other) rest n end bytes e h = let same : other ≡ e = cc in ap (λ x. Err (fault_in n end x)) same

pub line_refused : (names : SymbolTable) (lines : List Placed) (line : Placed) (i : ℕ) (bytes : List ℕ) (e : LineError) (whole : Result (List ℕ) SourceFault) → i < length lines → line ≡ get_or lines i line
    → (e ≡ LineMemory) ⊎ (appended bytes (assembled_item_of names line.here line.statement) ≡ Err e) → finished bytes (items_of names (drop i lines)) ≡ whole
    → (fault_in line.number line.end e ≡ SourceMemory) ⊎ (whole ≡ Err (fault_in line.number line.end e))
unfolding items_of
line_refused names lines line i bytes e whole less is (inl h) same = inl (ap (fault_in line.number line.end) h)
line_refused names lines line i bytes e whole less is (inr h) same =
    inr (
    sym same
    ∙ ap (λ ls. finished bytes (items_of names ls)) (drop_more lines i line less ∙ ap (λ x. x ∷ drop (i + 1) lines) (sym is))
    ∙ by_fault (assembled_item_of names line.here line.statement) (items_of names (drop (i + 1) lines)) line.number line.end bytes e h
    )

pub all_put : (names : SymbolTable) (lines : List Placed) (i : ℕ) (bytes : List ℕ) → length lines ≤ i → finished bytes (items_of names (drop i lines)) ≡ Ok bytes
unfolding items_of
all_put names lines i bytes past =
    ap (λ ls. finished bytes (items_of names ls)) (drop_all i lines past) ∙ ap Ok (append-nil bytes)

as_mapped : (r : Result (List SourceItem) SourceFault) → ◌>>=◌ {B = List ℕ} r (λ items. Ok (bytes_of_items items)) ≡ mapped bytes_of_items r
as_mapped (Ok items) = refl
as_mapped (Err fault) = refl

pub assembled_by : (text : List ℕ) (layout : Layout) → layout_from at_start 1 (lines_of text) ≡ Ok layout → mapped bytes_of_items (items_of layout.names layout.lines) ≡ assembled text
unfolding source_items
assembled_by text layout h =
    sym (
    ap (λ r. ◌>>=◌ {B = List ℕ} (◌>>=◌ {B = List SourceItem} r (λ l. items_of l.names l.lines)) (λ items. Ok (bytes_of_items items))) h
    ∙ as_mapped (items_of layout.names layout.lines)
    )

pub not_laid_out : (text : List ℕ) (fault none : SourceFault) → (fault ≡ none) ⊎ (layout_from at_start 1 (lines_of text) ≡ Err fault) → (fault ≡ none) ⊎ (assembled text ≡ Err fault)
unfolding source_items
not_laid_out text fault none (inl h) = inl h
not_laid_out text fault none (inr h) =
    inr (ap (λ r. ◌>>=◌ {B = List ℕ} (◌>>=◌ {B = List SourceItem} r (λ l. items_of l.names l.lines)) (λ items. Ok (bytes_of_items items))) h)

-- ---- numbers, one by one

number_then : (bytes : List ℕ) (size : AccessSize) (n : ℕ) (r : Result (List ℕ) LineError)
    → of_numbers bytes size (◌>>=◌ {B = List ℕ} r (λ ns. Ok (n ∷ ns))) ≡ of_numbers (bytes ++ little_endian size n) size r
number_then bytes size n (Ok ns) = ap Ok (sym (append_assoc bytes (little_endian size n) (flat_map (little_endian size) ns)))
number_then bytes size n (Err e) = refl

pub number_put : (names : SymbolTable) (size : AccessSize) (values : List Value) (value : Value) (i : ℕ) (bytes : List ℕ) (n : ℕ) → i < length values → value ≡ get_or values i value → number_of names size value ≡ Ok n
    → of_numbers bytes size (numbers_of names size (drop i values)) ≡ of_numbers (bytes ++ little_endian size n) size (numbers_of names size (drop (i + 1) values))
unfolding numbers_of
number_put names size values value i bytes n less is h =
    ap (λ vs. of_numbers bytes size (numbers_of names size vs)) (drop_more values i value less ∙ ap (λ x. x ∷ drop (i + 1) values) (sym is))
    ∙ ap (λ r. of_numbers bytes size (◌>>=◌ {B = List ℕ} r (λ n. numbers_of names size (drop (i + 1) values) >>= λ ns. Ok (n ∷ ns)))) h
    ∙ number_then bytes size n (numbers_of names size (drop (i + 1) values))

pub number_refused : (names : SymbolTable) (size : AccessSize) (values : List Value) (value : Value) (i : ℕ) (bytes : List ℕ) (e : LineError) → i < length values → value ≡ get_or values i value → number_of names size value ≡ Err e
    → of_numbers bytes size (numbers_of names size (drop i values)) ≡ Err e
unfolding numbers_of
number_refused names size values value i bytes e less is h =
    ap (λ vs. of_numbers bytes size (numbers_of names size vs)) (drop_more values i value less ∙ ap (λ x. x ∷ drop (i + 1) values) (sym is))
    ∙ ap (λ r. of_numbers bytes size (◌>>=◌ {B = List ℕ} r (λ n. numbers_of names size (drop (i + 1) values) >>= λ ns. Ok (n ∷ ns)))) h

pub numbers_put : (names : SymbolTable) (size : AccessSize) (values : List Value) (i : ℕ) (bytes : List ℕ) → length values ≤ i → of_numbers bytes size (numbers_of names size (drop i values)) ≡ Ok bytes
unfolding numbers_of
numbers_put names size values i bytes past =
    ap (λ vs. of_numbers bytes size (numbers_of names size vs)) (drop_all i values past) ∙ ap Ok (append-nil bytes)
