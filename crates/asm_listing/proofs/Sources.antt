-- What is printed of bytes says them.
use Rattle.std.proofs.Common.{◌≡◌, ℕ, ◌+◌, ◌*◌, ◌%◌, ◌<◌, ◌≤◌, Bool, true, false, List, [], ◌∷◌, ◌++◌, length, map, Option, Some, None, Result, Ok, refl, ap, ap₂, sym, subst, ◌∙◌, append_assoc, append-nil, length-append, arith}
use Rattle.std.specs.Prelude.{IfSome, ◌==◌, if◌then◌else◌, codes}
use Rattle.std.specs.List.{All, flat_map, slice_split}
use Rattle.std.proofs.lemmas.Bool.{and_parts, eq-eqb, eqb-true, le-ltb}
use Rattle.std.proofs.lemmas.Bool.Decides.{nat_tests}
use Rattle.std.proofs.lemmas.List.Elements.{All-cons, All-head, All-nil, All-tail}
use Rattle.std.proofs.lemmas.List.Splits.{length-slice_split, slice_split_at}
use Rattle.muen_num.specs.declared.access.AccessSize.TheVariants.{One}
use Rattle.muen_num.specs.declared.limits.TheConstants.{COMPONENT_FILE_MOST}
use Rattle.muen_num.proofs.Lists.{all_front}
use Rattle.guest_isa.specs.GuestIsa.{decode_of}
use Rattle.guest_isa.specs.declared.instr.Instr.{Instr}
use Rattle.text_words.specs.Parts.{lines_of, parts_of, without_empty_end}
use Rattle.text_words.specs.Steps.{◌>>=◌}
use Rattle.text_words.proofs.Cuts.{more_parts}
use Rattle.asm_text.specs.Layout.{Layout, SymbolTable, LayoutState, after_line, in_source_line, layout_from, source_line_at, continued_at, stated, with_line}
use Rattle.asm_text.specs.Meaning.{SourceItem, instruction, data_of, bytes_of_item, bytes_of_items, assembled_item_of, items_of, little_endian, source_items}
use Rattle.asm_text.specs.Reading.{source_line_of, wanted}
use Rattle.asm_text.specs.Tokens.{tokens_of}
use Rattle.asm_text.specs.declared.fault.LineError.{LineError}
use Rattle.asm_text.specs.declared.fault.SourceFault.{SourceFault}
use Rattle.asm_text.specs.declared.fault.Want.TheVariants.{Aligned, Room}
use Rattle.asm_text.specs.declared.statement.Placed.{Placed}
use Rattle.asm_text.specs.declared.statement.SourceLine.{SourceLine}
use Rattle.asm_text.specs.declared.statement.Statement.{Statement}
use Rattle.asm_text.specs.declared.statement.Statement.TheVariants.{Data, Instruction}
use Rattle.asm_listing.specs.Laws.{AreBytes, SourcesAssemble}
use Rattle.asm_listing.specs.Source.{chunk_text, chunks_of, instruction_in, source_of, text_by}
use Rattle.asm_listing.proofs.Chunks.{IsDecoded, chunks_by, decoded, first_chunk, no_chunk, one_chunk}
use Rattle.asm_listing.proofs.Lines.{as_line, data_read, instruction_read}
use Rattle.asm_listing.proofs.Seen.{Seen, data_seen, instruction_seen}
use Rattle.asm_listing.proofs.Words.{is_seen}
use Rattle.guest_isa.specs.Words.{IsByte}

-- ---- what the line of a chunk says

abbrev pub item_by : List ℕ → Option Instr → SourceItem
item_by chunk (Some i) = instruction i
item_by chunk None = data_of One chunk

abbrev pub chunk_item : List ℕ → SourceItem
chunk_item chunk = item_by chunk (instruction_in chunk)

abbrev standing : ℕ → SymbolTable → LayoutState
standing here names = record { here = here; names = names }

-- the line of a chunk that spells this instruction, or none
record IsRead (chunk : List ℕ) (o : Option Instr) : Type 0 where
  statement : Statement
  line : source_line_of (tokens_of (text_by chunk o)) ≡ Ok (as_line statement)
  moves : (here : ℕ) (names : SymbolTable) → here % 8 ≡ 0 → here + length chunk ≤ COMPONENT_FILE_MOST → stated statement (standing here names) ≡ Ok (standing (here + length chunk) names)
  item : (names : SymbolTable) (here : ℕ) → assembled_item_of names here statement ≡ Ok (item_by chunk o)
  seen : Seen (text_by chunk o)
  bytes : bytes_of_item (item_by chunk o) ≡ chunk

moves_on : (left to here : ℕ) (names : SymbolTable) → to ≤ COMPONENT_FILE_MOST → continued_at left to (standing here names) ≡ Ok (standing to names)
moves_on left to here names h = ap (λ b. if b then wanted left Room else Ok (standing to names)) (le-ltb COMPONENT_FILE_MOST to h)

data_bytes : (bs : List ℕ) → All IsByte bs → flat_map (little_endian One) bs ≡ bs
data_bytes [] all = refl
data_bytes (b ∷ bs) all =
    let low : b < 256 = All-head IsByte b bs all in
    let same : b % 256 ≡ b = omega arith in
    λ i. same i ∷ data_bytes bs (All-tail IsByte b bs all) i

module _ (chunk : List ℕ) (some : 0 < length chunk) (all : All IsByte chunk) where
  data_is : IsRead chunk None
  data_is =
      let d = data_read chunk some all in
      record {
        statement = Data d.left One d.read;
        line = d.line;
        moves = λ here names aligned room.
            let same : here + length d.read * 1 ≡ here + length chunk = omega (arith, d.many) in
            ap (λ to. continued_at d.left to (standing here names)) same ∙ moves_on d.left (here + length chunk) here names room;
        item = λ names here. ap (λ (r : Result (List ℕ) LineError). r >>= λ ns. Ok (data_of One ns)) (d.numbers names);
        seen = data_seen chunk all;
        bytes = data_bytes chunk all;
      }

  decoded_is : (o : Option Instr) → length chunk ≡ 8 → IfSome o (IsDecoded chunk) → IsRead chunk o
  decoded_is None l h = data_is
  decoded_is (Some i) l h =
      let r = instruction_read i h.valid h.fits in
      record {
        statement = Instruction r.operation;
        line = r.line;
        moves = λ here names aligned room.
            let same : here + 8 ≡ here + length chunk = omega arith in
            ap (λ b. if b then continued_at r.operation.left (here + 8) (standing here names) else wanted r.operation.left Aligned) (eq-eqb (here % 8) 0 aligned)
            ∙ ap (λ to. continued_at r.operation.left to (standing here names)) same
            ∙ moves_on r.operation.left (here + length chunk) here names room;
        item = r.item;
        seen = instruction_seen i h.valid h.fits;
        bytes = h.spelled;
      }

  by_length : (t : Bool) → (length chunk == 8) ≡ t → IsRead chunk (if t then decode_of chunk else None)
  by_length true e = let l = eqb-true (length chunk) 8 e in decoded_is (decode_of chunk) l (decoded chunk l all)
  by_length false e = data_is

  chunk_is : IsRead chunk (instruction_in chunk)
  chunk_is = by_length (length chunk == 8) refl

-- ---- lines

no_feed : (text : List ℕ) → Seen text → All (λ c. (c == 10) ≡ false) text
no_feed [] h = All-nil (λ c. (c == 10) ≡ false)
no_feed (c ∷ text) h =
    let a = and_parts (is_seen c) _ h in
    All-cons (λ c. (c == 10) ≡ false) c text (printed c a.0) (no_feed text a.1)
  where
    printed : (c : ℕ) → is_seen c ≡ true → (c == 10) ≡ false
    printed c h = grind (arith, nat_tests)

first_line : (text rest : List ℕ) → Seen text → lines_of ((text ++ codes "\n") ++ rest) ≡ text ∷ lines_of rest
unfolding lines_of
first_line text rest h =
    let p : ℕ → Bool = λ c. c == 10 in
    ap (λ t. without_empty_end (parts_of 10 t)) (append_assoc text (codes "\n") rest)
    ∙ ap without_empty_end (slice_split_at p text 10 rest (no_feed text h) refl)
    ∙ more_parts text (slice_split p rest) (omega (arith, length-slice_split p rest))

no_lines : lines_of [] ≡ []
unfolding lines_of
no_lines = refl

abbrev line_text : List ℕ → List ℕ
line_text chunk = chunk_text chunk ++ codes "\n"

back_low : (a b : List ℕ) → All IsByte (a ++ b) → All IsByte b
back_low [] b all = all
back_low (x ∷ a) b all = back_low a b (All-tail IsByte x (a ++ b) all)

lines_printed : (bytes : List ℕ) → All IsByte bytes → lines_of (flat_map line_text (chunks_of bytes)) ≡ map chunk_text (chunks_of bytes)
lines_printed = chunks_by (λ bytes. All IsByte bytes → lines_of (flat_map line_text (chunks_of bytes)) ≡ map chunk_text (chunks_of bytes)) none fewer full
  where
    none : All IsByte [] → lines_of (flat_map line_text (chunks_of [])) ≡ map chunk_text (chunks_of [])
    none all = rw no_chunk no_lines

    fewer : (chunk : List ℕ) → 0 < length chunk → length chunk < 8 → All IsByte chunk → lines_of (flat_map line_text (chunks_of chunk)) ≡ map chunk_text (chunks_of chunk)
    fewer chunk some few all =
        subst (λ (cs : List (List ℕ)). lines_of (flat_map line_text cs) ≡ map chunk_text cs) (sym (one_chunk chunk some few))
        (first_line (chunk_text chunk) [] (chunk_is chunk some all).seen ∙ ap (λ (ls : List (List ℕ)). chunk_text chunk ∷ ls) no_lines)

    full : (chunk more : List ℕ) → length chunk ≡ 8 → (All IsByte more → lines_of (flat_map line_text (chunks_of more)) ≡ map chunk_text (chunks_of more))
        → All IsByte (chunk ++ more) → lines_of (flat_map line_text (chunks_of (chunk ++ more))) ≡ map chunk_text (chunks_of (chunk ++ more))
    full chunk more l h all =
        subst (λ (cs : List (List ℕ)). lines_of (flat_map line_text cs) ≡ map chunk_text cs) (sym (first_chunk chunk more l))
        (first_line (chunk_text chunk) (flat_map line_text (chunks_of more)) (chunk_is chunk (omega arith) (all_front IsByte chunk more all)).seen
        ∙ ap (λ (ls : List (List ℕ)). chunk_text chunk ∷ ls) (h (back_low chunk more all)))

-- ---- the layout

record AreLaid (here n : ℕ) (chunks : List (List ℕ)) : Type 0 where
  layout : Layout
  laid : layout_from (standing here []) n (map chunk_text chunks) ≡ Ok layout
  items : (names : SymbolTable) → items_of names layout.lines ≡ Ok (map chunk_item chunks)

none_laid : (here n : ℕ) → AreLaid here n []
unfolding layout_from items_of
none_laid here n = record { layout = record { lines = []; names = [] }; laid = refl; items = λ names. refl }

abbrev placed_with : ℕ → ℕ → ℕ → Statement → LayoutState → Result (Placed × LayoutState) SourceFault
placed_with n end here statement next = Ok (record { number = n; end = end; here = here; statement = statement }, next)

line_laid : (here n : ℕ) (chunk : List ℕ) (r : IsRead chunk (instruction_in chunk)) → here % 8 ≡ 0 → here + length chunk ≤ COMPONENT_FILE_MOST
    → source_line_at (standing here []) n (chunk_text chunk) ≡ Ok (record { number = n; end = length (chunk_text chunk) + 1; here = here; statement = r.statement }, standing (here + length chunk) [])
unfolding source_line_at
line_laid here n chunk r aligned room =
    let end = length (chunk_text chunk) + 1 in
    ap (λ (line : Result SourceLine LineError). in_source_line n end line >>= λ line. in_source_line n end (after_line line (standing here [])) >>= λ next. placed_with n end here line.statement next) r.line
    ∙ ap (λ (next : Result LayoutState LineError). in_source_line n end next >>= λ next. placed_with n end here r.statement next) (r.moves here [] aligned room)

more_laid : (here n : ℕ) (chunk : List ℕ) (chunks : List (List ℕ)) → IsRead chunk (instruction_in chunk) → here % 8 ≡ 0 → here + length chunk ≤ COMPONENT_FILE_MOST
    → AreLaid (here + length chunk) (n + 1) chunks → AreLaid here n (chunk ∷ chunks)
unfolding layout_from items_of
more_laid here n chunk chunks r aligned room rest =
    let end = length (chunk_text chunk) + 1 in
    let placed : Placed = record { number = n; end = end; here = here; statement = r.statement } in
    record {
      layout = with_line placed rest.layout;
      laid =
          ap (λ (line : Result (Placed × LayoutState) SourceFault). line >>= λ x. layout_from x.1 (n + 1) (map chunk_text chunks) >>= λ more. Ok (with_line x.0 more)) (line_laid here n chunk r aligned room)
          ∙ ap (λ (more : Result Layout SourceFault). more >>= λ more. Ok (with_line placed more)) rest.laid;
      items = λ names.
          ap (λ (item : Result SourceItem LineError). in_source_line n end item >>= λ item. items_of names rest.layout.lines >>= λ items. Ok (item ∷ items)) (r.item names here)
          ∙ ap (λ (items : Result (List SourceItem) SourceFault). items >>= λ items. Ok (chunk_item chunk ∷ items)) (rest.items names);
    }

abbrev WillBeLaid : List ℕ → Type 0
WillBeLaid bytes = (here n : ℕ) → here % 8 ≡ 0 → here + length bytes ≤ COMPONENT_FILE_MOST → All IsByte bytes → AreLaid here n (chunks_of bytes)

all_laid : (bytes : List ℕ) → WillBeLaid bytes
all_laid = chunks_by WillBeLaid none fewer full
  where
    none : WillBeLaid []
    none here n aligned room all = rw no_chunk (none_laid here n)

    fewer : (chunk : List ℕ) → 0 < length chunk → length chunk < 8 → WillBeLaid chunk
    fewer chunk some few here n aligned room all =
        subst (AreLaid here n) (sym (one_chunk chunk some few))
        (more_laid here n chunk [] (chunk_is chunk some all) aligned room (none_laid (here + length chunk) (n + 1)))

    full : (chunk more : List ℕ) → length chunk ≡ 8 → WillBeLaid more → WillBeLaid (chunk ++ more)
    full chunk more l h here n aligned room all =
        let parts = length-append chunk more in
        let low : here + length chunk + length more ≤ COMPONENT_FILE_MOST = omega arith in
        let first : here + length chunk ≤ COMPONENT_FILE_MOST = omega arith in
        let next : (here + length chunk) % 8 ≡ 0 = omega arith in
        subst (AreLaid here n) (sym (first_chunk chunk more l))
        (more_laid here n chunk (chunks_of more) (chunk_is chunk (omega arith) (all_front IsByte chunk more all)) aligned first (h (here + length chunk) (n + 1) next low (back_low chunk more all)))

-- ---- the source

pub source_says : (bytes : List ℕ) → AreBytes bytes → source_items (source_of bytes) ≡ Ok (map chunk_item (chunks_of bytes))
unfolding source_items source_of
source_says bytes h =
    let room : 0 + length bytes ≤ COMPONENT_FILE_MOST = omega (arith, h.many) in
    let laid = all_laid bytes 0 1 refl room h.each in
    ap (λ lines. layout_from (standing 0 []) 1 lines >>= λ layout. items_of layout.names layout.lines) (lines_printed bytes h.each)
    ∙ ap (λ (r : Result Layout SourceFault). r >>= λ layout. items_of layout.names layout.lines) laid.laid
    ∙ laid.items laid.layout.names

pub bytes_back : (bytes : List ℕ) → All IsByte bytes → bytes_of_items (map chunk_item (chunks_of bytes)) ≡ bytes
bytes_back = chunks_by (λ bytes. All IsByte bytes → bytes_of_items (map chunk_item (chunks_of bytes)) ≡ bytes) none fewer full
  where
    none : All IsByte [] → bytes_of_items (map chunk_item (chunks_of [])) ≡ []
    none all = rw no_chunk refl

    fewer : (chunk : List ℕ) → 0 < length chunk → length chunk < 8 → All IsByte chunk → bytes_of_items (map chunk_item (chunks_of chunk)) ≡ chunk
    fewer chunk some few all =
        ap (λ cs. bytes_of_items (map chunk_item cs)) (one_chunk chunk some few)
        ∙ ap (λ (bs : List ℕ). bs ++ []) (chunk_is chunk some all).bytes ∙ append-nil chunk

    full : (chunk more : List ℕ) → length chunk ≡ 8 → (All IsByte more → bytes_of_items (map chunk_item (chunks_of more)) ≡ more)
        → All IsByte (chunk ++ more) → bytes_of_items (map chunk_item (chunks_of (chunk ++ more))) ≡ chunk ++ more
    full chunk more l h all =
        ap (λ cs. bytes_of_items (map chunk_item cs)) (first_chunk chunk more l)
        ∙ ap₂ (λ (a b : List ℕ). a ++ b) (chunk_is chunk (omega arith) (all_front IsByte chunk more all)).bytes (h (back_low chunk more all))

pub sources_assemble : SourcesAssemble
sources_assemble bytes h =
    ap (λ (r : Result (List SourceItem) SourceFault). r >>= λ items. Ok (bytes_of_items items)) (source_says bytes h)
    ∙ ap (λ (bs : List ℕ). Ok bs) (bytes_back bytes h.each)
