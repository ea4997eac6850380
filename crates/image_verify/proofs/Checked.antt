-- The tables of an image are what its policy needs just where the check finds them sound.
use Rattle.std.proofs.Common.{◌≡◌, ℕ, zero, suc, ◌*◌, ◌/◌, ◌%◌, ◌<◌, ◌≤◌, All, true, false, List, [], ◌∷◌, length, map, get_or, Option, Some, None, sym, ap, subst, ◌∙◌, arith}
use Rattle.std.specs.Prelude.{◌-◌, ◌&&◌, ◌||◌, not, if◌then◌else◌, nat_le, option_map, slice_get, slice_index, slice_index_or}
use Rattle.std.specs.List.{zip}
use Rattle.std.proofs.lemmas.Bool.{leb-true, and_parts}
use Rattle.std.proofs.lemmas.List.{length-map}
use Rattle.std.proofs.lemmas.List.Elements.{All-cons, All-map, All-nil}
use Rattle.std.proofs.lemmas.Option.{get_or_from_slice_get, slice_get-map, slice_get_within}
use Rattle.ept_check.specs.Known.{Reads}
use Rattle.ept_check.specs.Sound.{AreSound, AreSubjectWindows, CanBeChecked, HasOnePathPerTable}
use Rattle.ept_check.specs.Tables.{Tables, addr_of, addresses, look_at, subject_of, table_read, tables_in, walk_at}
use Rattle.muen_num.specs.Numbers.{is_among}
use Rattle.ept_check.specs.declared.types.SubjectTables.{SubjectTables}
use Rattle.ept_check.specs.Emitted.{translation}
use Rattle.ept_check.specs.Reads.{Reads as ReadsTable}
use Rattle.image_pack.proofs.PartsKeep.{parts_keep}
use Rattle.image_pack.specs.declared.parts.Image.{Image}
use Rattle.image_pack.specs.declared.parts.SubjectPart.{SubjectPart}
use Rattle.image_memory.specs.Memory.{memory_of}
use Rattle.image_soundness.specs.Sound.{ForEachSubject, HasWalks, ReadsTables, address_of, is_in_tables, led}
use Rattle.image_verify.proofs.Leads.{are_windows, leads}
use Rattle.image_verify.proofs.Rooms.{mapped_at}
use Rattle.image_verify.proofs.TablePages.{are_tables, entry_among}
use Rattle.image_verify.specs.Filled.{IsFilled}
use Rattle.image_verify.specs.Stand.{StandForTables}
use Rattle.image_verify.specs.TablePages.{pages_of_all}
use Rattle.image_verify.specs.Windows.{tables_of_subject, tables_of_subjects, windows_on}
use Rattle.ept_check.specs.Memory.{is_there}
use Rattle.ept_check.specs.Walks.{addresses_from, addresses_read, entry_address, entry_of, goes_on, index_at, is_leaf, is_misconfigured, is_present, bits_of, root_of, walk_from, walk_of}
use Rattle.ept_check.proofs.Sizes.{above_of}
use Rattle.muen_num.proofs.Lists.{all_at, there}
use Rattle.muen_num.proofs.Pairs.{zipped_both}
use Rattle.muen_num.proofs.Options.{from_some}
use Rattle.muen_num.specs.Access.{kind_bit}
use Rattle.muen_num.specs.declared.access.AccessKind.{AccessKind}
use Rattle.muen_num.specs.declared.limits.TheConstants.{MOST_SUBJECTS}
use Rattle.policy_lawful.specs.Contents.{Held}
use Rattle.policy_lawful.specs.source.Subject.{Subject}
use Rattle.policy_lawful.specs.Windows.{access_of, windows_of}
use Rattle.policy_lawful.specs.source.Source.{Source}
use Rattle.image_soundness.specs.Paths.{HasOnePathPerTable as HasOnePath, IsOnePath as IsSamePath}

-- ---- entries lie at multiples of 8

abbrev IsAligned : ℕ → Type 0
IsAligned at = at % 8 ≡ 0

entry_aligned : (table i : ℕ) → IsAligned (entry_address table i)
entry_aligned table i = omega arith

goes_aligned : (level : ℕ) (o : Option ℕ) (deeper : ℕ → List ℕ) → ((t : ℕ) → All IsAligned (deeper t)) → All IsAligned (goes_on level o [] deeper)
goes_aligned level None deeper h = All-nil IsAligned
goes_aligned level (Some e) deeper h =
    elim (is_present e && not (is_misconfigured level e || is_leaf level e)) as (λ b. All IsAligned (if b then deeper (bits_of e 12 51) else [])) [
      | true ↦ h (bits_of e 12 51)
      | false ↦ All-nil IsAligned
    ]

entries_aligned : (entry : ℕ → ℕ → Option ℕ) (addr level table : ℕ) → All IsAligned (addresses_from entry addr level table)
entries_aligned entry addr zero table = All-cons IsAligned (entry_address table (index_at 0 addr)) [] (entry_aligned table (index_at 0 addr)) (All-nil IsAligned)
entries_aligned entry addr (suc level) table =
    All-cons IsAligned (entry_address table (index_at (suc level) addr)) (goes_on (suc level) (entry table (index_at (suc level) addr)) [] (λ t. addresses_from entry addr level t))
    (entry_aligned table (index_at (suc level) addr))
    (goes_aligned (suc level) (entry table (index_at (suc level) addr)) (λ t. addresses_from entry addr level t) (λ t. entries_aligned entry addr level t))

-- ---- positions

subject_below : (q n : ℕ) → q < 68719476736 * n → q / 68719476736 < n
subject_below q n l = omega (arith, l)

addr_below : (q : ℕ) → 4096 * (q % 68719476736) < 281474976710656
addr_below q = omega arith

few_subjects : (n m : ℕ) → n ≤ m → m ≤ 32 → n ≤ 1048576
few_subjects n m a b = omega (arith, a, b)

module _ (p : Source) (files : Held) (i : Image) (h : IsFilled p files i) (pages : List ℕ) (is : pages ≡ pages_of_all i.spans) where
  -- subjects of the policy with their parts of the image
  abbrev rows : List (Subject × SubjectPart)
  rows = zip p.subjects i.subjects

  abbrev made : List SubjectTables
  made = map (tables_of_subject p i) rows

  abbrev v : Tables
  v = tables_in (memory_of i) pages made

  -- what holds at each index
  each_row : (Holds : Subject → SubjectPart → Type 0) → ((k : ℕ) (n : Subject) (q : SubjectPart) → slice_get rows k ≡ Some (n, q) → Holds n q) → ForEachSubject p i Holds
  each_row Holds holds j d l =
      let e = there rows j l in
      subst (λ (f : Subject × SubjectPart). Holds f.0 f.1) (sym (get_or_from_slice_get rows j e.0 d e.1)) (holds j e.0.0 e.0.1 e.1)

  -- and at one, where it does at each
  at_row : (Holds : Subject → SubjectPart → Type 0) → ForEachSubject p i Holds → (k : ℕ) (n : Subject) (q : SubjectPart) → slice_get rows k ≡ Some (n, q) → Holds n q
  at_row Holds all k n q at = all_at (λ (e : Subject × SubjectPart). Holds e.0 e.1) rows k (n, q) all at

  subject_at : (k : ℕ) (n : Subject) (q : SubjectPart) → slice_get rows k ≡ Some (n, q) → slice_get p.subjects k ≡ Some n
  subject_at k n q at = (zipped_both p.subjects i.subjects k (n, q) at).0

  part_at : (k : ℕ) (n : Subject) (q : SubjectPart) → slice_get rows k ≡ Some (n, q) → slice_get i.subjects k ≡ Some q
  part_at k n q at = (zipped_both p.subjects i.subjects k (n, q) at).1

  -- ---- what can be checked

  windows_each : All (λ (t : SubjectTables). AreSubjectWindows (is_there (memory_of i)) t.windows) made
  windows_each =
      All-map (λ (t : SubjectTables). AreSubjectWindows (is_there (memory_of i)) t.windows) (tables_of_subject p i) rows
      (each_row (λ n q. AreSubjectWindows (is_there (memory_of i)) (windows_on p i n)) (λ k n q at. are_windows p files i h k n (subject_at k n q at)))

  shorter : {A B : Type 0} (xs : List A) (ys : List B) → length (zip xs ys) ≤ length ys
  shorter [] ys = omega arith
  shorter (a ∷ xs) [] = omega arith
  shorter (a ∷ xs) (b ∷ ys) = omega (arith, shorter xs ys)

  few : length made ≤ 1048576
  few =
      let counts = (parts_keep i h.parts).counts in
      let many : length made ≡ length rows = length-map rows (tables_of_subject p i) in
      let short = shorter p.subjects i.subjects in
      let same : length i.subjects ≡ i.header.subjects = counts.subjects in
      let most : i.header.subjects ≤ 32 = leb-true i.header.subjects MOST_SUBJECTS (and_parts (nat_le 1 i.header.subjects) (nat_le i.header.subjects MOST_SUBJECTS) counts.few_subjects).1 in
      few_subjects (length made) (length i.subjects) (omega (arith, many, short)) (omega (arith, same, most))

  pub can_check : CanBeChecked (memory_of i) pages made
  can_check = record { tables = are_tables i h.parts pages is; windows = windows_each; few = few }

  -- ---- at an index

  tables_at : (k : ℕ) (n : Subject) (q : SubjectPart) → slice_get rows k ≡ Some (n, q) → slice_get made k ≡ Some (tables_of_subject p i (n, q))
  tables_at k n q at = slice_get-map (tables_of_subject p i) rows k ∙ ap (option_map (tables_of_subject p i)) at

  root_is : (k : ℕ) (n : Subject) (q : SubjectPart) → slice_get rows k ≡ Some (n, q) → slice_index v.roots k ≡ root_of q.eptp
  root_is k n q at = mapped_at (λ (t : SubjectTables). root_of t.eptp) made k (tables_of_subject p i (n, q)) 0 (tables_at k n q at)

  windows_are : (k : ℕ) (n : Subject) (q : SubjectPart) → slice_get rows k ≡ Some (n, q) → slice_index_or v.windows k [] ≡ windows_on p i n
  windows_are k n q at = mapped_at (λ (t : SubjectTables). t.windows) made k (tables_of_subject p i (n, q)) [] (tables_at k n q at)

  -- a walk is that of the subject's tables
  walk_is : (k : ℕ) (n : Subject) (q : SubjectPart) (addr : ℕ) (kind : AccessKind) → slice_get rows k ≡ Some (n, q) → walk_at v k addr kind ≡ walk_of (memory_of i) q.eptp addr kind
  walk_is k n q addr kind at = ap (λ root. walk_from (entry_of (memory_of i)) (is_there (memory_of i)) addr (kind_bit kind) 3 root 7) (root_is k n q at)

  -- and leads where the policy's windows do, where it leads where these windows do
  look_is : (k : ℕ) (n : Subject) (q : SubjectPart) (addr : ℕ) (kind : AccessKind) → slice_get rows k ≡ Some (n, q) → look_at v k addr kind ≡ led (address_of p i) (access_of (windows_of p n) addr kind)
  look_is k n q addr kind at = ap (λ ws. translation ws addr kind) (windows_are k n q at) ∙ leads p files i h k n (subject_at k n q at) addr kind

  many_roots : length v.roots ≡ length rows
  many_roots = length-map made (λ (t : SubjectTables). root_of t.eptp) ∙ length-map rows (tables_of_subject p i)

  below : (k : ℕ) (n : Subject) (q : SubjectPart) → slice_get rows k ≡ Some (n, q) → k < length v.roots
  below k n q at =
      let within = slice_get_within rows k (n, q) at in
      let many = many_roots in
      omega (arith, within, many)

  -- what stands at an index of the roots
  pub record Row (k : ℕ) : Type 0 where
    pub subject : Subject
    pub part : SubjectPart
    pub at : slice_get rows k ≡ Some (subject, part)

  row : (k : ℕ) → k < length v.roots → Row k
  row k l =
      let many = many_roots in
      let e = there rows k (omega (arith, l, many)) in
      record { subject = e.0.0; part = e.0.1; at = e.1 }

  -- ---- entries

  in_tables : (at : ℕ) → at % 8 ≡ 0 → is_in_tables i at ≡ is_among pages (at / 4096)
  in_tables at a = entry_among i h.parts pages is at a

  -- ---- both ways

  pub walks_from : AreSound v → ForEachSubject p i (HasWalks p i)
  walks_from sound =
      each_row (HasWalks p i)
      (λ k n q at addr kind l. sym (walk_is k n q addr kind at) ∙ sound.led k addr kind (below k n q at) l ∙ look_is k n q addr kind at)

  pub reads_from : AreSound v → ForEachSubject p i (λ s q. ReadsTables i q)
  reads_from sound =
      each_row (λ s q. ReadsTables i q)
      (λ k n q at addr l j d low.
      let list = addresses_read (memory_of i) q.eptp addr in
      let reads : All (λ n. is_among pages (n / 4096) ≡ true) list =
      subst (λ root. All (λ n. is_among pages (n / 4096) ≡ true) (addresses_from (entry_of (memory_of i)) addr 3 root)) (root_is k n q at) (sound.tables k addr (below k n q at) l) in
      in_tables (get_or list j d) (entries_aligned (entry_of (memory_of i)) addr 3 (root_of q.eptp) j d low) ∙ reads j d low)

  pub sound_from : ForEachSubject p i (HasWalks p i) → ForEachSubject p i (λ s q. ReadsTables i q) → AreSound v
  sound_from walks reads = record {
    led = λ k addr kind b l.
        let e = row k b in
        walk_is k e.subject e.part addr kind e.at
        ∙ at_row (HasWalks p i) walks k e.subject e.part e.at addr kind l
        ∙ sym (look_is k e.subject e.part addr kind e.at);
    tables = λ k addr b l.
        let e = row k b in
        let list = addresses_read (memory_of i) e.part.eptp addr in
        let read : All (λ n. is_in_tables i n ≡ true) list = at_row (λ s q. ReadsTables i q) reads k e.subject e.part e.at addr l in
        subst (λ root. All (λ n. is_among pages (n / 4096) ≡ true) (addresses_from (entry_of (memory_of i)) addr 3 root)) (sym (root_is k e.subject e.part e.at))
        (λ j d low. sym (in_tables (get_or list j d) (entries_aligned (entry_of (memory_of i)) addr 3 (root_of e.part.eptp) j d low)) ∙ read j d low);
  }

  -- ---- paths

  read_at : (q m t : ℕ) (e : Row (subject_of q)) → Reads v q m t → ReadsTable (memory_of i) e.part.eptp (addr_of q) m t
  unfolding table_read addresses
  read_at q m t e reads =
      let list = addresses_read (memory_of i) e.part.eptp (addr_of q) in
      let moved : option_map (λ at. at / 4096) (slice_get list (3 - m)) ≡ Some t =
      ap (λ root. option_map (λ at. at / 4096) (slice_get (addresses_from (entry_of (memory_of i)) (addr_of q) 3 root) (3 - m))) (sym (root_is (subject_of q) e.subject e.part e.at)) ∙ reads.here in
      let f = from_some (λ at. at / 4096) (slice_get list (3 - m)) t moved in
      record {
        depth = reads.depth;
        within = slice_get_within list (3 - m) f.0 f.1;
        here = ap (λ n. n / 4096) (get_or_from_slice_get list (3 - m) f.0 0 f.1) ∙ f.2;
      }

  pub paths_from : HasOnePath i → HasOnePathPerTable v
  paths_from once a m b l t low high one other =
      let e = row (subject_of a) (subject_below a (length v.roots) low) in
      let f = row (subject_of b) (subject_below b (length v.roots) high) in
      let same : IsSamePath (subject_of a) (subject_of b) m l (addr_of a) (addr_of b) =
      once (subject_of a) (subject_of b) e.part f.part (addr_of a) (addr_of b) m l t (part_at (subject_of a) e.subject e.part e.at) (part_at (subject_of b) f.subject f.part f.at) (addr_below a) (addr_below b) (read_at a m t e one) (read_at b l t f other) in
      record { level = same.depth; above = above_of m a b one.depth same.subject same.range }

  -- **they stand** for what the policy needs
  pub stand_for : StandForTables p i pages (tables_of_subjects p i)
  unfolding tables_of_subjects
  stand_for = record { checkable = can_check; walks = walks_from; reads = reads_from; sound = sound_from; one_path = paths_from }
