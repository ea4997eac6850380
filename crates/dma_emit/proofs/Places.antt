-- Where in the pages of a file the words of its tables are.
use Rattle.std.proofs.Common.{◌≡◌, inl, inr, ℕ, ◌+◌, ◌*◌, ◌<◌, ◌≤◌, true, cond, List, [], ◌++◌, length, get_or, refl, sym, ap, ◌∙◌, arith, length-append}
use Rattle.std.specs.List.{concat, flat_map, sum_by}
use Rattle.std.proofs.lemmas.Bool.{cases_Bool}
use Rattle.std.proofs.lemmas.List.Concat.{length-flat_map}
use Rattle.dma_emit.specs.declared.domains.Domains.{Domains}
use Rattle.dma_emit.specs.declared.layout.TheConstants.{BUSES}
use Rattle.dma_emit.specs.Emitted.{ArePages}
use Rattle.dma_emit.specs.Entries.{context_entry, root_entry, table_bytes}
use Rattle.dma_emit.specs.Layout.{buses, buses_below, context_page, domain_pages, has_device, on_bus, page_count, tables_page}
use Rattle.dma_emit.proofs.Layouts.{buses_are, pages_none, pages_some}
use Rattle.dma_emit.proofs.Lists.{concat_numbered, filter_sizes, flat_filter, part_at, part_left, part_right, sum_rises, sum_same, sum_times, where_passes}
use Rattle.dma_emit.proofs.Words.{length-table, word_in}
use Rattle.machine_layout.specs.Memory.{le_number}
use Rattle.muen_num.specs.Range.{numbers_below}

module _ (d : Domains) (root : ℕ) (pages : List ℕ) (are : ArePages d root pages) where
  abbrev root_table : List ℕ
  root_table = table_bytes (root_entry d root)

  abbrev context : ℕ → List ℕ
  context bus = table_bytes (context_entry d root bus)

  abbrev contexts : List ℕ
  contexts = flat_map context (buses d)

  abbrev of_domain : ℕ → List ℕ
  of_domain n = get_or are.tables n []

  -- ---- how long each part is

  root_long : length root_table ≡ 4096
  root_long = length-table (root_entry d root)

  context_long : (bus : ℕ) → length (context bus) ≡ 4096
  context_long bus = length-table (context_entry d root bus)

  contexts_are : (n : ℕ) → n ≡ BUSES → contexts ≡ flat_map (where_passes (on_bus d) context) (numbers_below n)
  contexts_are n e = ap (flat_map context) (buses_are d n e) ∙ flat_filter (on_bus d) context (numbers_below n)

  contexts_size : (n : ℕ) → sum_by (λ k. length (where_passes (on_bus d) context k)) (numbers_below n) ≡ 4096 * length (buses_below d n)
  contexts_size n = filter_sizes (on_bus d) context 4096 context_long n

  contexts_long_of : (n : ℕ) → n ≡ BUSES → length contexts ≡ 4096 * length (buses d)
  contexts_long_of n e =
      ap length (contexts_are n e)
      ∙ (length-flat_map (where_passes (on_bus d) context) (numbers_below n)
      ∙ (contexts_size n ∙ ap (λ ks. 4096 * length ks) (sym (buses_are d n e))))

  contexts_long : length contexts ≡ 4096 * length (buses d)
  contexts_long = contexts_long_of BUSES refl

  domain_long : (n : ℕ) → n < length d.windows → length (of_domain n) ≡ 4096 * domain_pages d n
  domain_long n l =
      elim (cases_Bool (has_device d n)) [
        | inl has ↦
            let len = ((are.are.each n l).some has).len in
            let some = pages_some d n has in
            omega arith
        | inr none ↦
            let empty = ap length ((are.are.each n l).none none) in
            let no_pages = pages_none d n none in
            omega arith
      ]

  tables_size : (n : ℕ) → n ≤ length d.windows → sum_by (λ k. length (of_domain k)) (numbers_below n) ≡ 4096 * sum_by (domain_pages d) (numbers_below n)
  tables_size n l = sum_same (λ k. length (of_domain k)) (λ k. 4096 * domain_pages d k) n (λ k m. domain_long k (omega arith)) ∙ sum_times (domain_pages d) 4096 n

  tables_are : concat are.tables ≡ flat_map of_domain (numbers_below (length d.windows))
  tables_are = concat_numbered are.tables (length d.windows) are.are.many

  tables_long : length (concat are.tables) ≡ 4096 * sum_by (domain_pages d) (numbers_below (length d.windows))
  tables_long = ap length tables_are ∙ (length-flat_map of_domain (numbers_below (length d.windows)) ∙ tables_size (length d.windows) (omega arith))

  pub pages_long : length pages ≡ 4096 * page_count d
  pages_long =
      let all = ap length are.pages_are in
      let two = length-append (root_table ++ contexts) (concat are.tables) in
      let one = length-append root_table contexts in
      let a = root_long in
      let b = contexts_long in
      let c = tables_long in
      omega arith

  front_long : length (root_table ++ contexts) ≡ 4096 * (1 + length (buses d))
  front_long =
      let one = length-append root_table contexts in
      let a = root_long in
      let b = contexts_long in
      omega arith

  -- ---- words

  -- of the root table
  pub root_word : (o : ℕ) → o + 8 ≤ 4096 → word_in pages o ≡ word_in root_table o
  root_word o room =
      let a = root_long in
      let b = length-append root_table contexts in
      ap (λ t. word_in t o) are.pages_are
      ∙ (ap le_number (part_left (root_table ++ contexts) (concat are.tables) o 8 (omega arith)) ∙ ap le_number (part_left root_table contexts o 8 (omega arith)))

  passes_here : (bus : ℕ) → on_bus d bus ≡ true → where_passes (on_bus d) context bus ≡ context bus
  passes_here bus h = ap (λ b. cond b (context bus) []) h

  context_room : (n bus : ℕ) → n ≡ BUSES → bus < n → on_bus d bus ≡ true → 4096 * length (buses_below d bus) + 4096 ≤ length contexts
  context_room n bus e l h =
      let size : ℕ → ℕ = λ k. length (where_passes (on_bus d) context k) in
      let more = sum_rises size bus n l in
      let here : size bus ≡ 4096 = ap length (passes_here bus h) ∙ context_long bus in
      let before = contexts_size bus in
      let all = contexts_size n in
      let same = ap length (buses_are d n e) in
      let long = contexts_long in
      omega arith

  -- of the context table of a bus
  context_word_of : (n bus o : ℕ) → n ≡ BUSES → bus < n → on_bus d bus ≡ true → o + 8 ≤ 4096 → word_in contexts (4096 * length (buses_below d bus) + o) ≡ word_in (context bus) o
  context_word_of n bus o e l h room =
      let many : length (where_passes (on_bus d) context bus) ≡ 4096 = ap length (passes_here bus h) ∙ context_long bus in
      ap (λ t. word_in t (4096 * length (buses_below d bus) + o)) (contexts_are n e)
      ∙ (ap (λ k. word_in (flat_map (where_passes (on_bus d) context) (numbers_below n)) (k + o)) (sym (contexts_size bus))
      ∙ (ap le_number (part_at (where_passes (on_bus d) context) n bus o 8 l (omega arith)) ∙ ap (λ t. word_in t o) (passes_here bus h)))

  pub context_word : (bus o : ℕ) → bus < BUSES → on_bus d bus ≡ true → o + 8 ≤ 4096 → word_in pages (4096 * context_page d bus + o) ≡ word_in (context bus) o
  context_word bus o l h room =
      let below = 4096 * length (buses_below d bus) in
      let place : 4096 * context_page d bus + o ≡ 4096 + (below + o) = omega arith in
      let within = context_room BUSES bus refl l h in
      let front = front_long in
      let one = length-append root_table contexts in
      let first = root_long in
      ap (word_in pages) place
      ∙ (ap (λ t. word_in t (4096 + (below + o))) are.pages_are
      ∙ (ap le_number (part_left (root_table ++ contexts) (concat are.tables) (4096 + (below + o)) 8 (omega arith))
      ∙ (ap le_number (part_right root_table contexts 4096 (below + o) 8 root_long)
      ∙ context_word_of BUSES bus o refl l h room)))

  -- of the tables of a domain
  pub tables_word : (n o : ℕ) → n < length d.windows → o + 8 ≤ 4096 * domain_pages d n → word_in pages (4096 * tables_page d n + o) ≡ word_in (of_domain n) o
  tables_word n o l room =
      let below = 4096 * sum_by (domain_pages d) (numbers_below n) in
      let front = 4096 * (1 + length (buses d)) in
      let place : 4096 * tables_page d n + o ≡ front + (below + o) = omega arith in
      let long = domain_long n l in
      ap (word_in pages) place
      ∙ (ap (λ t. word_in t (front + (below + o))) are.pages_are
      ∙ (ap le_number (part_right (root_table ++ contexts) (concat are.tables) front (below + o) 8 front_long)
      ∙ (ap (λ t. word_in t (below + o)) tables_are
      ∙ (ap (λ k. word_in (flat_map of_domain (numbers_below (length d.windows))) (k + o)) (sym (tables_size n (omega arith)))
      ∙ ap le_number (part_at of_domain (length d.windows) n o 8 l (omega arith))))))
