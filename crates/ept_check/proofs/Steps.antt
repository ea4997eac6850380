-- Steps of the code, over plain variables.
use Rattle.std.proofs.Common.{◌≡◌, ℕ, ◌+◌, ◌-◌, ◌*◌, ◌/◌, ◌%◌, ◌^◌, ◌<◌, ◌≤◌, Bool, false, List, [], Option, Some, None, length, refl, sym, ap, subst, ◌∙◌, inl, inr, arith}
use Rattle.std.specs.Prelude.{slice_index, slice_index_or}
use Rattle.std.specs.List.{All}
use Rattle.std.proofs.lemmas.Bool.{true≢false}
use Rattle.ept_check.proofs.Firsts.{head_found, in_below, later_found, none_from, none_joined, same_from}
use Rattle.ept_check.proofs.Knowns.{moves}
use Rattle.ept_check.proofs.Pieces.{contents_same, piece_none}
use Rattle.ept_check.proofs.Sizes.{far_addr, subject_on}
use Rattle.ept_check.specs.Entries.{pages}
use Rattle.ept_check.specs.Faults.{contents, table_fault_at, table_fault}
use Rattle.ept_check.specs.Known.{IsBefore, Known, Reads, come}
use Rattle.ept_check.specs.Pieces.{HasNoEdgeBetween, led_by_entry}
use Rattle.ept_check.specs.Search.{first_from}
use Rattle.ept_check.specs.Sound.{AreSubjectWindows}
use Rattle.ept_check.specs.Tables.{Tables, addr_of, expected_walk, subject_of}
use Rattle.ept_check.specs.declared.types.TableFault.{TableFault}
use Rattle.ept_emit.specs.Emitted.{translation, translation_in, window_at}
use Rattle.ept_emit.specs.declared.window.Window.{Window}
use Rattle.muen_num.specs.declared.access.AccessKind.{AccessKind}
use Rattle.machine_layout.specs.declared.walk.Walk.{Walk}

-- ---- an entry that references no table, piece by piece

-- where windows lead a position
abbrev pub told : List Window → ℕ → AccessKind → Walk
told ws q kind = translation ws (addr_of q) kind

module _ (there : ℕ → Bool) (ws : List Window) (level e rights first : ℕ) where
  -- what is found at a position, against them
  abbrev found_in : ℕ → Option TableFault
  found_in q = contents (led_by_entry there level e rights) (told ws) q

  -- without a fault at an address there is none up to where the next piece begins
  pub piece_step : (at addr next : ℕ) → addr ≡ addr_of at → level ≤ 3 → first % pages level ≡ 0 → first ≤ at → at < first + pages level
      → AreSubjectWindows there ws → All (HasNoEdgeBetween addr next) ws → addr < next → next ≤ addr + 4096 * (first + pages level - at) → found_in at ≡ None
      → first_from found_in first (at - first) ≡ None → first_from found_in first (at + (next - addr) / 4096 - first) ≡ None
  piece_step at addr next same a b c d fine apart more near here before =
      let n = (next - addr) / 4096 in
      let few : n ≤ first + pages level - at = omega (arith, near) in
      none_joined found_in first (at - first) n (at + n - first) at (omega (arith, c)) (omega (arith, c)) before
      (none_from found_in at n (λ k ge lt.
      let inside : k < first + pages level = omega (arith, lt, few, d) in
      let far = far_addr level first at k a b c ge inside in
      piece_none there ws level e rights first at k next a b c ge inside fine (subst (λ x. All (HasNoEdgeBetween x next) ws) same apart) (omega (arith, far, lt, ge, more, same)) here))

  -- the window that is found is the one to ask
  pub piece_here : (at addr : ℕ) (window : Option Window) → addr ≡ addr_of at → window ≡ window_at ws addr
      → contents (led_by_entry there level e rights) (λ q kind. translation_in window (addr_of q) kind) at ≡ found_in at
  piece_here at addr window same is =
      contents_same (led_by_entry there level e rights) (led_by_entry there level e rights) (λ q kind. translation_in window (addr_of q) kind) (told ws) at (λ kind. refl)
      (λ kind. ap (λ o. translation_in o (addr_of at) kind) (is ∙ ap (window_at ws) same))

  -- before the first position there is none
  pub piece_start : first_from found_in first (first - first) ≡ None
  unfolding first_from
  piece_start = let none : first - first ≡ 0 = omega arith in rw none refl

  -- a fault behind positions without one is the first
  pub piece_found : (at : ℕ) (x : TableFault) → first ≤ at → at < first + pages level → found_in at ≡ Some x → first_from found_in first (at - first) ≡ None
      → Some x ≡ first_from found_in first (pages level)
  piece_found at x a b here before =
      let n = first + pages level - at in
      sym (later_found found_in first (at - first) n (pages level) at x (omega (arith, a, b)) (omega (arith, a)) before
      (head_found found_in at n x here (omega (arith, b))))

-- the windows of a subject are those of each position of an entry
pub told_here : (v : Tables) (l e r x : ℕ) (ws : List Window) → l ≤ 3 → x % pages l ≡ 0 → slice_index_or v.windows (subject_of x) [] ≡ ws
    → first_from (contents (led_by_entry v.there l e r) (told ws)) x (pages l) ≡ first_from (contents (led_by_entry v.there l e r) (expected_walk v)) x (pages l)
told_here v l e r x ws a b is = same_from (contents (led_by_entry v.there l e r) (told ws)) (contents (led_by_entry v.there l e r) (expected_walk v)) x (pages l) (λ p ge lt.
    contents_same (led_by_entry v.there l e r) (led_by_entry v.there l e r) (told ws) (expected_walk v) p (λ kind. refl) (λ kind.
    sym (ap (λ s. translation (slice_index_or v.windows s []) (addr_of p) kind) (sym (subject_on l x x p a b (omega arith) ge lt)) ∙ ap (λ vs. translation vs (addr_of p) kind) is)))

-- ---- all subjects

-- nothing is before the first position
not_first : (v : Tables) (p m t : ℕ) → Reads v p m t → IsBefore p m 0 0 4 → ⊥
not_first v p m t r b = let deep = r.depth in elim b [ inl x ↦ omega (arith, x) | inr x ↦ let far = x.1 in omega (arith, far, deep) ]

-- where none was entered nothing is known
pub nothing_known : (v : Tables) (seen : ℕ → Bool) → ((t : ℕ) → seen t ≡ false) → Known v seen 0 0 4
nothing_known v seen none =
    let no = λ (p m t : ℕ) (r : Reads v p m t) (b : IsBefore p m 0 0 4). not_first v p m t r b in
    record {
      only = λ t h. absurd (true≢false (sym h ∙ none t));
      all = λ p m t r b. absurd (no p m t r b);
      apart = λ p m o n t r s b d. absurd (no p m t r b);
      tables = λ t h. absurd (true≢false (sym h ∙ none t));
    }

-- at its first position a walk comes to a subject's root
pub root_here : (v : Tables) (subject : ℕ) → come v (2 ^ 36 * subject) 0 3 ≡ Some (slice_index v.roots subject, 7)
unfolding come
root_here v subject = let e : 2 ^ 36 * subject / 2 ^ 36 ≡ subject = omega arith in ap (λ n. Some (slice_index v.roots n, 7)) e

-- the fault of all tables is the first of their positions
fault_is : (v : Tables) → table_fault v ≡ first_from (table_fault_at v) 0 (2 ^ 36 * length v.roots)
unfolding table_fault
fault_is v = in_below (table_fault_at v) (2 ^ 36 * length v.roots)

-- a fault of a subject behind subjects without one is the first
pub subject_found : (v : Tables) (subject : ℕ) (x : TableFault) → subject < length v.roots → first_from (table_fault_at v) 0 (2 ^ 36 * subject) ≡ None
    → first_from (table_fault_at v) (2 ^ 36 * subject) (2 ^ 36) ≡ Some x → Some x ≡ table_fault v
subject_found v subject x l none some =
    sym (fault_is v ∙ later_found (table_fault_at v) 0 (2 ^ 36 * subject) (2 ^ 36) (2 ^ 36 * length v.roots) (2 ^ 36 * subject) x (omega (arith, l)) (omega arith) none some)

-- no fault in a subject more
pub subject_none : (f : ℕ → Option TableFault) (subject : ℕ) → first_from f 0 (2 ^ 36 * subject) ≡ None → first_from f (2 ^ 36 * subject) (2 ^ 36) ≡ None
    → first_from f 0 (2 ^ 36 * (subject + 1)) ≡ None
subject_none f subject a b = none_joined f 0 (2 ^ 36 * subject) (2 ^ 36) (2 ^ 36 * (subject + 1)) (2 ^ 36 * subject) (omega arith) (omega arith) a b

-- behind a subject the next one begins
pub subject_known : (v : Tables) (seen : ℕ → Bool) (subject q l : ℕ) → q ≡ 2 ^ 36 * subject → Known v seen (q + 2 ^ 36) q l
    → Known v seen (2 ^ 36 * (subject + 1)) (2 ^ 36 * (subject + 1)) 4
subject_known v seen subject q l e h =
    let next : q + 2 ^ 36 ≡ 2 ^ 36 * (subject + 1) = omega (arith, e) in
    moves v seen (q + 2 ^ 36) q l (2 ^ 36 * (subject + 1)) (2 ^ 36 * (subject + 1)) 4 h
    (λ p m t r b. let deep = r.depth in record {
      o = p;
      reads = r;
      above = refl;
      before = inl
          (elim b [ inl x ↦ omega (arith, x, next) | inr x ↦ let far = x.1 in absurd (omega (arith, far, deep)) ]);
    })
    (λ p m t r b. inl (elim b [ inl x ↦ omega (arith, x, next) | inr x ↦ let same = x.0 in omega (arith, same, next) ]))

-- where no subject has a fault there is none
pub all_none : (v : Tables) (subject : ℕ) → subject ≡ length v.roots → first_from (table_fault_at v) 0 (2 ^ 36 * subject) ≡ None → None ≡ table_fault v
all_none v subject e none = sym (fault_is v ∙ ap (λ n. first_from (table_fault_at v) 0 (2 ^ 36 * n)) (sym e) ∙ none)

-- of no subject there is none
pub start_here : (f : ℕ → Option TableFault) → first_from f 0 0 ≡ None
unfolding first_from
start_here f = refl
