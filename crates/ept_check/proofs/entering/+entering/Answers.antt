use Rattle.std.proofs.Common.{◌≡◌, ℕ, ◌+◌, ◌-◌, ◌*◌, ◌/◌, ◌%◌, ◌^◌, ◌<◌, Some, suc, subst, [], length, refl, sym, ap, ◌∙◌, arith, rules}
use Rattle.std.specs.Prelude.{slice_index_or}
use Rattle.ept_check.proofs.Following.{ComesTo, Follows, below_found, below_past, enters, found_later, goes_below, last_known, leaves_below, next_known, none_later, not_table, seen_before, start_none, stops_found, stops_known}
use Rattle.ept_check.proofs.Given.{fine_at, windows_of}
use Rattle.ept_check.proofs.Sizes.{first_here, subject_there}
use Rattle.ept_check.proofs.Steps.{told}
use Rattle.ept_check.specs.Entries.{pages}
use Rattle.ept_check.specs.Faults.{contents, table_fault_at}
use Rattle.ept_check.specs.Known.{Known, come}
use Rattle.ept_check.specs.Looked.{is_entered}
use Rattle.ept_check.specs.Pieces.{led_by_entry}
use Rattle.ept_check.specs.Search.{first_from}
use Rattle.ept_check.specs.Sound.{AreSubjectWindows}
use Rattle.ept_check.specs.Tables.{Tables, subject_of, tables_in}
use Rattle.ept_check.specs.declared.entering.Table.{Table}
use Rattle.machine_layout.specs.Memory.{is_there}
use Rattle.ept_check.proofs.entering.+entering.Given.{Over}
use Rattle.ept_check.proofs.entering.+entering.Goals.{follow-After-pages}
use Rattle.ept_check.proofs.entering.+entering.Goals as goal

-- ---- entering a table

-- the walk comes to it
comes : (v : Tables) (table : Table) → table.level < 4 → come v table.first (3 - table.level) table.level ≡ Some (table.page, table.rights)
    → ComesTo v table.first table.level table.page table.rights
comes v table level at = record { few = omega (arith, level); at = at }

-- it isn't declared
pub enter-returns-in-Outside-clause-found : goal.enter-returns-in-Outside-clause-found
enter-returns-in-Outside-clause-found g t c =
    not_table (comes _ c.args.table c.requires.level c.requires.at) c.fault.result c.fault.ensures c.in-Outside.ensures.enters.0

-- it was entered before, and a walk leaves the tables below it
pub enter-returns-then-leaves-clause-found : goal.enter-returns-then-leaves-clause-found
enter-returns-then-leaves-clause-found g t c =
    leaves_below (comes _ c.args.table c.requires.level c.requires.at) c.fault-then-leaves.result c.addr_of-addr.result c.fault-then-leaves.ensures
    c.requires.known c.addr_of-addr.ensures.value (sym c.leaves.ensures.leaves ∙ c.if-leaves.true)

-- .. and none does
pub enter-returns-else-leaves-clause-found : goal.enter-returns-else-leaves-clause-found
enter-returns-else-leaves-clause-found g t c =
    seen_before (comes _ c.args.table c.requires.level c.requires.at) c.fault-in-Again.result c.addr_of-addr.result c.fault-in-Again.ensures
    c.requires.first c.requires.known c.in-Again.ensures.enters.0 c.addr_of-addr.ensures.value (sym c.leaves.ensures.leaves ∙ c.if-leaves.false)

-- it is entered now
pub enter-loop-i-init : goal.enter-loop-i-init
enter-loop-i-init g t c =
    let table = c.args.table in
    let now = c.in-Now.ensures.enters in
    record {
      none = start_none _ table.first table.level;
      kept = refl;
      there = c.requires.given.tables.there table.page now.is;
      work = omega (arith, now.one);
      long = c.in-Now.ensures.long;
      known =
          enters (comes _ c.args.table c.requires.level c.requires.at) (is_entered c.args.tables.now c.enter.new.self) now.is now.before now.after now.others
          c.requires.known (table.first + 0 * pages table.level) (omega arith);
    }

pub enter-follow-requires : goal.enter-follow-requires
enter-follow-requires g t c = rw c.loop-i.invariant.kept (search rules)

-- an entry has a fault
pub enter-returns-in-Some-clause-found : goal.enter-returns-in-Some-clause-found
enter-returns-in-Some-clause-found g t c =
    let table = c.args.table in
    let i = c.loop-i.i in
    let x = table.first + i * pages table.level in
    let found = c.in-Some.ensures.found ∙ ap (λ m. first_from (table_fault_at (tables_in m c.args.tables.now c.args.subjects.now)) x (pages table.level)) c.loop-i.invariant.kept in
    found_later _ table.first table.level i x c.in-Some.fault (omega (arith, c.requires.level)) c.loop-i-test.true refl c.loop-i.invariant.none (sym found)

-- none has one so far
pub enter-loop-i-preserved : goal.enter-loop-i-preserved
enter-loop-i-preserved g t c =
    let table = c.args.table in
    let i = c.loop-i.i in
    let x = table.first + i * pages table.level in
    let kept = c.loop-i.invariant.kept in
    let found = c.in_default.ensures.found ∙ ap (λ m. first_from (table_fault_at (tables_in m c.args.tables.now c.args.subjects.now)) x (pages table.level)) kept in
    let seen = is_entered c.args.tables.now c.follow.new.looked in
    let known = subst (λ m. Known (tables_in m c.args.tables.now c.args.subjects.now) seen (x + pages table.level) table.first table.level) kept (c.in_default.ensures.known refl) in
    record {
      none = none_later _ table.first table.level i c.loop-i.invariant.none (sym found);
      kept = search rules;
      there = c.loop-i.invariant.there;
      work = omega (arith, c.loop-i.invariant.work, c.in_default.ensures.work_of_none refl);
      long = c.follow.ensures.long;
      known = next_known _ seen table.first table.level i known;
    }

-- no entry has one
pub enter-returns-after-loop-i-clause-known : goal.enter-returns-after-loop-i-clause-known
enter-returns-after-loop-i-clause-known g t c = λ h.
    last_known _ (is_entered c.args.tables.now c.loop-i.looked) c.args.table.first c.args.table.level c.loop-i.i (omega (arith, c.loop-i-test.false, c.loop-i.auto.i-end)) c.loop-i.invariant.known

-- ---- following an entry

module _ (g : Over) (t : ℕ) (c : follow-After-pages g t) where
  -- the tables, and the position from which the entry stands
  abbrev v : Tables
  v = tables_in (g.E.Entries.pages c.args.entries.now) c.args.tables.now c.args.subjects.now

  abbrev x : ℕ
  x = c.args.table.first + c.args.i * c.pages.result

  -- the entry is one of a table to which the walk comes
  follows : Follows v c.args.table.first c.args.table.level c.args.table.page c.args.table.rights c.args.i c.in-Some.entry
  follows = record {
    comes = record { few = omega (arith, c.requires.level); at = c.requires.at };
    first = c.requires.first;
    inside = c.requires.few;
    is = sym c.in-Some.ensures.entry;
  }

  -- that position as the entry's
  here : c.args.table.first + c.args.i * pages c.args.table.level ≡ x
  here = ap (λ n. c.args.table.first + c.args.i * n) (sym c.pages.ensures.value)

  -- there is a subject for it
  inside : x / 2 ^ 36 < length c.args.subjects.now
  inside =
      subst (λ n. n / 2 ^ 36 < length c.args.subjects.now) here
      (subject_there c.args.table.level c.args.table.first c.args.i (length c.args.subjects.now) follows.comes.few c.requires.few c.requires.last)

pub follow-compare-requires-clause-windows : goal.follow-compare-requires-clause-windows
follow-compare-requires-clause-windows g t c =
    let there = is_there (g.E.Entries.pages c.args.entries.now) in
    let subject = c.index-subjects-first in
    let within = inside g t (goal.at.follow-compare-requires-clause-windows g t c).After-pages in
    let fine = fine_at there c.args.subjects.now _ subject.result c.requires.given.windows within subject.is in
    rw c.in-Some.ensures.pages (subst (λ ws. AreSubjectWindows there ws) (sym c.items.ensures) fine)

pub follow-compare-requires-clause-first : goal.follow-compare-requires-clause-first
follow-compare-requires-clause-first g t c =
    let at = (goal.at.follow-compare-requires-clause-first g t c).After-pages in
    let table = c.args.table in
    subst (λ n. n % pages table.level ≡ 0) (here g t at) (first_here table.level table.first c.args.i (omega (arith, c.requires.level)) c.requires.first)

-- the entry references no table: what is found in what it maps
pub follow-returns-then-not-leads_on-clause-found : goal.follow-returns-then-not-leads_on-clause-found
follow-returns-then-not-leads_on-clause-found g t c =
    let at = (goal.at.follow-returns-then-not-leads_on-clause-found g t c).After-pages in
    let table = c.args.table in
    let entry = c.in-Some.entry in
    let first = x g t at in
    let ws = c.items.result.now in
    let own : slice_index_or (v g t at).windows (subject_of (table.first + c.args.i * pages table.level)) [] ≡ ws =
    ap (λ n. slice_index_or (v g t at).windows (n / 2 ^ 36) []) (here g t at)
    ∙ windows_of c.args.subjects.now (first / 2 ^ 36) c.index-subjects-first.result (inside g t at) c.index-subjects-first.is
    ∙ sym c.items.ensures in
    c.compare.ensures
    ∙ ap (λ m. first_from (contents (led_by_entry (is_there m) table.level entry table.rights) (told ws)) first (pages table.level)) c.in-Some.ensures.pages
    ∙ stops_found (follows g t at) first ws (sym c.leads_on.ensures ∙ c.if-not-leads_on.true) c.requires.known (here g t at) own

pub follow-returns-then-not-leads_on-clause-known : goal.follow-returns-then-not-leads_on-clause-known
follow-returns-then-not-leads_on-clause-known g t c = λ h.
    stops_known (follows g t (goal.at.follow-returns-then-not-leads_on-clause-known g t c).After-pages) (sym c.leads_on.ensures ∙ c.if-not-leads_on.true) c.requires.known

-- it references one, which is entered
pub follow-enter-requires : goal.follow-enter-requires
follow-enter-requires g t c =
    let at = (goal.at.follow-enter-requires g t c).After-pages in
    let on = sym c.leads_on.ensures ∙ c.if-not-leads_on.false in
    let below =
    goes_below (follows g t at) (x g t at) c.page_number.result c.rights_of.result (2 ^ 36 * length c.args.subjects.now) on c.requires.known (here g t at)
    c.page_number.ensures.value c.rights_of.ensures c.requires.last in
    let given = c.requires in
    rw c.in-Some.ensures.pages
    (λ κs le. (omega (arith, below.some), (le, (given.given, (given.long, (omega (arith, given.level), (below.first, (below.last, (below.at, below.known)))))))))

pub follow-returns-clause-known : goal.follow-returns-clause-known
follow-returns-clause-known g t c = λ h.
    let at = (goal.at.follow-returns-clause-known g t c).After-pages in
    let first = x g t at in
    let after = is_entered c.args.tables.now c.enter.new.looked in
    let level = c.args.table.level - 1 in
    let known = subst (λ m. Known (tables_in m c.args.tables.now c.args.subjects.now) after (first + pages (suc level)) first level) c.in-Some.ensures.pages (c.enter.ensures.known h) in
    below_past (follows g t at) after first (sym c.leads_on.ensures ∙ c.if-not-leads_on.false) (here g t at) known

pub follow-returns-clause-found : goal.follow-returns-clause-found
follow-returns-clause-found g t c =
    let at = (goal.at.follow-returns-clause-found g t c).After-pages in
    let first = x g t at in
    c.enter.ensures.found
    ∙ ap (λ m. first_from (table_fault_at (tables_in m c.args.tables.now c.args.subjects.now)) first (pages (suc (c.args.table.level - 1)))) c.in-Some.ensures.pages
    ∙ below_found (follows g t at) first (sym c.leads_on.ensures ∙ c.if-not-leads_on.false) (here g t at)
