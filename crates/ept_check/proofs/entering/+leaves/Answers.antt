use Rattle.std.proofs.Common.{◌≡◌, ◌∙◌, ◌-◌, Some, sym, ap, arith}
use Rattle.machine_layout.specs.Walks.{entry_of, index_at}
use Rattle.ept_check.specs.Pieces.{leaves}
use Rattle.muen_num.specs.Numbers.{is_among}
use Rattle.ept_check.proofs.Leaving.{leaves_here, leaves_not, leaves_on, some_level}
use Rattle.ept_check.proofs.entering.+leaves.Goals as goal

pub returns-then-not-is_table-clause-leaves : goal.returns-then-not-is_table-clause-leaves
returns-then-not-is_table-clause-leaves g t c =
    sym (leaves_here (entry_of (g.E.Entries.pages c.args.entries.now)) (is_among c.args.tables.now) c.args.addr c.args.level c.args.page (sym c.is_table.ensures ∙ c.if-not-is_table.true))

pub returns-then-not-leads_on-clause-leaves : goal.returns-then-not-leads_on-clause-leaves
returns-then-not-leads_on-clause-leaves g t c =
    let m = g.E.Entries.pages c.args.entries.now in
    let is : entry_of m c.args.page (index_at c.args.level c.args.addr) ≡ Some c.in-Some.entry = ap (entry_of m c.args.page) (sym c.index_at.ensures.value) ∙ sym c.in-Some.ensures.entry in
    sym (leaves_not (entry_of m) (is_among c.args.tables.now) c.args.addr c.args.level c.args.page c.in-Some.entry (sym c.is_table.ensures ∙ c.if-not-is_table.false) is (sym c.leads_on.ensures ∙ c.if-not-leads_on.true))

pub returns-clause-leaves : goal.returns-clause-leaves
returns-clause-leaves g t c =
    let m = g.E.Entries.pages c.args.entries.now in
    let is : entry_of m c.args.page (index_at c.args.level c.args.addr) ≡ Some c.in-Some.entry = ap (entry_of m c.args.page) (sym c.index_at.ensures.value) ∙ sym c.in-Some.ensures.entry in
    c.leaves.ensures.leaves
    ∙ ap (λ ps. leaves (entry_of ps) (is_among c.args.tables.now) c.args.addr (c.args.level - 1) c.page_number.result) c.in-Some.ensures.pages
    ∙ ap (λ n. leaves (entry_of m) (is_among c.args.tables.now) c.args.addr (c.args.level - 1) n) c.page_number.ensures.value
    ∙ sym (leaves_on (entry_of m) (is_among c.args.tables.now) c.args.addr c.args.level c.args.page c.in-Some.entry (sym c.is_table.ensures ∙ c.if-not-is_table.false) is (sym c.leads_on.ensures ∙ c.if-not-leads_on.false))

pub returns-clause-work : goal.returns-clause-work
returns-clause-work g t c =
    let some = some_level c.args.level c.in-Some.entry (sym c.leads_on.ensures ∙ c.if-not-leads_on.false) in
    omega (arith, some, c.leaves.ensures.work, c.in-Some.ensures.reads)
