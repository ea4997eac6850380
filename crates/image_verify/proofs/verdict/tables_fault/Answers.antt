use Rattle.std.proofs.Common.{◌≡◌, ◌<◌, length, List, None, Some, ℕ, ap, subst, sym, ◌∙◌}
use Rattle.std.specs.Prelude.{option_map}
use Rattle.ept_check.specs.Sound.{CanBeChecked}
use Rattle.ept_check.specs.Faults.{table_fault}
use Rattle.ept_check.specs.declared.types.SubjectTables.{SubjectTables}
use Rattle.image_memory.specs.Memory.{memory_of}
use Rattle.image_verify.proofs.Checked.{stand_for}
use Rattle.image_verify.proofs.Deciding.{fault_within, same_tables}
use Rattle.image_verify.specs.Filled.{IsFilled}
use Rattle.image_verify.specs.Verdict.{named, image_tables_of}
use Rattle.ept_check.specs.Memory.{Page}
use Rattle.phys_mem.specs.Found.{frames_kept}
use Rattle.policy_lawful.specs.Resolution.{Resolution, source_of}
use Rattle.image_verify.proofs.verdict.tables_fault.Goals as goal

pub check-requires : goal.check-requires
check-requires c =
    let i = c.args.image in
    let p = source_of c.args.expanded.now.lawful in
    let m : frames_kept c.of-entries.result.mem.now ≡ memory_of i = ap frames_kept c.of-entries.ensures.memory ∙ c.in_ok-memory.ensures in
    let ready = c.requires in
    let filled : IsFilled p ready.files i = record { lawful = c.in_ok-tables.ensures.expanded.lawful; parts = ready.parts; contents = ready.contents; many = ready.many } in
    let stand = stand_for p ready.files i filled c.in_ok-pages.pages.items c.in_ok-pages.ensures.pages in
    let made = c.in_ok-tables.ensures.tables ready.files ready.contents ready.many in
    record {
      given =
          subst (λ (ps : List Page). CanBeChecked ps c.deref.result.now c.deref-2.result.now) (sym m)
          (subst (λ (ns : List ℕ). CanBeChecked (memory_of i) ns c.deref-2.result.now) (sym c.deref.ensures.value)
          (subst (λ (ss : List SubjectTables). CanBeChecked (memory_of i) c.in_ok-pages.pages.items ss) (sym (c.deref-2.ensures.value ∙ made)) stand.checkable));
    }

pub returns-in-None : goal.returns-in-None
returns-in-None c =
    let i = c.args.image in
    let p = source_of c.args.expanded.now.lawful in
    let m : frames_kept c.of-entries.result.mem.now ≡ memory_of i = ap frames_kept c.of-entries.ensures.memory ∙ c.in_ok-memory.ensures in
    let made = c.in_ok-tables.ensures.tables c.requires.files c.requires.contents c.requires.many in
    let is : None ≡ table_fault (image_tables_of p i) = sym c.in-None.is ∙ c.in_ok-found.ensures.fault ∙ same_tables p i _ _ _ m (c.deref.ensures.value ∙ c.in_ok-pages.ensures.pages) (c.deref-2.ensures.value ∙ made) in
    ap (option_map (named p)) is

pub of_tables-requires : goal.of_tables-requires
of_tables-requires c =
    let i = c.args.image in
    let r = c.args.expanded.now.lawful in
    let p = source_of r in
    let m : frames_kept c.of-entries.result.mem.now ≡ memory_of i = ap frames_kept c.of-entries.ensures.memory ∙ c.in_ok-memory.ensures in
    let made = c.in_ok-tables.ensures.tables c.requires.files c.requires.contents c.requires.many in
    let is : Some c.in-Some.fault ≡ table_fault (image_tables_of p i) = sym c.in-Some.is ∙ c.in_ok-found.ensures.fault ∙ same_tables p i _ _ _ m (c.deref.ensures.value ∙ c.in_ok-pages.ensures.pages) (c.deref-2.ensures.value ∙ made) in
    subst (λ (r : Resolution). c.in-Some.fault.subject < length r.subjects) (sym c.policy_of.ensures) (fault_within r i c.in-Some.fault (sym is))

pub returns : goal.returns
returns c =
    let i = c.args.image in
    let p = source_of c.args.expanded.now.lawful in
    let m : frames_kept c.of-entries.result.mem.now ≡ memory_of i = ap frames_kept c.of-entries.ensures.memory ∙ c.in_ok-memory.ensures in
    let made = c.in_ok-tables.ensures.tables c.requires.files c.requires.contents c.requires.many in
    let is : Some c.in-Some.fault ≡ table_fault (image_tables_of p i) = sym c.in-Some.is ∙ c.in_ok-found.ensures.fault ∙ same_tables p i _ _ _ m (c.deref.ensures.value ∙ c.in_ok-pages.ensures.pages) (c.deref-2.ensures.value ∙ made) in
    ap (λ f. Some f) (c.of_tables.ensures ∙ ap (λ (r : Resolution). named (source_of r) c.in-Some.fault) c.policy_of.ensures) ∙ ap (option_map (named p)) is
