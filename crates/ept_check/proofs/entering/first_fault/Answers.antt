use Rattle.std.proofs.Common.{◌≡◌, ◌+◌, ◌*◌, ◌^◌, Some, length, refl, sym, ap, subst, ◌∙◌, arith}
use Rattle.std.proofs.lemmas.List.{length-map}
use Rattle.ept_check.proofs.Given.{root_at_index}
use Rattle.ept_check.proofs.Steps.{all_none, nothing_known, root_here, start_here, subject_found, subject_known, subject_none}
use Rattle.ept_check.specs.Faults.{table_fault_at}
use Rattle.ept_check.specs.Known.{Known}
use Rattle.ept_check.specs.Looked.{is_entered}
use Rattle.ept_check.specs.Search.{first_from}
use Rattle.ept_check.specs.Tables.{tables_in}
use Rattle.machine_layout.specs.Walks.{root_of}
use Rattle.ept_check.proofs.entering.first_fault.Goals as goal

pub loop-subject-init : goal.loop-subject-init
loop-subject-init g c =
    let m = g.E.Entries.pages c.args.entries.now in
    let v = tables_in m c.args.tables.now c.args.subjects.now in
    record {
      none = start_here (table_fault_at v);
      kept = refl;
      work = omega arith;
      long = c.requires.long;
      known = nothing_known v (is_entered c.args.tables.now c.args.looked.now) c.requires.none;
    }

pub enter-requires-clause-at : goal.enter-requires-clause-at
enter-requires-clause-at g c =
    let m = g.E.Entries.pages c.args.entries.now in
    let v = tables_in m c.args.tables.now c.args.subjects.now in
    rw c.loop-subject.invariant.kept
    (root_here v c.loop-subject.subject
    ∙ ap (λ n. Some (n, 7)) (root_at_index c.args.subjects.now c.loop-subject.subject c.index-subjects-subject.result c.loop-subject-test.true))

pub enter-requires-clause-given : goal.enter-requires-clause-given
enter-requires-clause-given g c = rw c.loop-subject.invariant.kept c.requires.given

pub enter-requires-clause-known : goal.enter-requires-clause-known
enter-requires-clause-known g c = rw c.loop-subject.invariant.kept c.loop-subject.invariant.known

pub returns-in-Some-clause-fault : goal.returns-in-Some-clause-fault
returns-in-Some-clause-fault g c =
    let m = g.E.Entries.pages c.args.entries.now in
    let v = tables_in m c.args.tables.now c.args.subjects.now in
    let many : length v.roots ≡ length c.args.subjects.now = length-map c.args.subjects.now (λ s. root_of s.eptp) in
    subject_found v c.loop-subject.subject c.in-Some.fault (omega (arith, many, c.loop-subject-test.true)) c.loop-subject.invariant.none (sym (c.in-Some.ensures.found ∙ ap (λ ps. first_from (table_fault_at (tables_in ps c.args.tables.now c.args.subjects.now)) (2 ^ 36 * c.loop-subject.subject) (2 ^ 36)) c.loop-subject.invariant.kept))

pub loop-subject-preserved : goal.loop-subject-preserved
loop-subject-preserved g c =
    let m = g.E.Entries.pages c.args.entries.now in
    let v = tables_in m c.args.tables.now c.args.subjects.now in
    let same = c.loop-subject.invariant.kept in
    let after = is_entered c.args.tables.now c.enter.new.looked in
    let first = 2 ^ 36 * c.loop-subject.subject in
    record {
      none = subject_none (table_fault_at v) c.loop-subject.subject c.loop-subject.invariant.none (sym (c.in_default.ensures.found ∙ ap (λ ps. first_from (table_fault_at (tables_in ps c.args.tables.now c.args.subjects.now)) first (2 ^ 36)) same));
      kept = c.enter.ensures.pages ∙ same;
      work = omega (arith, c.in_default.ensures.work_of_none refl, c.loop-subject.invariant.work);
      long = c.enter.ensures.long;
      known = subject_known v after c.loop-subject.subject first 3 refl (subst (λ ps. Known (tables_in ps c.args.tables.now c.args.subjects.now) after (first + 2 ^ 36) first 3) same (c.in_default.ensures.known refl));
    }

pub returns-clause-fault : goal.returns-clause-fault
returns-clause-fault g c =
    let m = g.E.Entries.pages c.args.entries.now in
    let v = tables_in m c.args.tables.now c.args.subjects.now in
    let many : length v.roots ≡ length c.args.subjects.now = length-map c.args.subjects.now (λ s. root_of s.eptp) in
    all_none v c.loop-subject.subject (omega (arith, many, c.loop-subject-test.false, c.loop-subject.auto.subject-end)) c.loop-subject.invariant.none
