use Rattle.std.proofs.Common.{◌≤◌, not, sym, ap, subst, ◌∙◌}
use Rattle.std.specs.List.{list_all}
use Rattle.expand_kernel.specs.Grants.{AreGrantsOf}
use Rattle.iobm_emit.specs.Ports.{is_granted_access}
use Rattle.machine_layout.specs.Exits.{area_bytes}
use Rattle.msrbm_emit.specs.Area.{area_of, msr_count}
use Rattle.msrbm_emit.specs.Msrs.{is_covered}
use Rattle.policy_lawful.specs.MsrGrants.{is_granted}
use Rattle.muen_num.proofs.Pairs.{both_at}
use Rattle.muen_num.specs.declared.limits.TheConstants.{MOST_MSRS, PAGE}
use Rattle.machine_layout.specs.PageFields.{padded}
use Rattle.policy_lawful.proofs.KeptRules.{rules_of}
use Rattle.subject_emit.proofs.KeptMsrs.{msrs_covered, msrs_few}
use Rattle.subject_emit.proofs.subject_pages.pages.Goals as goal

pub msr_bitmap-requires : goal.msr_bitmap-requires
msr_bitmap-requires c =
    let r = c.args.placed.now.expanded.lawful in
    let granted = both_at (AreGrantsOf r) r.subjects c.args.placed.now.expanded.grants c.args.index c.args.subject.now c.args.granted.now c.tables.ensures.placed.expansion.grants c.requires.subject c.requires.granted in
    ap (list_all is_covered) c.items-2.ensures ∙ msrs_covered r c.args.index c.args.subject.now c.args.granted.now c.requires.subject granted (rules_of c.tables.ensures.placed.lawful).rule_11

pub msr_area-requires : goal.msr_area-requires
msr_area-requires c =
    let r = c.args.placed.now.expanded.lawful in
    let granted = both_at (AreGrantsOf r) r.subjects c.args.placed.now.expanded.grants c.args.index c.args.subject.now c.args.granted.now c.tables.ensures.placed.expansion.grants c.requires.subject c.requires.granted in
    subst (λ msrs. msr_count msrs ≤ MOST_MSRS) (sym c.items-3.ensures) (msrs_few r c.args.index c.args.subject.now c.args.granted.now c.requires.subject granted (rules_of c.tables.ensures.placed.lawful).rule_20)

pub returns : goal.returns
returns c =
    let r = c.args.placed.now.expanded.lawful in
    let granted = both_at (AreGrantsOf r) r.subjects c.args.placed.now.expanded.grants c.args.index c.args.subject.now c.args.granted.now c.tables.ensures.placed.expansion.grants c.requires.subject c.requires.granted in
    record {
      state = c.in_ok-first_state.ensures;
      tables = c.in_ok-tables.ensures.tables;
      ports_len = c.in_ok-port_bitmaps.ensures.len;
      ports = λ port size. c.in_ok-port_bitmaps.ensures.exits port size ∙ ap (λ ports. not (is_granted_access ports port size)) c.items.ensures;
      msrs_len = c.in_ok-msr_bitmap.ensures.len;
      msrs = λ index write. c.in_ok-msr_bitmap.ensures.exits index write ∙ ap (λ msrs. not (is_granted msrs index write)) c.items-2.ensures;
      few = msrs_few r c.args.index c.args.subject.now c.args.granted.now c.requires.subject granted (rules_of c.tables.ensures.placed.lawful).rule_20;
      area = c.in_ok-msr_area.ensures ∙ ap (λ msrs. padded PAGE (area_bytes (area_of msrs))) c.items-3.ensures;
    }
