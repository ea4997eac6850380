use Rattle.std.proofs.Common.{◌∙◌, ◌+◌, ◌*◌, ◌/◌, ◌%◌, sym, ap, subst, arith}
use Rattle.muen_num.specs.Access.{kind_bit}
use Rattle.machine_layout.specs.Memory.{is_there}
use Rattle.machine_layout.specs.Walks.{leaf_end}
use Rattle.ept_walk.specs.Ends.{judged, LeadsToPage}
use Rattle.ept_walk.specs.Cache.{FitsCached, holds_of}
use Rattle.ept_walk.specs.declared.cached.CachedWalk.{CachedWalk}
use Rattle.ept_walk.specs.declared.trace.End.TheVariants.{Absent, Invalid}
use Rattle.ept_walk.proofs.CacheLaws.{miss, miss_leads, stands_new, stands_kept, held_kept, leads_nowhere}
use Rattle.ept_walk.proofs.cached.CachedWalk.walk_anew.Goals as goal
use Rattle.ept_walk.proofs.cached.CachedWalk.walk_anew.Goals.{then-is_there, else-is_there}

pub returns-in-Absent-clause-walk : goal.returns-in-Absent-clause-walk
returns-in-Absent-clause-walk g c =
    let m = g.M.PhysMem.pages c.args.mem.now in
    sym (miss m c.args.eptp c.args.addr c.args.kind Absent (c.follow-end.ensures.end c.args.kind ∙ ap (judged (is_there m) (4096 * (c.args.addr / 4096)) (kind_bit c.args.kind)) c.in-Absent.is))

pub returns-in-Invalid-clause-walk : goal.returns-in-Invalid-clause-walk
returns-in-Invalid-clause-walk g c =
    let m = g.M.PhysMem.pages c.args.mem.now in
    sym (miss m c.args.eptp c.args.addr c.args.kind Invalid (c.follow-end.ensures.end c.args.kind ∙ ap (judged (is_there m) (4096 * (c.args.addr / 4096)) (kind_bit c.args.kind)) c.in-Invalid.is))

pub returns-after-is_there-clause-walk : goal.returns-after-is_there-clause-walk
returns-after-is_there-clause-walk g c =
    let m = g.M.PhysMem.pages c.args.mem.now in
    c.leaf_end.ensures c.args.addr
    ∙ (ap (λ want. leaf_end (is_there m) c.args.addr want c.in-Leads.target.rights (c.in-Leads.target.address + c.args.addr % 4096)) c.bit.ensures
    ∙ sym (miss_leads m c.args.eptp c.args.addr c.args.kind c.in-Leads.target (subst LeadsToPage c.in-Leads.is c.follow-end.ensures.page) (c.follow-end.ensures.end c.args.kind ∙ ap (judged (is_there m) (4096 * (c.args.addr / 4096)) (kind_bit c.args.kind)) c.in-Leads.is)))

pub returns-after-is_there-clause-fits : goal.returns-after-is_there-clause-fits
returns-after-is_there-clause-fits g c =
    let m = g.M.PhysMem.pages c.args.mem.now in
    let old = c.args.self.now in
    elim c.if-is_there.branch [
      | then-is_there w ↦
          subst (λ (f : CachedWalk). FitsCached f m) (sym w.self-is) (stands_kept old.slots.items _ old.changed.items _ _ (omega (arith, old.some, old.slots.ok.0)) w.keep.ensures.slots w.keep.ensures.changed m c.requires (stands_new m c.args.eptp (c.args.addr / 4096) _ c.in-Leads.target c.follow-end.result.1 (λ kind. c.follow-end.ensures.end kind ∙ ap (judged (is_there m) (4096 * (c.args.addr / 4096)) (kind_bit kind)) c.in-Leads.is) (subst LeadsToPage c.in-Leads.is c.follow-end.ensures.page) (omega arith) c.follow-end.ensures.noted (sym c.is_there.ensures ∙ w.if-is_there.true)))
      | else-is_there w ↦ subst (λ (f : CachedWalk). FitsCached f m) (sym w.self-is) c.requires
    ]

pub returns-after-is_there-clause-held : goal.returns-after-is_there-clause-held
returns-after-is_there-clause-held g c = λ place at.
    let m = g.M.PhysMem.pages c.args.mem.now in
    let old = c.args.self.now in
    elim c.if-is_there.branch [
      | then-is_there w ↦
          ap (λ (f : CachedWalk). holds_of f c.args.eptp c.args.addr) w.self-is ∙ held_kept old.slots.items _ old.changed.items _ _ (omega (arith, old.some, old.slots.ok.0)) w.keep.ensures.slots w.keep.ensures.changed old.clock old.changed_by (omega arith)
      | else-is_there w ↦
          absurd (leads_nowhere (is_there m) c.args.addr c.bit.result c.in-Leads.target.rights c.in-Leads.target.address (c.args.addr % 4096) place (subst LeadsToPage c.in-Leads.is c.follow-end.ensures.page) (omega arith) (sym c.is_there.ensures ∙ w.if-is_there.false) (sym (c.leaf_end.ensures c.args.addr) ∙ at))
    ]
