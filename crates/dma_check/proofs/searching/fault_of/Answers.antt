use Rattle.std.proofs.Common.{◌≡◌, ◌+◌, ◌*◌, ◌^◌, subst, arith}
use Rattle.dma_check.proofs.AgainLaws.{again_found, again_known}
use Rattle.dma_check.specs.Held.{view_by}
use Rattle.dma_check.specs.Marked.{Marked, seen_in}
use Rattle.dma_tables.specs.DmaWalk.{root_page}
use Rattle.dma_check.proofs.searching.fault_of.Goals as goal

pub returns-then-again-clause-found : goal.returns-then-again-clause-found
returns-then-again-clause-found c = λ declared own is marked.
    let v = view_by c.args.file.now c.args.spans.now declared in
    let start : 6 * (2 ^ 48 * c.args.source) ≡ 6 * (2 ^ 48 * c.args.source + 0) = omega arith in
    let here = subst (Marked v (seen_in (root_page c.args.file.now) c.args.ways.now.items)) start marked in
    again_found c.args.file.now c.args.spans.now declared c.args.windows.now c.args.source own (seen_in (root_page c.args.file.now) c.fault_here.new.ways.items) c.fault_here.result (is c.if-again.true) (c.fault_here.ensures.found declared own here) (c.fault_here.ensures.known declared own here)

pub returns-then-again-clause-known : goal.returns-then-again-clause-known
returns-then-again-clause-known c = λ declared own is marked none.
    let v = view_by c.args.file.now c.args.spans.now declared in
    let start : 6 * (2 ^ 48 * c.args.source) ≡ 6 * (2 ^ 48 * c.args.source + 0) = omega arith in
    let here = subst (Marked v (seen_in (root_page c.args.file.now) c.args.ways.now.items)) start marked in
    again_known c.args.file.now c.args.spans.now declared c.args.windows.now c.args.source own (seen_in (root_page c.args.file.now) c.fault_here.new.ways.items) (is c.if-again.true) (c.fault_here.ensures.known declared own here none)

pub returns-clause-found : goal.returns-clause-found
returns-clause-found c = λ declared own is. c.source_fault.ensures.found declared own

pub returns-clause-known : goal.returns-clause-known
returns-clause-known c = λ declared own is. c.source_fault.ensures.known declared own
