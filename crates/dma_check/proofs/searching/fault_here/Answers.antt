use Rattle.std.proofs.Common.{◌≡◌, ◌+◌, ◌*◌, ◌^◌, ℕ, Bool, Option, None, false, sym, subst, ◌∙◌}
use Rattle.dma_check.proofs.Found.{contents_found, outside_found, root_is, twice_found, within_by}
use Rattle.dma_check.proofs.MarkLaws.{outside_by}
use Rattle.dma_check.specs.Faults.{is_outside}
use Rattle.dma_check.specs.Held.{view_by}
use Rattle.dma_check.specs.Marked.{Marked, seen_in}
use Rattle.dma_check.proofs.searching.fault_here.Goals as goal

pub returns-then-is_outside-clause-found : goal.returns-then-is_outside-clause-found
returns-then-is_outside-clause-found c = λ declared own known.
    let v = view_by c.args.file.now c.args.spans.now declared in
    let q = 2 ^ 48 * c.args.source + c.args.addr in
    let path = c.path_of-path.result in
    outside_found v q c.fault.result c.fault.ensures (sym (outside_by v q path (c.path_of-path.ensures c.args.spans.now declared)) ∙ sym c.is_outside.ensures ∙ c.if-is_outside.true)

pub mark_all-requires-clause-within : goal.mark_all-requires-clause-within
mark_all-requires-clause-within c =
    let nothing : ℕ → ℕ → Bool → Option ℕ = λ a b w. None in
    let path = c.path_of-path.result in
    within_by c.args.file.now path _ c.requires.long (root_is c.args.file.now c.args.spans.now nothing (2 ^ 48 * c.args.source + c.args.addr) path (c.path_of-path.ensures c.args.spans.now nothing)) (sym c.is_outside.ensures ∙ c.if-is_outside.false)

pub returns-then-not-mark_all-clause-found : goal.returns-then-not-mark_all-clause-found
returns-then-not-mark_all-clause-found c = λ declared own known.
    let v = view_by c.args.file.now c.args.spans.now declared in
    let q = 2 ^ 48 * c.args.source + c.args.addr in
    let path = c.path_of-path.result in
    let is = c.path_of-path.ensures c.args.spans.now declared in
    let root = root_is c.args.file.now c.args.spans.now declared q path is in
    let inside : is_outside v q ≡ false = sym (outside_by v q path is) ∙ sym c.is_outside.ensures ∙ c.if-is_outside.false in
    let here = subst (λ r. Marked v (seen_in r c.args.ways.now.items) (6 * q)) (sym root) known in
    twice_found v q c.fault-then-not-mark_all.result c.fault-then-not-mark_all.ensures inside (c.mark_all.ensures.twice v is here c.if-not-mark_all.true)

pub returns-clause-found : goal.returns-clause-found
returns-clause-found c = λ declared own known.
    let v = view_by c.args.file.now c.args.spans.now declared in
    let q = 2 ^ 48 * c.args.source + c.args.addr in
    let path = c.path_of-path.result in
    let is = c.path_of-path.ensures c.args.spans.now declared in
    let root = root_is c.args.file.now c.args.spans.now declared q path is in
    let inside : is_outside v q ≡ false = sym (outside_by v q path is) ∙ sym c.is_outside.ensures ∙ c.if-is_outside.false in
    let here = subst (λ r. Marked v (seen_in r c.args.ways.now.items) (6 * q)) (sym root) known in
    contents_found v q c.contents_fault.result (seen_in path.root c.mark_all.new.ways.items) (c.contents_fault.ensures declared own is.level_3) inside (c.mark_all.ensures.marks v is here c.if-not-mark_all.false)

pub returns-clause-known : goal.returns-clause-known
returns-clause-known c = λ declared own known none.
    let v = view_by c.args.file.now c.args.spans.now declared in
    let q = 2 ^ 48 * c.args.source + c.args.addr in
    let path = c.path_of-path.result in
    let is = c.path_of-path.ensures c.args.spans.now declared in
    let root = root_is c.args.file.now c.args.spans.now declared q path is in
    let here = subst (λ r. Marked v (seen_in r c.args.ways.now.items) (6 * q)) (sym root) known in
    subst (λ r. Marked v (seen_in r c.mark_all.new.ways.items) (6 * q + 6)) root (c.mark_all.ensures.marks v is here c.if-not-mark_all.false)
