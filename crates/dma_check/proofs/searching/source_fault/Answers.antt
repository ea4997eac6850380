use Rattle.std.proofs.Common.{◌≡◌, ◌+◌, ◌-◌, ◌*◌, ◌^◌, ℕ, Bool, Option, None, refl, sym, subst, ◌∙◌, arith}
use Rattle.dma_check.proofs.Found.{found_here, none_at_start, none_further, none_so_far}
use Rattle.dma_check.specs.Faults.{fault_at}
use Rattle.dma_check.specs.Held.{AreFor, view_by}
use Rattle.dma_check.specs.Marked.{Marked, seen_in}
use Rattle.dma_tables.specs.DmaWalk.{root_page}
use Rattle.ept_check.specs.Search.{first_from}
use Rattle.dma_check.proofs.searching.source_fault.Goals as goal

pub loop-addr-init : goal.loop-addr-init
loop-addr-init c =
    record {
      low = omega arith;
      long = refl;
      none = λ declared own known. none_at_start (view_by c.args.file.now c.args.spans.now declared) c.args.source;
      known = λ declared own known.
          let same : 6 * (2 ^ 48 * c.args.source) ≡ 6 * (2 ^ 48 * c.args.source + 0) = omega arith in
          subst (Marked (view_by c.args.file.now c.args.spans.now declared) (seen_in (root_page c.args.file.now) c.args.ways.now.items)) same known;
    }

pub returns-in-Some-clause-found : goal.returns-in-Some-clause-found
returns-in-Some-clause-found c = λ declared own known.
    let v = view_by c.args.file.now c.args.spans.now declared in
    found_here v c.args.windows.now c.args.source c.loop-addr.addr c.loop-addr-test.true own c.in-Some.fault (c.loop-addr.invariant.none declared own known) (c.in-Some.ensures.found declared own (c.loop-addr.invariant.known declared own known))

pub loop-addr-preserved : goal.loop-addr-preserved
loop-addr-preserved c =
    let source = c.args.source in
    let addr = c.loop-addr.addr in
    let further : (declared : ℕ → ℕ → Bool → Option ℕ) → AreFor declared source c.args.windows.now → Marked (view_by c.args.file.now c.args.spans.now declared) (seen_in (root_page c.args.file.now) c.args.ways.now.items) (6 * (2 ^ 48 * source))
    → (first_from (fault_at (view_by c.args.file.now c.args.spans.now declared)) (2 ^ 48 * source + addr) c.kept-addr.result ≡ None) × Marked (view_by c.args.file.now c.args.spans.now declared) (seen_in (root_page c.args.file.now) c.fault_here.new.ways.items) (6 * (2 ^ 48 * source + (addr + c.kept-addr.result))) = λ declared own known.
    let v = view_by c.args.file.now c.args.spans.now declared in
    let before = c.loop-addr.invariant.known declared own known in
    none_further v c.args.windows.now source addr c.loop-addr-test.true own (seen_in (root_page c.args.file.now) c.fault_here.new.ways.items) c.level_of.result c.kept-addr.result (c.end_of-end.result - addr)
    (c.in_default.ensures.known declared own before refl) (sym (c.in_default.ensures.found declared own before))
    (c.level_of.ensures.reaches v (2 ^ 48 * source + addr) (c.path_of.ensures c.args.spans.now declared)) (c.end_of-end.ensures.alike source) c.kept-addr.ensures.some c.kept-addr.ensures.most c.kept-addr.ensures.keeps in
    record {
      low = omega (arith, c.end_of-end.ensures.low, c.kept-addr.ensures.most, c.end_of-end.ensures.more);
      long = c.fault_here.ensures.long ∙ c.loop-addr.invariant.long;
      none = λ declared own known. none_so_far (view_by c.args.file.now c.args.spans.now declared) c.args.windows.now source addr c.loop-addr-test.true own c.kept-addr.result (c.loop-addr.invariant.none declared own known) (further declared own known).0;
      known = λ declared own known. (further declared own known).1;
    }

pub returns-clause-found : goal.returns-clause-found
returns-clause-found c = λ declared own known.
    let v = view_by c.args.file.now c.args.spans.now declared in
    let all : c.loop-addr.addr ≡ 2 ^ 48 = omega (arith, c.loop-addr.invariant.low, c.loop-addr-test.false) in
    sym (subst (λ n. first_from (fault_at v) (2 ^ 48 * c.args.source) n ≡ None) all (c.loop-addr.invariant.none declared own known))

pub returns-clause-known : goal.returns-clause-known
returns-clause-known c = λ declared own known none.
    let v = view_by c.args.file.now c.args.spans.now declared in
    let all : 6 * (2 ^ 48 * c.args.source + c.loop-addr.addr) ≡ 6 * (2 ^ 48 * (c.args.source + 1)) = omega (arith, c.loop-addr.invariant.low, c.loop-addr-test.false) in
    subst (Marked v (seen_in (root_page c.args.file.now) c.loop-addr.ways.items)) all (c.loop-addr.invariant.known declared own known)
