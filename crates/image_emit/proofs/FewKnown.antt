-- Numbers of placed policies fit.
use Rattle.std.proofs.Common.{◌≡◌, ◌∙◌, refl, sym, ap, arith, ℕ, suc, ◌+◌, ◌%◌, ◌^◌, ◌<◌, ◌≤◌, true, List, [], ◌∷◌, ◌++◌, length, length-append, map, nat_le, nat_lt, le-leb, Some, None}
use Rattle.std.specs.Prelude.{slice_get}
use Rattle.std.specs.List.{AllZip, enumerate_from, flat_map, list_all, sum_by}
use Rattle.std.proofs.lemmas.List.{length-map}
use Rattle.std.proofs.lemmas.List.FromFn.{length-enumerate_from}
use Rattle.std.proofs.lemmas.Bool.{ltb-true, lt-ltb}
use Rattle.std.proofs.lemmas.List.Folds.{list_all-map}
use Rattle.std.proofs.lemmas.Slice.Zip.{AllZip-long}
use Rattle.expand_kernel.specs.Grants.{AreGrantsOf}
use Rattle.expand_kernel.specs.granted.Grants.{Grants}
use Rattle.image_emit.specs.Fitting.{AreFew}
use Rattle.msrbm_emit.specs.Area.{msr_count}
use Rattle.muen_num.proofs.Lists.{each_from, there}
use Rattle.muen_num.proofs.Pairs.{other_at}
use Rattle.policy_lawful.proofs.KeptPlan.{PlanKept, plan_kept}
use Rattle.policy_lawful.proofs.KeptRules.{rules_of}
use Rattle.policy_lawful.proofs.SourceElements.{many_groups, many_subjects}
use Rattle.policy_lawful.specs.Rules.{offence_20}
use Rattle.policy_lawful.specs.Resolution.{Resolution, source_of, subject_named}
use Rattle.policy_lawful.specs.Things.{brought_things, channel_thing, own_thing, placed_things}
use Rattle.policy_lawful.specs.declared.resolved.Subject.{Subject}
use Rattle.region_alloc.specs.Placed.{IsPlaced, Placement}
use Rattle.span_emit.proofs.KeptSums.{sums_kept, windows_length}
use Rattle.policy_lawful.specs.ByIndex.{memories_of}
use Rattle.subject_emit.proofs.KeptMsrs.{msrs_few}
use Rattle.subject_emit.proofs.TablesReady.{addresses_many, tables_there}
use Rattle.subject_emit.specs.Pages.{tables_at}

-- each subject's MSRs, from any index on
msrs_from : (r : Resolution) → offence_20 (source_of r) ≡ None → (ss : List Subject) (gs : List Grants) → ((j : ℕ) (s : Subject) → slice_get ss j ≡ Some s → (k : ℕ) × (slice_get r.subjects k ≡ Some s)) → AllZip (AreGrantsOf r) ss gs → list_all (λ g. nat_le (msr_count g.msrs) 64) gs ≡ true
msrs_from r h [] [] at z = refl
msrs_from r h [] (g ∷ gs) at z = absurd z
msrs_from r h (s ∷ ss) [] at z = absurd z
msrs_from r h (s ∷ ss) (g ∷ gs) at z =
    let here = at 0 s refl in
    rw (le-leb (msr_count g.msrs) 64 (msrs_few r here.0 s g here.1 z.0 h)) (msrs_from r h ss gs (λ j t e. at (suc j) t e) z.1)

cpus_small : (r : Resolution) → PlanKept r → list_all (λ s. nat_lt s.cpu 8) r.subjects ≡ true
unfolding source_of
cpus_small r k =
    each_from (λ s. nat_lt s.cpu r.processor.logical_cpus) (λ s. nat_lt s.cpu 8)
    (λ s low. let below = ltb-true s.cpu r.processor.logical_cpus low in let most = k.cpus.most in lt-ltb s.cpu 8 (omega (arith, below, most)))
    r.subjects (sym (list_all-map (λ s. nat_lt s.cpu r.processor.logical_cpus) (subject_named r) r.subjects) ∙ k.cpus.subjects)

-- the tables of the subject at an index lie at a page, and end at a physical address that there is
tables_placed : (x : Placement) → IsPlaced x → (n : ℕ) → n < length x.expanded.lawful.subjects → (tables_at x n % 4096 ≡ 0) × (tables_at x n ≤ 2 ^ 40)
tables_placed x k n low =
    let r = x.expanded.lawful in
    let s = there r.subjects n low in
    let g = other_at (AreGrantsOf r) r.subjects x.expanded.grants n s.0 k.expansion.grants s.1 in
    let at = tables_there x k n g.0 g.1 in
    let end = at.end in
    (at.whole, omega (arith, end))

pub are_few : (x : Placement) → IsPlaced x → AreFew x
are_few x k =
    let r = x.expanded.lawful in
    let plan = plan_kept r k.resolved k.lawful in
    let addresses = addresses_many x k in
    let sums = sums_kept (source_of r) (rules_of k.lawful).rule_20 in
    let few_regions = sums.regions in
    let regions = ap length k.expansion.regions in
    let grants : length x.expanded.grants ≡ length r.subjects = AllZip-long (AreGrantsOf r) r.subjects x.expanded.grants k.expansion.grants in
    let as_many : length x.addresses ≡ length x.expanded.regions = AllZip-long _ x.expanded.regions x.addresses k.inside in
    let groups = many_groups r in
    let subjects = many_subjects r in
    let few_groups = plan.members.few in
    let most = plan.limits.most_subjects in
    record {
      regions = omega (arith, addresses, as_many, regions, few_regions);
      groups = omega (arith, groups, subjects, few_groups, most);
      subjects = omega (arith, subjects, most);
      tables = λ n low. (tables_placed x k n low).1;
      whole = λ n low. (tables_placed x k n low).0;
      cpus = cpus_small r plan;
      msrs = msrs_from r (rules_of k.lawful).rule_20 r.subjects x.expanded.grants (λ j s e. (j, e)) k.expansion.grants;
      grants = grants;
    }

-- as few regions of memory
memory_placed : (r : Resolution) → length r.memory ≤ length (placed_things r)
unfolding placed_things
memory_placed r =
    let memory = map own_thing (enumerate_from 0 r.memory) in
    let channels = map channel_thing r.channels in
    let brought = flat_map (brought_things r.components) r.subjects in
    omega (arith, length-append (memory ++ channels) brought, length-append memory channels, length-map (enumerate_from 0 r.memory) own_thing, length-enumerate_from 0 r.memory)

pub memory_few : (x : Placement) → IsPlaced x → length x.expanded.lawful.memory ≤ 1024
memory_few x k = let few = (are_few x k).regions in let memory = memory_placed x.expanded.lawful in omega (arith, few, memory)

-- there are few regions, and few spans with those of devices' memory
pub regions_few : (x : Placement) → IsPlaced x → length x.expanded.regions ≤ 1024
regions_few x k =
    let few = (sums_kept (source_of x.expanded.lawful) (rules_of k.lawful).rule_20).regions in
    let regions = ap length k.expansion.regions in
    omega (arith, few, regions)

same_devices : (r : Resolution) → (source_of r).devices ≡ r.devices
unfolding source_of
same_devices r = refl

pub spans_few : (x : Placement) → IsPlaced x → length x.expanded.regions + sum_by (λ d. length d.memory) x.expanded.lawful.devices < 65536
spans_few x k =
    let few = regions_few x k in
    let windows = (sums_kept (source_of x.expanded.lawful) (rules_of k.lawful).rule_20).windows in
    let same = ap (λ ds. length (memories_of ds)) (same_devices x.expanded.lawful) in
    let many = windows_length x.expanded.lawful.devices in
    omega (arith, few, windows, same, many)

pub cpus_few : (x : Placement) → IsPlaced x → x.expanded.lawful.processor.logical_cpus ≤ 8
unfolding source_of
cpus_few x k = (plan_kept x.expanded.lawful k.resolved k.lawful).cpus.most
