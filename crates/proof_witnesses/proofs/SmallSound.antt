-- The small image is sound for its policy, none of its tables is read on two paths, and a verdict finds no fault in it.
use Rattle.std.proofs.Common.{◌≡◌, ℕ, zero, suc, ◌+◌, ◌-◌, ◌*◌, ◌/◌, ◌%◌, ◌^◌, ◌<◌, ◌≤◌, ◌==◌, Bool, true, false, cond, not, List, [], ◌∷◌, replicate, zip, Option, Some, None, refl, sym, ap, subst, ◌∙◌, arith, inl, inr}
use Rattle.std.specs.Prelude.{◌&&◌, codes, nat_le, nat_lt, option_map, slice_get, slice_index, slice_index_or}
use Rattle.std.specs.List.{All, list_any}
use Rattle.std.proofs.lemmas.Bool.{and_from, and_parts, and_right, cases_Bool, cases_lt, le-leb, le-ltb, leb-true, lt-leb, lt-ltb}
use Rattle.std.proofs.lemmas.List.{get_or-replicate}
use Rattle.std.proofs.lemmas.List.Elements.{All-from_recursion, All-nil, All-cons}
use Rattle.std.proofs.lemmas.List.Sorted.{IsPermutation-refl}
use Rattle.expand_grants.specs.Resources.{are_granted, msrs_of, port_ranges_of, ports_of}
use Rattle.image_memory.specs.Memory.{by_number, memory_of}
use Rattle.image_pack.specs.declared.parts.EventPart.{EventPart}
use Rattle.image_pack.specs.declared.parts.Image.{Image}
use Rattle.image_pack.specs.declared.parts.SubjectPart.{SubjectPart}
use Rattle.image_soundness.specs.Paths.{HasOnePathPerTable, IsOnePath}
use Rattle.image_soundness.specs.PlanOf.{IsPlanOf}
use Rattle.image_soundness.specs.Sound.{AreContents, AreFilesHeld, HasArea, HasBitmaps, HasPlanAndEvents, HasWalks, HaveOwnPages, IsFresh, IsSound, IsSubjectOf, ReadsTables, address_of, is_in_tables, led}
use Rattle.image_soundness.specs.Targets.{entry_event}
use Rattle.image_verify.proofs.VerdictLaws.{a_sound_image_has_no_fault}
use Rattle.image_verify.specs.Verdict.{IsVerdict, image_tables_of, named}
use Rattle.ept_check.specs.Faults.{table_fault}
use Rattle.frame_clock.specs.Plan.{frames_in, is_plan}
use Rattle.machine_layout.specs.Exits.{high_part, is_set, low_part, msr_exits, port_exits, port_is_set}
use Rattle.machine_layout.specs.Reads.{Reads}
use Rattle.machine_layout.specs.Walks.{addresses_read, entry_size, walk_of}
use Rattle.machine_layout.specs.declared.walk.Walk.{Walk}
use Rattle.machine_layout.specs.declared.walk.Walk.TheVariants.{At, Violation}
use Rattle.muen_num.proofs.NumbersBelow.{all_or_one}
use Rattle.muen_num.specs.Access.{kind_bit}
use Rattle.muen_num.specs.declared.access.AccessKind.{AccessKind}
use Rattle.muen_num.specs.declared.access.AccessKind.TheVariants.{Read, Write, Fetch}
use Rattle.muen_num.specs.declared.limits.TheConstants.{HIGH_MSR_FIRST, HIGH_MSR_LAST, LOW_MSR_LAST}
use Rattle.policy_lawful.specs.Contents.{Held, initial_bytes}
use Rattle.policy_lawful.specs.Domains.{offence_21, offence_22, offence_23, offence_24}
use Rattle.policy_lawful.specs.Events.{event_of}
use Rattle.policy_lawful.specs.Frames.{frames_of}
use Rattle.policy_lawful.specs.Lawful.{IsLawful, offences, unlawful}
use Rattle.policy_lawful.specs.MoreRules.{offence_6, offence_7, offence_9, offence_10, offence_11, offence_12, offence_13, offence_14, offence_15, offence_19}
use Rattle.policy_lawful.specs.Rules.{offence_1, offence_2, offence_3, offence_4, offence_5, offence_8, offence_16, offence_17, offence_18, offence_20, first_overlap, window_extents}
use Rattle.policy_lawful.specs.Thing.{Thing, declared_size, device_items, item_of, items_of, placed_items, region, things_of}
use Rattle.policy_lawful.specs.Windows.{Access, Window, access_by, access_of, holds, window, windows_of}
use Rattle.policy_lawful.specs.rights.Rights.TheVariants.{Rx}
use Rattle.policy_lawful.specs.source.Source.{Source}
use Rattle.policy_lawful.specs.source.Subject.{Subject}
use Rattle.proof_build.proofs.BitmapsOfPorts.{any_port}
use Rattle.proof_witnesses.proofs.SmallBytes.{bit_set, ones_whole, ports_high, ports_low, state_whole, zeros_are}
use Rattle.proof_witnesses.proofs.SmallConditions.{is_image}
use Rattle.proof_witnesses.proofs.SmallWalks.{AreReadFrom, IsReadAt, far, first_places, found, limit, near, read_at}
use Rattle.proof_witnesses.specs.SmallImage.{one, ones_page, small_image, small_part, small_policy}
use Rattle.proof_witnesses.specs.SmallLaws.{SmallHasNoFault, SmallHasOnePath, SmallIsSound}

lawful : IsLawful small_policy
unfolding unlawful offences offence_1 offence_2 offence_3 offence_4 offence_5 offence_6 offence_7 offence_8 offence_9 offence_10 offence_11 offence_12 offence_13 offence_14 offence_15 offence_16 offence_17 offence_18 offence_19 offence_20 offence_21 offence_22 offence_23 offence_24 first_overlap window_extents windows_of
lawful = refl

-- its contents name no file
files_there : (files : Held) → AreFilesHeld small_policy files
unfolding items_of placed_items device_items
files_there files = refl

contents : (files : Held) → AreContents small_policy files small_image
unfolding things_of items_of placed_items device_items declared_size item_of initial_bytes by_number
contents files = (record { tag = refl; kind = refl; size = refl; bytes = zeros_are }, tt)

-- ---- walks

its_windows : windows_of small_policy one ≡ window 0 4096 Rx (region (codes "code")) ∷ []
unfolding windows_of
its_windows = refl

its_address : address_of small_policy small_image (region (codes "code")) ≡ 1048576
unfolding address_of things_of items_of placed_items device_items by_number
its_address = refl

abbrev code_window : Window Thing
code_window = window 0 4096 Rx (region (codes "code"))

held : (addr : ℕ) → addr < 4096 → holds code_window addr ≡ true
held addr low = and_from (nat_le 0 addr) (nat_lt addr 4096) (le-leb 0 addr (omega arith)) (lt-ltb addr 4096 low)

not_held : (addr : ℕ) → 4096 ≤ addr → holds code_window addr ≡ false
not_held addr high = let behind : nat_lt addr 4096 ≡ false = le-ltb addr 4096 high in let above : nat_le 0 addr ≡ true = le-leb 0 addr (omega arith) in rw (above, behind) refl

abbrev where_led : Access Thing → Walk
where_led a = led (address_of small_policy small_image) a

led_near : (addr : ℕ) (kind : AccessKind) → addr < 4096 → where_led (access_of (windows_of small_policy one) addr kind) ≡ where_led (access_by (Some code_window) addr kind)
led_near addr kind low =
    ap (λ (ws : List (Window Thing)). where_led (access_of ws addr kind)) its_windows
    ∙ ap (λ b. where_led (access_by (cond b (Some code_window) None) addr kind)) (held addr low)

led_far : (addr : ℕ) (kind : AccessKind) → 4096 ≤ addr → where_led (access_of (windows_of small_policy one) addr kind) ≡ Violation 0
led_far addr kind high =
    ap (λ (ws : List (Window Thing)). where_led (access_of ws addr kind)) its_windows
    ∙ ap (λ b. where_led (access_by (cond b (Some code_window) None) addr kind)) (not_held addr high)

same_place : (addr : ℕ) → addr < 4096 → At (1048576 + addr % 4096) ≡ At (address_of small_policy small_image (region (codes "code")) + (addr - 0))
same_place addr low =
    let offset : 1048576 + addr % 4096 ≡ 1048576 + (addr - 0) = omega (arith, low) in
    ap (λ (n : ℕ). At n) offset ∙ ap (λ (n : ℕ). At (n + (addr - 0))) (sym its_address)

walks_near : (addr : ℕ) (kind : AccessKind) → addr < 4096 → walk_of (memory_of small_image) small_part.eptp addr kind ≡ where_led (access_by (Some code_window) addr kind)
walks_near addr Read low = near addr 1 low ∙ found addr ∙ same_place addr low
walks_near addr Fetch low = near addr 4 low ∙ found addr ∙ same_place addr low
walks_near addr Write low = near addr 2 low

walks : HasWalks small_policy small_image one small_part
walks addr kind low =
    elim (cases_lt addr 4096) [
      | inl less ↦ walks_near addr kind less ∙ sym (led_near addr kind less)
      | inr high ↦ far addr (kind_bit kind) high low ∙ sym (led_far addr kind high)
    ]

-- ---- tables

in_tables : (addr n at : ℕ) → IsReadAt addr n at → is_in_tables small_image at ≡ true
in_tables addr n at r =
    let low : nat_le 1056768 at ≡ true = le-leb 1056768 at (omega (arith, r.is)) in
    let high : nat_le (at + 8) 1073152 ≡ true = le-leb (at + 8) 1073152 (omega (arith, r.is, r.low, r.few)) in
    rw (low, high) refl

all_in_tables : (addr n : ℕ) (ats : List ℕ) → AreReadFrom addr n ats → All (λ at. is_in_tables small_image at ≡ true) ats
all_in_tables addr n [] all = All-nil (λ (at : ℕ). is_in_tables small_image at ≡ true)
all_in_tables addr n (at ∷ ats) all = All-cons (λ (at : ℕ). is_in_tables small_image at ≡ true) at ats (in_tables addr n at all.0) (all_in_tables addr (suc n) ats all.1)

tables : ReadsTables small_image small_part
tables addr low = all_in_tables addr 0 (addresses_read (memory_of small_image) small_part.eptp addr) (first_places addr low)

-- ---- one path for each

same_range : (level a b : ℕ) → level ≤ 3 → a < limit (3 - level) → b < limit (3 - level) → a / entry_size (suc level) ≡ b / entry_size (suc level)
same_range zero a b le x y = let p : a < 2097152 = x in let q : b < 2097152 = y in omega (arith, p, q)
same_range (suc zero) a b le x y = let p : a < 1073741824 = x in let q : b < 1073741824 = y in omega (arith, p, q)
same_range (suc (suc zero)) a b le x y = let p : a < 549755813888 = x in let q : b < 549755813888 = y in omega (arith, p, q)
same_range (suc (suc (suc zero))) a b le x y = let p : a < 281474976710656 = x in let q : b < 281474976710656 = y in omega (arith, p, q)
same_range (suc (suc (suc (suc level)))) a b le x y = absurd (omega (arith, le))

one_subject : (j : ℕ) (q : SubjectPart) → slice_get small_image.subjects j ≡ Some q → (j ≡ 0) × (small_part ≡ q)
one_subject zero q is = (refl, cc (is))
one_subject (suc j) q is = absurd (cc (is))

-- an entry of a table that is read
read_here : (addr level page : ℕ) → addr < 2 ^ 48 → Reads (memory_of small_image) small_part.eptp addr level page
    → (IsReadAt addr (3 - level) (slice_index (addresses_read (memory_of small_image) small_part.eptp addr) (3 - level))) × (page ≡ 258 + (3 - level))
read_here addr level page low r =
    let ats = addresses_read (memory_of small_image) small_part.eptp addr in
    let same : 0 + (3 - level) ≡ 3 - level = omega arith in
    let it : IsReadAt addr (3 - level) (slice_index ats (3 - level)) =
    subst (λ n. IsReadAt addr n (slice_index ats (3 - level))) same (read_at addr 0 ats (first_places addr low) (3 - level) r.within) in
    let is = it.is in
    let place = it.low in
    (it, omega (arith, is, place, r.here))

both_paths : (j k a b level other page : ℕ) → j ≡ k → a < 2 ^ 48 → b < 2 ^ 48 → Reads (memory_of small_image) small_part.eptp a level page → Reads (memory_of small_image) small_part.eptp b other page
    → IsOnePath j k level other a b
both_paths j k a b level other page same low_a low_b r s =
    let x = read_here a level page low_a r in
    let y = read_here b other page low_b s in
    let first_depth = r.depth in
    let second_depth = s.depth in
    let depth : level ≡ other = omega (arith, x.1, y.1, first_depth, second_depth) in
    record {
      subject = same;
      depth = depth;
      range = same_range level a b r.depth x.0.below (subst (λ l. b < limit (3 - l)) (sym depth) y.0.below);
    }

pub one_path : SmallHasOnePath
one_path j k q r a b level other page at_j at_k low_a low_b reads_a reads_b =
    let x = one_subject j q at_j in
    let y = one_subject k r at_k in
    both_paths j k a b level other page (x.0 ∙ sym y.0) low_a low_b
    (subst (λ (t : SubjectPart). Reads (memory_of small_image) t.eptp a level page) (sym x.1) reads_a)
    (subst (λ (t : SubjectPart). Reads (memory_of small_image) t.eptp b other page) (sym y.1) reads_b)

-- ---- bitmaps, the area, the state

port_set : (port : ℕ) → port < 65536 → port_is_set ones_page ones_page port ≡ true
port_set port low =
    elim (cases_lt port 32768) [
      | inl less ↦ let first : nat_lt port 32768 ≡ true = lt-ltb port 32768 less in rw first (bit_set port less)
      | inr high ↦ let second : nat_lt port 32768 ≡ false = le-ltb port 32768 high in rw second (bit_set (port - 32768) (omega (arith, low, high)))
    ]

no_port : (port : ℕ) → list_any (λ n. n == port) (ports_of small_policy one) ≡ false
unfolding port_ranges_of
no_port port = any_port small_policy one port ∙ and_right (nat_lt port 65536) false refl

all_exit : (port size : ℕ) → port_exits ones_page ones_page port size ≡ not (are_granted (ports_of small_policy one) port size)
all_exit port size =
    elim (cases_lt 65536 (port + size)) [
      | inl past ↦
          let beyond : nat_lt 65536 (port + size) ≡ true = lt-ltb 65536 (port + size) past in
          let outside : nat_le (port + size) 65536 ≡ false = lt-leb (port + size) 65536 past in
          rw (beyond, outside) refl
      | inr within ↦
          let inside : nat_lt 65536 (port + size) ≡ false = le-ltb 65536 (port + size) within in
          let fits : nat_le (port + size) 65536 ≡ true = le-leb (port + size) 65536 within in
          rw (inside, fits)
          (all_or_one (λ k. port_is_set ones_page ones_page (port + k)) (λ k. list_any (λ n. n == port + k) (ports_of small_policy one)) size
          (λ k low. port_set (port + k) (omega (arith, within, low)) ∙ sym (ap not (no_port (port + k)))))
    ]

msr_set : (index : ℕ) (write : Bool) → msr_exits ones_page index write ≡ true
unfolding msr_exits
msr_set index write =
    elim (cases_Bool (nat_le index LOW_MSR_LAST)) [
      | inl low ↦ let l : index ≤ 8191 = leb-true index 8191 low in rw low (elim write as (λ b. is_set ones_page (8 * low_part b + index) ≡ true) [ true ↦ bit_set (16384 + index) (omega (arith, l)) | false ↦ bit_set (0 + index) (omega (arith, l)) ])
      | inr above ↦
          elim (cases_Bool (nat_le HIGH_MSR_FIRST index && nat_le index HIGH_MSR_LAST)) [
            | inl both ↦
                let parts = and_parts (nat_le HIGH_MSR_FIRST index) (nat_le index HIGH_MSR_LAST) both in
                let l : index ≤ 3221233663 = leb-true index 3221233663 parts.1 in
                rw (above, both)
                (elim write as (λ b. is_set ones_page (8 * high_part b + (index - HIGH_MSR_FIRST)) ≡ true) [
                  | true ↦ bit_set (24576 + (index - 3221225472)) (omega (arith, l))
                  | false ↦ bit_set (8192 + (index - 3221225472)) (omega (arith, l))
                ])
            | inr outside ↦ rw (above, outside) refl
          ]
    ]

bitmaps : HasBitmaps small_policy small_image one small_part
unfolding msrs_of
bitmaps = record {
  ports = λ port size. (λ j. port_exits (ports_low j) (ports_high j) port size) ∙ all_exit port size;
  msrs = λ index write. ap (λ (b : List ℕ). msr_exits b index write) ones_whole ∙ msr_set index write;
}

area : HasArea small_image one small_part
unfolding msrs_of
area = record { many = refl; each = IsPermutation-refl []; zeros = λ n low. absurd (omega (arith, low)) }

fresh : IsFresh small_image one small_part
fresh = state_whole

own_pages : HaveOwnPages small_policy small_image
own_pages i j d low within = let last : j < 1 = within in absurd (omega (arith, low, last))

-- ---- the plan and the events

abbrev no_event : Option EventPart
no_event = None

no_events : (n : ℕ) → n < 64 → slice_index_or (replicate 64 no_event) n no_event ≡ no_event
no_events n low = get_or-replicate {A = Option EventPart} 64 n no_event no_event low

subject : IsSubjectOf small_policy one small_part
unfolding event_of
subject = record {
  name = refl;
  cpu = refl;
  in_group = refl;
  calls = λ n low. ap (option_map entry_event) (no_events n low);
  traps = λ n low. ap (option_map entry_event) (no_events n low);
}

frames : (cpu : ℕ) → cpu < 1 → frames_in small_image.plan cpu ≡ frames_of small_policy cpu
unfolding frames_in frames_of
frames zero low = refl
frames (suc cpu) low = absurd (omega (arith, low))

planned : IsPlanOf small_policy small_image.plan
unfolding is_plan
planned = record { valid = refl; cpus = refl; frames = frames; groups = refl; firsts = refl; there = refl }

plan_and_events : HasPlanAndEvents small_policy small_image
plan_and_events = record {
  many = refl;
  subjects = All-from_recursion (λ (e : Subject × SubjectPart). IsSubjectOf small_policy e.0 e.1) (zip small_policy.subjects small_image.subjects) (subject, tt);
  cpus = refl;
  plan = planned;
  tau0 = refl;
  devices = tt;
}

-- ---- all of it

pub sound : SmallIsSound
sound files =
    let both = zip small_policy.subjects small_image.subjects in
    record {
      lawful = lawful;
      parts = is_image.parts;
      held = files_there files;
      contents = contents files;
      walks = All-from_recursion (λ (e : Subject × SubjectPart). HasWalks small_policy small_image e.0 e.1) both (walks, tt);
      tables = All-from_recursion (λ (e : Subject × SubjectPart). ReadsTables small_image e.1) both (tables, tt);
      bitmaps = All-from_recursion (λ (e : Subject × SubjectPart). HasBitmaps small_policy small_image e.0 e.1) both (bitmaps, tt);
      msr_areas = All-from_recursion (λ (e : Subject × SubjectPart). HasArea small_image e.0 e.1) both (area, tt);
      fresh_states = All-from_recursion (λ (e : Subject × SubjectPart). IsFresh small_image e.0 e.1) both (fresh, tt);
      own_pages = own_pages;
      plan_and_events = plan_and_events;
    }

-- a sound image has a verdict: what its tables say
verdict_of_sound : (p : Source) (files : Held) (i : Image) → IsSound p files i → IsVerdict p files i (option_map (named p) (table_fault (image_tables_of p i)))
verdict_of_sound p files i s = inr (s.contents, inr (s.bitmaps, inr (s.msr_areas, inr (s.fresh_states, inr (s.own_pages, inr (s.plan_and_events, refl))))))

-- .. without a fault, where no table is read on two paths
no_fault_of_sound : (p : Source) (files : Held) (i : Image) → IsSound p files i → HasOnePathPerTable i → IsVerdict p files i None
no_fault_of_sound p files i s once =
    let v = verdict_of_sound p files i s in
    subst (IsVerdict p files i) (a_sound_image_has_no_fault p files i (option_map (named p) (table_fault (image_tables_of p i))) v s once) v

pub no_fault : SmallHasNoFault
no_fault files = no_fault_of_sound small_policy files small_image (sound files) one_path
