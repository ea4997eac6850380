-- The pages that a machine has at the start: tables, bitmaps, things, states and areas.
use Rattle.std.proofs.Common.{◌≡◌, ℕ, ◌+◌, ◌*◌, ◌/◌, ◌%◌, ◌<◌, ◌≤◌, true, List, length, Some, refl, sym, ap, subst, ◌∙◌, arith}
use Rattle.std.specs.Prelude.{◌==◌, ◌&&◌, ◌||◌, nat_le, slice_get}
use Rattle.std.specs.List.{All}
use Rattle.std.proofs.lemmas.Bool.{and_from, and_parts, leb-true, or_left, or_right}
use Rattle.std.proofs.lemmas.List.Elements.{All-weaker}
use Rattle.image_load.specs.Loaded.{control_of}
use Rattle.image_memory.specs.Memory.{memory_of, page_at, page_of_span}
use Rattle.image_soundness.proofs.SoundFacts.{states_of, tables_of}
use Rattle.image_soundness.specs.Sound.{IsSound, IsFresh, ReadsTables, is_in_tables, is_kernel, is_tables}
use Rattle.image_pack.specs.Codes.{part_code}
use Rattle.image_pack.specs.ImageConditions.{KeepsConditions}
use Rattle.image_pack.specs.SpanConditions.{IsSpan, end_of}
use Rattle.image_pack.specs.declared.parts.Image.{Image}
use Rattle.image_pack.specs.declared.parts.SpanPart.{SpanPart}
use Rattle.image_pack.specs.declared.parts.SubjectPart.{SubjectPart}
use Rattle.vmx_machine.specs.Memory.{page_of}
use Rattle.vmx_machine.specs.Walks.{addresses_read}
use Rattle.muen_num.specs.declared.limits.TheConstants.{GUEST_END}
use Rattle.muen_num.specs.declared.tag.TagPart.TheVariants.{State, Ept, Iobm, Msrbm, Msrs}
use Rattle.muen_num.proofs.Options.{one_value}
use Rattle.muen_num.proofs.Lists.{all_at}
use Rattle.muen_num.proofs.Pairs.{first_at, other_at}
use Rattle.policy_lawful.specs.Contents.{Held, initial_bytes}
use Rattle.policy_lawful.specs.Thing.{Thing}
use Rattle.policy_lawful.specs.source.Source.{Source}
use Rattle.policy_lawful.specs.source.Subject.{Subject}
use Rattle.proof_turns.specs.Ground.{part}
use Rattle.guest_isa.specs.Words.{IsByte}
use Rattle.subject_model.specs.StatePage.{page_bytes}
use Rattle.subject_model.specs.States.{started}
use Rattle.vmx_machine.specs.declared.control.Control.{Control}
use Rattle.proof_start.specs.GroundOf.{HoldsBytes, ground_of, is_kept}
use Rattle.muen_num.proofs.Indexed.{any_passing}
use Rattle.proof_start.proofs.MemoryFacts.{memory_small}
use Rattle.image_memory.proofs.SpanPages.{numbered_page, numbered_page_long, page_there}
use Rattle.proof_start.proofs.SpanFacts.{HasPage, kernel_kind, page_in, page_kept}
use Rattle.image_memory.proofs.SpanNumbers.{KernelSpan}
use Rattle.proof_start.proofs.SubjectFacts.{control_at, controlled}
use Rattle.image_memory.proofs.SubjectSpans.{subject_spans}
use Rattle.proof_start.proofs.SpansOfThings.{thing_span}

-- ---- tables

in_page : (address pages at : ℕ) → address % 4096 ≡ 0 → address ≤ at → at + 8 ≤ address + 4096 * pages → at / 4096 < address / 4096 + pages
in_page address pages at a b c = omega (arith, a, b, c)

above : (address at : ℕ) → address ≤ at → address / 4096 ≤ at / 4096
above address at h = omega (arith, h)

-- what lies in a span of tables is on a page of tables
pub entry_kept : (p : Source) (i : Image) → KeepsConditions i → (at : ℕ) → is_in_tables i at ≡ true → (ground_of p i).kept (at / 4096) ≡ true
unfolding ground_of
entry_kept p i keeps at h =
    let f = any_passing (λ s. is_tables s && nat_le s.address at && nat_le (at + 8) (end_of s)) i.spans h in
    let s = f.one in
    let outer = and_parts (is_tables s && nat_le s.address at) (nat_le (at + 8) (end_of s)) f.passes in
    let inner = and_parts (is_tables s) (nat_le s.address at) outer.0 in
    let kind = and_parts (is_kernel s.kind) (part_code s.tag.part == part_code Ept) inner.0 in
    let low = leb-true s.address at inner.1 in
    let each = all_at IsSpan i.spans f.index s keeps.spans.each f.here in
    page_kept i.spans f.index s (at / 4096) f.here (and_from (is_kernel s.kind) _ kind.0 (or_left (part_code s.tag.part == part_code Ept) _ kind.1))
    (record { low = above s.address at low; high = in_page s.address s.pages at each.aligned low (leb-true (at + 8) (end_of s) outer.1) })

-- a walk for a subject reads pages of tables alone
pub tables_kept : (p : Source) (files : Held) (i : Image) → KeepsConditions i → IsSound p files i → (s : ℕ) (c : Control) (addr : ℕ) → slice_get (ground_of p i).setup.controls s ≡ Some c → addr < GUEST_END → All (λ at. (ground_of p i).kept (at / 4096) ≡ true) (addresses_read (ground_of p i).memory c.eptp addr)
unfolding ground_of
tables_kept p files i keeps sound s c addr at low =
    let k = controlled p i s c at in
    let n = first_at (λ s q. ReadsTables i q) p.subjects i.subjects s k.part (tables_of p files i sound) k.here in
    let reads = n.2 addr low in
    let eptp : k.part.eptp ≡ c.eptp = ap (λ d. d.eptp) k.is in
    subst (λ e. All (λ at. (ground_of p i).kept (at / 4096) ≡ true) (addresses_read (memory_of i) e addr)) eptp
    (All-weaker (λ at. is_in_tables i at ≡ true) (λ at. (ground_of p i).kept (at / 4096) ≡ true) (λ at h. entry_kept p i keeps at h) (addresses_read (memory_of i) k.part.eptp addr) reads)

-- ---- bitmaps

kept_by_code : (s : SpanPart) (code : ℕ) → is_kernel s.kind ≡ true → part_code s.tag.part ≡ code → (code == 4) || (code == 5) ≡ true → is_kept s ≡ true
kept_by_code s code kernel e h =
    and_from (is_kernel s.kind) _ kernel (or_right (part_code s.tag.part == 3) ((part_code s.tag.part == 4) || (part_code s.tag.part == 5)) (subst (λ n. (n == 4) || (n == 5) ≡ true) (sym e) h))

bitmap_kept : (p : Source) (i : Image) → KeepsConditions i → (code pages n k : ℕ) → 2 ≤ code → (code == 4) || (code == 5) ≡ true → KernelSpan i.spans code pages n → k < pages → (ground_of p i).kept (page_of_span i.spans n + k) ≡ true
unfolding ground_of
bitmap_kept p i keeps code pages n k low is s l =
    let many = s.pages_there in
    page_kept i.spans s.index s.span (page_of_span i.spans n + k) s.here (kept_by_code s.span code (kernel_kind i.spans code pages n keeps.spans s low) s.part is)
    (subst (λ m. HasPage (m + k) s.span) (sym s.first) (page_in s.span k (omega (arith, l, many))))

at_first : (n : ℕ) → n + 0 ≡ n
at_first n = omega arith

pub io_kept : (p : Source) (i : Image) → KeepsConditions i → (s : ℕ) (c : Control) → slice_get (ground_of p i).setup.controls s ≡ Some c → (ground_of p i).kept c.io_bitmaps ≡ true
io_kept p i keeps s c at =
    let k = controlled p i s c at in
    let spans = subject_spans i keeps s k.part k.here in
    subst (λ n. (ground_of p i).kept n ≡ true) (at_first _ ∙ ap (λ d. d.io_bitmaps) k.is) (bitmap_kept p i keeps (part_code Iobm) 2 k.part.iobm 0 (omega arith) refl spans.iobm (omega arith))

pub second_io_kept : (p : Source) (i : Image) → KeepsConditions i → (s : ℕ) (c : Control) → slice_get (ground_of p i).setup.controls s ≡ Some c → (ground_of p i).kept (c.io_bitmaps + 1) ≡ true
second_io_kept p i keeps s c at =
    let k = controlled p i s c at in
    let spans = subject_spans i keeps s k.part k.here in
    subst (λ n. (ground_of p i).kept (n + 1) ≡ true) (ap (λ d. d.io_bitmaps) k.is) (bitmap_kept p i keeps (part_code Iobm) 2 k.part.iobm 1 (omega arith) refl spans.iobm (omega arith))

pub msrbm_kept : (p : Source) (i : Image) → KeepsConditions i → (s : ℕ) (c : Control) → slice_get (ground_of p i).setup.controls s ≡ Some c → (ground_of p i).kept c.msr_bitmap ≡ true
msrbm_kept p i keeps s c at =
    let k = controlled p i s c at in
    let spans = subject_spans i keeps s k.part k.here in
    subst (λ n. (ground_of p i).kept n ≡ true) (at_first _ ∙ ap (λ d. d.msr_bitmap) k.is) (bitmap_kept p i keeps (part_code Msrbm) 1 k.part.msrbm 0 (omega arith) refl spans.msrbm (omega arith))

-- ---- what stands on the pages at the start

-- page j of a thing has the bytes that the policy gives it
pub thing_pages : (p : Source) (files : Held) (i : Image) → KeepsConditions i → IsSound p files i → (x : Thing) (j : ℕ) → j < (ground_of p i).pages x → page_of (memory_of i) ((ground_of p i).first x + j) ≡ Some (part j (initial_bytes p files x))
thing_pages p files i keeps sound x j low =
    let t = thing_span p files i keeps sound x j low in
    ap (λ n. page_of (memory_of i) (n + j)) t.first ∙ page_there i keeps t.span t.within j (subst (λ n. j < n) t.pages low) ∙ ap (λ bs. Some (part j bs)) t.is.bytes

-- a subject's control is that of its part of the image
pub its_control : (p : Source) (i : Image) (s : ℕ) (q : SubjectPart) (c : Control) → slice_get i.subjects s ≡ Some q → slice_get (ground_of p i).setup.controls s ≡ Some c → control_of i.spans q ≡ c
its_control p i s q c here at = one_value (slice_get (ground_of p i).setup.controls s) (control_of i.spans q) c (control_at p i s q here) at

-- the first page of a span that the kernel has for a subject
first_there : (i : Image) → KeepsConditions i → (code pages n k : ℕ) → 0 < pages → KernelSpan i.spans code pages n → page_of_span i.spans n ≡ k → page_of (memory_of i) k ≡ Some (page_at i n 0)
first_there i keeps code pages n k some s is =
    subst (λ m. page_of (memory_of i) m ≡ Some (page_at i n 0)) (at_first (page_of_span i.spans n) ∙ is) (numbered_page i keeps code pages n 0 s some)

-- the state page of a subject has its state at the start
pub state_page_at : (p : Source) (i : Image) → KeepsConditions i → (s : ℕ) (q : SubjectPart) (c : Control) → slice_get i.subjects s ≡ Some q → slice_get (ground_of p i).setup.controls s ≡ Some c → page_of (memory_of i) c.state ≡ Some (page_at i q.state 0)
state_page_at p i keeps s q c here at =
    first_there i keeps (part_code State) 1 q.state c.state (omega arith) (subject_spans i keeps s q here).state (ap (λ d. d.state) (its_control p i s q c here at))

pub state_page_there : (p : Source) (files : Held) (i : Image) → KeepsConditions i → IsSound p files i → (s : ℕ) (n : Subject) (c : Control) → slice_get p.subjects s ≡ Some n → slice_get (ground_of p i).setup.controls s ≡ Some c → page_of (memory_of i) c.state ≡ Some (page_bytes (started n.entry))
state_page_there p files i keeps sound s n c named at =
    let o = other_at (IsFresh i) p.subjects i.subjects s n (states_of p files i sound) named in
    state_page_at p i keeps s o.0 c o.1 at ∙ ap Some o.2

-- the area of a subject is there, as a whole page
pub area_page_there : (p : Source) (i : Image) → KeepsConditions i → (s : ℕ) (q : SubjectPart) (c : Control) → slice_get i.subjects s ≡ Some q → slice_get (ground_of p i).setup.controls s ≡ Some c → (page_of (memory_of i) c.msr_area ≡ Some (page_at i q.area 0)) × (length (page_at i q.area 0) ≡ 4096)
area_page_there p i keeps s q c here at =
    let span = (subject_spans i keeps s q here).area in
    (first_there i keeps (part_code Msrs) 1 q.area c.msr_area (omega arith) span (ap (λ d. d.msr_area) (its_control p i s q c here at)), numbered_page_long i keeps (part_code Msrs) 1 q.area 0 span (omega arith))

-- and so are its bitmaps
pub io_page_there : (p : Source) (i : Image) → KeepsConditions i → (s : ℕ) (q : SubjectPart) (c : Control) → slice_get i.subjects s ≡ Some q → slice_get (ground_of p i).setup.controls s ≡ Some c → page_of (memory_of i) c.io_bitmaps ≡ Some (page_at i q.iobm 0)
io_page_there p i keeps s q c here at =
    first_there i keeps (part_code Iobm) 2 q.iobm c.io_bitmaps (omega arith) (subject_spans i keeps s q here).iobm (ap (λ d. d.io_bitmaps) (its_control p i s q c here at))

pub second_io_page_there : (p : Source) (i : Image) → KeepsConditions i → (s : ℕ) (q : SubjectPart) (c : Control) → slice_get i.subjects s ≡ Some q → slice_get (ground_of p i).setup.controls s ≡ Some c → page_of (memory_of i) (c.io_bitmaps + 1) ≡ Some (page_at i q.iobm 1)
second_io_page_there p i keeps s q c here at =
    subst (λ n. page_of (memory_of i) (n + 1) ≡ Some (page_at i q.iobm 1)) (ap (λ d. d.io_bitmaps) (its_control p i s q c here at))
    (numbered_page i keeps (part_code Iobm) 2 q.iobm 1 (subject_spans i keeps s q here).iobm (omega arith))

pub msr_page_there : (p : Source) (i : Image) → KeepsConditions i → (s : ℕ) (q : SubjectPart) (c : Control) → slice_get i.subjects s ≡ Some q → slice_get (ground_of p i).setup.controls s ≡ Some c → page_of (memory_of i) c.msr_bitmap ≡ Some (page_at i q.msrbm 0)
msr_page_there p i keeps s q c here at =
    first_there i keeps (part_code Msrbm) 1 q.msrbm c.msr_bitmap (omega arith) (subject_spans i keeps s q here).msrbm (ap (λ d. d.msr_bitmap) (its_control p i s q c here at))

-- ---- bytes

pub small_pages : (p : Source) (i : Image) → HoldsBytes i → (k : ℕ) (page : List ℕ) → page_of (memory_of i) k ≡ Some page → All IsByte page
small_pages p i small k page at = memory_small i small k page at
