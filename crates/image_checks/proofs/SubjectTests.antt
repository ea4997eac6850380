-- What the tests of one subject tell of it and its part of the image.
use Rattle.std.proofs.Common.{◌≡◌, ℕ, ◌<◌, Bool, true, List, length, get_or, None, Some, refl, ap, ◌∙◌, subst}
use Rattle.std.specs.Prelude.{slice_get}
use Rattle.std.specs.List.{list_all, zip}
use Rattle.std.proofs.lemmas.Bool.{and_parts}
use Rattle.expand_kernel.specs.Grants.{AreGrants}
use Rattle.expand_kernel.specs.granted.Grants.{Grants}
use Rattle.image_checks.proofs.AreaLaws.{area_back, area_kept}
use Rattle.image_checks.proofs.BitmapLaws.{bitmaps_back, bitmaps_kept}
use Rattle.image_checks.proofs.SubjectAt.{granted_to, pair_decided, subject_at}
use Rattle.image_checks.specs.Agree.{AreaAgrees, BitmapsAgree}
use Rattle.image_checks.specs.Firsts.{Decides}
use Rattle.image_pack.specs.declared.parts.Image.{Image}
use Rattle.image_pack.specs.declared.parts.SubjectPart.{SubjectPart}
use Rattle.image_soundness.specs.Memory.{bytes_at, page_at}
use Rattle.image_soundness.specs.Sound.{HasArea, HasBitmaps, IsFresh}
use Rattle.muen_num.proofs.Lists.{passes_at, read_at}
use Rattle.policy_lawful.proofs.KeptMsrs.{has_ranges, msrs_kept}
use Rattle.policy_lawful.specs.MoreRules.{is_msr_range, msrs_apart, offence_11}
use Rattle.policy_lawful.specs.Resolution.{Resolution, source_of, subject_named}
use Rattle.policy_lawful.specs.declared.resolved.Subject.{Subject as ResolvedSubject}
use Rattle.policy_lawful.specs.source.Subject.{Subject}
use Rattle.state_page.specs.StatePage.{page_bytes}
use Rattle.state_page.specs.States.{started}

-- what is read at an index of the image's subjects
part_at : (i j : Image) (qs : List SubjectPart) (k : ℕ) (q : SubjectPart) → j ≡ i → qs ≡ j.subjects → k < length qs → q ≡ get_or qs k q → slice_get i.subjects k ≡ Some q
part_at i j qs k q same are l is = read_at i.subjects qs k q (are ∙ ap (λ (x : Image). x.subjects) same) l is

pub state_answer : (r : Resolution) (i j : Image) (ss : List ResolvedSubject) (qs : List SubjectPart) (k : ℕ) (s : ResolvedSubject) (q : SubjectPart) (b : Bool) → j ≡ i → ss ≡ r.subjects → qs ≡ j.subjects → k < length ss → k < length qs → s ≡ get_or ss k s → q ≡ get_or qs k q
    → Decides (page_at j q.state 0 ≡ page_bytes (started s.entry)) b → (d : Subject × SubjectPart) → Decides (IsFresh i (get_or (zip (source_of r).subjects i.subjects) k d).0 (get_or (zip (source_of r).subjects i.subjects) k d).1) b
state_answer r i j ss qs k s q b same ss_are qs_are l m s_is q_is answer =
    pair_decided r i.subjects k s q (λ e. IsFresh i e.0 e.1) (page_at i q.state 0 ≡ page_bytes (started s.entry)) b (read_at r.subjects ss k s ss_are l s_is) (part_at i j qs k q same qs_are m q_is) (λ h. h) (λ h. h)
    (subst (λ x. Decides (page_at x q.state 0 ≡ page_bytes (started s.entry)) b) same answer)

pub area_answer : (r : Resolution) (i j : Image) (gs : List Grants) (qs : List SubjectPart) (k : ℕ) (g : Grants) (q : SubjectPart) (b : Bool) → AreGrants r gs → j ≡ i → qs ≡ j.subjects → k < length gs → k < length qs → g ≡ get_or gs k g → q ≡ get_or qs k q
    → Decides (AreaAgrees (bytes_at j q.area) q.msrs g.msrs) b → (d : Subject × SubjectPart) → Decides (HasArea i (get_or (zip (source_of r).subjects i.subjects) k d).0 (get_or (zip (source_of r).subjects i.subjects) k d).1) b
area_answer r i j gs qs k g q b grants same qs_are l m g_is q_is answer =
    let to = granted_to r gs k g grants (read_at gs gs k g refl l g_is) in
    let named = subject_named r to.subject in
    pair_decided r i.subjects k to.subject q (λ e. HasArea i e.0 e.1) (AreaAgrees (bytes_at i q.area) q.msrs g.msrs) b to.at (part_at i j qs k q same qs_are m q_is)
    (area_kept i named q g.msrs to.granted.msrs) (area_back i named q g.msrs to.granted.msrs)
    (subst (λ x. Decides (AreaAgrees (bytes_at x q.area) q.msrs g.msrs) b) same answer)

-- rule 11: the MSRs of a subject lie in the ranges of a bitmap
covered_at : (r : Resolution) (k : ℕ) (s : ResolvedSubject) → offence_11 (source_of r) ≡ None → slice_get r.subjects k ≡ Some s → list_all is_msr_range s.msrs ≡ true
covered_at r k s h at =
    let ranges : has_ranges (subject_named r s) ≡ true = passes_at has_ranges (source_of r).subjects k (subject_named r s) (msrs_kept (source_of r) h) (subject_at r k s at) in
    (and_parts (list_all is_msr_range s.msrs) (msrs_apart s.msrs) ranges).0

pub bitmaps_answer : (r : Resolution) (i j : Image) (gs : List Grants) (qs : List SubjectPart) (k : ℕ) (g : Grants) (q : SubjectPart) (b : Bool) → offence_11 (source_of r) ≡ None → AreGrants r gs → j ≡ i → qs ≡ j.subjects → k < length gs → k < length qs → g ≡ get_or gs k g → q ≡ get_or qs k q
    → Decides (BitmapsAgree (page_at j q.iobm 0) (page_at j q.iobm 1) (page_at j q.msrbm 0) g.ports g.msrs) b → (d : Subject × SubjectPart) → Decides (HasBitmaps (source_of r) i (get_or (zip (source_of r).subjects i.subjects) k d).0 (get_or (zip (source_of r).subjects i.subjects) k d).1) b
bitmaps_answer r i j gs qs k g q b lawful grants same qs_are l m g_is q_is answer =
    let to = granted_to r gs k g grants (read_at gs gs k g refl l g_is) in
    let named = subject_named r to.subject in
    let covered = covered_at r k to.subject lawful to.at in
    pair_decided r i.subjects k to.subject q (λ e. HasBitmaps (source_of r) i e.0 e.1) (BitmapsAgree (page_at i q.iobm 0) (page_at i q.iobm 1) (page_at i q.msrbm 0) g.ports g.msrs) b to.at (part_at i j qs k q same qs_are m q_is)
    (bitmaps_kept (source_of r) i named q g.ports g.msrs to.granted.ports to.granted.msrs covered) (bitmaps_back (source_of r) i named q g.ports g.msrs to.granted.ports to.granted.msrs covered)
    (subst (λ x. Decides (BitmapsAgree (page_at x q.iobm 0) (page_at x q.iobm 1) (page_at x q.msrbm 0) g.ports g.msrs) b) same answer)
