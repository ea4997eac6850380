-- What stands at an index: a subject of a policy with its part of an image, and its grants.
use Rattle.std.proofs.Common.{◌≡◌, ℕ, ◌<◌, min, List, length, get_or, Some, sym, ap, ◌∙◌, subst, arith, Bool}
use Rattle.std.specs.Prelude.{slice_get, option_map, MatchOption}
use Rattle.std.specs.Option.{IsSomeAnd}
use Rattle.std.specs.List.{zip}
use Rattle.std.proofs.lemmas.Option.{get_or_from_slice_get, slice_get-map, slice_get_within}
use Rattle.std.proofs.lemmas.Slice.Zip.{AllZip-left, AllZip-long, get_or-zip, length-zip}
use Rattle.expand_kernel.specs.Grants.{AreGrants, AreGrantsOf}
use Rattle.expand_kernel.specs.granted.Grants.{Grants}
use Rattle.image_checks.proofs.Decided.{decided}
use Rattle.image_checks.specs.Firsts.{Decides}
use Rattle.image_pack.specs.declared.parts.SubjectPart.{SubjectPart}
use Rattle.muen_num.proofs.Lists.{there}
use Rattle.policy_lawful.specs.Resolution.{Resolution, source_of, subject_named}
use Rattle.policy_lawful.specs.declared.resolved.Subject.{Subject as ResolvedSubject}
use Rattle.policy_lawful.specs.source.Subject.{Subject}
use Rattle.policy_lawful.proofs.SourceElements.{many_subjects}

pub grants_many : (r : Resolution) (gs : List Grants) → AreGrants r gs → length gs ≡ length r.subjects
grants_many r gs h = AllZip-long (AreGrantsOf r) r.subjects gs h

-- how many both have
pub pairs_many : (r : Resolution) (qs : List SubjectPart) → length (zip (source_of r).subjects qs) ≡ min (length r.subjects) (length qs)
pairs_many r qs = length-zip (source_of r).subjects qs ∙ ap (λ n. min n (length qs)) (many_subjects r)

pub subject_at : (r : Resolution) (k : ℕ) (s : ResolvedSubject) → slice_get r.subjects k ≡ Some s → slice_get (source_of r).subjects k ≡ Some (subject_named r s)
unfolding source_of
subject_at r k s at = slice_get-map (subject_named r) r.subjects k ∙ ap (option_map (subject_named r)) at

-- the two at an index
pair_at : (r : Resolution) (qs : List SubjectPart) (k : ℕ) (d : Subject × SubjectPart) (s : ResolvedSubject) (q : SubjectPart) → slice_get r.subjects k ≡ Some s → slice_get qs k ≡ Some q → get_or (zip (source_of r).subjects qs) k d ≡ (subject_named r s, q)
pair_at r qs k d s q a b =
    let named = subject_at r k s a in
    get_or-zip (source_of r).subjects qs k d (slice_get_within (source_of r).subjects k (subject_named r s) named) (slice_get_within qs k q b)
    ∙ (λ i. (get_or_from_slice_get (source_of r).subjects k (subject_named r s) d.0 named i, get_or_from_slice_get qs k q d.1 b i))

-- what a test of both tells of them
pub pair_decided : (r : Resolution) (qs : List SubjectPart) (k : ℕ) (s : ResolvedSubject) (q : SubjectPart) (P : Subject × SubjectPart → Type 0) (Q : Type 0) (b : Bool) → slice_get r.subjects k ≡ Some s → slice_get qs k ≡ Some q → (Q → P (subject_named r s, q)) → (P (subject_named r s, q) → Q) → Decides Q b
    → (d : Subject × SubjectPart) → Decides (P (get_or (zip (source_of r).subjects qs) k d)) b
pair_decided r qs k s q P Q b at_s at_q to from answer d = subst (λ e. Decides (P e) b) (sym (pair_at r qs k d s q at_s at_q)) (decided Q (P (subject_named r s, q)) b to from answer)

-- a subject is granted what stands at its index
granted_at : (r : Resolution) (gs : List Grants) (k : ℕ) (s : ResolvedSubject) (g : Grants) → AreGrants r gs → slice_get r.subjects k ≡ Some s → slice_get gs k ≡ Some g → AreGrantsOf r s g
granted_at r gs k s g h a b =
    let each = AllZip-left (AreGrantsOf r) r.subjects gs h k in
    let at_s : IsSomeAnd (slice_get gs k) (AreGrantsOf r s) = subst (λ o. MatchOption o (Unit {0}) (λ x. IsSomeAnd (slice_get gs k) (AreGrantsOf r x))) a each in
    subst (λ o. IsSomeAnd o (AreGrantsOf r s)) b at_s

-- the subject that is granted what stands at an index
pub record IsGrantedTo (r : Resolution) (k : ℕ) (g : Grants) : Type 0 where
  pub subject : ResolvedSubject
  pub at : slice_get r.subjects k ≡ Some subject
  pub granted : AreGrantsOf r subject g

pub granted_to : (r : Resolution) (gs : List Grants) (k : ℕ) (g : Grants) → AreGrants r gs → slice_get gs k ≡ Some g → IsGrantedTo r k g
granted_to r gs k g h b =
    let low : k < length r.subjects = omega (arith, slice_get_within gs k g b, grants_many r gs h) in
    let s = there r.subjects k low in
    record { subject = s.0; at = s.1; granted = granted_at r gs k s.0 g h s.1 b }
