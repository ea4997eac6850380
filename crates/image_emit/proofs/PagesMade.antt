-- The pages of subjects, made one after another.
use Rattle.std.proofs.Common.{◌≡◌, ◌∙◌, refl, sym, ap, subst, arith, ℕ, ◌+◌, ◌<◌, ◌≤◌, List, [], ◌∷◌, ◌++◌, length, get_or, take, zip, Some}
use Rattle.std.specs.Prelude.{slice_get}
use Rattle.std.specs.List.{AllZip, enumerate_from}
use Rattle.std.proofs.lemmas.Option.{get_or_from_slice_get, slice_get-get_or, slice_get_within}
use Rattle.std.proofs.lemmas.List.{take_all}
use Rattle.std.proofs.lemmas.List.FromFn.{length-enumerate_from}
use Rattle.muen_num.proofs.Lists.{numbered_at}
use Rattle.muen_num.proofs.Pairs.{zipped_at}
use Rattle.image_emit.proofs.ByNumber.{zip_length}
use Rattle.expand_kernel.proofs.LawfulSubjects.{zip_more}
use Rattle.expand_kernel.specs.granted.Grants.{Grants}
use Rattle.policy_lawful.specs.declared.resolved.Subject.{Subject}
use Rattle.region_alloc.specs.Placed.{Placement}
use Rattle.subject_emit.specs.Pages.{ArePages}
use Rattle.subject_emit.specs.declared.subject_pages.SubjectPages.{SubjectPages}

-- what an index of a list that is the policy's has
pub there : {A : Type 0} (xs ys : List A) (n : ℕ) (x : A) → xs ≡ ys → n < length ys → x ≡ get_or xs n x → slice_get ys n ≡ Some x
there xs ys n x same l is = slice_get-get_or ys n x l ∙ ap (λ zs. Some (get_or zs n x)) (sym same) ∙ ap Some (sym is)

pub one_more : (x : Placement) (n : ℕ) (s : Subject) (g : Grants) (q : SubjectPages) (all more : List SubjectPages) → slice_get x.expanded.lawful.subjects n ≡ Some s → slice_get x.expanded.grants n ≡ Some g
    → AllZip (λ e p. ArePages x e.0 e.1.0 e.1.1 p) (take n (enumerate_from 0 (zip x.expanded.lawful.subjects x.expanded.grants))) all → ArePages x n s g q → more ≡ all ++ q ∷ []
    → AllZip (λ e p. ArePages x e.0 e.1.0 e.1.1 p) (take (n + 1) (enumerate_from 0 (zip x.expanded.lawful.subjects x.expanded.grants))) more
one_more x n s g q all more at given h here pushed =
    let es : List (ℕ × (Subject × Grants)) = enumerate_from 0 (zip x.expanded.lawful.subjects x.expanded.grants) in
    let zero : 0 + n ≡ n = omega arith in
    let is : slice_get es n ≡ Some (n, (s, g)) = numbered_at 0 (zip x.expanded.lawful.subjects x.expanded.grants) n (s, g) (zipped_at x.expanded.lawful.subjects x.expanded.grants n s g at given) ∙ ap (λ k. Some (k, (s, g))) zero in
    zip_more (λ (e : ℕ × (Subject × Grants)) (p : SubjectPages). ArePages x e.0 e.1.0 e.1.1 p) es es n (n, (s, g)) all more q refl (slice_get_within es n (n, (s, g)) is)
    (sym (get_or_from_slice_get es n (n, (s, g)) (n, (s, g)) is)) h here pushed

-- none are made, and all are
pub none_made : (x : Placement) (all : List SubjectPages) → all ≡ [] → AllZip (λ e p. ArePages x e.0 e.1.0 e.1.1 p) (take 0 (enumerate_from 0 (zip x.expanded.lawful.subjects x.expanded.grants))) all
none_made x all is = rw is tt

pub all_made : (x : Placement) (n : ℕ) (all : List SubjectPages) → length x.expanded.lawful.subjects ≤ n → length x.expanded.grants ≡ length x.expanded.lawful.subjects
    → AllZip (λ e p. ArePages x e.0 e.1.0 e.1.1 p) (take n (enumerate_from 0 (zip x.expanded.lawful.subjects x.expanded.grants))) all
    → AllZip (λ e p. ArePages x e.0 e.1.0 e.1.1 p) (enumerate_from 0 (zip x.expanded.lawful.subjects x.expanded.grants)) all
all_made x n all most same h =
    let es : List (ℕ × (Subject × Grants)) = enumerate_from 0 (zip x.expanded.lawful.subjects x.expanded.grants) in
    let many : length es ≡ length x.expanded.lawful.subjects = length-enumerate_from 0 (zip x.expanded.lawful.subjects x.expanded.grants) ∙ zip_length x.expanded.lawful.subjects x.expanded.grants same in
    subst (λ (ds : List (ℕ × (Subject × Grants))). AllZip (λ e p. ArePages x e.0 e.1.0 e.1.1 p) ds all) (take_all n es (omega (arith, most, many))) h
