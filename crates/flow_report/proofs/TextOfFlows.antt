-- The text by marks is the text of the closures.
use Rattle.std.proofs.Common.{◌≡◌, ℕ, zero, suc, ◌+◌, Bool, true, false, List, [], ◌∷◌, ◌++◌, drop, map, Some, None, refl, sym, ap, ◌∙◌, inl, inr, add-one}
use Rattle.std.specs.Prelude.{codes, option_map, slice_get, slice_index_or}
use Rattle.std.specs.List.{enumerate_from, flat_map}
use Rattle.std.proofs.lemmas.List.Folds.{flat_map-map}
use Rattle.std.proofs.lemmas.Option.{get_or_from_slice_get, slice_get-map}
use Rattle.policy_lawful.specs.Resolution.{Resolution, source_of, subject_named}
use Rattle.policy_lawful.specs.declared.resolved.Subject.{Subject}
use Rattle.policy_lawful.proofs.UniqueNames.{names_of_subjects, subject_names}
use Rattle.policy_lawful.specs.source.Subject.{Subject as NamedSubject}
use Rattle.policy_flows.specs.Flows.{closure_of}
use Rattle.muen_num.proofs.Members.{In}
use Rattle.flow_report.specs.FlowText.{flow_line, flow_text_of}
use Rattle.flow_report.specs.Sets.{AreFlows, marked_elements, members_of}
use Rattle.flow_report.specs.TextByIndex.{flow_line_at, line_end, line_start, lines_text, member_at, member_text, members_text}
use Rattle.flow_report.proofs.IndexesOfSubjects.{at_number}

-- ---- the members of a set

abbrev spaced : List (List ℕ) → List ℕ
spaced names = flat_map (λ m. codes " " ++ m) names

pub marked_none : {X : Type 0} (bs : List Bool) → marked_elements {X = X} bs [] ≡ []
unfolding marked_elements
marked_none [] = refl
marked_none (b ∷ bs) = refl

-- the first of those from an index on, and the others
member_first : (n : ℕ) (set : List Bool) (name : List ℕ) (names : List (List ℕ)) → spaced (marked_elements (drop n set) (name ∷ names)) ≡ member_text (slice_index_or set n false) name ++ spaced (marked_elements (drop (suc n) set) names)
unfolding marked_elements
member_first zero [] name names = refl
member_first zero (true ∷ bs) name names = refl
member_first zero (false ∷ bs) name names = refl
member_first (suc n) [] name names = refl
member_first (suc n) (b ∷ bs) name names = member_first n bs name names

members_from : (n : ℕ) (set : List Bool) (xs : List Subject) → flat_map (member_at set) (enumerate_from n xs) ≡ spaced (marked_elements (drop n set) (map (λ s. s.name) xs))
members_from n set [] = ap spaced (sym (marked_none (drop n set)))
members_from n set (x ∷ xs) =
    ap (λ text. member_text (slice_index_or set n false) x.name ++ text) (members_from (n + 1) set xs ∙ ap (λ k. spaced (marked_elements (drop k set) (map (λ s. s.name) xs))) (add-one n))
    ∙ sym (member_first n set x.name (map (λ s. s.name) xs))

pub members_same : (set : List Bool) (xs : List Subject) → flat_map (member_at set) (enumerate_from 0 xs) ≡ members_text set xs
members_same set xs = members_from 0 set xs

-- ---- all lines

flat_agree : {X Y : Type 0} (f g : X → List Y) (xs : List X) → ((x : X) → In x xs → f x ≡ g x) → flat_map f xs ≡ flat_map g xs
flat_agree f g [] same = refl
flat_agree f g (x ∷ xs) same = λ i. same x (inl refl) i ++ flat_agree f g xs (λ y h. same y (inr h)) i

flat_numbered : {X Y : Type 0} (f : X → List Y) (n : ℕ) (xs : List X) → flat_map f xs ≡ flat_map (λ x. f x.1) (enumerate_from n xs)
flat_numbered f n [] = refl
flat_numbered f n (x ∷ xs) = ap (λ ys. f x ++ ys) (flat_numbered f (n + 1) xs)

-- what stands at an index, where images are the same lists
same_image : {X Y Z : Type 0} (f : X → Z) (g : Y → Z) (xs : List X) (ys : List Y) (k : ℕ) (y : Y) (d : X) → map f xs ≡ map g ys → slice_get ys k ≡ Some y → f (slice_index_or xs k d) ≡ g y
same_image {X} {Y} {Z} f g xs ys k y d same at =
    let here : option_map f (slice_get xs k) ≡ Some (g y) = sym (slice_get-map f xs k) ∙ ap (λ zs. slice_get zs k) same ∙ slice_get-map g ys k ∙ ap (option_map g) at in
    elim (slice_get xs k) as (λ o. slice_get xs k ≡ o → option_map f o ≡ Some (g y) → f (slice_index_or xs k d) ≡ g y) [
      | None ↦ λ e h. absurd (cc)
      | Some x ↦ λ e h. let image : f x ≡ g y = cc in ap f (get_or_from_slice_get xs k x d e) ∙ image
    ] refl here

line_is : (name : List ℕ) (members : List (List ℕ)) → line_start name ++ spaced members ++ line_end ≡ flow_line name members
unfolding line_start line_end
line_is name members = refl

-- sets that have these members, by the name of their subject
module _ (r : Resolution) (sets : List (List Bool)) (members : List ℕ → List (List ℕ)) (are : map (members_of (source_of r)) sets ≡ map (λ s. members s.name) (source_of r).subjects) where
  line_same : (x : ℕ × Subject) → slice_get r.subjects x.0 ≡ Some x.1 → flow_line_at r.subjects sets x ≡ flow_line x.1.name (members x.1.name)
  unfolding source_of
  line_same (k, s) at =
      let here : slice_get (source_of r).subjects k ≡ Some (subject_named r s) = slice_get-map (subject_named r) r.subjects k ∙ ap (option_map (subject_named r)) at in
      let same : members_of (source_of r) (slice_index_or sets k []) ≡ members s.name =
      same_image (members_of (source_of r)) (λ (t : NamedSubject). members t.name) sets (source_of r).subjects k (subject_named r s) [] are here in
      line_is s.name (marked_elements (slice_index_or sets k []) (subject_names r))
      ∙ ap (λ names. flow_line s.name (marked_elements (slice_index_or sets k []) names)) (sym (names_of_subjects r))
      ∙ ap (flow_line s.name) same

  pub lines_same : lines_text r.subjects sets ≡ flat_map (λ s. flow_line s.name (members s.name)) (source_of r).subjects
  unfolding source_of
  lines_same =
      let line : NamedSubject → List ℕ = λ s. flow_line s.name (members s.name) in
      flat_agree (flow_line_at r.subjects sets) (λ x. line (subject_named r x.1)) (enumerate_from 0 r.subjects) (λ x i. line_same x (at_number r.subjects x i))
      ∙ sym (flat_numbered (λ s. line (subject_named r s)) 0 r.subjects)
      ∙ sym (flat_map-map line (subject_named r) r.subjects)

pub text_same : (r : Resolution) (sets : List (List Bool)) → AreFlows (source_of r) sets → lines_text r.subjects sets ≡ flow_text_of (source_of r)
unfolding flow_text_of
text_same r sets flows = lines_same r sets (closure_of (source_of r)) flows
