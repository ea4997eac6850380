-- The subjects of an image, made one after another.
use Rattle.std.proofs.Common.{◌≡◌, ◌∙◌, refl, sym, ap, ap₂, subst, arith, ℕ, suc, ◌+◌, ◌<◌, ◌≤◌, List, [], ◌∷◌, ◌++◌, append-nil, append_assoc, length, length-append, map, zip, drop, get_or, nat_lt, nat_le}
use Rattle.std.specs.List.{enumerate_from}
use Rattle.std.proofs.lemmas.Bool.{leb-true, ltb-true}
use Rattle.std.proofs.lemmas.List.Sums.{AllPass-from_list_all}
use Rattle.muen_num.proofs.Lists.{drop_more}
use Rattle.event_emit.specs.declared.event_tables.EventTables.{EventTables}
use Rattle.expand_kernel.specs.granted.Grants.{Grants}
use Rattle.image_emit.specs.Fitting.{AreFew}
use Rattle.image_emit.specs.Made.{subject_part}
use Rattle.image_emit.specs.Parting.{IsParting, parts_from}
use Rattle.image_pack.specs.declared.parts.SubjectPart.{SubjectPart}
use Rattle.msrbm_emit.specs.Area.{msr_count}
use Rattle.policy_lawful.specs.declared.resolved.Subject.{Subject}
use Rattle.region_alloc.specs.Placed.{Placement}

pub none_made : (x : Placement) (events : List EventTables) → IsParting x events events []
none_made x events = record { whole = refl; many = omega arith }

-- one more subject is made
pub one_made : (x : Placement) (events left : List EventTables) (parts more : List SubjectPart) (t : EventTables) (s : Subject) (g : Grants)
    → length parts < length x.expanded.lawful.subjects → length parts < length x.expanded.grants → s ≡ get_or x.expanded.lawful.subjects (length parts) s → g ≡ get_or x.expanded.grants (length parts) g
    → more ≡ parts ++ subject_part x (length parts, (s, (g, t))) ∷ [] → IsParting x events (t ∷ left) parts → IsParting x events left more
one_made x events left parts more t s g ls lg is ig pushed h =
    let n = length parts in
    let next : length more ≡ n + 1 = ap length pushed ∙ length-append parts (subject_part x (n, (s, (g, t))) ∷ []) in
    let ss : drop n x.expanded.lawful.subjects ≡ s ∷ drop (n + 1) x.expanded.lawful.subjects = drop_more x.expanded.lawful.subjects n s ls is in
    let gs : drop n x.expanded.grants ≡ g ∷ drop (n + 1) x.expanded.grants = drop_more x.expanded.grants n g lg ig in
    let from : parts_from x n (t ∷ left) ≡ subject_part x (n, (s, (g, t))) ∷ parts_from x (n + 1) left =
    ap₂ (λ (us : List Subject) (vs : List Grants). map (subject_part x) (enumerate_from n (zip us (zip vs (t ∷ left))))) ss gs in
    record {
      whole =
          ap₂ (λ a k. a ++ parts_from x k left) pushed next
          ∙ append_assoc parts (subject_part x (n, (s, (g, t))) ∷ []) (parts_from x (n + 1) left)
          ∙ ap (λ b. parts ++ b) (sym from)
          ∙ h.whole;
      many = let m = h.many in omega (arith, next, m);
    }

nothing : (B : Type 0) → List B
nothing B = []

zip_none : {A B : Type 0} (xs : List A) → zip xs (nothing B) ≡ []
unfolding nothing
zip_none [] = refl
zip_none (x ∷ xs) = refl

none_left : (x : Placement) (n : ℕ) → parts_from x n [] ≡ []
unfolding nothing
none_left x n =
    ap (λ (gs : List (Grants × EventTables)). map (subject_part x) (enumerate_from n (zip (drop n x.expanded.lawful.subjects) gs))) (zip_none (drop n x.expanded.grants))
    ∙ ap (λ (ss : List (Subject × (Grants × EventTables))). map (subject_part x) (enumerate_from n ss)) (zip_none (drop n x.expanded.lawful.subjects))

-- all are made
pub all_made : (x : Placement) (events left : List EventTables) (parts : List SubjectPart) → length left ≡ 0 → IsParting x events left parts → parts ≡ parts_from x 0 events
all_made x events (t ∷ left) parts none h = absurd (omega (arith, none))
all_made x events [] parts none h = sym (append-nil parts) ∙ ap (λ a. parts ++ a) (sym (none_left x (length parts))) ∙ h.whole

-- numbers of the subject at an index fit
pub cpu_fits : (x : Placement) (k : ℕ) (d : Subject) → AreFew x → k < length x.expanded.lawful.subjects → (get_or x.expanded.lawful.subjects k d).cpu < 8
cpu_fits x k d few l = ltb-true (get_or x.expanded.lawful.subjects k d).cpu 8 (AllPass-from_list_all (λ s. nat_lt s.cpu 8) x.expanded.lawful.subjects few.cpus k d l)

pub msrs_fit : (x : Placement) (k : ℕ) (d : Grants) → AreFew x → k < length x.expanded.grants → msr_count (get_or x.expanded.grants k d).msrs ≤ 64
msrs_fit x k d few l = leb-true (msr_count (get_or x.expanded.grants k d).msrs) 64 (AllPass-from_list_all (λ g. nat_le (msr_count g.msrs) 64) x.expanded.grants few.msrs k d l)

-- a subject is left while what one raises is
pub some_left : (x : Placement) (events all left : List EventTables) (t : EventTables) (parts : List SubjectPart) (n : ℕ) → IsParting x events all parts → all ≡ t ∷ left → length events ≡ length x.expanded.lawful.subjects → n ≡ length parts → n < length x.expanded.lawful.subjects
some_left x events all left t parts n h is many index =
    let sum = h.many in
    let next : length all ≡ suc (length left) = ap length is in
    omega (arith, sum, next, many, index)

pub at_subject : (x : Placement) (events left all : List EventTables) (parts more : List SubjectPart) (t : EventTables) (s : Subject) (g : Grants) (n : ℕ) (ss : List Subject) (gs : List Grants) (part : SubjectPart)
    → AreFew x → length events ≡ length x.expanded.lawful.subjects → n ≡ length parts → all ≡ t ∷ left → ss ≡ x.expanded.lawful.subjects → gs ≡ x.expanded.grants → s ≡ get_or ss n s → g ≡ get_or gs n g
    → part ≡ subject_part x (n, (s, (g, t))) → more ≡ parts ++ part ∷ [] → IsParting x events all parts → IsParting x events left more
at_subject x events left all parts more t s g n ss gs part few many index is sub grant at given made pushed h =
    let here = some_left x events all left t parts n h is many index in
    let same = few.grants in
    let s_at : s ≡ get_or x.expanded.lawful.subjects (length parts) s = at ∙ (λ i. get_or (sub i) (index i) s) in
    let g_at : g ≡ get_or x.expanded.grants (length parts) g = given ∙ (λ i. get_or (grant i) (index i) g) in
    one_made x events left parts more t s g (omega (arith, here, index)) (omega (arith, here, index, same)) s_at g_at
    (pushed ∙ ap (λ q. parts ++ q ∷ []) (made ∙ ap (λ k. subject_part x (k, (s, (g, t)))) index))
    (subst (λ l. IsParting x events l parts) is h)
