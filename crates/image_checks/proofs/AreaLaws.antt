-- MSR areas: the numbers in them, and lists that are one another's permutation.
use Rattle.std.proofs.Common.{◌≡◌, ◌≢◌, ℕ, zero, suc, ◌+◌, ◌-◌, ◌*◌, ◌^◌, ◌<◌, ◌≤◌, ◌==◌, Bool, true, false, List, [], ◌∷◌, ◌++◌, length, map, get_or, take, drop, refl, sym, ap, ap₂, ◌∙◌, subst, arith, inl, inr, append_assoc, append-nil, lit<}
use Rattle.std.specs.Prelude.{if◌then◌else◌, sum_by}
use Rattle.std.specs.List.{flat_map}
use Rattle.std.specs.List.Sorted.{IsPermutation}
use Rattle.std.proofs.Math.Nat.{pow-le-pow_right, pow-suc}
use Rattle.std.proofs.Math.Seq.{drop-cons, take-nil}
use Rattle.std.proofs.lemmas.Bool.{cases_lt, eq-eqb, eqb-true, false_from_ne_true}
use Rattle.std.proofs.lemmas.List.{length-map, map-append, take-append-drop}
use Rattle.std.proofs.lemmas.List.Sorted.{IsPermutation-append_right, IsPermutation-middle, IsPermutation-sym, IsPermutation-trans, sum_by-IsPermutation}
use Rattle.std.proofs.lemmas.List.Sums.{sum_by-append}
use Rattle.expand_kernel.specs.Resources.{Msr, msr_grant, each_msr_in, msrs_of}
use Rattle.image_checks.proofs.PageLaws.{within_page}
use Rattle.image_checks.proofs.Decided.{decided}
use Rattle.image_checks.specs.Firsts.{Decides}
use Rattle.image_checks.specs.Agree.{AreaAgrees, indices_in}
use Rattle.image_pack.specs.declared.parts.Image.{Image}
use Rattle.image_pack.specs.declared.parts.SubjectPart.{SubjectPart}
use Rattle.image_soundness.specs.Memory.{bytes_at}
use Rattle.image_soundness.specs.Sound.{HasArea}
use Rattle.machine_layout.specs.Exits.{area_index, area_value, entry_size}
use Rattle.machine_layout.specs.Memory.{le_number}
use Rattle.muen_num.proofs.Lists.{map-map}
use Rattle.muen_num.proofs.NumbersBelow.{same_below}
use Rattle.muen_num.specs.Range.{numbers_below}
use Rattle.policy_lawful.specs.resources.MsrGrant.{MsrGrant}
use Rattle.policy_lawful.specs.source.Msrs.{Msrs}
use Rattle.policy_lawful.specs.source.Subject.{Subject}

-- ---- numbers

le_none : (m : ℕ) → 0 ≡ 0 + 256 * le_number (take m [])
le_none m = rw take-nil refl

le_step : (bytes : List ℕ) (at m : ℕ) → le_number (take (suc m) (drop at bytes)) ≡ get_or bytes at 0 + 256 * le_number (take m (drop (suc at) bytes))
le_step [] zero m = le_none m
le_step [] (suc at) m = le_none m
le_step (b ∷ bs) zero m = refl
le_step (b ∷ bs) (suc at) m = le_step bs at m

-- numbers of so many bytes
pub one_more_byte : (value n byte : ℕ) → value < 256 ^ n → byte < 256 → value * 256 + byte < 256 ^ suc n
one_more_byte value n byte h l = rw pow-suc (omega (arith, h, l))

pub fits_eight : (value n byte : ℕ) → n < 8 → value < 256 ^ n → byte < 256 → value * 256 + byte < 2 ^ 64
fits_eight value n byte m h l =
    let a : value * 256 + byte < 256 ^ suc n = one_more_byte value n byte h l in
    let b : 256 ^ suc n ≤ 256 ^ 8 = pow-le-pow_right {n = 256} (lit< tt) {i = suc n} {j = 8} (omega (arith, m)) in
    omega (arith, a, b)

-- with the byte before
pub one_lower : (bytes : List ℕ) (at left less count value byte : ℕ) → less + 1 ≡ left → left ≤ count → byte ≡ get_or bytes (at + less) 0 → value ≡ le_number (take (count - left) (drop (at + left) bytes)) → value * 256 + byte ≡ le_number (take (count - less) (drop (at + less) bytes))
one_lower bytes at left less count value byte one within is before =
    let m : count - less ≡ suc (count - left) = omega (arith, one, within) in
    let n : suc (at + less) ≡ at + left = omega (arith, one) in
    let step = le_step bytes (at + less) (count - left) in
    let rest : le_number (take (count - left) (drop (suc (at + less)) bytes)) ≡ value = ap (λ k. le_number (take (count - left) (drop k bytes))) n ∙ sym before in
    let sum : get_or bytes (at + less) 0 + 256 * value ≡ value * 256 + byte = omega (arith, is) in
    sym (ap (λ k. le_number (take k (drop (at + less) bytes))) m ∙ step ∙ ap (λ v. get_or bytes (at + less) 0 + 256 * v) rest ∙ sum)

-- all of it is
pub all_read : (bytes : List ℕ) (at left count value : ℕ) → left ≡ 0 → value ≡ le_number (take (count - left) (drop (at + left) bytes)) → value ≡ le_number (take count (drop at bytes))
all_read bytes at left count value none h =
    let m : count - left ≡ count = omega (arith, none) in
    let n : at + left ≡ at = omega (arith, none) in
    h ∙ ap₂ (λ k l. le_number (take k (drop l bytes))) m n

-- ---- an area by its first page

pub same_index : (bytes : List ℕ) (n size : ℕ) → 16 * n + 16 ≤ size → area_index (take size bytes) n ≡ area_index bytes n
unfolding area_index
same_index bytes n size l = ap le_number (within_page bytes (entry_size * n) 4 size (omega (arith, l)))

pub same_value : (bytes : List ℕ) (n size : ℕ) → 16 * n + 16 ≤ size → area_value (take size bytes) n ≡ area_value bytes n
unfolding area_value
same_value bytes n size l = ap le_number (within_page bytes (entry_size * n + 8) 8 size (omega (arith, l)))

pub same_indices : (bytes : List ℕ) (count size : ℕ) → 16 * count ≤ size → map (area_index (take size bytes)) (numbers_below count) ≡ map (area_index bytes) (numbers_below count)
same_indices bytes count size l = same_below (area_index (take size bytes)) (area_index bytes) count (λ k low. same_index bytes k size (omega (arith, l, low)))

-- ---- permutations

-- what an element counts among others
weight : ℕ → ℕ → ℕ
weight x y = if y == x then 1 else 0

weight_same : (x : ℕ) → weight x x ≡ 1
unfolding weight
weight_same x = rw (eq-eqb x x refl) refl

weight_other : (x y : ℕ) → y ≢ x → weight x y ≡ 0
unfolding weight
weight_other x y h = let differ : (y == x) ≡ false = false_from_ne_true (y == x) (λ e. h (eqb-true y x e)) in rw differ refl

sum_none : (x : ℕ) (ys : List ℕ) → ((k : ℕ) → k < length ys → get_or ys k 0 ≢ x) → sum_by (weight x) ys ≡ 0
sum_none x [] h = refl
sum_none x (y ∷ ys) h =
    let a : weight x y ≡ 0 = weight_other x y (h 0 (omega arith)) in
    let b : sum_by (weight x) ys ≡ 0 = sum_none x ys (λ k l. h (suc k) (omega (arith, l))) in
    let both : sum_by (weight x) (y ∷ ys) ≡ sum_by (weight x) (y ∷ []) + sum_by (weight x) ys = sum_by-append (weight x) (y ∷ []) ys in
    omega (arith, a, b, both)

-- with what stands behind it
sum_before : (w f : ℕ → ℕ) (n count : ℕ) → n < count → sum_by w (map f (numbers_below n)) + w (f n) ≤ sum_by w (map f (numbers_below count))
sum_before w f n zero l = absurd (omega (arith, l))
sum_before w f n (suc m) l =
    let all : sum_by w (map f (numbers_below m ++ m ∷ [])) ≡ sum_by w (map f (numbers_below m)) + (0 + w (f m)) = ap (sum_by w) (map-append f (numbers_below m) (m ∷ [])) ∙ sum_by-append w (map f (numbers_below m)) (f m ∷ []) in
    elim (cases_lt n m) [
      | inl less ↦ let before = sum_before w f n m less in omega (arith, all, before)
      | inr more ↦
          let same : m ≡ n = omega (arith, l, more) in
          let here : sum_by w (map f (numbers_below n)) + w (f n) ≡ sum_by w (map f (numbers_below m)) + w (f m) = ap (λ k. sum_by w (map f (numbers_below k)) + w (f k)) (sym same) in
          omega (arith, all, here)
    ]

-- an entry that isn't left is one too many
pub not_left : (f : ℕ → ℕ) (n count : ℕ) (left granted : List ℕ) → n < count → IsPermutation (map f (numbers_below n) ++ left) granted → ((k : ℕ) → k < length left → get_or left k 0 ≢ f n) → IsPermutation granted (map f (numbers_below count)) → ⊥
not_left f n count left granted l now none all =
    let w : ℕ → ℕ = weight (f n) in
    let a : sum_by w granted ≡ sum_by w (map f (numbers_below n) ++ left) = sum_by-IsPermutation w (map f (numbers_below n) ++ left) granted now in
    let b : sum_by w (map f (numbers_below count)) ≡ sum_by w granted = sum_by-IsPermutation w granted (map f (numbers_below count)) all in
    let c : sum_by w (map f (numbers_below n) ++ left) ≡ sum_by w (map f (numbers_below n)) + sum_by w left = sum_by-append w (map f (numbers_below n)) left in
    let d : sum_by w left ≡ 0 = sum_none (f n) left none in
    let e : sum_by w (map f (numbers_below n)) + w (f n) ≤ sum_by w (map f (numbers_below count)) = sum_before w f n count l in
    let g : w (f n) ≡ 1 = weight_same (f n) in
    omega (arith, a, b, c, d, e, g)

split_at : (xs : List ℕ) (at x : ℕ) → at < length xs → get_or xs at 0 ≡ x → take at xs ++ x ∷ drop (suc at) xs ≡ xs
split_at xs at x l is = ap (λ y. take at xs ++ y ∷ drop (suc at) xs) (sym is) ∙ ap (λ ys. take at xs ++ ys) (sym (drop-cons xs at 0 l)) ∙ take-append-drop at xs

-- one that is left is taken out
pub taken_out : (f : ℕ → ℕ) (n at : ℕ) (left granted : List ℕ) → at < length left → get_or left at 0 ≡ f n → IsPermutation (map f (numbers_below n) ++ left) granted → IsPermutation (map f (numbers_below (suc n)) ++ (take at left ++ drop (suc at) left)) granted
taken_out f n at left granted l is now =
    let front = map f (numbers_below n) in
    let a = take at left in
    let b = drop (suc at) left in
    let back : IsPermutation (f n ∷ (a ++ b)) (a ++ f n ∷ b) = IsPermutation-sym (a ++ f n ∷ b) (f n ∷ (a ++ b)) (IsPermutation-middle a (f n) b) in
    let wide : IsPermutation (front ++ f n ∷ (a ++ b)) (front ++ (a ++ f n ∷ b)) = IsPermutation-append_right front (f n ∷ (a ++ b)) (a ++ f n ∷ b) back in
    let whole : IsPermutation (front ++ f n ∷ (a ++ b)) (front ++ left) = subst (λ ys. IsPermutation (front ++ f n ∷ (a ++ b)) (front ++ ys)) (split_at left at (f n) l is) wide in
    let joined : IsPermutation (front ++ f n ∷ (a ++ b)) granted = IsPermutation-trans (front ++ f n ∷ (a ++ b)) (front ++ left) granted whole now in
    let same : front ++ f n ∷ (a ++ b) ≡ map f (numbers_below (suc n)) ++ (a ++ b) = sym (ap (λ xs. xs ++ (a ++ b)) (map-append f (numbers_below n) (n ∷ [])) ∙ append_assoc front (f n ∷ []) (a ++ b)) in
    subst (λ xs. IsPermutation xs granted) same joined

-- nothing is left
pub none_left : (f : ℕ → ℕ) (n count : ℕ) (left granted : List ℕ) → n ≡ count → length left ≡ 0 → IsPermutation (map f (numbers_below n) ++ left) granted → IsPermutation granted (map f (numbers_below count))
none_left f n count [] granted same none now =
    IsPermutation-sym (map f (numbers_below count)) granted
    (subst (λ xs. IsPermutation xs granted) (append-nil (map f (numbers_below n)) ∙ ap (λ k. map f (numbers_below k)) same) now)
none_left f n count (x ∷ xs) granted same none now = absurd (omega (arith, none))

-- ---- the MSRs that are granted

indices_same : (ranges : List Msrs) → map (λ m. m.index) (flat_map each_msr_in ranges) ≡ indices_in (map msr_grant ranges)
indices_same [] = refl
indices_same (x ∷ xs) =
    map-append (λ (m : Msr). m.index) (each_msr_in x) (flat_map each_msr_in xs)
    ∙ ap₂ (λ a b. a ++ b) (map-map (λ (m : Msr). m.index) (λ k. record { index = x.start + k; read = x.rights.read; write = x.rights.write }) (numbers_below (x.end + 1 - x.start))) (indices_same xs)

granted_indices : (s : Subject) (msrs : List MsrGrant) → msrs ≡ map msr_grant s.msrs → map (λ m. m.index) (msrs_of s) ≡ indices_in msrs
unfolding msrs_of
granted_indices s msrs is = indices_same s.msrs ∙ ap indices_in (sym is)

-- an area whose values aren't all 0
pub zeros_fail : (bytes page : List ℕ) (count size : ℕ) (msrs : List MsrGrant) (b : Bool) → page ≡ take size bytes → 16 * count ≤ size → b ≡ false → Decides ((n : ℕ) → n < count → area_value page n ≡ 0) b → AreaAgrees bytes count msrs → ⊥
zeros_fail bytes page count size msrs b is long is_false answer h =
    subst (Decides ((n : ℕ) → n < count → area_value page n ≡ 0)) is_false answer
    (λ n l. ap (λ xs. area_value xs n) is ∙ same_value bytes n size (omega (arith, long, l)) ∙ h.zeros n l)

-- by its first page
pub area_decided : (bytes page granted : List ℕ) (count size : ℕ) (msrs : List MsrGrant) (z b : Bool) → page ≡ take size bytes → 16 * count ≤ size → granted ≡ indices_in msrs → length granted ≡ count → z ≡ true → Decides ((n : ℕ) → n < count → area_value page n ≡ 0) z
    → Decides (IsPermutation granted (map (area_index page) (numbers_below count))) b → Decides (AreaAgrees bytes count msrs) b
area_decided bytes page granted count size msrs z b is long all many is_true zeros answer =
    let read : map (area_index page) (numbers_below count) ≡ map (area_index bytes) (numbers_below count) = ap (λ xs. map (area_index xs) (numbers_below count)) is ∙ same_indices bytes count size long in
    let values : (n : ℕ) → n < count → area_value page n ≡ 0 = subst (Decides ((n : ℕ) → n < count → area_value page n ≡ 0)) is_true zeros in
    decided (IsPermutation granted (map (area_index page) (numbers_below count))) (AreaAgrees bytes count msrs) b
    (λ moved. record {
      many = sym many ∙ ap length all;
      each = subst (λ xs. IsPermutation xs (map (area_index bytes) (numbers_below count))) all (subst (IsPermutation granted) read moved);
      zeros = λ n l. sym (ap (λ xs. area_value xs n) is ∙ same_value bytes n size (omega (arith, long, l))) ∙ values n l;
    })
    (λ h. subst (IsPermutation granted) (sym read) (subst (λ xs. IsPermutation xs (map (area_index bytes) (numbers_below count))) (sym all) h.each))
    answer

module _ (i : Image) (s : Subject) (q : SubjectPart) (msrs : List MsrGrant) (is : msrs ≡ map msr_grant s.msrs) where
  as_many : length (msrs_of s) ≡ length (indices_in msrs)
  as_many = sym (length-map (msrs_of s) (λ (m : Msr). m.index)) ∙ ap length (granted_indices s msrs is)

  pub area_kept : AreaAgrees (bytes_at i q.area) q.msrs msrs → HasArea i s q
  area_kept h = record {
    many = h.many ∙ sym as_many;
    each = subst (λ xs. IsPermutation xs (map (area_index (bytes_at i q.area)) (numbers_below q.msrs))) (sym (granted_indices s msrs is)) h.each;
    zeros = h.zeros;
  }

  pub area_back : HasArea i s q → AreaAgrees (bytes_at i q.area) q.msrs msrs
  area_back h = record {
    many = h.many ∙ as_many;
    each = subst (λ xs. IsPermutation xs (map (area_index (bytes_at i q.area)) (numbers_below q.msrs))) (granted_indices s msrs is) h.each;
    zeros = h.zeros;
  }
