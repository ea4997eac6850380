-- The search for the lowest free place: from the end of one range that is in the way to that of the next.
use Rattle.std.proofs.Common.{◌≡◌, inl, inr, ℕ, ◌+◌, ◌%◌, ◌<◌, ◌≤◌, ◌&&◌, ◌||◌, Bool, true, false, cond, not, All, List, [], ◌∷◌, Some, None, refl, ap, ◌∙◌, arith, if◌then◌else◌, nat_le}
use Rattle.std.specs.List.{find, list_all, sum_by}
use Rattle.std.proofs.lemmas.Bool.{cases_Bool, cases_lt, le-leb, leb-false, leb-true, not-true, or_cases, or_parts}
use Rattle.std.proofs.lemmas.List.Sums.{sum_by-cons, sum_by-le-sum_by}
use Rattle.dma_emit.specs.Base.{IsLowestFree, is_free}
use Rattle.muen_num.proofs.Members.{In, all_in, find_in}
use Rattle.muen_num.specs.declared.limits.TheConstants.{PAGE, PHYSICAL_END}
use Rattle.policy_lawful.specs.declared.offence.Extent.{Extent}

-- the range shares none with so many bytes from an address on
abbrev pub is_beside : ℕ → ℕ → Extent → Bool
is_beside bytes address e = nat_le (address + bytes) e.address || nat_le (e.address + e.size) address

-- what a range that ends by an address takes of the way there
abbrev pub passed : ℕ → ℕ → Extent → ℕ
passed bytes base e = if nat_le (e.address + e.size) base then e.size + bytes else 0

-- ---- a range that is in the way

in_way : (bytes base : ℕ) (e : Extent) → not (is_beside bytes base e) ≡ true → (e.address < base + bytes) × (base < e.address + e.size)
in_way bytes base e h =
    let none : is_beside bytes base e ≡ false = not-true (is_beside bytes base e) h in
    let both = or_parts (nat_le (base + bytes) e.address) (nat_le (e.address + e.size) base) none in
    (leb-false _ _ both.0, leb-false _ _ both.1)

passed_before : (bytes base : ℕ) (e : Extent) → base < e.address + e.size → passed bytes base e ≡ 0
passed_before bytes base e l = elim (cases_Bool (nat_le (e.address + e.size) base)) [
  | inl passes ↦ let le = leb-true _ _ passes in absurd (omega arith)
  | inr fails ↦ ap (λ b. if b then e.size + bytes else 0) fails
]

passed_after : (bytes : ℕ) (e : Extent) → passed bytes (e.address + e.size) e ≡ e.size + bytes
passed_after bytes e = ap (λ b. if b then e.size + bytes else 0) (le-leb (e.address + e.size) (e.address + e.size) (omega arith))

passed_grows : (bytes base next : ℕ) → base ≤ next → (e : Extent) → passed bytes base e ≤ passed bytes next e
passed_grows bytes base next l e = elim (cases_Bool (nat_le (e.address + e.size) base)) [
  | inl passes ↦
      let le = leb-true _ _ passes in
      let a : passed bytes base e ≡ e.size + bytes = ap (λ b. if b then e.size + bytes else 0) passes in
      let b : passed bytes next e ≡ e.size + bytes = ap (λ b. if b then e.size + bytes else 0) (le-leb (e.address + e.size) next (omega arith)) in
      omega arith
  | inr fails ↦
      let a : passed bytes base e ≡ 0 = ap (λ b. if b then e.size + bytes else 0) fails in
      omega arith
]

passed_more : (bytes base next : ℕ) (xs : List Extent) (e : Extent) → base ≤ next → In e xs → passed bytes base e ≡ 0 → passed bytes next e ≡ e.size + bytes
    → sum_by (passed bytes base) xs + (e.size + bytes) ≤ sum_by (passed bytes next) xs
passed_more bytes base next [] e l i a b = absurd i
passed_more bytes base next (x ∷ xs) e l (inl same) a b =
    let old = sum_by-cons (passed bytes base) x xs in
    let new = sum_by-cons (passed bytes next) x xs in
    let rest = sum_by-le-sum_by (passed bytes base) (passed bytes next) xs (passed_grows bytes base next l) in
    let here : passed bytes base x ≡ 0 = ap (passed bytes base) same ∙ a in
    let there : passed bytes next x ≡ e.size + bytes = ap (passed bytes next) same ∙ b in
    omega arith
passed_more bytes base next (x ∷ xs) e l (inr i) a b =
    let old = sum_by-cons (passed bytes base) x xs in
    let new = sum_by-cons (passed bytes next) x xs in
    let here = passed_grows bytes base next l x in
    let rest = passed_more bytes base next xs e l i a b in
    omega arith

fails_at : (p : Extent → Bool) (xs : List Extent) (e : Extent) → In e xs → p e ≡ false → list_all p xs ≡ false
fails_at p [] e i h = absurd i
fails_at p (x ∷ xs) e (inl same) h = ap (λ b. b && list_all p xs) (ap p same ∙ h)
fails_at p (x ∷ xs) e (inr i) h = elim (p x) as (λ b. (b && list_all p xs) ≡ false) [ true ↦ fails_at p xs e i h | false ↦ refl ]

not_beside : (bytes a : ℕ) (e : Extent) → e.address < a + bytes → a < e.address + e.size → is_beside bytes a e ≡ false
not_beside bytes a e l m = elim (cases_Bool (is_beside bytes a e)) [
  | inl passes ↦ elim (or_cases (nat_le (a + bytes) e.address) (nat_le (e.address + e.size) a) passes) [
    | inl before ↦ let le = leb-true _ _ before in absurd (omega arith)
    | inr behind ↦ let le = leb-true _ _ behind in absurd (omega arith)
  ]
  | inr fails ↦ fails
]

-- ---- the loop

pub record IsOnTheWay (extents : List Extent) (bytes base : ℕ) : Type 0 where
  pub aligned : base % PAGE ≡ 0
  pub few : base ≤ sum_by (passed bytes base) extents
  pub none : (a : ℕ) → a % PAGE ≡ 0 → a < base → is_free extents bytes a ≡ false

pub starts : (extents : List Extent) (bytes : ℕ) → IsOnTheWay extents bytes 0
starts extents bytes = record { aligned = refl; few = omega arith; none = λ a h l. absurd (omega arith) }

-- not further than the ranges and so many bytes for each
pub not_far : (extents : List Extent) (bytes base : ℕ) → IsOnTheWay extents bytes base → base ≤ sum_by (λ e. e.size + bytes) extents
not_far extents bytes base h =
    let few = h.few in
    let all = sum_by-le-sum_by (passed bytes base) (λ (e : Extent). e.size + bytes) extents (λ e. elim (nat_le (e.address + e.size) base) as (λ b. (if b then e.size + bytes else 0) ≤ e.size + bytes) [ true ↦ omega arith | false ↦ omega arith ]) in
    omega arith

pub record IsNext (extents : List Extent) (bytes base : ℕ) (e : Extent) : Type 0 where
  pub on : IsOnTheWay extents bytes (e.address + e.size)
  pub more : base < e.address + e.size
  pub end : e.address + e.size ≤ PHYSICAL_END

pub goes_on : (extents : List Extent) (bytes base : ℕ) (e : Extent) → All (λ e. (e.address + e.size) % PAGE ≡ 0) extents → All (λ e. e.address + e.size ≤ PHYSICAL_END) extents
    → IsOnTheWay extents bytes base → find (λ e. not (is_beside bytes base e)) extents ≡ Some e → IsNext extents bytes base e
goes_on extents bytes base e whole ends h found =
    let here = find_in (λ e. not (is_beside bytes base e)) extents e found in
    let way = in_way bytes base e here.1 in
    let few = h.few in
    let next = e.address + e.size in
    let more = passed_more bytes base next extents e (omega (arith, way.1)) here.0 (passed_before bytes base e way.1) (passed_after bytes e) in
    record {
      on = record {
        aligned = all_in (λ (e : Extent). (e.address + e.size) % PAGE ≡ 0) extents whole e here.0;
        few = omega (arith, way.0);
        none = λ a page l. elim (cases_lt a base) [
          | inl before ↦ h.none a page before
          | inr behind ↦ fails_at (is_beside bytes a) extents e here.0 (not_beside bytes a e (omega (arith, way.0)) l)
        ];
      };
      more = way.1;
      end = all_in (λ (e : Extent). e.address + e.size ≤ PHYSICAL_END) extents ends e here.0;
    }

none_found : (p : Extent → Bool) (xs : List Extent) → find (λ x. not (p x)) xs ≡ None → list_all p xs ≡ true
none_found p [] h = refl
none_found p (x ∷ xs) h =
    elim (p x) as (λ b. cond (not b) (Some x) (find (λ x. not (p x)) xs) ≡ None → (b && list_all p xs) ≡ true) [
      | true ↦ λ e. none_found p xs e
      | false ↦ λ e. absurd (cc)
    ] h

pub ends_free : (extents : List Extent) (bytes base : ℕ) → IsOnTheWay extents bytes base → find (λ e. not (is_beside bytes base e)) extents ≡ None → IsLowestFree extents bytes base
ends_free extents bytes base h none = record { aligned = h.aligned; free = none_found (is_beside bytes base) extents none; lowest = h.none }
