-- What the fronts of bytes with a fault read, by what is local in a form.
use Rattle.std.proofs.Common.{◌≡◌, ℕ, ◌+◌, ◌-◌, ◌<◌, ◌≤◌, List, ◌++◌, length, take, drop, Result, Ok, Err, refl, sym, ap, subst, ◌∙◌, arith, inl, inr, ◌⊎◌}
use Rattle.std.proofs.lemmas.Bool.{cases_lt}
use Rattle.std.proofs.lemmas.List.{length-append, length-drop, length-take, length-take-le, take-append-drop, take_all}
use Rattle.binary_form.specs.declared.fault.Field.{Field}
use Rattle.binary_form.specs.declared.fault.ImageFault.{ImageFault}
use Rattle.binary_form.specs.declared.fault.ImageFault.TheVariants as fault
use Rattle.binary_form.specs.declared.fault.FormFault.{FormFault}
use Rattle.binary_form.specs.declared.fault.FormFault.TheVariants.{Short, Bad, Trailing}
use Rattle.binary_form.specs.Form.{Form, IsSettled, extended, longer}
use Rattle.binary_form.specs.Faults.{unpacked}
use Rattle.binary_form.proofs.Leaves.{err_is, ok_not_err}
use Rattle.proof_faults.proofs.Readers.{IsAmong, IsLocal}
use Rattle.proof_faults.proofs.FormFaults.{IsOfField, bad_read, failing, is_whole, short_read}

-- ---- a front of bytes with a fault

-- the front ends before the field of the fault is there: n bytes more have it, with so many left
record IsCut {A : Type 0} (n left : ℕ) (r : Result A FormFault) : Type 0 where
  short : ℕ
  is : r ≡ Err (Short short)
  place : left ≡ short + n

-- .. and it has fewer bytes of the field than there is room for
record IsCutIn {A : Type 0} (room : Field → ℕ) (n left : ℕ) (name : Field) (r : Result A FormFault) : Type 0 where
  cut : IsCut n left r
  few : cut.short < room name

-- the front has the same fault, n bytes nearer to its end
record IsWrong {A : Type 0} (n left : ℕ) (name : Field) (r : Result A FormFault) : Type 0 where
  rest : ℕ
  is : r ≡ Err (Bad rest name)
  place : rest + n ≡ left

-- short where the field of the fault begins, or wrong as it is with so many bytes more behind
abbrev IsBadFront : {A : Type 0} → (Field → ℕ) → ℕ → ℕ → Field → Result A FormFault → Type 0
IsBadFront room n left name r = IsCutIn room n left name r ⊎ IsWrong n left name r

-- what a front reads, by what n bytes more make of it: a wrong field
bad_cases : {A : Type 0} (room : Field → ℕ) (n left : ℕ) (name : Field) (g : A → A) (r q : Result A FormFault) → (IsSettled r → q ≡ extended g n r)
    → ((s : ℕ) → r ≡ Err (Short s) → (left ≡ s + n) × (s < room name)) → ((d : FormFault) → r ≡ Err d → IsOfField d)
    → q ≡ Err (Bad left name) → IsBadFront room n left name r
bad_cases room n left title g (Ok x) q stays near of e = absurd (ok_not_err (g x) (Bad left title) (sym (stays tt) ∙ e))
bad_cases room n left title g (Err (Short s)) q stays near of e =
    let h = near s refl in
    inl (record { cut = record { short = s; is = refl; place = h.0 }; few = h.1 })
bad_cases {A} room n left title g (Err (Bad l m)) q stays near of e =
    let same : Bad (l + n) m ≡ Bad left title = err_is {A = A} (Bad (l + n) m) (Bad left title) (sym (stays tt) ∙ e) in
    let name_is : m ≡ title = cc in
    inr (record { rest = l; is = ap (λ t. Err (Bad l t)) name_is; place = cc })
bad_cases room n left title g (Err (Trailing l)) q stays near of e = absurd (of (Trailing l) refl)

-- .. or one in which the bytes end
short_cases : {A : Type 0} (n left : ℕ) (g : A → A) (r q : Result A FormFault) → (IsSettled r → q ≡ extended g n r) → ((s : ℕ) → r ≡ Err (Short s) → left ≡ s + n)
    → ((d : FormFault) → r ≡ Err d → IsOfField d) → q ≡ Err (Short left) → IsCut n left r
short_cases n left g (Ok x) q stays near of e = absurd (ok_not_err (g x) (Short left) (sym (stays tt) ∙ e))
short_cases n left g (Err (Short s)) q stays near of e = record { short = s; is = refl; place = near s refl }
short_cases {A} n left g (Err (Bad l m)) q stays near of e =
    let same : Bad (l + n) m ≡ Short left = err_is {A = A} (Bad (l + n) m) (Short left) (sym (stays tt) ∙ e) in
    absurd cc
short_cases n left g (Err (Trailing l)) q stays near of e = absurd (of (Trailing l) refl)

-- a fault among the bytes is one of a field
among_of : (n : ℕ) (e : FormFault) → IsAmong n e → IsOfField e
among_of n (Short left) h = tt
among_of n (Bad left title) h = tt
among_of n (Trailing left) h = h

-- a wrong field is as wrong with n bytes more behind
bad_more : {A : Type 0} (n : ℕ) (g : A × List ℕ → A × List ℕ) (r q : Result (A × List ℕ) FormFault) (left : ℕ) (name : Field)
    → (IsSettled r → q ≡ extended g n r) → r ≡ Err (Bad left name) → q ≡ Err (Bad (left + n) name)
bad_more n g r q left title stays e = stays (subst IsSettled (sym e) tt) ∙ ap (extended g n) e

-- short where the field begins, and with fewer bytes than it has room for, or wrong there
abbrev pub IsThere : {A : Type 0} → (Field → ℕ) → ℕ → ℕ → Field → Result A ImageFault → Type 0
IsThere room n at name r = ((r ≡ Err (fault.Short at)) × (n < at + room name)) ⊎ (r ≡ Err (fault.Bad at name))

module _ {A : Type 0} (room : Field → ℕ) (f : Form A) (local : IsLocal room f.read) where
  -- a front of bytes with a wrong field
  bad_front : (front behind : List ℕ) (left : ℕ) (name : Field) → f.read (front ++ behind) ≡ Err (Bad left name) → length behind ≤ left
      → IsBadFront room (length behind) left name (f.read front)
  bad_front front behind left title e le =
      bad_cases room (length behind) left title (longer behind) (f.read front) (f.read (front ++ behind)) (local.stays front behind)
      (λ s h. local.near front behind s (Bad left title) h e le) (λ d h. among_of (length front) d (local.among front d h)) e

  -- .. and of bytes that end too early
  short_front : (front behind : List ℕ) (left : ℕ) → f.read (front ++ behind) ≡ Err (Short left) → length behind ≤ left → IsCut (length behind) left (f.read front)
  short_front front behind left e le =
      short_cases (length behind) left (longer behind) (f.read front) (f.read (front ++ behind)) (local.stays front behind)
      (λ s h. (local.near front behind s (Short left) h e le).0) (λ d h. among_of (length front) d (local.among front d h)) e

  -- ---- bytes with a wrong field

  -- whatever ends at the field's beginning or behind it
  pub bad_there : (bytes : List ℕ) (at n : ℕ) (name : Field) → unpacked f bytes ≡ Err (fault.Bad at name) → at ≤ n → IsThere room n at name (unpacked f (take n bytes))
  bad_there bytes at n title e le =
      let b = bad_read f bytes at title e in
      let among = local.among bytes (Bad b.left title) b.read in
      elim (cases_lt n (length bytes)) [
        | inl lt ↦
            let many : length (take n bytes) ≡ n = length-take-le n bytes (omega (arith, lt)) in
            let fewer : length (drop n bytes) ≤ b.left = omega (arith, length-drop n bytes, among.1, b.place, le) in
            let whole : f.read (take n bytes ++ drop n bytes) ≡ Err (Bad b.left title) = ap f.read (take-append-drop n bytes) ∙ b.read in
            elim (bad_front (take n bytes) (drop n bytes) b.left title whole fewer) [
              | inl s ↦
                  let cut = s.cut in
                  let same : length (take n bytes) - cut.short ≡ at = omega (arith, many, cut.place, length-drop n bytes, b.place, among.1, lt) in
                  let lacks : n < at + room title = omega (arith, s.few, cut.place, length-drop n bytes, b.place, among.1, lt) in
                  inl (is_whole f (take n bytes) (Short cut.short) cut.is ∙ ap (λ (k : ℕ). failing (fault.Short k)) same, lacks)
              | inr l ↦
                  let same : length (take n bytes) - l.rest ≡ at = omega (arith, many, l.place, length-drop n bytes, b.place, among.1, lt) in
                  inr (is_whole f (take n bytes) (Bad l.rest title) l.is ∙ ap (λ (k : ℕ). failing (fault.Bad k title)) same)
            ]
        | inr past ↦ inr (ap (unpacked f) (take_all n bytes past) ∙ e)
      ]

  -- .. has this fault, or ends there
  pub bad_only : (bytes : List ℕ) (at n : ℕ) (name : Field) → unpacked f bytes ≡ Err (fault.Bad at name) → at ≤ n
      → (unpacked f (take n bytes) ≡ Err (fault.Short at)) ⊎ (unpacked f (take n bytes) ≡ Err (fault.Bad at name))
  bad_only bytes at n title e le =
      elim (bad_there bytes at n title e le) [
        | inl h ↦ inl h.0
        | inr h ↦ inr h
      ]

  -- bytes that go as far as the end of the field have the fault
  pub bad_decided : (bytes : List ℕ) (at n : ℕ) (name : Field) → unpacked f bytes ≡ Err (fault.Bad at name) → at + room name ≤ n
      → unpacked f (take n bytes) ≡ Err (fault.Bad at name)
  bad_decided bytes at n title e le =
      elim (bad_there bytes at n title e (omega (arith, le))) [
        | inl h ↦ absurd (omega (arith, h.1, le))
        | inr h ↦ h
      ]

  -- whatever stands behind them
  pub bad_stays : (bytes more : List ℕ) (at : ℕ) (name : Field) → unpacked f bytes ≡ Err (fault.Bad at name) → unpacked f (bytes ++ more) ≡ Err (fault.Bad at name)
  bad_stays bytes more at title e =
      let b = bad_read f bytes at title e in
      let there = bad_more (length more) (longer more) (f.read bytes) (f.read (bytes ++ more)) b.left title (local.stays bytes more) b.read in
      let same : length (bytes ++ more) - (b.left + length more) ≡ at = omega (arith, length-append bytes more, b.place) in
      is_whole f (bytes ++ more) (Bad (b.left + length more) title) there ∙ ap (λ (k : ℕ). failing (fault.Bad k title)) same

  -- .. also behind a front of them that goes so far
  pub bad_behind : (bytes more : List ℕ) (at n : ℕ) (name : Field) → unpacked f bytes ≡ Err (fault.Bad at name) → at + room name ≤ n
      → unpacked f (take n bytes ++ more) ≡ Err (fault.Bad at name)
  bad_behind bytes more at n title e le = bad_stays (take n bytes) more at title (bad_decided bytes at n title e le)

  -- bytes that are the same up to the end of the field have the same fault
  pub bad_alike : (bytes other : List ℕ) (at : ℕ) (name : Field) → take (at + room name) other ≡ take (at + room name) bytes → unpacked f bytes ≡ Err (fault.Bad at name)
      → unpacked f other ≡ Err (fault.Bad at name)
  bad_alike bytes other at title same e =
      let n = at + room title in
      ap (unpacked f) (sym (take-append-drop n other) ∙ ap (λ (t : List ℕ). t ++ drop n other) same)
      ∙ bad_behind bytes (drop n other) at n title e (omega arith)

  -- the field has a byte
  pub bad_inside : (bytes : List ℕ) (at : ℕ) (name : Field) → unpacked f bytes ≡ Err (fault.Bad at name) → at < length bytes
  bad_inside bytes at title e =
      let b = bad_read f bytes at title e in
      let among = local.among bytes (Bad b.left title) b.read in
      omega (arith, among.0, among.1, b.place)

  -- nothing before the field is at fault
  pub bad_begins : (bytes : List ℕ) (at : ℕ) (name : Field) → unpacked f bytes ≡ Err (fault.Bad at name) → unpacked f (take at bytes) ≡ Err (fault.Short at)
  bad_begins bytes at title e =
      elim (bad_there bytes at at title e (omega arith)) [
        | inl h ↦ h.0
        | inr h ↦
            let there = bad_inside (take at bytes) at title h in
            absurd (omega (arith, there, length-take at bytes))
      ]

  -- ---- bytes that end too early

  -- a front that goes as far as the last field ends in it too
  pub short_begins : (bytes : List ℕ) (at n : ℕ) → unpacked f bytes ≡ Err (fault.Short at) → at ≤ n → unpacked f (take n bytes) ≡ Err (fault.Short at)
  short_begins bytes at n e le =
      let b = short_read f bytes at e in
      let among = local.among bytes (Short b.left) b.read in
      elim (cases_lt n (length bytes)) [
        | inl lt ↦
            let many : length (take n bytes) ≡ n = length-take-le n bytes (omega (arith, lt)) in
            let fewer : length (drop n bytes) ≤ b.left = omega (arith, length-drop n bytes, among, b.place, le) in
            let whole : f.read (take n bytes ++ drop n bytes) ≡ Err (Short b.left) = ap f.read (take-append-drop n bytes) ∙ b.read in
            let s = short_front (take n bytes) (drop n bytes) b.left whole fewer in
            let same : length (take n bytes) - s.short ≡ at = omega (arith, many, s.place, length-drop n bytes, b.place, among, lt) in
            is_whole f (take n bytes) (Short s.short) s.is ∙ ap (λ (k : ℕ). failing (fault.Short k)) same
        | inr past ↦ ap (unpacked f) (take_all n bytes past) ∙ e
      ]

  -- the field begins among the bytes, or where they end
  pub short_inside : (bytes : List ℕ) (at : ℕ) → unpacked f bytes ≡ Err (fault.Short at) → at ≤ length bytes
  short_inside bytes at e =
      let b = short_read f bytes at e in
      omega (arith, b.place)
