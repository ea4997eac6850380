-- Bytes behind the last field: what stands before them is whole, and all that stands behind what is whole trails.
use Rattle.std.proofs.Common.{◌≡◌, ℕ, ◌+◌, ◌-◌, ◌<◌, false, eqb, List, ◌++◌, length, take, Result, Ok, Err, refl, sym, ap, ◌∙◌, arith}
use Rattle.std.proofs.lemmas.Bool.{ne_eqb}
use Rattle.std.proofs.lemmas.List.{length-append, take_at}
use Rattle.binary_form.specs.declared.fault.Field.{Field}
use Rattle.binary_form.specs.declared.fault.ImageFault.TheVariants as fault
use Rattle.binary_form.specs.declared.fault.FormFault.{FormFault}
use Rattle.binary_form.specs.declared.fault.FormFault.TheVariants.{Short, Bad, Trailing}
use Rattle.binary_form.specs.Form.{Form, IsSettled, extended, longer}
use Rattle.binary_form.specs.Faults.{unpacked}
use Rattle.binary_form.proofs.Leaves.{ok_is, ok_not_err}
use Rattle.proof_faults.proofs.Readers.{IsLocal, read_on}
use Rattle.proof_faults.proofs.FormFaults.{HasTail, IsAll, failing, read_whole, tail_read, trailing_read, whole_ok}

-- a front of bytes that were read up to there was read with nothing behind
ok_front : {A : Type 0} (n : ℕ) (behind : List ℕ) (r q : Result (A × List ℕ) FormFault) (x : A) → (IsSettled r → q ≡ extended (longer behind) n r)
    → ((s : ℕ) → r ≡ Err (Short s) → ⊥) → q ≡ Ok (x, behind) → IsAll r
ok_front n behind (Ok y) q x stays near e =
    let same : y.1 ++ behind ≡ behind = ap (λ p. p.1) (ok_is (longer behind y) (x, behind) (sym (stays tt) ∙ e)) in
    record { value = y.0; rest = y.1; is = refl; none = omega (arith, length-append y.1 behind, ap length same) }
ok_front n behind (Err (Short s)) q x stays near e = absurd (near s refl)
ok_front n behind (Err (Bad l m)) q x stays near e = absurd (ok_not_err (x, behind) (Bad (l + n) m) (sym e ∙ stays tt))
ok_front n behind (Err (Trailing l)) q x stays near e = absurd (ok_not_err (x, behind) (Trailing (l + n)) (sym e ∙ stays tt))

not_none : (n : ℕ) → 0 < n → eqb n 0 ≡ false
not_none n lt = ne_eqb n 0 (λ e. omega (arith, lt, e))

module _ {A : Type 0} (room : Field → ℕ) (f : Form A) (local : IsLocal room f.read) where
  -- what was read before the bytes that trail
  before_tail : (bytes : List ℕ) (at : ℕ) → unpacked f bytes ≡ Err (fault.Trailing at) → HasTail f bytes at
  before_tail bytes at e = trailing_read f bytes at (λ left h. local.among bytes (Trailing left) h) e

  -- what stands before them is whole
  pub trailing_begins : (bytes : List ℕ) (at : ℕ) → unpacked f bytes ≡ Err (fault.Trailing at) → (x : A) × (unpacked f (take at bytes) ≡ Ok x)
  trailing_begins bytes at e =
      let b = before_tail bytes at e in
      let p = local.parts bytes b.value b.rest b.read in
      let len : length p.0 ≡ at = omega (arith, b.place, ap length p.1, length-append p.0 b.rest) in
      let front : take at bytes ≡ p.0 = ap (take at) p.1 ∙ take_at p.0 b.rest at len in
      let there : f.read (p.0 ++ b.rest) ≡ Ok (b.value, b.rest) = ap f.read (sym p.1) ∙ b.read in
      let ends : (s : ℕ) → f.read p.0 ≡ Err (Short s) → ⊥ = λ s h. let past = local.past p.0 b.rest s b.value b.rest h there in omega (arith, past) in
      let y = ok_front (length b.rest) b.rest (f.read p.0) (f.read (p.0 ++ b.rest)) b.value (local.stays p.0 b.rest) ends there in
      (y.value, ap (unpacked f) front ∙ read_whole f p.0 y.value y.rest y.is y.none)

  -- they begin among the bytes
  pub trailing_inside : (bytes : List ℕ) (at : ℕ) → unpacked f bytes ≡ Err (fault.Trailing at) → at < length bytes
  trailing_inside bytes at e =
      let b = before_tail bytes at e in
      let p = local.parts bytes b.value b.rest b.read in
      omega (arith, b.some, b.place, ap length p.1, length-append p.0 b.rest)

  -- all that stands behind what is whole trails
  pub trails : (bytes more : List ℕ) (x : A) → unpacked f bytes ≡ Ok x → 0 < length more → unpacked f (bytes ++ more) ≡ Err (fault.Trailing (length bytes))
  trails bytes more x e some =
      let y = whole_ok f bytes x e in
      let on = read_on room f.read local bytes more (y.value, y.rest) y.is in
      let many : length (y.rest ++ more) ≡ length more = omega (arith, length-append y.rest more, y.none) in
      let at : length (bytes ++ more) - length (y.rest ++ more) ≡ length bytes = omega (arith, length-append bytes more, many) in
      tail_read f (bytes ++ more) y.value (y.rest ++ more) on (not_none (length (y.rest ++ more)) (omega (arith, many, some)))
      ∙ ap (λ (k : ℕ). failing (fault.Trailing k)) at
