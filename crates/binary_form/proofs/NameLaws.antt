-- The field of a name is read as it was written, and has one spelling.
use Rattle.std.proofs.Common.{◌≡◌, ℕ, ◌-◌, ◌≤◌, Bool, true, false, cond, ◌&&◌, leb, eqb, List, [], ◌∷◌, ◌++◌, length, take, drop, replicate, Option, Some, None, refl, sym, ap, subst, ◌∙◌, arith}
use Rattle.std.specs.List.{list_all}
use Rattle.std.proofs.lemmas.Bool.{leb-true, le-leb, and_parts}
use Rattle.std.proofs.lemmas.Grind.{common_steps}
use Rattle.std.proofs.lemmas.List.{take_at, drop_at, take-append-drop, length-append, length-replicate, length-take, length-drop}
use Rattle.muen_num.specs.Naming.{is_name, name_of, name_room}
use Rattle.binary_form.specs.declared.fault.Field.TheVariants as at
use Rattle.binary_form.specs.Form.{coded}
use Rattle.binary_form.specs.Name.{name, name_in, name_bytes}
use Rattle.binary_form.proofs.Leaves.{IsCode, Laws, coded_laws}
use Rattle.binary_form.proofs.Forms.{zeros_are, are_zeros}

abbrev found : List ℕ → Option (List ℕ)
found text = Some text

tested : (b : Bool) (o : Option (List ℕ)) (text : List ℕ) → cond b o None ≡ found text → (b ≡ true) × (o ≡ found text)
tested true o text e = (refl, e)
tested false o text e = absurd cc

named : (b : Bool) (t text : List ℕ) → cond b (found t) None ≡ found text → t ≡ text
named true t text e = cc
named false t text e = absurd cc

-- a name that is read is spelled so
name_back : (bytes text : List ℕ) → length bytes ≡ 64 → name_in bytes ≡ Some text → name_bytes text ≡ bytes
unfolding name_room
name_back [] text size e = absurd cc
name_back (n ∷ body) text size e =
    let g = tested (leb n 63 && list_all (λ b. eqb b 0) (drop n body)) (name_of (take n body)) text e in
    let h = and_parts (leb n 63) (list_all (λ b. eqb b 0) (drop n body)) g.0 in
    let small : n ≤ 63 = leb-true n 63 h.0 in
    let front : length (take n body) ≡ n = omega (arith, length-take n body) in
    let many : length (drop n body) ≡ 63 - length (take n body) = omega (arith, length-drop n body) in
    let zeros : drop n body ≡ replicate (63 - length (take n body)) 0 = zeros_are (drop n body) h.1 ∙ ap (λ k. replicate k 0) many in
    let parts : body ≡ take n body ++ replicate (63 - length (take n body)) 0 = sym (take-append-drop n body) ∙ ap (λ (z : List ℕ). take n body ++ z) zeros in
    let there : name_bytes (take n body) ≡ n ∷ body = ap (λ (k : ℕ). k ∷ (take n body ++ replicate (63 - length (take n body)) 0)) front ∙ ap (λ (t : List ℕ). n ∷ t) (sym parts) in
    subst (λ (t : List ℕ). name_bytes t ≡ n ∷ body) (named (is_name (take n body)) (take n body) text g.1) there

name_size : (text : List ℕ) → name_in (name_bytes text) ≡ Some text → length (name_bytes text) ≡ 64
unfolding name_room
name_size text e =
    let rest = text ++ replicate (63 - length text) 0 in
    let g = tested (leb (length text) 63 && list_all (λ b. eqb b 0) (drop (length text) rest)) (name_of (take (length text) rest)) text e in
    let h = and_parts (leb (length text) 63) (list_all (λ b. eqb b 0) (drop (length text) rest)) g.0 in
    let small : length text ≤ 63 = leb-true (length text) 63 h.0 in
    omega (arith, length-append text (replicate (63 - length text) 0), length-replicate {A = ℕ} (63 - length text) 0)

pub name_code : IsCode 64 name_in name_bytes
name_code = record { back = λ bytes text fits size e. name_back bytes text size e; size = name_size }

pub name_laws : Laws name
unfolding name
name_laws = coded_laws 64 name_in name_bytes at.Name name_code

pub name_short : (text : List ℕ) → is_name text ≡ true → length text ≤ 63
unfolding is_name
name_short text h = grind (arith, common_steps)

passed : (b : Bool) (t text : List ℕ) → cond b (found t) None ≡ found text → (b ≡ true) × (t ≡ text)
passed true t text e = (refl, cc)
passed false t text e = absurd cc

-- a text that has a spelling as a name is one
pub name_kept : (text : List ℕ) → name.fits text → is_name text ≡ true
unfolding name coded
name_kept text h =
    let room = name_room text in
    let read : name_of (take (length text) room) ≡ found text = (tested _ _ text h).1 in
    let p = passed _ _ text read in
    subst (λ t. is_name t ≡ true) p.1 p.0

-- each name has a spelling
pub name_fits : (text : List ℕ) → is_name text ≡ true → name.fits text
unfolding name coded name_room
name_fits text h =
    let short : leb (length text) 63 ≡ true = le-leb (length text) 63 (name_short text h) in
    let behind : List ℕ = replicate (63 - length text) 0 in
    rw (short, take_at text behind (length text) refl, drop_at text behind (length text) refl, are_zeros (63 - length text), h) refl
