-- The document in the place of its name.
use Rattle.std.proofs.Common.{◌≡◌, ℕ, ◌≤◌, ◌<◌, Bool, true, false, cond, List, [], ◌∷◌, length, Option, Some, None, refl, sym, ap, ◌∙◌, arith}
use Rattle.std.specs.Prelude.{nat_lt, if◌then◌else◌}
use Rattle.std.specs.Str.{bytes_eq}
use Rattle.std.specs.FinMap.{get, insert, same_map, slice_cmp-IsAntisymmetric, nat_cmp-IsAntisymmetric}
use Rattle.std.specs.Cmp.Lexicographic.{nat_list_cmp_total}
use Rattle.std.proofs.lemmas.Bool.{lt-ltb}
use Rattle.std.proofs.lemmas.Bool.Decides.{nat_tests}
use Rattle.std.proofs.lemmas.Slice.Eq.{bytes_eq-Decides}
use Rattle.muen_outside.specs.Looks.{Shows}
use Rattle.muen_outside.specs.Store.{Store, whole, long, find_bytes, reading_of}
use Rattle.muen_outside.proofs.HeldMap.{get-insert_bytes}
use Rattle.muen_num.specs.declared.limits.TheConstants.{POLICY_MOST}
use Rattle.muen_build.specs.Accepting.{Files, insert_all}
use Rattle.muen_build.specs.Looks.{document_look}

-- ---- what stands under a name

module _ (m : Store) (name document file : List ℕ) where
  -- under the document's
  pub own_bytes : bytes_eq file name ≡ true → get (insert m name document) file ≡ Some document
  own_bytes same = get-insert_bytes m name document file ∙ ap (λ t. cond t (Some document) (get m file)) same

  -- under another
  pub other_bytes : bytes_eq file name ≡ false → get (insert m name document) file ≡ get m file
  other_bytes other = get-insert_bytes m name document file ∙ ap (λ t. cond t (Some document) (get m file)) other

-- ---- under names that are given

pub given_there : (m : Store) (given : Files) (file bytes : List ℕ) → find_bytes file given ≡ Some bytes → get (insert_all m given) file ≡ Some bytes
given_there m [] file bytes h = absurd (cc)
given_there m (e ∷ es) file bytes h =
    (elim (bytes_eq file e.0) as (λ b. bytes_eq file e.0 ≡ b → (if b then Some e.1 else find_bytes file es) ≡ Some bytes → get (insert (insert_all m es) e.0 e.1) file ≡ Some bytes) [
      | true ↦ λ same is. own_bytes (insert_all m es) e.0 e.1 file same ∙ is
      | false ↦ λ other is. other_bytes (insert_all m es) e.0 e.1 file other ∙ given_there m es file bytes is
    ]) refl h

pub not_given : (m : Store) (given : Files) (file : List ℕ) → find_bytes file given ≡ None → get (insert_all m given) file ≡ get m file
not_given m [] file h = refl
not_given m (e ∷ es) file h =
    (elim (bytes_eq file e.0) as (λ b. bytes_eq file e.0 ≡ b → (if b then Some e.1 else find_bytes file es) ≡ None → get (insert (insert_all m es) e.0 e.1) file ≡ get m file) [
      | true ↦ λ same is. absurd (cc)
      | false ↦ λ other is. other_bytes (insert_all m es) e.0 e.1 file other ∙ not_given m es file is
    ]) refl h

-- ---- files that hold the document

held_still : (m : Store) (name document q : List ℕ) (t : Bool) → bytes_eq q name ≡ t → get m name ≡ Some document → cond t (Some document) (get m q) ≡ get m q
held_still m name document q true same there = sym (ap (get m) ((bytes_eq-Decides q name).0 same) ∙ there)
held_still m name document q false other there = refl

-- they are the same with the document put there
pub shown_document : (m : Store) (name document : List ℕ) → get m name ≡ Some document → insert m name document ≡ m
shown_document m name document there =
    same_map nat_list_cmp_total (slice_cmp-IsAntisymmetric nat_cmp-IsAntisymmetric) _ _
    (λ q. get-insert_bytes m name document q ∙ held_still m name document q (bytes_eq q name) refl there)

-- what a look finds whole stands there
pub whole_found : (most : ℕ) (bytes : List ℕ) (found : Option (List ℕ)) → reading_of found most ≡ whole bytes → found ≡ Some bytes
whole_found most bytes None h = absurd (cc)
whole_found most bytes (Some there) h =
    (elim (nat_lt most (length there)) as (λ b. (if b then long (length there) else whole there) ≡ whole bytes → Some there ≡ Some bytes) [
      | true ↦ λ is. absurd (cc)
      | false ↦ λ is. cc
    ]) h

-- files in which a look finds the document are the same with it put there
pub with_document : (m : Store) (name document : List ℕ) → Shows m (document_look name document) → insert m name document ≡ m
with_document m name document shows = shown_document m name document (whole_found POLICY_MOST document (get m name) shows)

-- ---- what a limit admits

pub admitted : (most : ℕ) (bytes : List ℕ) → length bytes ≤ most → reading_of (Some bytes) most ≡ whole bytes
admitted most bytes few =
    let fits : nat_lt most (length bytes) ≡ false = grind (arith, nat_tests) in
    ap (λ (b : Bool). if b then long (length bytes) else whole bytes) fits

pub too_many : (most : ℕ) (bytes : List ℕ) → most < length bytes → reading_of (Some bytes) most ≡ long (length bytes)
too_many most bytes many = ap (λ (b : Bool). if b then long (length bytes) else whole bytes) (lt-ltb most (length bytes) many)
