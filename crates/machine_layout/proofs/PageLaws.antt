-- What a change of a page leaves as it was.
use Rattle.std.proofs.Common.{◌≡◌, ◌⊎◌, inl, inr, ℕ, ◌+◌, ◌*◌, ◌/◌, ◌%◌, ◌≤◌, cond, eqb, List, [], ◌∷◌, take, drop, Some, None, refl, sym, ap, ◌∙◌, arith}
use Rattle.std.specs.Prelude.{option_map, is_some}
use Rattle.std.proofs.lemmas.Bool.{cases_eq, eq-eqb, ne_eqb}
use Rattle.muen_num.proofs.Options.{is_some-option_map}
use Rattle.machine_layout.specs.Memory.{Page, page_of, is_there, change, le_number, load_of}
use Rattle.machine_layout.specs.Laws.{OtherPagesStay, ThePageChanges, PagesStayThere, NoPageIsMade, OtherPagesLoadTheSame, ChangesDifferInTheirPage}

-- another page stays
pub page_of-change_other : (m : List Page) (k : ℕ) (f : List ℕ → List ℕ) (q : ℕ) → (q ≡ k → ⊥) → page_of (change m k f) q ≡ page_of m q
page_of-change_other [] k f q ne = refl
page_of-change_other (p ∷ m) k f q ne =
    let ih = page_of-change_other m k f q ne in
    elim (cases_eq p.number k) [ inl e ↦ rw (eq-eqb p.number k e, ne_eqb p.number q (λ h. ne (sym h ∙ e))) refl | inr n ↦ rw (ne_eqb p.number k n) (ap (cond (eqb p.number q) (Some p.bytes)) ih) ]

-- the page that is changed
pub page_of-change_same : (m : List Page) (k : ℕ) (f : List ℕ → List ℕ) → page_of (change m k f) k ≡ option_map f (page_of m k)
page_of-change_same [] k f = refl
page_of-change_same (p ∷ m) k f =
    let ih = page_of-change_same m k f in
    elim (cases_eq p.number k) [ inl e ↦ rw (eq-eqb p.number k e) (rw (eq-eqb p.number k e) refl) | inr n ↦ rw (ne_eqb p.number k n) (rw (ne_eqb p.number k n) ih) ]

-- the same pages are there
pub is_there-change : (m : List Page) (k : ℕ) (f : List ℕ → List ℕ) (q : ℕ) → is_there (change m k f) q ≡ is_there m q
is_there-change m k f q =
    elim (cases_eq q k) [ inl e ↦ rw e (ap is_some (page_of-change_same m k f) ∙ is_some-option_map f (page_of m k)) | inr n ↦ ap is_some (page_of-change_other m k f q n) ]

-- a page that isn't there isn't made
pub change_none : (m : List Page) (k : ℕ) (f : List ℕ → List ℕ) → page_of m k ≡ None → change m k f ≡ m
change_none [] k f e = refl
change_none (p ∷ m) k f e =
    elim (cases_eq p.number k) [
      | inl h ↦ let t = eq-eqb p.number k h in let s : Some p.bytes ≡ None = rw t at e in absurd (cc)
      | inr n ↦ let t = ne_eqb p.number k n in rw t (ap (λ ps. p ∷ ps) (change_none m k f (rw t at e)))
    ]

-- what is loaded from another page stays
pub load-change_other : (m : List Page) (k : ℕ) (f : List ℕ → List ℕ) (q n : ℕ) → (q / 4096 ≡ k → ⊥) → load_of (change m k f) q n ≡ load_of m q n
load-change_other m k f q n ne =
    ap (λ o. option_map le_number (option_map (λ bytes. take n (drop (q % 4096) bytes)) o)) (page_of-change_other m k f (q / 4096) ne)

in_another_page : (q k : ℕ) → (q + 8 ≤ 4096 * k) ⊎ (4096 * k + 4096 ≤ q) → q / 4096 ≡ k → ⊥
in_another_page q k (inl h) e = omega arith
in_another_page q k (inr h) e = omega arith

-- ---- the statements

pub other_pages_stay : OtherPagesStay
other_pages_stay = page_of-change_other

pub the_page_changes : ThePageChanges
the_page_changes = page_of-change_same

pub pages_stay_there : PagesStayThere
pages_stay_there = is_there-change

pub no_page_is_made : NoPageIsMade
no_page_is_made = change_none

pub other_pages_load_the_same : OtherPagesLoadTheSame
other_pages_load_the_same = load-change_other

pub changes_differ_in_their_page : ChangesDifferInTheirPage
changes_differ_in_their_page m k f =
    record {
      entries = λ q h. load-change_other m k f q 8 (in_another_page q k h);
      there = is_there-change m k f;
    }
