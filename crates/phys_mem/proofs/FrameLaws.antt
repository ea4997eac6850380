-- What a tape of frames has at a number, by the number's first index.
use Rattle.std.proofs.Common.{◌≡◌, ◌≢◌, ℕ, zero, suc, ◌+◌, ◌/◌, ◌≤◌, true, false, eqb, List, [], ◌∷◌, ◌++◌, length, take, drop, get_or, set, Option, Some, None, OnSome, MatchOption, refl, sym, ap, ◌∙◌, append_assoc, arith}
use Rattle.std.proofs.lemmas.Bool.Decides.{nat_tests}
use Rattle.machine_layout.specs.Memory.{Page, page_of, change}
use Rattle.phys_mem.specs.Found.{IsInFrame, IsNowhere}
use Rattle.phys_mem.specs.Frames.{pages_by, pages_in, NoneBelow, IsFirst}
use Rattle.std.proofs.lemmas.List.{length-drop, get_or_read}
use Rattle.std.proofs.lemmas.Slice.{between_to_end}
use Rattle.std.specs.List.{between}

eqb_is : (a b : ℕ) → a ≡ b → eqb a b ≡ true
eqb_is a b e = grind (arith, nat_tests)

eqb_not : (a b : ℕ) → a ≢ b → eqb a b ≡ false
eqb_not a b e = grind (arith, nat_tests)

later_first : (n k i : ℕ) (ns : List ℕ) → IsFirst (n ∷ ns) k (suc i) → IsFirst ns k i
later_first n k i ns h =
    record {
      within = omega (arith, h.within);
      here = h.here;
      before = λ j l. h.before (suc j) (omega arith);
    }

pub page_at_first : (ns : List ℕ) (fs : List (List ℕ)) (k i : ℕ) → length ns ≡ length fs → IsFirst ns k i → page_of (pages_by ns fs) k ≡ Some (get_or fs i [])
page_at_first [] fs k i e h = absurd (omega (arith, h.within))
page_at_first (n ∷ ns) [] k i e h = absurd (omega arith)
page_at_first (n ∷ ns) (f ∷ fs) k zero e h = rw (eqb_is n k h.here) refl
page_at_first (n ∷ ns) (f ∷ fs) k (suc i) e h =
    rw (eqb_not n k (h.before 0 (omega arith))) (page_at_first ns fs k i (omega arith) (later_first n k i ns h))

pub change_at_first : (ns : List ℕ) (fs : List (List ℕ)) (k i : ℕ) → length ns ≡ length fs → IsFirst ns k i → (g : List ℕ → List ℕ) → change (pages_by ns fs) k g ≡ pages_by ns (set fs i (g (get_or fs i [])))
change_at_first [] fs k i e h g = absurd (omega (arith, h.within))
change_at_first (n ∷ ns) [] k i e h g = absurd (omega arith)
change_at_first (n ∷ ns) (f ∷ fs) k zero e h g = rw (eqb_is n k h.here) refl
change_at_first (n ∷ ns) (f ∷ fs) k (suc i) e h g =
    rw (eqb_not n k (h.before 0 (omega arith))) (ap (λ ps. record { number = n; bytes = f } ∷ ps) (change_at_first ns fs k i (omega arith) (later_first n k i ns h) g))

pub no_page : (ns : List ℕ) (fs : List (List ℕ)) (k : ℕ) → NoneBelow ns k (length ns) → page_of (pages_by ns fs) k ≡ None
no_page [] fs k h = refl
no_page (n ∷ ns) [] k h = refl
no_page (n ∷ ns) (f ∷ fs) k h =
    rw (eqb_not n k (h 0 (omega arith))) (no_page ns fs k (λ j l. h (suc j) (omega arith)))

pub change_nowhere : (ns : List ℕ) (fs : List (List ℕ)) (k : ℕ) → NoneBelow ns k (length ns) → (g : List ℕ → List ℕ) → change (pages_by ns fs) k g ≡ pages_by ns fs
change_nowhere [] fs k h g = refl
change_nowhere (n ∷ ns) [] k h g = refl
change_nowhere (n ∷ ns) (f ∷ fs) k h g =
    rw (eqb_not n k (h 0 (omega arith))) (ap (λ ps. record { number = n; bytes = f } ∷ ps) (change_nowhere ns fs k (λ j l. h (suc j) (omega arith)) g))

-- one more frame
pub pages_push : (ns : List ℕ) (fs : List (List ℕ)) (n : ℕ) (f : List ℕ) → length ns ≡ length fs → pages_by (ns ++ n ∷ []) (fs ++ f ∷ []) ≡ pages_by ns fs ++ record { number = n; bytes = f } ∷ []
pages_push [] [] n f e = refl
pages_push [] (g ∷ fs) n f e = absurd (omega arith)
pages_push (m ∷ ns) [] n f e = absurd (omega arith)
pages_push (m ∷ ns) (g ∷ fs) n f e = ap (λ ps. record { number = m; bytes = g } ∷ ps) (pages_push ns fs n f (omega arith))

-- the first page of a run, and the others
pub pages_next : (bytes : List ℕ) (k n : ℕ) → n ≡ length bytes / 4096 → 4096 ≤ length bytes → pages_in n k bytes ≡ record { number = k; bytes = take 4096 bytes } ∷ pages_in (length (drop 4096 bytes) / 4096) (k + 1) (drop 4096 bytes)
pages_next bytes k zero e h = absurd (omega arith)
pages_next bytes k (suc n) e h =
    let less : n ≡ length (drop 4096 bytes) / 4096 = simp length-drop (omega arith) in
    ap (λ j. record { number = k; bytes = take 4096 bytes } ∷ pages_in j (k + 1) (drop 4096 bytes)) less

-- a turn of the loop that adds pages
pub pages_step : (ns ns' : List ℕ) (fs fs' : List (List ℕ)) (rest page : List ℕ) (k : ℕ) (all : List Page) → ns' ≡ ns ++ k ∷ [] → fs' ≡ fs ++ page ∷ [] → length ns ≡ length fs → page ≡ take 4096 rest → 4096 ≤ length rest → pages_by ns fs ++ pages_in (length rest / 4096) k rest ≡ all → pages_by ns' fs' ++ pages_in (length (between 4096 (length rest) rest) / 4096) (k + 1) (between 4096 (length rest) rest) ≡ all
pages_step ns ns' fs fs' rest page k all a b same p long e =
    let tail : between 4096 (length rest) rest ≡ drop 4096 rest = between_to_end rest 4096 (length rest) (omega arith) in
    let next = pages_next rest k _ refl long in
    rw (a, b, tail, pages_push ns fs k page same, p) (append_assoc (pages_by ns fs) _ _ ∙ (ap (λ ps. pages_by ns fs ++ ps) (sym next) ∙ e))

-- from the first index of a number to where its page is kept
pub kept_at : (ns : List ℕ) (fs : List (List ℕ)) (k : ℕ) (r : Option ℕ) → length ns ≡ length fs → MatchOption r (NoneBelow ns k (length ns)) (IsFirst ns k) → MatchOption r (IsNowhere ns fs k) (IsInFrame ns fs k)
kept_at ns fs k None same h = record { page = no_page ns fs k h; changed = change_nowhere ns fs k h }
kept_at ns fs k (Some i) same h =
    record {
      within = omega (arith, same, h.within);
      page = page_at_first ns fs k i same h;
      changed = change_at_first ns fs k i same h;
    }

-- the frame where a page is kept has other bytes
pub changed_at : (ns : List ℕ) (fs : List (List ℕ)) (k i : ℕ) (page new : List ℕ) (f : List ℕ → List ℕ) → IsInFrame ns fs k i → page ≡ get_or fs i page → new ≡ f page → pages_by ns (set fs i new) ≡ change (pages_by ns fs) k f
changed_at ns fs k i page new f at read is =
    let here : page ≡ get_or fs i [] = get_or_read fs i page at.within read [] in
    ap (λ p. pages_by ns (set fs i p)) (is ∙ ap f here) ∙ sym (at.changed f)

pub on_some : {A : Type 0} {P : Type 0} (o : Option A) → P → OnSome o P
on_some None p = tt
on_some (Some x) p = p

-- pages added to none
pub added_to_none : (ns : List ℕ) (fs : List (List ℕ)) (ps all : List Page) → length ns ≡ 0 → ps ≡ pages_by ns fs ++ all → ps ≡ all
added_to_none [] fs ps all none is = is
added_to_none (n ∷ ns) fs ps all none is = absurd (omega arith)
