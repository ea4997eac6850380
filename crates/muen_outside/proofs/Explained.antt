-- Some files show all looks, each at a name of its own.
use Rattle.std.proofs.Common.{◌≡◌, ℕ, Bool, false, cond, List, [], ◌∷◌, length, Option, Some, None, Result, Ok, Err, IfSome, refl, sym, ap, subst, ◌∙◌, arith}
use Rattle.std.specs.Prelude.{nat_lt, replicate, if◌then◌else◌}
use Rattle.std.specs.Str.{bytes_eq}
use Rattle.std.proofs.lemmas.Bool.{lt-ltb}
use Rattle.std.proofs.lemmas.Bool.Decides.{nat_tests}
use Rattle.std.proofs.lemmas.List.{length-replicate}
use Rattle.muen_num.proofs.Lookups.{other_way, same_self}
use Rattle.muen_outside.specs.declared.files.FileError.{FileError}
use Rattle.muen_outside.specs.Looks.{ShowsAnswer, HaveNoLookAt, AreSingle, IsPossibleEnd, ShowAll}
use Rattle.muen_outside.specs.States.{Look}
use Rattle.muen_outside.specs.Store.{Store, Reading, whole, absent, long, find_bytes}
use Rattle.muen_outside.proofs.HeldMap.{stored, get-stored}

-- any store shows no looks
pub told_none : (held : Option Store) → IfSome held (λ m. ShowAll m [])
told_none None = tt
told_none (Some m) = tt

-- what stands under a name, so that a read answers this
abbrev content_of : Result Reading FileError → Option (List ℕ)
content_of (Ok (whole bytes)) = Some bytes
content_of (Ok absent) = None
content_of (Ok (long n)) = Some (replicate n 0)
content_of (Err end) = None

reads : (most : ℕ) (got : Result Reading FileError) → IsPossibleEnd most got → ShowsAnswer (content_of got) most got
reads most (Ok (whole bytes)) h =
    let fits : nat_lt most (length bytes) ≡ false = grind (arith, nat_tests) in
    ap (λ (b : Bool). if b then long (length bytes) else whole bytes) fits
reads most (Ok absent) h = refl
reads most (Ok (long n)) h =
    let n_is : length (replicate {A = ℕ} n 0) ≡ n = length-replicate n 0 in
    ap (λ k. if nat_lt most k then long k else whole (replicate n 0)) n_is
    ∙ ap (λ b. if b then long n else whole (replicate n 0)) (lt-ltb most n h)
reads most (Err end) h = tt

abbrev Entries : Type 0
Entries = List (List ℕ × List ℕ)

abbrev entry_of : List ℕ → Option (List ℕ) → Entries → Entries
entry_of name None rest = rest
entry_of name (Some bytes) rest = (name, bytes) ∷ rest

abbrev entries_of : List Look → Entries
entries_of [] = []
entries_of (l ∷ ls) = entry_of l.name (content_of l.got) (entries_of ls)

-- each look has its content there
abbrev Hold : Entries → List Look → Type 0
Hold es [] = Unit {0}
Hold es (l ∷ ls) = (find_bytes l.name es ≡ content_of l.got) × Hold es ls

passed : (name other : List ℕ) (content : Option (List ℕ)) (rest : Entries) → bytes_eq name other ≡ false → find_bytes name (entry_of other content rest) ≡ find_bytes name rest
passed name other None rest ne = refl
passed name other (Some bytes) rest ne = ap (λ b. cond b (Some bytes) (find_bytes name rest)) ne

none_of : (ls : List Look) (name : List ℕ) → HaveNoLookAt ls name → find_bytes name (entries_of ls) ≡ None
none_of [] name h = refl
none_of (l ∷ ls) name h = passed name l.name (content_of l.got) (entries_of ls) h.0 ∙ none_of ls name h.1

own : (name : List ℕ) (content : Option (List ℕ)) (rest : Entries) → find_bytes name rest ≡ None → find_bytes name (entry_of name content rest) ≡ content
own name None rest none = none
own name (Some bytes) rest none = ap (λ b. cond b (Some bytes) (find_bytes name rest)) (same_self name)

held_still : (name : List ℕ) (content : Option (List ℕ)) (es : Entries) (ls : List Look) → HaveNoLookAt ls name → Hold es ls → Hold (entry_of name content es) ls
held_still name content es [] others h = tt
held_still name content es (l ∷ ls) others h =
    (passed l.name name content es (other_way name l.name others.0) ∙ h.0, held_still name content es ls others.1 h.1)

hold_all : (ls : List Look) → AreSingle ls → Hold (entries_of ls) ls
hold_all [] single = tt
hold_all (l ∷ ls) single = (
  own l.name (content_of l.got) (entries_of ls) (none_of ls l.name single.1),
  held_still l.name (content_of l.got) (entries_of ls) ls single.1 (hold_all ls single.2),
)

shown : (es : Entries) (ls : List Look) → AreSingle ls → Hold es ls → ShowAll (stored es) ls
shown es [] single h = tt
shown es (l ∷ ls) single h =
    (subst (λ o. ShowsAnswer o l.most l.got) (sym (get-stored es l.name ∙ h.0)) (reads l.most l.got single.0), shown es ls single.2 h.1)

pub explained : (ls : List Look) → AreSingle ls → (m : Store) × ShowAll m ls
explained ls single = (stored (entries_of ls), shown (entries_of ls) ls single (hold_all ls single))

-- where it is told what is held, what is true of every store that agrees with the looks is true of that
pub over_held : (held : Option Store) (ls : List Look) (P : Store → Type 0) → IfSome held (λ m. ShowAll m ls) → ((m : Store) → ShowAll m ls → P m) → (m : Store) → held ≡ Some m → P m
over_held None ls P told all m is = absurd (cc)
over_held (Some k) ls P told all m is =
    let same : k ≡ m = cc in
    all m (subst (λ x. ShowAll x ls) same told)

-- of some store that holds what is told it is true
pub over_some : (held : Option Store) (ls : List Look) (P : Store → Type 0) → AreSingle ls → IfSome held (λ m. ShowAll m ls) → ((m : Store) → ShowAll m ls → P m) → (m : Store) × IfSome held (λ k. m ≡ k) × P m
over_some None ls P single told all = let e = explained ls single in (e.0, tt, all e.0 e.1)
over_some (Some k) ls P single told all = (k, refl, all k told)
