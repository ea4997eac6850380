-- What lists made of subjects, of things or of one value have at the start.
use Rattle.std.proofs.Common.{◌≡◌, ℕ, zero, suc, ◌+◌, cond, true, false, List, [], ◌∷◌, ◌++◌, map, replicate, Some, refl, sym, ap, ◌∙◌, inl, inr, arith}
use Rattle.std.specs.Prelude.{option_map, slice_get, is_some, nat_lt}
use Rattle.std.specs.List.{enumerate_from, find, list_any}
use Rattle.std.specs.Str.{bytes_eq}
use Rattle.std.proofs.lemmas.Bool.{cases_Bool, false_from_ne_true, lt-ltb, ltb-true, or_parts}
use Rattle.std.proofs.lemmas.Bool.Decides.{nat_tests}
use Rattle.subject_model.specs.Alone.{thing_in}
use Rattle.subject_model.specs.System.{first_page, named, start_of, subject_named}
use Rattle.policy_lawful.specs.Contents.{Held, initial_bytes}
use Rattle.policy_lawful.specs.Thing.{Thing, state, same_thing, things_of}
use Rattle.policy_lawful.specs.source.Source.{Source}
use Rattle.policy_lawful.specs.source.Subject.{Subject}
use Rattle.policy_lawful.proofs.NoPages.{pages_apart}
use Rattle.policy_lawful.proofs.SameThings.{same_things}
use Rattle.subject_model.specs.StatePage.{page_bytes}
use Rattle.subject_model.specs.States.{started}
use Rattle.muen_num.proofs.Lists.{numbered_at as counted_at}

-- ---- one value, over and over

pub replicated : {X : Type 0} (n i : ℕ) (x y : X) → slice_get (replicate n x) i ≡ Some y → x ≡ y
replicated zero i x y e = absurd (cc (e))
replicated (suc n) zero x y e = cc (e)
replicated (suc n) (suc i) x y e = replicated n i x y e

pub replicated_there : {X : Type 0} (n i : ℕ) (x : X) → is_some (slice_get (replicate n x) i) ≡ nat_lt i n
replicated_there zero i x = sym (false_from_ne_true (nat_lt i 0) (λ t. let l = ltb-true i 0 t in omega (arith, l)))
replicated_there (suc n) zero x = sym (lt-ltb 0 (suc n) (omega arith))
replicated_there (suc n) (suc i) x = replicated_there n i x ∙ grind (arith, nat_tests)

-- ---- numbered elements

-- an element stands with its index
pub numbered_at : {X : Type 0} (xs : List X) (k : ℕ) (x : X) → slice_get xs k ≡ Some x → slice_get (enumerate_from 0 xs) k ≡ Some (k, x)
numbered_at xs k x at = let m : 0 + k ≡ k = omega arith in counted_at 0 xs k x at ∙ ap (λ i. Some (i, x)) m

-- ---- by names

-- what a list made of subjects has under a name
pub named_map : {X : Type 0} (f : Subject → X) (ns : List Subject) (name : List ℕ) → named (map (λ n. (n.name, f n)) ns) name ≡ option_map f (find (λ n. bytes_eq n.name name) ns)
named_map f [] name = refl
named_map f (n ∷ ns) name =
    let ih = named_map f ns name in
    elim (cases_Bool (bytes_eq n.name name)) [ inl t ↦ rw t refl | inr e ↦ rw e ih ]

-- and of their state pages
pub states_map : (f : Subject → List ℕ) (ns : List Subject) (name : List ℕ) → thing_in (map (λ n. (state n.name, f n)) ns) (state name) ≡ option_map f (find (λ n. bytes_eq n.name name) ns)
states_map f [] name = refl
states_map f (n ∷ ns) name =
    let ih = states_map f ns name in
    elim (cases_Bool (bytes_eq n.name name)) [ inl t ↦ rw t refl | inr e ↦ rw e ih ]

-- ---- things

-- a thing that is among the things has what is made of it
pub made_of : (f : Thing → List ℕ) (xs : List Thing) (rest : List (Thing × List ℕ)) (x : Thing) → list_any (λ y. same_thing y x) xs ≡ true → thing_in (map (λ y. (y, f y)) xs ++ rest) x ≡ Some (f x)
made_of f [] rest x h = absurd (cc (h))
made_of f (y ∷ ys) rest x h =
    elim (cases_Bool (same_thing y x)) [
      | inl t ↦ ap (λ b. cond b (Some (f y)) (thing_in (map (λ y. (y, f y)) ys ++ rest) x)) t ∙ ap (λ z. Some (f z)) (same_things y x t)
      | inr n ↦ ap (λ b. cond b (Some (f y)) (thing_in (map (λ y. (y, f y)) ys ++ rest) x)) n ∙ made_of f ys rest x (let g = rw n at h in g)
    ]

-- one that isn't has what the rest says
pub made_behind : (f : Thing → List ℕ) (xs : List Thing) (rest : List (Thing × List ℕ)) (x : Thing) → list_any (λ y. same_thing y x) xs ≡ false → thing_in (map (λ y. (y, f y)) xs ++ rest) x ≡ thing_in rest x
made_behind f [] rest x h = refl
made_behind f (y ∷ ys) rest x h =
    let both = or_parts (same_thing y x) (list_any (λ y. same_thing y x) ys) h in
    ap (λ b. cond b (Some (f y)) (thing_in (map (λ y. (y, f y)) ys ++ rest) x)) both.0 ∙ made_behind f ys rest x both.1

-- ---- state pages

-- the page of a subject's state at the start
pub state_started : (p : Source) (files : Held) (s : Subject) → subject_named p s.name ≡ Some s → thing_in (start_of p files).things (state s.name) ≡ Some (page_bytes (started s.entry))
unfolding start_of first_page
state_started p files s is =
    made_behind (initial_bytes p files) (things_of p) (map (λ n. (state n.name, first_page n)) p.subjects) (state s.name) (pages_apart p s.name)
    ∙ (states_map first_page p.subjects s.name ∙ ap (option_map first_page) is)
