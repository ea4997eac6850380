-- What is found in a list, and where it stands.
use Rattle.std.proofs.Common.{◌≡◌, inl, inr, ℕ, suc, ◌+◌, ◌≤◌, All, Bool, true, false, cond, not, List, [], ◌∷◌, length, Option, Some, None, refl, sym, ap, ◌∙◌, arith}
use Rattle.std.specs.Prelude.{position, slice_get}
use Rattle.std.specs.List.{AllPairs, cons_option, filter_map, find, position_or_len}
use Rattle.std.proofs.lemmas.Bool.{lt-ltb}
use Rattle.std.proofs.lemmas.List.Elements.{All-cons, All-head, All-nil, All-tail}
use Rattle.std.proofs.lemmas.List.Kept.{AllPairs-cons}
use Rattle.std.proofs.lemmas.Option.{slice_get_within}
use Rattle.muen_num.proofs.Members.{In}
use Rattle.span_emit.proofs.PairLaws.{pairs_head, pairs_tail}

-- ---- by the first index

pub found_at : {X : Type 0} (p : X → Bool) (xs : List X) (x : X) → find p xs ≡ Some x → slice_get xs (position_or_len p xs) ≡ Some x
found_at p [] x h = absurd (cc)
found_at {X} p (y ∷ ys) x h =
    elim (p y) as (λ b. cond b (Some y) (find p ys) ≡ Some x → slice_get (y ∷ ys) (cond (not b) (1 + position_or_len p ys) 0) ≡ Some x) [
      | true ↦ λ e. e
      | false ↦ λ e. let next : 1 + position_or_len p ys ≡ suc (position_or_len p ys) = omega arith in ap (slice_get (y ∷ ys)) next ∙ found_at p ys x e
    ] h

pub position_found : {X : Type 0} (p : X → Bool) (xs : List X) (x : X) → find p xs ≡ Some x → position p xs ≡ Some (position_or_len p xs)
position_found p xs x h =
    let within = slice_get_within xs (position_or_len p xs) x (found_at p xs x h) in
    ap (λ b. cond b (Some (position_or_len p xs)) None) (lt-ltb (position_or_len p xs) (length xs) within)

none_some : (n : ℕ) → Some n ≡ None → ⊥
none_some n e = cc

-- where there is no index nothing is found
pub none_by_position : {X : Type 0} (p : X → Bool) (xs : List X) → position p xs ≡ None → find p xs ≡ None
none_by_position p xs e =
    elim (find p xs) as (λ o. find p xs ≡ o → o ≡ None) [ None ↦ λ is. refl | Some x ↦ λ is. absurd (let some = position_found p xs x is in (none_some _ (sym some ∙ e))) ] refl

-- ---- those that something is made of

pub made_from : {X Y : Type 0} (f : X → Option Y) (xs : List X) (y : Y) → In y (filter_map f xs) → (x : X) × In x xs × (f x ≡ Some y)
made_from f [] y i = absurd i
made_from {X} {Y} f (x ∷ xs) y i =
    elim (f x) as (λ o. f x ≡ o → In y (cons_option o (filter_map f xs)) → (z : X) × In z (x ∷ xs) × (f z ≡ Some y)) [
      | None ↦ λ e j. let later = made_from f xs y j in (later.0, inr later.1, later.2)
      | Some w ↦ λ e j. elim j as (λ _. (z : X) × In z (x ∷ xs) × (f z ≡ Some y)) [
        | inl same ↦ (x, inl refl, e ∙ ap Some same)
        | inr k ↦ let later = made_from f xs y k in (later.0, inr later.1, later.2)
      ]
    ] refl i

pub all_made : {X Y : Type 0} (P : X → Type 0) (Q : Y → Type 0) (f : X → Option Y) → ((x : X) (y : Y) → P x → f x ≡ Some y → Q y) → (xs : List X) → All P xs → All Q (filter_map f xs)
all_made P Q f so [] h = All-nil Q
all_made {X} {Y} P Q f so (x ∷ xs) h =
    let rest = all_made P Q f so xs (All-tail P x xs h) in
    elim (f x) as (λ o. f x ≡ o → All Q (cons_option o (filter_map f xs))) [
      | None ↦ λ e. rest
      | Some y ↦ λ e. All-cons Q y (filter_map f xs) (so x y (All-head P x xs h) e) rest
    ] refl

-- of each with its like
pub pairs_made : {X Y : Type 0} (R : X → X → Type 0) (Q : Y → Y → Type 0) (f : X → Option Y) → ((a b : X) (u v : Y) → R a b → f a ≡ Some u → f b ≡ Some v → Q u v) → (xs : List X) → AllPairs R xs → AllPairs Q (filter_map f xs)
pairs_made R Q f so [] h = λ i j d l m. absurd (omega arith)
pairs_made {X} {Y} R Q f so (x ∷ xs) h =
    let rest = pairs_made R Q f so xs (pairs_tail R x xs h) in
    elim (f x) as (λ o. f x ≡ o → AllPairs Q (cons_option o (filter_map f xs))) [
      | None ↦ λ e. rest
      | Some y ↦ λ e. AllPairs-cons Q y (filter_map f xs) (all_made (R x) (Q y) f (λ b v r is. so x b y v r e is) xs (pairs_head R x xs h)) rest
    ] refl

pub fewer_made : {X Y : Type 0} (f : X → Option Y) (xs : List X) → length (filter_map f xs) ≤ length xs
fewer_made f [] = omega arith
fewer_made f (x ∷ xs) =
    let rest = fewer_made f xs in
    elim (f x) as (λ o. length (cons_option o (filter_map f xs)) ≤ length (x ∷ xs)) [ None ↦ omega arith | Some y ↦ omega arith ]
