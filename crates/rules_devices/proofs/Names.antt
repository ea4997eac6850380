-- Names that are listed in domains, and one domain more.
use Rattle.std.proofs.Common.{◌≡◌, ℕ, ◌+◌, ◌<◌, Bool, true, false, cond, List, [], ◌∷◌, ◌++◌, length, map, get_or, take, Option, Some, None, refl, sym, ap, ◌∙◌}
use Rattle.std.specs.Prelude.{if◌then◌else◌, not, ◌||◌}
use Rattle.std.specs.List.{flat_map, list_any}
use Rattle.std.specs.Option.{option_or}
use Rattle.std.specs.Str.{bytes_eq}
use Rattle.std.proofs.lemmas.List.{append-nil, map_push, take_more}
use Rattle.std.proofs.lemmas.List.Concat.{flat_map-cons}
use Rattle.std.proofs.lemmas.Grind.{flat_map-append}
use Rattle.muen_num.specs.Search.{first_after, unless}
use Rattle.muen_num.proofs.Lists.{list_any-map}
use Rattle.policy_lawful.specs.source.Domain.{Domain}
use Rattle.rules_devices.specs.Domains.{first_repeat}
use Rattle.rules_devices.specs.declared.listed.Listed.{Listed}
use Rattle.policy_lawful.proofs.NameSets.{declared_is}

-- ---- names that stood before

unless_or : {O : Type 0} (t : Bool) (o : O) (rest : Option O) → option_or (unless (not t) o) rest ≡ cond t (Some o) rest
unless_or true o rest = refl
unless_or false o rest = refl

-- the first of these that is listed under a name that stood before
abbrev pub repeat_after : List (List ℕ) → List Listed → Option Listed
repeat_after before [] = None
repeat_after before (x ∷ xs) = if list_any (bytes_eq x.name) before then Some x else repeat_after (before ++ x.name ∷ []) xs

listed_before : (before : List Listed) (name : List ℕ) → list_any (bytes_eq name) (map (λ b. b.name) before) ≡ list_any (λ b. bytes_eq b.name name) before
listed_before before name = declared_is (map (λ b. b.name) before) name ∙ list_any-map (λ n. bytes_eq n name) (λ b. b.name) before

listed_after : (before xs : List Listed) → repeat_after (map (λ b. b.name) before) xs ≡ first_after (λ before x. unless (not (list_any (λ b. bytes_eq b.name x.name) before)) x) before xs
listed_after before [] = refl
listed_after before (x ∷ xs) =
    ap (λ t. cond t (Some x) (repeat_after (map (λ b. b.name) before ++ x.name ∷ []) xs)) (listed_before before x.name)
    ∙ ap (λ names. cond (list_any (λ b. bytes_eq b.name x.name) before) (Some x) (repeat_after names xs)) (sym (map_push (λ b. b.name) before x))
    ∙ ap (cond (list_any (λ b. bytes_eq b.name x.name) before) (Some x)) (listed_after (before ++ x ∷ []) xs)
    ∙ sym (unless_or (list_any (λ b. bytes_eq b.name x.name) before) x (first_after (λ before x. unless (not (list_any (λ b. bytes_eq b.name x.name) before)) x) (before ++ x ∷ []) xs))

pub repeat_from_start : (xs : List Listed) → repeat_after [] xs ≡ first_repeat xs
repeat_from_start xs = listed_after [] xs

-- ---- one more domain

pub listed_more : (f : Domain → List Listed) (ds : List Domain) (i : ℕ) (d : Domain) → i < length ds → d ≡ get_or ds i d → flat_map f (take i ds) ++ f d ≡ flat_map f (take (i + 1) ds)
listed_more f ds i d within is =
    sym (
    ap (flat_map f) (take_more ds i d within)
    ∙ flat_map-append f (take i ds) (get_or ds i d ∷ [])
    ∙ ap (λ xs. flat_map f (take i ds) ++ xs) (flat_map-cons f (get_or ds i d) [] ∙ append-nil (f (get_or ds i d)))
    ∙ ap (λ x. flat_map f (take i ds) ++ f x) (sym is)
    )
