-- Of policies that are written out: what holds of each subject, what one is given for itself, and what a thing holds at the start.
use Rattle.std.proofs.Common.{◌≡◌, true, List, [], ◌∷◌, map, refl, ap, subst, ◌∙◌, inl, inr}
use Rattle.std.specs.Prelude.{Bool, Some}
use Rattle.std.specs.List.{AllByRecursion, find, list_any}
use Rattle.std.specs.Option.{option_map_or}
use Rattle.std.proofs.lemmas.Bool.{cases_Bool}
use Rattle.policy_lawful.specs.Contents.{Held, content_bytes, initial_bytes}
use Rattle.policy_lawful.specs.Thing.{Item, Thing, item_of, items_of, same_thing, state, things_of}
use Rattle.policy_lawful.specs.Windows.{windows_of}
use Rattle.policy_lawful.specs.source.Source.{Source}
use Rattle.policy_lawful.specs.source.Subject.{Subject}
use Rattle.subject_model.proofs.StartLists.{made_of}
use Rattle.subject_model.specs.Alone.{own_of, thing_in}
use Rattle.subject_model.specs.Resources.{ports_of}
use Rattle.subject_model.specs.System.{first_page, start_of}

-- what holds of each holds of the one that is found
pub of_found : {X : Type 0} (P : X → Type 0) (test : X → Bool) (xs : List X) → AllByRecursion P xs → (x : X) → find test xs ≡ Some x → P x
of_found P test [] all x h = absurd (cc (h))
of_found P test (y ∷ ys) all x h =
    elim (cases_Bool (test y)) [
      | inl t ↦ let g = rw t at h in let is : y ≡ x = cc (g) in subst P is all.0
      | inr n ↦ of_found P test ys all.1 x (let g = rw n at h in g)
    ]

pub own_by : (p q : Source) (s : Subject) → windows_of p s ≡ windows_of q s → ports_of p s ≡ ports_of q s → own_of p s ≡ own_of q s
unfolding own_of
own_by p q s windows ports = cc (windows, ports)

-- ---- of what is declared of a thing

bytes_of_item : (p : Source) (f : Held) (x : Thing) (i : Item) → item_of p x ≡ Some i → initial_bytes p f x ≡ content_bytes f i.size i.content
unfolding initial_bytes
bytes_of_item p f x i is = ap (λ o. option_map_or (λ i. content_bytes f i.size i.content) o []) is

listed : (x : Thing) (items : List Item) (i : Item) → find (λ i. same_thing i.thing x) items ≡ Some i → list_any (λ y. same_thing y x) (map (λ i. i.thing) items) ≡ true
listed x [] i is = absurd (cc (is))
listed x (j ∷ items) i is =
    elim (cases_Bool (same_thing j.thing x)) [ inl t ↦ rw t refl | inr n ↦ rw n (listed x items i (let g = rw n at is in g)) ]

is_listed : (p : Source) (x : Thing) (i : Item) → item_of p x ≡ Some i → list_any (λ y. same_thing y x) (things_of p) ≡ true
unfolding item_of things_of
is_listed p x i is = listed x (items_of p) i is

pub at_start : (p : Source) (f : Held) (x : Thing) (i : Item) → item_of p x ≡ Some i → thing_in (start_of p f).things x ≡ Some (content_bytes f i.size i.content)
unfolding start_of
at_start p f x i is =
    made_of (initial_bytes p f) (things_of p) (map (λ s. (state s.name, first_page s)) p.subjects) x (is_listed p x i is) ∙ ap Some (bytes_of_item p f x i is)
