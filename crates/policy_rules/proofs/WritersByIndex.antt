-- Rule 8 of a resolved policy is that of its source policy.
use Rattle.std.proofs.Common.{◌≡◌, ℕ, ◌+◌, ◌<◌, Bool, true, false, cond, List, [], ◌∷◌, ◌++◌, length, map, Option, Some, None, refl, sym, ap, ◌∙◌, arith, get_or, replicate, take}
use Rattle.std.proofs.lemmas.List.{append-nil, append_assoc, get_or-replicate, length-replicate, take_more}
use Rattle.std.proofs.lemmas.List.Elements.{filter_map-append}
use Rattle.std.proofs.lemmas.List.Concat.{flat_map-append}
use Rattle.std.specs.Prelude.{◌==◌, ◌&&◌, ◌||◌, not, option_map, slice_get}
use Rattle.std.specs.Option.{option_or}
use Rattle.std.specs.List.{cons_option, enumerate_from, filter_map, find, list_all, list_any}
use Rattle.std.specs.Str.{bytes_eq}
use Rattle.std.proofs.lemmas.Bool.{and_parts}
use Rattle.std.proofs.lemmas.List.Folds.{find-append, list_any-append}
use Rattle.std.proofs.lemmas.Option.{slice_get_within}
use Rattle.muen_num.proofs.Lists.{any_same, find-map, list_any-map, option_map-option_map}
use Rattle.muen_num.proofs.SameAnswers.{first_numbered_same}
use Rattle.muen_num.specs.Search.{first_after, first_in, unless}
use Rattle.muen_num.specs.declared.access.AccessKind.TheVariants.{Write}
use Rattle.muen_num.proofs.Options.{map_either}
use Rattle.policy_lawful.specs.Offences.{two}
use Rattle.policy_lawful.specs.Resolution.{IsResolved, Resolution, source_of, subject_named, subject_in_range}
use Rattle.policy_lawful.specs.Rules.{is_declared, is_sharer, maps, offence_8, other_than, sharing_offence, stranger, writes, writing_offence}
use Rattle.policy_lawful.specs.declared.offence.Offence.{Offence}
use Rattle.policy_lawful.specs.declared.resolved.Subject.{Subject}
use Rattle.policy_lawful.proofs.SourceElements.{parts_in_range}
use Rattle.policy_lawful.specs.Rights.{allows}
use Rattle.policy_lawful.specs.source.Region.{Region}
use Rattle.policy_lawful.specs.source.Subject.{Subject as NamedSubject}
use Rattle.policy_lawful.specs.Views.{is_on_region, views_of}
use Rattle.policy_lawful.specs.declared.view.View.{View}
use Rattle.policy_lawful.proofs.RegionsByIndex.{maps_at, writes_at}
use Rattle.policy_lawful.proofs.NameSets.{declared_is}
use Rattle.policy_rules.specs.Names.{HasAll}
use Rattle.policy_rules.specs.Writers.{HasUsers, with_user_if, region_users_fault, not_shared, other_among, sharing_fault, stranger_among, user_of, users_fault, users_of, uses_of, with_user}
use Rattle.policy_rules.specs.declared.writers.User.{User}

-- ---- searches

same_find : {X : Type 0} (test other ok : X → Bool) → ((x : X) → ok x ≡ true → test x ≡ other x) → (xs : List X) → list_all ok xs ≡ true → find test xs ≡ find other xs
same_find test other ok same [] h = refl
same_find test other ok same (x ∷ xs) h =
    let parts = and_parts (ok x) (list_all ok xs) h in
    ap (λ b. cond b (Some x) (find test xs)) (same x parts.0) ∙ ap (cond (other x) (Some x)) (same_find test other ok same xs parts.1)

every_find : {X : Type 0} (test other : X → Bool) → ((x : X) → test x ≡ other x) → (xs : List X) → find test xs ≡ find other xs
every_find test other same [] = refl
every_find test other same (x ∷ xs) = ap (λ b. cond b (Some x) (find test xs)) (same x) ∙ ap (cond (other x) (Some x)) (every_find test other same xs)

same_after : {X O : Type 0} (at by : List X → X → Option O) → ((before : List X) (x : X) → at before x ≡ by before x) → (before xs : List X) → first_after at before xs ≡ first_after by before xs
same_after at by same before [] = refl
same_after at by same before (x ∷ xs) = λ i. option_or (same before x i) (same_after at by same (before ++ x ∷ []) xs i)

-- a test that asks for the same thing besides of each
any_besides : {X : Type 0} (test : X → Bool) (c : Bool) (xs : List X) → list_any (λ x. test x && c) xs ≡ (list_any test xs && c)
any_besides test c [] = refl
any_besides test c (x ∷ xs) =
    ap (λ b. (test x && c) || b) (any_besides test c xs)
    ∙ elim (test x) as (λ t. ((t && c) || (list_any test xs && c)) ≡ ((t || list_any test xs) && c)) [
      | true ↦ elim c as (λ c. (c || (list_any test xs && c)) ≡ c) [ true ↦ refl | false ↦ elim (list_any test xs) as (λ b. (b && false) ≡ false) [ true ↦ refl | false ↦ refl ] ]
      | false ↦ refl
    ]

and_turned : (a b : Bool) → (a && b) ≡ (b && a)
and_turned true true = refl
and_turned true false = refl
and_turned false true = refl
and_turned false false = refl

-- ---- names that are looked up

stranger_is : (names list : List (List ℕ)) (region : List ℕ) (users : List User) → HasAll names list
    → stranger_among names region users ≡ option_map (λ u. two region u.name) (find (λ u. not (is_declared list u.name)) users)
stranger_is names list region users all =
    ap (option_map (λ u. two region u.name)) (every_find (λ u. not (is_declared names u.name)) (λ u. not (is_declared list u.name)) (λ u. ap not (all u.name)) users)

not_shared_is : (using names : List (List ℕ)) (region : List ℕ) (list : List (List ℕ)) → HasAll names using
    → first_after (not_shared names region) [] list ≡ first_after (λ before name. unless (not (is_declared before name) && is_declared using name) (two region name)) [] list
not_shared_is using names region list all =
    same_after (not_shared names region) (λ before name. unless (not (is_declared before name) && is_declared using name) (two region name))
    (λ before name. λ i. unless (not (declared_is before name i) && all name i) (two region name)) [] list

-- the first fault of a region with a list, by names that are looked up
pub shared_first : (listed : List (List ℕ)) (x : Region) (users : List User) (o : Offence) → HasAll listed x.shared_memory → stranger_among listed x.name users ≡ Some o → Some o ≡ sharing_fault users x
shared_first listed x users o all is =
    sym (ap (λ f. option_or f (first_after (λ before name. unless (not (is_declared before name) && is_declared (map (λ u. u.name) users) name) (two x.name name)) [] x.shared_memory))
    (sym (stranger_is listed x.shared_memory x.name users all) ∙ is))

pub shared_last : (listed using : List (List ℕ)) (x : Region) (users : List User) → HasAll listed x.shared_memory → HasAll using (map (λ u. u.name) users) → stranger_among listed x.name users ≡ None
    → first_after (not_shared using x.name) [] x.shared_memory ≡ sharing_fault users x
shared_last listed using x users all of_users none =
    not_shared_is (map (λ u. u.name) users) using x.name x.shared_memory of_users
    ∙ sym (ap (λ f. option_or f (first_after (λ before name. unless (not (is_declared before name) && is_declared (map (λ u. u.name) users) name) (two x.name name)) [] x.shared_memory))
    (sym (stranger_is listed x.shared_memory x.name users all) ∙ none))

-- ---- users, and the subjects that they are

found_view : (k : ℕ) (name : List ℕ) (test : List ℕ → Bool → Bool) (vs : List View)
    → option_map (λ u. u.name) (find (λ u. test u.name u.writes) (filter_map (user_of k name) vs)) ≡ cond (list_any (λ v. is_on_region k v.shows && test name (allows v.rights Write)) vs) (Some name) None
found_view k name test [] = refl
found_view k name test (v ∷ vs) =
    elim (is_on_region k v.shows) as (λ b. option_map (λ (u : User). u.name) (find (λ u. test u.name u.writes) (cons_option (cond b (Some (record { name = name; writes = allows v.rights Write })) None) (filter_map (user_of k name) vs)))
    ≡ cond ((b && test name (allows v.rights Write)) || list_any (λ v. is_on_region k v.shows && test name (allows v.rights Write)) vs) (Some name) None) [
      | true ↦ elim (test name (allows v.rights Write)) as (λ t. option_map (λ (u : User). u.name) (cond t (Some (record { name = name; writes = allows v.rights Write })) (find (λ u. test u.name u.writes) (filter_map (user_of k name) vs)))
          ≡ cond (t || list_any (λ v. is_on_region k v.shows && test name (allows v.rights Write)) vs) (Some name) None) [
            | true ↦ refl
            | false ↦ found_view k name test vs
          ]
      | false ↦ found_view k name test vs
    ]

abbrev uses : Resolution → ℕ → (List ℕ → Bool → Bool) → Subject → Bool
uses r k test s = list_any (λ v. is_on_region k v.shows && test s.name (allows v.rights Write)) (views_of r s)

found_user : (r : Resolution) (k : ℕ) (test : List ℕ → Bool → Bool) (ss : List Subject)
    → option_map (λ u. u.name) (find (λ u. test u.name u.writes) (users_of r k ss)) ≡ option_map (λ s. s.name) (find (uses r k test) ss)
found_user r k test [] = refl
found_user r k test (s ∷ ss) =
    ap (option_map (λ u. u.name)) (find-append (λ (u : User). test u.name u.writes) (uses_of r k s) (users_of r k ss))
    ∙ map_either (λ u. u.name) (find (λ u. test u.name u.writes) (uses_of r k s)) (find (λ u. test u.name u.writes) (users_of r k ss))
    ∙ (λ i. option_or (found_view k s.name test (views_of r s) i) (found_user r k test ss i))
    ∙ elim (uses r k test s) as (λ b. option_or (cond b (Some s.name) None) (option_map (λ (s : Subject). s.name) (find (uses r k test) ss)) ≡ option_map (λ (s : Subject). s.name) (cond b (Some s) (find (uses r k test) ss))) [
      | true ↦ refl
      | false ↦ refl
    ]

-- a subject of the source policy
found_subject : (r : Resolution) → IsResolved r → (by : NamedSubject → Bool) (test : Subject → Bool) → ((s : Subject) → subject_in_range r s ≡ true → by (subject_named r s) ≡ test s)
    → option_map (λ s. s.name) (find by (source_of r).subjects) ≡ option_map (λ s. s.name) (find test r.subjects)
unfolding source_of
found_subject r q by test same =
    ap (option_map (λ (s : NamedSubject). s.name)) (find-map by (subject_named r) r.subjects)
    ∙ option_map-option_map (λ (s : NamedSubject). s.name) (subject_named r) (find (λ s. by (subject_named r s)) r.subjects)
    ∙ ap (option_map (λ (s : Subject). s.name)) (same_find (λ s. by (subject_named r s)) test (subject_in_range r) same r.subjects (parts_in_range r q.in_range).subjects)

-- ---- one region

module _ (r : Resolution) (q : IsResolved r) (k : ℕ) (x : Region) (is : slice_get r.memory k ≡ Some x) where
  -- users that pass, by names
  user_is : (test : List ℕ → Bool → Bool) (by : NamedSubject → Bool) → ((s : Subject) → subject_in_range r s ≡ true → by (subject_named r s) ≡ uses r k test s)
      → option_map (λ u. u.name) (find (λ u. test u.name u.writes) (users_of r k r.subjects)) ≡ option_map (λ s. s.name) (find by (source_of r).subjects)
  user_is test by same = found_user r k test r.subjects ∙ sym (found_subject r q by (uses r k test) same)

  maps_besides : (s : Subject) (c : Bool) → subject_in_range r s ≡ true → (maps (source_of r) x.name (subject_named r s) && c) ≡ list_any (λ v. is_on_region k v.shows && c) (views_of r s)
  maps_besides s c h = ap (λ b. b && c) (maps_at r s k x q h is) ∙ sym (any_besides (λ v. is_on_region k v.shows) c (views_of r s))

  -- of the other than the writer
  other_named : (o : Option User) (w : Option NamedSubject) → option_map (λ u. u.name) o ≡ option_map (λ s. s.name) w → other_among (users_of r k r.subjects) x.name o ≡ other_than (source_of r) x.name w
  other_named None None same = refl
  other_named None (Some w) same = absurd (cc)
  other_named (Some o) None same = absurd (cc)
  other_named (Some o) (Some w) same =
      let name : o.name ≡ w.name = cc in
      ap (λ n. option_map (λ u. two x.name u.name) (find (λ u. not (bytes_eq u.name n)) (users_of r k r.subjects))) name
      ∙ sym (option_map-option_map (two x.name) (λ u. u.name) (find (λ u. not (bytes_eq u.name w.name)) (users_of r k r.subjects)))
      ∙ ap (option_map (two x.name)) (user_is (λ name _. not (bytes_eq name w.name)) (λ s. not (bytes_eq s.name w.name) && maps (source_of r) x.name s)
      (λ s h. and_turned (not (bytes_eq s.name w.name)) (maps (source_of r) x.name (subject_named r s)) ∙ maps_besides s (not (bytes_eq s.name w.name)) h))
      ∙ option_map-option_map (two x.name) (λ s. s.name) (find (λ s. not (bytes_eq s.name w.name) && maps (source_of r) x.name s) (source_of r).subjects)

  stranger_named : option_map (λ u. two x.name u.name) (find (λ u. not (is_declared x.shared_memory u.name)) (users_of r k r.subjects)) ≡ option_map (λ s. two x.name s.name) (find (stranger (source_of r) x) (source_of r).subjects)
  stranger_named =
      sym (option_map-option_map (two x.name) (λ u. u.name) (find (λ u. not (is_declared x.shared_memory u.name)) (users_of r k r.subjects)))
      ∙ ap (option_map (two x.name)) (user_is (λ name _. not (is_declared x.shared_memory name)) (stranger (source_of r) x) (λ s h. maps_besides s (not (is_declared x.shared_memory s.name)) h))
      ∙ option_map-option_map (two x.name) (λ s. s.name) (find (stranger (source_of r) x) (source_of r).subjects)

  -- a name of a user
  view_named : (name n : List ℕ) (vs : List View) → list_any (λ u. bytes_eq u.name n) (filter_map (user_of k name) vs) ≡ (bytes_eq name n && list_any (λ v. is_on_region k v.shows) vs)
  view_named name n [] = and_turned false (bytes_eq name n)
  view_named name n (v ∷ vs) =
      elim (is_on_region k v.shows) as (λ b. list_any (λ (u : User). bytes_eq u.name n) (cons_option (cond b (Some (record { name = name; writes = allows v.rights Write })) None) (filter_map (user_of k name) vs))
      ≡ (bytes_eq name n && (b || list_any (λ v. is_on_region k v.shows) vs))) [
        | true ↦ ap (λ b. bytes_eq name n || b) (view_named name n vs) ∙ elim (bytes_eq name n) as (λ b. (b || (b && list_any (λ v. is_on_region k v.shows) vs)) ≡ (b && true)) [ true ↦ refl | false ↦ refl ]
        | false ↦ view_named name n vs
      ]

  users_named : (n : List ℕ) (ss : List Subject) → list_any (λ u. bytes_eq u.name n) (users_of r k ss) ≡ list_any (λ s. bytes_eq s.name n && list_any (λ v. is_on_region k v.shows) (views_of r s)) ss
  users_named n [] = refl
  users_named n (s ∷ ss) =
      list_any-append (λ (u : User). bytes_eq u.name n) (uses_of r k s) (users_of r k ss) ∙ (λ i. view_named s.name n (views_of r s) i || users_named n ss i)

  sharer_named : (n : List ℕ) → is_declared (map (λ u. u.name) (users_of r k r.subjects)) n ≡ list_any (λ s. bytes_eq s.name n && maps (source_of r) x.name s) (source_of r).subjects
  unfolding source_of
  sharer_named n =
      list_any-map (λ m. bytes_eq m n) (λ u. u.name) (users_of r k r.subjects)
      ∙ users_named n r.subjects
      ∙ sym (list_any-map (λ s. bytes_eq s.name n && maps (source_of r) x.name s) (subject_named r) r.subjects
      ∙ any_same (λ s. bytes_eq s.name n && maps (source_of r) x.name (subject_named r s)) (λ s. bytes_eq s.name n && list_any (λ v. is_on_region k v.shows) (views_of r s)) (subject_in_range r)
      (λ s h. ap (λ b. bytes_eq s.name n && b) (maps_at r s k x q h is)) r.subjects (parts_in_range r q.in_range).subjects)

  sharing_named : sharing_fault (users_of r k r.subjects) x ≡ sharing_offence (source_of r) x
  sharing_named =
      (λ i. option_or (stranger_named i) (first_after (λ before name. unless (not (is_declared before name) && is_declared (map (λ u. u.name) (users_of r k r.subjects)) name) (two x.name name)) [] x.shared_memory))
      ∙ ap (option_or (option_map (λ s. two x.name s.name) (find (stranger (source_of r) x) (source_of r).subjects)))
      (same_after (λ before name. unless (not (is_declared before name) && is_declared (map (λ u. u.name) (users_of r k r.subjects)) name) (two x.name name))
      (λ before name. unless (is_sharer (source_of r) x before name) (two x.name name))
      (λ before name. ap (λ b. unless (not (is_declared before name) && b) (two x.name name)) (sharer_named name)) [] x.shared_memory)

  writer_named : option_map (λ u. u.name) (find (λ u. u.writes) (users_of r k r.subjects)) ≡ option_map (λ s. s.name) (find (writes (source_of r) x.name) (source_of r).subjects)
  writer_named = user_is (λ _ w. w) (writes (source_of r) x.name) (λ s h. writes_at r s k x q h is)

  region_named : users_fault (users_of r k r.subjects) x ≡ writing_offence (source_of r) x
  region_named =
      (λ i. cond (length x.shared_memory == 0)
      (other_named (find (λ u. u.writes) (users_of r k r.subjects)) (find (writes (source_of r) x.name) (source_of r).subjects) writer_named i)
      (sharing_named i))

-- ---- all regions

pub writers_by_index : (r : Resolution) (users : List (List User)) → IsResolved r → HasUsers r users r.subjects → first_in (region_users_fault users) (enumerate_from 0 r.memory) ≡ offence_8 (source_of r)
unfolding offence_8 source_of
writers_by_index r users q has =
    let one : (k : ℕ) (x : Region) → slice_get r.memory k ≡ Some x → writing_offence (source_of r) x ≡ region_users_fault users (0 + k, x) = λ k x is.
    sym (region_named r q k x is)
    ∙ ap (λ us. users_fault us x) (sym (has.at k (slice_get_within r.memory k x is)))
    ∙ ap (λ i. region_users_fault users (i, x)) (omega arith) in
    sym (first_numbered_same (writing_offence (source_of r)) (region_users_fault users) 0 r.memory one)

-- ---- users, one subject after another

-- one window more
pub added_is : (old : List User) (b : Bool) (u : User) → with_user_if old b u ≡ with_user old (cond b (Some u) None)
added_is old true u = refl
added_is old false u = refl

with_one : {X : Type 0} (f : X → Option User) (before : List User) (xs : List X) (x : X) → with_user (before ++ filter_map f xs) (f x) ≡ before ++ filter_map f (xs ++ x ∷ [])
with_one f before xs x =
    elim (f x) as (λ o. with_user (before ++ filter_map f xs) o ≡ before ++ (filter_map f xs ++ cons_option o [])) [
      | None ↦ sym (ap (λ us. before ++ us) (append-nil (filter_map f xs)))
      | Some u ↦ append_assoc before (filter_map f xs) (u ∷ [])
    ]
    ∙ sym (ap (λ us. before ++ us) (filter_map-append f xs (x ∷ [])))

pub views_more : (old now after : List (List User)) (name : List ℕ) (vs : List View) (i : ℕ) (v : View) → length now ≡ length old
    → ((k : ℕ) → k < length old → get_or now k [] ≡ get_or old k [] ++ filter_map (user_of k name) (take i vs))
    → ((k : ℕ) → k < length now → get_or after k [] ≡ with_user (get_or now k []) (user_of k name v)) → i < length vs → v ≡ get_or vs i v
    → (k : ℕ) → k < length old → get_or after k [] ≡ get_or old k [] ++ filter_map (user_of k name) (take (i + 1) vs)
views_more old now after name vs i v room had noted within is k l =
    let here : k < length now = omega (arith, room, l) in
    noted k here
    ∙ ap (λ us. with_user us (user_of k name v)) (had k l)
    ∙ with_one (user_of k name) (get_or old k []) (take i vs) v
    ∙ ap (λ xs. get_or old k [] ++ filter_map (user_of k name) xs) (ap (λ x. take i vs ++ x ∷ []) is ∙ sym (take_more vs i v within))

-- no subject, no users
pub none_yet : (r : Resolution) → HasUsers r (replicate (length r.memory) []) []
none_yet r = record {
  room = length-replicate (length r.memory) [];
  at = λ k l. get_or-replicate (length r.memory) k [] [] l;
}

-- one subject more
pub users_more : (r : Resolution) (before after : List (List User)) (ss : List Subject) (i : ℕ) (s : Subject) → HasUsers r before (take i ss) → length after ≡ length before
    → ((k : ℕ) → k < length before → get_or after k [] ≡ get_or before k [] ++ uses_of r k s) → i < length ss → s ≡ get_or ss i s → HasUsers r after (take (i + 1) ss)
users_more r before after ss i s had room noted within is = record {
  room = room ∙ had.room;
  at = λ k l.
      let here : k < length before = omega (arith, had.room, l) in
      let users : users_of r k (take (i + 1) ss) ≡ users_of r k (take i ss) ++ uses_of r k s =
      ap (users_of r k) (take_more ss i s within)
      ∙ (flat_map-append (uses_of r k) (take i ss) (get_or ss i s ∷ [])
      ∙ ap (λ us. users_of r k (take i ss) ++ us) (append-nil (uses_of r k (get_or ss i s)) ∙ ap (uses_of r k) (sym is))) in
      noted k here ∙ (ap (λ us. us ++ uses_of r k s) (had.at k l) ∙ sym users);
}
