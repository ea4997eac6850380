-- The sets that are computed from contacts are the closures.
use Rattle.std.proofs.Common.{◌≡◌, ℕ, ◌+◌, Bool, List, [], ◌∷◌, length, map, refl, sym, ap, ◌∙◌}
use Rattle.std.specs.Prelude.{◌==◌}
use Rattle.std.specs.List.{enumerate_from}
use Rattle.std.specs.Str.{bytes_eq}
use Rattle.std.proofs.lemmas.List.{length-map}
use Rattle.std.proofs.lemmas.List.Elements.{All-map}
use Rattle.std.proofs.lemmas.Option.{slice_get_within}
use Rattle.muen_num.proofs.Lists.{map-map}
use Rattle.policy_lawful.specs.Resolution.{IsResolved, Resolution, source_of, subject_named}
use Rattle.policy_lawful.specs.declared.resolved.Subject.{Subject}
use Rattle.policy_lawful.specs.source.Subject.{Subject as NamedSubject}
use Rattle.policy_flows.specs.Flows.{closure_of, flows_to}
use Rattle.muen_num.proofs.Members.{In, all_from, map_agree}
use Rattle.flow_report.specs.ByIndex.{all_contacts_of, contacts_of, flows_between, rows_of}
use Rattle.flow_report.specs.Marks.{after_rounds, alone_marked, sets_after}
use Rattle.flow_report.specs.Sets.{AreFlows, HaveMarksOf, direct_flows_of, members_of}
use Rattle.flow_report.specs.declared.contacts.Contacts.{Contacts}
use Rattle.flow_report.proofs.DirectFlows.{flows_same, names_unique}
use Rattle.flow_report.proofs.MarkedSets.{marks_many, members_are}
use Rattle.flow_report.proofs.IndexesOfSubjects.{At, at_number, own_name, same_subject}

-- ---- tables

-- a table of images
table_of : {X Y Z : Type 0} (g : Y → Y → Z) (f : X → Y) (xs : List X) → map (λ u. map (g u) (map f xs)) (map f xs) ≡ map (λ a. map (λ b. g (f a) (f b)) xs) xs
table_of g f xs =
    map-map (λ u. map (g u) (map f xs)) f xs
    ∙ map_agree (λ a. map (g (f a)) (map f xs)) (λ a. map (λ b. g (f a) (f b)) xs) xs (λ a _. map-map (g (f a)) f xs)

-- elements with their numbers
numbered_all : {X Y : Type 0} (h : X → Y) (n : ℕ) (xs : List X) → map h xs ≡ map (λ x. h x.1) (enumerate_from n xs)
numbered_all h n [] = refl
numbered_all h n (x ∷ xs) = ap (λ ys. h x ∷ ys) (numbered_all h (n + 1) xs)

-- ---- of a policy

module _ (r : Resolution) (q : IsResolved r) where
  abbrev numbered : List (ℕ × Subject)
  numbered = enumerate_from 0 r.subjects

  abbrev named : ℕ × Subject → NamedSubject
  named x = subject_named r x.1

  subjects_numbered : (source_of r).subjects ≡ map named numbered
  unfolding source_of
  subjects_numbered = numbered_all (subject_named r) 0 r.subjects

  at_its_number : (x : ℕ × Subject) → In x numbered → At r x.0 x.1
  at_its_number x i = record { at = at_number r.subjects x i }

  contacts_flow : (a b : ℕ × Subject) → In a numbered → In b numbered → flows_between (contacts_of r a) (contacts_of r b) ≡ flows_to (source_of r) (named a) (named b)
  contacts_flow (i, u) (j, s) h k = sym (flows_same r q i j u s (at_its_number (i, u) h) (at_its_number (j, s) k))

  pub rows_same : rows_of (all_contacts_of r) ≡ direct_flows_of (source_of r)
  rows_same =
      table_of flows_between (contacts_of r) numbered
      ∙ map_agree (λ a. map (λ b. flows_between (contacts_of r a) (contacts_of r b)) numbered) (λ a. map (λ b. flows_to (source_of r) (named a) (named b)) numbered) numbered
      (λ a h. map_agree (λ b. flows_between (contacts_of r a) (contacts_of r b)) (λ b. flows_to (source_of r) (named a) (named b)) numbered (λ b k. contacts_flow a b h k))
      ∙ sym (table_of (flows_to (source_of r)) named numbered)
      ∙ (λ i. map (λ u. map (flows_to (source_of r) u) (sym subjects_numbered i)) (sym subjects_numbered i))

  index_same : (x y : ℕ × Subject) → In x numbered → In y numbered → ((contacts_of r y).index == x.0) ≡ bytes_eq y.1.name x.1.name
  index_same (j, s) (i, u) h k =
      let own = at_its_number (i, u) k in
      sym (ap (λ name. bytes_eq name s.name) (sym (own_name r q i u own)) ∙ same_subject r q i j s (at_its_number (j, s) h) (slice_get_within r.subjects i u own.at))

  alone_same : (x : ℕ × Subject) → In x numbered → alone_marked (all_contacts_of r) x.0 ≡ map (λ u. bytes_eq u.name x.1.name) (source_of r).subjects
  alone_same x h =
      map-map (λ (f : Contacts). f.index == x.0) (contacts_of r) numbered
      ∙ map_agree (λ y. (contacts_of r y).index == x.0) (λ y. bytes_eq y.1.name x.1.name) numbered (λ y k. index_same x y h k)
      ∙ sym (map-map (λ (u : NamedSubject). bytes_eq u.name x.1.name) named numbered)
      ∙ ap (map (λ (u : NamedSubject). bytes_eq u.name x.1.name)) (sym subjects_numbered)

  as_many : length (all_contacts_of r) ≡ length (source_of r).subjects
  as_many = length-map numbered (contacts_of r) ∙ sym (length-map numbered named) ∙ ap length (sym subjects_numbered)

  set_same : (x : ℕ × Subject) → In x numbered → members_of (source_of r) (after_rounds (rows_of (all_contacts_of r)) (alone_marked (all_contacts_of r) (contacts_of r x).index) (length (all_contacts_of r))) ≡ closure_of (source_of r) (named x).name
  set_same (j, s) h = members_are (source_of r) (names_unique r q) s.name (rows_of (all_contacts_of r)) (alone_marked (all_contacts_of r) j) rows_same (alone_same (j, s) h) (length (all_contacts_of r)) as_many

  many_marks : (x : ℕ × Subject) → In x numbered → length (after_rounds (rows_of (all_contacts_of r)) (alone_marked (all_contacts_of r) (contacts_of r x).index) (length (all_contacts_of r))) ≡ length (source_of r).subjects
  many_marks (j, s) h = marks_many (source_of r) (names_unique r q) s.name (rows_of (all_contacts_of r)) (alone_marked (all_contacts_of r) j) rows_same (alone_same (j, s) h) (length (all_contacts_of r))

  pub flows_are : AreFlows (source_of r) (sets_after (all_contacts_of r) (length (all_contacts_of r)))
  flows_are =
      let set : Contacts → List Bool = λ f. after_rounds (rows_of (all_contacts_of r)) (alone_marked (all_contacts_of r) f.index) (length (all_contacts_of r)) in
      ap (map (members_of (source_of r))) (map-map set (contacts_of r) numbered)
      ∙ map-map (members_of (source_of r)) (λ x. set (contacts_of r x)) numbered
      ∙ map_agree (λ x. members_of (source_of r) (set (contacts_of r x))) (λ x. closure_of (source_of r) (named x).name) numbered (λ x h. set_same x h)
      ∙ sym (map-map (λ (s : NamedSubject). closure_of (source_of r) s.name) named numbered)
      ∙ ap (map (λ (s : NamedSubject). closure_of (source_of r) s.name)) (sym subjects_numbered)

  pub marks_are : HaveMarksOf (source_of r) (sets_after (all_contacts_of r) (length (all_contacts_of r)))
  marks_are =
      let set : Contacts → List Bool = λ f. after_rounds (rows_of (all_contacts_of r)) (alone_marked (all_contacts_of r) f.index) (length (all_contacts_of r)) in
      let Many : List Bool → Type 0 = λ marks. length marks ≡ length (source_of r).subjects in
      All-map Many set (all_contacts_of r) (All-map (λ f. Many (set f)) (contacts_of r) numbered (all_from (λ x. Many (set (contacts_of r x))) numbered (λ x h. many_marks x h)))
