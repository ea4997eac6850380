-- The inputs of a tick in both of two systems, of which those agree that reach members.
use Rattle.std.proofs.Common.{◌≡◌, ℕ, Bool, true, false, cond, List, [], ◌∷◌, filter, Option, Some, None, refl, sym, ap, subst, ◌∙◌, inl, inr, true≢false}
use Rattle.std.specs.Prelude.{◌==◌, ◌&&◌, ◌||◌, option_map, slice_get, slice_set}
use Rattle.std.specs.List.{AllByRecursion, find, list_any}
use Rattle.std.specs.Option.{option_map_or}
use Rattle.std.specs.Str.{bytes_eq}
use Rattle.std.proofs.lemmas.Bool.{and_from, and_parts, cases_eq, or_parts}
use Rattle.std.proofs.lemmas.Slice.Eq.{bytes_eq-Decides}
use Rattle.subject_model.specs.Resources.{ports_of}
use Rattle.muen_num.proofs.ChangeLaws.{element_changes, others_stay, set_is}
use Rattle.muen_num.specs.ListChange.{change_at}
use Rattle.subject_model.specs.Pending.{with_vector}
use Rattle.muen_num.proofs.Members.{In, any_in, any_some, find_in}
use Rattle.policy_lawful.specs.Contents.{Held}
use Rattle.policy_lawful.specs.Events.{Target, irq_of}
use Rattle.policy_lawful.specs.Thing.{device_memory}
use Rattle.policy_lawful.specs.source.Source.{Source}
use Rattle.policy_lawful.specs.source.Subject.{Subject}
use Rattle.subject_model.specs.DeviceRecord.{DeviceRecord, NamedInput, port_input, memory_input, irq_input, dma_input}
use Rattle.subject_model.specs.Run.{all_taken}
use Rattle.policy_flows.specs.Flows.{is_member}
use Rattle.policy_flows.proofs.Closures.{same_member}
use Rattle.subject_model.proofs.KeyLaws.{names_apart, value_other}
use Rattle.subject_model.specs.Clock.{irq_reaches, system, takes}
use Rattle.subject_model.specs.System.{System, subject_named}
use Rattle.proof_views.proofs.OwnLines.{named_so}
use Rattle.proof_isolation.specs.Agree.{Agree, WritesTheSame, irq_to, maps_seen, input_reaches_member}
use Rattle.proof_isolation.specs.Alike.{AreAlike}
use Rattle.proof_isolation.proofs.Alike.{alike_left, alike_right}
use Rattle.proof_isolation.proofs.BothRaise.{change_named_alike}
use Rattle.proof_isolation.proofs.SeenWrites.{line_both, line_outside, write_both, write_outside}

-- ---- an input that reaches no member

module _ (p q : Source) (members : List (List ℕ)) where
  port_apart : (s : Subject) → is_member members s ≡ true → subject_named p s.name ≡ Some s → (device : List ℕ) (port value n : ℕ) → input_reaches_member p q members (port_input device port value) ≡ false → list_any (λ m. m == n) (ports_of p s) ≡ true → (n ≡ port → ⊥)
  port_apart s member is device port value n out its same =
      let in_s = (find_in (λ x. bytes_eq x.name s.name) p.subjects s is).0 in
      let hit = any_in (λ s. is_member members s && list_any (λ n. n == port) (ports_of p s)) p.subjects s in_s (and_from (is_member members s) (list_any (λ n. n == port) (ports_of p s)) member (subst (λ k. list_any (λ m. m == k) (ports_of p s) ≡ true) same its)) in
      true≢false (sym hit ∙ out)

  irq_elsewhere : (s : Subject) → is_member members s ≡ true → subject_named p s.name ≡ Some s → (t : Target) → list_any (λ s. is_member members s && bytes_eq s.name t.subject) p.subjects ≡ false → (t.subject ≡ s.name → ⊥)
  irq_elsewhere s member is t out same =
      let in_s = (find_in (λ x. bytes_eq x.name s.name) p.subjects s is).0 in
      let hit = any_in (λ s. is_member members s && bytes_eq s.name t.subject) p.subjects s in_s (and_from (is_member members s) (bytes_eq s.name t.subject) member ((bytes_eq-Decides s.name t.subject).1 (sym same))) in
      true≢false (sym hit ∙ out)

  -- an interrupt
  by_target : (o : Option Target) (y : System) → option_map_or (λ t. list_any (λ s. is_member members s && bytes_eq s.name t.subject) p.subjects) o false ≡ false → AreAlike p p members y (irq_reaches o y)
  by_target None y out = λ s member is. record { page = refl; msrs = refl; now = refl; later = refl; active = refl; shown = λ x _. refl; ports = λ n _. refl }
  by_target (Some t) y out = λ s member is. record {
    page = refl;
    msrs = refl;
    now = sym (value_other bytes_eq t.subject s.name (with_vector t.vector) y.now (names_apart t.subject s.name (irq_elsewhere s member is t out)));
    later = refl;
    active = refl;
    shown = λ x _. refl;
    ports = λ n _. refl;
  }

  pub input_outside : (i : NamedInput) (y : System) → input_reaches_member p q members i ≡ false → AreAlike p p members y (takes p i y)
  input_outside (port_input device port value) y out = λ s member is. record {
    page = refl;
    msrs = refl;
    now = refl;
    later = refl;
    active = refl;
    shown = λ x _. refl;
    ports = λ n its. sym (ap (λ xs. slice_get xs n) (set_is port y.ports value) ∙ others_stay port n (λ _. value) y.ports (port_apart s member is device port value n out its));
  }
  input_outside (memory_input device memory offset bytes) y out = write_outside p members (device_memory device memory) offset bytes y (λ name e. cc (e)) out
  input_outside (irq_input device irq) y out = by_target (irq_of p device irq) y out
  input_outside (dma_input device address bytes) y out = line_outside p members device address bytes y (or_parts (maps_seen p members device) (maps_seen q members device) out).0

-- ---- one that reaches members, in both

port_both : (n port value : ℕ) (a b : List ℕ) → slice_get a n ≡ slice_get b n → slice_get (slice_set a port value) n ≡ slice_get (slice_set b port value) n
port_both n port value a b same =
    ap (λ xs. slice_get xs n) (set_is port a value) ∙ at_number ∙ sym (ap (λ xs. slice_get xs n) (set_is port b value))
  where
    at_number : slice_get (change_at port (λ _. value) a) n ≡ slice_get (change_at port (λ _. value) b) n
    at_number = elim (cases_eq n port) as (λ _. slice_get (change_at port (λ _. value) a) n ≡ slice_get (change_at port (λ _. value) b) n) [
      | inl e ↦
          let at : slice_get (change_at n (λ _. value) a) n ≡ slice_get (change_at n (λ _. value) b) n = element_changes n (λ _. value) a ∙ ap (option_map (λ _. value)) same ∙ sym (element_changes n (λ _. value) b) in
          subst (λ k. slice_get (change_at k (λ _. value) a) n ≡ slice_get (change_at k (λ _. value) b) n) e at
      | inr ne ↦ others_stay port n (λ _. value) a ne ∙ same ∙ sym (others_stay port n (λ _. value) b ne)
    ]

irq_some : (name : List ℕ) (o : Option Target) (t : Target) → irq_to name o ≡ Some t → o ≡ Some t
irq_some name None t h = absurd (cc (h))
irq_some name (Some x) t h =
    elim (bytes_eq x.subject name) as (λ b. cond b (Some x) None ≡ Some t → Some x ≡ Some t) [ true ↦ λ k. k | false ↦ λ k. absurd (cc (k)) ] h

found_some : {X : Type 0} (test : X → Bool) (xs : List X) → list_any test xs ≡ true → (x : X) × (find test xs ≡ Some x)
found_some test [] h = absurd (cc (h))
found_some {X} test (x ∷ xs) h =
    elim (test x) as (λ b. (b || list_any test xs) ≡ true → (y : X) × (cond b (Some x) (find test xs) ≡ Some y)) [ true ↦ λ _. (x, refl) | false ↦ λ k. found_some test xs k ] h

module _ (p q : Source) (members : List (List ℕ)) (f g : Held) (r t : DeviceRecord) (ends : ℕ) (agree : Agree members p q f g r t ends) where
  -- an interrupt of a member goes to it in both
  same_target : (device irq : List ℕ) (o : Option Target) → irq_of p device irq ≡ o → option_map_or (λ t. list_any (λ s. is_member members s && bytes_eq s.name t.subject) p.subjects) o false ≡ true → irq_of q device irq ≡ o
  same_target device irq None is hit = absurd (cc (hit))
  same_target device irq (Some x) is hit =
      let at = any_some (λ s. is_member members s && bytes_eq s.name x.subject) p.subjects hit in
      let parts = and_parts (is_member members at.one) (bytes_eq at.one.name x.subject) at.passes in
      -- the subject that is found by its name
      let found = named_again p at.one at.within in
      let name : found.0.name ≡ at.one.name = named_so p at.one.name found.0 found.1 in
      let inside = same_member members at.one found.0 (sym name) parts.0 in
      let is_it : subject_named p found.0.name ≡ Some found.0 = ap (subject_named p) name ∙ found.1 in
      let w = agree.there found.0 inside is_it in
      let same = (agree.each found.0 w.0 inside is_it w.1).irqs device irq in
      let to : irq_to found.0.name (irq_of p device irq) ≡ Some x =
      ap (irq_to found.0.name) is ∙ ap (λ b. cond b (Some x) None) ((bytes_eq-Decides x.subject found.0.name).1 (sym ((bytes_eq-Decides at.one.name x.subject).0 parts.1) ∙ sym name)) in
      irq_some found.0.name (irq_of q device irq) x (sym same ∙ to)
    where
      named_again : (p : Source) (s : Subject) → In s p.subjects → (q : Subject) × (subject_named p s.name ≡ Some q)
      named_again p s within = found_some (λ x. bytes_eq x.name s.name) p.subjects (any_in (λ x. bytes_eq x.name s.name) p.subjects s within ((bytes_eq-Decides s.name s.name).1 refl))

  irq_both : (o : Option Target) (y z : System) → AreAlike p q members y z → AreAlike p q members (irq_reaches o y) (irq_reaches o z)
  irq_both None y z h = h
  irq_both (Some x) y z h = λ s member is.
      let a = h s member is in
      record { page = a.page; msrs = a.msrs; now = change_named_alike x.subject s.name (with_vector x.vector) y.now z.now a.now; later = a.later; active = a.active; shown = a.shown; ports = a.ports }

  pub input_both : (i : NamedInput) (y z : System) → input_reaches_member p q members i ≡ true → WritesTheSame members p q i → AreAlike p q members y z → AreAlike p q members (takes p i y) (takes q i z)
  input_both (port_input device port value) y z hit same h = λ s member is.
      let a = h s member is in
      record { page = a.page; msrs = a.msrs; now = a.now; later = a.later; active = a.active; shown = a.shown; ports = λ n its. port_both n port value y.ports z.ports (a.ports n its) }
  input_both (memory_input device memory offset bytes) y z hit same h = write_both p q members (device_memory device memory) offset bytes y z h
  input_both (irq_input device irq) y z hit same h =
      subst (λ o. AreAlike p q members (irq_reaches (irq_of p device irq) y) (irq_reaches o z)) (sym (same_target device irq (irq_of p device irq) refl hit)) (irq_both (irq_of p device irq) y z h)
  input_both (dma_input device address bytes) y z hit same h = line_both p q members f g r t ends agree device address bytes y z same h

  -- ---- all inputs of a tick

  -- what remains of the second's inputs behind the first that reaches a member
  record Skipped (y : System) (i : NamedInput) (rest is : List NamedInput) (z : System) : Type 0 where
    pub remaining : List NamedInput
    pub here : System
    pub alike : AreAlike p q members y here
    pub same : all_taken (system q) is z ≡ all_taken (system q) remaining (takes q i here)
    pub agrees : rest ≡ filter (input_reaches_member q p members) remaining

  skip : (y : System) (i : NamedInput) (rest is : List NamedInput) (z : System) → AreAlike p q members y z → i ∷ rest ≡ filter (input_reaches_member q p members) is → Skipped y i rest is z
  skip y i rest [] z h same = absurd (cc (same))
  skip y i rest (j ∷ js) z h same =
      elim (input_reaches_member q p members j) as (λ b. input_reaches_member q p members j ≡ b → i ∷ rest ≡ cond b (j ∷ filter (input_reaches_member q p members) js) (filter (input_reaches_member q p members) js) → Skipped y i rest (j ∷ js) z) [
        | true ↦ λ e k.
            let first : i ≡ j = cc (k) in
            record { remaining = js; here = z; alike = h; same = ap (λ x. all_taken (system q) js (takes q x z)) (sym first); agrees = cc (k) }
        | false ↦ λ e k.
            let later = skip y i rest js (takes q j z) (alike_right p q members f g r t ends agree y z (takes q j z) (input_outside q p members j z e) h) k in
            record { remaining = later.remaining; here = later.here; alike = later.alike; same = later.same; agrees = later.agrees }
      ] refl same

  rest_outside : (is : List NamedInput) (y z : System) → [] ≡ filter (input_reaches_member q p members) is → AreAlike p q members y z → AreAlike p q members y (all_taken (system q) is z)
  rest_outside [] y z same h = h
  rest_outside (j ∷ js) y z same h =
      elim (input_reaches_member q p members j) as (λ b. input_reaches_member q p members j ≡ b → [] ≡ cond b (j ∷ filter (input_reaches_member q p members) js) (filter (input_reaches_member q p members) js) → AreAlike p q members y (all_taken (system q) js (takes q j z))) [
        | true ↦ λ e k. absurd (cc (k))
        | false ↦ λ e k. rest_outside js y (takes q j z) k (alike_right p q members f g r t ends agree y z (takes q j z) (input_outside q p members j z e) h)
      ] refl same

  pub inputs_both : (is js : List NamedInput) (y z : System) → filter (input_reaches_member p q members) is ≡ filter (input_reaches_member q p members) js → AllByRecursion (WritesTheSame members p q) (filter (input_reaches_member p q members) is) → AreAlike p q members y z
      → AreAlike p q members (all_taken (system p) is y) (all_taken (system q) js z)
  inputs_both [] js y z same writes h = rest_outside js y z same h
  inputs_both (i ∷ is) js y z same writes h =
      elim (input_reaches_member p q members i) as (λ b. input_reaches_member p q members i ≡ b → cond b (i ∷ filter (input_reaches_member p q members) is) (filter (input_reaches_member p q members) is) ≡ filter (input_reaches_member q p members) js
      → AllByRecursion (WritesTheSame members p q) (cond b (i ∷ filter (input_reaches_member p q members) is) (filter (input_reaches_member p q members) is)) → AreAlike p q members (all_taken (system p) is (takes p i y)) (all_taken (system q) js z)) [
        | true ↦ λ e k each.
            let at = skip y i (filter (input_reaches_member p q members) is) js z h k in
            subst (AreAlike p q members (all_taken (system p) is (takes p i y))) (sym at.same) (inputs_both is at.remaining (takes p i y) (takes q i at.here) at.agrees each.1 (input_both i y at.here e each.0 at.alike))
        | false ↦ λ e k each. inputs_both is js (takes p i y) z k each (alike_left p q members y (takes p i y) z (input_outside p q members i y e) h)
      ] refl same writes
