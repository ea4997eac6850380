-- The turn of a CPU in both of two systems that are alike.
use Rattle.std.proofs.Common.{◌≡◌, ℕ, true, false, List, [], Option, Some, None, refl, sym, ap, subst, ◌∙◌, inl, inr, true≢false}
use Rattle.std.specs.List.{cons_option, find}
use Rattle.std.specs.Option.{IfSome, option_map_or}
use Rattle.std.specs.Str.{bytes_eq}
use Rattle.std.proofs.lemmas.Bool.{cases_Bool}
use Rattle.subject_model.specs.Slot.{Slot}
use Rattle.policy_lawful.specs.Lawful.{IsLawful}
use Rattle.policy_lawful.specs.Contents.{Held}
use Rattle.policy_lawful.specs.source.Source.{Source}
use Rattle.policy_lawful.specs.source.Subject.{Subject}
use Rattle.subject_model.specs.DeviceRecord.{DeviceRecord}
use Rattle.subject_model.specs.Run.{Turned}
use Rattle.subject_model.specs.TurnLine.{TurnLine}
use Rattle.policy_flows.specs.Flows.{IsClosed, is_member}
use Rattle.policy_flows.proofs.Closures.{same_member}
use Rattle.subject_model.specs.Alone.{own_of, solo_turn}
use Rattle.subject_model.specs.System.{System, inbox_of, subject_named, system_turn}
use Rattle.proof_views.specs.Members.{AreListed, HasTurn}
use Rattle.proof_views.proofs.Kept.{turn_cases}
use Rattle.proof_views.proofs.LinesOfViews.{find_other}
use Rattle.proof_views.proofs.OwnLines.{named_so, not_of}
use Rattle.proof_isolation.specs.Agree.{Agree, own_slot}
use Rattle.proof_isolation.specs.Alike.{AreAlike, is_active}
use Rattle.proof_isolation.proofs.Alike.{alike_left, alike_right, same_cpu, same_name}
use Rattle.proof_isolation.proofs.BothTurns.{turns_both}
use Rattle.proof_isolation.proofs.OutsiderTurns.{outsiders_turn}
use Rattle.proof_isolation.proofs.Turners.{has_its_turn, has_turner, turn_is, turn_of, turner, turner_acts, turner_has}

-- ---- a turn that no member has

module _ (p : Source) (members : List (List ℕ)) (cpu tick : ℕ) (y : System) where
  -- nobody, or a subject that is no member
  abbrev pub IsOutside : Option (Slot × Subject) → Type 0
  IsOutside None = Unit {0}
  IsOutside (Some (slot, u)) = is_member members u ≡ false

  pub outside_has : (o : Option (Slot × Subject)) → turner p cpu tick y ≡ o → IsOutside o → (slot : Slot) (name : List ℕ) (u : Subject) → HasTurn p cpu tick y slot name u → is_member members u ≡ false
  outside_has None is out slot name u has = absurd (let some = sym is ∙ turner_has p cpu tick y slot name u has in cc (some))
  outside_has (Some (at, v)) is out slot name u has =
      let same : v ≡ u = ap (λ (o : Option (Slot × Subject)). option_map_or (λ e. e.1) o v) (sym is ∙ turner_has p cpu tick y slot name u has) in
      subst (λ x. is_member members x ≡ false) same out

  -- it prints nothing of a member
  pub outside_line : (o : Option (Slot × Subject)) → turner p cpu tick y ≡ o → IsOutside o → (s : Subject) → is_member members s ≡ true → find (λ l. bytes_eq l.subject s.name) (cons_option (system_turn p cpu tick y).line []) ≡ None
  outside_line o is out s member =
      find_other (λ l. bytes_eq l.subject s.name) (system_turn p cpu tick y).line []
      (turn_cases p cpu tick y (λ t. IfSome t.line (λ l. bytes_eq l.subject s.name ≡ false)) tt (λ slot name u st values has.
      not_of tick cpu st.pc s.name u.name (λ e. true≢false (sym (same_member members s u (sym e) member) ∙ outside_has o is out slot name u has))
      (solo_turn (own_of p u) (record { state = st; msrs = values }) (inbox_of p y u slot.first tick)).what))

-- ---- in both

-- the members have the same slots at this tick
abbrev pub SameSlots : Source → Source → List (List ℕ) → ℕ → System → System → Type 0
SameSlots p q members tick y z =
    (s w : Subject) → is_member members s ≡ true → subject_named p s.name ≡ Some s → subject_named q s.name ≡ Some w → own_slot p s y.frame tick ≡ own_slot q w z.frame tick

module _ (p q : Source) (lawful : IsLawful p) (lawful_too : IsLawful q) (members : List (List ℕ)) (closed : IsClosed p members) (closed_too : IsClosed q members) (f g : Held) (r t : DeviceRecord) (ends : ℕ) (agree : Agree members p q f g r t ends) (tick : ℕ) where
  -- members are alike after it, and it prints the same of each
  pub record SameSteps (a b : Turned System TurnLine) : Type 0 where
    pub alike : AreAlike p q members a.state b.state
    pub lines : (s : Subject) → is_member members s ≡ true → subject_named p s.name ≡ Some s → find (λ l. bytes_eq l.subject s.name) (cons_option a.line []) ≡ find (λ l. bytes_eq l.subject s.name) (cons_option b.line [])

  module _ (cpu : ℕ) (y z : System) (listed : AreListed p y.active) (listed_too : AreListed q z.active) (h : AreAlike p q members y z) (slots : SameSlots p q members tick y z) where
    outsiders : (o : Option (Slot × Subject)) → turner p cpu tick y ≡ o → IsOutside p members cpu tick y o → (k : Option (Slot × Subject)) → turner q cpu tick z ≡ k → IsOutside q members cpu tick z k → SameSteps (system_turn p cpu tick y) (system_turn q cpu tick z)
    outsiders o is out k is' out' =
        let left = outsiders_turn p lawful members closed cpu tick y listed (outside_has p members cpu tick y o is out) in
        let right = outsiders_turn q lawful_too members closed_too cpu tick z listed_too (outside_has q members cpu tick z k is' out') in
        record {
          alike = alike_right p q members f g r t ends agree (system_turn p cpu tick y).state z (system_turn q cpu tick z).state right (alike_left p q members y (system_turn p cpu tick y).state z left h);
          lines = λ s member found.
              let w = agree.there s member found in
              let name = same_name p q s w.0 (agree.each s w.0 member found w.1).own in
              outside_line p members cpu tick y o is out s member
              ∙ sym (subst (λ n. find (λ l. bytes_eq l.subject n) (cons_option (system_turn q cpu tick z).line []) ≡ None) (sym name) (outside_line q members cpu tick z k is' out' w.0 (same_member members s w.0 name member)));
        }

    -- where a member has the turn in the second, it has it in the first
    has_too : (slot : Slot) (v : Subject) → turner q cpu tick z ≡ Some (slot, v) → is_member members v ≡ true → (at : Slot) × (s : Subject) × (turner p cpu tick y ≡ Some (at, s)) × (is_member members s ≡ true)
    has_too slot v is member =
        let acts = turner_acts q lawful_too cpu tick z listed_too slot v (has_turner q cpu tick z slot v is) in
        let s = agree.back v member acts.named in
        let name : s.0.name ≡ v.name = named_so p v.name s.0 s.1 in
        let inside = same_member members v s.0 (sym name) member in
        let found : subject_named p s.0.name ≡ Some s.0 = ap (subject_named p) name ∙ s.1 in
        let found_too : subject_named q s.0.name ≡ Some v = ap (subject_named q) name ∙ acts.named in
        let own = (agree.each s.0 v inside found found_too).own in
        let mine : own_slot p s.0 y.frame tick ≡ Some slot.first = slots s.0 v inside found found_too ∙ acts.slot_is in
        let active : is_active p y s.0.name ≡ true = (h s.0 inside found).active ∙ ap (is_active q z) name ∙ acts.active in
        let turn = has_its_turn p s.0 tick y slot.first found mine active in
        (turn.slot, s.0, ap (λ c. turner p c tick y) (sym (same_cpu p q s.0 v own ∙ acts.on)) ∙ turn.is, inside)

    by_second : (o : Option (Slot × Subject)) → turner p cpu tick y ≡ o → IsOutside p members cpu tick y o → (k : Option (Slot × Subject)) → turner q cpu tick z ≡ k → IsOutside q members cpu tick z k
    by_second o is out None is' = tt
    by_second o is out (Some (slot, v)) is' =
        elim (cases_Bool (is_member members v)) as (λ _. is_member members v ≡ false) [
          | inr e ↦ e
          | inl e ↦ absurd (let s = has_too slot v is' e in not_outside o s.0 s.1 (sym is ∙ s.2) s.3 out)
        ]
      where
        not_outside : (o : Option (Slot × Subject)) (at : Slot) (s : Subject) → o ≡ Some (at, s) → is_member members s ≡ true → IsOutside p members cpu tick y o → ⊥
        not_outside None at s e member out = absurd (cc (e))
        not_outside (Some (slot, u)) at s e member out =
            let same : u ≡ s = ap (λ (o : Option (Slot × Subject)). option_map_or (λ e. e.1) o u) e in
            true≢false (sym member ∙ ap (is_member members) (sym same) ∙ out)

    -- a member has it
    of_member : (slot : Slot) (u : Subject) → turner p cpu tick y ≡ Some (slot, u) → is_member members u ≡ true → SameSteps (system_turn p cpu tick y) (system_turn q cpu tick z)
    of_member slot u is member =
        let acts = turner_acts p lawful cpu tick y listed slot u (has_turner p cpu tick y slot u is) in
        let v = agree.there u member acts.named in
        let own = (agree.each u v.0 member acts.named v.1).own in
        let name = same_name p q u v.0 own in
        let found : subject_named q v.0.name ≡ Some v.0 = ap (subject_named q) (sym name) ∙ v.1 in
        let mine : own_slot q v.0 z.frame tick ≡ Some slot.first = sym (slots u v.0 member acts.named v.1) ∙ acts.slot_is in
        let active : is_active q z v.0.name ≡ true = ap (is_active q z) (sym name) ∙ sym (h u member acts.named).active ∙ acts.active in
        let turn = has_its_turn q v.0 tick z slot.first found mine active in
        let is' : turner q cpu tick z ≡ Some (turn.slot, v.0) = ap (λ c. turner q c tick z) (sym acts.on ∙ same_cpu p q u v.0 own) ∙ turn.is in
        let acts' = turner_acts q lawful_too cpu tick z listed_too turn.slot v.0 (has_turner q cpu tick z turn.slot v.0 is') in
        let both = turns_both p q lawful lawful_too members f g r t ends agree cpu tick y z h slot turn.slot u v.0 acts acts' member v.1 (sym turn.begins) in
        let left : system_turn p cpu tick y ≡ turn_of p cpu tick (Some (slot, u)) y = turn_is p cpu tick y ∙ ap (λ o. turn_of p cpu tick o y) is in
        let right : system_turn q cpu tick z ≡ turn_of q cpu tick (Some (turn.slot, v.0)) z = turn_is q cpu tick z ∙ ap (λ o. turn_of q cpu tick o z) is' in
        subst (λ a. SameSteps a (system_turn q cpu tick z)) (sym left) (subst (SameSteps (turn_of p cpu tick (Some (slot, u)) y)) (sym right)
        (record { alike = both.alike; lines = λ s inside found. ap (λ line. find (λ l. bytes_eq l.subject s.name) (cons_option line [])) both.line }))

    by_first : (o : Option (Slot × Subject)) → turner p cpu tick y ≡ o → SameSteps (system_turn p cpu tick y) (system_turn q cpu tick z)
    by_first None is = outsiders None is tt (turner q cpu tick z) refl (by_second None is tt (turner q cpu tick z) refl)
    by_first (Some (slot, u)) is =
        elim (cases_Bool (is_member members u)) as (λ _. SameSteps (system_turn p cpu tick y) (system_turn q cpu tick z)) [
          | inl e ↦ of_member slot u is e
          | inr e ↦ outsiders (Some (slot, u)) is e (turner q cpu tick z) refl (by_second (Some (slot, u)) is e (turner q cpu tick z) refl)
        ]

    pub steps_both : SameSteps (system_turn p cpu tick y) (system_turn q cpu tick z)
    steps_both = by_first (turner p cpu tick y) refl
