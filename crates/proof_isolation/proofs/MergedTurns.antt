-- The turns of a tick in both of two systems, in orders that agree on the CPUs of members.
use Rattle.std.proofs.Common.{◌≡◌, ℕ, Bool, true, false, cond, List, [], ◌∷◌, ◌++◌, filter, Option, Some, None, refl, sym, ap, subst, ◌∙◌, inl, inr, true≢false}
use Rattle.std.specs.Prelude.{◌==◌, ◌&&◌}
use Rattle.std.specs.List.{cons_option, find, list_any}
use Rattle.std.specs.Option.{IfSome, option_or}
use Rattle.std.specs.Str.{bytes_eq}
use Rattle.std.proofs.lemmas.Bool.{and_from, cases_Bool, eq-eqb, false_from_ne_true}
use Rattle.subject_model.specs.Slot.{Slot}
use Rattle.muen_num.proofs.Each.{mapped}
use Rattle.muen_num.proofs.Members.{any_in}
use Rattle.muen_num.proofs.Lookups.{same_self}
use Rattle.policy_lawful.specs.Lawful.{IsLawful}
use Rattle.policy_lawful.specs.Contents.{Held}
use Rattle.policy_lawful.specs.source.Source.{Source}
use Rattle.policy_lawful.specs.source.Subject.{Subject}
use Rattle.subject_model.specs.DeviceRecord.{DeviceRecord}
use Rattle.subject_model.specs.Run.{turns}
use Rattle.subject_model.specs.TurnLine.{TurnLine}
use Rattle.policy_flows.specs.Flows.{IsClosed, is_member}
use Rattle.policy_flows.proofs.Closures.{same_member}
use Rattle.subject_model.specs.Alone.{TurnAnswer, own_of, solo_turn}
use Rattle.subject_model.specs.Clock.{system}
use Rattle.subject_model.specs.System.{System, inbox_of, line_at, subject_named, system_turn, took, with_own, with_store}
use Rattle.proof_views.specs.Members.{AreListed}
use Rattle.proof_views.proofs.ActiveMembers.{turn_listed}
use Rattle.proof_views.proofs.Kept.{turn_cases}
use Rattle.proof_views.proofs.OwnLines.{found_so, named_so}
use Rattle.proof_views.proofs.Unmoved.{by_raised}
use Rattle.proof_isolation.specs.Agree.{Agree, holds_member, own_slot}
use Rattle.proof_isolation.specs.Alike.{AreAlike}
use Rattle.proof_isolation.specs.MemberLines.{is_of}
use Rattle.proof_isolation.proofs.Alike.{alike_left, alike_right, same_name}
use Rattle.proof_isolation.proofs.CpuTurns.{IsOutside, SameSlots, SameSteps, outside_has, outside_line, steps_both}
use Rattle.proof_isolation.proofs.OutsiderTurns.{outsiders_turn}
use Rattle.proof_isolation.proofs.Stores.{by_store}
use Rattle.proof_isolation.proofs.Turners.{has_turner, turner, turner_acts}

-- ---- the frame stays

pub turn_frame : (p : Source) (cpu tick : ℕ) (y : System) → (system_turn p cpu tick y).state.frame ≡ y.frame
turn_frame p cpu tick y =
    turn_cases p cpu tick y (λ t. t.state.frame ≡ y.frame) refl (λ slot name u st values has.
    let a : TurnAnswer = solo_turn (own_of p u) (record { state = st; msrs = values }) (inbox_of p y u slot.first tick) in
    let own : System = with_own u.name a.state a.msr y in
    (by_raised p u a.raised (took u.name a.taken (with_store a.stored own))).frame ∙ (by_store a.stored own).frame)

-- ---- lines

find_front : (test : TurnLine → Bool) (o : Option TurnLine) (ls : List TurnLine) → find test (cons_option o ls) ≡ option_or (find test (cons_option o [])) (find test ls)
find_front test None ls = refl
find_front test (Some l) ls = elim (test l) as (λ b. cond b (Some l) (find test ls) ≡ option_or (cond b (Some l) None) (find test ls)) [ true ↦ refl | false ↦ refl ]

-- one that prints nothing that passes
find_behind : (test : TurnLine → Bool) (o : Option TurnLine) (ls : List TurnLine) → find test (cons_option o []) ≡ None → find test (cons_option o ls) ≡ find test ls
find_behind test o ls none = find_front test o ls ∙ ap (λ k. option_or k (find test ls)) none

find_both : (test : TurnLine → Bool) (o k : Option TurnLine) (ls ms : List TurnLine) → find test (cons_option o []) ≡ find test (cons_option k []) → find test ls ≡ find test ms → find test (cons_option o ls) ≡ find test (cons_option k ms)
find_both test o k ls ms first rest =
    find_front test o ls ∙ ap (λ x. option_or x (find test ls)) first ∙ ap (option_or (find test (cons_option k []))) rest ∙ sym (find_front test k ms)

-- ---- lines of members

module _ (members : List (List ℕ)) where
  kept_front : (o : Option TurnLine) (ls : List TurnLine) → filter (is_of members) (cons_option o ls) ≡ filter (is_of members) (cons_option o []) ++ filter (is_of members) ls
  kept_front None ls = refl
  kept_front (Some l) ls = elim (is_of members l) as (λ b. cond b (l ∷ filter (is_of members) ls) (filter (is_of members) ls) ≡ cond b (l ∷ []) [] ++ filter (is_of members) ls) [ true ↦ refl | false ↦ refl ]

  kept_behind : (o : Option TurnLine) (ls : List TurnLine) → IfSome o (λ l. is_of members l ≡ false) → filter (is_of members) (cons_option o ls) ≡ filter (is_of members) ls
  kept_behind None ls none = refl
  kept_behind (Some l) ls none = ap (λ b. cond b (l ∷ filter (is_of members) ls) (filter (is_of members) ls)) none

  -- a subject of the first policy has the name of this line
  abbrev IsKnown : Source → TurnLine → Type 0
  IsKnown p l = (s : Subject) × (s.name ≡ l.subject) × (subject_named p s.name ≡ Some s)

  the_one : (o : Option TurnLine) (l : TurnLine) (name : List ℕ) → find (λ k. bytes_eq k.subject name) (cons_option o []) ≡ Some l → o ≡ Some l
  the_one None l name is = absurd (cc (is))
  the_one (Some k) l name is =
      elim (bytes_eq k.subject name) as (λ b. cond b (Some k) None ≡ Some l → Some k ≡ Some l) [ true ↦ λ e. e | false ↦ λ e. absurd (cc (e)) ] is

  itself : (l : TurnLine) (name : List ℕ) → name ≡ l.subject → find (λ k. bytes_eq k.subject name) (l ∷ []) ≡ Some l
  itself l name same = ap (λ b. cond b (Some l) None) (ap (bytes_eq l.subject) same ∙ same_self l.subject)

  -- where each member's line is the same, the line is the same if it is a member's
  module _ (p : Source) (o k : Option TurnLine) (same : (s : Subject) → is_member members s ≡ true → subject_named p s.name ≡ Some s → find (λ l. bytes_eq l.subject s.name) (cons_option o []) ≡ find (λ l. bytes_eq l.subject s.name) (cons_option k [])) where
    from_left : (l : TurnLine) → o ≡ Some l → is_of members l ≡ true → IsKnown p l → k ≡ Some l
    from_left l is of (s, name, found) =
        the_one k l s.name (sym (same s (ap (λ n. list_any (λ m. bytes_eq m n) members) name ∙ of) found) ∙ ap (λ o. find (λ l. bytes_eq l.subject s.name) (cons_option o [])) is ∙ itself l s.name name)

    from_right : (l : TurnLine) → k ≡ Some l → is_of members l ≡ true → IsKnown p l → o ≡ Some l
    from_right l is of (s, name, found) =
        the_one o l s.name (same s (ap (λ n. list_any (λ m. bytes_eq m n) members) name ∙ of) found ∙ ap (λ o. find (λ l. bytes_eq l.subject s.name) (cons_option o [])) is ∙ itself l s.name name)

  same_kept : (p : Source) (o k : Option TurnLine) → IfSome o (λ l. is_of members l ≡ true → IsKnown p l) → IfSome k (λ l. is_of members l ≡ true → IsKnown p l)
      → ((s : Subject) → is_member members s ≡ true → subject_named p s.name ≡ Some s → find (λ l. bytes_eq l.subject s.name) (cons_option o []) ≡ find (λ l. bytes_eq l.subject s.name) (cons_option k []))
      → filter (is_of members) (cons_option o []) ≡ filter (is_of members) (cons_option k [])
  same_kept p None None known known_too same = refl
  same_kept p None (Some l) known known_too same =
      elim (cases_Bool (is_of members l)) [
        | inl t ↦ absurd (let e = from_right p None (Some l) same l refl t (known_too t) in cc (e))
        | inr n ↦ sym (kept_behind (Some l) [] n)
      ]
  same_kept p (Some l) k known known_too same =
      elim (cases_Bool (is_of members l)) [
        | inl t ↦ ap (λ o. filter (is_of members) (cons_option o [])) (sym (from_left p (Some l) k same l refl t (known t)))
        | inr n ↦ kept_behind (Some l) [] n ∙ sym (by_right k refl n)
      ]
    where
      by_right : (o : Option TurnLine) → k ≡ o → is_of members l ≡ false → filter (is_of members) (cons_option o []) ≡ []
      by_right None is n = refl
      by_right (Some m) is n =
          elim (cases_Bool (is_of members m)) [
            | inl t ↦
                let e = from_right p (Some l) k same m is t (subst (λ o. IfSome o (λ l. is_of members l ≡ true → IsKnown p l)) is known_too t) in
                let one : l ≡ m = cc (e) in
                absurd (true≢false (sym (ap (is_of members) one ∙ t) ∙ n))
            | inr out ↦ kept_behind (Some m) [] out
          ]

-- ---- a CPU that holds no member

module _ (p : Source) (lawful : IsLawful p) (members : List (List ℕ)) (closed : IsClosed p members) (cpu tick : ℕ) (y : System) (listed : AreListed p y.active) (empty : holds_member p members cpu ≡ false) where
  nobody : (o : Option (Slot × Subject)) → turner p cpu tick y ≡ o → IsOutside p members cpu tick y o
  nobody None is = tt
  nobody (Some (slot, u)) is =
      let acts = turner_acts p lawful cpu tick y listed slot u (has_turner p cpu tick y slot u is) in
      false_from_ne_true (is_member members u) (λ e.
      true≢false (sym (any_in (λ s. is_member members s && (s.cpu == cpu)) p.subjects u acts.within (and_from (is_member members u) (u.cpu == cpu) e (eq-eqb u.cpu cpu acts.on))) ∙ empty))

  leaves : AreAlike p p members y (system_turn p cpu tick y).state
  leaves = outsiders_turn p lawful members closed cpu tick y listed (outside_has p members cpu tick y (turner p cpu tick y) refl (nobody (turner p cpu tick y) refl))

  quiet : IfSome (system_turn p cpu tick y).line (λ l. is_of members l ≡ false)
  quiet =
      turn_cases p cpu tick y (λ t. IfSome t.line (λ l. is_of members l ≡ false)) tt (λ slot name u st values has.
      mapped (λ (l : TurnLine). is_of members l ≡ false) (line_at tick cpu u.name st.pc) (λ w. outside_has p members cpu tick y (turner p cpu tick y) refl (nobody (turner p cpu tick y) refl) slot name u has)
      (solo_turn (own_of p u) (record { state = st; msrs = values }) (inbox_of p y u slot.first tick)).what)

  silent : (s : Subject) → is_member members s ≡ true → find (λ l. bytes_eq l.subject s.name) (cons_option (system_turn p cpu tick y).line []) ≡ None
  silent s member = outside_line p members cpu tick y (turner p cpu tick y) refl (nobody (turner p cpu tick y) refl) s member

-- ---- all turns of a tick

module _ (p q : Source) (lawful : IsLawful p) (lawful_too : IsLawful q) (members : List (List ℕ)) (closed : IsClosed p members) (closed_too : IsClosed q members) (f g : Held) (r t : DeviceRecord) (ends : ℕ) (agree : Agree members p q f g r t ends) (tick : ℕ) where
  -- the two before some turns
  pub record Ready (y z : System) : Type 0 where
    pub listed : AreListed p y.active
    pub listed_too : AreListed q z.active
    pub alike : AreAlike p q members y z
    pub slots : SameSlots p q members tick y z

  ready_left : (c : ℕ) (y z : System) → holds_member p members c ≡ false → Ready y z → Ready (system_turn p c tick y).state z
  ready_left c y z empty h =
      record {
        listed = turn_listed p c tick y h.listed;
        listed_too = h.listed_too;
        alike = alike_left p q members y (system_turn p c tick y).state z (leaves p lawful members closed c tick y h.listed empty) h.alike;
        slots = λ s w member found found'. ap (λ at. own_slot p s at tick) (turn_frame p c tick y) ∙ h.slots s w member found found';
      }

  ready_right : (c : ℕ) (y z : System) → holds_member q members c ≡ false → Ready y z → Ready y (system_turn q c tick z).state
  ready_right c y z empty h =
      record {
        listed = h.listed;
        listed_too = turn_listed q c tick z h.listed_too;
        alike = alike_right p q members f g r t ends agree y z (system_turn q c tick z).state (leaves q lawful_too members closed_too c tick z h.listed_too empty) h.alike;
        slots = λ s w member found found'. h.slots s w member found found' ∙ sym (ap (λ at. own_slot q w at tick) (turn_frame q c tick z));
      }

  -- what remains of the second's turns behind those of CPUs that hold no member
  record Skipped (y : System) (c : ℕ) (rest order : List ℕ) (z : System) : Type 0 where
    pub remaining : List ℕ
    pub here : System
    pub ready : Ready y here
    pub state : (turns (system q) tick order z).state ≡ (turns (system q) tick (c ∷ remaining) here).state
    pub lines : (s : Subject) → is_member members s ≡ true → subject_named p s.name ≡ Some s → find (λ l. bytes_eq l.subject s.name) (turns (system q) tick order z).lines ≡ find (λ l. bytes_eq l.subject s.name) (turns (system q) tick (c ∷ remaining) here).lines
    pub agrees : rest ≡ filter (holds_member q members) remaining
    pub all : filter (is_of members) (turns (system q) tick order z).lines ≡ filter (is_of members) (turns (system q) tick (c ∷ remaining) here).lines

  silent_right : (c : ℕ) (z : System) → AreListed q z.active → holds_member q members c ≡ false → (s : Subject) → is_member members s ≡ true → subject_named p s.name ≡ Some s → find (λ l. bytes_eq l.subject s.name) (cons_option (system_turn q c tick z).line []) ≡ None
  silent_right c z listed empty s member found =
      let w = agree.there s member found in
      let name = same_name p q s w.0 (agree.each s w.0 member found w.1).own in
      subst (λ n. find (λ l. bytes_eq l.subject n) (cons_option (system_turn q c tick z).line []) ≡ None) (sym name) (silent q lawful_too members closed_too c tick z listed empty w.0 (same_member members s w.0 name member))

  skip : (y : System) (c : ℕ) (rest order : List ℕ) (z : System) → Ready y z → c ∷ rest ≡ filter (holds_member q members) order → Skipped y c rest order z
  skip y c rest [] z h same = absurd (cc (same))
  skip y c rest (d ∷ ds) z h same =
      elim (holds_member q members d) as (λ b. holds_member q members d ≡ b → c ∷ rest ≡ cond b (d ∷ filter (holds_member q members) ds) (filter (holds_member q members) ds) → Skipped y c rest (d ∷ ds) z) [
        | true ↦ λ e k.
            let first : c ≡ d = cc (k) in
            record {
              remaining = ds;
              here = z;
              ready = h;
              state = ap (λ x. (turns (system q) tick (x ∷ ds) z).state) (sym first);
              lines = λ s member found. ap (λ x. find (λ l. bytes_eq l.subject s.name) (turns (system q) tick (x ∷ ds) z).lines) (sym first);
              agrees = cc (k);
              all = ap (λ x. filter (is_of members) (turns (system q) tick (x ∷ ds) z).lines) (sym first);
            }
        | false ↦ λ e k.
            let turned = system_turn q d tick z in
            let later = skip y c rest ds turned.state (ready_right d y z e h) k in
            record {
              remaining = later.remaining;
              here = later.here;
              ready = later.ready;
              state = later.state;
              lines = λ s member found. find_behind (λ l. bytes_eq l.subject s.name) turned.line (turns (system q) tick ds turned.state).lines (silent_right d z h.listed_too e s member found) ∙ later.lines s member found;
              agrees = later.agrees;
              all = kept_behind members turned.line (turns (system q) tick ds turned.state).lines (quiet q lawful_too members closed_too d tick z h.listed_too e) ∙ later.all;
            }
      ] refl same

  -- the two after these turns
  pub record SameTurns (y z : System) (xs ys : List ℕ) : Type 0 where
    pub alike : AreAlike p q members (turns (system p) tick xs y).state (turns (system q) tick ys z).state
    pub lines : (s : Subject) → is_member members s ≡ true → subject_named p s.name ≡ Some s → find (λ l. bytes_eq l.subject s.name) (turns (system p) tick xs y).lines ≡ find (λ l. bytes_eq l.subject s.name) (turns (system q) tick ys z).lines
    -- the lines of all members, in their order
    pub all : filter (is_of members) (turns (system p) tick xs y).lines ≡ filter (is_of members) (turns (system q) tick ys z).lines

  none_left : (ys : List ℕ) (y z : System) → [] ≡ filter (holds_member q members) ys → Ready y z → SameTurns y z [] ys
  none_left [] y z same h = record { alike = h.alike; lines = λ s member found. refl; all = refl }
  none_left (d ∷ ds) y z same h =
      elim (holds_member q members d) as (λ b. holds_member q members d ≡ b → [] ≡ cond b (d ∷ filter (holds_member q members) ds) (filter (holds_member q members) ds) → SameTurns y z [] (d ∷ ds)) [
        | true ↦ λ e k. absurd (cc (k))
        | false ↦ λ e k.
            let turned = system_turn q d tick z in
            let later = none_left ds y turned.state k (ready_right d y z e h) in
            record {
              alike = later.alike;
              lines = λ s member found. later.lines s member found ∙ sym (find_behind (λ l. bytes_eq l.subject s.name) turned.line (turns (system q) tick ds turned.state).lines (silent_right d z h.listed_too e s member found));
              all = later.all ∙ sym (kept_behind members turned.line (turns (system q) tick ds turned.state).lines (quiet q lawful_too members closed_too d tick z h.listed_too e));
            }
      ] refl same

  both_step : (c : ℕ) (y z : System) → Ready y z → SameSteps p q lawful lawful_too members closed closed_too f g r t ends agree tick (system_turn p c tick y) (system_turn q c tick z) × Ready (system_turn p c tick y).state (system_turn q c tick z).state
  both_step c y z h =
      let step = steps_both p q lawful lawful_too members closed closed_too f g r t ends agree tick c y z h.listed h.listed_too h.alike h.slots in (
        step,
        record {
          listed = turn_listed p c tick y h.listed;
          listed_too = turn_listed q c tick z h.listed_too;
          alike = step.alike;
          slots = λ s w member found found'. ap (λ at. own_slot p s at tick) (turn_frame p c tick y) ∙ h.slots s w member found found' ∙ sym (ap (λ at. own_slot q w at tick) (turn_frame q c tick z));
        },
      )

  known : (c : ℕ) (y : System) → IfSome (system_turn p c tick y).line (λ l. is_of members l ≡ true → IsKnown members p l)
  known c y =
      turn_cases p c tick y (λ t. IfSome t.line (λ l. is_of members l ≡ true → IsKnown members p l)) tt (λ slot name u st values has.
      mapped (λ (l : TurnLine). is_of members l ≡ true → IsKnown members p l) (line_at tick c u.name st.pc) (λ w _. (u, refl, found_so p name u has.is))
      (solo_turn (own_of p u) (record { state = st; msrs = values }) (inbox_of p y u slot.first tick)).what)

  known_too : (c : ℕ) (z : System) → IfSome (system_turn q c tick z).line (λ l. is_of members l ≡ true → IsKnown members p l)
  known_too c z =
      turn_cases q c tick z (λ t. IfSome t.line (λ l. is_of members l ≡ true → IsKnown members p l)) tt (λ slot name u st values has.
      mapped (λ (l : TurnLine). is_of members l ≡ true → IsKnown members p l) (line_at tick c u.name st.pc)
      (λ w inside.
      let s = agree.back u inside (found_so q name u has.is) in
      let name = named_so p u.name s.0 s.1 in
      (s.0, name, ap (subject_named p) name ∙ s.1))
      (solo_turn (own_of q u) (record { state = st; msrs = values }) (inbox_of q z u slot.first tick)).what)

  pub turns_both : (xs ys : List ℕ) (y z : System) → filter (holds_member p members) xs ≡ filter (holds_member q members) ys → Ready y z → SameTurns y z xs ys
  turns_both [] ys y z same h = none_left ys y z same h
  turns_both (c ∷ cs) ys y z same h =
      elim (holds_member p members c) as (λ b. holds_member p members c ≡ b → cond b (c ∷ filter (holds_member p members) cs) (filter (holds_member p members) cs) ≡ filter (holds_member q members) ys → SameTurns y z (c ∷ cs) ys) [
        | true ↦ λ e k.
            let at = skip y c (filter (holds_member p members) cs) ys z h k in
            let step = both_step c y at.here at.ready in
            let left = system_turn p c tick y in
            let right = system_turn q c tick at.here in
            let later = turns_both cs at.remaining left.state right.state at.agrees step.1 in
            record {
              alike = subst (AreAlike p q members (turns (system p) tick cs left.state).state) (sym at.state) later.alike;
              lines = λ s member found.
                  find_both (λ l. bytes_eq l.subject s.name) left.line right.line (turns (system p) tick cs left.state).lines (turns (system q) tick at.remaining right.state).lines (step.0.lines s member found) (later.lines s member found)
                  ∙ sym (at.lines s member found);
              all =
                  kept_front members left.line (turns (system p) tick cs left.state).lines
                  ∙ (λ i. same_kept members p left.line right.line (known c y) (known_too c at.here) step.0.lines i ++ later.all i)
                  ∙ sym (kept_front members right.line (turns (system q) tick at.remaining right.state).lines)
                  ∙ sym at.all;
            }
        | false ↦ λ e k.
            let turned = system_turn p c tick y in
            let later = turns_both cs ys turned.state z k (ready_left c y z e h) in
            record {
              alike = later.alike;
              lines = λ s member found. find_behind (λ l. bytes_eq l.subject s.name) turned.line (turns (system p) tick cs turned.state).lines (silent p lawful members closed c tick y h.listed e s member) ∙ later.lines s member found;
              all = kept_behind members turned.line (turns (system p) tick cs turned.state).lines (quiet p lawful members closed c tick y h.listed e) ∙ later.all;
            }
      ] refl same
