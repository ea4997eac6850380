-- Who has the turn of a CPU.
use Rattle.std.proofs.Common.{◌≡◌, ℕ, Bool, true, false, cond, List, Option, Some, None, refl, sym, ap, subst, ◌∙◌}
use Rattle.std.specs.Prelude.{◌==◌, option_and_then, option_map, slice_get}
use Rattle.std.specs.Option.{option_map_or}
use Rattle.std.specs.Str.{bytes_eq}
use Rattle.std.proofs.lemmas.Bool.{eq-eqb, eqb-true}
use Rattle.std.proofs.lemmas.Slice.Eq.{bytes_eq-Decides}
use Rattle.subject_model.specs.Frames.{slot_in}
use Rattle.subject_model.specs.Slot.{Slot}
use Rattle.muen_num.proofs.Members.{In, find_in}
use Rattle.muen_num.proofs.Lookups.{same_self}
use Rattle.policy_lawful.proofs.KeptMajors.{majors_kept}
use Rattle.policy_lawful.proofs.KeptMembers.{members_kept}
use Rattle.policy_lawful.proofs.KeptRules.{rules_of}
use Rattle.policy_lawful.specs.Lawful.{IsLawful}
use Rattle.policy_lawful.specs.Frames.{frames_of, group_of}
use Rattle.policy_lawful.specs.source.Group.{Group}
use Rattle.policy_lawful.specs.source.Source.{Source}
use Rattle.policy_lawful.specs.source.Subject.{Subject}
use Rattle.subject_model.specs.Run.{Turned}
use Rattle.subject_model.specs.TurnLine.{TurnLine}
use Rattle.subject_model.specs.System.{System, idle, named, state_of, subject_named, system_turn, turn_from, turn_in_slot, turn_of_member, turn_of_subject}
use Rattle.proof_views.specs.Members.{AreListed, HasTurn, lists}
use Rattle.proof_views.proofs.OwnLines.{found_so, named_so, turn_on}
use Rattle.proof_views.proofs.SlotCpus.{slot_here}
use Rattle.proof_isolation.specs.Agree.{own_slot}
use Rattle.proof_isolation.specs.Alike.{is_active}
use Rattle.proof_isolation.proofs.Outsiders.{own_group}
use Rattle.proof_isolation.proofs.OutsiderTurns.{there_is}

-- ---- the turn by who has it

abbrev pub turner_member : Source → Slot → Option (List ℕ) → Option (Slot × Subject)
turner_member p slot None = None
turner_member p slot (Some member) = option_map (λ u. (slot, u)) (subject_named p member)

abbrev pub turner_slot : Source → Option Slot → System → Option (Slot × Subject)
turner_slot p None y = None
turner_slot p (Some slot) y = turner_member p slot (slice_get y.active slot.group)

abbrev pub turner : Source → ℕ → ℕ → System → Option (Slot × Subject)
turner p cpu tick y = turner_slot p (slot_in (frames_of p cpu) y.frame tick) y

abbrev pub turn_of : Source → ℕ → ℕ → Option (Slot × Subject) → System → Turned System TurnLine
turn_of p cpu tick None y = idle y
turn_of p cpu tick (Some (slot, u)) y = turn_from p cpu tick slot.first u (state_of y u.name) (named y.msrs u.name) y

by_subject : (p : Source) (cpu tick : ℕ) (slot : Slot) (o : Option Subject) (y : System) → turn_of_subject p cpu tick slot.first o y ≡ turn_of p cpu tick (option_map (λ u. (slot, u)) o) y
by_subject p cpu tick slot None y = refl
by_subject p cpu tick slot (Some u) y = refl

by_member : (p : Source) (cpu tick : ℕ) (slot : Slot) (o : Option (List ℕ)) (y : System) → turn_of_member p cpu tick slot.first o y ≡ turn_of p cpu tick (turner_member p slot o) y
by_member p cpu tick slot None y = refl
by_member p cpu tick slot (Some member) y = by_subject p cpu tick slot (subject_named p member) y

by_slot : (p : Source) (cpu tick : ℕ) (o : Option Slot) (y : System) → turn_in_slot p cpu tick o y ≡ turn_of p cpu tick (turner_slot p o y) y
by_slot p cpu tick None y = refl
by_slot p cpu tick (Some slot) y = by_member p cpu tick slot (slice_get y.active slot.group) y

pub turn_is : (p : Source) (cpu tick : ℕ) (y : System) → system_turn p cpu tick y ≡ turn_of p cpu tick (turner p cpu tick y) y
turn_is p cpu tick y = by_slot p cpu tick (slot_in (frames_of p cpu) y.frame tick) y

-- ---- who it is

-- who has the turn is found so
pub turner_has : (p : Source) (cpu tick : ℕ) (y : System) (slot : Slot) (member : List ℕ) (u : Subject) → HasTurn p cpu tick y slot member u → turner p cpu tick y ≡ Some (slot, u)
turner_has p cpu tick y slot member u has =
    ap (λ o. turner_slot p o y) has.in_slot ∙ ap (turner_member p slot) has.active ∙ ap (option_map {U = Slot × Subject} (λ u. (slot, u))) has.is

-- who is found so has the turn
pub record Turner (p : Source) (cpu tick : ℕ) (y : System) (slot : Slot) (u : Subject) : Type 0 where
  pub member : List ℕ
  pub has : HasTurn p cpu tick y slot member u

subject_has : (p : Source) (cpu tick : ℕ) (y : System) (slot : Slot) (member : List ℕ) → slot_in (frames_of p cpu) y.frame tick ≡ Some slot → slice_get y.active slot.group ≡ Some member → (o : Option Subject) → subject_named p member ≡ o → (at : Slot) (u : Subject)
    → option_map {U = Slot × Subject} (λ u. (slot, u)) o ≡ Some (at, u) → Turner p cpu tick y at u
subject_has p cpu tick y slot member in_slot active None is at u h = absurd (cc (h))
subject_has p cpu tick y slot member in_slot active (Some q) is at u h =
    let same_slot : slot ≡ at = ap (λ (o : Option (Slot × Subject)). option_map_or (λ e. e.0) o slot) h in
    let same : q ≡ u = ap (λ (o : Option (Slot × Subject)). option_map_or (λ e. e.1) o q) h in
    subst (λ s. Turner p cpu tick y s u) same_slot (subst (Turner p cpu tick y slot) same (record { member = member; has = record { in_slot = in_slot; active = active; is = is } }))

member_has : (p : Source) (cpu tick : ℕ) (y : System) (slot : Slot) → slot_in (frames_of p cpu) y.frame tick ≡ Some slot → (o : Option (List ℕ)) → slice_get y.active slot.group ≡ o → (at : Slot) (u : Subject) → turner_member p slot o ≡ Some (at, u) → Turner p cpu tick y at u
member_has p cpu tick y slot in_slot None active at u h = absurd (cc (h))
member_has p cpu tick y slot in_slot (Some member) active at u h = subject_has p cpu tick y slot member in_slot active (subject_named p member) refl at u h

slot_has : (p : Source) (cpu tick : ℕ) (y : System) (o : Option Slot) → slot_in (frames_of p cpu) y.frame tick ≡ o → (at : Slot) (u : Subject) → turner_slot p o y ≡ Some (at, u) → Turner p cpu tick y at u
slot_has p cpu tick y None in_slot at u h = absurd (cc (h))
slot_has p cpu tick y (Some slot) in_slot at u h = member_has p cpu tick y slot in_slot (slice_get y.active slot.group) refl at u h

pub has_turner : (p : Source) (cpu tick : ℕ) (y : System) (at : Slot) (u : Subject) → turner p cpu tick y ≡ Some (at, u) → Turner p cpu tick y at u
has_turner p cpu tick y at u h = slot_has p cpu tick y (slot_in (frames_of p cpu) y.frame tick) refl at u h

-- ---- by its slot, and by whether it is active

-- what is known of who has the turn
pub record Acts (p : Source) (cpu tick : ℕ) (y : System) (slot : Slot) (u : Subject) : Type 0 where
  pub within : In u p.subjects
  pub named : subject_named p u.name ≡ Some u
  pub on : u.cpu ≡ cpu
  pub group : Group
  pub there : slice_get p.scheduling.groups slot.group ≡ Some group
  pub listed : lists u.name group ≡ true
  pub acts : slice_get y.active slot.group ≡ Some u.name
  pub its : group_of p u.name ≡ Some slot.group
  pub slot_is : own_slot p u y.frame tick ≡ Some slot.first
  pub active : is_active p y u.name ≡ true

pub turner_acts : (p : Source) → IsLawful p → (cpu tick : ℕ) (y : System) → AreListed p y.active → (slot : Slot) (u : Subject) → Turner p cpu tick y slot u → Acts p cpu tick y slot u
turner_acts p lawful cpu tick y listed slot u turn =
    let has = turn.has in
    let within = (find_in (λ s. bytes_eq s.name turn.member) p.subjects u has.is).0 in
    let name = named_so p turn.member u has.is in
    let on = turn_on p (majors_kept p (rules_of lawful).rule_16) (members_kept p (rules_of lawful).rule_17) cpu tick y listed slot turn.member u has in
    let at = there_is (slice_get p.scheduling.groups slot.group) cpu (slot_here p cpu (majors_kept p (rules_of lawful).rule_16) y.frame tick slot has.in_slot) in
    let acts : slice_get y.active slot.group ≡ Some u.name = has.active ∙ ap Some (sym name) in
    let listed_it = listed slot.group u.name at.0 acts at.1 in
    let its = own_group p (members_kept p (rules_of lawful).rule_17) u within slot.group at.0 at.1 listed_it in
    record {
      within = within;
      named = found_so p turn.member u has.is;
      on = on;
      group = at.0;
      there = at.1;
      listed = listed_it;
      acts = acts;
      its = its;
      slot_is = ap (λ c. option_and_then (λ slot. cond (option_map_or (λ k. k == slot.group) (group_of p u.name) false) (Some slot.first) None) (slot_in (frames_of p c) y.frame tick)) on
          ∙ ap (option_and_then (λ (slot : Slot). cond (option_map_or (λ k. k == slot.group) (group_of p u.name) false) (Some slot.first) None)) has.in_slot
          ∙ ap (λ o. cond (option_map_or (λ k. k == slot.group) o false) (Some slot.first) None) its
          ∙ ap (λ b. cond b (Some slot.first) None) (eq-eqb slot.group slot.group refl);
      active = ap (λ o. option_map_or (λ member. bytes_eq member u.name) (option_and_then (λ g. slice_get y.active g) o) false) its
          ∙ ap (λ o. option_map_or (λ member. bytes_eq member u.name) o false) acts
          ∙ same_self u.name;
    }

-- and who has its slot and is active has the turn
pub record Turns (p : Source) (s : Subject) (tick : ℕ) (y : System) (first : Bool) : Type 0 where
  pub slot : Slot
  pub begins : slot.first ≡ first
  pub is : turner p s.cpu tick y ≡ Some (slot, s)

by_active : (p : Source) (s : Subject) (tick : ℕ) (y : System) (slot : Slot) → slot_in (frames_of p s.cpu) y.frame tick ≡ Some slot → subject_named p s.name ≡ Some s → (o : Option (List ℕ)) → slice_get y.active slot.group ≡ o → option_map_or (λ member. bytes_eq member s.name) o false ≡ true
    → turner p s.cpu tick y ≡ Some (slot, s)
by_active p s tick y slot in_slot is None at active = absurd (cc (active))
by_active p s tick y slot in_slot is (Some member) at active =
    turner_has p s.cpu tick y slot member s (record { in_slot = in_slot; active = at; is = ap (subject_named p) ((bytes_eq-Decides member s.name).0 active) ∙ is })

by_group : (p : Source) (s : Subject) (tick : ℕ) (y : System) (first : Bool) (slot : Slot) → slot_in (frames_of p s.cpu) y.frame tick ≡ Some slot → subject_named p s.name ≡ Some s → (o : Option ℕ) → group_of p s.name ≡ o
    → cond (option_map_or (λ k. k == slot.group) o false) (Some slot.first) None ≡ Some first → option_map_or (λ member. bytes_eq member s.name) (option_and_then (λ g. slice_get y.active g) o) false ≡ true → Turns p s tick y first
by_group p s tick y first slot in_slot is None at mine active = absurd (cc (mine))
by_group p s tick y first slot in_slot is (Some k) at mine active =
    elim (k == slot.group) as (λ b. (k == slot.group) ≡ b → cond b (Some slot.first) None ≡ Some first → Turns p s tick y first) [
      | true ↦ λ e h.
          let same : k ≡ slot.group = eqb-true k slot.group e in
          record { slot = slot; begins = cc (h); is = by_active p s tick y slot in_slot is (slice_get y.active slot.group) refl (subst (λ g. option_map_or (λ member. bytes_eq member s.name) (slice_get y.active g) false ≡ true) same active) }
      | false ↦ λ _ h. absurd (cc (h))
    ] refl mine

by_own_slot : (p : Source) (s : Subject) (tick : ℕ) (y : System) (first : Bool) (o : Option Slot) → slot_in (frames_of p s.cpu) y.frame tick ≡ o → subject_named p s.name ≡ Some s
    → option_and_then (λ (slot : Slot). cond (option_map_or (λ k. k == slot.group) (group_of p s.name) false) (Some slot.first) None) o ≡ Some first → is_active p y s.name ≡ true → Turns p s tick y first
by_own_slot p s tick y first None in_slot is mine active = absurd (cc (mine))
by_own_slot p s tick y first (Some slot) in_slot is mine active = by_group p s tick y first slot in_slot is (group_of p s.name) refl mine active

pub has_its_turn : (p : Source) (s : Subject) (tick : ℕ) (y : System) (first : Bool) → subject_named p s.name ≡ Some s → own_slot p s y.frame tick ≡ Some first → is_active p y s.name ≡ true → Turns p s tick y first
has_its_turn p s tick y first is mine active = by_own_slot p s tick y first (slot_in (frames_of p s.cpu) y.frame tick) refl is mine active
