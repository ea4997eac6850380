-- Who has the turn of a CPU is a subject of that CPU, and so is whom its line names.
use Rattle.std.proofs.Common.{◌≡◌, ℕ, Bool, true, false, List, [], ◌∷◌, Option, Some, None, refl, sym, ap, subst, ◌∙◌, inl, inr}
use Rattle.std.specs.Prelude.{◌==◌, nat_lt, length, option_map, slice_get}
use Rattle.std.specs.Option.{IfSome, option_map_or}
use Rattle.std.specs.List.{list_all, list_any}
use Rattle.std.specs.Str.{bytes_eq}
use Rattle.std.proofs.lemmas.Bool.{and_parts, eqb-false, eqb-true, false_from_ne_true, or_cases}
use Rattle.std.proofs.lemmas.Slice.Eq.{bytes_eq-Decides}
use Rattle.subject_model.specs.Slot.{Slot}
use Rattle.muen_num.proofs.Lists.{passes_at}
use Rattle.policy_lawful.proofs.KeptMajors.{MajorsKept}
use Rattle.policy_lawful.proofs.KeptMembers.{MembersKept}
use Rattle.policy_lawful.specs.Rules.{is_group, is_on, subject_cpu}
use Rattle.policy_lawful.specs.source.Group.{Group}
use Rattle.policy_lawful.specs.source.Source.{Source}
use Rattle.policy_lawful.specs.source.Subject.{Subject}
use Rattle.subject_model.specs.TurnLine.{TurnLine}
use Rattle.subject_model.specs.TurnAction.{TurnAction}
use Rattle.subject_model.specs.Alone.{own_of, solo_turn}
use Rattle.subject_model.specs.System.{System, inbox_of, line_at, subject_named, system_turn}
use Rattle.proof_views.specs.Members.{AreListed, HasTurn, lists}
use Rattle.muen_num.proofs.Each.{mapped}
use Rattle.muen_num.proofs.Lookups.{found_passes}
use Rattle.proof_views.proofs.Kept.{turn_cases}
use Rattle.proof_views.proofs.SlotCpus.{slot_here}

-- what holds of each of a list holds of one that it lists
pub listed_passes : {K : Type 0} (same : K → K → Bool) → ((a b : K) → same a b ≡ true → a ≡ b) → (test : K → Bool) (ks : List K) (k : K) → list_all test ks ≡ true → list_any (λ n. same n k) ks ≡ true → test k ≡ true
listed_passes same is test [] k all h = absurd (cc (h))
listed_passes same is test (n ∷ ns) k all h =
    let parts = and_parts (test n) (list_all test ns) all in
    elim (or_cases (same n k) (list_any (λ n. same n k) ns) h) as (λ _. test k ≡ true) [
      | inl e ↦ subst (λ m. test m ≡ true) (is n k e) parts.0
      | inr later ↦ listed_passes same is test ns k parts.1 later
    ]

-- who has the turn is a subject of the CPU
module _ (p : Source) (majors : MajorsKept p) (members : MembersKept p) (cpu : ℕ) where
  in_group : (g : Group) → is_group p g ≡ true → g.cpu ≡ cpu → (member : List ℕ) → lists member g ≡ true → (q : Subject) → subject_named p member ≡ Some q → q.cpu ≡ cpu
  in_group g kept on member listed q is =
      let names = (and_parts (nat_lt 0 (length g.subjects)) (list_all (λ name. is_on (subject_cpu p name) g.cpu) g.subjects) kept).1 in
      let its = listed_passes bytes_eq (λ a b. (bytes_eq-Decides a b).0) (λ name. is_on (subject_cpu p name) g.cpu) g.subjects member names listed in
      eqb-true q.cpu g.cpu (subst (λ o. is_on (option_map (λ s. s.cpu) o) g.cpu ≡ true) is its) ∙ on

  in_active : (y : System) → AreListed p y.active → (group : ℕ) (o : Option Group) → slice_get p.scheduling.groups group ≡ o → option_map_or (λ g. g.cpu == cpu) o false ≡ true → (member : List ℕ) → slice_get y.active group ≡ Some member → (q : Subject)
      → subject_named p member ≡ Some q → q.cpu ≡ cpu
  in_active y h group None there on member active q is = absurd (cc (on))
  in_active y h group (Some g) there on member active q is =
      in_group g (passes_at (is_group p) p.scheduling.groups group g members.groups there) (eqb-true g.cpu cpu on) member (h group member g active there) q is

  pub turn_on : (tick : ℕ) (y : System) → AreListed p y.active → (slot : Slot) (member : List ℕ) (q : Subject) → HasTurn p cpu tick y slot member q → q.cpu ≡ cpu
  turn_on tick y h slot member q has =
      in_active y h slot.group (slice_get p.scheduling.groups slot.group) refl (slot_here p cpu majors y.frame tick slot has.in_slot) member has.active q has.is

-- the name of who has it is that under which it was found
pub named_so : (p : Source) (member : List ℕ) (q : Subject) → subject_named p member ≡ Some q → q.name ≡ member
named_so p member q is = (bytes_eq-Decides q.name member).0 (found_passes (λ s. bytes_eq s.name member) p.subjects q is)

pub found_so : (p : Source) (member : List ℕ) (q : Subject) → subject_named p member ≡ Some q → subject_named p q.name ≡ Some q
found_so p member q is = ap (subject_named p) (named_so p member q is) ∙ is

-- a subject of another CPU has another name
pub other_name : (p : Source) (s q : Subject) (member : List ℕ) → subject_named p s.name ≡ Some s → subject_named p member ≡ Some q → (q.cpu == s.cpu) ≡ false → q.name ≡ s.name → ⊥
other_name p s q member is found apart same =
    let both : Some q ≡ Some s = sym (found_so p member q found) ∙ ap (subject_named p) same ∙ is in
    let one : q ≡ s = cc (both) in
    eqb-false q.cpu s.cpu apart (ap (λ q. q.cpu) one)

-- its line isn't of a subject of another name
pub not_of : (tick cpu pc : ℕ) (name other : List ℕ) → (other ≡ name → ⊥) → (o : Option TurnAction) → IfSome (option_map (line_at tick cpu other pc) o) (λ l. bytes_eq l.subject name ≡ false)
not_of tick cpu pc name other ne o =
    mapped (λ (l : TurnLine). bytes_eq l.subject name ≡ false) (line_at tick cpu other pc)
    (λ w. false_from_ne_true (bytes_eq other name) (λ e. ne ((bytes_eq-Decides other name).0 e))) o

-- no line of a subject comes on another CPU
pub other_line : (p : Source) → MajorsKept p → MembersKept p → (s : Subject) → subject_named p s.name ≡ Some s → (cpu tick : ℕ) (y : System) → AreListed p y.active → (cpu == s.cpu) ≡ false
    → IfSome (system_turn p cpu tick y).line (λ l. bytes_eq l.subject s.name ≡ false)
other_line p majors members s is cpu tick y h apart =
    turn_cases p cpu tick y (λ t. IfSome t.line (λ l. bytes_eq l.subject s.name ≡ false)) tt (λ slot member q st values has.
    let on = turn_on p majors members cpu tick y h slot member q has in
    not_of tick cpu st.pc s.name q.name (other_name p s q member is has.is (ap (λ c. c == s.cpu) on ∙ apart))
    (solo_turn (own_of p q) (record { state = st; msrs = values }) (inbox_of p y q slot.first tick)).what)
