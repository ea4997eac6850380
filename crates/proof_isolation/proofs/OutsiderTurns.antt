-- The turn of a subject outside a closed set leaves all that members have and see.
use Rattle.std.proofs.Common.{◌≡◌, ℕ, true, false, List, [], ◌∷◌, ◌++◌, Option, Some, None, refl, sym, ap, subst, ◌∙◌, inl, inr}
use Rattle.std.specs.Prelude.{◌==◌, ◌&&◌, not, slice_get}
use Rattle.std.specs.List.{list_any}
use Rattle.std.specs.Option.{IfSome, option_map_or}
use Rattle.std.specs.Str.{bytes_eq}
use Rattle.std.proofs.lemmas.Bool.{and_parts, false_from_ne_true, true_from_ne_false}
use Rattle.std.proofs.lemmas.Slice.Eq.{bytes_eq-Decides}
use Rattle.subject_model.specs.Step.{Stored}
use Rattle.subject_model.specs.Memory.{over}
use Rattle.muen_num.proofs.Members.{In, any_in, any_some, find_in}
use Rattle.muen_num.proofs.SearchLaws.{none_both, unless_none}
use Rattle.muen_num.specs.Search.{first_after, first_in, unless}
use Rattle.muen_num.specs.declared.access.AccessKind.TheVariants.{Write}
use Rattle.policy_lawful.proofs.KeptMajors.{majors_kept}
use Rattle.policy_lawful.proofs.KeptMembers.{members_kept}
use Rattle.policy_lawful.proofs.KeptRules.{rules_of}
use Rattle.policy_lawful.specs.Domains.{is_monitor, monitor_offence, offence_24}
use Rattle.policy_lawful.specs.Lawful.{IsLawful}
use Rattle.policy_lawful.specs.Offences.{two}
use Rattle.policy_lawful.specs.Rules.{is_on, subject_cpu}
use Rattle.policy_lawful.specs.Events.{event_of}
use Rattle.policy_lawful.specs.Thing.{Thing, same_thing, state}
use Rattle.policy_lawful.specs.Windows.{windows_of}
use Rattle.policy_lawful.specs.Rights.{allows, may_execute}
use Rattle.policy_lawful.specs.source.Group.{Group}
use Rattle.policy_lawful.specs.source.Source.{Source}
use Rattle.policy_lawful.specs.source.SourceWay.{SourceWay}
use Rattle.policy_lawful.specs.source.Subject.{Subject}
use Rattle.subject_model.specs.StatePage.{page_bytes}
use Rattle.subject_model.specs.SubjectState.{SubjectState}
use Rattle.subject_model.specs.Slot.{Slot}
use Rattle.policy_flows.proofs.EventWays.{way_counts}
use Rattle.policy_flows.specs.Flows.{IsClosed, by_change, by_sight, is_member, reaches}
use Rattle.subject_model.specs.Alone.{Inbox, MsrValues, OwnState, TurnAnswer, own_of, solo_turn, thing_in}
use Rattle.subject_model.specs.System.{System, answered, inbox_of, is_shown, named, subject_named, system_turn, took, with_own, with_store}
use Rattle.subject_model.proofs.DeviceWrites.{IsWritable}
use Rattle.subject_model.proofs.KeyLaws.{things_apart, value_other}
use Rattle.policy_lawful.proofs.SameThings.{same_things}
use Rattle.proof_views.specs.Members.{AreListed, HasTurn, lists}
use Rattle.proof_views.proofs.Kept.{acted, turn_cases}
use Rattle.proof_views.proofs.OwnLines.{named_so}
use Rattle.proof_views.proofs.OwnStates.{other_answer}
use Rattle.proof_views.proofs.SlotCpus.{slot_here}
use Rattle.proof_views.proofs.Unmoved.{by_raised}
use Rattle.proof_views.proofs.Untouched.{turn_elsewhere, windows_spare}
use Rattle.proof_views.proofs.ThingsStay.{stored_through}
use Rattle.proof_isolation.specs.Alike.{AreAlike, AreAlikeFor}
use Rattle.proof_isolation.specs.Laws.{OutsidersChangeNothing}
use Rattle.proof_isolation.proofs.Conflicts.{BothPages, flows_by, met, none_in}
use Rattle.proof_isolation.proofs.Outsiders.{Named, by_cpu, no_flow, other_names, raised_active, raised_pends, took_pends}
use Rattle.proof_isolation.proofs.Stores.{by_store}
use Rattle.proof_isolation.proofs.Windows.{IsOn, window_is}

-- ---- rule 24: whom a subject monitors is declared

after_in : {X O : Type 0} (at : List X → X → Option O) (front xs : List X) → first_after at front xs ≡ None → (x : X) → In x xs → (before : List X) × (at before x ≡ None)
after_in at front [] none x h = absurd h
after_in at front (y ∷ ys) none x (inl same) = (front, subst (λ z. at front z ≡ None) same (none_both (at front y) (first_after at (front ++ y ∷ []) ys) none).0)
after_in at front (y ∷ ys) none x (inr h) = after_in at (front ++ y ∷ []) ys (none_both (at front y) (first_after at (front ++ y ∷ []) ys) none).1 x h

monitors_rule : (p : Source) → offence_24 p ≡ None → first_in (monitor_offence p) p.subjects ≡ None
unfolding offence_24
monitors_rule p h = h

watched : (p : Source) → IsLawful p → (s : Subject) → In s p.subjects → (name : List ℕ) → list_any (λ m. bytes_eq m.subject name) s.monitors ≡ true → Named p name
watched p lawful s in_s name seen =
    let own = none_in (monitor_offence p) p.subjects (monitors_rule p (rules_of lawful).rule_24) s in_s in
    let m = any_some (λ m. bytes_eq m.subject name) s.monitors seen in
    let kept = after_in (λ before m. unless (is_monitor p s before m) (two s.name m.subject)) [] s.monitors own m.one m.within in
    let all = unless_none (is_monitor p s kept.0 m.one) (two s.name m.one.subject) kept.1 in
    let first = and_parts (not (bytes_eq m.one.subject s.name) && is_on (subject_cpu p m.one.subject) s.cpu && not (list_any (λ b. bytes_eq b.subject m.one.subject) kept.0)) (not (may_execute m.one.rights)) all in
    let second = and_parts (not (bytes_eq m.one.subject s.name) && is_on (subject_cpu p m.one.subject) s.cpu) (not (list_any (λ b. bytes_eq b.subject m.one.subject) kept.0)) first.0 in
    let on = (and_parts (not (bytes_eq m.one.subject s.name)) (is_on (subject_cpu p m.one.subject) s.cpu) second.0).1 in
    by_cpu p name s.cpu (subject_named p name) refl (subst (λ n. is_on (subject_cpu p n) s.cpu ≡ true) ((bytes_eq-Decides m.one.subject name).0 m.passes) on)

-- ---- the answer of an outsider

module _ (p : Source) (lawful : IsLawful p) (members : List (List ℕ)) (closed : IsClosed p members) (u s : Subject) (in_u : In u p.subjects) (in_s : In s p.subjects) (member : is_member members s ≡ true) (outside : is_member members u ≡ false) where
  apart : u.name ≡ s.name → ⊥
  apart = other_names p members closed u s in_u in_s member outside

  -- both can't have one of whom the outsider changes the state, and whom the member sees
  not_both : (x : Thing) → BothPages u s x → ⊥
  not_both x both =
      let n = watched p lawful s in_s both.name both.seen in
      let sees : by_sight n.one s ≡ true = subst (λ name. list_any (λ m. bytes_eq m.subject name) s.monitors ≡ true) (sym n.called) both.seen in
      let changes : by_change u n.one ≡ true = subst (λ name. list_any (λ m. bytes_eq m.subject name && allows m.rights Write) u.monitors ≡ true) (sym n.called) both.changed in
      let inside : is_member members n.one ≡ true = true_from_ne_false (is_member members n.one) (λ e. no_flow p members closed n.one s n.within in_s member e (flows_by p n.one s (inr (inr (inr (inr (inl sees))))))) in
      no_flow p members closed u n.one in_u n.within inside outside (flows_by p u n.one (inr (inr (inr (inr (inr changes))))))

  -- what the member sees the outsider can't write
  unseen : (x : Thing) → is_shown (windows_of p s) x ≡ true → IsWritable (windows_of p u) x → ⊥
  unseen x shown w =
      let v = any_some (λ w. same_thing w.thing x) (windows_of p s) shown in
      let same : w.window.thing ≡ v.one.thing = w.shows ∙ sym (same_things v.one.thing x v.passes) in
      elim (met p lawful u s in_u in_s apart w.window v.one w.its v.within w.writes same) as (λ _. ⊥) [ inl flows ↦ no_flow p members closed u s in_u in_s member outside flows | inr both ↦ not_both w.window.thing both ]

  -- nor is it the outsider's own page
  unwatched : (x : Thing) → is_shown (windows_of p s) x ≡ true → state u.name ≡ x → ⊥
  unwatched x shown is =
      let v = any_some (λ w. same_thing w.thing x) (windows_of p s) shown in
      let on = subst (IsOn p s v.one.rights) (same_things v.one.thing x v.passes ∙ sym is) (window_is p s v.one v.within) in
      no_flow p members closed u s in_u in_s member outside (flows_by p u s (inr (inr (inr (inr (inl (any_in (λ m. bytes_eq m.subject u.name) s.monitors on.monitor on.its ((bytes_eq-Decides on.monitor.subject u.name).1 on.of))))))))

  store_unseen : (x : Thing) → is_shown (windows_of p s) x ≡ true → (o : Option (Stored Thing)) → IfSome o (λ w. IsWritable (windows_of p u) w.target) → (y : System) → thing_in (with_store o y).things x ≡ thing_in y.things x
  store_unseen x shown None h y = refl
  store_unseen x shown (Some w) h y =
      value_other same_thing w.target x (λ old. over old w.offset w.bytes) y.things (things_apart w.target x (λ e. unseen x shown (subst (IsWritable (windows_of p u)) e h)))

  no_event : (w : SourceWay) → reaches (event_of p u w) s.name ≡ true → ⊥
  no_event w h = no_flow p members closed u s in_u in_s member outside (flows_by p u s (inr (inr (inl (way_counts p u s w h)))))

  pub outsider_answer : (mine : OwnState) (inbox : Inbox) (y : System) (k : ℕ) (g : Group) → slice_get p.scheduling.groups k ≡ Some g → lists u.name g ≡ true → slice_get y.active k ≡ Some u.name
      → AreAlikeFor p p s y (answered p u (solo_turn (own_of p u) mine inbox) y)
  unfolding own_of
  outsider_answer mine inbox y k g there listed acts =
      let a : TurnAnswer = solo_turn (own_of p u) mine inbox in
      let own : System = with_own u.name a.state a.msr y in
      let stored : System = with_store a.stored own in
      let taken : System = took u.name a.taken stored in
      let rest = by_raised p u a.raised taken in
      let left = by_store a.stored own in
      let writes = stored_through (own_of p u) mine inbox in
      let spared = windows_spare p s.name u (false_from_ne_true (by_change u s) (λ e. no_flow p members closed u s in_u in_s member outside (flows_by p u s (inr (inr (inr (inr (inr e)))))))) in
      let stays = other_answer p s u a y apart (turn_elsewhere s (own_of p u) mine inbox spared) in
      let pending = raised_pends p s.name u a.raised taken (λ w _. no_event w) in
      let before = took_pends p s.name u.name a.taken stored apart in
      record {
        page = sym stays.page;
        msrs = sym stays.msrs;
        now = sym (pending.now ∙ before.now ∙ ap (λ sets. named sets s.name) (left.now));
        later = sym (pending.later ∙ before.later ∙ ap (λ sets. named sets s.name) (left.later));
        active = sym (raised_active p lawful (members_kept p (rules_of lawful).rule_17) u s in_u in_s apart y k g there listed acts a.raised no_event taken (left.active));
        shown = λ x shown. sym (ap (λ things. thing_in things x) rest.things ∙ store_unseen x shown a.stored writes own ∙ value_other same_thing (state u.name) x (λ _. page_bytes a.state) y.things (things_apart (state u.name) x (unwatched x shown)));
        ports = λ n _. ap (λ ports. slice_get ports n) (sym (rest.ports ∙ left.ports));
      }

-- ---- the turn

-- all stays
same_system : (p : Source) (s : Subject) (y : System) → AreAlikeFor p p s y y
same_system p s y = record { page = refl; msrs = refl; now = refl; later = refl; active = refl; shown = λ x _. refl; ports = λ n _. refl }

pub there_is : (o : Option Group) (cpu : ℕ) → option_map_or (λ g. g.cpu == cpu) o false ≡ true → (g : Group) × (o ≡ Some g)
there_is None cpu h = absurd (cc (h))
there_is (Some g) cpu h = (g, refl)

module _ (p : Source) (lawful : IsLawful p) (members : List (List ℕ)) (closed : IsClosed p members) (cpu tick : ℕ) (y : System) (listed : AreListed p y.active) where
  pub outsider_acted : (slot : Slot) (name : List ℕ) (u : Subject) (st : SubjectState) (values : MsrValues) → HasTurn p cpu tick y slot name u → is_member members u ≡ false → AreAlike p p members y (acted p cpu tick slot.first u st values y).state
  outsider_acted slot name u st values has outside = λ s member is.
      let in_s = (find_in (λ q. bytes_eq q.name s.name) p.subjects s is).0 in
      let in_u = (find_in (λ q. bytes_eq q.name name) p.subjects u has.is).0 in
      let at = there_is (slice_get p.scheduling.groups slot.group) cpu (slot_here p cpu (majors_kept p (rules_of lawful).rule_16) y.frame tick slot has.in_slot) in
      let acts : slice_get y.active slot.group ≡ Some u.name = has.active ∙ ap Some (sym (named_so p name u has.is)) in
      outsider_answer p lawful members closed u s in_u in_s member outside (record { state = st; msrs = values }) (inbox_of p y u slot.first tick) y slot.group at.0 at.1 (listed slot.group u.name at.0 acts at.1) acts

  -- of a CPU where no member has the turn
  pub outsiders_turn : ((slot : Slot) (name : List ℕ) (u : Subject) → HasTurn p cpu tick y slot name u → is_member members u ≡ false) → AreAlike p p members y (system_turn p cpu tick y).state
  outsiders_turn outside =
      turn_cases p cpu tick y (λ t. AreAlike p p members y t.state) (λ s member is. same_system p s y) (λ slot name u st values has. outsider_acted slot name u st values has (outside slot name u has))

-- the same with all that it stands on
pub outsiders_leave : OutsidersChangeNothing
outsiders_leave p members cpu tick y lawful closed listed outside = outsiders_turn p lawful members closed cpu tick y listed outside
