-- A member's turn in both of two systems that are alike.
use Rattle.std.proofs.Common.{◌≡◌, ℕ, Bool, true, false, cond, List, [], map, filter, Option, Some, None, refl, sym, ap, subst, ◌∙◌, ◌⊎◌, inl, inr, true≢false}
use Rattle.std.specs.Prelude.{option_and_then, option_map, slice_get, slice_index_or, unwrap_or}
use Rattle.std.specs.Option.{option_map_or}
use Rattle.std.specs.Str.{bytes_eq}
use Rattle.std.proofs.lemmas.Bool.{cases_Bool}
use Rattle.std.proofs.lemmas.Slice.Eq.{bytes_eq-Decides}
use Rattle.subject_model.specs.Step.{Stored}
use Rattle.subject_model.specs.Slot.{Slot}
use Rattle.subject_model.specs.Memory.{over}
use Rattle.subject_model.specs.Pending.{without}
use Rattle.muen_num.proofs.Members.{find_in}
use Rattle.muen_num.specs.declared.mode.EventMode.{EventMode}
use Rattle.muen_num.specs.declared.mode.EventMode.TheVariants.{Asap, Async, Own as OwnMode, Switch}
use Rattle.policy_lawful.proofs.KeptMembers.{members_kept}
use Rattle.policy_lawful.proofs.KeptRules.{rules_of}
use Rattle.policy_lawful.specs.Lawful.{IsLawful}
use Rattle.policy_lawful.specs.Contents.{Held}
use Rattle.policy_lawful.specs.Events.{Raised, event_of}
use Rattle.policy_lawful.specs.Frames.{group_of}
use Rattle.policy_lawful.specs.Thing.{Thing, state}
use Rattle.policy_lawful.specs.Windows.{windows_of}
use Rattle.policy_lawful.specs.source.Source.{Source}
use Rattle.policy_lawful.specs.source.SourceWay.{SourceWay}
use Rattle.policy_lawful.specs.source.Subject.{Subject}
use Rattle.subject_model.specs.DeviceRecord.{DeviceRecord}
use Rattle.subject_model.specs.StatePage.{page_bytes, state_in}
use Rattle.subject_model.specs.SubjectState.{SubjectState}
use Rattle.subject_model.specs.Run.{Turned}
use Rattle.subject_model.specs.TurnLine.{TurnLine}
use Rattle.policy_flows.specs.Flows.{is_member, reaches}
use Rattle.subject_model.specs.Alone.{MsrValues, OwnState, TurnAnswer, own_of, solo_turn, thing_in}
use Rattle.subject_model.specs.System.{System, answered, happens, happens_as, inbox_of, is_shown, line_at, named, raised_by, state_of, subject_named, took, turn_from, with_own, with_store, with_write}
use Rattle.subject_model.specs.Resources.{ports_of}
use Rattle.proof_views.proofs.Kept.{acted}
use Rattle.proof_views.proofs.Unmoved.{by_raised}
use Rattle.proof_isolation.specs.Agree.{Agree, AgreeFor, is_handover, only_to}
use Rattle.proof_isolation.specs.Alike.{AreAlike, is_active}
use Rattle.proof_isolation.proofs.Alike.{same_name, same_ports, same_windows}
use Rattle.proof_isolation.proofs.BothRaise.{SameEvents, change_named_alike, change_thing_alike, plain_active, reached_both, source_rests}
use Rattle.proof_isolation.proofs.Inboxes.{ports_alike, same_turn, shown_alike}
use Rattle.proof_isolation.proofs.Outsiders.{by_raised_event, raised_pends}
use Rattle.proof_isolation.proofs.Stores.{by_store}
use Rattle.proof_isolation.proofs.Turners.{Acts}

-- ---- events that do and don't reach a subject

only_some : (name : List ℕ) (o : Option Raised) (e : Raised) → only_to name o ≡ Some e → o ≡ Some e
only_some name None e h = absurd (cc (h))
only_some name (Some x) e h =
    elim (bytes_eq x.target.subject name) as (λ b. cond b (Some x) None ≡ Some e → Some x ≡ Some e) [ true ↦ λ k. k | false ↦ λ k. absurd (cc (k)) ] h

only_none : (name : List ℕ) (o : Option Raised) → reaches o name ≡ false → only_to name o ≡ None
only_none name None h = refl
only_none name (Some x) h = ap (λ b. cond b (Some x) None) h

not_reached : (name : List ℕ) (o : Option Raised) → only_to name o ≡ None → reaches o name ≡ true → ⊥
not_reached name None none h = absurd (cc (h))
not_reached name (Some x) none h = absurd (let some = sym (ap (λ b. cond b (Some x) None) h) ∙ none in cc (some))

reached_some : (name : List ℕ) (o : Option Raised) → reaches o name ≡ true → (e : Raised) × (o ≡ Some e) × (e.target.subject ≡ name) × (only_to name o ≡ Some e)
reached_some name None h = absurd (cc (h))
reached_some name (Some x) h = (x, refl, (bytes_eq-Decides x.target.subject name).0 h, ap (λ b. cond b (Some x) None) h)

-- by whether it hands over
plain : (p : Source) (name : List ℕ) (o : Option Raised) (y : System) → is_handover o ≡ false → is_active p (happens p o y) name ≡ is_active p y name
plain p name None y h = refl
plain p name (Some e) y h = plain_active p name e.mode e.target y h

switches_some : (o : Option Raised) → is_handover o ≡ true → (e : Raised) × (o ≡ Some e) × (e.mode ≡ Switch)
switches_some None h = absurd (cc (h))
switches_some (Some e) h = by_mode e.mode refl h
  where
    by_mode : (mode : EventMode) → e.mode ≡ mode → is_handover (Some (record { mode = mode; target = e.target })) ≡ true → (x : Raised) × (Some e ≡ Some x) × (x.mode ≡ Switch)
    by_mode Asap is k = absurd (cc (k))
    by_mode Async is k = absurd (cc (k))
    by_mode OwnMode is k = absurd (cc (k))
    by_mode Switch is k = (e, refl, is)

happens_switch : (p : Source) (e : Raised) (y : System) (name : List ℕ) → e.mode ≡ Switch → is_active p (happens p (Some e) y) name ≡ is_active p (happens_as p Switch e.target y) name
happens_switch p e y name mode = ap (λ m. is_active p (happens_as p m e.target y) name) mode

module _ (p q : Source) (lawful : IsLawful p) (lawful_too : IsLawful q) (members : List (List ℕ)) (f g : Held) (r t : DeviceRecord) (ends : ℕ) (agree : Agree members p q f g r t ends) (cpu tick : ℕ) (y z : System) (h : AreAlike p q members y z)
    (slot slot' : Slot) (u v : Subject) (at : Acts p cpu tick y slot u) (at' : Acts q cpu tick z slot' v) (member : is_member members u ≡ true) (is : subject_named q u.name ≡ Some v) where
  pair : AgreeFor members p q f g u v
  pair = agree.each u v member at.named is

  called : u.name ≡ v.name
  called = same_name p q u v pair.own

  -- ---- what it raises

  module _ (s : Subject) (inside : is_member members s ≡ true) (found : subject_named p s.name ≡ Some s) (way : SourceWay) (y' z' : System) (same : y'.active ≡ y.active) (same' : z'.active ≡ z.active) (before : SameEvents p q s.name y' z') where
    -- one that doesn't reach it
    unreached : reaches (event_of p u way) s.name ≡ false → SameEvents p q s.name (happens p (event_of p u way) y') (happens q (event_of q v way) z')
    unreached out =
        let none : only_to s.name (event_of q v way) ≡ None = sym (pair.events s inside way) ∙ only_none s.name (event_of p u way) out in
        let out' : reaches (event_of q v way) s.name ≡ true → ⊥ = not_reached s.name (event_of q v way) none in
        let left = raised_pends p s.name u (Some way) y' (λ w same k. true≢false (sym (ap (λ w. reaches (event_of p u w) s.name) (way_is w same) ∙ k) ∙ out)) in
        let right = raised_pends q s.name v (Some way) z' (λ w same k. out' (ap (λ w. reaches (event_of q v w) s.name) (way_is w same) ∙ k)) in
        record { now = left.now ∙ before.now ∙ sym right.now; later = left.later ∙ before.later ∙ sym right.later; active = by_name out' (cases_Bool (bytes_eq u.name s.name)) }
      where
        way_is : (w : SourceWay) → Some way ≡ Some w → way ≡ w
        way_is w same = cc (same)

        other : (reaches (event_of q v way) s.name ≡ true → ⊥) → (u.name ≡ s.name → ⊥) → is_active p (happens p (event_of p u way) y') s.name ≡ is_active q (happens q (event_of q v way) z') s.name
        other out' ne =
            let w = agree.there s inside found in
            let name = same_name p q s w.0 (agree.each s w.0 inside found w.1).own in
            let in_s = (find_in (λ x. bytes_eq x.name s.name) p.subjects s found).0 in
            let in_w = (find_in (λ x. bytes_eq x.name s.name) q.subjects w.0 w.1).0 in
            let left = by_raised_event p lawful (members_kept p (rules_of lawful).rule_17) u s at.within in_s ne y slot.group at.group at.there at.listed at.acts way (event_of p u way) refl (λ k. true≢false (sym k ∙ out)) y' same in
            let right = by_raised_event q lawful_too (members_kept q (rules_of lawful_too).rule_17) v w.0 at'.within in_w (λ e. ne (called ∙ e ∙ sym name)) z slot'.group at'.group at'.there at'.listed at'.acts way (event_of q v way) refl (λ k. out' (subst (λ n. reaches (event_of q v way) n ≡ true) (sym name) k)) z' same' in
            left ∙ (h s inside found).active ∙ subst (λ n. is_active q z n ≡ is_active q (happens q (event_of q v way) z') n) (sym name) (sym right)

        itself : u.name ≡ s.name → is_active p (happens p (event_of p u way) y') s.name ≡ is_active q (happens q (event_of q v way) z') s.name
        itself e =
            elim (cases_Bool (is_handover (event_of p u way))) as (λ _. is_active p (happens p (event_of p u way) y') s.name ≡ is_active q (happens q (event_of q v way) z') s.name) [
              | inl over ↦
                  let one = switches_some (event_of p u way) over in
                  let two = switches_some (event_of q v way) (sym (pair.switches way) ∙ over) in
                  let left : is_active p (happens p (event_of p u way) y') s.name ≡ false =
                  ap (λ o. is_active p (happens p o y') s.name) one.1 ∙ happens_switch p one.0 y' s.name one.2 ∙ subst (λ n. is_active p (happens_as p Switch one.0.target y') n ≡ false) e (source_rests p lawful cpu tick y slot u at way one.0 one.1 one.2 y' same) in
                  let right : is_active q (happens q (event_of q v way) z') s.name ≡ false =
                  ap (λ o. is_active q (happens q o z') s.name) two.1 ∙ happens_switch q two.0 z' s.name two.2 ∙ subst (λ n. is_active q (happens_as q Switch two.0.target z') n ≡ false) (sym called ∙ e) (source_rests q lawful_too cpu tick z slot' v at' way two.0 two.1 two.2 z' same') in
                  left ∙ sym right
              | inr stays ↦ plain p s.name (event_of p u way) y' stays ∙ before.active ∙ sym (plain q s.name (event_of q v way) z' (sym (pair.switches way) ∙ stays))
            ]

        by_name : (reaches (event_of q v way) s.name ≡ true → ⊥) → (bytes_eq u.name s.name ≡ true) ⊎ (bytes_eq u.name s.name ≡ false) → is_active p (happens p (event_of p u way) y') s.name ≡ is_active q (happens q (event_of q v way) z') s.name
        by_name out' (inl e) = itself ((bytes_eq-Decides u.name s.name).0 e)
        by_name out' (inr e) = other out' (λ k. true≢false (sym ((bytes_eq-Decides u.name s.name).1 k) ∙ e))

    -- one that does
    reached : reaches (event_of p u way) s.name ≡ true → SameEvents p q s.name (happens p (event_of p u way) y') (happens q (event_of q v way) z')
    reached k =
        let e = reached_some s.name (event_of p u way) k in
        let other : event_of q v way ≡ Some e.0 = only_some s.name (event_of q v way) e.0 (sym (pair.events s inside way) ∙ e.3) in
        let both = reached_both p q lawful lawful_too cpu tick y z slot slot' u v at at' way e.0 e.1 other s.name e.2 y' z' same same' before in
        subst (λ o. SameEvents p q s.name (happens p o y') (happens q (event_of q v way) z')) (sym e.1) (subst (λ o. SameEvents p q s.name (happens p (Some e.0) y') (happens q o z')) (sym other) both)

    happens_both : SameEvents p q s.name (happens p (event_of p u way) y') (happens q (event_of q v way) z')
    happens_both =
        elim (cases_Bool (reaches (event_of p u way) s.name)) as (λ _. SameEvents p q s.name (happens p (event_of p u way) y') (happens q (event_of q v way) z')) [ inl k ↦ reached k | inr k ↦ unreached k ]

  raised_both : (s : Subject) → is_member members s ≡ true → subject_named p s.name ≡ Some s → (way : Option SourceWay) (y' z' : System) → y'.active ≡ y.active → z'.active ≡ z.active → SameEvents p q s.name y' z' → SameEvents p q s.name (raised_by p u way y') (raised_by q v way z')
  raised_both s inside found None y' z' same same' before = before
  raised_both s inside found (Some way) y' z' same same' before = happens_both s inside found way y' z' same same' before

  -- ---- its answer

  store_both : (k : Thing) (o : Option (Stored Thing)) (x x' : System) → thing_in x.things k ≡ thing_in x'.things k → thing_in (with_store o x).things k ≡ thing_in (with_store o x').things k
  store_both k None x x' same = same
  store_both k (Some w) x x' same = change_thing_alike w.target k (λ old. over old w.offset w.bytes) x.things x'.things same

  module _ (a : TurnAnswer) where
    own_p : System
    own_p = with_own u.name a.state a.msr y

    own_q : System
    own_q = with_own v.name a.state a.msr z

    taken_p : System
    taken_p = took u.name a.taken (with_store a.stored own_p)

    taken_q : System
    taken_q = took v.name a.taken (with_store a.stored own_q)

    thing_both : (k : Thing) → thing_in y.things k ≡ thing_in z.things k → thing_in (answered p u a y).things k ≡ thing_in (answered q v a z).things k
    unfolding own_p own_q taken_p taken_q
    thing_both k same =
        let own : thing_in own_p.things k ≡ thing_in own_q.things k =
        subst (λ n. thing_in own_p.things k ≡ thing_in (with_own n a.state a.msr z).things k) called (change_thing_alike (state u.name) k (λ _. page_bytes a.state) y.things z.things same) in
        ap (λ things. thing_in things k) (by_raised p u a.raised taken_p).things ∙ store_both k a.stored own_p own_q own ∙ sym (ap (λ things. thing_in things k) (by_raised q v a.raised taken_q).things)

    msrs_both : (k : List ℕ) → named y.msrs k ≡ named z.msrs k → named (answered p u a y).msrs k ≡ named (answered q v a z).msrs k
    unfolding own_p own_q taken_p taken_q
    msrs_both k same =
        let own : named own_p.msrs k ≡ named own_q.msrs k = subst (λ n. named own_p.msrs k ≡ named (with_own n a.state a.msr z).msrs k) called (change_named_alike u.name k (with_write a.msr) y.msrs z.msrs same) in
        ap (λ ms. named ms k) ((by_raised p u a.raised taken_p).msrs ∙ (by_store a.stored own_p).msrs) ∙ own ∙ sym (ap (λ ms. named ms k) ((by_raised q v a.raised taken_q).msrs ∙ (by_store a.stored own_q).msrs))

    events_both : (s : Subject) → is_member members s ≡ true → subject_named p s.name ≡ Some s → SameEvents p q s.name (answered p u a y) (answered q v a z)
    unfolding own_p own_q taken_p taken_q
    events_both s inside found =
        let alike = h s inside found in
        let left = by_store a.stored own_p in
        let right = by_store a.stored own_q in
        let now : named taken_p.now s.name ≡ named taken_q.now s.name =
        subst (λ n. named taken_p.now s.name ≡ named (took n a.taken (with_store a.stored own_q)).now s.name) called
        (change_named_alike u.name s.name (without a.taken) (with_store a.stored own_p).now (with_store a.stored own_q).now (ap (λ sets. named sets s.name) left.now ∙ alike.now ∙ sym (ap (λ sets. named sets s.name) right.now))) in
        let later : named taken_p.later s.name ≡ named taken_q.later s.name =
        subst (λ n. named taken_p.later s.name ≡ named (took n a.taken (with_store a.stored own_q)).later s.name) called
        (change_named_alike u.name s.name (without a.taken) (with_store a.stored own_p).later (with_store a.stored own_q).later (ap (λ sets. named sets s.name) left.later ∙ alike.later ∙ sym (ap (λ sets. named sets s.name) right.later))) in
        let active : is_active p taken_p s.name ≡ is_active q taken_q s.name =
        ap (λ active. option_map_or (λ member. bytes_eq member s.name) (option_and_then (λ g. slice_get active g) (group_of p s.name)) false) ((by_store a.stored own_p).active)
        ∙ alike.active
        ∙ sym (ap (λ active. option_map_or (λ member. bytes_eq member s.name) (option_and_then (λ g. slice_get active g) (group_of q s.name)) false) ((by_store a.stored own_q).active)) in
        raised_both s inside found a.raised taken_p taken_q ((by_store a.stored own_p).active) ((by_store a.stored own_q).active) (record { now = now; later = later; active = active })

    answered_both : AreAlike p q members (answered p u a y) (answered q v a z)
    unfolding own_p own_q taken_p taken_q
    answered_both = λ s inside found.
        let alike = h s inside found in
        let events = events_both s inside found in
        record {
          page = thing_both (state s.name) alike.page;
          msrs = msrs_both s.name alike.msrs;
          now = events.now;
          later = events.later;
          active = events.active;
          shown = λ k e. thing_both k (alike.shown k e);
          ports = λ n e.
              ap (λ ports. slice_get ports n) ((by_raised p u a.raised taken_p).ports ∙ (by_store a.stored own_p).ports)
              ∙ alike.ports n e
              ∙ sym (ap (λ ports. slice_get ports n) ((by_raised q v a.raised taken_q).ports ∙ (by_store a.stored own_q).ports));
        }

  -- ---- its turn

  same_inbox : (first : Bool) (mine : OwnState) → solo_turn (own_of p u) mine (inbox_of p y u first tick) ≡ solo_turn (own_of q v) mine (inbox_of q z v first tick)
  unfolding inbox_of
  same_inbox first mine =
      let alike = h u member at.named in
      let windows = same_windows p q u v pair.own in
      let ports = same_ports p q u v pair.own in
      ap (λ own. solo_turn own mine (inbox_of p y u first tick)) pair.own
      ∙ same_turn (own_of q v) mine (inbox_of p y u first tick) (inbox_of q z v first tick)
      (λ x. shown_alike (windows_of p u) y.things z.things alike.shown x ∙ ap (λ windows. thing_in (filter (λ e. is_shown windows e.0) z.things) x) windows)
      (ports_alike (ports_of p u) y.ports z.ports alike.ports ∙ ap (λ ports. map {B = ℕ × ℕ} (λ n. (n, slice_index_or z.ports n 0)) ports) ports)
      (ap (λ o. unwrap_or o []) (alike.now ∙ ap (named z.now) called))
      (ap (λ o. unwrap_or o []) (alike.later ∙ ap (named z.later) called))
      refl refl

  -- it keeps them alike, and its lines are the same
  pub record SameTurns (a b : Turned System TurnLine) : Type 0 where
    pub alike : AreAlike p q members a.state b.state
    pub line : a.line ≡ b.line

  acted_both : (first : Bool) (st : SubjectState) (values : MsrValues) → SameTurns (acted p cpu tick first u st values y) (acted q cpu tick first v st values z)
  acted_both first st values =
      let mine : OwnState = record { state = st; msrs = values } in
      let answer = same_inbox first mine in
      record {
        alike = subst (λ a. AreAlike p q members (answered p u (solo_turn (own_of p u) mine (inbox_of p y u first tick)) y) (answered q v a z)) answer (answered_both (solo_turn (own_of p u) mine (inbox_of p y u first tick)));
        line = ap (λ a. option_map (line_at tick cpu u.name st.pc) a.what) answer ∙ ap (λ n. option_map (line_at tick cpu n st.pc) (solo_turn (own_of q v) mine (inbox_of q z v first tick)).what) called;
      }

  by_states : (first : Bool) (o : Option SubjectState) (k : Option MsrValues) → SameTurns (turn_from p cpu tick first u o k y) (turn_from q cpu tick first v o k z)
  by_states first (Some st) (Some values) = acted_both first st values
  by_states first (Some st) None = record { alike = h; line = refl }
  by_states first None k = record { alike = h; line = refl }

  pub turns_both : slot.first ≡ slot'.first → SameTurns (turn_from p cpu tick slot.first u (state_of y u.name) (named y.msrs u.name) y) (turn_from q cpu tick slot'.first v (state_of z v.name) (named z.msrs v.name) z)
  turns_both begins =
      let alike = h u member at.named in
      let st : state_of y u.name ≡ state_of z v.name = ap (option_map state_in) (alike.page ∙ ap (λ n. thing_in z.things (state n)) called) in
      let values : named y.msrs u.name ≡ named z.msrs v.name = alike.msrs ∙ ap (named z.msrs) called in
      subst (λ first. SameTurns (turn_from p cpu tick slot.first u (state_of y u.name) (named y.msrs u.name) y) (turn_from q cpu tick first v (state_of z v.name) (named z.msrs v.name) z)) begins
      (subst (λ o. SameTurns (turn_from p cpu tick slot.first u (state_of y u.name) (named y.msrs u.name) y) (turn_from q cpu tick slot.first v o (named z.msrs v.name) z)) st
      (subst (λ k. SameTurns (turn_from p cpu tick slot.first u (state_of y u.name) (named y.msrs u.name) y) (turn_from q cpu tick slot.first v (state_of y u.name) k z)) values
      (by_states slot.first (state_of y u.name) (named y.msrs u.name))))
