-- The views of members of a closed set are the same in two systems that agree on it.
use Rattle.std.proofs.Common.{◌≡◌, ℕ, zero, suc, ◌<◌, ◌≤◌, Bool, true, false, cond, List, [], ◌∷◌, ◌++◌, map, filter, min, Option, Some, None, refl, sym, ap, subst, ◌∙◌, inl, inr, arith}
use Rattle.std.specs.Prelude.{◌==◌, ◌&&◌, codes, option_and_then, option_map, slice_get, unwrap_or}
use Rattle.std.specs.List.{find, list_any}
use Rattle.std.specs.Option.{option_map_or}
use Rattle.std.specs.Str.{bytes_eq}
use Rattle.std.proofs.lemmas.Bool.{and_from, and_parts, eq-eqb, eqb-true, true_from_ne_false}
use Rattle.std.proofs.lemmas.List.{length-map}
use Rattle.std.proofs.lemmas.List.Elements.{filter-append, recursion_from_All}
use Rattle.std.proofs.lemmas.Option.{slice_get-map, slice_get_within}
use Rattle.std.proofs.lemmas.Slice.Eq.{bytes_eq-Decides}
use Rattle.subject_model.specs.Resources.{msrs_of}
use Rattle.subject_model.specs.Frames.{first_frame, frame_at_tick}
use Rattle.subject_model.specs.frame_at.FrameAt.{FrameAt}
use Rattle.muen_num.proofs.NumbersBelow.{length_numbers, number_at}
use Rattle.muen_num.proofs.Members.{In, any_in, any_some, find_in, index_in}
use Rattle.muen_num.specs.Range.{numbers_below}
use Rattle.muen_num.specs.declared.access.AccessKind.TheVariants.{Write}
use Rattle.policy_lawful.proofs.KeptMembers.{members_kept}
use Rattle.policy_lawful.proofs.KeptRules.{rules_of}
use Rattle.policy_lawful.proofs.UniqueNames.{unique}
use Rattle.policy_lawful.proofs.WindowsByIndex.{found_by_name}
use Rattle.policy_lawful.specs.Lawful.{IsLawful}
use Rattle.policy_lawful.specs.Rules.{major_offence, majors_of, offence_16, tau0_offence, writes}
use Rattle.policy_lawful.specs.Contents.{Held}
use Rattle.policy_lawful.specs.Events.{irq_of}
use Rattle.policy_lawful.specs.Frames.{first_member, group_of}
use Rattle.policy_lawful.specs.Thing.{Thing, region, same_thing, state}
use Rattle.policy_lawful.specs.Windows.{Window, windows_of}
use Rattle.policy_lawful.specs.Rights.{allows}
use Rattle.policy_lawful.specs.source.Group.{Group}
use Rattle.policy_lawful.specs.source.Source.{Source}
use Rattle.policy_lawful.specs.source.Subject.{Subject}
use Rattle.policy_lawful.specs.source.Tau0.{Tau0}
use Rattle.subject_model.specs.DeviceRecord.{DeviceRecord, NamedInput, port_input, memory_input, irq_input, dma_input}
use Rattle.subject_model.specs.StatePage.{page_bytes, state_in}
use Rattle.subject_model.specs.States.{started}
use Rattle.subject_model.specs.Run.{all_taken, begun, run_to, turns}
use Rattle.policy_flows.specs.Flows.{IsClosed, by_plan, closure_of, is_member}
use Rattle.policy_flows.proofs.Closures.{closure_is_least, same_member}
use Rattle.muen_num.proofs.SearchLaws.{none_both, unless_none}
use Rattle.muen_num.specs.Search.{first_in}
use Rattle.policy_lawful.specs.Offences.{two}
use Rattle.proof_isolation.proofs.Conflicts.{flows_by}
use Rattle.proof_isolation.proofs.Outsiders.{no_flow}
use Rattle.subject_model.proofs.DeviceWrites.{line_things}
use Rattle.subject_model.proofs.StartLists.{named_map, state_started}
use Rattle.subject_model.specs.Alone.{own_of, thing_in}
use Rattle.subject_model.specs.Clock.{begins, inputs_at, line_writes, order_at, pick_in, run_of, system, takes, ticks_of_majors}
use Rattle.subject_model.specs.System.{System, is_shown, named, start_of, subject_named, system_turn}
use Rattle.subject_model.specs.View.{ran_through, seen_in, through, view_of}
use Rattle.proof_views.specs.AloneRun.{before}
use Rattle.proof_views.proofs.ActiveMembers.{begun_listed}
use Rattle.proof_views.proofs.Unmoved.{by_irq}
use Rattle.proof_isolation.specs.Agree.{Agree, AgreeOnFrames, WritesTheSame, chosen, holds_member, is_first, own_slot, plain_frame, input_reaches_member, unchosen}
use Rattle.proof_isolation.specs.Alike.{AreAlike, AreAlikeFor, AreSameViews, is_active}
use Rattle.proof_isolation.specs.MemberLines.{is_of}
use Rattle.proof_isolation.specs.Laws.{MembersSeeTheSame, SetsOfFlowsAreEnough}
use Rattle.proof_isolation.proofs.Alike.{same_cpu, same_entry, same_name, same_windows}
use Rattle.proof_isolation.proofs.CpuTurns.{SameSlots}
use Rattle.proof_isolation.proofs.Inboxes.{shown_alike}
use Rattle.proof_isolation.proofs.MergedInputs.{inputs_both}
use Rattle.proof_isolation.proofs.MergedTurns.{Ready, turn_frame, turns_both}

-- ---- at the start

first_of : Group → List ℕ
first_of g = first_member g.subjects

first_by : (name : List ℕ) (o : Option Group) → option_map_or (λ member. bytes_eq member name) (option_map first_of o) false ≡ option_map_or (λ g. bytes_eq (first_member g.subjects) name) o false
unfolding first_of
first_by name None = refl
first_by name (Some g) = refl

first_active : (p : Source) (name : List ℕ) (groups : List Group) (o : Option ℕ) → option_map_or (λ member. bytes_eq member name) (option_and_then (λ k. slice_get (map first_of groups) k) o) false ≡ option_map_or (λ g. bytes_eq (first_member g.subjects) name) (option_and_then (λ k. slice_get groups k) o) false
first_active p name groups None = refl
first_active p name groups (Some k) = ap (λ o. option_map_or (λ member. bytes_eq member name) o false) (slice_get-map first_of groups k) ∙ first_by name (slice_get groups k)

active_at_start : (p : Source) (f : Held) (name : List ℕ) → is_active p (start_of p f) name ≡ is_first p name
unfolding start_of first_of
active_at_start p f name = first_active p name p.scheduling.groups (group_of p name)

same_msrs : (p q : Source) (s z : Subject) → own_of p s ≡ own_of q z → msrs_of s ≡ msrs_of z
unfolding own_of
same_msrs p q s z own = ap (λ o. o.msrs) own

-- a list by names, made of subjects
by_names : {X : Type 0} (p : Source) (s : Subject) (f : Subject → X) → subject_named p s.name ≡ Some s → named (map (λ n. (n.name, f n)) p.subjects) s.name ≡ Some (f s)
by_names p s f is = named_map f p.subjects s.name ∙ ap (option_map f) is

start_alike : (p q : Source) (members : List (List ℕ)) (f g : Held) (r t : DeviceRecord) (ends : ℕ) → Agree members p q f g r t ends → AreAlike p q members (start_of p f) (start_of q g)
unfolding start_of
start_alike p q members f g r t ends agree = λ s member is.
    let w = agree.there s member is in
    let pair = agree.each s w.0 member is w.1 in
    let name = same_name p q s w.0 pair.own in
    let found : subject_named q w.0.name ≡ Some w.0 = ap (subject_named q) (sym name) ∙ w.1 in
    record {
      page = state_started p f s is ∙ ap (λ e. Some (page_bytes (started e))) (same_entry p q s w.0 pair.own) ∙ sym (ap (λ n. thing_in (start_of q g).things (state n)) name ∙ state_started q g w.0 found);
      msrs = by_names p s (λ n. map (λ m. (m.index, 0)) (msrs_of n)) is ∙ ap (λ ms. Some (map (λ m. (m.index, 0)) ms)) (same_msrs p q s w.0 pair.own) ∙ sym (ap (named (start_of q g).msrs) name ∙ by_names q w.0 (λ n. map (λ m. (m.index, 0)) (msrs_of n)) found);
      now = by_names p s (λ n. []) is ∙ sym (ap (named (start_of q g).now) name ∙ by_names q w.0 (λ n. []) found);
      later = by_names p s (λ n. []) is ∙ sym (ap (named (start_of q g).later) name ∙ by_names q w.0 (λ n. []) found);
      active = active_at_start p f s.name ∙ pair.first ∙ ap (is_first q) (sym name) ∙ sym (active_at_start q g s.name);
      shown = pair.contents;
      ports = λ n _. refl;
    }

-- ---- frames

input_frame : (p : Source) (i : NamedInput) (y : System) → (takes p i y).frame ≡ y.frame
input_frame p (port_input device port value) y = refl
input_frame p (memory_input device memory offset bytes) y = refl
input_frame p (irq_input device irq) y = (by_irq (irq_of p device irq) y).frame
input_frame p (dma_input device address bytes) y = ap (λ z. z.frame) (line_things (line_writes p device address bytes) y)

pub inputs_frame : (p : Source) (is : List NamedInput) (y : System) → (all_taken (system p) is y).frame ≡ y.frame
inputs_frame p [] y = refl
inputs_frame p (i ∷ is) y = inputs_frame p is (takes p i y) ∙ input_frame p i y

pub turns_frame : (p : Source) (tick : ℕ) (order : List ℕ) (y : System) → (turns (system p) tick order y).state.frame ≡ y.frame
turns_frame p tick [] y = refl
turns_frame p tick (c ∷ cs) y = turns_frame p tick cs (system_turn p c tick y).state ∙ turn_frame p c tick y

-- before a tick, where nothing picks a frame
frame_before : Source → ℕ → FrameAt
frame_before p zero = first_frame
frame_before p (suc n) = plain_frame p n

begun_frame : (p : Source) (n : ℕ) (at : FrameAt) → at ≡ frame_before p n → frame_at_tick (ticks_of_majors p) at None n ≡ plain_frame p n
unfolding frame_before
begun_frame p zero at is = ap (λ at. frame_at_tick (ticks_of_majors p) at None 0) is
begun_frame p (suc n) at is = ap (λ at. frame_at_tick (ticks_of_majors p) at None (suc n)) is

-- ---- orders

-- what comes through a CPU that is kept
filter_through : (test : ℕ → Bool) (cpu : ℕ) → test cpu ≡ true → (order : List ℕ) → filter test (through cpu order) ≡ through cpu (filter test order)
filter_through test cpu kept [] = refl
filter_through test cpu kept (c ∷ cs) =
    elim (c == cpu) as (λ b. (c == cpu) ≡ b → filter test (cond b (c ∷ []) (c ∷ through cpu cs)) ≡ through cpu (cond (test c) (c ∷ filter test cs) (filter test cs))) [
      | true ↦ λ e.
          let here : test c ≡ true = ap test (eqb-true c cpu e) ∙ kept in
          ap (λ b. cond b (c ∷ []) []) here ∙ sym (ap (λ b. through cpu (cond b (c ∷ filter test cs) (filter test cs))) here ∙ ap (λ b. cond b (c ∷ []) (c ∷ through cpu (filter test cs))) e)
      | false ↦ λ e.
          elim (test c) as (λ b. cond b (c ∷ filter test (through cpu cs)) (filter test (through cpu cs)) ≡ through cpu (cond b (c ∷ filter test cs) (filter test cs))) [
            | true ↦ ap (λ xs. c ∷ xs) (filter_through test cpu kept cs) ∙ sym (ap (λ b. cond b (c ∷ []) (c ∷ through cpu (filter test cs))) e)
            | false ↦ filter_through test cpu kept cs
          ]
    ] refl

filter_before : (test : ℕ → Bool) (cpu : ℕ) → test cpu ≡ true → (order : List ℕ) → filter test (before cpu order) ≡ before cpu (filter test order)
filter_before test cpu kept [] = refl
filter_before test cpu kept (c ∷ cs) =
    elim (c == cpu) as (λ b. (c == cpu) ≡ b → filter test (cond b [] (c ∷ before cpu cs)) ≡ before cpu (cond (test c) (c ∷ filter test cs) (filter test cs))) [
      | true ↦ λ e.
          let here : test c ≡ true = ap test (eqb-true c cpu e) ∙ kept in
          sym (ap (λ b. before cpu (cond b (c ∷ filter test cs) (filter test cs))) here ∙ ap (λ b. cond b [] (c ∷ before cpu (filter test cs))) e)
      | false ↦ λ e.
          elim (test c) as (λ b. cond b (c ∷ filter test (before cpu cs)) (filter test (before cpu cs)) ≡ before cpu (cond b (c ∷ filter test cs) (filter test cs))) [
            | true ↦ ap (λ xs. c ∷ xs) (filter_before test cpu kept cs) ∙ sym (ap (λ b. cond b [] (c ∷ before cpu (filter test cs))) e)
            | false ↦ filter_before test cpu kept cs
          ]
    ] refl

-- ---- who chooses frames

-- the subject that chooses frames may write their region
chooser : (p : Source) → IsLawful p → (t : Tau0) → p.scheduling.tau0 ≡ Some t → list_any (λ s. bytes_eq s.name t.subject && writes p t.region s) p.subjects ≡ true
unfolding offence_16
chooser p lawful t is =
    let last = none_both (first_in (major_offence p) (majors_of p)) (tau0_offence p p.scheduling.tau0) (rules_of lawful).rule_16 in
    let of : tau0_offence p (Some t) ≡ None = ap (tau0_offence p) (sym is) ∙ last.1 in
    let declared = none_both _ _ of in
    let memory = none_both _ _ declared.1 in
    let writer = none_both _ _ memory.1 in
    unless_none (list_any (λ s. bytes_eq s.name t.subject && writes p t.region s) p.subjects) (two (codes "tau0") t.region) writer.0

-- a subject is found by its name
pub itself : (p : Source) → IsLawful p → (s : Subject) → In s p.subjects → subject_named p s.name ≡ Some s
itself p lawful s within = let at = index_in p.subjects s within in found_by_name (λ (s : Subject). s.name) p.subjects (unique p (rules_of lawful).rule_1).subjects at.0 s at.1

-- so it sees it, and is a member where there is one
module _ (p : Source) (lawful : IsLawful p) (members : List (List ℕ)) (closed : IsClosed p members) (m : Subject) (in_m : In m p.subjects) (member : is_member members m ≡ true) where
  record Chooser (t : Tau0) : Type 0 where
    pub one : Subject
    pub is : subject_named p one.name ≡ Some one
    pub inside : is_member members one ≡ true
    pub shown : is_shown (windows_of p one) (region t.region) ≡ true

  sees : (windows : List (Window Thing)) (x : Thing) → list_any (λ w. same_thing w.thing x && allows w.rights Write) windows ≡ true → is_shown windows x ≡ true
  sees windows x h =
      let at = any_some (λ w. same_thing w.thing x && allows w.rights Write) windows h in
      any_in (λ w. same_thing w.thing x) windows at.one at.within (and_parts (same_thing at.one.thing x) (allows at.one.rights Write) at.passes).0

  its_chooser : (t : Tau0) → p.scheduling.tau0 ≡ Some t → Chooser t
  its_chooser t is =
      let at = any_some (λ s. bytes_eq s.name t.subject && writes p t.region s) p.subjects (chooser p lawful t is) in
      let parts = and_parts (bytes_eq at.one.name t.subject) (writes p t.region at.one) at.passes in
      let plans : by_plan p at.one ≡ true = ap (λ o. option_map_or (λ t. bytes_eq t.subject at.one.name) o false) is ∙ (bytes_eq-Decides t.subject at.one.name).1 (sym ((bytes_eq-Decides at.one.name t.subject).0 parts.0)) in
      record {
        one = at.one;
        is = itself p lawful at.one at.within;
        inside = true_from_ne_false (is_member members at.one) (λ e. no_flow p members closed at.one m at.within in_m member e (flows_by p at.one m (inr (inr (inr (inl plans))))));
        shown = sees (windows_of p at.one) (region t.region) parts.1;
      }

-- ---- runs

module _ (p q : Source) (lawful : IsLawful p) (lawful_too : IsLawful q) (members : List (List ℕ)) (closed : IsClosed p members) (closed_too : IsClosed q members) (f g : Held) (r t : DeviceRecord) (ends : ℕ) (agree : Agree members p q f g r t ends) (m : Subject) (member : is_member members m ≡ true) (found : subject_named p m.name ≡ Some m) where
  in_m : In m p.subjects
  in_m = (find_in (λ s. bytes_eq s.name m.name) p.subjects m found).0

  abbrev run_p : ℕ → System
  run_p n = (run_to (system p) (inputs_at r) (order_at p r) n (start_of p f)).state

  abbrev run_q : ℕ → System
  run_q n = (run_to (system q) (inputs_at t) (order_at q t) n (start_of q g)).state

  -- where the frames stand before a tick
  abbrev HaveFrames : AgreeOnFrames members p q ends → ℕ → System → System → Type 0
  HaveFrames (unchosen a b c) n y z = (y.frame ≡ frame_before p n) × (z.frame ≡ frame_before q n)
  HaveFrames (chosen a b c d e k l o) n y z = y.frame ≡ z.frame

  -- a tick begins
  begun_slots : (fr : AgreeOnFrames members p q ends) (n : ℕ) → n < ends → (y z : System) → AreAlike p q members y z → HaveFrames fr n y z → SameSlots p q members n (begins p n y) (begins q n z) × HaveFrames fr (suc n) (begins p n y) (begins q n z)
  unfolding frame_before
  begun_slots (unchosen a b c) n low y z h at =
      let left : (begins p n y).frame ≡ plain_frame p n = ap (λ o. frame_at_tick (ticks_of_majors p) y.frame (pick_in y o) n) a ∙ begun_frame p n y.frame at.0 in
      let right : (begins q n z).frame ≡ plain_frame q n = ap (λ o. frame_at_tick (ticks_of_majors q) z.frame (pick_in z o) n) b ∙ begun_frame q n z.frame at.1 in (
        λ s w inside is is'. ap (λ at. own_slot p s at n) left ∙ c s w inside is is' n low ∙ sym (ap (λ at. own_slot q w at n) right),
        (left, right),
      )
  begun_slots (chosen a b c d e k l o) n low y z h at =
      let who = its_chooser p lawful members closed m in_m member a c in
      let byte : thing_in y.things (region a.region) ≡ thing_in z.things (region b.region) = (h who.one who.inside who.is).shown (region a.region) who.shown ∙ ap (λ n. thing_in z.things (region n)) k in
      let pick : pick_in y p.scheduling.tau0 ≡ pick_in z q.scheduling.tau0 = ap (pick_in y) c ∙ ap (option_and_then (λ bytes. slice_get bytes 0)) byte ∙ sym (ap (pick_in z) d) in
      let same : (begins p n y).frame ≡ (begins q n z).frame = λ i. frame_at_tick (l i) (at i) (pick i) n in
      (λ s w inside is is'. o s w inside is is' (begins p n y).frame n ∙ ap (λ at. own_slot q w at n) same, same)

  -- before the turns of a tick
  ready : (n : ℕ) → n < ends → AreAlike p q members (run_p n) (run_q n) → HaveFrames agree.frames n (run_p n) (run_q n)
      → Ready p q lawful lawful_too members closed closed_too f g r t ends agree n (begun (system p) n (inputs_at r n) (run_p n)) (begun (system q) n (inputs_at t n) (run_q n))
  ready n low h at =
      let slots = (begun_slots agree.frames n low (run_p n) (run_q n) h at).0 in
      record {
        listed = begun_listed p f (members_kept p (rules_of lawful).rule_17) (inputs_at r) (order_at p r) n;
        listed_too = begun_listed q g (members_kept q (rules_of lawful_too).rule_17) (inputs_at t) (order_at q t) n;
        alike = inputs_both p q members f g r t ends agree (inputs_at r n) (inputs_at t n) (begins p n (run_p n)) (begins q n (run_q n)) (agree.inputs n low) (recursion_from_All (WritesTheSame members p q) (filter (input_reaches_member p q members) (inputs_at r n)) (agree.writes n low)) (begun_alike n (run_p n) (run_q n) h);
        slots = λ s w inside is is'.
            ap (λ at. own_slot p s at n) (inputs_frame p (inputs_at r n) (begins p n (run_p n)))
            ∙ slots s w inside is is'
            ∙ sym (ap (λ at. own_slot q w at n) (inputs_frame q (inputs_at t n) (begins q n (run_q n))));
      }
    where
      begun_alike : (n : ℕ) (y z : System) → AreAlike p q members y z → AreAlike p q members (begins p n y) (begins q n z)
      begun_alike n y z h = λ s inside is.
          let a = h s inside is in
          record { page = a.page; msrs = a.msrs; now = a.now; later = a.later; active = a.active; shown = a.shown; ports = a.ports }

  -- after a tick the frames stand where they stood in it
  frames_after : (fr : AgreeOnFrames members p q ends) (n : ℕ) (y z y' z' : System) → y'.frame ≡ y.frame → z'.frame ≡ z.frame → HaveFrames fr n y z → HaveFrames fr n y' z'
  frames_after (unchosen a b c) n y z y' z' left right at = (left ∙ at.0, right ∙ at.1)
  frames_after (chosen a b c d e k l o) n y z y' z' left right at = left ∙ at ∙ sym right

  at_start : (fr : AgreeOnFrames members p q ends) → HaveFrames fr 0 (start_of p f) (start_of q g)
  unfolding start_of frame_before
  at_start (unchosen a b c) = (refl, refl)
  at_start (chosen a b c d e k l o) = refl

  runs : (n : ℕ) → n ≤ ends → AreAlike p q members (run_p n) (run_q n) × HaveFrames agree.frames n (run_p n) (run_q n)
  runs zero low = (start_alike p q members f g r t ends agree, at_start agree.frames)
  runs (suc n) low =
      let before = runs n (omega (arith, low)) in
      let under : n < ends = omega (arith, low) in
      let y = begun (system p) n (inputs_at r n) (run_p n) in
      let z = begun (system q) n (inputs_at t n) (run_q n) in
      let both = turns_both p q lawful lawful_too members closed closed_too f g r t ends agree n (order_at p r n) (order_at q t n) y z (agree.orders n under) (ready n under before.0 before.1) in
      let at = (begun_slots agree.frames n under (run_p n) (run_q n) before.0 before.1).1 in (
        both.alike,
        frames_after agree.frames (suc n) (begins p n (run_p n)) (begins q n (run_q n)) (run_p (suc n)) (run_q (suc n))
            (turns_frame p n (order_at p r n) y ∙ inputs_frame p (inputs_at r n) (begins p n (run_p n)))
            (turns_frame q n (order_at q t n) z ∙ inputs_frame q (inputs_at t n) (begins q n (run_q n))) at,
      )

  -- after so many ticks they are alike
  pub alike_after : (n : ℕ) → n ≤ ends → AreAlike p q members (run_p n) (run_q n)
  alike_after n low = (runs n low).0

  -- the lines of members in the first ticks, in their order
  pub all_lines : (n : ℕ) → n ≤ ends → filter (is_of members) (run_to (system p) (inputs_at r) (order_at p r) n (start_of p f)).lines ≡ filter (is_of members) (run_to (system q) (inputs_at t) (order_at q t) n (start_of q g)).lines
  all_lines zero low = refl
  all_lines (suc n) low =
      let before = runs n (omega (arith, low)) in
      let under : n < ends = omega (arith, low) in
      let y = begun (system p) n (inputs_at r n) (run_p n) in
      let z = begun (system q) n (inputs_at t n) (run_q n) in
      let both = turns_both p q lawful lawful_too members closed closed_too f g r t ends agree n (order_at p r n) (order_at q t n) y z (agree.orders n under) (ready n under before.0 before.1) in
      let left = (run_to (system p) (inputs_at r) (order_at p r) n (start_of p f)).lines in
      let right = (run_to (system q) (inputs_at t) (order_at q t) n (start_of q g)).lines in
      filter-append (is_of members) left (turns (system p) n (order_at p r n) y).lines
      ∙ (λ i. all_lines n (omega (arith, low)) i ++ both.all i)
      ∙ sym (filter-append (is_of members) right (turns (system q) n (order_at q t n) z).lines)

  -- ---- just before the turn of a member's CPU

  pub record SameBefore (n : ℕ) (w : Subject) (y z : System) : Type 0 where
    pub alike : AreAlike p q members y z
    pub slot : own_slot p m y.frame n ≡ own_slot q w z.frame n

  pub before_turn : (n : ℕ) → n < ends → (w : Subject) → subject_named q m.name ≡ Some w
      → SameBefore n w (turns (system p) n (before m.cpu (order_at p r n)) (begun (system p) n (inputs_at r n) (run_p n))).state (turns (system q) n (before w.cpu (order_at q t n)) (begun (system q) n (inputs_at t n) (run_q n))).state
  before_turn n low w is =
      let pair = agree.each m w member found is in
      let name = same_name p q m w pair.own in
      let cpu = same_cpu p q m w pair.own in
      let earlier = runs n (omega (arith, low)) in
      let holds : holds_member p members m.cpu ≡ true = any_in (λ s. is_member members s && (s.cpu == m.cpu)) p.subjects m in_m (and_from (is_member members m) (m.cpu == m.cpu) member (eq-eqb m.cpu m.cpu refl)) in
      let in_w = (find_in (λ s. bytes_eq s.name m.name) q.subjects w is).0 in
      let holds' : holds_member q members w.cpu ≡ true = any_in (λ s. is_member members s && (s.cpu == w.cpu)) q.subjects w in_w (and_from (is_member members w) (w.cpu == w.cpu) (same_member members m w name member) (eq-eqb w.cpu w.cpu refl)) in
      let orders : filter (holds_member p members) (before m.cpu (order_at p r n)) ≡ filter (holds_member q members) (before w.cpu (order_at q t n)) =
      filter_before (holds_member p members) m.cpu holds (order_at p r n) ∙ ap (before m.cpu) (agree.orders n low) ∙ ap (λ c. before c (filter (holds_member q members) (order_at q t n))) cpu ∙ sym (filter_before (holds_member q members) w.cpu holds' (order_at q t n)) in
      let y = begun (system p) n (inputs_at r n) (run_p n) in
      let z = begun (system q) n (inputs_at t n) (run_q n) in
      let at = ready n low earlier.0 earlier.1 in
      record {
        alike = (turns_both p q lawful lawful_too members closed closed_too f g r t ends agree n (before m.cpu (order_at p r n)) (before w.cpu (order_at q t n)) y z orders at).alike;
        slot = ap (λ at. own_slot p m at n) (turns_frame p n (before m.cpu (order_at p r n)) y) ∙ at.slots m w member found is ∙ sym (ap (λ at. own_slot q w at n) (turns_frame q n (before w.cpu (order_at q t n)) z));
      }

  -- ---- views

  pub in_tick : (n : ℕ) → n < ends → (w : Subject) → subject_named q m.name ≡ Some w → AreSameViews (seen_in p m (ran_through p f r m.cpu n)) (seen_in q w (ran_through q g t w.cpu n))
  in_tick n low w is =
      let pair = agree.each m w member found is in
      let name = same_name p q m w pair.own in
      let cpu = same_cpu p q m w pair.own in
      let before = runs n (omega (arith, low)) in
      let holds : holds_member p members m.cpu ≡ true = any_in (λ s. is_member members s && (s.cpu == m.cpu)) p.subjects m in_m (and_from (is_member members m) (m.cpu == m.cpu) member (eq-eqb m.cpu m.cpu refl)) in
      let in_w = (find_in (λ s. bytes_eq s.name m.name) q.subjects w is).0 in
      let holds' : holds_member q members w.cpu ≡ true = any_in (λ s. is_member members s && (s.cpu == w.cpu)) q.subjects w in_w (and_from (is_member members w) (w.cpu == w.cpu) (same_member members m w name member) (eq-eqb w.cpu w.cpu refl)) in
      let orders : filter (holds_member p members) (through m.cpu (order_at p r n)) ≡ filter (holds_member q members) (through w.cpu (order_at q t n)) =
      filter_through (holds_member p members) m.cpu holds (order_at p r n) ∙ ap (through m.cpu) (agree.orders n low) ∙ ap (λ c. through c (filter (holds_member q members) (order_at q t n))) cpu ∙ sym (filter_through (holds_member q members) w.cpu holds' (order_at q t n)) in
      let y = begun (system p) n (inputs_at r n) (run_p n) in
      let z = begun (system q) n (inputs_at t n) (run_q n) in
      let both = turns_both p q lawful lawful_too members closed closed_too f g r t ends agree n (through m.cpu (order_at p r n)) (through w.cpu (order_at q t n)) y z orders (ready n low before.0 before.1) in
      let a = both.alike m member found in
      let end_q = (turns (system q) n (through w.cpu (order_at q t n)) z).state in
      record {
        line = both.lines m member found ∙ ap (λ name. find (λ l. bytes_eq l.subject name) (turns (system q) n (through w.cpu (order_at q t n)) z).lines) name;
        state = ap (option_map state_in) (a.page ∙ ap (λ n. thing_in end_q.things (state n)) name);
        msrs = a.msrs ∙ ap (named end_q.msrs) name;
        now = ap (λ o. unwrap_or o []) (a.now ∙ ap (named end_q.now) name);
        later = ap (λ o. unwrap_or o []) (a.later ∙ ap (named end_q.later) name);
        things = λ x. shown_alike (windows_of p m) (ran_through p f r m.cpu n).state.things end_q.things a.shown x ∙ ap (λ windows. thing_in (filter (λ e. is_shown windows e.0) end_q.things) x) (same_windows p q m w pair.own);
      }

pub same_views : MembersSeeTheSame
unfolding view_of
same_views p members lawful closed q f g r t lawful_too closed_too agree s w member found is n a b at at' =
    let many = length-map (numbers_below r.end) (λ tick. seen_in p s (ran_through p f r s.cpu tick)) in
    let few = length-map (numbers_below t.end) (λ tick. seen_in q w (ran_through q g t w.cpu tick)) in
    let within = slice_get_within (map (λ tick. seen_in p s (ran_through p f r s.cpu tick)) (numbers_below r.end)) n a at in
    let within' = slice_get_within (map (λ tick. seen_in q w (ran_through q g t w.cpu tick)) (numbers_below t.end)) n b at' in
    let long = length_numbers r.end in
    let long' = length_numbers t.end in
    let low : n < r.end = omega (arith, many, within, long) in
    let low' : n < t.end = omega (arith, few, within', long') in
    let under : n < min r.end t.end = omega (arith, low, low') in
    let left : Some (seen_in p s (ran_through p f r s.cpu n)) ≡ Some a = sym (slice_get-map (λ tick. seen_in p s (ran_through p f r s.cpu tick)) (numbers_below r.end) n ∙ ap (option_map (λ tick. seen_in p s (ran_through p f r s.cpu tick))) (number_at r.end n low)) ∙ at in
    let right : Some (seen_in q w (ran_through q g t w.cpu n)) ≡ Some b = sym (slice_get-map (λ tick. seen_in q w (ran_through q g t w.cpu tick)) (numbers_below t.end) n ∙ ap (option_map (λ tick. seen_in q w (ran_through q g t w.cpu tick))) (number_at t.end n low')) ∙ at' in
    let same_a : seen_in p s (ran_through p f r s.cpu n) ≡ a = cc (left) in
    let same_b : seen_in q w (ran_through q g t w.cpu n) ≡ b = cc (right) in
    subst (λ v. AreSameViews v b) same_a (subst (AreSameViews (seen_in p s (ran_through p f r s.cpu n))) same_b
    (in_tick p q lawful lawful_too members closed closed_too f g r t (min r.end t.end) agree s member found n under w is))

-- after as many ticks they are alike
pub ends_alike : (p q : Source) → IsLawful p → IsLawful q → (members : List (List ℕ)) → IsClosed p members → IsClosed q members → (f g : Held) (r t : DeviceRecord) → Agree members p q f g r t r.end → t.end ≡ r.end → AreAlike p q members (run_of p f r).state (run_of q g t).state
unfolding run_of
ends_alike p q lawful lawful_too members closed closed_too f g r t agree ends m member found =
    subst (λ n. AreAlikeFor p q m (run_of p f r).state (run_to (system q) (inputs_at t) (order_at q t) n (start_of q g)).state) (sym ends)
    ((runs p q lawful lawful_too members closed closed_too f g r t r.end agree m member found r.end (omega arith)).0 m member found)

-- the set of a subject is closed
pub same_by_flows : SetsOfFlowsAreEnough
same_by_flows p name lawful = same_views p (closure_of p name) lawful (closure_is_least p name).closed
