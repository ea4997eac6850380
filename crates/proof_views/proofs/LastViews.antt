-- What a subject's last view has of what the run leaves.
use Rattle.std.proofs.Common.{◌≡◌, ℕ, suc, ◌<◌, true, false, List, map, Some, sym, ap, subst, ◌∙◌, arith}
use Rattle.std.specs.Prelude.{◌==◌, IsTrue, option_map, slice_get}
use Rattle.std.specs.List.{All, find}
use Rattle.std.proofs.lemmas.List.Elements.{recursion_from_All}
use Rattle.std.proofs.lemmas.List.{length-map}
use Rattle.std.proofs.lemmas.Option.{slice_get-map, slice_get_within}
use Rattle.subject_model.specs.Run.{begun, run_to, tick_ran, turns}
use Rattle.muen_num.proofs.Each.{found}
use Rattle.muen_num.proofs.NumbersBelow.{length_numbers, number_at}
use Rattle.muen_num.specs.Range.{numbers_below}
use Rattle.policy_lawful.proofs.KeptMajors.{majors_kept}
use Rattle.policy_lawful.proofs.KeptMembers.{members_kept}
use Rattle.policy_lawful.proofs.KeptRules.{rules_of}
use Rattle.policy_lawful.specs.Contents.{Held}
use Rattle.policy_lawful.specs.Lawful.{IsLawful}
use Rattle.policy_lawful.specs.Thing.{Thing}
use Rattle.policy_lawful.specs.Windows.{windows_of}
use Rattle.policy_lawful.specs.source.Source.{Source}
use Rattle.policy_lawful.specs.source.Subject.{Subject}
use Rattle.subject_model.specs.Alone.{thing_in}
use Rattle.subject_model.specs.Clock.{inputs_at, order_at, run_of, system}
use Rattle.subject_model.specs.DeviceRecord.{DeviceRecord}
use Rattle.muen_num.specs.Numbers.{are_distinct}
use Rattle.subject_model.specs.StatePage.{state_in}
use Rattle.subject_model.specs.System.{System, is_shown, named, start_of, state_of, subject_named}
use Rattle.subject_model.specs.View.{Seen, ran_through, seen_in, through, view_of}
use Rattle.proof_views.specs.AloneRun.{started_alone}
use Rattle.proof_views.specs.Changes.{may_change_on}
use Rattle.proof_views.specs.LastViews.{at_rest, behind, without_line}
use Rattle.proof_views.specs.Laws.{LastViewsAreTheEnd}
use Rattle.proof_views.specs.Members.{AreListed}
use Rattle.proof_views.proofs.ActiveMembers.{begun_listed}
use Rattle.proof_views.proofs.LinesOfViews.{order_distinct}
use Rattle.proof_views.proofs.MonitorCpus.{monitors_kept}
use Rattle.proof_views.proofs.OwnStates.{StaysOwn, started_own}
use Rattle.proof_views.proofs.ThingsStay.{behind_leave, shown_all}
use Rattle.proof_views.proofs.TickParts.{none_behind, rest_stays, split_turns, turns_listed}

-- no order names a CPU twice
pub orders_distinct : (p : Source) (r : DeviceRecord) (n : ℕ) → All (λ e. IsTrue (are_distinct e.1)) r.orders → are_distinct (order_at p r n) ≡ true
orders_distinct p r n once =
    order_distinct (find (λ e. e.0 == n) r.orders) p.processor.logical_cpus
    (found (λ (e : ℕ × List ℕ). IsTrue (are_distinct e.1)) (λ e. e.0 == n) r.orders (recursion_from_All (λ (e : ℕ × List ℕ). IsTrue (are_distinct e.1)) r.orders once))

-- ---- a view in a tick

module _ (p : Source) (files : Held) (r : DeviceRecord) (s : Subject) (n : ℕ) where
  pub seen_there : n < r.end → slice_get (view_of p files r s) n ≡ Some (seen_in p s (ran_through p files r s.cpu n))
  unfolding view_of
  seen_there there =
      slice_get-map (λ tick. seen_in p s (ran_through p files r s.cpu tick)) (numbers_below r.end) n
      ∙ ap (option_map (λ tick. seen_in p s (ran_through p files r s.cpu tick))) (number_at r.end n there)

  -- whatever stands there
  pub seen_so : (v : Seen) → slice_get (view_of p files r s) n ≡ Some v → seen_in p s (ran_through p files r s.cpu n) ≡ v
  unfolding view_of
  seen_so v at =
      let within = slice_get_within (map (λ tick. seen_in p s (ran_through p files r s.cpu tick)) (numbers_below r.end)) n v at in
      let there : n < r.end = omega (arith, within, length-map (numbers_below r.end) (λ tick. seen_in p s (ran_through p files r s.cpu tick)), length_numbers r.end) in
      let both : Some (seen_in p s (ran_through p files r s.cpu n)) ≡ Some v = sym (seen_there there) ∙ at in
      cc (both)

-- ---- the end of a run

module _ (p : Source) (files : Held) (r : DeviceRecord) (n : ℕ) where
  -- before its turns
  abbrev pub begun_at : System
  begun_at = begun (system p) n (inputs_at r n) (run_to (system p) (inputs_at r) (order_at p r) n (start_of p files)).state

  left_at : r.end ≡ suc n → (run_of p files r).state ≡ (turns (system p) n (order_at p r n) begun_at).state
  unfolding run_of
  left_at ends = ap (λ e. (run_to (system p) (inputs_at r) (order_at p r) e (start_of p files)).state) ends

  -- after the turns of the CPUs behind one
  left_behind : (cpu : ℕ) → r.end ≡ suc n → (run_of p files r).state ≡ (turns (system p) n (behind cpu (order_at p r n)) (ran_through p files r cpu n).state).state
  left_behind cpu ends = left_at ends ∙ split_turns p n cpu (order_at p r n) begun_at

  module _ (lawful : IsLawful p) where
    pub seen_listed : (cpu : ℕ) → AreListed p (ran_through p files r cpu n).state.active
    seen_listed cpu =
        turns_listed p n (through cpu (order_at p r n)) begun_at (begun_listed p files (members_kept p (rules_of lawful).rule_17) (inputs_at r) (order_at p r) n)

    -- of a thing that no subject behind may change
    pub thing_left : (s : Subject) (x : Thing) → r.end ≡ suc n → is_shown (windows_of p s) x ≡ true → may_change_on p (behind s.cpu (order_at p r n)) x ≡ false
        → option_map (λ v. thing_in v.things x) (slice_get (view_of p files r s) n) ≡ Some (thing_in (run_of p files r).state.things x)
    thing_left s x ends shown none =
        let there : n < r.end = omega (arith, ends) in
        let seen : System = (ran_through p files r s.cpu n).state in
        ap (option_map (λ (v : Seen). thing_in v.things x)) (seen_there p files r s n there)
        ∙ ap Some (shown_all p s x seen shown
        ∙ sym (behind_leave p (majors_kept p (rules_of lawful).rule_16) (members_kept p (rules_of lawful).rule_17) n x (behind s.cpu (order_at p r n)) seen (seen_listed s.cpu) none)
        ∙ ap (λ (y : System). thing_in y.things x) (sym (left_behind s.cpu ends)))

    module _ (s : Subject) (is : subject_named p s.name ≡ Some s) (once : All (λ e. IsTrue (are_distinct e.1)) r.orders) where
      -- the turns behind its CPU leave its own state
      pub own_left : StaysOwn s (ran_through p files r s.cpu n).state (turns (system p) n (behind s.cpu (order_at p r n)) (ran_through p files r s.cpu n).state).state
      own_left =
          rest_stays p (majors_kept p (rules_of lawful).rule_16) (members_kept p (rules_of lawful).rule_17) (monitors_kept p (rules_of lawful).rule_24) s is n
          (behind s.cpu (order_at p r n)) (ran_through p files r s.cpu n).state (seen_listed s.cpu) (none_behind s.cpu (order_at p r n) (orders_distinct p r n once))

      end_own : r.end ≡ suc n → StaysOwn s (ran_through p files r s.cpu n).state (run_of p files r).state
      end_own ends = subst (StaysOwn s (ran_through p files r s.cpu n).state) (sym (left_behind s.cpu ends)) own_left

      pub state_left : r.end ≡ suc n → option_map (λ v. v.state) (slice_get (view_of p files r s) n) ≡ Some (state_of (run_of p files r).state s.name)
      state_left ends =
          let there : n < r.end = omega (arith, ends) in
          ap (option_map (λ (v : Seen). v.state)) (seen_there p files r s n there) ∙ ap (λ o. Some (option_map state_in o)) (sym (end_own ends).page)

      pub msrs_left : r.end ≡ suc n → option_map (λ v. v.msrs) (slice_get (view_of p files r s) n) ≡ Some (named (run_of p files r).state.msrs s.name)
      msrs_left ends =
          let there : n < r.end = omega (arith, ends) in
          ap (option_map (λ (v : Seen). v.msrs)) (seen_there p files r s n there) ∙ ap Some (sym (end_own ends).msrs)

-- ---- a run of no ticks

module _ (p : Source) (files : Held) (r : DeviceRecord) (s : Subject) (is : subject_named p s.name ≡ Some s) (none : r.end ≡ 0) where
  at_start : (run_of p files r).state ≡ start_of p files
  unfolding run_of
  at_start = ap (λ e. (run_to (system p) (inputs_at r) (order_at p r) e (start_of p files)).state) none

  pub first_state : state_of (run_of p files r).state s.name ≡ Some (started_alone s).state
  first_state = ap (λ (y : System). state_of y s.name) at_start ∙ (started_own p s is files).state

  pub first_msrs : named (run_of p files r).state.msrs s.name ≡ Some (started_alone s).msrs
  first_msrs = ap (λ (y : System). named y.msrs s.name) at_start ∙ (started_own p s is files).msrs

-- ---- where its CPU takes the last turn

pub last_view : LastViewsAreTheEnd
unfolding run_of
last_view p files r s n ends last =
    let there : n < r.end = omega (arith, ends) in
    let before = (run_to (system p) (inputs_at r) (order_at p r) n (start_of p files)).state in
    ap (option_map without_line) (seen_there p files r s n there)
    ∙ ap (λ order. Some (at_rest p s (tick_ran (system p) n (inputs_at r n) order before).state)) last
    ∙ ap (λ e. Some (at_rest p s (run_to (system p) (inputs_at r) (order_at p r) e (start_of p files)).state)) (sym ends)
