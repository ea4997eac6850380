-- Two runs in which devices follow one strategy agree on what reaches members, tick by tick.
use Rattle.std.proofs.Common.{◌≡◌, ℕ, zero, suc, ◌<◌, ◌≤◌, true, false, cond, List, filter, min, None, Some, refl, sym, ap, subst, ◌∙◌, inl, inr, arith}
use Rattle.std.specs.Prelude.{nat_le}
use Rattle.std.proofs.lemmas.Bool.{cases_lt, leb-true}
use Rattle.policy_flows.specs.Flows.{IsClosed, is_member}
use Rattle.policy_lawful.specs.Contents.{Held}
use Rattle.policy_lawful.specs.Lawful.{IsLawful}
use Rattle.policy_lawful.specs.Thing.{Thing}
use Rattle.policy_lawful.specs.source.Source.{Source}
use Rattle.policy_lawful.specs.source.Subject.{Subject}
use Rattle.subject_model.specs.DeviceRecord.{DeviceRecord}
use Rattle.subject_model.specs.Clock.{inputs_at, order_at, system}
use Rattle.subject_model.specs.Run.{run_to}
use Rattle.subject_model.specs.System.{System, start_of, subject_named}
use Rattle.proof_isolation.specs.Agree.{Agree, AgreeOnFrames, chosen, holds_member, input_reaches_member, unchosen}
use Rattle.proof_isolation.proofs.TwoEnds.{printed_alike}
use Rattle.proof_isolation.proofs.TwoSystems.{alike_after, all_lines, same_views}
use Rattle.proof_reactive.specs.Answering.{AreLooped, DependOnMembersAndStrategyAlone, Follows, LoopsAgree, PrintsLoopedMembersAlike, Strategy, deaf, heard, shown_by}
use Rattle.proof_reactive.specs.Laws.{PromisedPrintsReachStrategies, PromisedSetsReachStrategies, StrategiesPrintAsPromised, StrategiesSeeAsPromised}
use Rattle.proof_reactive.proofs.Memories.{shown_same}

-- ---- tick by tick

module _ (p q : Source) (lawful : IsLawful p) (members : List (List ℕ)) (closed : IsClosed p members) (f g : Held) (r t : DeviceRecord) (ends : ℕ) (strategy : Strategy) (loop : AreLooped strategy members p q f g r t ends) (m : Subject) (inside : is_member members m ≡ true) (found : subject_named p m.name ≡ Some m) where
  -- what devices do in the first ticks is the same in both
  record Same (tick : ℕ) : Type 0 where
    pub inputs : filter (input_reaches_member p q members) (inputs_at r tick) ≡ filter (input_reaches_member q p members) (inputs_at t tick)
    pub order : filter (holds_member p members) (order_at p r tick) ≡ filter (holds_member q members) (order_at q t tick)

  frames_to : (n : ℕ) → n ≤ ends → AgreeOnFrames members p q ends → AgreeOnFrames members p q n
  frames_to n low (unchosen a b c) = unchosen a b (λ s z inside is is' tick l. c s z inside is is' tick (omega (arith, l, low)))
  frames_to n low (chosen a b c d e k l o) = chosen a b c d e k l o

  agree_to : (n : ℕ) → n ≤ ends → ((tick : ℕ) → tick < n → Same tick) → Agree members p q f g r t n
  agree_to n low same = record {
    there = loop.agree.there;
    back = loop.agree.back;
    each = loop.agree.each;
    frames = frames_to n low loop.agree.frames;
    inputs = λ tick l. (same tick l).inputs;
    writes = λ tick l. loop.agree.writes tick (omega (arith, l, low));
    orders = λ tick l. (same tick l).order;
  }

  -- so the same is told of members
  told : (n : ℕ) → Agree members p q f g r t n → heard p members f r n ≡ heard q members g t n
  told n agree =
      let said = all_lines p q lawful loop.lawful members closed loop.closed f g r t n agree m inside found n (omega arith) in
      λ i. record { lines = said i; memory = λ k x. shown k x i }
    where
      ran_p : ℕ → System
      ran_p k = (run_to (system p) (inputs_at r) (order_at p r) k (start_of p f)).state

      ran_q : ℕ → System
      ran_q k = (run_to (system q) (inputs_at t) (order_at q t) k (start_of q g)).state

      shown : (k : ℕ) (x : Thing) → cond (nat_le k n) (shown_by p members (ran_p k) x) None ≡ cond (nat_le k n) (shown_by q members (ran_q k) x) None
      shown k x =
          elim (nat_le k n) as (λ b. nat_le k n ≡ b → cond b (shown_by p members (ran_p k) x) None ≡ cond b (shown_by q members (ran_q k) x) None) [
            | true ↦ λ e. shown_same p q lawful loop.lawful members f g r t n agree (ran_p k) (ran_q k) (alike_after p q lawful loop.lawful members closed loop.closed f g r t n agree m inside found k (leb-true k n e)) x
            | false ↦ λ e. refl
          ] refl

  -- so the strategy answers the same in the next tick
  next : (n : ℕ) → n < ends → Agree members p q f g r t n → Same n
  next n low agree =
      let said : heard p members f r n ≡ heard q members g t n = told n agree in
      record {
        inputs = loop.follows.inputs n low ∙ ap (λ h. strategy.inputs h n) said ∙ sym (loop.follows_too.inputs n low);
        order = loop.follows.order n low ∙ ap (λ h. strategy.order h n) said ∙ sym (loop.follows_too.order n low);
      }

  same_to : (n : ℕ) → n ≤ ends → (tick : ℕ) → tick < n → Same tick
  same_to zero low tick l = absurd (omega (arith, l))
  same_to (suc n) low tick l =
      let before = same_to n (omega (arith, low)) in
      elim (cases_lt tick n) as (λ _. Same tick) [
        | inl less ↦ before tick less
        | inr least ↦
            let is : n ≡ tick = omega (arith, l, least) in
            subst Same is (next n (omega (arith, low)) (agree_to n (omega (arith, low)) before))
      ]

  pub agree_all : Agree members p q f g r t ends
  agree_all = agree_to ends (omega arith) (same_to ends (omega arith))

-- ---- the laws

pub loops_agree : (p : Source) (members : List (List ℕ)) → IsLawful p → IsClosed p members → LoopsAgree p members
loops_agree p members lawful closed strategy q f g r t ends loop m inside found = agree_all p q lawful members closed f g r t ends strategy loop m inside found

pub loops_seen_alike : (p : Source) (members : List (List ℕ)) → IsLawful p → IsClosed p members → DependOnMembersAndStrategyAlone p members
loops_seen_alike p members lawful closed strategy q f g r t loop s w inside found =
    same_views p members lawful closed q f g r t loop.lawful loop.closed (loops_agree p members lawful closed strategy q f g r t (min r.end t.end) loop s inside found) s w inside found

pub loops_printed_alike : (p : Source) (members : List (List ℕ)) → IsLawful p → IsClosed p members → PrintsLoopedMembersAlike p members
loops_printed_alike p members lawful closed strategy q f g r t loop s w inside found =
    printed_alike p f r lawful q g t members loop.lawful closed loop.closed (loops_agree p members lawful closed strategy q f g r t (min r.end t.end) loop s inside found) s w inside found

-- where the inputs and orders are the same there is a strategy that both follow
pub deaf_loops : (p q : Source) (members : List (List ℕ)) (f g : Held) (r t : DeviceRecord) (ends : ℕ) → Agree members p q f g r t ends
    → Follows (deaf p q members r) members p q f r ends × Follows (deaf p q members r) members q p g t ends
deaf_loops p q members f g r t ends agree = (
  record { inputs = λ tick low. refl; order = λ tick low. refl },
  record { inputs = λ tick low. sym (agree.inputs tick low); order = λ tick low. sym (agree.orders tick low) },
)

-- ---- what is promised of records that agree, and of records that follow one strategy

pub promised_prints : PromisedPrintsReachStrategies
promised_prints p f r lawful promised strategy q g t members closed loop s w inside found =
    promised q g t members loop.lawful closed loop.closed (loops_agree p members lawful closed strategy q f g r t (min r.end t.end) loop s inside found) s w inside found

pub promised_sets : PromisedSetsReachStrategies
promised_sets p members lawful closed promised strategy q f g r t loop s w inside found =
    promised q f g r t loop.lawful loop.closed (loops_agree p members lawful closed strategy q f g r t (min r.end t.end) loop s inside found) s w inside found

by_deaf : (p q : Source) (members : List (List ℕ)) (f g : Held) (r t : DeviceRecord) (ends : ℕ) → IsLawful q → IsClosed q members → Agree members p q f g r t ends → AreLooped (deaf p q members r) members p q f g r t ends
by_deaf p q members f g r t ends lawful closed agree = record {
  lawful = lawful;
  closed = closed;
  agree = record { there = agree.there; back = agree.back; each = agree.each; frames = agree.frames; writes = agree.writes };
  follows = (deaf_loops p q members f g r t ends agree).0;
  follows_too = (deaf_loops p q members f g r t ends agree).1;
}

pub strategies_print : StrategiesPrintAsPromised
strategies_print p f r looped q g t members lawful closed closed_too agree =
    looped (deaf p q members r) q g t members closed (by_deaf p q members f g r t (min r.end t.end) lawful closed_too agree)

pub strategies_see : StrategiesSeeAsPromised
strategies_see p members looped q f g r t lawful closed agree =
    looped (deaf p q members r) q f g r t (by_deaf p q members f g r t (min r.end t.end) lawful closed agree)
