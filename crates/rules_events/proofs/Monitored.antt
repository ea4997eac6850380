-- Marks of subjects that are monitored, one monitor more at a time.
use Rattle.std.proofs.Common.{◌≡◌, ℕ, ◌+◌, ◌<◌, Bool, true, false, cond, List, [], ◌∷◌, ◌++◌, length, get_or, take, drop, Option, None, refl, sym, ap, ◌∙◌, inl, inr, arith}
use Rattle.std.specs.Prelude.{◌==◌, ◌&&◌, ◌||◌, not, slice_get}
use Rattle.std.proofs.lemmas.Bool.{cases_lt}
use Rattle.std.proofs.lemmas.List.{get_or_default, take_more}
use Rattle.std.proofs.lemmas.List.Folds.{list_any-append}
use Rattle.std.proofs.lemmas.Option.{slice_get_past}
use Rattle.std.proofs.Math.Bool.{and-true, or-false}
use Rattle.muen_num.specs.Search.{first_after}
use Rattle.muen_num.proofs.FirstSteps.{first_after_step}
use Rattle.policy_lawful.specs.declared.resolved.Monitor.{Monitor}
use Rattle.policy_lawful.specs.declared.resolved.Subject.{Subject}
use Rattle.policy_lawful.specs.declared.offence.Offence.{Offence}
use Rattle.rules_events.specs.Marks.{Marks}
use Rattle.rules_events.specs.Monitors.{AreMarks, is_monitored, monitor_fault, monitor_offence_after, monitors_offence}
use Rattle.rules_events.proofs.Distinct.{marked}

-- what a loop keeps
pub record Kept (now : List Bool) (subjects : List Subject) (s : Subject) (i : ℕ) : Type 0 where
  pub marks : AreMarks now (take i s.monitors)
  pub rest : first_after (monitor_offence_after subjects s) (take i s.monitors) (drop i s.monitors) ≡ monitors_offence subjects s

monitored_push : (before : List Monitor) (m : Monitor) (k : ℕ) → is_monitored (before ++ m ∷ []) k ≡ (is_monitored before k || (m.subject == k))
monitored_push before m k = list_any-append (λ b. b.subject == k) before (m ∷ []) ∙ ap (λ b. is_monitored before k || b) (or-false (m.subject == k))

monitored_more : (ms : List Monitor) (i : ℕ) (m : Monitor) (k : ℕ) → i < length ms → m ≡ get_or ms i m → is_monitored (take (i + 1) ms) k ≡ (is_monitored (take i ms) k || (m.subject == k))
monitored_more ms i m k within is =
    ap (λ xs. is_monitored xs k) (take_more ms i m within)
    ∙ monitored_push (take i ms) (get_or ms i m) k
    ∙ ap (λ x. is_monitored (take i ms) k || (x.subject == k)) (sym is)

-- one more mark
pub marks_more : (old new : List Bool) (ms : List Monitor) (i : ℕ) (m : Monitor) → i < length ms → m ≡ get_or ms i m → length new ≡ length old → AreMarks old (take i ms) → Marks old new m.subject true → AreMarks new (take (i + 1) ms)
marks_more old new ms i m within is long had now k l =
    let l' : k < length old = omega arith in
    now k l'
    ∙ marked (m.subject == k) (get_or old k false)
    ∙ ap (λ b. b || (m.subject == k)) (had k l')
    ∙ sym (monitored_more ms i m k within is)

-- a monitor by its mark is one behind those that are marked
pub fault_same : (marks : List Bool) (subjects : List Subject) (s : Subject) (before : List Monitor) (m : Monitor) → length marks ≡ length subjects → AreMarks marks before
    → monitor_fault subjects s (not (get_or marks m.subject false)) m ≡ monitor_offence_after subjects s before m
fault_same marks subjects s before m long had =
    elim (cases_lt m.subject (length marks)) as (λ _. monitor_fault subjects s (not (get_or marks m.subject false)) m ≡ monitor_offence_after subjects s before m) [
      | inl l ↦ ap (λ b. monitor_fault subjects s (not b) m) (had m.subject l)
      | inr l ↦
          let none : slice_get subjects m.subject ≡ None = slice_get_past subjects m.subject (omega arith) in
          rw none refl
    ]

cleared_one : (t a b : Bool) → cond t false (a && not b) ≡ (a && not (b || t))
cleared_one true true true = refl
cleared_one true true false = refl
cleared_one true false b = refl
cleared_one false a b = ap (λ c. a && not c) (sym (or-false b))

pub no_monitor : (old : List Bool) (k : ℕ) → get_or old k false ≡ (get_or old k false && not (is_monitored [] k))
no_monitor old k = sym (and-true (get_or old k false))

-- one more mark that is taken away
pub clear_more : (first old new : List Bool) (ms : List Monitor) (i : ℕ) (m : Monitor) (k : ℕ) → i < length ms → m ≡ get_or ms i m → length old ≡ length first
    → get_or old k false ≡ (get_or first k false && not (is_monitored (take i ms) k)) → Marks old new m.subject false
    → k < length old → get_or new k false ≡ (get_or first k false && not (is_monitored (take (i + 1) ms) k))
clear_more first old new ms i m k within is long had now l =
    now k l
    ∙ ap (cond (m.subject == k) false) had
    ∙ cleared_one (m.subject == k) (get_or first k false) (is_monitored (take i ms) k)
    ∙ ap (λ b. get_or first k false && not b) (sym (monitored_more ms i m k within is))

nothing_left : (a b : Bool) → a ≡ b → (a && not b) ≡ false
nothing_left true true e = refl
nothing_left true false e = absurd (cc)
nothing_left false b e = refl

-- the marks of a subject's monitors, taken away
pub cleared : (old new : List Bool) (ms : List Monitor) → length new ≡ length old → AreMarks old ms
    → ((k : ℕ) → k < length old → get_or new k false ≡ (get_or old k false && not (is_monitored ms k))) → AreMarks new []
cleared old new ms long had now k l =
    let l' : k < length old = omega arith in
    now k l' ∙ nothing_left (get_or old k false) (is_monitored ms k) (had k l')

-- one more monitor that may be
pub kept : (old new : List Bool) (subjects : List Subject) (s : Subject) (items : List Monitor) (i : ℕ) (d : Monitor) (was : Bool) (o : Option Offence) → items ≡ s.monitors → i < length items
    → length old ≡ length subjects → length new ≡ length old → AreMarks old (take i s.monitors) → was ≡ get_or old (get_or items i d).subject false
    → o ≡ monitor_fault subjects s (not was) (get_or items i d) → o ≡ None → Marks old new (get_or items i d).subject true
    → first_after (monitor_offence_after subjects s) (take i s.monitors) (drop i s.monitors) ≡ monitors_offence subjects s
    → Kept new subjects s (i + 1)
kept old new subjects s items i d was o same within room long had says fault none now rest =
    let m = get_or items i d in
    let within' : i < length s.monitors = rw (← same) within in
    let is : m ≡ get_or s.monitors i m = get_or_default items i d m within ∙ ap (λ xs. get_or xs i m) same in
    let at : None ≡ monitor_offence_after subjects s (take i s.monitors) m =
    sym none ∙ fault ∙ ap (λ b. monitor_fault subjects s (not b) m) says ∙ fault_same old subjects s (take i s.monitors) m room had in
    record {
      marks = marks_more old new s.monitors i m within' is long had now;
      rest = sym (first_after_step (monitor_offence_after subjects s) s.monitors i m None within' is at) ∙ rest;
    }

pub ruleset steps = (marks_more, fault_same, no_monitor, clear_more, cleared)
