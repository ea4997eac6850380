-- A lawful policy's monitors watch other subjects of their own CPU; so none of a subject of another CPU writes a state page.
use Rattle.std.proofs.Common.{◌≡◌, ℕ, ◌++◌, Bool, true, false, cond, List, [], ◌∷◌, Option, Some, None, refl, sym, ap, subst, ◌∙◌, inl, inr}
use Rattle.std.specs.Prelude.{◌&&◌, not, option_map}
use Rattle.std.specs.List.{find, list_all, list_any}
use Rattle.std.specs.Str.{bytes_eq}
use Rattle.std.proofs.lemmas.Bool.{and_from, and_parts, cases_Bool, eqb-true, not-true, true≢false}
use Rattle.std.proofs.lemmas.Slice.Eq.{bytes_eq-Decides}
use Rattle.muen_num.proofs.SearchLaws.{none_both, unless_none}
use Rattle.muen_num.specs.Search.{first_after, first_in, unless}
use Rattle.policy_lawful.specs.Domains.{is_monitor, monitor_offence, offence_24}
use Rattle.policy_lawful.specs.Offences.{two}
use Rattle.policy_lawful.specs.Rights.{may_execute}
use Rattle.policy_lawful.specs.Rules.{is_on, subject_cpu}
use Rattle.policy_lawful.specs.source.Monitor.{Monitor}
use Rattle.policy_lawful.specs.source.Source.{Source}
use Rattle.policy_lawful.specs.source.Subject.{Subject}
use Rattle.subject_model.specs.System.{subject_named}
use Rattle.proof_views.specs.AloneRun.{alters}

-- what it watches is another subject, of its CPU
abbrev pub is_beside : Source → Subject → Monitor → Bool
is_beside p q m = not (bytes_eq m.subject q.name) && is_on (subject_cpu p m.subject) q.cpu

pub record MonitorsKept (p : Source) : Type 0 where
  pub beside : (member : List ℕ) (q : Subject) → subject_named p member ≡ Some q → list_all (is_beside p q) q.monitors ≡ true

-- ---- rule 24

-- where none offends, what is found doesn't
none_found : {X O : Type 0} (at : X → Option O) (test : X → Bool) (xs : List X) (x : X) → find test xs ≡ Some x → first_in at xs ≡ None → at x ≡ None
none_found at test [] x is none = absurd (cc (is))
none_found at test (y ∷ ys) x is none =
    let both = none_both (at y) (first_in at ys) none in
    elim (test y) as (λ b. cond b (Some y) (find test ys) ≡ Some x → at x ≡ None) [
      | true ↦ λ e. let same : y ≡ x = cc (e) in subst (λ z. at z ≡ None) same both.0
      | false ↦ λ e. none_found at test ys x e both.1
    ] is

module _ (p : Source) (q : Subject) where
  one_beside : (before : List Monitor) (m : Monitor) → is_monitor p q before m ≡ true → is_beside p q m ≡ true
  one_beside before m h =
      let first = not (list_any (λ b. bytes_eq b.subject m.subject) before) in
      (and_parts (is_beside p q m) first (and_parts (is_beside p q m && first) (not (may_execute m.rights)) h).0).0

  all_beside : (before ms : List Monitor) → first_after (λ before m. unless (is_monitor p q before m) (two q.name m.subject)) before ms ≡ None → list_all (is_beside p q) ms ≡ true
  all_beside before [] none = refl
  all_beside before (m ∷ ms) none =
      let both = none_both (unless (is_monitor p q before m) (two q.name m.subject)) (first_after (λ before m. unless (is_monitor p q before m) (two q.name m.subject)) (before ++ m ∷ []) ms) none in
      and_from (is_beside p q m) (list_all (is_beside p q) ms) (one_beside before m (unless_none (is_monitor p q before m) (two q.name m.subject) both.0)) (all_beside (before ++ m ∷ []) ms both.1)

pub monitors_kept : (p : Source) → offence_24 p ≡ None → MonitorsKept p
unfolding offence_24
monitors_kept p none = record {
  beside = λ member q is. all_beside p q [] q.monitors (none_found (monitor_offence p) (λ s. bytes_eq s.name member) p.subjects q is none);
}

-- ---- whom a monitor may not write

none_alters : (p : Source) (q : Subject) (name : List ℕ) → ((m : Monitor) → is_beside p q m ≡ true → m.subject ≡ name → ⊥) → (ms : List Monitor) → list_all (is_beside p q) ms ≡ true → list_any (alters name) ms ≡ false
none_alters p q name never [] h = refl
none_alters p q name never (m ∷ ms) h =
    let parts = and_parts (is_beside p q m) (list_all (is_beside p q) ms) h in
    let later = none_alters p q name never ms parts.1 in
    elim (cases_Bool (bytes_eq m.subject name)) [
      | inl e ↦ absurd (never m parts.0 ((bytes_eq-Decides m.subject name).0 e))
      | inr n ↦ rw n later
    ]

module _ (p : Source) (kept : MonitorsKept p) where
  -- itself
  pub spares_itself : (member : List ℕ) (q : Subject) → subject_named p member ≡ Some q → list_any (alters q.name) q.monitors ≡ false
  spares_itself member q is =
      none_alters p q q.name
      (λ m beside same.
      let other = (and_parts (not (bytes_eq m.subject q.name)) (is_on (subject_cpu p m.subject) q.cpu) beside).0 in
      true≢false (sym ((bytes_eq-Decides m.subject q.name).1 same) ∙ not-true (bytes_eq m.subject q.name) other))
      q.monitors (kept.beside member q is)

  -- a subject of another CPU
  pub spares_others : (member : List ℕ) (q : Subject) → subject_named p member ≡ Some q → (s : Subject) → subject_named p s.name ≡ Some s → (q.cpu ≡ s.cpu → ⊥) → list_any (alters s.name) q.monitors ≡ false
  spares_others member q is s found apart =
      none_alters p q s.name
      (λ m beside same.
      let here = (and_parts (not (bytes_eq m.subject q.name)) (is_on (subject_cpu p m.subject) q.cpu) beside).1 in
      let its : subject_cpu p m.subject ≡ Some s.cpu = ap (subject_cpu p) same ∙ ap (option_map (λ (s : Subject). s.cpu)) found in
      apart (sym (eqb-true s.cpu q.cpu (subst (λ o. is_on o q.cpu ≡ true) its here))))
      q.monitors (kept.beside member q is)
