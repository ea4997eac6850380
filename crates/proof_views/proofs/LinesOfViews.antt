-- The lines of a subject are those that its views show.
use Rattle.std.proofs.Common.{◌≡◌, ℕ, zero, suc, ◌≤◌, Bool, true, false, cond, List, [], ◌∷◌, ◌++◌, map, Option, Some, None, refl, sym, ap, subst, ◌∙◌, arith}
use Rattle.std.specs.Prelude.{◌==◌, ◌||◌, not, IsTrue}
use Rattle.std.specs.Option.{IfSome, option_map_or}
use Rattle.std.specs.List.{AllByRecursion, cons_option, filter, filter_map, find, list_any}
use Rattle.std.specs.Str.{bytes_eq}
use Rattle.std.proofs.lemmas.Bool.{and_from, and_parts, eqb-false, eqb-true, ne_eqb, not-true, or_from, or_parts}
use Rattle.std.proofs.lemmas.List.{map-append}
use Rattle.std.proofs.lemmas.List.Elements.{filter-append, filter_map-append, recursion_from_All}
use Rattle.std.proofs.lemmas.List.Folds.{list_any-append}
use Rattle.muen_num.specs.Range.{numbers_below}
use Rattle.policy_lawful.proofs.KeptMajors.{MajorsKept, majors_kept}
use Rattle.policy_lawful.proofs.KeptMembers.{MembersKept, members_kept}
use Rattle.policy_lawful.proofs.KeptRules.{rules_of}
use Rattle.policy_lawful.specs.Contents.{Held}
use Rattle.policy_lawful.specs.source.Source.{Source}
use Rattle.policy_lawful.specs.source.Subject.{Subject}
use Rattle.subject_model.specs.DeviceRecord.{DeviceRecord}
use Rattle.muen_num.specs.Numbers.{are_distinct}
use Rattle.subject_model.specs.Run.{begun, run_to, tick_ran, turns}
use Rattle.subject_model.specs.TurnLine.{TurnLine}
use Rattle.subject_model.specs.Clock.{inputs_at, order_at, run_of, system}
use Rattle.subject_model.specs.System.{System, start_of, subject_named, system_turn}
use Rattle.subject_model.specs.View.{Seen, ran_through, seen_in, through, view_of}
use Rattle.proof_views.specs.Laws.{LinesAreThoseOfViews}
use Rattle.proof_views.specs.LinesOf.{lines_of}
use Rattle.proof_views.specs.Members.{AreListed}
use Rattle.proof_views.proofs.ActiveMembers.{begun_listed, turn_listed}
use Rattle.muen_num.proofs.Each.{found}
use Rattle.proof_views.proofs.OwnLines.{other_line}

-- ---- each CPU once

distinct_behind : (xs : List ℕ) (n : ℕ) → are_distinct xs ≡ true → list_any (λ y. y == n) xs ≡ false → are_distinct (xs ++ n ∷ []) ≡ true
distinct_behind [] n d out = refl
distinct_behind (x ∷ xs) n d out =
    let parts = and_parts (not (list_any (λ y. y == x) xs)) (are_distinct xs) d in
    let apart = or_parts (x == n) (list_any (λ y. y == n) xs) out in
    let other : (n == x) ≡ false = ne_eqb n x (λ e. eqb-false x n apart.0 (sym e)) in
    let none : list_any (λ y. y == x) (xs ++ n ∷ []) ≡ false =
    list_any-append (λ y. y == x) xs (n ∷ []) ∙ or_from (list_any (λ y. y == x) xs) ((n == x) || false) (not-true (list_any (λ y. y == x) xs) parts.0) (or_from (n == x) false other refl) in
    and_from (not (list_any (λ y. y == x) (xs ++ n ∷ []))) (are_distinct (xs ++ n ∷ [])) (ap not none) (distinct_behind xs n parts.1 apart.1)

none_above : (n m : ℕ) → n ≤ m → list_any (λ y. y == m) (numbers_below n) ≡ false
none_above zero m l = refl
none_above (suc n) m l =
    list_any-append (λ y. y == m) (numbers_below n) (n ∷ [])
    ∙ or_from (list_any (λ y. y == m) (numbers_below n)) ((n == m) || false) (none_above n m (omega (arith, l)))
    (or_from (n == m) false (ne_eqb n m (λ e. let is : n ≡ m = e in omega (arith, l, is))) refl)

pub numbers_distinct : (n : ℕ) → are_distinct (numbers_below n) ≡ true
numbers_distinct zero = refl
numbers_distinct (suc n) = distinct_behind (numbers_below n) n (numbers_distinct n) (none_above n n (omega arith))

-- of the orders of a record
pub order_distinct : (o : Option (ℕ × List ℕ)) (cpus : ℕ) → IfSome o (λ e. IsTrue (are_distinct e.1)) → are_distinct (option_map_or (λ e. e.1) o (numbers_below cpus)) ≡ true
order_distinct None cpus h = numbers_distinct cpus
order_distinct (Some e) cpus h = h

-- ---- lines that pass a test

module _ (test : TurnLine → Bool) where
  filter_other : (o : Option TurnLine) (ls : List TurnLine) → IfSome o (λ l. test l ≡ false) → filter test (cons_option o ls) ≡ filter test ls
  filter_other None ls h = refl
  filter_other (Some l) ls h = ap (λ b. cond b (l ∷ filter test ls) (filter test ls)) h

  pub find_other : (o : Option TurnLine) (ls : List TurnLine) → IfSome o (λ l. test l ≡ false) → find test (cons_option o ls) ≡ find test ls
  find_other None ls h = refl
  find_other (Some l) ls h = ap (λ b. cond b (Some l) (find test ls)) h

  last_one : (o : Option TurnLine) (ls : List TurnLine) → filter test ls ≡ [] → filter test (cons_option o ls) ≡ cons_option (find test (cons_option o [])) []
  last_one None ls none = none
  last_one (Some l) ls none =
      elim (test l) as (λ b. cond b (l ∷ filter test ls) (filter test ls) ≡ cons_option (cond b (Some l) None) []) [
        | true ↦ ap (λ xs. l ∷ xs) none
        | false ↦ none
      ]

module _ (p : Source) (majors : MajorsKept p) (members : MembersKept p) (s : Subject) (is : subject_named p s.name ≡ Some s) where
  -- ---- the turns of a tick

  module _ (tick : ℕ) where
    none_of : (cpus : List ℕ) (y : System) → AreListed p y.active → list_any (λ c. c == s.cpu) cpus ≡ false → lines_of s.name (turns (system p) tick cpus y).lines ≡ []
    none_of [] y h out = refl
    none_of (c ∷ cs) y h out =
        let parts = or_parts (c == s.cpu) (list_any (λ c. c == s.cpu) cs) out in
        let turned = system_turn p c tick y in
        filter_other (λ l. bytes_eq l.subject s.name) turned.line (turns (system p) tick cs turned.state).lines (other_line p majors members s is c tick y h parts.0)
        ∙ none_of cs turned.state (turn_listed p c tick y h) parts.1

    of_turns : (cpus : List ℕ) (y : System) → AreListed p y.active → are_distinct cpus ≡ true
        → lines_of s.name (turns (system p) tick cpus y).lines ≡ cons_option (find (λ l. bytes_eq l.subject s.name) (turns (system p) tick (through s.cpu cpus) y).lines) []
    of_turns [] y h d = refl
    of_turns (c ∷ cs) y h d =
        let parts = and_parts (not (list_any (λ m. m == c) cs)) (are_distinct cs) d in
        let turned = system_turn p c tick y in
        let rest = (turns (system p) tick cs turned.state).lines in
        let later = turn_listed p c tick y h in
        elim (c == s.cpu) as (λ b. (c == s.cpu) ≡ b → lines_of s.name (cons_option turned.line rest) ≡ cons_option (find (λ l. bytes_eq l.subject s.name) (turns (system p) tick (cond b (c ∷ []) (c ∷ through s.cpu cs)) y).lines) []) [
          | true ↦ λ e.
              let others : list_any (λ m. m == s.cpu) cs ≡ false = subst (λ n. list_any (λ m. m == n) cs ≡ false) (eqb-true c s.cpu e) (not-true (list_any (λ m. m == c) cs) parts.0) in
              last_one (λ l. bytes_eq l.subject s.name) turned.line rest (none_of cs turned.state later others)
          | false ↦ λ e.
              let out = other_line p majors members s is c tick y h e in
              filter_other (λ l. bytes_eq l.subject s.name) turned.line rest out
              ∙ of_turns cs turned.state later parts.1
              ∙ ap (λ o. cons_option o []) (sym (find_other (λ l. bytes_eq l.subject s.name) turned.line (turns (system p) tick (through s.cpu cs) turned.state).lines out))
        ] refl

  -- ---- a run

  module _ (files : Held) (r : DeviceRecord) (once : AllByRecursion (λ (e : ℕ × List ℕ). IsTrue (are_distinct e.1)) r.orders) where
    of_tick : (n : ℕ) → lines_of s.name (tick_ran (system p) n (inputs_at r n) (order_at p r n) (run_to (system p) (inputs_at r) (order_at p r) n (start_of p files)).state).lines
        ≡ cons_option (seen_in p s (ran_through p files r s.cpu n)).line []
    of_tick n =
        of_turns n (order_at p r n) (begun (system p) n (inputs_at r n) (run_to (system p) (inputs_at r) (order_at p r) n (start_of p files)).state) (begun_listed p files members (inputs_at r) (order_at p r) n)
        (order_distinct (find (λ e. e.0 == n) r.orders) p.processor.logical_cpus (found (λ (e : ℕ × List ℕ). IsTrue (are_distinct e.1)) (λ e. e.0 == n) r.orders once))

    lines_to : (n : ℕ) → lines_of s.name (run_to (system p) (inputs_at r) (order_at p r) n (start_of p files)).lines
        ≡ filter_map (λ v. v.line) (map (λ tick. seen_in p s (ran_through p files r s.cpu tick)) (numbers_below n))
    lines_to zero = refl
    lines_to (suc n) =
        let seen : ℕ → Seen = λ tick. seen_in p s (ran_through p files r s.cpu tick) in
        let before = run_to (system p) (inputs_at r) (order_at p r) n (start_of p files) in
        filter-append (λ l. bytes_eq l.subject s.name) before.lines (tick_ran (system p) n (inputs_at r n) (order_at p r n) before.state).lines
        ∙ ap (λ xs. xs ++ lines_of s.name (tick_ran (system p) n (inputs_at r n) (order_at p r n) before.state).lines) (lines_to n)
        ∙ ap (λ xs. filter_map (λ v. v.line) (map seen (numbers_below n)) ++ xs) (of_tick n)
        ∙ sym (filter_map-append (λ v. v.line) (map seen (numbers_below n)) (seen n ∷ []))
        ∙ ap (filter_map (λ v. v.line)) (sym (map-append seen (numbers_below n) (n ∷ [])))

pub lines_of_views : LinesAreThoseOfViews
unfolding run_of view_of
lines_of_views p files r s lawful is once =
    lines_to p (majors_kept p (rules_of lawful).rule_16) (members_kept p (rules_of lawful).rule_17) s is files r (recursion_from_All (λ (e : ℕ × List ℕ). IsTrue (are_distinct e.1)) r.orders once) r.end
