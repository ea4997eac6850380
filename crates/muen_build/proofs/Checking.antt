-- What holding one content, and all of them, comes to.
use Rattle.std.proofs.Common.{◌≡◌, ℕ, ◌+◌, ◌<◌, List, [], length, drop, get_or, Option, Some, None, Err, inl, inr, refl, sym, ap, ◌∙◌, arith}
use Rattle.std.specs.Prelude.{slice_get}
use Rattle.std.specs.Str.{bytes_eq}
use Rattle.std.proofs.lemmas.Bool.{cases_lt}
use Rattle.muen_num.specs.Search.{as_refusal, first_in}
use Rattle.muen_num.proofs.FirstSteps.{first_step}
use Rattle.muen_num.proofs.Lists.{read_at}
use Rattle.muen_num.proofs.Pairs.{first_at, other_at}
use Rattle.muen_outside.specs.Looks.{ShowAll}
use Rattle.muen_outside.specs.States.{History, Look}
use Rattle.muen_outside.specs.Store.{Store}
use Rattle.policy_lawful.specs.Resolution.{Resolution, source_of}
use Rattle.policy_lawful.specs.Thing.{items_of}
use Rattle.policy_lawful.specs.Things.{AreDeclared, IsThingOf}
use Rattle.policy_lawful.specs.declared.thing.Thing.{Thing}
use Rattle.policy_lawful.specs.refusal.Refusal.{Refusal}
use Rattle.policy_lawful.specs.source.Content.TheVariants.{File, Inline}
use Rattle.muen_build.specs.Accepting.{Files, Grows, IsAskedBy, IsLengthKnown, IsNext, NotFound, Passes, Refuses, RefusesContents, StopsAfterLooks, insert_all, looks_of, part_length, thing_content, thing_names, thing_refused}
use Rattle.muen_build.specs.Looks.{is_of_file}
use Rattle.muen_build.specs.Refusals.{content_refused, contents_refused, too_long_for}
use Rattle.muen_build.specs.declared.accepted.BuildError.{BuildError}
use Rattle.muen_build.specs.declared.accepted.BuildError.TheVariants.{Refused}
use Rattle.muen_build.proofs.Looks.{grows_not, grows_on, grows_shows, grows_so, stops_from, stops_here, stops_so}
use Rattle.muen_build.proofs.OfThings.{first_refused}
use Rattle.muen_build.proofs.Steps.{file_fails, part_refused}

-- ---- one content

refused_is : (o : Option Refusal) (r : Refusal) → Err r ≡ as_refusal o → o ≡ Some r
refused_is None r h = absurd (cc)
refused_is (Some x) r h = cc

module _ (given : Files) (r : Resolution) (t : Thing) where
  -- bytes of the policy
  module _ (bytes : List ℕ) (is : thing_content r t ≡ Inline bytes) where
    pub inline_stops : (held : Option Store) (h : History) (looks : List Look) (why : Refusal) → Err why ≡ as_refusal (too_long_for t.tag t.size (length bytes))
        → StopsAfterLooks given (IsAskedBy (thing_names r t)) held h h looks (Refuses (thing_refused r t)) (Refused why)
    inline_stops held h looks why e =
        stops_here given (IsAskedBy (thing_names r t)) held h looks (Refuses (thing_refused r t)) why
        (λ files s. ap (content_refused (insert_all files given) t.tag t.size) is ∙ refused_is (too_long_for t.tag t.size (length bytes)) why e)

  -- a file
  module _ (file : List ℕ) (offset : ℕ) (most : Option ℕ) (is : thing_content r t ≡ File file offset most) where
    named : (a c : List Look) (l : Look) → ((m : Store) → ShowAll m c → ShowAll m a) → IsAskedBy (bytes_eq file) c l → IsAskedBy (thing_names r t) c l
    named a c l shows h = (ap (is_of_file l.name) is ∙ h.0, h.1)

    pub file_grows : (held : Option Store) (old new : History) (a b : List Look) → Grows given (IsAskedBy (bytes_eq file)) held old new a b → Grows given (IsAskedBy (thing_names r t)) held old new a b
    file_grows held old new a b g = grows_so given (IsAskedBy (bytes_eq file)) (IsAskedBy (thing_names r t)) held old new a b (named a) g

    pub missing_stops : (held : Option Store) (old new : History) (looks : List Look) (error : BuildError) → StopsAfterLooks given (IsAskedBy (bytes_eq file)) held old new looks (NotFound file) error
        → StopsAfterLooks given (IsAskedBy (thing_names r t)) held old new looks (Refuses (thing_refused r t)) error
    missing_stops held old new looks error e =
        stops_so given (IsAskedBy (bytes_eq file)) (IsAskedBy (thing_names r t)) held old new looks (NotFound file) (Refuses (thing_refused r t)) error (named looks)
        (λ why after shows n files s. ap (content_refused (insert_all files given) t.tag t.size) is ∙ file_fails t.tag t.size file offset most (insert_all files given) why (n files s)) e

    module _ (count : ℕ) (looks : List Look) (known : IsLengthKnown given looks file count) where
      refused_as : (files : Store) → ShowAll files looks → thing_refused r t (insert_all files given) ≡ too_long_for t.tag t.size (part_length count offset most)
      refused_as files s = ap (content_refused (insert_all files given) t.tag t.size) is ∙ part_refused t.tag t.size file offset most count (insert_all files given) (known files s)

      pub long_stops : (before : List Look) (held : Option Store) (old new : History) (why : Refusal) → Grows given (IsAskedBy (bytes_eq file)) held old new before looks
          → Err why ≡ as_refusal (too_long_for t.tag t.size (part_length count offset most)) → StopsAfterLooks given (IsAskedBy (thing_names r t)) held old new before (Refuses (thing_refused r t)) (Refused why)
      long_stops before held old new why grows h = record {
        after = looks;
        grows = file_grows held old new before looks grows;
        says = inr (λ files s. refused_as files s ∙ refused_is (too_long_for t.tag t.size (part_length count offset most)) why h);
      }

-- ---- all of them

-- what is known while things are gone through: which looks were made, and that those passed aren't refused
pub record Passing (r : Resolution) (given : Files) (things : List Thing) (held now_held : Option Store) (old now : History) (found : Files) (i : ℕ) : Type 0 where
  pub grows : Grows given (IsNext given (source_of r)) held old now [] (looks_of found)
  pub passed : (k : ℕ) (t : Thing) → k < i → slice_get things k ≡ Some t → (files : Store) → ShowAll files (looks_of found) → thing_refused r t (insert_all files given) ≡ None
  pub rest : (files : Store) → ShowAll files (looks_of found) → first_in (λ t. thing_refused r t (insert_all files given)) (drop i things) ≡ contents_refused (insert_all files given) (source_of r)
  pub same : now_held ≡ held

module _ (r : Resolution) (given : Files) (things : List Thing) (declared : AreDeclared r (items_of (source_of r)) things) (held : Option Store) (old : History) where
  pub passing_first : Passing r given things held held old old [] 0
  passing_first = record {
    grows = grows_not given (IsNext given (source_of r)) held old [];
    passed = λ k t low at files s. absurd (omega (arith, low));
    rest = λ files s. first_refused r things declared (insert_all files given);
    same = refl;
  }

  module _ (now_held : Option Store) (now : History) (found : Files) (i : ℕ) (p : Passing r given things held now_held old now found i) where
    module _ (t : Thing) (within : i < length things) (is : t ≡ get_or things i t) where
      here : slice_get things i ≡ Some t
      here = read_at things things i t refl within is

      -- a look at its file is the next one
      asked : (c : List Look) (l : Look) → ((m : Store) → ShowAll m c → ShowAll m (looks_of found)) → IsAskedBy (thing_names r t) c l → IsNext given (source_of r) c l
      asked c l shows h =
          let item = first_at (IsThingOf r (source_of r)) (items_of (source_of r)) things i t declared here in
          record {
            number = i;
            item = item.0;
            there = item.1;
            file = ap (is_of_file l.name) (sym item.2.content) ∙ h.0;
            most = h.1;
            fit = λ k j low at files s.
                let its = other_at (IsThingOf r (source_of r)) (items_of (source_of r)) things k j declared at in
                let region = sym its.2.region in
                let content = sym its.2.content in
                (λ n. content_refused (insert_all files given) (region n).tag (region n).size (content n)) ∙ p.passed k its.0 low its.1 files (shows files s);
          }

      pub passing_on : (new_held : Option Store) (new : History) (after : Files) → Grows given (IsAskedBy (thing_names r t)) now_held now new (looks_of found) (looks_of after) → Passes given (looks_of after) (thing_refused r t) → new_held ≡ now_held
          → Passing r given things held new_held old new after (i + 1)
      passing_on new_held new after grows passes stays =
          let more = grows_so given (IsAskedBy (thing_names r t)) (IsNext given (source_of r)) now_held now new (looks_of found) (looks_of after) asked grows in
          let shows = grows_shows given (IsAskedBy (thing_names r t)) now_held now new (looks_of found) (looks_of after) grows in
          record {
            grows = grows_on given (IsNext given (source_of r)) held now_held old now new [] (looks_of found) (looks_of after) p.same p.grows more;
            passed = λ k u low at files s.
                elim (cases_lt k i) as (λ _. thing_refused r u (insert_all files given) ≡ None) [
                  | inl less ↦ p.passed k u less at files (shows files s)
                  | inr least ↦
                      let same : i ≡ k = omega (arith, low, least) in
                      let one : Some t ≡ Some u = sym here ∙ ap (slice_get things) same ∙ at in
                      let it : t ≡ u = cc in
                      ap (λ v. thing_refused r v (insert_all files given)) (sym it) ∙ passes files s
                ];
            rest = λ files s. sym (first_step (λ u. thing_refused r u (insert_all files given)) things i t None within is (sym (passes files s))) ∙ p.rest files (shows files s);
            same = stays ∙ p.same;
          }

      pub passing_stops : (new : History) (error : BuildError) → StopsAfterLooks given (IsAskedBy (thing_names r t)) now_held now new (looks_of found) (Refuses (thing_refused r t)) error
          → StopsAfterLooks given (IsNext given (source_of r)) held old new [] (RefusesContents (source_of r)) error
      passing_stops new error e =
          stops_from given (IsNext given (source_of r)) held now_held old now new [] (looks_of found) (RefusesContents (source_of r)) error p.same p.grows
          (stops_so given (IsAskedBy (thing_names r t)) (IsNext given (source_of r)) now_held now new (looks_of found) (Refuses (thing_refused r t)) (RefusesContents (source_of r)) error asked
          (λ x after shows h files s. sym (p.rest files (shows files s)) ∙ first_step (λ u. thing_refused r u (insert_all files given)) things i t (Some x) within is (sym (h files s))) e)
