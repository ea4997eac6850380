-- What is told of a document, from what is told of its rules, its contents and its room.
use Rattle.std.proofs.Common.{◌≡◌, ℕ, List, [], ◌∷◌, ◌++◌, Option, Some, None, Result, Ok, Err, refl, ap, ◌∙◌}
use Rattle.std.specs.FinMap.{insert}
use Rattle.std.specs.List.{cons_option}
use Rattle.muen_build.specs.Accepting.{AreAskedInTurn, Grows, IsAskedBy}
use Rattle.muen_build.specs.Looks.{names_file}
use Rattle.muen_build.specs.Refusals.{lawful_alone, lawful_policy_of}
use Rattle.muen_build.proofs.Accepting.{all_looked, asked_in_turn}
use Rattle.muen_build.proofs.Looks.{grows_not, in_turn_so}
use Rattle.muen_outside.specs.States.{History, Look}
use Rattle.muen_outside.specs.Store.{Store}
use Rattle.policy_json.specs.Document.{policy_of}
use Rattle.policy_lawful.specs.Lawful.{kept_or, unlawful}
use Rattle.policy_lawful.specs.refusal.Refusal.{Refusal}
use Rattle.policy_lawful.specs.source.Source.{Source}
use Rattle.policy_lint.specs.All.{all_of_lawful, all_refusals, lawful_or_all, read_or_alone, rules_or_all}
use Rattle.policy_lint.specs.Linting.{IsNamed, LintFails, Lints, TellsContents}
use Rattle.policy_lint.specs.Seen.{StopsLooking}
use Rattle.policy_lint.specs.declared.error.LintError.{LintError}
use Rattle.policy_lint.specs.declared.error.LintError.TheVariants.{NoMemory}
use Rattle.policy_names.specs.Names.{names_broken}
use Rattle.rules_told.specs.Broken.{all_kept_or, broken_rules}
use Rattle.rules_told.proofs.RulesTold.{none_broken}
use Rattle.region_alloc.specs.Placement.{no_room}

-- ---- a policy that keeps every rule

all_kept_so : (p q : Source) (rs : List Refusal) → Ok p ≡ all_kept_or q rs → (rs ≡ []) × (q ≡ p)
all_kept_so p q [] h = (refl, cc)
all_kept_so p q (r ∷ rs) h = absurd (cc)

of_rules : (p q : Source) (o : Option Refusal) → Ok p ≡ rules_or_all q o → kept_or q (unlawful q) ≡ Ok p
of_rules p q None h = let k = all_kept_so p q (broken_rules q) h in ap (kept_or q) (none_broken q k.0) ∙ ap Ok k.1
of_rules p q (Some r) h = absurd (cc)

of_read : (p : Source) (answer : Result Source Refusal) → Ok p ≡ read_or_alone answer → lawful_alone answer ≡ Ok p
of_read p (Ok q) h = of_rules p q (names_broken q) h
of_read p (Err r) h = absurd (cc)

lawful_so : (document : List ℕ) (p : Source) → Ok p ≡ lawful_or_all document → lawful_policy_of document ≡ Ok p
unfolding lawful_or_all lawful_policy_of
lawful_so document p h = of_read p (policy_of document) h

-- ---- no look

module _ (name document : List ℕ) (held : Option Store) (h : History) where
  none : Grows ((name, document) ∷ []) (λ before l. ⊥) held h h [] []
  none = grows_not ((name, document) ∷ []) (λ before l. ⊥) held h []

  -- a document that is refused for its rules or for less
  pub rules_lint : (refusals : List Refusal) → Err refusals ≡ lawful_or_all document → Lints name document held h h refusals
  unfolding all_refusals
  rules_lint refusals is = record {
    looks = [];
    looked = all_looked name document held h h [] (λ before l. ⊥) none;
    asked = tt;
    told = λ files s. ap (all_of_lawful (insert files name document)) is;
  }

  -- memory for that was refused
  pub rules_fail : LintFails name document held h h NoMemory
  rules_fail = record { looks = []; looked = all_looked name document held h h [] (λ before l. ⊥) none; asked = tt; says = tt }

-- ---- looks at files that a policy names

module _ (name document : List ℕ) (p : Source) (is : Ok p ≡ lawful_or_all document) (held : Option Store) (old new : History) where
  asked : (looks : List Look) → Grows ((name, document) ∷ []) (IsAskedBy (names_file p)) held old new [] looks → AreAskedInTurn (IsNamed document) [] looks
  asked looks g =
      in_turn_so (IsAskedBy (names_file p)) (IsNamed document) [] [] (λ m s. s)
      (λ before l shows h. record { policy = p; lawful = lawful_so document p is; file = h.0; most = h.1 }) looks (asked_in_turn ((name, document) ∷ []) (IsAskedBy (names_file p)) held old new looks g)

  pub contents_lint : (contents refusals : List Refusal) → TellsContents ((name, document) ∷ []) p held old new contents → refusals ≡ contents ++ cons_option (no_room p) [] → Lints name document held old new refusals
  unfolding all_refusals
  contents_lint contents refusals t all = record {
    looks = t.looks;
    looked = all_looked name document held old new t.looks (IsAskedBy (names_file p)) t.grows;
    asked = asked t.looks t.grows;
    told = λ files s. all ∙ ap (λ rs. rs ++ cons_option (no_room p) []) (t.told files s) ∙ ap (all_of_lawful (insert files name document)) is;
  }

  pub contents_fail : (error : LintError) → StopsLooking ((name, document) ∷ []) (IsAskedBy (names_file p)) held old new [] error → LintFails name document held old new error
  contents_fail error e = record {
    looks = e.after;
    looked = all_looked name document held old new e.after (IsAskedBy (names_file p)) e.grows;
    asked = asked e.after e.grows;
    says = e.says;
  }

  -- memory for the last answer is refused
  pub room_fails : (contents : List Refusal) → TellsContents ((name, document) ∷ []) p held old new contents → LintFails name document held old new NoMemory
  room_fails contents t = contents_fail NoMemory (record { after = t.looks; grows = t.grows; says = tt })
