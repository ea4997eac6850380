-- From a lawful policy whose contents are held against files to one that is accepted.
use Rattle.std.proofs.Common.{◌≡◌, inl, inr, ℕ, List, [], ◌∷◌, Option, Some, None, IfSome, Ok, Err, refl, sym, ap, subst, ◌∙◌}
use Rattle.std.specs.Prelude.{if◌then◌else◌}
use Rattle.std.specs.FinMap.{insert}
use Rattle.muen_num.specs.Answers.{Answers, Explains}
use Rattle.muen_num.proofs.Lookups.{same_self}
use Rattle.muen_outside.specs.Looks.{ShowAll}
use Rattle.muen_outside.specs.States.{History, Look, looked}
use Rattle.muen_outside.specs.Store.{Store, find_bytes}
use Rattle.policy_lawful.specs.refusal.Refusal.{Refusal}
use Rattle.policy_lawful.specs.refusal.Refusal.TheVariants.{NoMemory}
use Rattle.policy_lawful.specs.source.Source.{Source}
use Rattle.muen_build.specs.Accepting.{Accepts, AreAsked, AreAskedFor, AreAskedInTurn, FailsWith, Files, Grows, HasContents, IsAsked, IsNext, LacksContents, LookedBeside, Passes, RefusesContents, RefusesDocument, StopsAfterLooks, looks_of}
use Rattle.muen_build.specs.Looks.{Looked}
use Rattle.muen_build.specs.Refusals.{contents_refused, lawful_policy_of}
use Rattle.muen_build.specs.declared.accepted.BuildError.{BuildError}
use Rattle.muen_build.specs.declared.accepted.BuildError.TheVariants.{Refused}
use Rattle.muen_build.specs.Reading.{things_read}
use Rattle.muen_build.proofs.Held.{things_held}
use Rattle.policy_lawful.specs.Resolution.{Resolution, source_of}
use Rattle.policy_lawful.specs.Thing.{placed_items}
use Rattle.policy_lawful.specs.Things.{AreDeclared, placed_things}
use Rattle.region_alloc.specs.Placement.{no_room}
use Rattle.muen_build.proofs.Looks.{grows_not, in_turn_so, stops_so}
use Rattle.muen_build.proofs.Refusing.{built_so, contents_first, not_lawful, room_last}

-- ---- all looks of a call

-- at files that contents name
module _ (given : Files) (Asked : List Look → Look → Type 0) (held : Option Store) (old new : History) (looks : List Look) (g : Grows given Asked held old new [] looks) where
  pub all_beside : LookedBeside given held old new looks
  all_beside = record {
    history = g.history ∙ ap (looked old) (sym g.grown);
    single = g.single tt;
    others = λ name bytes is. g.others name bytes is tt;
    told = subst (λ ls. IfSome held (λ m. ShowAll m ls)) (sym g.grown) g.told;
  }

  pub asked_in_turn : AreAskedInTurn Asked [] looks
  asked_in_turn = subst (AreAskedInTurn Asked []) (sym g.grown) g.asked

-- the document stands for its name
given_first : (name document : List ℕ) → find_bytes name ((name, document) ∷ []) ≡ Some document
given_first name document = ap (λ b. if b then Some document else None) (same_self name)

-- the next looks by a policy are those that its document asks for
pub asked_of : (given : Files) (document : List ℕ) (p : Source) (looks : List Look) → lawful_policy_of document ≡ Ok p → AreAskedInTurn (IsNext given p) [] looks → AreAsked given document looks
asked_of given document p looks is h = in_turn_so (IsNext given p) (IsAsked given document) [] [] (λ m s. s) (λ before l shows next. record { policy = p; lawful = is; next = next }) looks h

module _ (name document : List ℕ) (held : Option Store) (old new : History) (looks : List Look) where
  pub all_looked : (Asked : List Look → Look → Type 0) → Grows ((name, document) ∷ []) Asked held old new [] looks → Looked name held old new looks
  all_looked Asked g =
      let b = all_beside ((name, document) ∷ []) Asked held old new looks g in
      record { history = b.history; single = b.single; others = b.others name document (given_first name document); told = b.told }

  pub all_asked : (p : Source) → lawful_policy_of document ≡ Ok p → Grows ((name, document) ∷ []) (IsNext ((name, document) ∷ []) p) held old new [] looks → AreAskedFor name document looks
  all_asked p is g = asked_of ((name, document) ∷ []) document p looks is (asked_in_turn ((name, document) ∷ []) (IsNext ((name, document) ∷ []) p) held old new looks g)

-- ---- how it ends

-- it isn't lawful
pub unlawful_fails : (name document : List ℕ) (held : Option Store) (h : History) (r : Refusal) → Answers NoMemory (lawful_policy_of document) (Err r) → FailsWith name document held h h (Refused r)
unlawful_fails name document held h r answer =
    let none = grows_not ((name, document) ∷ []) (λ before l. ⊥) held h [] in
    record {
      looks = [];
      looked = all_looked name document held h h [] (λ before l. ⊥) none;
      asked = tt;
      says = elim answer [
        | inl is ↦ inl is
        | inr e ↦ inr (λ files s. not_lawful (insert files name document) document r e)
      ];
    }

module _ (name document : List ℕ) (p : Source) (is : lawful_policy_of document ≡ Ok p) where
  -- its contents are refused, or a look at them failed
  pub contents_fail : (held : Option Store) (old new : History) (error : BuildError) → StopsAfterLooks ((name, document) ∷ []) (IsNext ((name, document) ∷ []) p) held old new [] (RefusesContents p) error → FailsWith name document held old new error
  contents_fail held old new error e =
      let stops =
      stops_so ((name, document) ∷ []) (IsNext ((name, document) ∷ []) p) (IsNext ((name, document) ∷ []) p) held old new [] (RefusesContents p) (RefusesDocument document) error (λ before l shows h. h)
      (λ r after shows h files s. contents_first (insert files name document) document p r is (h files s)) e in
      record {
        looks = stops.after;
        looked = all_looked name document held old new stops.after (IsNext ((name, document) ∷ []) p) stops.grows;
        asked = all_asked name document held old new stops.after p is stops.grows;
        says = stops.says;
      }

  module _ (found : Files) (passes : Passes ((name, document) ∷ []) (looks_of found) (λ files. contents_refused files p)) where
    -- there is no room
    pub room_fails : (held : Option Store) (old new : History) (r : Refusal) → Grows ((name, document) ∷ []) (IsNext ((name, document) ∷ []) p) held old new [] (looks_of found) → Explains NoMemory (no_room p) r → FailsWith name document held old new (Refused r)
    room_fails held old new r grows h = record {
      looks = looks_of found;
      looked = all_looked name document held old new (looks_of found) (IsNext ((name, document) ∷ []) p) grows;
      asked = all_asked name document held old new (looks_of found) p is grows;
      says = elim h [
        | inl m ↦ inl m
        | inr e ↦ inr (λ files s. room_last (insert files name document) document p r is (passes files s) e)
      ];
    }

    -- nothing is refused
    pub accepts : no_room p ≡ None → Accepts name (looks_of found) document p
    accepts room files s = built_so (insert files name document) document p is (passes files s) room

-- ---- contents alone

module _ (given : Files) (held : Option Store) (old new : History) where
  pub has_contents : (r : Resolution) → AreDeclared r (placed_items (source_of r)) (placed_things r) → (found : Files) (things : List (List ℕ)) → Grows given (IsNext given (source_of r)) held old new [] (looks_of found)
      → Passes given (looks_of found) (λ files. contents_refused files (source_of r)) → things ≡ things_read given found (source_of r) → HasContents given r held old new things
  has_contents r declared found things grows passes are = record {
    looks = looks_of found;
    looked = all_beside given (IsNext given (source_of r)) held old new (looks_of found) grows;
    asked = asked_in_turn given (IsNext given (source_of r)) held old new (looks_of found) grows;
    fit = passes;
    are = λ files s. are ∙ things_held given found r declared passes files s;
  }

  pub lacks_contents : (p : Source) (error : BuildError) → StopsAfterLooks given (IsNext given p) held old new [] (RefusesContents p) error → LacksContents given p held old new error
  lacks_contents p error e = record {
    looks = e.after;
    looked = all_beside given (IsNext given p) held old new e.after e.grows;
    asked = asked_in_turn given (IsNext given p) held old new e.after e.grows;
    says = e.says;
  }

  pub no_memory : (p : Source) (found : Files) → Grows given (IsNext given p) held old new [] (looks_of found) → LacksContents given p held old new (Refused NoMemory)
  no_memory p found grows = lacks_contents p (Refused NoMemory) (record { after = looks_of found; grows = grows; says = inl refl })
