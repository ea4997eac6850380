-- What `map` and `flows` answer, as the policy's file is read.
use Rattle.std.proofs.Common.{◌≡◌, ℕ, List, [], ◌∷◌, Option, None, Result, Ok, Err, refl, sym, ap, ◌∙◌}
use Rattle.muen_num.specs.Answers.{Answers}
use Rattle.muen_num.specs.declared.limits.TheConstants.{POLICY_MOST}
use Rattle.muen_build.specs.Refusals.{laid_policy_of, lawful_policy_of}
use Rattle.muen_outside.specs.States.{History, Look, look}
use Rattle.muen_outside.specs.Store.{Store, whole}
use Rattle.policy_lawful.specs.refusal.Refusal.{Refusal}
use Rattle.policy_lawful.specs.refusal.Refusal.TheVariants.{NoMemory as NoMemoryFor}
use Rattle.policy_lawful.specs.source.Source.{Source}
use Rattle.flow_report.specs.FlowText.{flow_text_of}
use Rattle.expand_kernel.specs.thing.Region.{Region}
use Rattle.map_report.specs.MapText.{map_text_of}
use Rattle.map_report.specs.Placement.{no_room, no_room_for, placement_of}
use Rattle.policy_lawful.specs.Lawful.{kept_or}
use Rattle.muen_build.proofs.Refusing.{laid_is, room_decides, unlawful_laid}
use Rattle.muen_top.specs.Answers.{Answer, prints, refused, stops, map_answer, map_policy_answer, placed_answer, flows_answer, flows_policy_answer}
use Rattle.muen_top.specs.Commands.{map, flows}
use Rattle.muen_top.specs.FilesSeen.{Saw}
use Rattle.muen_top.specs.Loads.{NotRead}
use Rattle.muen_top.specs.PolicyCommands.{IsAnswered, IsMapOf, StopsCommand}
use Rattle.muen_top.specs.CommandErrors.{error_of_refusal}
use Rattle.muen_top.specs.declared.outcome.CommandError.{CommandError}
use Rattle.muen_top.proofs.FirstFile.{AsksOn, RestsOn, gives, not_read, policy_refused}

abbrev NoMore : List ℕ → List Look → Type 0
NoMore document more = more ≡ []

-- ---- `map`

-- where there is room, there is a placement
pub placement_there : (a : Result (List ℕ) Region) → no_room_for a ≡ None → (addresses : List ℕ) × (a ≡ Ok addresses)
placement_there (Ok addresses) h = (addresses, refl)
placement_there (Err r) h = absurd (cc)

-- a policy that is laid out is lawful, and has a placement
laid_so : (bytes : List ℕ) (p : Source) → laid_policy_of bytes ≡ Ok p → (lawful_policy_of bytes ≡ Ok p) × ((addresses : List ℕ) × (placement_of p ≡ Ok addresses))
unfolding no_room
laid_so bytes p h = let laid = laid_is bytes p h in (laid.0, placement_there (placement_of p) laid.1)

-- where the policy is lawful, a refusal is for want of room
no_place : (p : Source) (a : Result (List ℕ) Region) (r : Refusal) → kept_or p (no_room_for a) ≡ Err r → placed_answer p a ≡ stops (refused r)
no_place p (Ok addresses) r h = absurd (cc)
no_place p (Err x) r h = ap map_policy_answer h

of_lawful : (bytes : List ℕ) (r : Refusal) (o : Result Source Refusal) → lawful_policy_of bytes ≡ o → laid_policy_of bytes ≡ Err r → map_policy_answer o ≡ stops (refused r)
unfolding no_room
of_lawful bytes r (Ok p) is h = no_place p (placement_of p) r (sym (room_decides bytes p is) ∙ h)
of_lawful bytes r (Err x) is h = ap map_policy_answer (sym (unlawful_laid bytes x is) ∙ h)

-- a policy that isn't laid out is refused for the same reason
not_laid_so : (bytes : List ℕ) (r : Refusal) → laid_policy_of bytes ≡ Err r → map_policy_answer (lawful_policy_of bytes) ≡ stops (refused r)
not_laid_so bytes r h = of_lawful bytes r (lawful_policy_of bytes) refl h

map_next : Store → List ℕ → Answer
map_next m bytes = map_policy_answer (lawful_policy_of bytes)

rests_map : (policy : List ℕ) → RestsOn POLICY_MOST policy map_next (map policy)
unfolding map_answer map_next
rests_map policy m = refl

asks_map : (policy : List ℕ) → AsksOn POLICY_MOST policy NoMore (map policy)
asks_map policy = record { asks = λ looks a. a; none = λ bytes. refl }

module _ (policy : List ℕ) (held : Option Store) (old new : History) where
  pub map_not_read : (error : CommandError) → NotRead policy POLICY_MOST held old new error → StopsCommand (map policy) held old new error
  map_not_read error h = not_read POLICY_MOST policy map_next NoMore (map policy) (rests_map policy) (asks_map policy) held old new error h

  module _ (bytes : List ℕ) (saw : Saw held old new (look policy POLICY_MOST (Ok (whole bytes)) ∷ [])) where
    pub map_refused : (r : Refusal) (error : CommandError) → Answers NoMemoryFor (laid_policy_of bytes) (Err r) → error ≡ error_of_refusal r → StopsCommand (map policy) held old new error
    unfolding map_next
    map_refused r error h made =
        policy_refused POLICY_MOST policy map_next NoMore (map policy) (rests_map policy) (asks_map policy) held old new bytes saw (laid_policy_of bytes) r error h (λ e m. not_laid_so bytes r e) made

    pub map_gives : (p : Source) → laid_policy_of bytes ≡ Ok p → IsMapOf policy held old new p
    unfolding map_next
    map_gives p is =
        let laid = laid_so bytes p is in
        record {
          addresses = laid.1.0;
          placement = laid.1.1;
          answered =
              gives POLICY_MOST policy map_next NoMore (map policy) (rests_map policy) (asks_map policy) held old new bytes saw (prints (map_text_of p laid.1.0))
              (λ m. ap map_policy_answer laid.0 ∙ ap (placed_answer p) laid.1.1);
        }

-- ---- `flows`

flows_next : Store → List ℕ → Answer
flows_next m bytes = flows_policy_answer (lawful_policy_of bytes)

rests_flows : (policy : List ℕ) → RestsOn POLICY_MOST policy flows_next (flows policy)
unfolding flows_answer flows_next
rests_flows policy m = refl

asks_flows : (policy : List ℕ) → AsksOn POLICY_MOST policy NoMore (flows policy)
asks_flows policy = record { asks = λ looks a. a; none = λ bytes. refl }

module _ (policy : List ℕ) (held : Option Store) (old new : History) where
  pub flows_not_read : (error : CommandError) → NotRead policy POLICY_MOST held old new error → StopsCommand (flows policy) held old new error
  flows_not_read error h = not_read POLICY_MOST policy flows_next NoMore (flows policy) (rests_flows policy) (asks_flows policy) held old new error h

  module _ (bytes : List ℕ) (saw : Saw held old new (look policy POLICY_MOST (Ok (whole bytes)) ∷ [])) where
    pub flows_refused : (r : Refusal) (error : CommandError) → Answers NoMemoryFor (lawful_policy_of bytes) (Err r) → error ≡ error_of_refusal r → StopsCommand (flows policy) held old new error
    unfolding flows_next
    flows_refused r error h made =
        policy_refused POLICY_MOST policy flows_next NoMore (flows policy) (rests_flows policy) (asks_flows policy) held old new bytes saw (lawful_policy_of bytes) r error h (λ e m. ap flows_policy_answer e) made

    pub flows_gives : (p : Source) → lawful_policy_of bytes ≡ Ok p → IsAnswered (flows policy) held old new (prints (flow_text_of p))
    unfolding flows_next
    flows_gives p is = gives POLICY_MOST policy flows_next NoMore (flows policy) (rests_flows policy) (asks_flows policy) held old new bytes saw (prints (flow_text_of p)) (λ m. ap flows_policy_answer is)
