-- The systems are lawful, and the set of members is the one of `cipher`.
use Rattle.std.proofs.Common.{◌≡◌, ℕ, List, [], ◌∷◌, true, false, refl, sym, ◌∙◌, true≢false}
use Rattle.std.specs.Prelude.{codes}
use Rattle.std.specs.List.{All}
use Rattle.std.proofs.lemmas.List.Elements.{All-from_recursion}
use Rattle.proof_isolation.specs.Flows.{IsClosed, closure_of, flows_to, is_member}
use Rattle.policy_lawful.specs.Events.{event_of}
use Rattle.policy_lawful.specs.Domains.{offence_21, offence_22, offence_23, offence_24}
use Rattle.policy_lawful.specs.Lawful.{IsLawful, offences, unlawful}
use Rattle.policy_lawful.specs.MoreRules.{offence_6, offence_7, offence_9, offence_10, offence_11, offence_12, offence_13, offence_14, offence_15, offence_19}
use Rattle.policy_lawful.specs.Rules.{offence_1, offence_2, offence_3, offence_4, offence_5, offence_8, offence_16, offence_17, offence_18, offence_20, first_overlap, window_extents}
use Rattle.policy_lawful.specs.Windows.{windows_of}
use Rattle.policy_lawful.specs.source.Mapping.{Mapping}
use Rattle.policy_lawful.specs.source.Region.{Region}
use Rattle.policy_lawful.specs.source.Source.{Source}
use Rattle.policy_lawful.specs.source.Subject.{Subject}
use Rattle.proof_gateway.specs.Gateway.{with_black, black, black_code, plain, keys, slots, cipher, members, more_memory, pad, on_pad}

-- whatever the code of `black` is
pub lawful : (code : List ℕ) → IsLawful (with_black [] [] code)
unfolding unlawful offences offence_1 offence_2 offence_3 offence_4 offence_5 offence_6 offence_7 offence_8 offence_9 offence_10 offence_11 offence_12 offence_13 offence_14 offence_15 offence_16 offence_17 offence_18 offence_19 offence_20 offence_21 offence_22 offence_23 offence_24 first_overlap window_extents windows_of
lawful code = refl

pub lawful_with_more : IsLawful more_memory
unfolding unlawful offences offence_1 offence_2 offence_3 offence_4 offence_5 offence_6 offence_7 offence_8 offence_9 offence_10 offence_11 offence_12 offence_13 offence_14 offence_15 offence_16 offence_17 offence_18 offence_19 offence_20 offence_21 offence_22 offence_23 offence_24 first_overlap window_extents windows_of
lawful_with_more = refl

pub set_of_cipher : (code : List ℕ) → closure_of (with_black [] [] code) (codes "cipher") ≡ members
unfolding closure_of flows_to windows_of event_of
set_of_cipher code = refl

pub set_with_more : closure_of more_memory (codes "cipher") ≡ members
unfolding closure_of flows_to windows_of event_of
set_with_more = refl

-- no flow leads from `black` to this subject, so what flows to it is a member
into : (p : Source) (windows : List Mapping) (s : Subject) → flows_to p (black windows) s ≡ false → All (λ u. flows_to p u s ≡ true → is_member members u ≡ true) (plain ∷ keys ∷ slots ∷ cipher ∷ black windows ∷ [])
into p windows s none =
    All-from_recursion (λ u. flows_to p u s ≡ true → is_member members u ≡ true) (plain ∷ keys ∷ slots ∷ cipher ∷ black windows ∷ [])
    (λ _. refl, (λ _. refl, (λ _. refl, (λ _. refl, (λ h. absurd (true≢false (sym h ∙ none)), tt)))))

closed_where : (regions : List Region) (windows : List Mapping) (code : List ℕ)
    → flows_to (with_black regions windows code) (black windows) plain ≡ false → flows_to (with_black regions windows code) (black windows) keys ≡ false
    → flows_to (with_black regions windows code) (black windows) slots ≡ false → flows_to (with_black regions windows code) (black windows) cipher ≡ false
    → IsClosed (with_black regions windows code) members
closed_where regions windows code a b c d =
    let p = with_black regions windows code in
    record {
      sources =
          All-from_recursion (λ s. is_member members s ≡ true → All (λ u. flows_to p u s ≡ true → is_member members u ≡ true) p.subjects) p.subjects
          (λ _. into p windows plain a, (λ _. into p windows keys b, (λ _. into p windows slots c, (λ _. into p windows cipher d, (λ h. absurd (true≢false (sym h)), tt)))));
    }

pub closed : (code : List ℕ) → IsClosed (with_black [] [] code) members
unfolding flows_to windows_of event_of
closed code = closed_where [] [] code refl refl refl refl

pub closed_with_more : IsClosed more_memory members
unfolding flows_to windows_of event_of
closed_with_more = closed_where (pad ∷ []) (on_pad ∷ []) black_code refl refl refl refl
