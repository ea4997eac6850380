-- The tables of events by the entries of a subject are those of the policy.
use Rattle.std.proofs.Common.{◌≡◌, ℕ, ◌<◌, true, List, [], ◌∷◌, length, map, Some, None, sym, ap, subst, ◌∙◌, arith}
use Rattle.std.specs.Prelude.{option_map, slice_index_or, IfSome}
use Rattle.std.specs.List.{All, AllZip, find, list_all}
use Rattle.std.proofs.lemmas.List.{get_or-map, length-map}
use Rattle.std.proofs.lemmas.List.Elements.{All-cons}
use Rattle.std.proofs.lemmas.Option.{get_or_from_slice_get}
use Rattle.event_emit.specs.ByIndex.{ReachFew, event_part_for_way, event_part, has_name, has_way, source_way, event_table_of, event_tables_of}
use Rattle.event_emit.specs.Tables.{AreTables}
use Rattle.image_soundness.specs.TablesOf.{IsEntry, IsTable, part_raised}
use Rattle.event_emit.specs.declared.event_tables.EventTables.{EventTables}
use Rattle.event_emit.proofs.EntriesReach.{entry_found, few_subjects}
use Rattle.expand_grants.specs.Grants.{AreGrants, AreGrantsOf}
use Rattle.expand_grants.specs.declared.granted.Grants.{Grants}
use Rattle.expand_grants.specs.declared.granted.Way.{Way}
use Rattle.expand_grants.specs.declared.granted.Way.TheVariants.{Call, Trap}
use Rattle.muen_num.specs.Range.{numbers_below}
use Rattle.muen_num.specs.declared.limits.TheConstants.{MOST_CALLS}
use Rattle.muen_num.proofs.Lists.{option_map-option_map}
use Rattle.muen_num.proofs.NumbersBelow.{length_numbers, number_at}
use Rattle.policy_lawful.specs.Lawful.{IsLawful}
use Rattle.policy_lawful.specs.Resolution.{Resolution, source_of}
use Rattle.policy_lawful.specs.declared.resolved.Subject.{Subject}

-- of a list with an element for each number
at_number : {X : Type 0} (f : ℕ → X) (many n : ℕ) (d : X) → n < many → slice_index_or (map f (numbers_below many)) n d ≡ f n
at_number f many n d l =
    let here : n < length (numbers_below many) = subst (λ m. n < m) (sym (length_numbers many)) l in
    get_or-map f (numbers_below many) n 0 d here
    ∙ ap f (get_or_from_slice_get (numbers_below many) n n 0 (number_at many n l))

module _ (r : Resolution) (names : list_all has_name r.subjects ≡ true) (lawful : IsLawful (source_of r)) (s : Subject) (g : Grants) (are : AreGrantsOf r s g) where
  entry_is : (way : Way) → IsEntry (length r.subjects) (event_part_for_way g.events way)
  entry_is way = entry_found r names lawful g.events s (source_way way) (are.events (source_way way))

  is_table : (way : ℕ → Way) → IsTable r s (λ n. source_way (way n)) (event_table_of g.events way)
  unfolding event_table_of
  is_table way = record {
    many = length-map (numbers_below MOST_CALLS) (λ n. event_part_for_way g.events (way n)) ∙ length_numbers MOST_CALLS;
    entries = λ k d l.
        let many : length (map (λ n. event_part_for_way g.events (way n)) (numbers_below MOST_CALLS)) ≡ MOST_CALLS = length-map (numbers_below MOST_CALLS) (λ n. event_part_for_way g.events (way n)) ∙ length_numbers MOST_CALLS in
        subst (IsEntry (length r.subjects)) (sym (at_number (λ n. event_part_for_way g.events (way n)) MOST_CALLS k d (subst (λ m. k < m) many l))) (entry_is (way k));
    raises = λ n l.
        ap (option_map (part_raised r)) (at_number (λ n. event_part_for_way g.events (way n)) MOST_CALLS n None l)
        ∙ option_map-option_map (part_raised r) event_part (find (has_way (way n)) g.events)
        ∙ are.events (source_way (way n));
  }

  tables_are : AreTables r s (event_tables_of g)
  tables_are = record { calls = is_table Call; traps = is_table Trap }

  reach_few : ReachFew g.events
  reach_few way =
      elim (find (has_way way) g.events) as (λ o. IsEntry (length r.subjects) (option_map event_part o) → IfSome o (λ e. e.target < 256)) [
        | None ↦ λ _. tt
        | Some e ↦ λ h. let there = h.0 in let few = few_subjects r names lawful in omega (arith, there, few)
      ] (entry_is way)

-- ---- of all subjects

module _ (r : Resolution) (names : list_all has_name r.subjects ≡ true) (lawful : IsLawful (source_of r)) where
  each_are : (subjects : List Subject) (grants : List Grants) → AllZip (AreGrantsOf r) subjects grants → AllZip (AreTables r) subjects (map event_tables_of grants)
  each_are [] [] h = tt
  each_are [] (g ∷ gs) h = absurd h
  each_are (s ∷ ss) [] h = absurd h
  each_are (s ∷ ss) (g ∷ gs) h = (tables_are r names lawful s g h.0, each_are ss gs h.1)

  pub are_tables : (grants : List Grants) (tables : List EventTables) → AreGrants r grants → tables ≡ map event_tables_of grants → AllZip (AreTables r) r.subjects tables
  are_tables grants tables h is = subst (AllZip (AreTables r) r.subjects) (sym is) (each_are r.subjects grants h)

  each_few : (subjects : List Subject) (grants : List Grants) → AllZip (AreGrantsOf r) subjects grants → All (λ g. ReachFew g.events) grants
  each_few [] [] h = λ k d l. absurd (omega arith)
  each_few [] (g ∷ gs) h = absurd h
  each_few (s ∷ ss) [] h = absurd h
  each_few (s ∷ ss) (g ∷ gs) h = All-cons (λ g. ReachFew g.events) g gs (reach_few r names lawful s g h.0) (each_few ss gs h.1)

  -- what grants reach fits
  pub grants_reach_few : (grants : List Grants) → AreGrants r grants → All (λ g. ReachFew g.events) grants
  grants_reach_few grants h = each_few r.subjects grants h
