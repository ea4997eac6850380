-- Records that devices make which answer members (this project's own).
use Rattle.std.specs.Prelude.{◌≡◌, ℕ, zero, suc, List, [], ◌++◌, filter, map}
use Rattle.policy_lawful.specs.Contents.{Held}
use Rattle.policy_lawful.specs.source.Source.{Source}
use Rattle.muen_num.specs.Range.{numbers_below}
use Rattle.subject_model.specs.DeviceRecord.{DeviceRecord, NamedInput}
use Rattle.proof_isolation.specs.Agree.{holds_member, input_reaches_member}
use Rattle.proof_reactive.specs.Answering.{Heard, Strategy, heard}

-- so many ticks with these inputs, and the CPUs by number
abbrev pub plain_record : ℕ → List (ℕ × NamedInput) → DeviceRecord
plain_record end inputs = record { end = end; inputs = inputs; orders = [] }

-- devices that answer members, and others that do in each tick what they like
module _ (answers : Heard → ℕ → List NamedInput) (others : ℕ → List NamedInput) (members : List (List ℕ)) (p : Source) (f : Held) where
  -- tick by tick, the answers to what members have printed on the inputs before, and what the others do
  abbrev pub played_inputs : ℕ → List (ℕ × NamedInput)
  played_inputs zero = []
  played_inputs (suc n) =
      played_inputs n ++ map (λ i. (n, i)) (answers (heard p members f (plain_record n (played_inputs n)) n) n ++ others n)

  abbrev pub played : ℕ → DeviceRecord
  played n = plain_record n (played_inputs n)

-- the strategy of such devices: the CPUs that hold members go by number
abbrev pub by_answers : (Heard → ℕ → List NamedInput) → List ℕ → Strategy
by_answers answers cpus = record { inputs = answers; order = λ heard tick. cpus }

-- all that answers do reaches members, and nothing that the others do; and these are the CPUs that hold members
pub record AreTold (answers : Heard → ℕ → List NamedInput) (others : ℕ → List NamedInput) (cpus : List ℕ) (members : List (List ℕ)) (p q : Source) : Type 0 where
  pub answers_reach : (h : Heard) (tick : ℕ) → filter (input_reaches_member p q members) (answers h tick) ≡ answers h tick
  pub others_do_not : (tick : ℕ) → filter (input_reaches_member p q members) (others tick) ≡ []
  pub cpus_hold : filter (holds_member p members) (numbers_below p.processor.logical_cpus) ≡ cpus
