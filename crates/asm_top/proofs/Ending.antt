-- What comes of the files of a source.
use Rattle.std.proofs.Common.{◌≡◌, ℕ, List, [], ◌++◌, Option, Some, None, Result, Ok, option_map, refl, subst}
use Rattle.command_shell.specs.Answers.{Answer, Plan, answers, looks_at}
use Rattle.command_shell.specs.Outcomes.{ComesOf, Reaches, StopsAt}
use Rattle.command_shell.specs.Reads.{NotRead, Saw}
use Rattle.command_shell.specs.declared.error.CommandError.{CommandError}
use Rattle.command_shell.specs.declared.error.CommandError.TheVariants.{Usage, Missing, TooLong, FileFault, OutputFault, NoMemory, Own}
use Rattle.command_shell.proofs.Ending.{not_read, reaches_next, reaches_then, refused as refused_at, stops_then, without_memory}
use Rattle.command_shell.specs.declared.status.Status.TheVariants.{Own as OwnStatus}
use Rattle.muen_outside.specs.States.{History, SinkState}
use Rattle.muen_outside.specs.Store.{Store, whole}
use Rattle.asm_top.specs.Answers.{ended, line_feeds, of_source, of_text, plan_of, source_plan}
use Rattle.asm_top.specs.Commands.{Command}
use Rattle.asm_top.specs.Reads.{Assembles, NotAssembled, NotSaid, Said}
use Rattle.asm_top.specs.Refusals.{assembler, fault_text}
use Rattle.asm_top.specs.declared.limits.TheConstants.{SOURCE_MOST}
use Rattle.asm_top.specs.declared.refusal.Refusal.{Refusal}
use Rattle.asm_top.specs.declared.status.AssemblerStatus.{AssemblerStatus}
use Rattle.asm_top.specs.declared.status.AssemblerStatus.TheVariants.{SourceRefused}

abbrev Next : Type 0
Next = List ℕ → Answer AssemblerStatus

-- ---- the text that was read

module _ (names : Option (List ℕ)) (source front items : List ℕ) (held : Option Store) (old new : History) (plan : Plan AssemblerStatus) (next : Next) (r : Reaches assembler.name plan (answers (of_text names source next front items)) held old new) where
  says : (bytes : List ℕ) → Said (front ++ items) bytes → Reaches assembler.name plan (answers (next bytes)) held old new
  says bytes is = subst (λ a. Reaches assembler.name plan (answers (of_source (fault_text names source (line_feeds front)) next a)) held old new) is r

  says_none : (error : CommandError Refusal) → NotSaid names source front items error → StopsAt assembler plan held old new error
  says_none (Own refusal) h =
      refused_at assembler plan held old new (OwnStatus SourceRefused) (fault_text names source (line_feeds front) h.fault)
      (subst (λ a. Reaches assembler.name plan (answers (of_source (fault_text names source (line_feeds front)) next a)) held old new) h.is r) refusal refl h.tells
  says_none NoMemory h = without_memory assembler plan held old new (of_text names source next front items) r
  says_none Usage h = absurd h
  says_none (Missing n) h = absurd h
  says_none (TooLong n k) h = absurd h
  says_none FileFault h = absurd h
  says_none OutputFault h = absurd h

-- ---- a source alone

module _ (source : List ℕ) (held : Option Store) (old new : History) (items : List ℕ) (saw : Saw source SOURCE_MOST (Ok (whole items)) held old new) where
  read_one : (next : Next) → Reaches assembler.name (source_plan None source next) (answers (of_text None source next [] items)) held old new
  read_one next = reaches_next assembler.name held source SOURCE_MOST (λ x. answers (of_text None source next [] x)) old new items saw

  pub alone : (bytes : List ℕ) → Said items bytes → Assembles None source held old new bytes
  alone bytes is next = says None source [] items held old new (source_plan None source next) next (read_one next) bytes is

  pub not_alone : (error : CommandError Refusal) → NotSaid None source [] items error → NotAssembled None source held old new error
  not_alone error h next = says_none None source [] items held old new (source_plan None source next) next (read_one next) error h

pub alone_unread : (source : List ℕ) (held : Option Store) (old new : History) (error : CommandError Refusal) → NotRead source SOURCE_MOST held old new error → NotAssembled None source held old new error
alone_unread source held old new error h next = not_read assembler source SOURCE_MOST (λ x. answers (of_text None source next [] x)) held old new error h

-- ---- a source behind names

module _ (names source : List ℕ) (held between : Option Store) (same : between ≡ held) (old mid : History) (first : List ℕ) (saw_names : Saw names SOURCE_MOST (Ok (whole first)) held old mid) where
  abbrev behind : Next → Plan AssemblerStatus
  behind next = looks_at source SOURCE_MOST (λ x. answers (of_text (Some names) source next (ended first) x))

  module _ (new : History) (items : List ℕ) (saw : Saw source SOURCE_MOST (Ok (whole items)) between mid new) where
    read_both : (next : Next) → Reaches assembler.name (source_plan (Some names) source next) (answers (of_text (Some names) source next (ended first) items)) held old new
    read_both next =
        reaches_then assembler.name held names SOURCE_MOST (λ x. looks_at source SOURCE_MOST (λ y. answers (of_text (Some names) source next (ended x) y))) old mid new first saw_names
        (answers (of_text (Some names) source next (ended first) items))
        (reaches_next assembler.name held source SOURCE_MOST (λ x. answers (of_text (Some names) source next (ended first) x)) mid new items
        (subst (λ h. Saw source SOURCE_MOST (Ok (whole items)) h mid new) same saw))

    pub both : (bytes : List ℕ) → Said (ended first ++ items) bytes → Assembles (Some names) source held old new bytes
    both bytes is next = says (Some names) source (ended first) items held old new (source_plan (Some names) source next) next (read_both next) bytes is

    pub not_both : (error : CommandError Refusal) → NotSaid (Some names) source (ended first) items error → NotAssembled (Some names) source held old new error
    not_both error h next = says_none (Some names) source (ended first) items held old new (source_plan (Some names) source next) next (read_both next) error h

  pub second_unread : (new : History) (error : CommandError Refusal) → NotRead source SOURCE_MOST between mid new error → NotAssembled (Some names) source held old new error
  second_unread new error h next =
      stops_then assembler.name held names SOURCE_MOST (λ x. looks_at source SOURCE_MOST (λ y. answers (of_text (Some names) source next (ended x) y))) old mid new first saw_names assembler refl error
      (not_read assembler source SOURCE_MOST (λ x. answers (of_text (Some names) source next (ended first) x)) held mid new error
      (subst (λ s. NotRead source SOURCE_MOST s mid new error) same h))

pub names_unread : (names source : List ℕ) (held : Option Store) (old new : History) (error : CommandError Refusal) → NotRead names SOURCE_MOST held old new error → NotAssembled (Some names) source held old new error
names_unread names source held old new error h next =
    not_read assembler names SOURCE_MOST (λ x. looks_at source SOURCE_MOST (λ y. answers (of_text (Some names) source next (ended x) y))) held old new error h

-- ---- of words

-- of this command
pub command_as : (command command' : Option Command) (held held' : Option Store) (old new : History) (out out' : SinkState) (outcome : Result (Unit {0}) (CommandError Refusal)) → command ≡ command'
    → ComesOf assembler (option_map plan_of command) held held' old new out out' outcome → ComesOf assembler (option_map plan_of command') held held' old new out out' outcome
command_as command command' held held' old new out out' outcome is came = subst (λ c. ComesOf assembler (option_map plan_of c) held held' old new out out' outcome) is came
