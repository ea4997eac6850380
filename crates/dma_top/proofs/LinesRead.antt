-- What comes of the files of `lines`, one after another.
use Rattle.std.proofs.Common.{◌≡◌, ℕ, List, Option, Some, subst, ◌∙◌}
use Rattle.command_shell.specs.Answers.{Plan, answers, prints}
use Rattle.command_shell.specs.Outcomes.{Reaches}
use Rattle.command_shell.specs.declared.error.CommandError.{CommandError}
use Rattle.command_shell.proofs.Ending.{reaches_behind, stops_behind}
use Rattle.dma_lines.specs.LinesText.{lines_text}
use Rattle.dma_tables.specs.declared.file.DmaFile.{DmaFile}
use Rattle.image_pack.specs.declared.parts.Image.{Image}
use Rattle.muen_outside.specs.States.{History}
use Rattle.muen_outside.specs.Store.{Store}
use Rattle.record_text.specs.declared.record.Input.{Input}
use Rattle.record_text.specs.declared.record.Record.{Record}
use Rattle.dma_top.specs.Answers.{image_plan, lines_plan, record_plan, tables_plan}
use Rattle.dma_top.specs.Reads.{EndsFor, Finds, FindsNone, IsToPrint}
use Rattle.dma_top.specs.Refusals.{devices}
use Rattle.dma_top.specs.declared.refusal.Refusal.{Refusal}
use Rattle.dma_top.specs.declared.status.DmaStatus.{DmaStatus}

module _ (image inputs tables : List ℕ) (held : Option Store) (old : History) where
  -- behind the record
  abbrev last : Image → DmaFile → Record Input → Plan DmaStatus
  last i t r = answers (prints (lines_text (Some t) i r))

  -- .. behind the tables, behind the image
  abbrev third : Image → DmaFile → Plan DmaStatus
  third i t = record_plan i inputs (last i t)

  abbrev second : Image → Plan DmaStatus
  second i = tables_plan tables (third i)

  -- the image isn't there
  pub no_image : (new : History) (error : CommandError Refusal) → FindsNone (image_plan image) held old new error → EndsFor (lines_plan image inputs tables) held old new error
  no_image new error h = h second

  module _ (mid : History) (i : Image) (found : Finds (image_plan image) held old mid i) (held' : Option Store) (same : held' ≡ held) where
    -- the tables aren't
    pub no_tables : (new : History) (error : CommandError Refusal) → FindsNone (tables_plan tables) held' mid new error → EndsFor (lines_plan image inputs tables) held old new error
    no_tables new error h =
        stops_behind devices (lines_plan image inputs tables) (second i) held old mid new (found second) error (subst (λ x. FindsNone (tables_plan tables) x mid new error) same h (third i))

    module _ (next : History) (t : DmaFile) (there : Finds (tables_plan tables) held' mid next t) (held'' : Option Store) (still : held'' ≡ held') where
      both : Reaches devices.name (lines_plan image inputs tables) (third i t) held old next
      both =
          reaches_behind devices (lines_plan image inputs tables) (second i) held old mid next (found second) (third i t)
          (subst (λ x. Finds (tables_plan tables) x mid next t) same there (third i))

      -- the record isn't
      pub no_record : (new : History) (error : CommandError Refusal) → FindsNone (record_plan i inputs) held'' next new error → EndsFor (lines_plan image inputs tables) held old new error
      no_record new error h =
          stops_behind devices (lines_plan image inputs tables) (third i t) held old next new both error
          (subst (λ x. FindsNone (record_plan i inputs) x next new error) (still ∙ same) h (last i t))

      -- all are
      pub all_there : (new : History) (r : Record Input) → Finds (record_plan i inputs) held'' next new r → IsToPrint (lines_plan image inputs tables) (lines_text (Some t) i r) held old new
      all_there new r h =
          reaches_behind devices (lines_plan image inputs tables) (third i t) held old next new both (last i t r)
          (subst (λ x. Finds (record_plan i inputs) x next new r) (still ∙ same) h (last i t))
