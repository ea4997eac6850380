use Rattle.std.proofs.Common.{◌∙◌, ap}
use Rattle.subject_model.specs.Trace.{trace_of}
use Rattle.muen_top.proofs.Clauses.{history_clause, once_clause, agrees_clause, asked_clause, held_clause, done_clause, prefix_clause, ends_clause, usage_clause, fault_clause, memory_clause, unwritten_clause, quiet_out_clause, quiet_err_clause, prints_clause, built_clause, sound_clause, unsound_clause, accepts_clause, complete_clause, loads_clause}
use Rattle.muen_top.proofs.SoundRuns.{boot_prints, built_prints, sound_prints}
use Rattle.muen_top.proofs.Systems.{alike, subjects_alone}
use Rattle.muen_top.specs.Answers.{answer_of}
use Rattle.muen_top.proofs.muen.Goals as goal

pub returns : goal.returns
returns g c =
    let p = c.call.ensures.ran in
    record {
      history = history_clause p;
      once = once_clause p;
      agrees = agrees_clause p;
      asked = asked_clause p;
      held = held_clause p;
      boots = λ m policy inputs q r shows asked there says.
          prints_clause p m (trace_of q m r) shows (ap (answer_of m) asked ∙ boot_prints m policy inputs q r says there);
      runs_sound = λ m image inputs dma tables q built_of r shows asked there hands fit says.
          prints_clause p m (trace_of q built_of r) shows (ap (answer_of m) asked ∙ sound_prints m image inputs q r says built_of dma tables there hands fit);
      runs_built = λ m image inputs dma q built_of r shows asked there hands says.
          prints_clause p m (trace_of q built_of r) shows (ap (answer_of m) asked ∙ built_prints m image inputs q r says built_of dma there hands);
      alone = subjects_alone _ _;
      alike = alike _ _;
      built = built_clause p;
      verifies = sound_clause p;
      condemns = unsound_clause p;
      acquits_built = accepts_clause p;
      done = done_clause p;
      prefix = prefix_clause p;
      ends = ends_clause p;
      complete = complete_clause p;
      usage = usage_clause p;
      no_command = c.call.ensures.no_command;
      file_fault = fault_clause p;
      no_memory = memory_clause p;
      loads = loads_clause p;
      reports = (p.outcome, p.status_is, p.report);
      unwritten = unwritten_clause p;
      quiet_out = quiet_out_clause p;
      quiet_err = quiet_err_clause p;
    }
