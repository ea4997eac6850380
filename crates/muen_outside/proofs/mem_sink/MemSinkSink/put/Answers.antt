use Rattle.std.proofs.Common.{arith, ◌≡◌, ◌∙◌, sym, ap, false, length}
use Rattle.std.proofs.lemmas.Bool.{false≢true}
use Rattle.std.specs.Prelude.{◌==◌}
use Rattle.std.specs.List.{list_any}
use Rattle.muen_outside.specs.MemSink.{next_sink_call_fails}
use Rattle.muen_outside.proofs.mem_sink.MemSinkSink.put.Goals as goal
use Rattle.muen_outside.proofs.mem_sink.MemSinkSink.put.Goals.{then-listed, else-listed, then-listed-2-via-then-listed-2, then-listed-2-via-else-listed-2+then-n-bytes}

pub returns-then-listed-2-clause-full : goal.returns-then-listed-2-clause-full
returns-then-listed-2-clause-full c = λ quiet.
    let not_listed : c.is_listed-listed.result ≡ false =
    c.is_listed-listed.ensures ∙ ap (λ xs. list_any (λ n. n == c.self.inside.calls) xs) c.deref.ensures.value ∙ ap next_sink_call_fails c.self.view_is ∙ quiet in
    let most_is : c.if-listed.most ≡ length c.args.bytes.now = elim c.if-listed.branch [
      | then-listed v ↦ absurd (false≢true (sym not_listed ∙ v.if-listed.true))
      | else-listed v ↦ v.most-is
    ] in
    elim c.then-listed-2.branch [
      | then-listed-2-via-then-listed-2 w ↦ absurd (false≢true (sym not_listed ∙ w.if-listed-2.true))
      | then-listed-2-via-else-listed-2+then-n-bytes w ↦
          c.append_front-n.ensures.full (omega (arith, most_is, w.if-n-bytes.true)) w.if-n-bytes.true ∙ ap (λ s. s.room) c.self.view_is
    ]
