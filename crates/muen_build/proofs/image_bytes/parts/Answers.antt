use Rattle.std.proofs.lemmas.Result.{IfOk-weaker}
use Rattle.policy_lawful.specs.Resolution.{source_of}
use Rattle.proof_build.specs.Built.{IsMadeFor}
use Rattle.proof_build.specs.Sound.{IsSound}
use Rattle.proof_build.proofs.Sound.{has_ascending, has_kernel_spans, has_leaves, has_paths, has_spans, has_spare, has_types, is_sound}
use Rattle.muen_build.proofs.Emitting.{filled_so, made_for, seen_so}
use Rattle.muen_build.proofs.image_bytes.parts.Goals as goal

pub emit-requires : goal.emit-requires
emit-requires c = record {
  filled = filled_so c.args.placed.now c.expanded-expanded.ensures.placed c.expanded-expanded.result.now c.expanded-expanded.ensures.value c.lawful.result.now c.resolved-policy.result.now c.lawful.ensures c.resolved-policy.ensures.value
      c.args.name.now c.args.document.now c.args.found.now c.in_ok-things.things c.in_ok-things.ensures.things;
}

pub returns-clause-made : goal.returns-clause-made
returns-clause-made c =
    seen_so c.args.placed.now c.expanded-expanded.ensures.placed c.expanded-expanded.result.now c.expanded-expanded.ensures.value c.lawful.result.now c.resolved-policy.result.now c.lawful.ensures c.resolved-policy.ensures.value
    c.args.name.now c.args.document.now c.args.found.now c.in_ok-things.things c.in_ok-things.ensures.things (IsMadeFor (source_of c.args.placed.now.expanded.lawful)) c.emit.result c.requires.accepts
    (IfOk-weaker c.emit.result _ _ (λ i emitted files e held. made_for c.args.placed.now c.in_ok-things.things i emitted files e) c.emit.ensures)

pub returns-clause-sound : goal.returns-clause-sound
returns-clause-sound c =
    seen_so c.args.placed.now c.expanded-expanded.ensures.placed c.expanded-expanded.result.now c.expanded-expanded.ensures.value c.lawful.result.now c.resolved-policy.result.now c.lawful.ensures c.resolved-policy.ensures.value
    c.args.name.now c.args.document.now c.args.found.now c.in_ok-things.things c.in_ok-things.ensures.things (IsSound (source_of c.args.placed.now.expanded.lawful)) c.emit.result c.requires.accepts
    (IfOk-weaker c.emit.result _ _ (λ i emitted files e held. is_sound c.args.placed.now c.in_ok-things.things i emitted files e held) c.emit.ensures)

pub returns-clause-spans : goal.returns-clause-spans
returns-clause-spans c = IfOk-weaker c.emit.result _ _ (λ i emitted. has_spans c.args.placed.now c.in_ok-things.things i emitted.made) c.emit.ensures

pub returns-clause-kernel : goal.returns-clause-kernel
returns-clause-kernel c = IfOk-weaker c.emit.result _ _ (λ i emitted. has_kernel_spans c.args.placed.now c.in_ok-things.things i emitted.made) c.emit.ensures

pub returns-clause-paths : goal.returns-clause-paths
returns-clause-paths c = IfOk-weaker c.emit.result _ _ (λ i emitted. has_paths c.args.placed.now c.in_ok-things.things i emitted.made) c.emit.ensures

pub returns-clause-ascending : goal.returns-clause-ascending
returns-clause-ascending c = IfOk-weaker c.emit.result _ _ (λ i emitted. has_ascending c.args.placed.now c.in_ok-things.things i emitted.made) c.emit.ensures

pub returns-clause-spare : goal.returns-clause-spare
returns-clause-spare c = IfOk-weaker c.emit.result _ _ (λ i emitted. has_spare c.args.placed.now c.in_ok-things.things i emitted.made) c.emit.ensures

pub returns-clause-leaves : goal.returns-clause-leaves
returns-clause-leaves c = IfOk-weaker c.emit.result _ _ (λ i emitted. has_leaves c.args.placed.now c.in_ok-things.things i emitted.made) c.emit.ensures

pub returns-clause-types : goal.returns-clause-types
returns-clause-types c = IfOk-weaker c.emit.result _ _ (λ i emitted. has_types c.args.placed.now c.in_ok-things.things i emitted.made) c.emit.ensures
