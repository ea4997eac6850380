use Rattle.std.proofs.Common.{arith}
use Rattle.image_checks.proofs.Places.{all_places, fails_first}
use Rattle.image_checks.proofs.SubjectsTold.{many_both}
use Rattle.image_checks.proofs.events.first_other.Goals as goal
use Rattle.image_checks.specs.Agreement.{subjects_of_both}
use Rattle.image_pack.specs.declared.parts.SubjectPart.{SubjectPart}
use Rattle.image_soundness.specs.Sound.{IsSubjectOf}
use Rattle.policy_lawful.specs.Resolution.{source_of}
use Rattle.policy_lawful.specs.source.Subject.{Subject}

pub returns-then-not-is_subject : goal.returns-then-not-is_subject
returns-then-not-is_subject c =
    let many = many_both c.args.lawful.now c.args.parts.now c.requires.many in
    let low = c.loop-index-test.true in
    let P : Subject × SubjectPart → Type 0 = λ e. IsSubjectOf (source_of c.args.lawful.now) e.0 e.1 in
    fails_first P (subjects_of_both c.args.lawful.now c.args.parts.now) c.loop-index.index (omega (arith, many, low)) c.loop-index.invariant c.if-not-is_subject.ensures

pub returns : goal.returns
returns c =
    let many = many_both c.args.lawful.now c.args.parts.now c.requires.many in
    let end = c.loop-index-test.false in
    let P : Subject × SubjectPart → Type 0 = λ e. IsSubjectOf (source_of c.args.lawful.now) e.0 e.1 in
    all_places P (subjects_of_both c.args.lawful.now c.args.parts.now) (λ j l. c.loop-index.invariant j (omega (arith, many, end, l)))
