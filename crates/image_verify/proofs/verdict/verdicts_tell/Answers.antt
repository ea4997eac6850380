use Rattle.image_verify.proofs.VerdictLaws.{a_fault_is_none_of_a_sound_image, a_sound_image_has_no_fault, no_fault_is_sound, one_verdict}
use Rattle.image_verify.proofs.verdict.verdicts_tell.Goals as goal

pub returns-clause-sound : goal.returns-clause-sound
returns-clause-sound c = no_fault_is_sound

pub returns-clause-unsound : goal.returns-clause-unsound
returns-clause-unsound c = a_fault_is_none_of_a_sound_image

pub returns-clause-complete : goal.returns-clause-complete
returns-clause-complete c = a_sound_image_has_no_fault

pub returns-clause-one : goal.returns-clause-one
returns-clause-one c = one_verdict
