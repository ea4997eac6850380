-- The files of the things so far were taken.
use Rattle.std.proofs.Common.{take}
use Rattle.std.specs.List.{flat_map}
use Rattle.policy_lawful.specs.NameHashes.{AreDigested}
use Rattle.muen_build.specs.Accepting.{thing_content}
use Rattle.muen_build.specs.FileNames.{content_file_of}
use Rattle.muen_build.proofs.file_hash.hash_of_files.Given as goal

abbrev pub invariant-loop-thing : goal.invariant-loop-thing
invariant-loop-thing l = AreDigested l.digest (flat_map (λ t. content_file_of (thing_content l.policy t)) (take l.thing-index l.thing-items))
