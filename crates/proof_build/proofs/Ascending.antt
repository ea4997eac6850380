-- Along the walk for an address of a subject the pages of tables ascend.
use Rattle.image_emit.specs.Made.{IsMade, Made, image_of, policy_of}
use Rattle.image_emit.proofs.BySubject.{each_subject}
use Rattle.image_soundness.specs.Memory.{memory_of}
use Rattle.image_soundness.specs.Sound.{ForEachSubject}
use Rattle.policy_lawful.specs.Resolution.{source_of}
use Rattle.proof_build.specs.Built.{TablesAscend}
use Rattle.proof_build.proofs.Tables.{has_tables}

pub ascending : (m : Made) → IsMade m → ForEachSubject (source_of (policy_of m)) (image_of m) (λ s q. TablesAscend (image_of m) q)
ascending m h =
    each_subject m h (λ s q. TablesAscend (image_of m) q)
    (λ k s g t q at addr level page lower lower_page l x y less.
    at.pages.tables.ascending (memory_of (image_of m)) addr level page lower lower_page (has_tables m h k s g t q at) l x y less)
