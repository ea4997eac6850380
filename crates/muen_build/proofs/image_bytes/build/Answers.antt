use Rattle.policy_lawful.specs.Resolution.{source_of}
use Rattle.muen_build.specs.Accepting.{looks_of}
use Rattle.muen_build.proofs.image_bytes.build.Goals as goal

-- the policy is accepted, and its image is written
pub returns-clause-builds : goal.returns-clause-builds
returns-clause-builds g c =
    record {
      looks = looks_of c.in_ok-placed.field-0.files;
      looked = c.in_ok-placed.ensures.looked;
      asked = c.in_ok-placed.ensures.asked;
      built = λ files shows. record {
        policy = source_of c.in_ok-placed.field-0.placed.expanded.lawful;
        accepted = c.in_ok-placed.ensures.accepts files shows;
        is = c.in_ok-image.ensures files shows;
      };
    }
