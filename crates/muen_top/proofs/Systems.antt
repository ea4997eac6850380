-- Of which systems a call runs the text, their subjects act alone, and members of closed sets are printed alike.
use Rattle.std.proofs.Common.{ℕ, List}
use Rattle.flow_report.proofs.TwoEnds.{printed_alike}
use Rattle.image_soundness.specs.Bench.{devices_of}
use Rattle.muen_build.proofs.Refusing.{accepted_lawful}
use Rattle.muen_outside.specs.Store.{Store}
use Rattle.policy_lawful.specs.Contents.{Held}
use Rattle.policy_lawful.specs.source.Source.{Source}
use Rattle.proof_runs.proofs.RecordFacts.{record_is_read}
use Rattle.proof_views.proofs.AloneViews.{views_alone}
use Rattle.proof_views.proofs.ComposedRuns.{only_parts, runs_composed, runs_feed}
use Rattle.proof_views.specs.Laws.{IsLawfulRun}
use Rattle.record_text.specs.DeviceRecord.{DeviceRecord}
use Rattle.muen_top.specs.Systems.{PrintsAlikeOver, RunsSubjectsAloneOver, RunsSystem, by_boot, by_run}

-- the policy is lawful, and each order of a record that is read names each CPU once
lawful_run : (words : List (List ℕ)) (m : Store) (p : Source) (files : Held) (r : DeviceRecord) → RunsSystem words m p files r → IsLawfulRun p r
lawful_run words m p files r (by_boot policy inputs asked holds says is) = record {
  policy = accepted_lawful m holds.document p holds.accepted;
  orders = (record_is_read (devices_of p) says.text r says.says).orders;
}
lawful_run words m p files r (by_run image inputs dma asked holds says) = record {
  policy = holds.sound.lawful;
  orders = (record_is_read (devices_of p) says.text r says.says).orders;
}

pub subjects_alone : (words : List (List ℕ)) (Is : Store → Type 0) → RunsSubjectsAloneOver words Is
subjects_alone words Is m p files r is runs =
    let lawful : IsLawfulRun p r = lawful_run words m p files r runs in
    record {
      views = λ s found. views_alone p files r s lawful found;
      whole = runs_composed p files r lawful;
      fed = runs_feed p files r lawful;
      only = λ alone fed s found n. only_parts p files r alone s n lawful found fed;
    }

pub alike : (words : List (List ℕ)) (Is : Store → Type 0) → PrintsAlikeOver words Is
alike words Is m p files r is runs = let lawful : IsLawfulRun p r = lawful_run words m p files r runs in printed_alike p files r lawful.policy
