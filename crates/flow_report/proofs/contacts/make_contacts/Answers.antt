use Rattle.std.proofs.Common.{map, ap, ◌∙◌}
use Rattle.std.specs.List.{filter_map}
use Rattle.policy_lawful.proofs.SeenAtIndex.{channel_ends_there, views_there}
use Rattle.flow_report.specs.ByIndex.{channel_read, channel_written, is_frame_chooser, reached_by, region_changed, region_shown, subject_changed}
use Rattle.flow_report.proofs.contacts.make_contacts.Goals as goal

pub returns : goal.returns
returns c =
    let r = c.args.policy.now in
    let s = c.args.subject.now in
    let ends = c.channel_ends-ends.ensures ∙ channel_ends_there r c.args.index s c.requires in
    let views = c.views-views.ensures ∙ views_there r c.args.index s c.requires in
    let sources = c.items-sources.ensures in
    let monitors = c.items-monitors.ensures in
    let writes = c.of.ensures ∙ c.in_ok-written.ensures ∙ ap (filter_map (λ e. channel_written e.role e.channel)) ends in
    let reads = c.of-2.ensures ∙ c.in_ok-read.ensures ∙ ap (filter_map (λ e. channel_read e.role e.channel)) ends in
    let changes = c.of-3.ensures ∙ c.in_ok-changed.ensures ∙ ap (filter_map region_changed) views in
    let maps = c.of-4.ensures ∙ c.in_ok-mapped.ensures ∙ ap (filter_map (λ w. region_shown w.shows)) views in
    let reaches = c.of-5.ensures ∙ c.in_ok-reached.ensures ∙ (λ i. filter_map (λ e. reached_by (c.subjects.ensures.value i) (sources i) e.way) (sources i)) in
    let chooses = c.is_chooser.ensures ∙ ap (λ s. is_frame_chooser s.tau0 c.args.subject.now.name) c.scheduling.ensures.value in
    let watches = c.of-6.ensures ∙ c.in_ok-watched.ensures ∙ ap (map (λ m. m.subject)) monitors in
    let alters = c.of-7.ensures ∙ c.in_ok-altered.ensures ∙ ap (filter_map subject_changed) monitors in
    λ i. record {
      index = c.args.index;
      writes = writes i;
      reads = reads i;
      changes = changes i;
      maps = maps i;
      reaches = reaches i;
      chooses = chooses i;
      watches = watches i;
      alters = alters i;
    }
