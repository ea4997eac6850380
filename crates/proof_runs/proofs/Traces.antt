-- The text of a run of a sound image is that of its policy's system.
use Rattle.std.proofs.Common.{◌≡◌, ℕ, ◌*◌, ◌/◌, ◌<◌, true, false, Option, Some, None, List, [], ◌++◌, length, refl, sym, ap, ◌∙◌, subst, arith}
use Rattle.std.specs.Prelude.{option_map, slice_get, Ok}
use Rattle.std.specs.List.{flat_map, list_any}
use Rattle.std.specs.Option.{option_map_or}
use Rattle.std.proofs.lemmas.Bool.{true≢false}
use Rattle.std.proofs.lemmas.Map.Keys.{any_passes_from_place}
use Rattle.image_load.specs.Loaded.{setup_of}
use Rattle.image_load.specs.Memory.{memory_of}
use Rattle.image_load.specs.Resolving.{image_record}
use Rattle.image_soundness.proofs.SoundFacts.{bench_is, names_of}
use Rattle.image_soundness.specs.Memory.{Span}
use Rattle.image_soundness.specs.Sound.{IsSound, is_kernel, kind_of, thing_spans}
use Rattle.image_pack.specs.ImageConditions.{KeepsConditions}
use Rattle.image_pack.specs.declared.parts.Image.{Image}
use Rattle.image_pack.specs.declared.parts.SubjectPart.{SubjectPart}
use Rattle.proof_turns.specs.Kernel.{Live}
use Rattle.proof_turns.specs.Ticks.{ended, kernel_run_to, live_started, tick_inputs, tick_order}
use Rattle.subject_model.specs.Memory.{Page}
use Rattle.muen_num.specs.declared.limits.TheConstants.{PAGE}
use Rattle.muen_num.proofs.Options.{one_value}
use Rattle.muen_num.proofs.Lists.{some_below}
use Rattle.proof_turns.specs.effect.Effect.{Effect}
use Rattle.dma_tables.specs.Lowered.{lowered}
use Rattle.dma_tables.specs.declared.file.DmaFile.{DmaFile}
use Rattle.muen_run.specs.RunText.{bytes_from, final_text, image_text, run_text}
use Rattle.policy_lawful.specs.Contents.{Held, initial_bytes}
use Rattle.policy_lawful.specs.Thing.{Thing, same_thing, things_of}
use Rattle.policy_lawful.specs.source.Source.{Source}
use Rattle.record_text.specs.DeviceRecord.{DeviceRecord}
use Rattle.record_text.specs.Reading.{record_of}
use Rattle.record_text.specs.declared.record.Record.{Record}
use Rattle.image_soundness.specs.Bench.{devices_of}
use Rattle.proof_turns.specs.Run.{Ran, run_to}
use Rattle.proof_turns.specs.Alike.{AreAlikeRuns}
use Rattle.subject_model.specs.StatePage.{state_in}
use Rattle.proof_turns.specs.Machine.{page_bytes_at}
use Rattle.proof_turns.specs.Control.{Control}
use Rattle.subject_model.specs.ViewText.{turn_text}
use Rattle.subject_model.specs.TurnLine.{TurnLine}
use Rattle.subject_model.specs.Alone.{thing_in}
use Rattle.subject_model.specs.Clock.{inputs_at, order_at, run_of, system}
use Rattle.subject_model.specs.System.{System, start_of, state_of}
use Rattle.subject_model.specs.Trace.{final_text as system_text, trace_of}
use Rattle.proof_turns.specs.Ground.{Ground, IsSubject}
use Rattle.proof_turns.specs.Stands.{StandsFor}
use Rattle.proof_turns.proofs.Ends.{final_bytes, final_state, run_lengths}
use Rattle.policy_lawful.proofs.NoPages.{NoPage}
use Rattle.policy_lawful.proofs.SameThings.{same_thing_self}
use Rattle.proof_turns.proofs.Runs.{runs_stand}
use Rattle.proof_turns.proofs.Turns.{turn_stands}
use Rattle.proof_start.specs.GroundOf.{HoldsBytes, ground_of}
use Rattle.proof_start.proofs.Fixes.{fixed_of}
use Rattle.proof_start.proofs.OnceFacts.{thing_once}
use Rattle.proof_start.proofs.Starts.{start_stands, thing_started}
use Rattle.proof_start.proofs.SpansOfThings.{ThingSpan, listed_pages, listed_span}
use Rattle.proof_start.proofs.Slots.{same_cpus}
use Rattle.proof_runs.proofs.DeviceMemories.{memories_of_image}
use Rattle.proof_runs.proofs.FinalTexts.{HasBytes, HasStates, final_text_is}
use Rattle.proof_runs.proofs.RecordFacts.{IsReadFor, record_is_read}
use Rattle.proof_runs.proofs.BenchGround.{HasMemories}
use Rattle.proof_runs.proofs.DeviceLines.{lines_of}
use Rattle.proof_runs.proofs.IrqTargets.{targets_of}
use Rattle.proof_runs.proofs.SameInputs.{AreDevices, inputs_alike, orders_alike}
use Rattle.proof_runs.proofs.TickInputs.{groups_at, groups_joined}
use Rattle.proof_runs.specs.Fit.{Fit}

-- bytes that are as many as others are there
same_length : (a b : Option (List ℕ)) (xs : List ℕ) → a ≡ Some xs → option_map length a ≡ option_map length b → (ys : List ℕ) × (b ≡ Some ys) × (length ys ≡ length xs)
same_length (Some x) (Some y) xs e h = let same : x ≡ xs = cc (e) in let long : length x ≡ length y = cc (h) in (y, refl, sym long ∙ ap length same)
same_length (Some x) None xs e h = absurd (cc (h))
same_length None b xs e h = absurd (cc (e))

-- what is no kernel's is no state page
no_state : (x : Thing) → is_kernel (kind_of x) ≡ false → NoPage x
no_state x h name e = absurd (true≢false (sym (ap (λ z. is_kernel (kind_of z)) e) ∙ h))

module _ (p : Source) (files : Held) (i : Image)
    (keeps : KeepsConditions i) (sound : IsSound p files i) (small : HoldsBytes i)
    (tables : Option DmaFile) (fit : Fit p i tables) (r : DeviceRecord) (read : IsReadFor (devices_of p) r) where
  abbrev g : Ground
  g = ground_of p i

  abbrev record_at : Record Effect
  record_at = lowered tables i (image_record i r)

  start : StandsFor g (live_started (setup_of i) i.header.cpus (memory_of i)) (start_of p files)
  start = start_stands p files i keeps sound small (fixed_of p files i keeps sound)

  memories : HasMemories g i
  memories = memories_of_image p files i keeps sound

  abbrev machine_ran : Ran Live TurnLine
  machine_ran = kernel_run_to (setup_of i) record_at i.header.cpus (memory_of i) r.end

  abbrev system_ran : Ran System TurnLine
  system_ran = run_to (system p) (inputs_at r) (order_at p r) r.end (start_of p files)

  numbered : (s : ℕ) → s < length i.subjects → IsSubject g s
  unfolding ground_of
  numbered s h = by_there (slice_get i.subjects s) refl
    where
      by_there : (o : Option SubjectPart) → slice_get i.subjects s ≡ o → IsSubject g s
      by_there (Some q) e = (fixed_of p files i keeps sound).parts s q e
      by_there None e = absurd (some_below i.subjects s h e)

  -- what its devices do is what the policy says
  devices : AreDevices g i tables
  unfolding ground_of
  devices = record {
    memories = memories;
    targets = targets_of p i keeps sound.plan_and_events.devices (names_of p files i sound) numbered;
    lines = lines_of p files i keeps sound tables fit;
  }

  runs : AreAlikeRuns (StandsFor g) machine_ran system_ran
  unfolding ground_of
  runs =
      runs_stand g (fixed_of p files i keeps sound) (turn_stands g (fixed_of p files i keeps sound))
      (groups_at tables i (image_record i r)) (tick_inputs record_at) (inputs_at r) (tick_order record_at i.header.cpus) (order_at p r)
      (groups_joined tables i (image_record i r))
      (record {
        taken = λ tick _. inputs_alike p i tables keeps (bench_is p files i sound) devices r tick read;
        orders = λ tick _. orders_alike p i tables i.header.cpus r tick (same_cpus p files i sound);
      })
      r.end (omega (arith, read.ticks)) (live_started (setup_of i) i.header.cpus (memory_of i)) (start_of p files) start

  abbrev pages_then : List Page
  pages_then = (ended i.header.cpus machine_ran.state).machine.pages

  its_states : HasStates p (setup_of i) pages_then system_ran.state
  unfolding ground_of
  its_states s n at =
      let is = (fixed_of p files i keeps sound).joined s n at in
      let j = is.joined in
      let same : is.subject ≡ n = one_value (slice_get p.subjects s) is.subject n j.subject at in
      subst (λ m. (q : SubjectPart) × (c : Control)
      × (slice_get i.subjects s ≡ Some q) × (slice_get (setup_of i).controls s ≡ Some c) × (q.name ≡ m.name)
      × (state_of system_ran.state m.name ≡ Some (state_in (page_bytes_at pages_then c.state)))) same (
        is.part,
        is.control,
        j.part,
        j.control,
        j.name,
        final_state g (fixed_of p files i keeps sound) i.header.cpus (same_cpus p files i sound) machine_ran.state system_ran.state runs.state s is.subject is.part is.control j,
      )

  -- a thing's bytes at the end are as many as at the start
  bytes_there : (x : Thing) → list_any (λ y. same_thing y x) (things_of p) ≡ true → NoPage x
      → (bytes : List ℕ) × (thing_in system_ran.state.things x ≡ Some bytes) × (length bytes ≡ 4096 * g.pages x)
  bytes_there x listed kind =
      let l =
      same_length (thing_in (start_of p files).things x) (thing_in system_ran.state.things x) (initial_bytes p files x)
      (thing_started p files x listed) (run_lengths p (inputs_at r) (order_at p r) r.end (start_of p files) x kind) in
      (l.0, l.1, l.2 ∙ sym (listed_pages p files i keeps sound x listed))

  its_bytes : HasBytes p files i pages_then system_ran.state
  unfolding ground_of
  its_bytes x e is k atx ate =
      let listed : list_any (λ y. same_thing y x) (things_of p) ≡ true = any_passes_from_place (λ y. same_thing y x) (things_of p) k x atx (same_thing_self x) in
      let there : ThingSpan p files i x = listed_span p files i keeps sound x listed in
      let number : there.number ≡ k = thing_once p sound.lawful x there.number k there.listed atx in
      let same : there.span ≡ e = one_value (slice_get (thing_spans i) k) there.span e (ap (slice_get (thing_spans i)) (sym number) ∙ there.numbered) ate in
      let first : g.first x ≡ e.0.address / PAGE = there.first ∙ ap (λ (z : Span). z.0.address / PAGE) same in
      let pages : g.pages x ≡ e.0.pages = there.pages ∙ ap (λ (z : Span). z.0.pages) same in
      let bytes = bytes_there x listed (no_state x (ap is_kernel (sym there.is.kind) ∙ there.not_kernel)) in
      ap (λ f. bytes_from pages_then f e.0.pages) (sym first)
      ∙ (ap (bytes_from pages_then (g.first x)) (sym pages)
      ∙ (final_bytes g (fixed_of p files i keeps sound) i.header.cpus (same_cpus p files i sound) machine_ran.state system_ran.state runs.state x bytes.0 bytes.1 bytes.2
      ∙ sym (ap (λ o. option_map_or (λ bs. bs) o []) bytes.1)))

  same_final : final_text (setup_of i) i.spans pages_then ≡ system_text p system_ran.state
  same_final = final_text_is p files i (setup_of i) pages_then system_ran.state keeps sound.contents sound.plan_and_events.many its_states its_bytes

  pub same_text : run_text tables i (image_record i r) ≡ trace_of p files r
  unfolding image_text trace_of run_of lowered
  same_text = ap (λ ls. flat_map turn_text ls ++ final_text (setup_of i) i.spans pages_then) (sym runs.lines) ∙ ap (λ t. flat_map turn_text system_ran.lines ++ t) same_final

-- .. for every record that is read for the policy's devices
pub traces_are : (p : Source) (files : Held) (i : Image) (tables : Option DmaFile) (text : List ℕ) (r : DeviceRecord) → KeepsConditions i → IsSound p files i
    → HoldsBytes i → Fit p i tables → record_of text (devices_of p) ≡ Ok r → run_text tables i (image_record i r) ≡ trace_of p files r
traces_are p files i tables text r keeps sound small fit e = same_text p files i keeps sound small tables fit r (record_is_read (devices_of p) text r e)
