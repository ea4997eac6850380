-- What the program answers where files hold a policy, or an image that is sound for one, and a record of its devices.
use Rattle.std.proofs.Common.{◌≡◌, ℕ, List, Option, None, Some, refl, sym, ap, ◌∙◌}
use Rattle.image_pack.specs.Faults.{unpacked}
use Rattle.image_pack.proofs.Theorem.{back}
use Rattle.dma_tables.specs.DmaFile.{dma_file}
use Rattle.dma_tables.specs.declared.file.DmaFile.{DmaFile}
use Rattle.image_load.specs.Resolving.{image_bench}
use Rattle.image_soundness.specs.Bench.{devices_of}
use Rattle.image_pack.specs.Image.{image as image_form}
use Rattle.image_pack.specs.declared.parts.Image.{Image}
use Rattle.image_pack.proofs.ImageLaws.{image_laws}
use Rattle.muen_build.specs.Refusals.{accepted_policy_of}
use Rattle.muen_outside.specs.Store.{Store}
use Rattle.policy_lawful.specs.Contents.{Held}
use Rattle.policy_lawful.specs.source.Source.{Source}
use Rattle.record_text.specs.DeviceRecord.{DeviceRecord}
use Rattle.record_text.specs.Reading.{record_of}
use Rattle.proof_runs.proofs.ImageRuns.{image_bench_is, image_runs}
use Rattle.proof_runs.specs.Fit.{Fit}
use Rattle.subject_model.specs.Trace.{trace_of}
use Rattle.muen_top.specs.Answers.{answer_of, boot_answer, dma_answer, input_answer, named_answer, of_file, policy_answer, prints, run_answer, tables_answer, trace_answer, unpacked_answer}
use Rattle.muen_top.specs.Commands.{boot, run}
use Rattle.muen_top.specs.Headline.{HandsIn, HandsInBuilt, HoldsBuilt, HoldsPolicy, HoldsRecord, HoldsSound}
use Rattle.muen_top.proofs.Running.{tables_read}
use Rattle.muen_top.proofs.TablesFit.{tables_fit}

module _ (m : Store) (name inputs : List ℕ) (p : Source) (r : DeviceRecord) (says : HoldsRecord m inputs p r) where
  -- `boot` of a policy that is accepted
  pub boot_prints : HoldsPolicy m name p → answer_of m (Some (boot name inputs)) ≡ prints (trace_of p m r)
  unfolding boot_answer
  boot_prints h =
      ap (of_file name (λ bytes. policy_answer m inputs (accepted_policy_of m bytes))) h.read
      ∙ (ap (policy_answer m inputs) h.accepted
      ∙ (ap (of_file inputs (λ bytes. trace_answer m p (record_of bytes (devices_of p)))) says.read
      ∙ ap (trace_answer m p) says.says))

  module _ (files : Held) where
    -- the answer goes on with the tables that are handed in
    handed : (dma : Option (List ℕ)) (tables : Option DmaFile) → HandsIn m dma tables → (i : Image) → tables_answer m inputs dma i ≡ input_answer m inputs i tables
    handed None tables is i = ap (input_answer m inputs i) (sym is)
    handed (Some dma) tables h i =
        let t : DmaFile = h.0 in
        ap (of_file dma (λ bytes. dma_answer m inputs i (unpacked dma_file bytes))) h.1.read
        ∙ (ap (dma_answer m inputs i) (tables_read h.1.bytes t h.1.file)
        ∙ ap (input_answer m inputs i) (sym h.2))

    -- `run` of an image that is sound, with tables that fit
    pub sound_prints : (dma : Option (List ℕ)) (tables : Option DmaFile) (h : HoldsSound m name p files) → HandsIn m dma tables → Fit p h.parts tables → answer_of m (Some (run name inputs dma)) ≡ prints (trace_of p files r)
    unfolding run_answer
    sound_prints dma tables h hands fit =
        ap (of_file name (λ bytes. unpacked_answer m inputs dma (unpacked image_form bytes))) h.read
        ∙ (ap (unpacked_answer m inputs dma) (ap (unpacked image_form) h.image.bytes_are ∙ back image_form image_laws h.parts h.image.parts)
        ∙ (handed dma tables hands h.parts
        ∙ (ap (of_file inputs (λ bytes. named_answer tables h.parts (record_of bytes (image_bench h.parts)))) says.read
        ∙ (ap (λ b. named_answer tables h.parts (record_of says.text b)) (image_bench_is p files h.parts h.sound)
        ∙ (ap (named_answer tables h.parts) says.says
        ∙ ap prints (image_runs p files h.parts tables says.text r h.sound fit says.says))))))

    -- .. and of one that `build` has written, with the tables that it has written, or none
    pub built_prints : (dma : Option (List ℕ)) (h : HoldsBuilt m name p files) → HandsInBuilt m p h.built.parts dma → answer_of m (Some (run name inputs dma)) ≡ prints (trace_of p files r)
    built_prints None h fit =
        sound_prints None None (record { bytes = h.bytes; parts = h.built.parts; read = h.read; image = h.built.image; sound = h.built.sound }) refl fit
    built_prints (Some dma) h wrote =
        sound_prints (Some dma) (Some wrote.built.tables) (record { bytes = h.bytes; parts = h.built.parts; read = h.read; image = h.built.image; sound = h.built.sound })
        (wrote.built.tables, record { bytes = wrote.bytes; read = wrote.read; file = wrote.built.file }, refl)
        (tables_fit p wrote.built.tables wrote.built.are files h.built.parts h.built.sound h.built.spans)
