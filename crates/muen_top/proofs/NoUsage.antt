-- Only words that have no command's form are answered so.
use Rattle.std.proofs.Common.{◌≡◌, ℕ, List, Option, Some, None, Result, Ok, Err, refl, subst}
use Rattle.std.specs.FinMap.{get}
use Rattle.dma_tables.specs.DmaFile.{dma_file}
use Rattle.dma_tables.specs.declared.file.DmaFile.{DmaFile}
use Rattle.expand_kernel.specs.thing.Region.{Region}
use Rattle.image_load.specs.Resolving.{image_bench}
use Rattle.image_pack.specs.Faults.{unpacked}
use Rattle.image_pack.specs.Image.{image as image_form}
use Rattle.image_pack.specs.declared.parts.Image.{Image}
use Rattle.image_pack.specs.fault.ImageFault.{ImageFault}
use Rattle.image_soundness.specs.Bench.{devices_of}
use Rattle.map_report.specs.Placement.{placement_of}
use Rattle.muen_build.specs.Refusals.{accepted_policy_of, fitting_policy_of, lawful_policy_of}
use Rattle.muen_num.specs.declared.limits.TheConstants.{POLICY_MOST, RECORD_MOST}
use Rattle.muen_outside.specs.Store.{Store, Reading, whole, absent, long, reading_of}
use Rattle.policy_lawful.specs.refusal.Refusal.{Refusal}
use Rattle.policy_lawful.specs.source.Source.{Source}
use Rattle.record_text.specs.DeviceRecord.{DeviceRecord}
use Rattle.record_text.specs.Reading.{record_of}
use Rattle.record_text.specs.declared.fault.RecordFault.{RecordFault}
use Rattle.muen_top.specs.Answers.{usage, Answer, stops, of_file, image_answer, build_answer, trace_answer, policy_answer, boot_answer, named_answer, dma_answer, tables_answer, input_answer, unpacked_answer, run_answer, map_answer, map_policy_answer, placed_answer, flows_answer, flows_policy_answer, judged_answer, verified_answer, verify_answer, answer_of}
use Rattle.muen_top.specs.Commands.{Command, build, boot, run, map, flows, verify, load}
use Rattle.muen_top.specs.declared.limits.TheConstants.{DMA_MOST}

-- this isn't what words are answered that have no command's form
abbrev IsOfCommand : Answer → Type 0
IsOfCommand (stops usage) = ⊥
IsOfCommand _ = Unit {0}

-- what follows a file is of a command, so is what is answered of the file
of_read : (name : List ℕ) (next : List ℕ → Answer) (reading : Reading) → ((bytes : List ℕ) → IsOfCommand (next bytes)) → IsOfCommand (of_file name next reading)
of_read name next (whole bytes) h = h bytes
of_read name next absent h = tt
of_read name next (long n) h = tt

-- `build`, of its policy
of_image : (files : Store) (image : List ℕ) (dma : Option (List ℕ)) (r : Result Source Refusal) → IsOfCommand (image_answer files image dma r)
of_image files image dma (Ok p) = tt
of_image files image dma (Err refusal) = tt

-- `boot`, of its record
of_trace : (files : Store) (p : Source) (r : Result DeviceRecord RecordFault) → IsOfCommand (trace_answer files p r)
of_trace files p (Ok input) = tt
of_trace files p (Err fault) = tt

-- .. of its policy
of_policy : (files : Store) (name : List ℕ) (r : Result Source Refusal) → IsOfCommand (policy_answer files name r)
of_policy files name (Ok p) =
    of_read name (λ bytes. trace_answer files p (record_of bytes (devices_of p))) (reading_of (get files name) RECORD_MOST)
    (λ bytes. of_trace files p (record_of bytes (devices_of p)))
of_policy files name (Err refusal) = tt

-- `run`, of its record
of_named : (tables : Option DmaFile) (i : Image) (r : Result DeviceRecord RecordFault) → IsOfCommand (named_answer tables i r)
of_named tables i (Ok named) = tt
of_named tables i (Err fault) = tt

-- .. of its record's file
of_input : (files : Store) (name : List ℕ) (i : Image) (tables : Option DmaFile) → IsOfCommand (input_answer files name i tables)
of_input files name i tables =
    of_read name (λ bytes. named_answer tables i (record_of bytes (image_bench i))) (reading_of (get files name) RECORD_MOST)
    (λ bytes. of_named tables i (record_of bytes (image_bench i)))

-- .. of its tables
of_dma : (files : Store) (name : List ℕ) (i : Image) (r : Result DmaFile ImageFault) → IsOfCommand (dma_answer files name i r)
of_dma files name i (Ok tables) = of_input files name i (Some tables)
of_dma files name i (Err fault) = tt

-- .. of the file of its tables, if there is one
of_tables : (files : Store) (name : List ℕ) (dma : Option (List ℕ)) (i : Image) → IsOfCommand (tables_answer files name dma i)
of_tables files name None i = of_input files name i None
of_tables files name (Some dma) i =
    of_read dma (λ bytes. dma_answer files name i (unpacked dma_file bytes)) (reading_of (get files dma) DMA_MOST)
    (λ bytes. of_dma files name i (unpacked dma_file bytes))

-- .. of its image
of_unpacked : (files : Store) (name : List ℕ) (dma : Option (List ℕ)) (r : Result Image ImageFault) → IsOfCommand (unpacked_answer files name dma r)
of_unpacked files name dma (Ok i) = of_tables files name dma i
of_unpacked files name dma (Err fault) = tt

-- `map`, of its policy
of_placed : (p : Source) (a : Result (List ℕ) Region) → IsOfCommand (placed_answer p a)
of_placed p (Ok addresses) = tt
of_placed p (Err r) = tt

of_map : (r : Result Source Refusal) → IsOfCommand (map_policy_answer r)
of_map (Ok p) = of_placed p (placement_of p)
of_map (Err refusal) = tt

-- `flows`, of its policy
of_flows : (r : Result Source Refusal) → IsOfCommand (flows_policy_answer r)
of_flows (Ok p) = tt
of_flows (Err refusal) = tt

-- `verify`, of its policy
of_judged : (files : Store) (bytes : List ℕ) (i : Image) (r : Result Source Refusal) → IsOfCommand (judged_answer files bytes i r)
of_judged files bytes i (Ok p) = tt
of_judged files bytes i (Err refusal) = tt

-- .. of its image
of_verified : (files : Store) (policy bytes : List ℕ) (r : Result Image ImageFault) → IsOfCommand (verified_answer files policy bytes r)
of_verified files policy bytes (Ok i) =
    of_read policy (λ document. judged_answer files bytes i (fitting_policy_of files document)) (reading_of (get files policy) POLICY_MOST)
    (λ document. of_judged files bytes i (fitting_policy_of files document))
of_verified files policy bytes (Err fault) = tt

-- each command
of_command : (files : Store) (command : Command) → IsOfCommand (answer_of files (Some command))
unfolding build_answer boot_answer run_answer map_answer flows_answer verify_answer
of_command files (build policy image dma) = of_read policy _ _ (λ bytes. of_image files image dma (accepted_policy_of files bytes))
of_command files (boot policy name) = of_read policy _ _ (λ bytes. of_policy files name (accepted_policy_of files bytes))
of_command files (run image name dma) = of_read image _ _ (λ bytes. of_unpacked files name dma (unpacked image_form bytes))
of_command files (map policy) = of_read policy _ _ (λ bytes. of_map (lawful_policy_of bytes))
of_command files (flows policy) = of_read policy _ _ (λ bytes. of_flows (lawful_policy_of bytes))
of_command files (verify image policy) = of_read image _ _ (λ bytes. of_verified files policy bytes (unpacked image_form bytes))
of_command files (load number) = tt

-- words that are answered so have none
pub no_usage : (files : Store) (command : Option Command) → answer_of files command ≡ stops usage → command ≡ None
no_usage files None e = refl
no_usage files (Some command) e = absurd (subst IsOfCommand e (of_command files command))
