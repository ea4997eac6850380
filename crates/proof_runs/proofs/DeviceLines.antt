-- What tables that fit let devices write is what the policy lets them write.
use Rattle.std.proofs.Common.{◌≡◌, ℕ, true, List, length, Option, Some, None, is_some, nat_le, refl, sym, ap, ◌∙◌, subst, le-leb}
use Rattle.std.specs.Prelude.{◌≤◌, slice_get}
use Rattle.std.specs.List.{All}
use Rattle.std.specs.Str.{bytes_eq}
use Rattle.std.proofs.lemmas.Bool.{and_from, false≢true}
use Rattle.muen_num.proofs.Members.{all_in}
use Rattle.muen_num.proofs.Lookups.{at_position, found_number, same_names}
use Rattle.subject_model.specs.Clock.{line_writes}
use Rattle.image_load.specs.Resolving.{device_called}
use Rattle.image_soundness.specs.Sound.{IsDeviceOf, IsSound, address_of}
use Rattle.image_pack.specs.ImageConditions.{KeepsConditions}
use Rattle.image_pack.specs.declared.parts.DevicePart.{DevicePart}
use Rattle.image_pack.specs.declared.parts.Image.{Image}
use Rattle.muen_num.specs.declared.access.AccessKind.TheVariants.{Write}
use Rattle.policy_lawful.specs.Contents.{Held}
use Rattle.policy_lawful.specs.Dma.{dma_access}
use Rattle.policy_lawful.specs.source.Device.{Device as SourceDevice}
use Rattle.policy_lawful.specs.source.Source.{Source}
use Rattle.record_text.specs.Bench.{BenchDevice}
use Rattle.record_text.proofs.Rules.{IsFew}
use Rattle.dma_tables.specs.Lowered.{is_line}
use Rattle.dma_tables.specs.declared.file.DmaFile.{DmaFile}
use Rattle.proof_start.specs.GroundOf.{ground_of}
use Rattle.proof_start.specs.Words.{IsByte}
use Rattle.proof_turns.specs.Inputs.{AreLine}
use Rattle.proof_runs.proofs.DmaLines.{line_alike}
use Rattle.proof_runs.specs.Fit.{Fit, access_address_of, write_by}
use Rattle.proof_runs.proofs.BenchGround.{HasLines, written_by}
use Rattle.proof_runs.proofs.Beside.{beside}

-- tables fit a device of the policy
abbrev FitsDevice : Source → Image → Option DmaFile → SourceDevice → Type 0
FitsDevice p i tables d = (addr : ℕ) → write_by tables d.name addr ≡ access_address_of (address_of p i) (dma_access p d.name addr Write)

-- a few bytes are those of a line
is_a_line : (bytes : List ℕ) → IsFew bytes → is_line bytes ≡ true
is_a_line bytes few =
    let some : 1 ≤ length bytes = few.some in
    let most : length bytes ≤ 64 = few.few in
    and_from (nat_le 1 (length bytes)) (nat_le (length bytes) 64) (le-leb 1 (length bytes) some) (le-leb (length bytes) 64 most)

module _ (p : Source) (files : Held) (i : Image) (keeps : KeepsConditions i) (sound : IsSound p files i) (tables : Option DmaFile) (fit : Fit p i tables) where
  -- the line of a device that is found by its number and by its name
  line_of : (device : List ℕ) (addr : ℕ) (bytes : List ℕ) (number : ℕ) (d : DevicePart) → slice_get i.devices number ≡ Some d → device_called device i ≡ Some d
      → All IsByte bytes → IsFew bytes → AreLine (ground_of p i) (written_by tables i number addr bytes) (line_writes p device addr bytes)
  line_of device addr bytes number d here found small few =
      let x = beside (IsDeviceOf p i) (λ d. bytes_eq d.name device) p.devices i.devices d sound.plan_and_events.devices found in
      let its : FitsDevice p i tables x.other = all_in (FitsDevice p i tables) p.devices fit x.other x.within in
      let named : d.name ≡ device = same_names d.name device x.passes in
      let other : x.other.name ≡ device = sym (ap (λ (b : BenchDevice). b.name) x.related.may) ∙ named in
      let fits : (a : ℕ) → write_by tables device a ≡ access_address_of (address_of p i) (dma_access p device a Write) =
      subst (λ name. (a : ℕ) → write_by tables name a ≡ access_address_of (address_of p i) (dma_access p name a Write)) other its in
      line_alike p files i keeps sound tables device number d here named fits addr bytes (is_a_line bytes few) small

  -- the line of a device that is found by its name
  pub lines_of : HasLines (ground_of p i) i tables
  unfolding ground_of
  lines_of device addr bytes number at small few = by (slice_get i.devices number) refl
    where
      found : slice_get i.devices number ≡ device_called device i
      found = at_position (λ d. bytes_eq d.name device) i.devices number at

      by : (o : Option DevicePart) → slice_get i.devices number ≡ o → AreLine (ground_of p i) (written_by tables i number addr bytes) (line_writes p device addr bytes)
      by (Some d) e = line_of device addr bytes number d e (sym found ∙ e) small few
      by None e = absurd (false≢true (sym (ap is_some (sym found ∙ e)) ∙ (sym (found_number (λ d. bytes_eq d.name device) i.devices) ∙ ap is_some at)))
