-- What the first of two calls leaves for the second.
use Rattle.std.proofs.Common.{◌≡◌, ◌∙◌, refl, sym, ap, subst, ℕ, Bool, true, false, List, [], Option, Some, None, IfSome, Ok}
use Rattle.std.specs.FinMap.{get, insert}
use Rattle.std.specs.Prelude.{◌≢◌}
use Rattle.std.specs.Str.{bytes_eq}
use Rattle.image_pack.specs.declared.parts.Image.{Image}
use Rattle.muen_build.proofs.Documents.{other_bytes}
use Rattle.muen_build.specs.Refusals.{accepted_policy_of, fitting_policy_of}
use Rattle.muen_num.proofs.Lookups.{same_names}
use Rattle.muen_num.specs.declared.limits.TheConstants.{RECORD_MOST}
use Rattle.dma_tables.specs.declared.file.DmaFile.{DmaFile}
use Rattle.muen_outside.specs.Looks.{HeldAfter}
use Rattle.muen_outside.specs.States.{SinkState, Write}
use Rattle.muen_outside.specs.Store.{Store, reading_of, whole}
use Rattle.policy_lawful.specs.source.Source.{Source}
use Rattle.proof_runs.specs.Fit.{Fit}
use Rattle.record_text.specs.DeviceRecord.{DeviceRecord}
use Rattle.muen_top.specs.Answers.{answer_of}
use Rattle.muen_top.specs.Calls.{IsDone}
use Rattle.muen_top.specs.Commands.{run, verify, command_of}
use Rattle.muen_top.specs.Headline.{HandsIn, HandsInBuilt, HoldsFitting, HoldsPolicy, HoldsRecord, HoldsSound, HoldsWanted, RunOfBuiltPrintsHeld, RunOfSoundPrintsHeld, TellsSound, WritesBuilt, after_writes}
use Rattle.muen_top.specs.Images.{Wrote, image_last, tables_last}
use Rattle.muen_top.specs.Systems.{RunsSubjectsAloneHeld, by_run}
use Rattle.muen_top.specs.TwoCalls.{FitHeld, PrintsSubjectsAlone}
use Rattle.muen_top.specs.declared.status.Status.{Status}
use Rattle.muen_top.proofs.Verified.{writes_nothing}

-- a store holds one policy under a name
pub one_policy : (m : Store) (name : List ℕ) (p q : Source) → HoldsPolicy m name p → HoldsPolicy m name q → p ≡ q
one_policy m name p q a b =
    let same : whole a.document ≡ whole b.document = sym a.read ∙ b.read in
    let documents : a.document ≡ b.document = cc (same) in
    let answers : Ok p ≡ Ok q = sym a.accepted ∙ (ap (accepted_policy_of m) documents ∙ b.accepted) in
    cc (answers)

-- .. also where there is no room for its regions
pub one_fitting : (m : Store) (name : List ℕ) (p q : Source) → HoldsFitting m name p → HoldsFitting m name q → p ≡ q
one_fitting m name p q a b =
    let same : whole a.document ≡ whole b.document = sym a.read ∙ b.read in
    let documents : a.document ≡ b.document = cc (same) in
    let answers : Ok p ≡ Ok q = sym a.fits ∙ (ap (fitting_policy_of m) documents ∙ b.fits) in
    cc (answers)

differ_so : (a b : List ℕ) → a ≢ b → (same : Bool) → bytes_eq a b ≡ same → bytes_eq a b ≡ false
differ_so a b other true e = absurd (other (same_names a b e))
differ_so a b other false e = e

-- what stands under another name than those of the writes is as it was
pub kept : (m : Store) (image inputs : List ℕ) (dma : Option (List ℕ)) (p : Source) (ws : List Write) → Wrote image dma p m (Ok tt) ws → inputs ≢ image → IfSome dma (λ name. inputs ≢ name)
    → get (after_writes m ws) inputs ≡ get m inputs
kept m image inputs dma p ws (image_last bytes is last one) other others =
    ap (λ xs. get (after_writes m xs) inputs) one ∙ other_bytes m image bytes inputs (differ_so inputs image other (bytes_eq inputs image) refl)
kept m image inputs dma p ws (tables_last bytes is name file named is_tables two) other others =
    let elsewhere : IfSome (Some name) (λ n. inputs ≢ n) = subst (λ d. IfSome d (λ n. inputs ≢ n)) named others in
    ap (λ xs. get (after_writes m xs) inputs) two
    ∙ other_bytes (insert m image bytes) name file inputs (differ_so inputs name elsewhere (bytes_eq inputs name) refl)
    ∙ other_bytes m image bytes inputs (differ_so inputs image other (bytes_eq inputs image) refl)

-- .. and so a record is
pub record_kept : (m n : Store) (inputs : List ℕ) (p : Source) (r : DeviceRecord) → get n inputs ≡ get m inputs → HoldsRecord m inputs p r → HoldsRecord n inputs p r
record_kept m n inputs p r same h = record {
  text = h.text;
  read = ap (λ o. reading_of o RECORD_MOST) same ∙ h.read;
  says = h.says;
}

-- the tables that were written are handed in, or none, as before
pub hands : (n : Store) (p : Source) (i : Image) (dma : Option (List ℕ)) → HoldsWanted n p dma → (dma ≡ None → (j : Image) → Fit p j None) → HandsInBuilt n p i dma
hands n p i None wanted fit = fit refl i
hands n p i (Some name) wanted fit = wanted

-- ---- what the second call puts

-- after `build`
module _ (m : Store) (policy image inputs : List ℕ) (dma : Option (List ℕ)) (p : Source) (r : DeviceRecord) (ws : List Write) (w : WritesBuilt m policy image dma ws) where
  pub built_prints_alone : (words : List (List ℕ)) (held : Option Store) (out out' : SinkState) (status : Status) → held ≡ Some (after_writes m ws)
      → command_of words ≡ Some (run image inputs dma) → HoldsPolicy m policy p → HoldsRecord m inputs p r → inputs ≢ image → IfSome dma (λ name. inputs ≢ name)
      → (dma ≡ None → (i : Image) → Fit p i None) → RunOfBuiltPrintsHeld words held out out' status → RunsSubjectsAloneHeld words held → PrintsSubjectsAlone p m r out out' status
  built_prints_alone words held out out' status is asked holds says other others fit prints alone =
      let same : w.p ≡ p = one_policy m policy w.p p w.accepted holds in
      let there : HoldsRecord (after_writes m ws) inputs w.p r =
      record_kept m (after_writes m ws) inputs w.p r (kept m image inputs dma w.p ws w.written other others) (subst (λ q. HoldsRecord m inputs q r) (sym same) says) in
      let handed : HandsInBuilt (after_writes m ws) w.p w.built.built.parts dma =
      hands (after_writes m ws) w.p w.built.built.parts dma w.tables (subst (λ q. dma ≡ None → (i : Image) → Fit q i None) (sym same) fit) in
      let sound : HoldsSound (after_writes m ws) image w.p m =
      record { bytes = w.built.bytes; parts = w.built.built.parts; read = w.built.read; image = w.built.built.image; sound = w.built.built.sound } in
      subst (λ q. PrintsSubjectsAlone q m r out out' status) same
      (prints (after_writes m ws) image inputs dma w.p m r is asked w.built handed there, alone (after_writes m ws) w.p m r is (by_run image inputs dma asked sound there))

-- `verify` writes nothing
pub verified_held : (m : Store) (image policy : List ℕ) (words : List (List ℕ)) (held held' : Option Store) (ws : List Write) (out out' : SinkState) → command_of words ≡ Some (verify image policy)
    → IsDone (answer_of m (command_of words)) ws out out' → HeldAfter ws held held' → held ≡ Some m → held' ≡ Some m
verified_held m image policy words held held' ws out out' asked did left is =
    let none : ws ≡ [] = writes_nothing m image policy ws out out' (subst (λ command. IsDone (answer_of m command) ws out out') asked did) in
    let stays : held' ≡ held = subst (λ xs. HeldAfter xs held held') none left in
    stays ∙ is

-- .. and after it
module _ (m : Store) (policy image inputs : List ℕ) (dma : Option (List ℕ)) (tables : Option DmaFile) (p : Source) (r : DeviceRecord) (t : TellsSound m image policy) where
  pub verified_prints_alone : (words : List (List ℕ)) (held : Option Store) (out out' : SinkState) (status : Status) → held ≡ Some m
      → command_of words ≡ Some (run image inputs dma) → HoldsFitting m policy p → HoldsRecord m inputs p r → HandsIn m dma tables → FitHeld m image p tables
      → RunOfSoundPrintsHeld words held out out' status → RunsSubjectsAloneHeld words held → PrintsSubjectsAlone p m r out out' status
  verified_prints_alone words held out out' status is asked holds says handed fit prints alone =
      let same : t.p ≡ p = one_fitting m policy t.p p t.fits holds in
      let there : HoldsRecord m inputs t.p r = subst (λ q. HoldsRecord m inputs q r) (sym same) says in
      let fits : Fit t.p t.sound.parts tables = subst (λ q. Fit q t.sound.parts tables) (sym same) (fit t.sound.bytes t.sound.parts t.sound.read t.sound.image) in
      subst (λ q. PrintsSubjectsAlone q m r out out' status) same
      (prints m image inputs dma tables t.p m r is asked t.sound handed fits there, alone m t.p m r is (by_run image inputs dma asked t.sound there))
