-- What a verdict that is answered tells of what a store holds.
use Rattle.std.proofs.Common.{◌≡◌, ℕ, List, [], Some, None, Result, Ok, Err, refl, ap, subst, ◌∙◌}
use Rattle.std.specs.FinMap.{get}
use Rattle.image_pack.specs.Faults.{unpacked}
use Rattle.image_pack.specs.fault.ImageFault.{ImageFault}
use Rattle.image_pack.proofs.Theorem.{back}
use Rattle.image_pack.specs.Image.{image as image_form}
use Rattle.image_pack.specs.declared.parts.Image.{Image}
use Rattle.image_pack.proofs.ImageLaws.{image_laws}
use Rattle.image_verify.proofs.VerdictLaws.{a_fault_is_none_of_a_sound_image, a_sound_image_has_no_fault, no_fault_is_sound}
use Rattle.image_verify.specs.declared.fault.Fault.{Fault}
use Rattle.muen_build.specs.Refusals.{fitting_policy_of}
use Rattle.muen_build.proofs.Refusing.{accepted_fits}
use Rattle.muen_num.specs.declared.limits.TheConstants.{IMAGE_MOST, POLICY_MOST}
use Rattle.muen_outside.specs.States.{SinkState, Write}
use Rattle.muen_outside.specs.Store.{Reading, Store, whole, absent, long, reading_of}
use Rattle.policy_lawful.specs.refusal.Refusal.{Refusal}
use Rattle.policy_lawful.specs.source.Source.{Source}
use Rattle.muen_top.specs.Answers.{Answer, Reason, missing, too_long, refused, image_refused, judges, stops, of_file, judged_answer, verified_answer, verify_answer}
use Rattle.muen_top.specs.Calls.{IsDone}
use Rattle.muen_top.specs.Headline.{HoldsBuilt, HoldsPolicy, TellsFault, TellsSound}
use Rattle.muen_top.specs.Verdicts.{Finds, HasVerdict}

-- the verdict is answered of these
pub record IsJudged (m : Store) (image policy : List ℕ) (Such : Answer → Type 0) : Type 0 where
  pub p : Source
  pub bytes : List ℕ
  pub parts : Image
  pub document : List ℕ
  pub image_read : reading_of (get m image) IMAGE_MOST ≡ whole bytes
  pub document_read : reading_of (get m policy) POLICY_MOST ≡ whole document
  pub fits : fitting_policy_of m document ≡ Ok p
  pub such : Such (judges p m bytes parts)

-- of an answer that is such, where no reason to stop is
module _ (m : Store) (image policy : List ℕ) (Such : Answer → Type 0) (never : (reason : Reason) → Such (stops reason) → ⊥) where
  abbrev Judged : Type 0
  Judged = IsJudged m image policy Such

  module _ (bytes : List ℕ) (image_read : reading_of (get m image) IMAGE_MOST ≡ whole bytes) where
    of_policy : (i : Image) (document : List ℕ) → reading_of (get m policy) POLICY_MOST ≡ whole document → (r : Result Source Refusal) → fitting_policy_of m document ≡ r → Such (judged_answer m bytes i r) → Judged
    of_policy i document read (Ok p) e h = record {
      p = p;
      bytes = bytes;
      parts = i;
      document = document;
      image_read = image_read;
      document_read = read;
      fits = e;
      such = h;
    }
    of_policy i document read (Err r) e h = absurd (never (refused r) h)

    of_document : (i : Image) (reading : Reading) → reading_of (get m policy) POLICY_MOST ≡ reading → Such (of_file policy (λ document. judged_answer m bytes i (fitting_policy_of m document)) reading) → Judged
    of_document i (whole document) read h = of_policy i document read (fitting_policy_of m document) refl h
    of_document i absent read h = absurd (never (missing policy) h)
    of_document i (long n) read h = absurd (never (too_long policy n) h)

    of_image : (r : Result Image ImageFault) → Such (verified_answer m policy bytes r) → Judged
    of_image (Ok i) h = of_document i (reading_of (get m policy) POLICY_MOST) refl h
    of_image (Err fault) h = absurd (never (image_refused fault) h)

  of_reading : (reading : Reading) → reading_of (get m image) IMAGE_MOST ≡ reading → Such (of_file image (λ bytes. verified_answer m policy bytes (unpacked image_form bytes)) reading) → Judged
  of_reading (whole bytes) read h = of_image bytes read (unpacked image_form bytes) h
  of_reading absent read h = absurd (never (missing image) h)
  of_reading (long n) read h = absurd (never (too_long image n) h)

  pub is_judged : Such (verify_answer m image policy) → Judged
  unfolding verify_answer
  is_judged h = of_reading (reading_of (get m image) IMAGE_MOST) refl h

module _ (m : Store) (image policy : List ℕ) where
  -- without a fault the image is sound
  pub tells_sound : (ws : List Write) (out out' : SinkState) → IsDone (verify_answer m image policy) ws out out' → TellsSound m image policy
  tells_sound ws out out' did =
      let j = is_judged m image policy (λ a. IsDone a ws out out') (λ reason h. h) did in
      let v : HasVerdict j.p m j.bytes j.parts None = j.such.1 in
      record {
        p = j.p;
        fits = record { document = j.document; read = j.document_read; fits = j.fits };
        sound = record {
          bytes = j.bytes;
          parts = j.parts;
          read = j.image_read;
          image = v.image;
          sound = no_fault_is_sound j.p m j.parts v.lawful v.image.parts v.held v.verdict;
        };
      }

  -- .. and nothing was written
  pub writes_nothing : (ws : List Write) (out out' : SinkState) → IsDone (verify_answer m image policy) ws out out' → ws ≡ []
  writes_nothing ws out out' did = (is_judged m image policy (λ a. IsDone a ws out out') (λ reason h. h) did).such.0

  -- with one it isn't, or a table is read twice
  pub tells_fault : (fault : Fault) → Finds (verify_answer m image policy) (Some fault) → TellsFault m image policy fault
  tells_fault fault finds =
      let j = is_judged m image policy (λ a. Finds a (Some fault)) (λ reason h. h) finds in
      let v : HasVerdict j.p m j.bytes j.parts (Some fault) = j.such in
      record {
        p = j.p;
        bytes = j.bytes;
        parts = j.parts;
        fits = record { document = j.document; read = j.document_read; fits = j.fits };
        read = j.image_read;
        verdict = v;
        unsound = λ sound. a_fault_is_none_of_a_sound_image j.p m j.parts fault v.verdict sound;
      }

  module _ (p : Source) (accepted : HoldsPolicy m policy p) (built : HoldsBuilt m image p m) where
    -- of what `build` has written the verdict is asked
    pub built_judged : verify_answer m image policy ≡ judges p m built.bytes built.built.parts
    unfolding verify_answer
    built_judged =
        ap (of_file image (λ bytes. verified_answer m policy bytes (unpacked image_form bytes))) built.read
        ∙ (ap (verified_answer m policy built.bytes) (ap (unpacked image_form) built.built.image.bytes_are ∙ back image_form image_laws built.built.parts built.built.image.parts)
        ∙ (ap (of_file policy (λ document. judged_answer m built.bytes built.built.parts (fitting_policy_of m document))) accepted.read
        ∙ ap (judged_answer m built.bytes built.built.parts) (accepted_fits m accepted.document p accepted.accepted)))

    -- and it has no fault
    pub no_fault : (fault : Fault) → Finds (verify_answer m image policy) (Some fault) → ⊥
    no_fault fault finds =
        let v : HasVerdict p m built.bytes built.built.parts (Some fault) = subst (λ a. Finds a (Some fault)) built_judged finds in
        let none : Some fault ≡ None = a_sound_image_has_no_fault p m built.built.parts (Some fault) v.verdict built.built.sound built.built.paths in
        cc (none)
