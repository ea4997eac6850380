-- What reading the files of `verify`, and the verdict, come to.
use Rattle.std.specs.Prelude.{◌≡◌, ℕ, List, [], ◌∷◌, Option, Some, None, Ok, Err}
use Rattle.image_soundness.specs.Sound.{AreFilesHeld}
use Rattle.image_soundness.specs.ThingBytes.{thing_bytes}
use Rattle.image_pack.specs.Faults.{unpacked}
use Rattle.image_pack.specs.Image.{image as image_form}
use Rattle.image_pack.specs.Parts.{IsImage}
use Rattle.image_pack.specs.declared.parts.Image.{Image}
use Rattle.image_verify.specs.declared.fault.Fault.{Fault}
use Rattle.muen_build.specs.Accepting.{Files, LacksContents}
use Rattle.muen_build.specs.Refusals.{lawful_policy_of}
use Rattle.muen_build.specs.declared.accepted.BuildError.{BuildError}
use Rattle.muen_num.specs.Answers.{Answers}
use Rattle.muen_num.specs.declared.limits.TheConstants.{IMAGE_MOST, POLICY_MOST}
use Rattle.muen_outside.specs.Puts.{Appended, Failed}
use Rattle.muen_outside.specs.States.{History, Look, SinkState, look}
use Rattle.muen_outside.specs.Store.{Store, whole}
use Rattle.policy_lawful.specs.Contents.{Held}
use Rattle.policy_lawful.specs.Resolution.{Resolution, source_of}
use Rattle.policy_lawful.specs.refusal.Refusal.{Refusal}
use Rattle.policy_lawful.specs.refusal.Refusal.TheVariants.{NoMemory as NoMemoryFor}
use Rattle.muen_top.specs.Answers.{judges, verify_answer}
use Rattle.policy_lawful.specs.source.Source.{Source}
use Rattle.muen_top.specs.CommandErrors.{error_of_build, error_of_refusal}
use Rattle.muen_top.specs.Commands.{verify}
use Rattle.muen_top.specs.FilesSeen.{OverLooks, Saw, SawAfter}
use Rattle.muen_top.specs.Loads.{NotReadAfter}
use Rattle.muen_top.specs.PolicyCommands.{HasRead}
use Rattle.muen_top.specs.Reports.{sound_text}
use Rattle.muen_top.specs.Runs.{OnlyMemory}
use Rattle.muen_top.specs.Verdicts.{HasVerdict}
use Rattle.muen_top.specs.declared.outcome.CommandError.{CommandError}
use Rattle.muen_top.specs.declared.outcome.CommandError.TheVariants.{NotSound}
use Rattle.muen_top.specs.declared.outcome.Outcome.{Outcome}
use Rattle.muen_top.specs.declared.outcome.Outcome.TheVariants.{Done, Stopped, OutputFault}
use Rattle.muen_top.specs.declared.verify.ImageRead.{ImageRead}
use Rattle.muen_top.specs.declared.verify.PolicyRead.{PolicyRead}
use Rattle.muen_top.specs.declared.verify.ToJudge.{ToJudge}

-- the look at an image that gave these bytes
abbrev pub image_looks : List ℕ → List ℕ → List Look
image_looks image bytes = look image IMAGE_MOST (Ok (whole bytes)) ∷ []

-- .. that were read
abbrev pub SawImage : List ℕ → Option Store → History → History → ImageRead → Type 0
SawImage image held old new x = Saw held old new (image_looks image x.bytes)

-- and they are of these parts
abbrev pub HasItsParts : ImageRead → Type 0
HasItsParts x = IsImage x.bytes x.parts × (unpacked image_form x.bytes ≡ Ok x.parts)

-- ---- the policy, after these looks

-- the document of a lawful policy was read
pub record HasLawful (looks : List Look) (policy : List ℕ) (held : Option Store) (old new : History) (document : List ℕ) (r : Resolution) : Type 0 where
  pub read : SawAfter looks policy POLICY_MOST (Ok (whole document)) held old new
  pub lawful : lawful_policy_of document ≡ Ok (source_of r)

-- .. and this policy of it
abbrev pub HasPolicy : List Look → List ℕ → Option Store → History → History → PolicyRead → Type 0
HasPolicy looks policy held old new x = HasLawful looks policy held old new x.document x.policy

-- why there is none: the file isn't read, or the policy is refused
pub data NotLawful (looks : List Look) (policy : List ℕ) (held : Option Store) (old new : History) (error : CommandError) : Type 0 where
  unread : NotReadAfter looks policy POLICY_MOST held old new error → NotLawful looks policy held old new error
  unlawful : (document : List ℕ) (r : Refusal) → SawAfter looks policy POLICY_MOST (Ok (whole document)) held old new → Answers NoMemoryFor (lawful_policy_of document) (Err r)
      → error ≡ error_of_refusal r → NotLawful looks policy held old new error

-- ---- the contents

-- why there are none: they are refused, or a look failed, or memory was refused
pub record LacksAny (given : Files) (p : Source) (held : Option Store) (old new : History) (error : CommandError) : Type 0 where
  pub build_error : BuildError
  pub lacks : LacksContents given p held old new build_error
  pub made : error ≡ error_of_build build_error

-- ---- all that is read

-- over a store, which holds the files that contents name, the verdict is asked for of the image of these bytes, for this policy,
-- whose regions hold this
pub record IsAskedFor (image policy bytes : List ℕ) (i : Image) (r : Resolution) (things : List (List ℕ)) (m : Store) : Type 0 where
  pub answer : verify_answer m image policy ≡ judges (source_of r) m bytes i
  pub held : AreFilesHeld (source_of r) m
  pub things_are : things ≡ thing_bytes m r

-- .. over every store that agrees with the looks
pub record IsToJudge (image policy : List ℕ) (i : Image) (r : Resolution) (things : List (List ℕ)) (looks : List Look) : Type 0 where
  pub bytes : List ℕ
  pub image_is : IsImage bytes i
  pub over : OverLooks looks (IsAskedFor image policy bytes i r things)

abbrev pub HasAllRead : List ℕ → List ℕ → Option Store → History → History → Image → Resolution → List (List ℕ) → Type 0
HasAllRead image policy held old new i r things = HasRead (verify image policy) held old new (IsToJudge image policy i r things)

-- .. of what was read
abbrev pub HasToJudge : List ℕ → List ℕ → Option Store → History → History → ToJudge → Type 0
HasToJudge image policy held old new x = HasAllRead image policy held old new x.parts x.policy x.things

-- ---- the verdict

-- what is found of an image is this, over any files that hold what contents name, and over which the policy's regions hold so
abbrev pub IsFound : Image → Resolution → List (List ℕ) → Option Fault → Type 0
IsFound i r things o =
    (files : Held) (bytes : List ℕ) → AreFilesHeld (source_of r) files → things ≡ thing_bytes files r → IsImage bytes i → HasVerdict (source_of r) files bytes i o

-- how a command ends that has found such: that the image is sound is put, or its fault is told; or memory was refused
abbrev pub EndsFound : (Option Fault → Type 0) → SinkState → SinkState → Outcome → Type 0
EndsFound Is out out' Done = Is None × Appended sound_text out out'
EndsFound Is out out' OutputFault = Is None × Failed sound_text out out'
EndsFound Is out out' (Stopped (NotSound fault)) = Is (Some fault) × (out' ≡ out)
EndsFound Is out out' (Stopped error) = OnlyMemory error × (out' ≡ out)
