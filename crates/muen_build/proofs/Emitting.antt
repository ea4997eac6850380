-- What an image is made of: its regions are filled, and what holds over the files that were seen.
use Rattle.std.proofs.Common.{◌≡◌, ℕ, List, [], ◌∷◌, refl, sym, ap, subst, ◌∙◌}
use Rattle.std.specs.FinMap.{insert}
use Rattle.std.specs.Prelude.{IfOk, Result}
use Rattle.std.proofs.lemmas.Result.{IfOk-weaker}
use Rattle.expand_kernel.specs.Expansion.{Expansion}
use Rattle.image_emit.specs.Made.{IsEmitted, IsFilled}
use Rattle.proof_build.specs.ThingBytes.{thing_bytes}
use Rattle.proof_build.specs.Built.{IsMadeFor}
use Rattle.proof_build.specs.Sound.{AreFilesHeld}
use Rattle.image_pack.specs.declared.parts.Image.{Image}
use Rattle.muen_outside.specs.Looks.{ShowAll}
use Rattle.muen_outside.specs.Store.{Store}
use Rattle.policy_lawful.proofs.ThingsByIndex.{placed_by_index}
use Rattle.policy_lawful.specs.Resolution.{Resolution, source_of}
use Rattle.region_alloc.specs.Placed.{IsPlaced, Placement}
use Rattle.muen_build.specs.Accepting.{Accepts, Files, looks_of}
use Rattle.muen_build.specs.Reading.{things_read}
use Rattle.muen_build.proofs.FilesHeld.{files_held}
use Rattle.muen_build.proofs.Held.{things_held}
use Rattle.muen_build.proofs.Refusing.{accepted_so}
use Rattle.muen_build.proofs.Rooms.{things_filled}

-- where things hold what the policy says over files, what is emitted of them is made for policy and files
pub made_for : (x : Placement) (things : List (List ℕ)) (i : Image) → IsEmitted x things i → (files : Store) → things ≡ thing_bytes files x.expanded.lawful → IsMadeFor (source_of x.expanded.lawful) files i
made_for x things i emitted files e = record { placed = x; of_policy = refl; emitted = subst (λ bytes. IsEmitted x bytes i) e emitted }

module _ (x : Placement) (placed : IsPlaced x) where
  -- of its policy, as it is reached
  module _ (expanded : Expansion) (of_placed : expanded ≡ x.expanded) (lawful r : Resolution) (of_expanded : lawful ≡ expanded.lawful) (of_lawful : r ≡ lawful)
      (name document : List ℕ) (found : Files) (things : List (List ℕ)) (are_things : things ≡ things_read ((name, document) ∷ []) found (source_of r)) where
    things_are : things ≡ things_read ((name, document) ∷ []) found (source_of x.expanded.lawful)
    things_are = are_things ∙ ap (λ p. things_read ((name, document) ∷ []) found (source_of p)) (of_lawful ∙ of_expanded ∙ ap (λ p. p.lawful) of_placed)

    pub filled_so : IsFilled x things
    filled_so = subst (IsFilled x) (sym things_are) (things_filled ((name, document) ∷ []) found x placed.resolved placed.expansion.regions)

    pub seen_so : {E : Type 0} (Holds : Store → Image → Type 0) (result : Result Image E) → Accepts name (looks_of found) document (source_of x.expanded.lawful)
        → IfOk result (λ i. (files : Store) → things ≡ thing_bytes files x.expanded.lawful → AreFilesHeld (source_of x.expanded.lawful) files → Holds files i)
        → IfOk result (λ i. (files : Store) → ShowAll files (looks_of found) → Holds (insert files name document) i)
    seen_so Holds result accepts held =
        let fit = λ (m : Store) (t : ShowAll m (looks_of found)). (accepted_so (insert m name document) document (source_of x.expanded.lawful) (accepts m t)).contents in
        IfOk-weaker result _ _
        (λ i h files s.
        h (insert files name document) (things_are ∙ things_held ((name, document) ∷ []) found x.expanded.lawful (placed_by_index x.expanded.lawful placed.resolved) fit files s)
        (files_held (insert files name document) (source_of x.expanded.lawful) (fit files s))) held
