-- What `build` makes and writes.
use Rattle.std.specs.Prelude.{◌≡◌, ℕ, List, [], ◌∷◌, Option, Some, None, IfSome, Result, Ok, Err, option_map}
use Rattle.muen_build.specs.ImageFor.{IsImageFor}
use Rattle.muen_outside.specs.States.{History, Look, Write, write}
use Rattle.muen_outside.specs.Store.{Store}
use Rattle.muen_outside.specs.declared.files.FileError.{FileError}
use Rattle.policy_lawful.specs.source.Source.{Source}
use Rattle.muen_top.specs.Answers.{writes, build_answer}
use Rattle.muen_top.specs.Asked.{Asks}
use Rattle.muen_top.specs.Commands.{build}
use Rattle.muen_top.specs.FilesSeen.{OverLooks, Saw}
use Rattle.muen_top.specs.Tables.{IsTablesFor}
use Rattle.muen_top.specs.declared.build.Built.{Built}

-- ---- what is written

-- after the write of an image that has ended so comes no other: it has failed, or no tables are wanted
abbrev pub IsLast : Option (List ℕ) → Result (Unit {0}) FileError → Type 0
IsLast None end = Unit {0}
IsLast (Some tables) (Ok u) = ⊥
IsLast (Some tables) (Err e) = Unit {0}

-- these writes were made, and the last of them has ended so: of an image for this policy over these files, under the one name,
-- and then, if there is another, of the tables of the policy's domains of devices under that one
pub data Wrote (image : List ℕ) (tables : Option (List ℕ)) (p : Source) (files : Store) (end : Result (Unit {0}) FileError) (ws : List Write) : Type 0 where
  image_last : (bytes : List ℕ) → IsImageFor p files bytes → IsLast tables end → ws ≡ write image bytes end ∷ [] → Wrote image tables p files end ws
  tables_last : (bytes : List ℕ) → IsImageFor p files bytes → (name file : List ℕ) → tables ≡ Some name → IsTablesFor p file
      → ws ≡ write image bytes (Ok tt) ∷ write name file end ∷ [] → Wrote image tables p files end ws

-- ---- what is made before

-- these bytes are an image for the policy that the answer names, and these tables for it, under whatever names they are written
pub record AnswersImage (policy : List ℕ) (bytes : List ℕ) (tables : Option (List ℕ)) (files : Store) : Type 0 where
  pub p : Source
  pub answer : (image : List ℕ) (dma : Option (List ℕ)) → build_answer files policy image dma ≡ writes image dma p files
  pub is : IsImageFor p files bytes
  pub tables_are : IfSome tables (IsTablesFor p)

-- files were looked at, and so it is over every store that agrees with the looks
pub record IsBuilt (policy : List ℕ) (held : Option Store) (old new : History) (bytes : List ℕ) (tables : Option (List ℕ)) : Type 0 where
  pub looks : List Look
  pub saw : Saw held old new looks
  pub asked : (image : List ℕ) (dma : Option (List ℕ)) → Asks (Some (build policy image dma)) looks
  pub says : OverLooks looks (AnswersImage policy bytes tables)

-- .. of what was built
abbrev pub HasBuilt : List ℕ → Option Store → History → History → Built → Type 0
HasBuilt policy held old new b = IsBuilt policy held old new b.image.items (option_map (λ v. v.items) b.tables)
