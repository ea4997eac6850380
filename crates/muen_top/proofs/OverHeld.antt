-- What follows where files tell what they hold.
use Rattle.std.proofs.Common.{◌≡◌, inl, inr, ◌⊎◌, List, [], ◌∷◌, Option, Some, None, IfSome, Ok, sym, subst, ap, ◌∙◌, ℕ}
use Rattle.std.specs.FinMap.{insert}
use Rattle.muen_outside.specs.Looks.{HeldAfter, ShowAll}
use Rattle.muen_outside.specs.States.{Look, Write, write}
use Rattle.muen_outside.specs.Store.{Store, insert_known}
use Rattle.policy_lawful.specs.source.Source.{Source}
use Rattle.muen_top.specs.FilesSeen.{OverLooks}
use Rattle.muen_top.specs.Headline.{HoldsWritten, WritesBuilt, after_writes}
use Rattle.muen_top.specs.Images.{Wrote, image_last, tables_last}

-- what is told agrees with the looks
pub told_agrees : (held : Option Store) (looks : List Look) → IfSome held (λ m. ShowAll m looks) → (m : Store) → held ≡ Some m → ShowAll m looks
told_agrees held looks agrees m is = let told : IfSome (Some m) (λ m. ShowAll m looks) = subst (λ h. IfSome h (λ m. ShowAll m looks)) is agrees in told

over_told : (held : Option Store) (looks : List Look) (P : Store → Type 0) → IfSome held (λ m. ShowAll m looks) → OverLooks looks P → IfSome held P
over_told None looks P agrees all = tt
over_told (Some m) looks P agrees all = all m agrees

pub or_told : (F : Type 0) (held : Option Store) (looks : List Look) (P : Store → Type 0) → IfSome held (λ m. ShowAll m looks) → F ⊎ OverLooks looks P → F ⊎ IfSome held P
or_told F held looks P agrees (inl fault) = inl fault
or_told F held looks P agrees (inr all) = inr (over_told held looks P agrees all)

-- what writes leave that have ended well
pub all_left : (image : List ℕ) (dma : Option (List ℕ)) (p : Source) (files m : Store) (held held' : Option Store) (ws : List Write) → held ≡ Some m → HeldAfter ws held held' → Wrote image dma p files (Ok tt) ws → held' ≡ Some (after_writes m ws)
all_left image dma p files m held held' ws is left (image_last bytes is_image last one) =
    let after : HeldAfter (write image bytes (Ok tt) ∷ []) held held' = subst (λ x. HeldAfter x held held') one left in
    after.2 ∙ after.1 ∙ ap (λ h. insert_known h image bytes) is ∙ ap (λ x. Some (after_writes m x)) (sym one)
all_left image dma p files m held held' ws is left (tables_last bytes is_image name file named is_tables two) =
    let after : HeldAfter (write image bytes (Ok tt) ∷ write name file (Ok tt) ∷ []) held held' = subst (λ x. HeldAfter x held held') two left in
    let first : after.0 ≡ Some (insert m image bytes) = after.1 ∙ ap (λ h. insert_known h image bytes) is in
    after.2.2 ∙ after.2.1 ∙ ap (λ h. insert_known h name file) first ∙ ap (λ x. Some (after_writes m x)) (sym two)

-- what stands under the image's name is the image that was written, and under that of the tables are the tables
pub left_built : (m : Store) (policy image : List ℕ) (dma : Option (List ℕ)) (held held' : Option Store) (ws : List Write) → held ≡ Some m → HeldAfter ws held held' → WritesBuilt m policy image dma ws → HoldsWritten m policy image dma held'
left_built m policy image dma held held' ws is left w = record {
  p = w.p;
  new = after_writes m ws;
  is = all_left image dma w.p m m held held' ws is left w.written;
  accepted = w.accepted;
  written = w.built;
  tables = w.tables;
}
