-- Where no content is refused, the files that contents are of are held.
use Rattle.std.proofs.Common.{◌≡◌, ℕ, true, List, Option, Some, None, refl}
use Rattle.std.specs.Prelude.{is_some}
use Rattle.std.specs.FinMap.{get}
use Rattle.proof_build.specs.Sound.{AreFilesHeld, is_file_held}
use Rattle.muen_num.specs.declared.limits.TheConstants.{COMPONENT_FILE_MOST}
use Rattle.muen_num.specs.declared.tag.Tag.{Tag}
use Rattle.muen_num.proofs.SearchLaws.{all_none}
use Rattle.muen_outside.specs.Store.{reading_of}
use Rattle.policy_lawful.specs.Contents.{Held}
use Rattle.policy_lawful.specs.Thing.{Item, items_of, thing_tag}
use Rattle.policy_lawful.specs.source.Content.{Content}
use Rattle.policy_lawful.specs.source.Content.TheVariants.{Zero, Fill, Inline, File}
use Rattle.policy_lawful.specs.source.Source.{Source}
use Rattle.muen_build.specs.Refusals.{content_refused, contents_refused, file_refused, item_refused}

-- what isn't refused as missing is there
file_there : (tag : Tag) (size : ℕ) (name : List ℕ) (offset : ℕ) (most : Option ℕ) (o : Option (List ℕ)) → file_refused tag size name offset most (reading_of o COMPONENT_FILE_MOST) ≡ None → is_some o ≡ true
file_there tag size name offset most None h = absurd (cc)
file_there tag size name offset most (Some bytes) h = refl

content_held : (files : Held) (tag : Tag) (size : ℕ) (c : Content) → content_refused files tag size c ≡ None → is_file_held files c ≡ true
content_held files tag size Zero h = refl
content_held files tag size (Fill byte) h = refl
content_held files tag size (Inline bytes) h = refl
content_held files tag size (File name offset most) h = file_there tag size name offset most (get files name) h

pub files_held : (files : Held) (p : Source) → contents_refused files p ≡ None → AreFilesHeld p files
unfolding contents_refused
files_held files p h =
    all_none (λ (i : Item). is_file_held files i.content) (item_refused files) (λ i. content_held files (thing_tag i.thing) i.size i.content) (items_of p) h
