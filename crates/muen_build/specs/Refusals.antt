-- What a policy with its files is refused for (this project's own order): it is no JSON text, it breaks the schema, it
-- breaks a rule, then contents are missing or don't fit, then there is no room for a region.
use Rattle.std.specs.Prelude.{ℕ, List, [], ◌∷◌, length, nat_le, Option, Some, None, Result, Ok, Err, if◌then◌else◌}
use Rattle.std.specs.FinMap.{get}
use Rattle.muen_num.specs.Search.{first_in, first_of}
use Rattle.muen_num.specs.declared.limits.TheConstants.{COMPONENT_FILE_MOST}
use Rattle.muen_num.specs.declared.tag.Tag.{Tag}
use Rattle.muen_outside.specs.Store.{Reading, whole, absent, long, reading_of}
use Rattle.policy_json.specs.Document.{policy_of}
use Rattle.policy_lawful.specs.Lawful.{kept_or, unlawful}
use Rattle.policy_lawful.specs.Contents.{Held, file_part}
use Rattle.policy_lawful.specs.Thing.{Item, items_of, thing_tag}
use Rattle.policy_lawful.specs.refusal.Refusal.{Refusal}
use Rattle.policy_lawful.specs.refusal.Refusal.TheVariants.{Missing, TooLong, FileFit}
use Rattle.policy_lawful.specs.source.Content.{Content}
use Rattle.policy_lawful.specs.source.Content.TheVariants.{Zero, Fill, Inline, File}
use Rattle.policy_lawful.specs.source.Source.{Source}
use Rattle.region_alloc.specs.Placement.{no_room}

-- ---- rules

abbrev pub lawful_alone : Result Source Refusal → Result Source Refusal
lawful_alone (Ok p) = kept_or p (unlawful p)
lawful_alone (Err refusal) = Err refusal

-- the policy of a document, where it keeps every rule; else why not. What files hold is not looked at
unfoldable pub lawful_policy_of : List ℕ → Result Source Refusal
lawful_policy_of bytes = lawful_alone (policy_of bytes)

-- ---- contents

-- so many bytes for a region of this size are more than it has room for
abbrev pub too_long_for : Tag → ℕ → ℕ → Option Refusal
too_long_for tag size count = if nat_le count size then None else Some (FileFit tag size count)

abbrev pub file_refused : Tag → ℕ → List ℕ → ℕ → Option ℕ → Reading → Option Refusal
file_refused tag size name offset most (whole bytes) = too_long_for tag size (length (file_part offset most bytes))
file_refused tag size name offset most absent = Some (Missing name)
file_refused tag size name offset most (long n) = Some (TooLong name n)

-- a content over files that hold this: its file isn't there or is too long, or its bytes don't fit
abbrev pub content_refused : Held → Tag → ℕ → Content → Option Refusal
content_refused files tag size Zero = None
content_refused files tag size (Fill byte) = None
content_refused files tag size (Inline bytes) = too_long_for tag size (length bytes)
content_refused files tag size (File name offset most) =
    file_refused tag size name offset most (reading_of (get files name) COMPONENT_FILE_MOST)

abbrev pub item_refused : Held → Item → Option Refusal
item_refused files i = content_refused files (thing_tag i.thing) i.size i.content

-- the first region, by number, whose contents are refused
unfoldable pub contents_refused : Held → Source → Option Refusal
contents_refused files p = first_in (item_refused files) (items_of p)

abbrev pub fitting : Held → Result Source Refusal → Result Source Refusal
fitting files (Ok p) = kept_or p (contents_refused files p)
fitting files (Err refusal) = Err refusal

-- the policy of a document, where it keeps every rule and its contents fit over files that hold this; else why not. Whether there is
-- room for its regions is not asked
unfoldable pub fitting_policy_of : Held → List ℕ → Result Source Refusal
fitting_policy_of files bytes = fitting files (lawful_policy_of bytes)

-- ---- the whole

-- what a lawful policy is refused for over files that hold this: the first contents that are refused, else the first
-- region for which there is no room
unfoldable pub build_refused : Held → Source → Option Refusal
build_refused files p = first_of (contents_refused files p ∷ no_room p ∷ [])

-- why a policy is refused over files that hold this: the least rule that is broken, else its contents or its room
unfoldable pub refusal_of : Held → Source → Option Refusal
refusal_of files p = first_of (unlawful p ∷ build_refused files p ∷ [])

abbrev pub accepted : Held → Result Source Refusal → Result Source Refusal
accepted files (Ok p) = kept_or p (refusal_of files p)
accepted files (Err refusal) = Err refusal

-- the policy of a document that is accepted over files that hold this, else why it is refused
unfoldable pub accepted_policy_of : Held → List ℕ → Result Source Refusal
accepted_policy_of files bytes = accepted files (policy_of bytes)

-- ---- placed, whatever contents are

abbrev pub laid : Result Source Refusal → Result Source Refusal
laid (Ok p) = kept_or p (first_of (unlawful p ∷ no_room p ∷ []))
laid (Err refusal) = Err refusal

-- the policy of a document, where it keeps every rule and there is room for its regions; else why not. What files hold is
-- not looked at
unfoldable pub laid_policy_of : List ℕ → Result Source Refusal
laid_policy_of bytes = laid (policy_of bytes)
