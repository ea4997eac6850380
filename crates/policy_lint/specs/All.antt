-- All that a document is refused for with its files, in the order in which building asks.
use Rattle.std.specs.Prelude.{ℕ, List, [], ◌∷◌, ◌++◌, Option, Some, None, Result, Ok, Err}
use Rattle.std.specs.List.{cons_option, filter_map}
use Rattle.muen_build.specs.Refusals.{item_refused}
use Rattle.policy_json.specs.Document.{policy_of}
use Rattle.policy_lawful.specs.Contents.{Held}
use Rattle.policy_lawful.specs.Thing.{items_of}
use Rattle.policy_lawful.specs.refusal.Refusal.{Refusal}
use Rattle.policy_lawful.specs.source.Source.{Source}
use Rattle.policy_names.specs.Names.{names_broken}
use Rattle.rules_told.specs.Broken.{all_kept_or, broken_rules}
use Rattle.region_alloc.specs.Placement.{no_room}

-- ---- rules

-- where names don't resolve, the first rule that says so alone, since nothing else can be asked of them; else all that are broken
abbrev pub rules_or_all : Source → Option Refusal → Result Source (List Refusal)
rules_or_all p None = all_kept_or p (broken_rules p)
rules_or_all p (Some refusal) = Err (refusal ∷ [])

abbrev pub read_or_alone : Result Source Refusal → Result Source (List Refusal)
read_or_alone (Ok p) = rules_or_all p (names_broken p)
read_or_alone (Err refusal) = Err (refusal ∷ [])

-- the policy of a document, where it keeps every rule; else all that it is refused for
unfoldable pub lawful_or_all : List ℕ → Result Source (List Refusal)
lawful_or_all document = read_or_alone (policy_of document)

-- ---- contents and room

-- the refusals of all contents that are refused, by number
unfoldable pub all_contents_refused : Held → Source → List Refusal
all_contents_refused files p = filter_map (item_refused files) (items_of p)

-- and behind them that of the first region for which there is no room
abbrev pub all_of_lawful : Held → Result Source (List Refusal) → List Refusal
all_of_lawful files (Ok p) = all_contents_refused files p ++ cons_option (no_room p) []
all_of_lawful files (Err refusals) = refusals

-- ---- the whole

-- **all refusals** of a document over files that hold this
unfoldable pub all_refusals : Held → List ℕ → List Refusal
all_refusals files document = all_of_lawful files (lawful_or_all document)

-- why something is refused, if it is
abbrev pub refusal_in : Result Source Refusal → Option Refusal
refusal_in (Ok p) = None
refusal_in (Err refusal) = Some refusal
