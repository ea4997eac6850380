-- What holding one content, and all of them, comes to.
use Rattle.std.proofs.Common.{◌≡◌, ℕ, ◌+◌, ◌<◌, ◌≤◌, List, [], ◌∷◌, ◌++◌, length, get_or, map, take, Option, refl, sym, ap, ◌∙◌}
use Rattle.std.specs.FinMap.{get}
use Rattle.std.specs.List.{cons_option, filter_map}
use Rattle.std.specs.Str.{bytes_eq}
use Rattle.std.proofs.lemmas.List.{take_all, take_more}
use Rattle.std.proofs.lemmas.List.Elements.{filter_map-append}
use Rattle.std.proofs.lemmas.List.Folds.{list_any_at}
use Rattle.muen_build.specs.Accepting.{Files, Grows, IsAskedBy, WithGiven, insert_all, thing_content, thing_names, thing_refused}
use Rattle.muen_build.specs.Looks.{names_file}
use Rattle.muen_build.specs.Refusals.{content_refused, file_refused, item_refused, too_long_for}
use Rattle.muen_build.proofs.Checking.{file_grows}
use Rattle.muen_build.proofs.Looks.{grows_not, grows_on, grows_shows, grows_so}
use Rattle.muen_build.proofs.OfThings.{any_names, made_alike}
use Rattle.muen_build.proofs.Steps.{length_part}
use Rattle.muen_num.specs.declared.limits.TheConstants.{COMPONENT_FILE_MOST}
use Rattle.muen_num.specs.declared.tag.Tag.{Tag}
use Rattle.muen_outside.specs.States.{History, Look}
use Rattle.muen_outside.specs.Store.{Reading, Store, absent, long, reading_of, whole}
use Rattle.policy_lawful.specs.Resolution.{Resolution, source_of}
use Rattle.policy_lawful.specs.Thing.{items_of}
use Rattle.policy_lawful.specs.Things.{AreDeclared}
use Rattle.policy_lawful.specs.declared.thing.Thing.{Thing}
use Rattle.policy_lawful.specs.refusal.Refusal.{Refusal}
use Rattle.policy_lawful.specs.source.Content.TheVariants.{File}
use Rattle.policy_lint.specs.All.{all_contents_refused}
use Rattle.policy_lint.specs.Linting.{TellsContents}
use Rattle.policy_lint.specs.Seen.{HasLength, StopsLooking, length_read, length_refused, seen_looks}
use Rattle.policy_lint.specs.declared.error.LintError.{LintError}
use Rattle.policy_lint.specs.declared.error.LintError.TheVariants.{NoMemory}
use Rattle.policy_lint.specs.declared.seen.FileLength.{FileLength}
use Rattle.policy_lint.specs.declared.seen.SeenFile.{SeenFile}

-- ---- one content

-- a file is refused by its length
by_length : (tag : Tag) (size : ℕ) (file : List ℕ) (offset : ℕ) (most : Option ℕ) (reading : Reading) → file_refused tag size file offset most reading ≡ length_refused tag size file offset most (length_read reading)
by_length tag size file offset most (whole bytes) = ap (too_long_for tag size) (length_part bytes offset most)
by_length tag size file offset most absent = refl
by_length tag size file offset most (long n) = refl

module _ (given : Files) (r : Resolution) (t : Thing) (file : List ℕ) (offset : ℕ) (most : Option ℕ) (is : thing_content r t ≡ File file offset most) where
  pub file_told : (looks : List Look) (n : FileLength) → HasLength given looks file n → WithGiven given looks (λ files. thing_refused r t files ≡ length_refused t.tag t.size file offset most n)
  file_told looks n known files s =
      ap (content_refused (insert_all files given) t.tag t.size) is
      ∙ by_length t.tag t.size file offset most (reading_of (get (insert_all files given) file) COMPONENT_FILE_MOST)
      ∙ ap (length_refused t.tag t.size file offset most) (known files s)

  pub file_stops : (held : Option Store) (old new : History) (looks : List Look) (error : LintError) → StopsLooking given (IsAskedBy (bytes_eq file)) held old new looks error
      → StopsLooking given (IsAskedBy (thing_names r t)) held old new looks error
  file_stops held old new looks error e = record {
    after = e.after;
    grows = file_grows given r t file offset most is held old new looks e.after e.grows;
    says = e.says;
  }

-- ---- all of them

-- one answer more
more_told : {X Y : Type 0} (f : X → Option Y) (xs : List X) (i : ℕ) (x : X) → i < length xs → x ≡ get_or xs i x → filter_map f (take i xs) ++ cons_option (f x) [] ≡ filter_map f (take (i + 1) xs)
more_told f xs i x within is =
    sym (ap (filter_map f) (take_more xs i x within) ∙ filter_map-append f (take i xs) (get_or xs i x ∷ []) ∙ ap (λ y. filter_map f (take i xs) ++ cons_option (f y) []) (sym is))

filter_map-map : {X Y Z : Type 0} (f : Y → Option Z) (g : X → Y) (xs : List X) → filter_map f (map g xs) ≡ filter_map (λ x. f (g x)) xs
filter_map-map f g [] = refl
filter_map-map f g (x ∷ xs) = ap (cons_option (f (g x))) (filter_map-map f g xs)

-- what is known while things are gone through
pub record Telling (r : Resolution) (given : Files) (things : List Thing) (held now_held : Option Store) (old now : History) (seen : List SeenFile) (refusals : List Refusal) (i : ℕ) : Type 0 where
  pub grows : Grows given (IsAskedBy (names_file (source_of r))) held old now [] (seen_looks seen)
  pub told : WithGiven given (seen_looks seen) (λ files. refusals ≡ filter_map (λ t. thing_refused r t files) (take i things))
  pub same : now_held ≡ held

module _ (r : Resolution) (given : Files) (things : List Thing) (declared : AreDeclared r (items_of (source_of r)) things) (held : Option Store) (old : History) where
  pub telling_first : Telling r given things held held old old [] [] 0
  telling_first = record {
    grows = grows_not given (IsAskedBy (names_file (source_of r))) held old [];
    told = λ files s. refl;
    same = refl;
  }

  -- the content of a thing is one of the policy
  named : (t : Thing) (i : ℕ) → i < length things → t ≡ get_or things i t → (c : List Look) (l : Look) → IsAskedBy (thing_names r t) c l → IsAskedBy (names_file (source_of r)) c l
  named t i within is c l h =
      (sym (any_names r things declared l.name) ∙ list_any_at (λ t. thing_names r t l.name) things i t within (ap (λ t. thing_names r t l.name) (sym is) ∙ h.0), h.1)

  module _ (now_held : Option Store) (now : History) (seen : List SeenFile) (refusals : List Refusal) (i : ℕ) (p : Telling r given things held now_held old now seen refusals i) where
    module _ (t : Thing) (within : i < length things) (is : t ≡ get_or things i t) where
      pub telling_on : (new_held : Option Store) (new : History) (after : List SeenFile) (o : Option Refusal) (more : List Refusal) → Grows given (IsAskedBy (thing_names r t)) now_held now new (seen_looks seen) (seen_looks after)
          → WithGiven given (seen_looks after) (λ files. thing_refused r t files ≡ o) → more ≡ refusals ++ cons_option o [] → new_held ≡ now_held → Telling r given things held new_held old new after more (i + 1)
      telling_on new_held new after o more grows one added stays =
          let by_policy = grows_so given (IsAskedBy (thing_names r t)) (IsAskedBy (names_file (source_of r))) now_held now new (seen_looks seen) (seen_looks after) (λ c l shows. named t i within is c l) grows in
          let shows = grows_shows given (IsAskedBy (thing_names r t)) now_held now new (seen_looks seen) (seen_looks after) grows in
          record {
            grows = grows_on given (IsAskedBy (names_file (source_of r))) held now_held old now new [] (seen_looks seen) (seen_looks after) p.same p.grows by_policy;
            told = λ files s.
                let f : Thing → Option Refusal = λ u. thing_refused r u (insert_all files given) in
                added
                ∙ ap (λ rs. rs ++ cons_option o []) (p.told files (shows files s))
                ∙ ap (λ x. filter_map f (take i things) ++ cons_option x []) (sym (one files s))
                ∙ more_told f things i t within is;
            same = stays ∙ p.same;
          }

      pub telling_stops : (new : History) (error : LintError) → StopsLooking given (IsAskedBy (thing_names r t)) now_held now new (seen_looks seen) error
          → StopsLooking given (IsAskedBy (names_file (source_of r))) held old new [] error
      telling_stops new error e =
          let by_policy = grows_so given (IsAskedBy (thing_names r t)) (IsAskedBy (names_file (source_of r))) now_held now new (seen_looks seen) e.after (λ c l shows. named t i within is c l) e.grows in
          record {
            after = e.after;
            grows = grows_on given (IsAskedBy (names_file (source_of r))) held now_held old now new [] (seen_looks seen) e.after p.same p.grows by_policy;
            says = e.says;
          }

      -- memory for the answer is refused
      pub telling_full : (new : History) (after : List SeenFile) → Grows given (IsAskedBy (thing_names r t)) now_held now new (seen_looks seen) (seen_looks after) → StopsLooking given (IsAskedBy (names_file (source_of r))) held old new [] NoMemory
      telling_full new after grows = telling_stops new NoMemory (record { after = seen_looks after; grows = grows; says = tt })

    pub telling_all : length things ≤ i → TellsContents given (source_of r) held old now refusals
    unfolding all_contents_refused
    telling_all end = record {
      looks = seen_looks seen;
      grows = p.grows;
      told = λ files s.
          let h = insert_all files given in
          p.told files s
          ∙ ap (filter_map (λ t. thing_refused r t h)) (take_all i things end)
          ∙ sym (filter_map-map (λ o. o) (λ t. thing_refused r t h) things)
          ∙ ap (filter_map (λ o. o)) (made_alike (content_refused h) r (items_of (source_of r)) things declared)
          ∙ filter_map-map (λ o. o) (item_refused h) (items_of (source_of r));
    }
