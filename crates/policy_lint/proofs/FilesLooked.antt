-- Component files that were looked at, and one more.
use Rattle.std.proofs.Common.{◌≡◌, ℕ, ◌<◌, true, false, List, [], ◌∷◌, ◌++◌, length, Option, Some, None, Result, Ok, Err, refl, sym, ap, subst, ◌∙◌, ◌+◌, Bool, get_or, drop}
use Rattle.std.specs.Prelude.{option_map, if◌then◌else◌}
use Rattle.std.specs.FinMap.{get}
use Rattle.std.specs.Str.{bytes_eq}
use Rattle.std.proofs.lemmas.List.{at_drop_more, map_push}
use Rattle.std.proofs.lemmas.Slice.Eq.{bytes_eq-Decides}
use Rattle.muen_build.specs.Accepting.{Files, Grows, IsAskedBy, LooksAt}
use Rattle.muen_build.proofs.Documents.{given_there, not_given}
use Rattle.muen_build.proofs.Steps.{one_grown, one_shown}
use Rattle.muen_num.specs.declared.limits.TheConstants.{COMPONENT_FILE_MOST}
use Rattle.muen_outside.specs.Found.{seen}
use Rattle.muen_outside.specs.Looks.{HaveNoLookAt, ShowAll}
use Rattle.muen_outside.specs.States.{History, Look, look}
use Rattle.muen_outside.specs.Store.{Reading, Store, find_bytes, reading_of}
use Rattle.muen_outside.specs.declared.files.FileError.{FileError}
use Rattle.muen_outside.specs.declared.files.FileError.TheVariants.{Failed, NoMemory as NoMemoryForFile}
use Rattle.muen_outside.specs.declared.files.Found.{Found}
use Rattle.policy_lint.specs.Seen.{HasLength, IsSeen, LookFails, LookSays, LookingSays, StopsLooking, error_of_look, found_among, length_read, seen_look, seen_looks}
use Rattle.policy_lint.specs.declared.error.LintError.{LintError}
use Rattle.policy_lint.specs.declared.error.LintError.TheVariants.{FileFault, NoMemory}
use Rattle.policy_lint.specs.declared.seen.FileLength.{FileLength}
use Rattle.policy_lint.specs.declared.seen.SeenFile.{SeenFile}

-- ---- a file that is given

pub given_length : (given : Files) (file bytes : List ℕ) → find_bytes file given ≡ Some bytes → (looks : List Look) → HasLength given looks file (length_read (reading_of (Some bytes) COMPONENT_FILE_MOST))
given_length given file bytes is looks files s = ap (λ o. length_read (reading_of o COMPONENT_FILE_MOST)) (given_there files given file bytes is)

-- ---- the search for one

module _ (file : List ℕ) (ss : List SeenFile) (i : ℕ) (x : SeenFile) (within : i < length ss) (is : x ≡ get_or ss i x) where
  at_one : found_among file (drop i ss) ≡ (if bytes_eq file x.name then Some x.found else found_among file (drop (i + 1) ss))
  at_one = at_drop_more (found_among file) ss i x within ∙ ap (λ (y : SeenFile). found_among file (y ∷ drop (i + 1) ss)) (sym is)

  pub found_here : bytes_eq file x.name ≡ true → found_among file (drop i ss) ≡ Some x.found
  found_here same = at_one ∙ ap (λ (b : Bool). if b then Some x.found else found_among file (drop (i + 1) ss)) same

  pub found_later : bytes_eq file x.name ≡ false → found_among file (drop (i + 1) ss) ≡ found_among file (drop i ss)
  found_later other = sym (at_one ∙ ap (λ (b : Bool). if b then Some x.found else found_among file (drop (i + 1) ss)) other)

-- ---- a file that was looked at before

shown_seen : (files : Store) (ss : List SeenFile) (file : List ℕ) (found : Found) → ShowAll files (seen_looks ss) → found_among file ss ≡ Some found → reading_of (get files file) COMPONENT_FILE_MOST ≡ seen found
shown_seen files [] file found s h = absurd (cc)
shown_seen files (x ∷ xs) file found s h =
    (elim (bytes_eq file x.name) as (λ b. bytes_eq file x.name ≡ b → (if b then Some x.found else found_among file xs) ≡ Some found → reading_of (get files file) COMPONENT_FILE_MOST ≡ seen found) [
      | true ↦ λ same is.
          let here : file ≡ x.name = (bytes_eq-Decides file x.name).0 same in
          let what : x.found ≡ found = cc in
          ap (λ n. reading_of (get files n) COMPONENT_FILE_MOST) here ∙ s.0 ∙ ap seen what
      | false ↦ λ other is. shown_seen files xs file found s.1 is
    ]) refl h

others_seen : (ss : List SeenFile) (file : List ℕ) → found_among file ss ≡ None → HaveNoLookAt (seen_looks ss) file
others_seen [] file h = tt
others_seen (x ∷ xs) file h =
    (elim (bytes_eq file x.name) as (λ b. bytes_eq file x.name ≡ b → (if b then Some x.found else found_among file xs) ≡ None → HaveNoLookAt (seen_looks (x ∷ xs)) file) [
      | true ↦ λ same is. absurd (cc)
      | false ↦ λ other is. (other, others_seen xs file is)
    ]) refl h

some_found : (o : Option Found) (n : FileLength) → option_map (λ found. length_read (seen found)) o ≡ Some n → (found : Found) × (o ≡ Some found) × (length_read (seen found) ≡ n)
some_found None n h = absurd (cc)
some_found (Some found) n h = (found, refl, cc)

none_found : (o : Option Found) → option_map (λ found. length_read (seen found)) o ≡ None → o ≡ None
none_found None h = refl
none_found (Some found) h = absurd (cc)

pub not_seen : (file : List ℕ) (ss : List SeenFile) → option_map (λ found. length_read (seen found)) (found_among file ss) ≡ None → found_among file ss ≡ None
not_seen file ss h = none_found (found_among file ss) h

pub seen_length : (given : Files) (file : List ℕ) → find_bytes file given ≡ None → (ss : List SeenFile) (n : FileLength) → option_map (λ found. length_read (seen found)) (found_among file ss) ≡ Some n → HasLength given (seen_looks ss) file n
seen_length given file other ss n h files s =
    let (found, is, many) = some_found (found_among file ss) n h in
    ap (λ o. length_read (reading_of o COMPONENT_FILE_MOST)) (not_given files given file other) ∙ ap length_read (shown_seen files ss file found s is) ∙ many

-- ---- one that is looked at now

module _ (given : Files) (file : List ℕ) (other : find_bytes file given ≡ None) (before : List SeenFile) (new_one : found_among file before ≡ None) (held : Option Store) (old new : History) where
  looks_are : (after : List SeenFile) (found : Found) → after ≡ before ++ record { name = file; found = found } ∷ [] → seen_looks before ++ look file COMPONENT_FILE_MOST (Ok (seen found)) ∷ [] ≡ seen_looks after
  looks_are after found is = sym (map_push seen_look before (record { name = file; found = found })) ∙ ap seen_looks (sym is)

  grown : (got : Result Reading FileError) → LooksAt file got held old new → Grows given (IsAskedBy (bytes_eq file)) held old new (seen_looks before) (seen_looks before ++ look file COMPONENT_FILE_MOST got ∷ [])
  grown got l = one_grown given file other (seen_looks before) got held old new (others_seen before file new_one) l

  pub seen_grows : (n : FileLength) (after : List SeenFile) → IsSeen file n before after held old new → Grows given (IsAskedBy (bytes_eq file)) held old new (seen_looks before) (seen_looks after)
  seen_grows n after a = subst (Grows given (IsAskedBy (bytes_eq file)) held old new (seen_looks before)) (looks_are after a.found a.added) (grown (Ok (seen a.found)) a.looks)

  pub seen_known : (n : FileLength) (after : List SeenFile) → IsSeen file n before after held old new → HasLength given (seen_looks after) file n
  seen_known n after a files s =
      ap length_read (one_shown given file other (seen_looks before) (Ok (seen a.found)) (seen a.found) refl files (subst (ShowAll files) (sym (looks_are after a.found a.added)) s)) ∙ sym a.many

  stops_says : (got : Result Reading FileError) (error : LintError) → LookSays got error → LookingSays (seen_looks before ++ look file COMPONENT_FILE_MOST got ∷ []) error
  stops_says got FileFault h = record { front = seen_looks before; name = file; most = COMPONENT_FILE_MOST; is = ap (λ g. seen_looks before ++ look file COMPONENT_FILE_MOST g ∷ []) h }
  stops_says got NoMemory h = tt

  pub seen_stops : (error : LintError) → LookFails file held old new error → StopsLooking given (IsAskedBy (bytes_eq file)) held old new (seen_looks before) error
  seen_stops error e = record { after = seen_looks before ++ look file COMPONENT_FILE_MOST e.got ∷ []; grows = grown e.got e.looks; says = stops_says e.got error e.says }

-- a look that came to no answer says so
pub look_says : (fault : FileError) → LookSays (Err fault) (error_of_look fault)
look_says Failed = refl
look_says NoMemoryForFile = tt
