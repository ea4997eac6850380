-- One file, one content.
use Rattle.std.proofs.Common.{◌≡◌, inl, inr, ℕ, ◌≤◌, ◌<◌, min, true, false, List, [], ◌∷◌, ◌++◌, length, drop, Option, Some, None, Result, Ok, refl, sym, ap, subst, ◌∙◌, arith}
use Rattle.std.specs.Prelude.{option_map, if◌then◌else◌}
use Rattle.std.specs.Str.{bytes_eq}
use Rattle.std.specs.FinMap.{get}
use Rattle.std.proofs.lemmas.List.{length-take, length-drop, map_push}
use Rattle.std.proofs.lemmas.Slice.Eq.{bytes_eq-Decides}
use Rattle.muen_num.specs.declared.limits.TheConstants.{COMPONENT_FILE_MOST}
use Rattle.muen_num.specs.declared.tag.Tag.{Tag}
use Rattle.muen_num.proofs.Lookups.{same_self}
use Rattle.muen_outside.specs.Looks.{HaveNoLookAt, ShowAll, ShowsAnswer}
use Rattle.muen_outside.specs.States.{History, Look, look}
use Rattle.muen_outside.specs.Store.{Store, Reading, whole, absent, long, reading_of, find_bytes}
use Rattle.muen_outside.specs.declared.files.FileError.{FileError}
use Rattle.policy_lawful.specs.Contents.{file_part}
use Rattle.policy_lawful.specs.refusal.Refusal.{Refusal}
use Rattle.policy_lawful.specs.refusal.Refusal.TheVariants.{FileFit, Missing, NoMemory, NoRoom, NotJson, Rule, Shape, TooLong}
use Rattle.muen_build.specs.Accepting.{ErrorSays, Files, GotSays, Grows, Has, insert_all, IsAdded, IsAskedBy, IsLengthKnown, LooksAt, NotFound, ComponentFileNotRead, StopsAfterLooks, looks_of, part_length}
use Rattle.muen_build.specs.Looks.{file_look}
use Rattle.muen_build.specs.Refusals.{file_refused, too_long_for}
use Rattle.muen_build.specs.declared.accepted.BuildError.{BuildError}
use Rattle.muen_build.specs.declared.accepted.BuildError.TheVariants.{FileFault, Refused}
use Rattle.muen_build.proofs.Documents.{admitted, given_there, not_given, too_many}
use Rattle.muen_build.proofs.Looks.{others_push, show_last, single_push, stops_here, told_one}

-- ---- a file that is given

module _ (given : Files) (file bytes : List ℕ) (is : find_bytes file given ≡ Some bytes) where
  given_reads : (reading : Reading) → reading_of (Some bytes) COMPONENT_FILE_MOST ≡ reading → (files : Store) → reading_of (get (insert_all files given) file) COMPONENT_FILE_MOST ≡ reading
  given_reads reading reads files = ap (λ o. reading_of o COMPONENT_FILE_MOST) (given_there files given file bytes is) ∙ reads

  pub given_known : (looks : List Look) (count : ℕ) → count ≡ length bytes → count ≤ COMPONENT_FILE_MOST → IsLengthKnown given looks file count
  given_known looks count many few files s = record {
    bytes = bytes;
    reads = given_reads (whole bytes) (admitted COMPONENT_FILE_MOST bytes (omega (arith, many, few))) files;
    many = many;
  }

  pub given_stops : (held : Option Store) (h : History) (looks : List Look) (error : BuildError) → error ≡ Refused (TooLong file (length bytes)) → COMPONENT_FILE_MOST < length bytes
      → StopsAfterLooks given (IsAskedBy (bytes_eq file)) held h h looks (NotFound file) error
  given_stops held h looks error long_one many =
      subst (StopsAfterLooks given (IsAskedBy (bytes_eq file)) held h h looks (NotFound file)) (sym long_one)
      (stops_here given (IsAskedBy (bytes_eq file)) held h looks (NotFound file) (TooLong file (length bytes))
      (λ files s. (refl, given_reads (long (length bytes)) (too_many COMPONENT_FILE_MOST bytes many) files)))

-- ---- a file that was read before

pub shown_among : (files : Store) (found : Files) (file bytes : List ℕ) → ShowAll files (looks_of found) → find_bytes file found ≡ Some bytes → reading_of (get files file) COMPONENT_FILE_MOST ≡ whole bytes
shown_among files [] file bytes s h = absurd (cc)
shown_among files (e ∷ es) file bytes s h =
    (elim (bytes_eq file e.0) as (λ b. bytes_eq file e.0 ≡ b → (if b then Some e.1 else find_bytes file es) ≡ Some bytes → reading_of (get files file) COMPONENT_FILE_MOST ≡ whole bytes) [
      | true ↦ λ same is.
          let here : file ≡ e.0 = (bytes_eq-Decides file e.0).0 same in
          let what : e.1 ≡ bytes = cc in
          ap (λ n. reading_of (get files n) COMPONENT_FILE_MOST) here ∙ s.0 ∙ ap whole what
      | false ↦ λ other is. shown_among files es file bytes s.1 is
    ]) refl h

pub others_found : (found : Files) (file : List ℕ) → find_bytes file found ≡ None → HaveNoLookAt (looks_of found) file
others_found [] file h = tt
others_found (e ∷ es) file h =
    (elim (bytes_eq file e.0) as (λ b. bytes_eq file e.0 ≡ b → (if b then Some e.1 else find_bytes file es) ≡ None → HaveNoLookAt (looks_of (e ∷ es)) file) [
      | true ↦ λ same is. absurd (cc)
      | false ↦ λ other is. (other, others_found es file is)
    ]) refl h

length_of : (o : Option (List ℕ)) (n : ℕ) → option_map (λ bytes. length bytes) o ≡ Some n → (bytes : List ℕ) × ((o ≡ Some bytes) × (n ≡ length bytes))
length_of None n h = absurd (cc)
length_of (Some bytes) n h = let same : length bytes ≡ n = cc in (bytes, (refl, sym same))

none_length : (o : Option (List ℕ)) → option_map (λ bytes. length bytes) o ≡ None → o ≡ None
none_length None h = refl
none_length (Some bytes) h = absurd (cc)

pub not_found : (found : Files) (file : List ℕ) → option_map (λ bytes. length bytes) (find_bytes file found) ≡ None → find_bytes file found ≡ None
not_found found file h = none_length (find_bytes file found) h

-- ---- a name that isn't given

module _ (given : Files) (file : List ℕ) (other : find_bytes file given ≡ None) where
  -- what files show under it
  among : (reading : Reading) (files : Store) → reading_of (get files file) COMPONENT_FILE_MOST ≡ reading → reading_of (get (insert_all files given) file) COMPONENT_FILE_MOST ≡ reading
  among reading files h = ap (λ o. reading_of o COMPONENT_FILE_MOST) (not_given files given file other) ∙ h

  -- a name that is given is another
  apart_name : (name bytes : List ℕ) → find_bytes name given ≡ Some bytes → bytes_eq name file ≡ false
  apart_name name bytes is =
      elim (bytes_eq name file) as (λ b. bytes_eq name file ≡ b → b ≡ false) [
        | true ↦ λ same. let none : find_bytes name given ≡ None = ap (λ n. find_bytes n given) ((bytes_eq-Decides name file).0 same) ∙ other in absurd (cc)
        | false ↦ λ ne. refl
      ] refl

  -- it is looked at after these looks, none of which is at it
  module _ (looks : List Look) (got : Result Reading FileError) where
    pub one_shown : (reading : Reading) → got ≡ Ok reading → (files : Store) → ShowAll files (looks ++ look file COMPONENT_FILE_MOST got ∷ []) → reading_of (get (insert_all files given) file) COMPONENT_FILE_MOST ≡ reading
    one_shown reading is files s =
        among reading files (subst (ShowsAnswer (get files file) COMPONENT_FILE_MOST) is (show_last files looks (look file COMPONENT_FILE_MOST got) s))

    pub one_grown : (held : Option Store) (old new : History) → HaveNoLookAt looks file → LooksAt file got held old new → Grows given (IsAskedBy (bytes_eq file)) held old new looks (looks ++ look file COMPONENT_FILE_MOST got ∷ [])
    one_grown held old new none l = record {
      more = look file COMPONENT_FILE_MOST got ∷ [];
      grown = refl;
      history = l.history;
      told = told_one held (look file COMPONENT_FILE_MOST got) l.told;
      asked = ((same_self file, refl), tt);
      single = λ s. single_push looks (look file COMPONENT_FILE_MOST got) s l.possible none;
      others = λ name bytes is s. others_push looks name (look file COMPONENT_FILE_MOST got) s (apart_name name bytes is);
    }

-- the looks that read these files, and then one at this
abbrev then_look : Files → List ℕ → Result Reading FileError → List Look
then_look found file got = looks_of found ++ look file COMPONENT_FILE_MOST got ∷ []

module _ (given found : Files) (file : List ℕ) (other : find_bytes file given ≡ None) where
  pub found_reads : (bytes : List ℕ) → find_bytes file found ≡ Some bytes → (files : Store) → ShowAll files (looks_of found) → reading_of (get (insert_all files given) file) COMPONENT_FILE_MOST ≡ whole bytes
  found_reads bytes is files s = among given file other (whole bytes) files (shown_among files found file bytes s is)

  pub of_found : (count : ℕ) → option_map (λ bytes. length bytes) (find_bytes file found) ≡ Some count → IsLengthKnown given (looks_of found) file count
  of_found count h files s =
      let (bytes, is) = length_of (find_bytes file found) count h in
      record { bytes = bytes; reads = found_reads bytes is.0 files s; many = is.1 }

  -- ---- one that is looked at now

  module _ (new_one : find_bytes file found ≡ None) (held : Option Store) (old new : History) where
    grown : (got : Result Reading FileError) → LooksAt file got held old new → Grows given (IsAskedBy (bytes_eq file)) held old new (looks_of found) (then_look found file got)
    grown got l = one_grown given file other (looks_of found) got held old new (others_found found file new_one) l

    shows_got : (got : Result Reading FileError) (reading : Reading) → got ≡ Ok reading → (files : Store) → ShowAll files (then_look found file got) → reading_of (get (insert_all files given) file) COMPONENT_FILE_MOST ≡ reading
    shows_got got reading is files s = one_shown given file other (looks_of found) got reading is files s

    looks_are : (after : Files) (bytes : List ℕ) → after ≡ found ++ (file, bytes) ∷ [] → then_look found file (Ok (whole bytes)) ≡ looks_of after
    looks_are after bytes is = sym (map_push file_look found (file, bytes)) ∙ ap looks_of (sym is)

    pub new_grows : (after : Files) (count : ℕ) → IsAdded file found after count held old new → Grows given (IsAskedBy (bytes_eq file)) held old new (looks_of found) (looks_of after)
    new_grows after count a = subst (Grows given (IsAskedBy (bytes_eq file)) held old new (looks_of found)) (looks_are after a.bytes a.added) (grown (Ok (whole a.bytes)) a.looks)

    pub new_known : (after : Files) (count : ℕ) → IsAdded file found after count held old new → IsLengthKnown given (looks_of after) file count
    new_known after count a files s = record {
      bytes = a.bytes;
      reads = shows_got (Ok (whole a.bytes)) (whole a.bytes) refl files (subst (ShowAll files) (sym (looks_are after a.bytes a.added)) s);
      many = a.many;
    }

    got_says : (got : Result Reading FileError) (error : BuildError) → GotSays file got error → ErrorSays given (NotFound file) (then_look found file got) error
    got_says got (Refused (Missing n)) h = inr (λ files s. (h.0, shows_got got absent h.1 files s))
    got_says got (Refused (TooLong n k)) h = inr (λ files s. (h.0, shows_got got (long k) h.1 files s))
    got_says got (Refused NoMemory) h = inl refl
    got_says got FileFault h = record { front = looks_of found; name = file; most = COMPONENT_FILE_MOST; is = ap (then_look found file) h }
    got_says got (Refused NotJson) h = absurd h
    got_says got (Refused (Shape a b)) h = absurd h
    got_says got (Refused (Rule a b d)) h = absurd h
    got_says got (Refused (FileFit a b d)) h = absurd h
    got_says got (Refused (NoRoom a b)) h = absurd h

    pub new_stops : (error : BuildError) → ComponentFileNotRead file held old new error → StopsAfterLooks given (IsAskedBy (bytes_eq file)) held old new (looks_of found) (NotFound file) error
    new_stops error n = record { after = then_look found file n.got; grows = grown n.got n.looks; says = got_says n.got error n.says }

-- ---- a content

-- what a content takes of a file
pub length_part : (bytes : List ℕ) (offset : ℕ) (most : Option ℕ) → length (file_part offset most bytes) ≡ part_length (length bytes) offset most
length_part bytes offset None = length-drop offset bytes
length_part bytes offset (Some most) = length-take most (drop offset bytes) ∙ ap (min most) (length-drop offset bytes) ∙ omega arith

pub part_refused : (tag : Tag) (size : ℕ) (file : List ℕ) (offset : ℕ) (most : Option ℕ) (count : ℕ) (files : Store) → Has files file count → file_refused tag size file offset most (reading_of (get files file) COMPONENT_FILE_MOST) ≡ too_long_for tag size (part_length count offset most)
part_refused tag size file offset most count files k =
    ap (file_refused tag size file offset most) k.reads ∙ ap (too_long_for tag size) (length_part k.bytes offset most ∙ ap (λ n. part_length n offset most) (sym k.many))

pub file_fails : (tag : Tag) (size : ℕ) (file : List ℕ) (offset : ℕ) (most : Option ℕ) (files : Store) (r : Refusal) → NotFound file files r → file_refused tag size file offset most (reading_of (get files file) COMPONENT_FILE_MOST) ≡ Some r
file_fails tag size file offset most files (Missing n) h = ap (file_refused tag size file offset most) h.1 ∙ ap (λ n. Some (Missing n)) (sym h.0)
file_fails tag size file offset most files (TooLong n k) h = ap (file_refused tag size file offset most) h.1 ∙ ap (λ n. Some (TooLong n k)) (sym h.0)
file_fails tag size file offset most files NotJson h = absurd h
file_fails tag size file offset most files (Shape a b) h = absurd h
file_fails tag size file offset most files (Rule a b c) h = absurd h
file_fails tag size file offset most files (FileFit a b c) h = absurd h
file_fails tag size file offset most files (NoRoom a b) h = absurd h
file_fails tag size file offset most files NoMemory h = absurd h
