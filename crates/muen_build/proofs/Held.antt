-- What regions hold of the files that were read is what the policy says they hold, in all files that agree with the looks.
use Rattle.std.proofs.Common.{◌≡◌, ℕ, ◌≤◌, true, false, cond, List, [], ◌∷◌, length, map, Option, Some, None, refl, sym, ap, ap₂, subst, ◌∙◌, arith}
use Rattle.std.specs.Prelude.{nat_le, nat_lt, unwrap_or, if◌then◌else◌}
use Rattle.std.specs.Option.{option_map_or}
use Rattle.std.specs.Str.{bytes_eq}
use Rattle.std.specs.FinMap.{get, get-remove, remove}
use Rattle.std.specs.Cmp.Lexicographic.{nat_list_cmp_total, texts_ties}
use Rattle.std.proofs.lemmas.List.{take_all}
use Rattle.std.proofs.lemmas.Bool.Decides.{nat_tests}
use Rattle.proof_build.specs.ThingBytes.{thing_bytes}
use Rattle.muen_num.specs.Search.{first_in}
use Rattle.muen_num.specs.declared.limits.TheConstants.{COMPONENT_FILE_MOST}
use Rattle.muen_num.specs.declared.tag.Tag.{Tag}
use Rattle.muen_num.proofs.SearchLaws.{none_append, none_both}
use Rattle.muen_num.proofs.Lookups.{other_way, same_self}
use Rattle.muen_outside.specs.Looks.{HaveNoLookAt, ShowAll, ShowsAnswer}
use Rattle.muen_outside.specs.States.{Look}
use Rattle.muen_outside.specs.Store.{Store, whole, long, reading_of, find_bytes}
use Rattle.muen_build.specs.Accepting.{Files, WithGiven, insert_all, looks_of}
use Rattle.muen_build.specs.Reading.{content_read, read_bytes, sized, things_read}
use Rattle.muen_build.specs.Refusals.{content_refused, contents_refused, file_refused, item_refused, too_long_for}
use Rattle.policy_lawful.specs.Resolution.{Resolution, source_of}
use Rattle.policy_lawful.specs.Contents.{content_bytes, file_part, padded}
use Rattle.policy_lawful.specs.Thing.{Item, device_items, items_of, placed_items, thing_tag}
use Rattle.policy_lawful.specs.Things.{AreDeclared, placed_things}
use Rattle.policy_lawful.specs.refusal.Refusal.TheVariants.{FileFit, Missing}
use Rattle.policy_lawful.specs.source.Content.{Content}
use Rattle.policy_lawful.specs.source.Content.TheVariants.{Zero, Fill, Inline, File}
use Rattle.muen_build.proofs.Documents.{given_there, not_given, whole_found}
use Rattle.muen_build.proofs.OfThings.{made_alike}
use Rattle.muen_build.proofs.Steps.{found_reads, others_found}

-- ---- without a file

get-remove_bytes : (m : Store) (k q : List ℕ) → get (remove m k) q ≡ cond (bytes_eq q k) None (get m q)
get-remove_bytes m k q = get-remove nat_list_cmp_total m k q ∙ ap (λ t. cond t None (get m q)) (sym (texts_ties q k))

-- looks at other names show the same without it
still_shown : (files : Store) (file : List ℕ) (ls : List Look) → HaveNoLookAt ls file → ShowAll files ls → ShowAll (remove files file) ls
still_shown files file [] others s = tt
still_shown files file (l ∷ ls) others s =
    let same : get (remove files file) l.name ≡ get files l.name = get-remove_bytes files file l.name ∙ ap (λ t. cond t None (get files l.name)) (other_way file l.name others.0) in
    (subst (λ o. ShowsAnswer o l.most l.got) (sym same) s.0, still_shown files file ls others.1 s.1)

-- ---- one content

-- a document that isn't refused is no longer than a component file may be
own_whole : (tag : Tag) (size : ℕ) (file : List ℕ) (offset : ℕ) (most : Option ℕ) (document : List ℕ) → file_refused tag size file offset most (reading_of (Some document) COMPONENT_FILE_MOST) ≡ None → reading_of (Some document) COMPONENT_FILE_MOST ≡ whole document
own_whole tag size file offset most document h =
    (elim (nat_lt COMPONENT_FILE_MOST (length document)) as (λ b. file_refused tag size file offset most (if b then long (length document) else whole document) ≡ None → (if b then long (length document) else whole document) ≡ whole document) [
      | true ↦ λ is. absurd (cc)
      | false ↦ λ is. refl
    ]) h

-- what isn't too long has room
fitting : (tag : Tag) (size : ℕ) (bytes : List ℕ) → too_long_for tag size (length bytes) ≡ None → sized size bytes ≡ padded size bytes
fitting tag size bytes h =
    (elim (nat_le (length bytes) size) as (λ b. nat_le (length bytes) size ≡ b → (if b then None else Some (FileFit tag size (length bytes))) ≡ None → sized size bytes ≡ padded size bytes) [
      | true ↦ λ fits is.
          let few : length bytes ≤ size = grind (arith, nat_tests) in
          ap (padded size) (take_all size bytes few)
      | false ↦ λ fits is. absurd (cc)
    ]) refl h

module _ (given found : Files) where
  -- so it is of all files that agree with the looks, with the document under its name
  abbrev Over : (Store → Type 0) → Type 0
  Over Such = WithGiven given (looks_of found) Such

  -- a file that is named was read
  file_read : (tag : Tag) (size : ℕ) (file : List ℕ) (offset : ℕ) (most : Option ℕ) → Over (λ files. content_refused files tag size (File file offset most) ≡ None)
      → Over (λ files. reading_of (get files file) COMPONENT_FILE_MOST ≡ whole (read_bytes given found file))
  file_read tag size file offset most passes files s =
      elim (find_bytes file given) as (λ o. find_bytes file given ≡ o → reading_of (get (insert_all files given) file) COMPONENT_FILE_MOST ≡ whole (unwrap_or o (unwrap_or (find_bytes file found) []))) [
        | Some bytes ↦ λ is.
            let there = given_there files given file bytes is in
            ap (λ o. reading_of o COMPONENT_FILE_MOST) there
            ∙ own_whole tag size file offset most bytes (ap (λ o. file_refused tag size file offset most (reading_of o COMPONENT_FILE_MOST)) (sym there) ∙ passes files s)
        | None ↦ λ other.
            elim (find_bytes file found) as (λ o. find_bytes file found ≡ o → reading_of (get (insert_all files given) file) COMPONENT_FILE_MOST ≡ whole (unwrap_or o [])) [
              | Some bytes ↦ λ is. found_reads given found file other bytes is files s
              | None ↦ λ is.
                  let without = still_shown files file (looks_of found) (others_found found file is) s in
                  let gone : get (insert_all (remove files file) given) file ≡ None =
                  not_given (remove files file) given file other ∙ get-remove_bytes files file file ∙ ap (λ t. cond t None (get files file)) (same_self file) in
                  let refused : content_refused (insert_all (remove files file) given) tag size (File file offset most) ≡ Some (Missing file) = ap (λ o. file_refused tag size file offset most (reading_of o COMPONENT_FILE_MOST)) gone in
                  let none = passes (remove files file) without in
                  absurd (cc)
            ] refl
      ] refl

  content_same : (tag : Tag) (size : ℕ) (c : Content) → Over (λ files. content_refused files tag size c ≡ None) → Over (λ files. content_read given found size c ≡ content_bytes files size c)
  content_same tag size Zero passes files s = refl
  content_same tag size (Fill b) passes files s = refl
  content_same tag size (Inline bytes) passes files s = fitting tag size bytes (passes files s)
  content_same tag size (File file offset most) passes files s =
      let bytes = read_bytes given found file in
      let reads = file_read tag size file offset most passes files s in
      let there : get (insert_all files given) file ≡ Some bytes = whole_found COMPONENT_FILE_MOST bytes (get (insert_all files given) file) reads in
      let fits : too_long_for tag size (length (file_part offset most bytes)) ≡ None = ap (file_refused tag size file offset most) (sym reads) ∙ passes files s in
      fitting tag size (file_part offset most bytes) fits ∙ ap (λ o. padded size (file_part offset most (option_map_or (λ b. b) o []))) (sym there)

  -- ---- all of them

  each_same : (is : List Item) → Over (λ files. first_in (item_refused files) is ≡ None) → Over (λ files. map (λ i. content_read given found i.size i.content) is ≡ map (λ i. content_bytes files i.size i.content) is)
  each_same [] passes files s = refl
  each_same (i ∷ is) passes files s =
      let both = λ (files : Store) (s : ShowAll files (looks_of found)).
      none_both (item_refused (insert_all files given) i) (first_in (item_refused (insert_all files given)) is) (passes files s) in
      ap₂ (λ y ys. y ∷ ys) (content_same (thing_tag i.thing) i.size i.content (λ files s. (both files s).0) files s) (each_same is (λ files s. (both files s).1) files s)

  -- where no content is refused
  pub things_held : (r : Resolution) → AreDeclared r (placed_items (source_of r)) (placed_things r) → Over (λ files. contents_refused files (source_of r) ≡ None) → Over (λ files. things_read given found (source_of r) ≡ thing_bytes files r)
  unfolding contents_refused items_of
  things_held r declared passes files s =
      each_same (placed_items (source_of r)) (λ files s. (none_append (item_refused (insert_all files given)) (placed_items (source_of r)) (device_items (source_of r)) (passes files s)).0) files s
      ∙ sym (made_alike (λ tag. content_bytes (insert_all files given)) r (placed_items (source_of r)) (placed_things r) declared)
