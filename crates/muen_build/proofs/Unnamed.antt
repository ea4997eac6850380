-- Bytes that are given under a name that no content has: they say nothing.
use Rattle.std.proofs.Common.{◌≡◌, inl, inr, ℕ, true, false, List, [], ◌∷◌, ◌++◌, Option, Some, None, refl, sym, ap, subst, ◌∙◌, true≢false}
use Rattle.std.specs.Prelude.{if◌then◌else◌}
use Rattle.std.specs.FinMap.{insert}
use Rattle.std.specs.Option.{option_or}
use Rattle.std.specs.Str.{bytes_eq}
use Rattle.std.proofs.lemmas.Bool.{cases_Bool}
use Rattle.std.proofs.lemmas.Slice.Eq.{bytes_eq-Decides}
use Rattle.muen_outside.specs.Looks.{HaveNoLookAt, ShowAll, ShowsAnswer}
use Rattle.muen_outside.specs.States.{History, Look}
use Rattle.muen_outside.specs.Store.{Store, find_bytes}
use Rattle.muen_outside.proofs.HeldMap.{keeps_others}
use Rattle.muen_build.specs.Accepting.{AreAskedInTurn, ErrorSays, Files, HasContents, IsNext, LacksContents, LookedBeside, RefusesContents, WithGiven, insert_all}
use Rattle.proof_build.specs.ThingBytes.{thing_bytes}
use Rattle.muen_build.specs.Looks.{is_of_file, names_file}
use Rattle.muen_build.specs.Refusals.{contents_refused, item_refused}
use Rattle.muen_build.specs.declared.accepted.BuildError.{BuildError}
use Rattle.muen_build.specs.declared.accepted.BuildError.TheVariants.{FileFault, Refused}
use Rattle.policy_lawful.specs.Resolution.{Resolution, source_of}
use Rattle.policy_lawful.specs.source.Source.{Source}
use Rattle.muen_build.proofs.Looks.{others_push}
use Rattle.muen_num.proofs.Lookups.{same_self}
use Rattle.muen_num.proofs.Members.{any_in, at_in}
use Rattle.policy_lawful.specs.Thing.{items_of}

find_both : (name : List ℕ) (xs ys : Files) → find_bytes name (xs ++ ys) ≡ option_or (find_bytes name xs) (find_bytes name ys)
find_both name [] ys = refl
find_both name (e ∷ es) ys =
    elim (bytes_eq name e.0) as (λ b. (if b then Some e.1 else find_bytes name (es ++ ys)) ≡ option_or (if b then Some e.1 else find_bytes name es) (find_bytes name ys)) [
      | true ↦ refl
      | false ↦ find_both name es ys
    ]

module _ (p : Source) (file bytes : List ℕ) (unnamed : names_file p file ≡ false) where
  -- the next look is at another
  differs : (given : Files) (before : List Look) (l : Look) → IsNext given p before l → bytes_eq file l.name ≡ false
  differs given before l next =
      elim (cases_Bool (bytes_eq file l.name)) [
        | inl e ↦ absurd (true≢false (sym named ∙ ap (names_file p) (sym ((bytes_eq-Decides file l.name).0 e)) ∙ unnamed))
        | inr n ↦ n
      ]
    where
      named : names_file p l.name ≡ true
      named = any_in (λ i. is_of_file l.name i.content) (items_of p) next.item (at_in (items_of p) next.number next.item next.there) next.file

  others : (given : Files) (before looks : List Look) → AreAskedInTurn (IsNext given p) before looks → HaveNoLookAt looks file
  others given before [] asked = tt
  others given before (l ∷ ls) asked = (differs given before l asked.0, others given (before ++ l ∷ []) ls asked.1)

  -- files agree with the looks as they did
  shown : (m : Store) (looks : List Look) → HaveNoLookAt looks file → ShowAll m looks → ShowAll (insert m file bytes) looks
  shown m [] apart shows = tt
  shown m (l ∷ ls) apart shows = (
    subst (λ o. ShowsAnswer o l.most l.got)
        (sym (keeps_others m file bytes l.name (λ e. true≢false (sym (same_self file) ∙ sym (ap (bytes_eq file) e) ∙ apart.0)))) shows.0,
    shown m ls apart.1 shows.1,
  )

  given_last : (m : Store) (given : Files) → insert_all m (given ++ (file, bytes) ∷ []) ≡ insert_all (insert m file bytes) given
  given_last m [] = refl
  given_last m (e ∷ es) = ap (λ k. insert k e.0 e.1) (given_last m es)

  only : (looks : List Look) (name b : List ℕ) → HaveNoLookAt looks file → find_bytes name ((file, bytes) ∷ []) ≡ Some b → HaveNoLookAt looks name
  only looks name b apart is =
      elim (bytes_eq name file) as (λ t. bytes_eq name file ≡ t → (if t then Some bytes else None) ≡ Some b → HaveNoLookAt looks name) [
        | true ↦ λ e found. subst (HaveNoLookAt looks) (sym ((bytes_eq-Decides name file).0 e)) apart
        | false ↦ λ e found. absurd (cc)
      ] refl is

  -- what is so with what is given is so with these too
  with_more : (given : Files) (looks : List Look) → HaveNoLookAt looks file → (Such : Store → Type 0) → WithGiven given looks Such → WithGiven (given ++ (file, bytes) ∷ []) looks Such
  with_more given looks apart Such all m shows = subst Such (sym (given_last m given)) (all (insert m file bytes) (shown m looks apart shows))

  -- and so are the next looks
  next_more : (given : Files) (before : List Look) → HaveNoLookAt before file → (looks : List Look) → AreAskedInTurn (IsNext given p) before looks
      → AreAskedInTurn (IsNext (given ++ (file, bytes) ∷ []) p) before looks
  next_more given before apart [] asked = tt
  next_more given before apart (l ∷ ls) asked =
      let next = asked.0 in (
        record {
          number = next.number;
          item = next.item;
          there = next.there;
          file = next.file;
          most = next.most;
          fit = λ k i low at. with_more given before apart (λ files. item_refused files i ≡ None) (next.fit k i low at);
        },
        next_more given (before ++ l ∷ []) (others_push before file l apart (differs given before l next)) ls asked.1,
      )

  module _ (given : Files) (looks : List Look) (asked : AreAskedInTurn (IsNext given p) [] looks) where
    others_of_all : ((name b : List ℕ) → find_bytes name given ≡ Some b → HaveNoLookAt looks name) → (name b : List ℕ) → find_bytes name (given ++ (file, bytes) ∷ []) ≡ Some b → HaveNoLookAt looks name
    others_of_all of_given name b is =
        elim (find_bytes name given) as (λ o. find_bytes name given ≡ o → option_or o (find_bytes name ((file, bytes) ∷ [])) ≡ Some b → HaveNoLookAt looks name) [
          | Some c ↦ λ e found. of_given name c e
          | None ↦ λ e found. only looks name b (others given [] looks asked) found
        ] refl (sym (find_both name given ((file, bytes) ∷ [])) ∙ is)

    beside : (held : Option Store) (old new : History) → LookedBeside given held old new looks → LookedBeside (given ++ (file, bytes) ∷ []) held old new looks
    beside held old new h = record { history = h.history; single = h.single; others = others_of_all h.others; told = h.told }

    all_so : (Such : Store → Type 0) → WithGiven given looks Such → WithGiven (given ++ (file, bytes) ∷ []) looks Such
    all_so = with_more given looks (others given [] looks asked)

    all_next : AreAskedInTurn (IsNext (given ++ (file, bytes) ∷ []) p) [] looks
    all_next = next_more given [] tt looks asked

module _ (given : Files) (file bytes : List ℕ) (held : Option Store) (old new : History) where
  -- contents that were read without them are those that are read with them
  pub has_unnamed : (r : Resolution) (things : List (List ℕ)) → names_file (source_of r) file ≡ false → HasContents given r held old new things → HasContents (given ++ (file, bytes) ∷ []) r held old new things
  has_unnamed r things unnamed h = record {
    looks = h.looks;
    looked = beside (source_of r) file bytes unnamed given h.looks h.asked held old new h.looked;
    asked = all_next (source_of r) file bytes unnamed given h.looks h.asked;
    fit = all_so (source_of r) file bytes unnamed given h.looks h.asked (λ files. contents_refused files (source_of r) ≡ None) h.fit;
    are = all_so (source_of r) file bytes unnamed given h.looks h.asked (λ files. things ≡ thing_bytes files r) h.are;
  }

  -- and so if there are none
  pub lacks_unnamed : (p : Source) (error : BuildError) → names_file p file ≡ false → LacksContents given p held old new error → LacksContents (given ++ (file, bytes) ∷ []) p held old new error
  lacks_unnamed p error unnamed h = record {
    looks = h.looks;
    looked = beside p file bytes unnamed given h.looks h.asked held old new h.looked;
    asked = all_next p file bytes unnamed given h.looks h.asked;
    says = says error h.says;
  } where
    says : (error : BuildError) → ErrorSays given (RefusesContents p) h.looks error → ErrorSays (given ++ (file, bytes) ∷ []) (RefusesContents p) h.looks error
    says (Refused r) (inl e) = inl e
    says (Refused r) (inr all) = inr (all_so p file bytes unnamed given h.looks h.asked (λ files. RefusesContents p files r) all)
    says FileFault fault = fault
