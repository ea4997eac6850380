-- What `build` leaves by its writes.
use Rattle.std.proofs.Common.{◌≡◌, ◌∙◌, refl, sym, ap, subst, ℕ, Bool, true, false, List, [], ◌∷◌, if◌then◌else◌, Option, Some, None, Result, Ok, Err}
use Rattle.std.specs.FinMap.{get, insert}
use Rattle.std.specs.Prelude.{codes, option_map}
use Rattle.std.specs.Str.{bytes_eq}
use Rattle.image_pack.proofs.ImageSizes.{image_fits}
use Rattle.muen_build.proofs.Documents.{admitted, other_bytes, own_bytes}
use Rattle.muen_build.specs.ImageFor.{IsImageFor}
use Rattle.muen_build.specs.Refusals.{accepted_policy_of}
use Rattle.muen_num.specs.declared.limits.TheConstants.{IMAGE_MOST, POLICY_MOST}
use Rattle.muen_num.proofs.Lookups.{same_self}
use Rattle.muen_outside.specs.States.{SinkState, Write}
use Rattle.muen_outside.specs.Store.{Reading, Store, absent, long, reading_of, whole}
use Rattle.policy_lawful.specs.refusal.Refusal.{Refusal}
use Rattle.policy_lawful.specs.source.Source.{Source}
use Rattle.muen_top.specs.Answers.{answer_of, build_answer, image_answer, of_file}
use Rattle.muen_top.specs.Calls.{IsDone}
use Rattle.muen_top.specs.Commands.{build, boot, run, map, flows, verify, load, load_number, command_of}
use Rattle.muen_top.specs.Headline.{HoldsBuilt, HoldsPolicy, HoldsWanted, WritesBuilt, after_writes}
use Rattle.muen_top.specs.Images.{IsLast, Wrote, image_last, tables_last}
use Rattle.muen_top.specs.Tables.{HoldsTablesFor, IsTablesFor}
use Rattle.muen_top.specs.declared.limits.TheConstants.{DMA_MOST}
use Rattle.muen_top.proofs.TableSizes.{tables_small}

-- ---- the words that ask for both have two names for them

differ_so : (same is_run : Bool) (policy image name a b c : List ℕ) → bytes_eq b c ≡ same → (is_build : Bool)
    → (if is_build then (if same then None else Some (build a b (Some c))) else (if is_run then Some (run a b (Some c)) else None)) ≡ Some (build policy image (Some name)) → bytes_eq image name ≡ false
differ_so false is_run policy image name a b c e true h =
    let images : b ≡ image = cc (h) in
    let names : c ≡ name = cc (h) in
    ap (λ x. bytes_eq x name) (sym images) ∙ ap (bytes_eq b) (sym names) ∙ e
differ_so true is_run policy image name a b c e true h = absurd (cc (h))
differ_so same true policy image name a b c e false h = absurd (cc (h))
differ_so same false policy image name a b c e false h = absurd (cc (h))

-- words of another count ask for no tables
three_so : (is_build is_boot is_run is_verify : Bool) (policy image name a b : List ℕ)
    → (if is_build then Some (build a b None) else (if is_boot then Some (boot a b) else (if is_run then Some (run a b None) else (if is_verify then Some (verify a b) else None)))) ≡ Some (build policy image (Some name)) → ⊥
three_so true is_boot is_run is_verify policy image name a b h = cc (h)
three_so false true is_run is_verify policy image name a b h = cc (h)
three_so false false true is_verify policy image name a b h = cc (h)
three_so false false false true policy image name a b h = cc (h)
three_so false false false false policy image name a b h = cc (h)

two_so : (is_map is_flows is_load : Bool) (policy image name a : List ℕ) (number : Option ℕ)
    → (if is_map then Some (map a) else (if is_flows then Some (flows a) else (if is_load then option_map load number else None))) ≡ Some (build policy image (Some name)) → ⊥
two_so true is_flows is_load policy image name a number h = cc (h)
two_so false true is_load policy image name a number h = cc (h)
two_so false false true policy image name a None h = cc (h)
two_so false false true policy image name a (Some n) h = cc (h)
two_so false false false policy image name a number h = cc (h)

pub differ : (words : List (List ℕ)) (policy image name : List ℕ) → command_of words ≡ Some (build policy image (Some name)) → bytes_eq image name ≡ false
differ [] policy image name h = absurd (cc (h))
differ (word ∷ []) policy image name h = absurd (cc (h))
differ (word ∷ a ∷ []) policy image name h = absurd (two_so (bytes_eq word (codes "map")) (bytes_eq word (codes "flows")) (bytes_eq word (codes "load")) policy image name a (load_number a) h)
differ (word ∷ a ∷ b ∷ []) policy image name h = absurd (three_so (bytes_eq word (codes "build")) (bytes_eq word (codes "boot")) (bytes_eq word (codes "run")) (bytes_eq word (codes "verify")) policy image name a b h)
differ (word ∷ a ∷ b ∷ c ∷ []) policy image name h = differ_so (bytes_eq b c) (bytes_eq word (codes "run")) policy image name a b c refl (bytes_eq word (codes "build")) h
differ (word ∷ a ∷ b ∷ c ∷ d ∷ rest) policy image name h = absurd (cc (h))

-- ---- what is read of what was written

own_image : (p : Source) (files m : Store) (image bytes : List ℕ) → IsImageFor p files bytes → get m image ≡ Some bytes → HoldsBuilt m image p files
own_image p files m image bytes is there = record {
  bytes = bytes;
  read = ap (λ o. reading_of o IMAGE_MOST) there ∙ admitted IMAGE_MOST bytes (image_fits bytes is.parts is.image);
  built = is;
}

own_tables : (p : Source) (m : Store) (name file : List ℕ) → IsTablesFor p file → HoldsTablesFor (insert m name file) name p
own_tables p m name file is = record {
  bytes = file;
  read = ap (λ o. reading_of o DMA_MOST) (own_bytes m name file name (same_self name)) ∙ admitted DMA_MOST file (tables_small p file is);
  built = is;
}

module _ (policy image : List ℕ) (dma : Option (List ℕ)) (m : Store) (ws : List Write) (out out' : SinkState) (differ_named : (name : List ℕ) → dma ≡ Some name → bytes_eq image name ≡ false) where
  none_wanted : (d : Option (List ℕ)) → IsLast d (Ok tt) → (k : Store) (p : Source) → HoldsWanted k p d
  none_wanted None last k p = tt
  none_wanted (Some name) last k p = absurd last

  of_written : (p : Source) → HoldsPolicy m policy p → Wrote image dma p m (Ok tt) ws → WritesBuilt m policy image dma ws
  of_written p accepted (image_last bytes is last one) = record {
    p = p;
    accepted = accepted;
    written = image_last bytes is last one;
    built = subst (λ xs. HoldsBuilt (after_writes m xs) image p m) (sym one) (own_image p m (insert m image bytes) image bytes is (own_bytes m image bytes image (same_self image)));
    tables = none_wanted dma last (after_writes m ws) p;
  }
  of_written p accepted (tables_last bytes is name file named is_tables two) = record {
    p = p;
    accepted = accepted;
    written = tables_last bytes is name file named is_tables two;
    built =
        subst (λ xs. HoldsBuilt (after_writes m xs) image p m) (sym two)
        (own_image p m (insert (insert m image bytes) name file) image bytes is
        (other_bytes (insert m image bytes) name file image (differ_named name named) ∙ own_bytes m image bytes image (same_self image)));
    tables =
        subst (λ d. HoldsWanted (after_writes m ws) p d) (sym named)
        (subst (λ xs. HoldsTablesFor (after_writes m xs) name p) (sym two) (own_tables p (insert m image bytes) name file is_tables));
  }

  of_accepted : (document : List ℕ) → reading_of (get m policy) POLICY_MOST ≡ whole document → (answer : Result Source Refusal) → accepted_policy_of m document ≡ answer → IsDone (image_answer m image dma answer) ws out out' → WritesBuilt m policy image dma ws
  of_accepted document read (Ok p) accepted did = of_written p (record { document = document; read = read; accepted = accepted }) did.0
  of_accepted document read (Err refusal) accepted did = absurd did

  of_reading : (reading : Reading) → reading_of (get m policy) POLICY_MOST ≡ reading → IsDone (of_file policy (λ bytes. image_answer m image dma (accepted_policy_of m bytes)) reading) ws out out' → WritesBuilt m policy image dma ws
  of_reading (whole document) read did = of_accepted document read (accepted_policy_of m document) refl did
  of_reading absent read did = absurd did
  of_reading (long n) read did = absurd did

  -- what is written is for the policy that is held
  pub build_writes : IsDone (answer_of m (Some (build policy image dma))) ws out out' → WritesBuilt m policy image dma ws
  unfolding build_answer
  build_writes did = of_reading (reading_of (get m policy) POLICY_MOST) refl did
