-- What stands at the index of each subject: its grants, its tables of events and its pages.
use Rattle.std.proofs.Common.{◌≡◌, ℕ, suc, ◌+◌, List, [], ◌∷◌, length, map, Some, refl, sym, subst, arith, ap, ◌∙◌}
use Rattle.std.specs.Prelude.{slice_get}
use Rattle.std.specs.List.{AllZip, enumerate_from, zip}
use Rattle.std.proofs.lemmas.Slice.Zip.{AllZip-long}
use Rattle.muen_num.proofs.Lists.{numbered_at}
use Rattle.muen_num.proofs.Pairs.{both_at, other_at, zipped_at, zipped_both}
use Rattle.event_emit.specs.Tables.{AreTables}
use Rattle.event_emit.specs.declared.event_tables.EventTables.{EventTables}
use Rattle.expand_kernel.specs.Grants.{AreGrantsOf}
use Rattle.expand_kernel.specs.granted.Grants.{Grants}
use Rattle.image_emit.specs.Made.{IsMade, Made, image_of, policy_of, subject_part, subject_parts}
use Rattle.image_emit.proofs.AtIndexes.{mapped_there}
use Rattle.image_soundness.proofs.SubjectsOfBoth.{for_each}
use Rattle.image_soundness.specs.Sound.{ForEachSubject}
use Rattle.image_pack.specs.declared.parts.SubjectPart.{SubjectPart}
use Rattle.policy_lawful.specs.Resolution.{source_of, subject_named}
use Rattle.policy_lawful.specs.declared.resolved.Subject.{Subject}
use Rattle.policy_lawful.specs.source.Subject.{Subject as NamedSubject}
use Rattle.subject_emit.specs.Pages.{ArePages}
use Rattle.subject_emit.specs.declared.subject_pages.SubjectPages.{SubjectPages}

-- ---- lists by index

each_zipped : {S N G T P : Type 0} (name : S → N) (make : ℕ × (S × (G × T)) → P) (Holds : N → P → Type 0) (n : ℕ) (ss : List S) (gs : List G) (ts : List T) → length gs ≡ length ss → length ts ≡ length ss
    → ((k : ℕ) (s : S) (g : G) (t : T) → slice_get ss k ≡ Some s → slice_get gs k ≡ Some g → slice_get ts k ≡ Some t → Holds (name s) (make (n + k, (s, (g, t)))))
    → AllZip Holds (map name ss) (map make (enumerate_from n (zip ss (zip gs ts))))
each_zipped name make Holds n [] gs ts a b h = tt
each_zipped name make Holds n (s ∷ ss) [] ts a b h = absurd (omega (arith, a))
each_zipped name make Holds n (s ∷ ss) (g ∷ gs) [] a b h = absurd (omega (arith, b))
each_zipped name make Holds n (s ∷ ss) (g ∷ gs) (t ∷ ts) a b h =
    let first : n + 0 ≡ n = omega arith in (
      subst (λ j. Holds (name s) (make (j, (s, (g, t))))) first (h 0 s g t refl refl refl),
      each_zipped name make Holds (n + 1) ss gs ts (omega (arith, a)) (omega (arith, b))
          (λ k x y z p q r.
          let more : n + suc k ≡ (n + 1) + k = omega arith in
          subst (λ j. Holds (name x) (make (j, (x, (y, z))))) more (h (suc k) x y z p q r)),
    )

-- ---- of an image

-- the subject at an index, with what it is granted, the events that it raises and its pages
pub record IsAtIndex (m : Made) (k : ℕ) (s : Subject) (g : Grants) (t : EventTables) (q : SubjectPages) : Type 0 where
  pub subject : slice_get (policy_of m).subjects k ≡ Some s
  pub granted : slice_get m.placed.expanded.grants k ≡ Some g
  pub raising : slice_get m.events k ≡ Some t
  pub kept : slice_get m.pages k ≡ Some q
  pub pages : ArePages m.placed k s g q
  pub grants : AreGrantsOf (policy_of m) s g

-- what stands there is this, with some pages
pub at_index_there : (m : Made) → IsMade m → (k : ℕ) (s : Subject) (g : Grants) (t : EventTables) → slice_get (policy_of m).subjects k ≡ Some s → slice_get m.placed.expanded.grants k ≡ Some g → slice_get m.events k ≡ Some t
    → (q : SubjectPages) × IsAtIndex m k s g t q
at_index_there m h k s g t a b c =
    let ss = (policy_of m).subjects in
    let gs = m.placed.expanded.grants in
    let first : 0 + k ≡ k = omega arith in
    let q = other_at (λ (e : ℕ × (Subject × Grants)) q. ArePages m.placed e.0 e.1.0 e.1.1 q) (enumerate_from 0 (zip ss gs)) m.pages k (0 + k, (s, g)) h.pages (numbered_at 0 (zip ss gs) k (s, g) (zipped_at ss gs k s g a b)) in (
      q.0,
      record {
        subject = a;
        granted = b;
        raising = c;
        kept = q.1;
        pages = subst (λ j. ArePages m.placed j s g q.0) first q.2;
        grants = both_at (AreGrantsOf (policy_of m)) ss gs k s g h.expansion.grants a b;
      },
    )

-- what holds at each index holds of each subject and its part of the image
pub each_subject : (m : Made) → IsMade m → (Holds : NamedSubject → SubjectPart → Type 0)
    → ((k : ℕ) (s : Subject) (g : Grants) (t : EventTables) (q : SubjectPages) → IsAtIndex m k s g t q → Holds (subject_named (policy_of m) s) (subject_part m.placed (k, (s, (g, t)))))
    → ForEachSubject (source_of (policy_of m)) (image_of m) Holds
unfolding source_of image_of
each_subject m h Holds each =
    let ss = (policy_of m).subjects in
    let gs = m.placed.expanded.grants in
    for_each (source_of (policy_of m)) (image_of m) Holds
    (each_zipped (subject_named (policy_of m)) (subject_part m.placed) Holds 0 ss gs m.events
    (AllZip-long (AreGrantsOf (policy_of m)) ss gs h.expansion.grants)
    (AllZip-long (AreTables (policy_of m)) ss m.events h.events)
    (λ k s g t a b c.
    let first : 0 + k ≡ k = omega arith in
    let found = at_index_there m h k s g t a b c in
    subst (λ j. Holds (subject_named (policy_of m) s) (subject_part m.placed (j, (s, (g, t))))) (sym first) (each k s g t found.0 found.1)))

-- ---- by its part of the image

-- the subject at an index whose part of the image is this
pub record SubjectAt (m : Made) (k : ℕ) (part : SubjectPart) : Type 0 where
  pub subject : Subject
  pub granted : Grants
  pub raising : EventTables
  pub kept : SubjectPages
  pub is : IsAtIndex m k subject granted raising kept
  pub made : part ≡ subject_part m.placed (k, (subject, (granted, raising)))

pub subject_at : (m : Made) → IsMade m → (k : ℕ) (part : SubjectPart) → slice_get (subject_parts m) k ≡ Some part → SubjectAt m k part
subject_at m h k part at =
    let ss = (policy_of m).subjects in
    let gs = m.placed.expanded.grants in
    let all = mapped_there (subject_part m.placed) 0 (zip ss (zip gs m.events)) k part at in
    let both = zipped_both ss (zip gs m.events) k all.0 all.1 in
    let last = zipped_both gs m.events k all.0.1 both.1 in
    let found = at_index_there m h k all.0.0 all.0.1.0 all.0.1.1 both.0 last.0 last.1 in
    let first : 0 + k ≡ k = omega arith in
    record {
      subject = all.0.0;
      granted = all.0.1.0;
      raising = all.0.1.1;
      kept = found.0;
      is = found.1;
      made = sym all.2 ∙ ap (λ n. subject_part m.placed (n, all.0)) first;
    }
