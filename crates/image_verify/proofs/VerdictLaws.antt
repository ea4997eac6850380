-- What a verdict tells of an image, and that there is one.
use Rattle.std.proofs.Common.{◌≡◌, ◌⊎◌, ℕ, zero, suc, ◌<◌, List, [], ◌∷◌, length, zip, Option, Some, None, refl, sym, ap, ◌∙◌, inl, inr, arith}
use Rattle.std.specs.Prelude.{option_map, slice_get}
use Rattle.std.specs.Option.{option_map_or}
use Rattle.std.specs.List.{AllZip}
use Rattle.std.proofs.lemmas.Bool.{cases_order}
use Rattle.std.proofs.lemmas.Option.{none-some, slice_get_within}
use Rattle.ept_check.proofs.Given.{all_fine}
use Rattle.ept_check.proofs.Sounds.{no_faults, sound as tables_sound, unsound as tables_unsound}
use Rattle.ept_check.specs.Faults.{table_fault}
use Rattle.ept_check.specs.Sound.{AreSound}
use Rattle.ept_check.specs.declared.types.FaultKind.TheVariants.{Twice as TwiceFault}
use Rattle.ept_check.specs.declared.types.TableFault.{TableFault}
use Rattle.image_checks.proofs.OwnPageLaws.{each_shares_none}
use Rattle.image_checks.proofs.PlanFaults.{a_plan_fault_is_none_of_a_sound_image, none_first, one_first, one_plan_fault}
use Rattle.image_checks.specs.Contents.{IsFirstOther, owner_at}
use Rattle.image_checks.specs.OwnPages.{SharesWithNone}
use Rattle.image_pack.specs.Parts.{IsParts}
use Rattle.image_pack.specs.declared.parts.Image.{Image}
use Rattle.image_pack.specs.declared.parts.SubjectPart.{SubjectPart}
use Rattle.image_memory.specs.Memory.{Span, memory_of}
use Rattle.image_soundness.specs.Sound.{AreContents, AreFilesHeld, ForEachSubject, HasArea, HasBitmaps, HasPlanAndEvents, HaveOwnPages, IsFresh, IsSound, IsSpanOf, thing_spans}
use Rattle.image_verify.proofs.Checked.{stand_for}
use Rattle.image_verify.specs.Filled.{IsFilled}
use Rattle.image_verify.specs.Stand.{StandForTables}
use Rattle.image_verify.specs.TablePages.{pages_of_all}
use Rattle.image_verify.specs.Verdict.{FailsFirstFor, FirstOf, Holds, IsFailure, IsTableFault, IsTwice, IsVerdict, Kept, areas, bitmaps, by_kind, common, condition_of, in_order, own_pages, plan, states, named, plan_owner, subject_name, subject_owner, image_tables_of}
use Rattle.image_verify.specs.Windows.{tables_of_subjects}
use Rattle.image_verify.specs.declared.fault.Condition.TheVariants.{Contents}
use Rattle.image_verify.specs.declared.fault.Fault.{Fault}
use Rattle.image_verify.specs.declared.fault.Fault.TheVariants.{Fails}
use Rattle.image_verify.specs.declared.fault.Owner.{Owner}
use Rattle.image_verify.specs.declared.fault.Owner.TheVariants.{Named}
use Rattle.ept_check.specs.Memory.{is_there}
use Rattle.muen_num.specs.Range.{numbers_below}
use Rattle.muen_num.proofs.Options.{one_value}
use Rattle.policy_lawful.specs.Contents.{Held}
use Rattle.policy_lawful.specs.Lawful.{IsLawful}
use Rattle.policy_lawful.specs.Thing.{Thing, thing_tag, things_of}
use Rattle.policy_lawful.specs.source.Source.{Source}
use Rattle.policy_lawful.specs.source.Subject.{Subject}
use Rattle.image_soundness.specs.Paths.{HasOnePathPerTable}

-- ---- contents

-- what two lists have at an index
record HasBoth {X Y : Type 0} (R : X → Y → Type 0) (xs : List X) (ys : List Y) (k : ℕ) : Type 0 where
  one : X
  other : Y
  at : slice_get xs k ≡ Some one
  beside : slice_get ys k ≡ Some other
  is : R one other

zip_there : {X Y : Type 0} (R : X → Y → Type 0) (xs : List X) (ys : List Y) → AllZip R xs ys → (k : ℕ) → (k < length xs) ⊎ (k < length ys) → HasBoth R xs ys k
zip_there R [] [] h k (inl l) = absurd (omega (arith, l))
zip_there R [] [] h k (inr l) = absurd (omega (arith, l))
zip_there R [] (y ∷ ys) h k l = absurd h
zip_there R (x ∷ xs) [] h k l = absurd h
zip_there R (x ∷ xs) (y ∷ ys) h zero l = record { one = x; other = y; at = refl; beside = refl; is = h.0 }
zip_there R (x ∷ xs) (y ∷ ys) h (suc k) (inl l) =
    let b = zip_there R xs ys h.1 k (inl (omega (arith, l))) in record { one = b.one; other = b.other; at = b.at; beside = b.beside; is = b.is }
zip_there R (x ∷ xs) (y ∷ ys) h (suc k) (inr l) =
    let b = zip_there R xs ys h.1 k (inr (omega (arith, l))) in record { one = b.one; other = b.other; at = b.at; beside = b.beside; is = b.is }

abbrev owner_of : Option Thing → Option Span → Option (List ℕ)
owner_of o e = option_map_or (λ x. Some (thing_tag x).owner) o (option_map_or (λ (s : Span). Some s.0.tag.owner) e None)

owner_there : (xs : List Thing) (es : List Span) (k : ℕ) (o : Option Thing) (e : Option Span) (owner : List ℕ) → slice_get xs k ≡ o → slice_get es k ≡ e → owner_of o e ≡ Some owner → (k < length xs) ⊎ (k < length es)
owner_there xs es k (Some x) e owner a b h = inl (slice_get_within xs k x a)
owner_there xs es k None (Some s) owner a b h = inr (slice_get_within es k s b)
owner_there xs es k None None owner a b h = absurd (none-some owner h)

-- where the contents are the policy's, none is the first that isn't
no_other : (p : Source) (files : Held) (i : Image) (owner : List ℕ) → AreContents p files i → IsFirstOther p files i owner → ⊥
no_other p files i owner all first =
    let low = owner_there (things_of p) (thing_spans i) first.k (slice_get (things_of p) first.k) (slice_get (thing_spans i) first.k) owner refl refl first.is in
    let b = zip_there (IsSpanOf p files) (things_of p) (thing_spans i) all first.k low in
    first.here (record { thing = b.one; span = b.other; is = b.at; at = b.beside; of = b.is })

one_other : (p : Source) (files : Held) (i : Image) (a b : List ℕ) → IsFirstOther p files i a → IsFirstOther p files i b → a ≡ b
one_other p files i a b x y =
    let same : x.k ≡ y.k =
    elim (cases_order x.k y.k) [
      | inl e ↦ e
      | inr later ↦ elim later [
        | inl l ↦ absurd (x.here (y.before x.k l))
        | inr l ↦ absurd (y.here (x.before y.k l))
      ]
    ] in
    one_value (Some a) a b refl (sym x.is ∙ ap (owner_at p i) same ∙ y.is)

-- ---- what the kernel keeps, and the plan

-- a condition that holds doesn't fail
fails_not : (p : Source) (i : Image) (c : Kept) (owner : Owner) → FailsFirstFor p i c owner → Holds p i c → ⊥
fails_not p i bitmaps owner h all = none_first (λ (e : Subject × SubjectPart). HasBitmaps p i e.0 e.1) (zip p.subjects i.subjects) h.k all h.first
fails_not p i areas owner h all = none_first (λ (e : Subject × SubjectPart). HasArea i e.0 e.1) (zip p.subjects i.subjects) h.k all h.first
fails_not p i states owner h all = none_first (λ (e : Subject × SubjectPart). IsFresh i e.0 e.1) (zip p.subjects i.subjects) h.k all h.first
fails_not p i own_pages owner h all =
    let parts = common p i in
    none_first (SharesWithNone parts) (numbers_below (length parts)) h.k (each_shares_none parts all) h.first
fails_not p i plan owner h all = a_plan_fault_is_none_of_a_sound_image p i h.differs h.first all

-- it fails first for one
one_owner : (p : Source) (i : Image) (c : Kept) (a b : Owner) → FailsFirstFor p i c a → FailsFirstFor p i c b → a ≡ b
one_owner p i bitmaps a b x y = x.is ∙ ap (subject_owner p) (one_first (λ (e : Subject × SubjectPart). HasBitmaps p i e.0 e.1) (zip p.subjects i.subjects) x.k y.k x.first y.first) ∙ sym y.is
one_owner p i areas a b x y = x.is ∙ ap (subject_owner p) (one_first (λ (e : Subject × SubjectPart). HasArea i e.0 e.1) (zip p.subjects i.subjects) x.k y.k x.first y.first) ∙ sym y.is
one_owner p i states a b x y = x.is ∙ ap (subject_owner p) (one_first (λ (e : Subject × SubjectPart). IsFresh i e.0 e.1) (zip p.subjects i.subjects) x.k y.k x.first y.first) ∙ sym y.is
one_owner p i own_pages a b x y =
    let parts = common p i in
    x.is ∙ ap (subject_owner p) (one_first (SharesWithNone parts) (numbers_below (length parts)) x.k y.k x.first y.first) ∙ sym y.is
one_owner p i plan a b x y =
    x.is ∙ ap (plan_owner p i) (one_value (Some x.differs) x.differs y.differs refl (one_plan_fault p i (Some x.differs) (Some y.differs) x.first y.first)) ∙ sym y.is

-- there is one first
one_in_order : (p : Source) (i : Image) (Rest : Option Fault → Type 0) → ((a b : Option Fault) → Rest a → Rest b → a ≡ b) → (cs : List Kept) (a b : Option Fault) → FirstOf p i Rest cs a → FirstOf p i Rest cs b → a ≡ b
one_in_order p i Rest one [] a b x y = one a b x y
one_in_order p i Rest one (c ∷ cs) a b (inl x) (inl y) = x.is ∙ ap (λ owner. Some (Fails (condition_of c) owner)) (one_owner p i c x.owner y.owner x.fails y.fails) ∙ sym y.is
one_in_order p i Rest one (c ∷ cs) a b (inl x) (inr y) = absurd (fails_not p i c x.owner x.fails y.0)
one_in_order p i Rest one (c ∷ cs) a b (inr x) (inl y) = absurd (fails_not p i c y.owner y.fails x.0)
one_in_order p i Rest one (c ∷ cs) a b (inr x) (inr y) = one_in_order p i Rest one cs a b x.1 y.1

-- where all hold the rest says what it is
last_of : (p : Source) (i : Image) (Rest : Option Fault → Type 0) → ((c : Kept) → Holds p i c) → (cs : List Kept) (o : Option Fault) → FirstOf p i Rest cs o → Rest o
last_of p i Rest all [] o h = h
last_of p i Rest all (c ∷ cs) o (inl h) = absurd (fails_not p i c h.owner h.fails (all c))
last_of p i Rest all (c ∷ cs) o (inr h) = last_of p i Rest all cs o h.1

each_holds : (p : Source) (files : Held) (i : Image) → IsSound p files i → (c : Kept) → Holds p i c
each_holds p files i s bitmaps = s.bitmaps
each_holds p files i s areas = s.msr_areas
each_holds p files i s states = s.fresh_states
each_holds p files i s own_pages = s.own_pages
each_holds p files i s plan = s.plan_and_events

no_failure : (p : Source) (i : Image) (c : Kept) → IsFailure p i c None → ⊥
no_failure p i c h = none-some (Fails (condition_of c) h.owner) h.is

-- what holds where none fails
pub record AreKept (p : Source) (i : Image) : Type 0 where
  pub bitmaps : ForEachSubject p i (HasBitmaps p i)
  pub areas : ForEachSubject p i (HasArea i)
  pub states : ForEachSubject p i (IsFresh i)
  pub own : HaveOwnPages p i
  pub plan : HasPlanAndEvents p i

pub are_kept : (p : Source) (i : Image) (Rest : Option Fault → Type 0) → FirstOf p i Rest in_order None → AreKept p i × Rest None
are_kept p i Rest (inl h) = absurd (no_failure p i bitmaps h)
are_kept p i Rest (inr (b, inl h)) = absurd (no_failure p i areas h)
are_kept p i Rest (inr (b, inr (a, inl h))) = absurd (no_failure p i states h)
are_kept p i Rest (inr (b, inr (a, inr (s, inl h)))) = absurd (no_failure p i own_pages h)
are_kept p i Rest (inr (b, inr (a, inr (s, inr (o, inl h))))) = absurd (no_failure p i plan h)
are_kept p i Rest (inr (b, inr (a, inr (s, inr (o, inr (k, rest)))))) = (record { bitmaps = b; areas = a; states = s; own = o; plan = k }, rest)

-- ---- tables

standing : (p : Source) (files : Held) (i : Image) → IsFilled p files i → StandForTables p i (pages_of_all i.spans) (tables_of_subjects p i)
standing p files i h = stand_for p files i h (pages_of_all i.spans) refl

filled : (p : Source) (files : Held) (i : Image) → IsSound p files i → IsFilled p files i
filled p files i s = record { lawful = s.lawful; parts = s.parts; contents = s.contents; many = s.plan_and_events.many }

are_sound : (p : Source) (files : Held) (i : Image) → IsSound p files i → AreSound (image_tables_of p i)
are_sound p files i s = (standing p files i (filled p files i s)).sound s.walks s.tables

none_found : (p : Source) (o : Option TableFault) → None ≡ option_map (named p) o → o ≡ None
none_found p None h = refl
none_found p (Some f) h = absurd (none-some (named p f) h)

twice_found : (p : Source) (o : Option TableFault) (f : Fault) → Some f ≡ option_map (named p) o → ((t : TableFault) → Some t ≡ o → t.kind ≡ TwiceFault) → IsTwice f
twice_found p None f h k = absurd (none-some f (sym h))
twice_found p (Some t) f h k = record { subject = subject_name p t.subject; addr = t.addr; is = one_value (Some f) f (named p t) refl h ∙ ap (by_kind p t) (k t refl) }

-- ---- laws

-- **without a fault** the image is sound, where the files of contents are held
pub no_fault_is_sound : (p : Source) (files : Held) (i : Image) → IsLawful p → IsParts i → AreFilesHeld p files → IsVerdict p files i None → IsSound p files i
no_fault_is_sound p files i lawful parts held (inl h) = absurd (none-some _ h.is)
no_fault_is_sound p files i lawful parts held (inr (contents, first)) =
    let k = are_kept p i (IsTableFault p i) first in
    let stand = standing p files i (record { lawful = lawful; parts = parts; contents = contents; many = k.0.plan.many }) in
    let none = none_found p (table_fault (image_tables_of p i)) k.1 in
    let tables : AreSound (image_tables_of p i) = tables_sound (image_tables_of p i) (all_fine (is_there (memory_of i)) (tables_of_subjects p i) stand.checkable.windows) none in
    record {
      lawful = lawful;
      parts = parts;
      held = held;
      contents = contents;
      walks = stand.walks tables;
      tables = stand.reads tables;
      bitmaps = k.0.bitmaps;
      msr_areas = k.0.areas;
      fresh_states = k.0.states;
      own_pages = k.0.own;
      plan_and_events = k.0.plan;
    }

-- of a sound image the verdict is that on its tables
tables_only : (p : Source) (files : Held) (i : Image) (o : Option Fault) → IsSound p files i → IsVerdict p files i o → IsTableFault p i o
tables_only p files i o s (inl h) = absurd (no_other p files i h.owner s.contents h.fails)
tables_only p files i o s (inr h) = last_of p i (IsTableFault p i) (each_holds p files i s) in_order o h.1

-- **any fault** but that a table is read on two paths tells that it isn't sound
pub a_fault_is_none_of_a_sound_image : (p : Source) (files : Held) (i : Image) (f : Fault) → IsVerdict p files i (Some f) → IsSound p files i → IsTwice f
a_fault_is_none_of_a_sound_image p files i f v s =
    twice_found p (table_fault (image_tables_of p i)) f (tables_only p files i (Some f) s v) (λ t is. tables_unsound (image_tables_of p i) t is (are_sound p files i s))

-- **a sound image** no table of which is read on two paths has none
pub a_sound_image_has_no_fault : (p : Source) (files : Held) (i : Image) (o : Option Fault) → IsVerdict p files i o → IsSound p files i → HasOnePathPerTable i → o ≡ None
a_sound_image_has_no_fault p files i o v s once =
    tables_only p files i o s v
    ∙ ap (option_map (named p)) (no_faults (image_tables_of p i) (are_sound p files i s) ((standing p files i (filled p files i s)).one_path once))

-- **there is one verdict**
pub one_verdict : (p : Source) (files : Held) (i : Image) (a b : Option Fault) → IsVerdict p files i a → IsVerdict p files i b → a ≡ b
one_verdict p files i a b (inl u) (inl v) = u.is ∙ ap (λ owner. Some (Fails Contents (Named owner))) (one_other p files i u.owner v.owner u.fails v.fails) ∙ sym v.is
one_verdict p files i a b (inl u) (inr v) = absurd (no_other p files i u.owner v.0 u.fails)
one_verdict p files i a b (inr u) (inl v) = absurd (no_other p files i v.owner u.0 v.fails)
one_verdict p files i a b (inr u) (inr v) = one_in_order p i (IsTableFault p i) (λ c d m n. m ∙ sym n) in_order a b u.1 v.1
