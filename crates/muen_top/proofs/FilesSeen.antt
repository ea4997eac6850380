-- What was seen of files that were looked at one after another.
use Rattle.std.proofs.Common.{◌≡◌, inl, inr, ℕ, Bool, true, false, if◌then◌else◌, List, [], ◌∷◌, ◌++◌, Option, Some, None, IfSome, Result, Ok, Err, IfOk, refl, sym, ap, subst, ◌∙◌, append-nil}
use Rattle.std.specs.FinMap.{get}
use Rattle.std.specs.Str.{bytes_eq}
use Rattle.std.proofs.lemmas.Slice.Eq.{bytes_eq-Decides}
use Rattle.muen_build.specs.Accepting.{Files}
use Rattle.muen_build.specs.Looks.{Looked, document_look}
use Rattle.muen_build.proofs.Documents.{whole_found}
use Rattle.muen_build.proofs.Looks.{looked_both, show_front, show_last, single_push, told_both}
use Rattle.muen_build.proofs.Steps.{others_found, shown_among}
use Rattle.muen_num.specs.declared.limits.TheConstants.{COMPONENT_FILE_MOST, POLICY_MOST}
use Rattle.muen_outside.specs.declared.files.FileError.{FileError}
use Rattle.muen_outside.specs.declared.files.FileError.TheVariants.{Failed as FileFailed, NoMemory as FileMemory}
use Rattle.muen_outside.specs.declared.files.Found.{Found}
use Rattle.muen_outside.specs.Found.{IsPossible, answered, seen}
use Rattle.muen_outside.specs.Looks.{HaveNoLookAt, EndsInFault, IsPossibleEnd, ShowAll, ShowsAnswer}
use Rattle.muen_outside.specs.States.{History, Look, look, looked}
use Rattle.muen_outside.specs.Store.{Store, Reading, whole, absent, long, find_bytes, reading_of}
use Rattle.muen_top.specs.Asked.{IsAtMost}
use Rattle.muen_top.specs.FilesSeen.{OverLooks, Saw, SawAfter, known, not_copied, unknown}
use Rattle.muen_top.specs.Loads.{AreKnown, GivesNone, IsKnown, NotRead, NotReadAfter, NotWithin, policy_looks}
use Rattle.muen_top.specs.declared.outcome.CommandError.{CommandError}
use Rattle.muen_top.specs.declared.outcome.CommandError.TheVariants.{Usage, Missing, TooLong, Refused, ImageRefused, DmaRefused, RecordRefused, NotSound, FileFault, NoMemory}

-- ---- one look

possible_look : (most : ℕ) (r : Result Found FileError) → IfOk r (λ found. IsPossible most (seen found)) → IsPossibleEnd most (answered r)
possible_look most (Ok found) h = h
possible_look most (Err e) h = tt

told_look : (held : Option Store) (name : List ℕ) (most : ℕ) (r : Result Found FileError) → IfOk r (λ found. IfSome held (λ m. reading_of (get m name) most ≡ seen found)) → IfSome held (λ m. ShowAll m (look name most (answered r) ∷ []))
told_look None name most r h = tt
told_look (Some m) name most (Ok found) h = (h, tt)
told_look (Some m) name most (Err e) h = (tt, tt)

-- a read that has answered this
pub saw_one : (name : List ℕ) (most : ℕ) (r : Result Found FileError) (got : Result Reading FileError) (held : Option Store) (old new : History)
    → new ≡ looked old (look name most (answered r) ∷ []) → IfOk r (λ found. IsPossible most (seen found)) → IfOk r (λ found. IfSome held (λ m. reading_of (get m name) most ≡ seen found))
    → answered r ≡ got → Saw held old new (look name most got ∷ [])
saw_one name most r got held old new history possible told is =
    let saw : Saw held old new (look name most (answered r) ∷ []) = record { history = history; single = (possible_look most r possible, tt, tt); told = told_look held name most r told } in
    subst (λ g. Saw held old new (look name most g ∷ [])) is saw

pub ruleset one_look = (saw_one)

-- ---- looks after others

-- the document, and component files
pub saw_contents : (policy document : List ℕ) (held held' : Option Store) (old mid new : History) (looks : List Look) → held' ≡ held → Saw held old mid (document_look policy document ∷ []) → Looked policy held' mid new looks → Saw held old new (document_look policy document ∷ looks)
saw_contents policy document held held' old mid new looks same saw then_looked =
    record {
      history = then_looked.history ∙ ap (λ h. looked h looks) saw.history ∙ looked_both old (document_look policy document ∷ []) looks;
      single = (saw.single.0, then_looked.others, then_looked.single);
      told = told_both held (document_look policy document ∷ []) looks saw.told (subst (λ h. IfSome h (λ m. ShowAll m looks)) same then_looked.told);
    }

not_failed : (got : Result Reading FileError) (reading : Reading) → got ≡ Ok reading → got ≡ Err FileFailed → ⊥
not_failed got reading is e = cc

memory_not_failed : (got : Result Reading FileError) → got ≡ Err FileMemory → got ≡ Err FileFailed → ⊥
memory_not_failed got is e = cc

-- the looks, with that of one read more where it made one, and what it has come to
pub record SeenAfter (looks : List Look) (name : List ℕ) (most : ℕ) (got : Result Reading FileError) (held : Option Store) (old new : History) : Type 0 where
  pub more : List Look
  pub saw : Saw held old new (looks ++ more)
  pub one : IsAtMost name most more
  pub shows : OverLooks (looks ++ more) (λ m. ShowAll m looks × ShowsAnswer (get m name) most got)
  pub fault : got ≡ Err FileFailed → EndsInFault (looks ++ more)

module _ (looks : List Look) (name : List ℕ) (most : ℕ) (got : Result Reading FileError) (held held' : Option Store) (old mid new : History) (same : held' ≡ held) (saw : Saw held old mid looks) where
  no_more : new ≡ mid → OverLooks looks (λ m. ShowsAnswer (get m name) most got) → (got ≡ Err FileFailed → ⊥) → SeenAfter looks name most got held old new
  no_more still shows never =
      let none : looks ++ [] ≡ looks = append-nil looks in
      record {
        more = [];
        saw = subst (Saw held old new) (sym none) (subst (λ h. Saw held old h looks) (sym still) saw);
        one = inl refl;
        shows = λ m s. (subst (ShowAll m) none s, shows m (subst (ShowAll m) none s));
        fault = λ e. absurd (never e);
      }

  one_more : HaveNoLookAt looks name → Saw held' mid new (look name most got ∷ []) → SeenAfter looks name most got held old new
  one_more others also =
      record {
        more = look name most got ∷ [];
        saw = record {
          history = also.history ∙ ap (λ h. looked h (look name most got ∷ [])) saw.history ∙ looked_both old looks (look name most got ∷ []);
          single = single_push looks (look name most got) saw.single also.single.0 others;
          told = told_both held looks (look name most got ∷ []) saw.told (subst (λ h. IfSome h (λ m. ShowAll m (look name most got ∷ []))) same also.told);
        };
        one = inr (got, refl);
        shows = λ m s. (show_front m looks (look name most got ∷ []) s, show_last m looks (look name most got) s);
        fault = λ is. record { front = looks; name = name; most = most; is = ap (λ g. looks ++ look name most g ∷ []) is };
      }

  pub seen_after : SawAfter looks name most got held' mid new → SeenAfter looks name most got held old new
  seen_after (known content there is still) =
      no_more still (λ m s. subst (ShowsAnswer (get m name) most) (sym is) (ap (λ c. reading_of c most) (there m s))) (not_failed got (reading_of (Some content) most) is)
  seen_after (not_copied is still) =
      no_more still (λ m s. subst (ShowsAnswer (get m name) most) (sym is) tt) (memory_not_failed got is)
  seen_after (unknown others also) = one_more others also

-- the same bytes
whole_same : (a b : List ℕ) → whole a ≡ whole b → a ≡ b
whole_same a b e = cc (e)

-- ---- a read that gives no bytes

pub gives_none : (name : List ℕ) (P Q : Result Reading FileError → Type 0) → ((got : Result Reading FileError) → P got → Q got) → (error : CommandError) → GivesNone name P error → GivesNone name Q error
gives_none name P Q f (Missing n) h = (h.0, f (Ok absent) h.1)
gives_none name P Q f (TooLong n k) h = (h.0, f (Ok (long k)) h.1)
gives_none name P Q f FileFault h = f (Err FileFailed) h
gives_none name P Q f NoMemory h = f (Err FileMemory) h
gives_none name P Q f Usage h = absurd h
gives_none name P Q f (Refused r) h = absurd h
gives_none name P Q f (ImageRefused r) h = absurd h
gives_none name P Q f (DmaRefused r) h = absurd h
gives_none name P Q f (RecordRefused r) h = absurd h
gives_none name P Q f (NotSound x) h = absurd h

module _ (looks : List Look) (name : List ℕ) (most : ℕ) (held : Option Store) where
  -- of a name at which nothing was looked
  pub not_read_after : (old new : History) (error : CommandError) → HaveNoLookAt looks name → NotRead name most held old new error → NotReadAfter looks name most held old new error
  not_read_after old new error others h =
      gives_none name (λ got. Saw held old new (look name most got ∷ [])) (λ got. SawAfter looks name most got held old new) (λ got saw. unknown others saw) error h

  -- of one of which the looks show what it holds: that is too many bytes
  pub not_within : (h : History) (bytes : List ℕ) → OverLooks looks (λ m. get m name ≡ Some bytes) → (error : CommandError) → NotWithin name bytes most error → NotReadAfter looks name most held h h error
  not_within h bytes there (TooLong n k) x = (x.0, known bytes there (ap (λ r. Ok r) x.1) refl)
  not_within h bytes there (Missing n) x = absurd x
  not_within h bytes there FileFault x = absurd x
  not_within h bytes there NoMemory x = absurd x
  not_within h bytes there Usage x = absurd x
  not_within h bytes there (Refused r) x = absurd x
  not_within h bytes there (ImageRefused f) x = absurd x
  not_within h bytes there (DmaRefused f) x = absurd x
  not_within h bytes there (RecordRefused r) x = absurd x
  not_within h bytes there (NotSound f) x = absurd x

  -- of one of which they show it: a copy of that was read
  pub copy_known : (bytes copied : List ℕ) → whole copied ≡ whole bytes → OverLooks looks (λ m. get m name ≡ Some bytes) → OverLooks looks (λ m. get m name ≡ Some copied)
  copy_known bytes copied same there m s = there m s ∙ ap Some (sym (whole_same copied bytes same))

  pub known_read : (h : History) (bytes reading : List ℕ) → OverLooks looks (λ m. get m name ≡ Some bytes) → whole reading ≡ reading_of (Some bytes) most → SawAfter looks name most (Ok (whole reading)) held h h
  known_read h bytes reading there is = known bytes there (ap (λ r. Ok r) is) refl

-- ---- what is known of names

pub others_both : (ls more : List Look) (name : List ℕ) → HaveNoLookAt ls name → HaveNoLookAt more name → HaveNoLookAt (ls ++ more) name
others_both [] more name a b = b
others_both (l ∷ ls) more name a b = (a.0, others_both ls more name a.1 b)

others_one : (name : List ℕ) (most : ℕ) (more : List Look) (q : List ℕ) → IsAtMost name most more → bytes_eq q name ≡ false → HaveNoLookAt more q
others_one name most more q (inl is) e = subst (λ ls. HaveNoLookAt ls q) (sym is) tt
others_one name most more q (inr one) e = subst (λ ls. HaveNoLookAt ls q) (sym one.1) (e, tt)

-- after one file
pub first_known : (name : List ℕ) (most : ℕ) (bytes : List ℕ) → AreKnown (look name most (Ok (whole bytes)) ∷ []) ((name, bytes) ∷ [])
first_known name most bytes q = by (bytes_eq q name) refl
  where
    by : (b : Bool) → bytes_eq q name ≡ b → IsKnown (look name most (Ok (whole bytes)) ∷ []) q (if b then Some bytes else None)
    by true e = λ m s. ap (get m) ((bytes_eq-Decides q name).0 e) ∙ whole_found most bytes (get m name) s.0
    by false e = (e, tt)

-- after one more
pub known_too : (looks : List Look) (found : Files) (name : List ℕ) (most : ℕ) (bytes : List ℕ) (held : Option Store) (old new : History) (s : SeenAfter looks name most (Ok (whole bytes)) held old new)
    → AreKnown looks found → AreKnown (looks ++ s.more) ((name, bytes) ∷ found)
known_too looks found name most bytes held old new s known_before q = by (bytes_eq q name) refl
  where
    by_other : (o : Option (List ℕ)) → IsKnown looks q o → bytes_eq q name ≡ false → IsKnown (looks ++ s.more) q o
    by_other (Some b) h e = λ m t. h m (s.shows m t).0
    by_other None h e = others_both looks s.more q h (others_one name most s.more q s.one e)

    by : (b : Bool) → bytes_eq q name ≡ b → IsKnown (looks ++ s.more) q (if b then Some bytes else find_bytes q found)
    by true e = λ m t. ap (get m) ((bytes_eq-Decides q name).0 e) ∙ whole_found most bytes (get m name) (s.shows m t).1
    by false e = by_other (find_bytes q found) (known_before q) e

-- after the files of a policy
pub policy_known : (policy document : List ℕ) (found : Files) → AreKnown (policy_looks policy document found) ((policy, document) ∷ found)
policy_known policy document found q = by (bytes_eq q policy) refl
  where
    by_component : (o : Option (List ℕ)) → find_bytes q found ≡ o → bytes_eq q policy ≡ false → IsKnown (policy_looks policy document found) q o
    by_component (Some bytes) is e = λ m s. whole_found COMPONENT_FILE_MOST bytes (get m q) (shown_among m found q bytes s.1 is)
    by_component None is e = (e, others_found found q is)

    by : (b : Bool) → bytes_eq q policy ≡ b → IsKnown (policy_looks policy document found) q (if b then Some document else find_bytes q found)
    by true e = λ m s. ap (get m) ((bytes_eq-Decides q policy).0 e) ∙ whole_found POLICY_MOST document (get m policy) s.0
    by false e = by_component (find_bytes q found) refl e
