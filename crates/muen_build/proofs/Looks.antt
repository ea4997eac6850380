-- Looks, one after another.
use Rattle.std.proofs.Common.{◌≡◌, inl, inr, ℕ, false, List, [], ◌∷◌, ◌++◌, Option, Some, None, IfSome, sym, ap, subst, ◌∙◌, append-nil, append_assoc}
use Rattle.std.specs.Str.{bytes_eq}
use Rattle.muen_outside.proofs.Histories.{no_look}
use Rattle.muen_outside.specs.Looks.{HaveNoLookAt, AreSingle, IsPossibleEnd, ShowAll, Shows}
use Rattle.muen_outside.specs.States.{History, Look, looked}
use Rattle.muen_outside.specs.Store.{Store}
use Rattle.muen_outside.proofs.Explained.{told_none}
use Rattle.policy_lawful.specs.refusal.Refusal.{Refusal}
use Rattle.muen_build.specs.Accepting.{AreAskedInTurn, ErrorSays, Files, Grows, StopsAfterLooks, WithGiven}
use Rattle.muen_build.specs.declared.accepted.BuildError.{BuildError}
use Rattle.muen_build.specs.declared.accepted.BuildError.TheVariants.{FileFault, Refused}
use Rattle.muen_num.proofs.Lookups.{other_way}

-- ---- files and looks

pub show_front : (files : Store) (ls more : List Look) → ShowAll files (ls ++ more) → ShowAll files ls
show_front files [] more h = tt
show_front files (l ∷ ls) more h = (h.0, show_front files ls more h.1)

pub show_last : (files : Store) (ls : List Look) (l : Look) → ShowAll files (ls ++ l ∷ []) → Shows files l
show_last files [] l h = h.0
show_last files (k ∷ ks) l h = show_last files ks l h.1

pub show_both : (files : Store) (ls more : List Look) → ShowAll files ls → ShowAll files more → ShowAll files (ls ++ more)
show_both files [] more h k = k
show_both files (l ∷ ls) more h k = (h.0, show_both files ls more h.1 k)

pub told_both : (held : Option Store) (ls more : List Look) → IfSome held (λ m. ShowAll m ls) → IfSome held (λ m. ShowAll m more) → IfSome held (λ m. ShowAll m (ls ++ more))
told_both None ls more h k = tt
told_both (Some m) ls more h k = show_both m ls more h k

pub told_one : (held : Option Store) (l : Look) → IfSome held (λ m. Shows m l) → IfSome held (λ m. ShowAll m (l ∷ []))
told_one None l h = tt
told_one (Some m) l h = (h, tt)

-- ---- one look more

pub others_push : (ls : List Look) (name : List ℕ) (l : Look) → HaveNoLookAt ls name → bytes_eq name l.name ≡ false → HaveNoLookAt (ls ++ l ∷ []) name
others_push [] name l others ne = (ne, tt)
others_push (k ∷ ks) name l others ne = (others.0, others_push ks name l others.1 ne)

pub single_push : (ls : List Look) (l : Look) → AreSingle ls → IsPossibleEnd l.most l.got → HaveNoLookAt ls l.name → AreSingle (ls ++ l ∷ [])
single_push [] l single possible others = (possible, tt, tt)
single_push (k ∷ ks) l single possible others =
    (single.0, others_push ks k.name l single.1 (other_way l.name k.name others.0), single_push ks l single.2 possible others.1)

-- ---- looks that are asked for in turn

pub in_turn_both : (Asked : List Look → Look → Type 0) (a ls more : List Look) → AreAskedInTurn Asked a ls → AreAskedInTurn Asked (a ++ ls) more → AreAskedInTurn Asked a (ls ++ more)
in_turn_both Asked a [] more h k = subst (λ b. AreAskedInTurn Asked b more) (append-nil a) k
in_turn_both Asked a (l ∷ ls) more h k = (h.0, in_turn_both Asked (a ++ l ∷ []) ls more h.1 (subst (λ b. AreAskedInTurn Asked b more) (sym (append_assoc a (l ∷ []) ls)) k))

-- what is asked for after looks with which all agree that agree with these
pub in_turn_so : (Asked Asked' : List Look → Look → Type 0) (a before : List Look) → ((m : Store) → ShowAll m before → ShowAll m a)
    → ((b : List Look) (l : Look) → ((m : Store) → ShowAll m b → ShowAll m a) → Asked b l → Asked' b l) → (ls : List Look) → AreAskedInTurn Asked before ls → AreAskedInTurn Asked' before ls
in_turn_so Asked Asked' a before shows so [] h = tt
in_turn_so Asked Asked' a before shows so (l ∷ ls) h =
    (so before l shows h.0, in_turn_so Asked Asked' a (before ++ l ∷ []) (λ m s. shows m (show_front m before (l ∷ []) s)) so ls h.1)

-- ---- looks that grow

pub looked_both : (h : History) (ls more : List Look) → looked (looked h ls) more ≡ looked h (ls ++ more)
looked_both h ls more = ap (λ looks. record { looks = looks; writes = h.writes }) (append_assoc h.looks ls more)

pub grows_not : (given : Files) (Asked : List Look → Look → Type 0) (held : Option Store) (h : History) (a : List Look) → Grows given Asked held h h a a
grows_not given Asked held h a = record {
  more = [];
  grown = sym (append-nil a);
  history = no_look h;
  told = told_none held;
  asked = tt;
  single = λ s. s;
  others = λ name bytes is s. s;
}

pub grows_on : (given : Files) (Asked : List Look → Look → Type 0) (held held' : Option Store) (old mid new : History) (a b c : List Look)
    → held' ≡ held → Grows given Asked held old mid a b → Grows given Asked held' mid new b c → Grows given Asked held old new a c
grows_on given Asked held held' old mid new a b c same f g = record {
  more = f.more ++ g.more;
  grown = g.grown ∙ ap (λ looks. looks ++ g.more) f.grown ∙ append_assoc a f.more g.more;
  history = g.history ∙ ap (λ h. looked h g.more) f.history ∙ looked_both old f.more g.more;
  told = told_both held f.more g.more f.told (subst (λ h. IfSome h (λ m. ShowAll m g.more)) same g.told);
  asked = in_turn_both Asked a f.more g.more f.asked (subst (λ looks. AreAskedInTurn Asked looks g.more) f.grown g.asked);
  single = λ s. g.single (f.single s);
  others = λ name bytes is s. g.others name bytes is (f.others name bytes is s);
}

-- what is asked for is so too
pub grows_so : (given : Files) (Asked Asked' : List Look → Look → Type 0) (held : Option Store) (old new : History) (a b : List Look)
    → ((c : List Look) (l : Look) → ((m : Store) → ShowAll m c → ShowAll m a) → Asked c l → Asked' c l) → Grows given Asked held old new a b → Grows given Asked' held old new a b
grows_so given Asked Asked' held old new a b so g = record {
  more = g.more;
  grown = g.grown;
  history = g.history;
  told = g.told;
  asked = in_turn_so Asked Asked' a a (λ m s. s) so g.more g.asked;
  single = g.single;
  others = g.others;
}

pub grows_shows : (given : Files) (Asked : List Look → Look → Type 0) (held : Option Store) (old new : History) (a b : List Look) → Grows given Asked held old new a b → (files : Store) → ShowAll files b → ShowAll files a
grows_shows given Asked held old new a b g files s = show_front files a g.more (subst (ShowAll files) g.grown s)

-- ---- how it fails

says_so : (given : Files) (looks : List Look) (Refuses Refuses' : Store → Refusal → Type 0) (error : BuildError)
    → ((r : Refusal) → WithGiven given looks (λ files. Refuses files r) → WithGiven given looks (λ files. Refuses' files r))
    → ErrorSays given Refuses looks error → ErrorSays given Refuses' looks error
says_so given looks Refuses Refuses' (Refused r) so (inl is) = inl is
says_so given looks Refuses Refuses' (Refused r) so (inr e) = inr (so r e)
says_so given looks Refuses Refuses' FileFault so e = e

module _ (given : Files) where
  -- told from an earlier look on
  pub stops_from : (Asked : List Look → Look → Type 0) (held held' : Option Store) (old mid new : History) (a b : List Look) (Refuses : Store → Refusal → Type 0) (error : BuildError)
      → held' ≡ held → Grows given Asked held old mid a b → StopsAfterLooks given Asked held' mid new b Refuses error → StopsAfterLooks given Asked held old new a Refuses error
  stops_from Asked held held' old mid new a b Refuses error same g e = record {
    after = e.after;
    grows = grows_on given Asked held held' old mid new a b e.after same g e.grows;
    says = e.says;
  }

  -- where what is asked for is so too
  pub stops_so : (Asked Asked' : List Look → Look → Type 0) (held : Option Store) (old new : History) (a : List Look) (Refuses Refuses' : Store → Refusal → Type 0) (error : BuildError)
      → ((c : List Look) (l : Look) → ((m : Store) → ShowAll m c → ShowAll m a) → Asked c l → Asked' c l)
      → ((r : Refusal) (looks : List Look) → ((files : Store) → ShowAll files looks → ShowAll files a) → WithGiven given looks (λ files. Refuses files r) → WithGiven given looks (λ files. Refuses' files r))
      → StopsAfterLooks given Asked held old new a Refuses error → StopsAfterLooks given Asked' held old new a Refuses' error
  stops_so Asked Asked' held old new a Refuses Refuses' error among so e = record {
    after = e.after;
    grows = grows_so given Asked Asked' held old new a e.after among e.grows;
    says = says_so given e.after Refuses Refuses' error (λ r. so r e.after (grows_shows given Asked held old new a e.after e.grows)) e.says;
  }

  -- with no look more
  pub stops_here : (Asked : List Look → Look → Type 0) (held : Option Store) (h : History) (a : List Look) (Refuses : Store → Refusal → Type 0) (r : Refusal)
      → WithGiven given a (λ files. Refuses files r) → StopsAfterLooks given Asked held h h a Refuses (Refused r)
  stops_here Asked held h a Refuses r so = record { after = a; grows = grows_not given Asked held h a; says = inr so }
