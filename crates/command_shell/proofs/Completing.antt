-- A call in which nothing fails does the whole of its answer.
use Rattle.std.proofs.Common.{◌≡◌, ◌≢◌, ◌⊎◌, inl, inr, ℕ, List, [], ◌∷◌, ◌++◌, length, drop, Option, Some, None, Result, Ok, Err, refl, sym, ap, subst, ◌∙◌, append-nil, append_assoc, arith}
use Rattle.std.specs.FinMap.{get}
use Rattle.std.specs.List.{All, AllByRecursion}
use Rattle.std.proofs.lemmas.List.Elements.{All-head, recursion_from_All}
use Rattle.std.proofs.Math.Seq.{drop-append_seam}
use Rattle.muen_outside.specs.Looks.{ShowAll, looks_since, writes_since}
use Rattle.muen_outside.specs.Puts.{Appended}
use Rattle.muen_outside.specs.States.{History, Look, Write, look, looked, write}
use Rattle.muen_outside.specs.Store.{Reading, Store, absent, long, reading_of, whole}
use Rattle.muen_outside.specs.declared.files.FileError.{FileError}
use Rattle.muen_outside.specs.declared.files.FileError.TheVariants.{Failed as FilesFailed, NoMemory as FilesMemory}
use Rattle.command_shell.specs.Answers.{Answer, Plan, prints, writes, refuses, answers, looks_at, takes_memory}
use Rattle.command_shell.specs.Calls.{Comes, Does, DoesOrNot, Ends, IsCallOf, LacksMemory, PutsAll, PutsFront, Runs, Stops, WriteEnds}
use Rattle.command_shell.specs.Complete.{Answered, AnsweredBy, Follows, IsComplete, IsRefused, IsWhole, NothingFails}
use Rattle.command_shell.specs.Texts.{Told, error_line}
use Rattle.command_shell.specs.declared.status.Status.{Status}
use Rattle.command_shell.specs.declared.status.Status.TheVariants as statuses

-- what stands behind the front of a list
pub behind : {A : Type 0} (front more all : List A) → all ≡ front ++ more → drop (length front) all ≡ more
behind front more all is = ap (drop (length front)) is ∙ drop-append_seam front more

pub nothing_behind : {A : Type 0} (front all : List A) → all ≡ front → drop (length front) all ≡ []
nothing_behind front all is = behind front [] all (is ∙ sym (append-nil front))

module _ {O : Type 0} (program : List ℕ) (e : Ends O) (puts : e.out'.faults ≡ e.out.faults) (lines : e.err'.faults ≡ e.err.faults) (ends : All (λ w. w.end ≢ Err FilesFailed) (writes_since e.before e.after)) where
  -- memory was refused, or this
  abbrev pub OrNoMemory : Type 0 → Type 0
  OrNoMemory P = (e.status ≡ statuses.NoMemory) ⊎ P

  -- ---- what is done, where nothing fails

  -- the line is put as a whole
  told_all : (text : List ℕ) → Told program text e.err e.err' → Appended (error_line program text) e.err e.err'
  told_all text (inl a) = a
  told_all text (inr f) = absurd (omega (arith, ap (λ s. s.faults) f.state, lines))

  pub refused : (status : Status O) (text : List ℕ) → e.after.writes ≡ e.before.writes → Stops program e status text → IsRefused program e status text
  refused status text none s = record { ended = s.ended; unwritten = nothing_behind e.before.writes e.after.writes none; quiet = s.quiet; told = told_all text s.told }

  printed : (text : List ℕ) → e.after.writes ≡ e.before.writes → PutsAll e text ⊎ PutsFront program e text → OrNoMemory (IsWhole program e (prints text))
  printed text none (inl p) = inr (record { ended = p.ended; unwritten = nothing_behind e.before.writes e.after.writes none; put = p.put; quiet = p.quiet })
  printed text none (inr p) = absurd (omega (arith, ap (λ s. s.faults) p.put.state, puts))

  wrote : (name bytes : List ℕ) (end : Result (Unit {0}) FileError) → writes_since e.before e.after ≡ write name bytes end ∷ [] → WriteEnds program e end → OrNoMemory (IsWhole program e (writes name bytes))
  wrote name bytes (Ok u) one w = inr (record { ended = w.0; wrote = one; quiet = w.1; silent = w.2 })
  wrote name bytes (Err FilesFailed) one w =
      absurd (All-head (λ (x : Write). x.end ≢ Err FilesFailed) (write name bytes (Err FilesFailed)) [] (subst (All (λ w. w.end ≢ Err FilesFailed)) one ends) refl)
  wrote name bytes (Err FilesMemory) one w = inl w.ended

  -- behind looks, so far nothing is written
  module _ (seen : History) (unwritten : seen.writes ≡ e.before.writes) where
    does_whole : (answer : Answer O) → Does program e seen answer → OrNoMemory (IsWhole program e answer)
    does_whole (prints text) d = printed text (ap (λ h. h.writes) d.0 ∙ unwritten) d.1
    does_whole (writes name bytes) d =
        let all : e.after.writes ≡ e.before.writes ++ write name bytes d.0 ∷ [] = ap (λ h. h.writes) d.1 ∙ ap (λ ws. ws ++ write name bytes d.0 ∷ []) unwritten in
        wrote name bytes d.0 (behind e.before.writes (write name bytes d.0 ∷ []) e.after.writes all) d.2
    does_whole (refuses status text) d = inr (refused status text (ap (λ h. h.writes) d.0 ∙ unwritten) d.1)

    -- a file isn't read
    pub unread : (status : Status O) (text : List ℕ) → (e.after ≡ seen) × Stops program e status text → IsRefused program e status text
    unread status text h = refused status text (ap (λ h. h.writes) h.0 ∙ unwritten) h.1

    or_not : (answer : Answer O) → DoesOrNot program e seen answer → OrNoMemory (IsWhole program e answer)
    or_not answer (inl d) = does_whole answer d
    or_not answer (inr n) = inl n.1.ended

  -- what is answered ends with the looks so far
  does_looks : (seen : History) (answer : Answer O) → DoesOrNot program e seen answer → e.after.looks ≡ seen.looks
  does_looks seen (prints text) (inl d) = ap (λ h. h.looks) d.0
  does_looks seen (writes name bytes) (inl d) = ap (λ h. h.looks) d.1
  does_looks seen (refuses status text) (inl d) = ap (λ h. h.looks) d.0
  does_looks seen answer (inr n) = ap (λ h. h.looks) n.0

  -- ---- of a plan

  -- the looks that the rest of a call has made, and that it does the whole of its plan where none of them has failed
  pub record Ran (plan : Plan O) (before : History) : Type 0 where
    pub more : List Look
    pub looks : e.after.looks ≡ before.looks ++ more
    pub whole : AllByRecursion (λ l. l.got ≢ Err FilesFailed) more → OrNoMemory ((m : Store) → ShowAll m more → AnsweredBy m program e plan)

  answered : (answer : Answer O) (before : History) → before.writes ≡ e.before.writes → DoesOrNot program e before answer → Ran (answers answer) before
  answered answer before unwritten d = record {
    more = [];
    looks = does_looks before answer d ∙ sym (append-nil before.looks);
    whole = λ none. elim (or_not before unwritten answer d) [ inl short ↦ inl short | inr all ↦ inr (λ m shown. all) ];
  }

  module _ (name : List ℕ) (most : ℕ) (next : List ℕ → Plan O) (before : History) (unwritten : before.writes ≡ e.before.writes) where
    abbrev this : Result Reading FileError → Look
    this got = look name most got

    abbrev Goes : Reading → Type 0
    Goes reading = (m : Store) → reading_of (get m name) most ≡ reading → AnsweredBy m program e (looks_at name most next)

    -- it has no bytes
    none_there : (reading : Reading) (status : Status O) (text : List ℕ) → (e.after ≡ looked before (this (Ok reading) ∷ [])) × Stops program e status text
        → (IsRefused program e status text → Goes reading) → Ran (looks_at name most next) before
    none_there reading status text h so = record {
      more = this (Ok reading) ∷ [];
      looks = ap (λ x. x.looks) h.0;
      whole = λ none. inr (λ m shown. so (unread (looked before (this (Ok reading) ∷ [])) unwritten status text h) m shown.0);
    }

    after_look : (got : Result Reading FileError) → Comes program e name (λ bytes. Runs program e (next bytes) (looked before (this got ∷ []))) (looked before (this got ∷ [])) got
        → ((bytes : List ℕ) → Runs program e (next bytes) (looked before (this (Ok (whole bytes)) ∷ [])) → Ran (next bytes) (looked before (this (Ok (whole bytes)) ∷ [])))
        → Ran (looks_at name most next) before
    after_look (Ok (whole bytes)) comes rest =
        let r = rest bytes comes in
        record {
          more = this (Ok (whole bytes)) ∷ r.more;
          looks = r.looks ∙ append_assoc before.looks (this (Ok (whole bytes)) ∷ []) r.more;
          whole = λ none.
              elim (r.whole none.1) [
                | inl short ↦ inl short
                | inr all ↦
                    inr (λ m shown. subst (Follows program e name (λ x. AnsweredBy m program e (next x))) (sym shown.0) (all m shown.1))
              ];
        }
    after_look (Ok absent) comes rest =
        none_there absent statuses.FileMissing _ comes (λ told m shows. subst (Follows program e name (λ x. AnsweredBy m program e (next x))) (sym shows) told)
    after_look (Ok (long n)) comes rest =
        none_there (long n) statuses.FileMissing _ comes (λ told m shows. subst (Follows program e name (λ x. AnsweredBy m program e (next x))) (sym shows) told)
    after_look (Err FilesFailed) comes rest =
        record { more = this (Err FilesFailed) ∷ []; looks = ap (λ x. x.looks) comes.0; whole = λ none. absurd (none.0 refl) }
    after_look (Err FilesMemory) comes rest =
        record { more = this (Err FilesMemory) ∷ []; looks = ap (λ x. x.looks) comes.0; whole = λ none. inl comes.1.ended }

  -- memory was asked for
  in_memory : (plan : Plan O) (before : History) → (Runs program e plan before → Ran plan before) → Runs program e plan before ⊎ LacksMemory program e before → Ran (takes_memory plan) before
  in_memory plan before rest (inl runs) = let r = rest runs in record { more = r.more; looks = r.looks; whole = r.whole }
  in_memory plan before rest (inr n) = record { more = []; looks = ap (λ h. h.looks) n.0 ∙ sym (append-nil before.looks); whole = λ none. inl n.1.ended }

  pub ran : (plan : Plan O) (before : History) → before.writes ≡ e.before.writes → Runs program e plan before → Ran plan before
  ran (answers answer) before unwritten d = answered answer before unwritten d
  ran (looks_at name most next) before unwritten h =
      after_look name most next before unwritten h.0 h.2 (λ bytes runs. ran (next bytes) (looked before (look name most (Ok (whole bytes)) ∷ [])) unwritten runs)
  ran (takes_memory plan) before unwritten h = in_memory plan before (λ runs. ran plan before unwritten runs) h

-- ---- a call

module _ {O : Type 0} (program usage : List ℕ) (e : Ends O) (well : NothingFails e) where
  pub whole_call : (plan : Option (Plan O)) → IsCallOf program usage plan e
      → (e.status ≡ statuses.NoMemory) ⊎ ((m : Store) → ShowAll m (looks_since e.before e.after) → Answered m program usage e plan)
  whole_call None h = let told = unread program e well.puts well.lines well.writes e.before refl statuses.Usage _ h in inr (λ m shown. told)
  whole_call (Some plan) h =
      let r = ran program e well.puts well.lines well.writes plan e.before refl h in
      let made : looks_since e.before e.after ≡ r.more = behind e.before.looks r.more e.after.looks r.looks in
      elim (r.whole (recursion_from_All (λ (l : Look). l.got ≢ Err FilesFailed) r.more (subst (All (λ l. l.got ≢ Err FilesFailed)) made well.looks))) [
        | inl short ↦ inl short
        | inr all ↦ inr (λ m shown. all m (subst (ShowAll m) made shown))
      ]

pub complete : {O : Type 0} (program usage : List ℕ) (plan : Option (Plan O)) (e : Ends O) → IsCallOf program usage plan e → IsComplete program usage plan e
complete program usage plan e h well = whole_call program usage e well plan h
