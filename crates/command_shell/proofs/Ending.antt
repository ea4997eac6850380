-- What comes of a command whose files were looked at.
use Rattle.std.proofs.Common.{◌≡◌, inl, inr, ℕ, List, [], ◌∷◌, ◌++◌, Option, Some, None, IfSome, Result, Ok, Err, refl, sym, ap, subst, ◌∙◌, append-nil, append_assoc}
use Rattle.std.proofs.Math.Seq.{drop-append_seam}
use Rattle.muen_outside.specs.Looks.{HeldAfter, ShowAll, WriteLeaves, looks_since, writes_since}
use Rattle.muen_outside.specs.States.{History, Look, SinkState, Write, look, looked, went, write, written}
use Rattle.muen_outside.specs.Store.{Reading, Store, absent, long, whole}
use Rattle.muen_outside.specs.declared.files.FileError.{FileError}
use Rattle.muen_outside.specs.declared.files.FileError.TheVariants.{Failed as FilesFailed, NoMemory as FilesMemory}
use Rattle.muen_outside.proofs.Explained.{told_none}
use Rattle.command_shell.specs.Answers.{Answer, Plan, prints, writes, refuses, answers, looks_at, takes_memory}
use Rattle.command_shell.specs.Calls.{DoesOrNot, Ends, IsCallOf, Runs, Stops, WriteEnds}
use Rattle.command_shell.specs.Errors.{Reported, Telling, error_status, error_text, status_of}
use Rattle.command_shell.specs.Outcomes.{ComesOf, ComesTo, PutsTo, Reaches, StopsAt, ends_with}
use Rattle.command_shell.specs.Reads.{NotRead, Saw, Wrote, WritesTo}
use Rattle.command_shell.specs.Texts.{missing_text, too_long_text}
use Rattle.command_shell.specs.declared.error.CommandError.{CommandError}
use Rattle.command_shell.specs.declared.error.CommandError.TheVariants.{Usage, Missing, TooLong, FileFault, OutputFault, NoMemory, Own}
use Rattle.command_shell.specs.declared.status.Status.{Status}
use Rattle.command_shell.specs.declared.status.Status.TheVariants as statuses

-- ---- looks

-- one look, and then these
looked_then : (old mid new : History) (l : Look) (looks : List Look) → mid ≡ looked old (l ∷ []) → new ≡ looked mid looks → new ≡ looked old (l ∷ looks)
looked_then old mid new l looks first more =
    more ∙ ap (λ h. looked h looks) first ∙ ap (λ ls. record { looks = ls; writes = old.writes }) (append_assoc old.looks (l ∷ []) looks)

told_then : (held : Option Store) (l : Look) (looks : List Look) → IfSome held (λ m. ShowAll m (l ∷ [])) → IfSome held (λ m. ShowAll m looks) → IfSome held (λ m. ShowAll m (l ∷ looks))
told_then None l looks x y = tt
told_then (Some m) l looks x y = (x.0, y)

module _ {O : Type 0} (program : List ℕ) (held : Option Store) where
  -- a plan goes on as itself
  pub reaches_itself : (plan : Plan O) (old : History) → Reaches program plan plan held old old
  reaches_itself plan old = record { looks = []; history = ap (λ ls. record { looks = ls; writes = old.writes }) (sym (append-nil old.looks)); told = told_none held; goes = λ e runs. runs }

  module _ (name : List ℕ) (most : ℕ) (next : List ℕ → Plan O) (old mid new : History) (bytes : List ℕ) (saw : Saw name most (Ok (whole bytes)) held old mid) where
    abbrev this : Look
    this = look name most (Ok (whole bytes))

    goes_on : (e : Ends O) → Runs program e (next bytes) mid → Runs program e (looks_at name most next) old
    goes_on e runs = (Ok (whole bytes), saw.possible, subst (λ h. Runs program e (next bytes) h) saw.history runs)

    -- a file was read, and the plan went on behind it
    pub reaches_then : (rest : Plan O) → Reaches program (next bytes) rest held mid new → Reaches program (looks_at name most next) rest held old new
    reaches_then rest r = record {
      looks = this ∷ r.looks;
      history = looked_then old mid new this r.looks saw.history r.history;
      told = told_then held this r.looks saw.told r.told;
      goes = λ e runs. goes_on e (r.goes e runs);
    }

    -- .. or it ended there
    pub stops_then : {R : Type 0} (t : Telling R O) → t.name ≡ program → (error : CommandError R) → StopsAt t (next bytes) held mid new error → StopsAt t (looks_at name most next) held old new error
    stops_then t is error s = record {
      looks = this ∷ s.looks;
      history = looked_then old mid new this s.looks saw.history s.history;
      told = told_then held this s.looks saw.told s.told;
      comes = λ e after stops.
          subst (λ p. Runs p e (looks_at name most next) old) (sym is) (goes_on e (subst (λ p. Runs p e (next bytes) mid) is (s.comes e after stops)));
    }

-- a file was read
pub reaches_next : {O : Type 0} (program : List ℕ) (held : Option Store) (name : List ℕ) (most : ℕ) (next : List ℕ → Plan O) (old new : History) (bytes : List ℕ)
    → Saw name most (Ok (whole bytes)) held old new → Reaches program (looks_at name most next) (next bytes) held old new
reaches_next program held name most next old new bytes saw =
    reaches_then program held name most next old new new bytes saw (next bytes) (reaches_itself program held (next bytes) new)

-- ---- one plan behind another

-- these looks, and then those
pub looked_more : (old mid new : History) (ls more : List Look) → mid ≡ looked old ls → new ≡ looked mid more → new ≡ looked old (ls ++ more)
looked_more old mid new ls more first then =
    then ∙ ap (λ h. looked h more) first ∙ ap (λ x. record { looks = x; writes = old.writes }) (append_assoc old.looks ls more)

pub told_more : (held : Option Store) (ls more : List Look) → IfSome held (λ m. ShowAll m ls) → IfSome held (λ m. ShowAll m more) → IfSome held (λ m. ShowAll m (ls ++ more))
told_more held [] more a b = b
told_more held (l ∷ ls) more a b = told_then held l (ls ++ more) (told_first held a) (told_more held ls more (told_rest held a) b)
  where
    told_first : (held : Option Store) → IfSome held (λ m. ShowAll m (l ∷ ls)) → IfSome held (λ m. ShowAll m (l ∷ []))
    told_first None a = tt
    told_first (Some m) a = (a.0, tt)

    told_rest : (held : Option Store) → IfSome held (λ m. ShowAll m (l ∷ ls)) → IfSome held (λ m. ShowAll m ls)
    told_rest None a = tt
    told_rest (Some m) a = a.1

module _ {R O : Type 0} (t : Telling R O) (plan rest : Plan O) (held : Option Store) (old mid new : History) (r : Reaches t.name plan rest held old mid) where
  -- what goes on as another plan goes on as that one does
  pub reaches_behind : (last : Plan O) → Reaches t.name rest last held mid new → Reaches t.name plan last held old new
  reaches_behind last b = record {
    looks = r.looks ++ b.looks;
    history = looked_more old mid new r.looks b.looks r.history b.history;
    told = told_more held r.looks b.looks r.told b.told;
    goes = λ e runs. r.goes e (b.goes e runs);
  }

  -- .. and ends as that one does
  pub stops_behind : (error : CommandError R) → StopsAt t rest held mid new error → StopsAt t plan held old new error
  stops_behind error b = record {
    looks = r.looks ++ b.looks;
    history = looked_more old mid new r.looks b.looks r.history b.history;
    told = told_more held r.looks b.looks r.told b.told;
    comes = λ e after stops. r.goes e (b.comes e after stops);
  }

module _ {R O : Type 0} (t : Telling R O) (plan rest : Plan O) (held : Option Store) (old new : History) (r : Reaches t.name plan (takes_memory rest) held old new) where
  -- memory was there
  pub reaches_in_memory : Reaches t.name plan rest held old new
  reaches_in_memory = record { looks = r.looks; history = r.history; told = r.told; goes = λ e runs. r.goes e (inl runs) }

  -- .. or not
  pub without_room : StopsAt t plan held old new NoMemory
  without_room = record { looks = r.looks; history = r.history; told = r.told; comes = λ e after stops. r.goes e (inr (after, stops)) }

-- ---- of a command

module _ {R O : Type 0} (t : Telling R O) where
  abbrev Outcome : Type 0
  Outcome = Result (Unit {0}) (CommandError R)

  -- ---- that ends for an error

  module _ (name : List ℕ) (most : ℕ) (next : List ℕ → Plan O) (held : Option Store) (old new : History) where
    one_look : (got : Result Reading FileError) (error : CommandError R) → Saw name most got held old new
        → ((e : Ends O) → e.after ≡ looked old (look name most got ∷ []) → Stops t.name e (error_status t.status error) (error_text t error) → Runs t.name e (looks_at name most next) old)
        → StopsAt t (looks_at name most next) held old new error
    one_look got error saw comes = record {
      looks = look name most got ∷ [];
      history = saw.history;
      told = saw.told;
      comes = λ e after stops. comes e (after ∙ saw.history) stops;
    }

    -- a file isn't read
    pub not_read : (error : CommandError R) → NotRead name most held old new error → StopsAt t (looks_at name most next) held old new error
    not_read (Missing n) h =
        one_look (Ok absent) (Missing n) h.1 (λ e after stops. (Ok absent, h.1.possible, (after, subst (λ x. Stops t.name e statuses.FileMissing (missing_text x)) h.0 stops)))
    not_read (TooLong n k) h =
        one_look (Ok (long k)) (TooLong n k) h.1 (λ e after stops. (Ok (long k), h.1.possible, (after, subst (λ x. Stops t.name e statuses.FileMissing (too_long_text x k)) h.0 stops)))
    not_read FileFault h = one_look (Err FilesFailed) FileFault h (λ e after stops. (Err FilesFailed, h.possible, (after, stops)))
    not_read NoMemory h = one_look (Err FilesMemory) NoMemory h (λ e after stops. (Err FilesMemory, h.possible, (after, stops)))
    not_read Usage h = absurd h
    not_read OutputFault h = absurd h
    not_read (Own reason) h = absurd h

  module _ (plan : Plan O) (held : Option Store) (old new : History) where
    -- what was asked for is refused
    pub refused : (status : Status O) (text : List ℕ) → Reaches t.name plan (answers (refuses status text)) held old new → (reason : R) → t.status reason ≡ status → t.text reason ≡ text → StopsAt t plan held old new (Own reason)
    refused status text r reason same says = record {
      looks = r.looks;
      history = r.history;
      told = r.told;
      comes = λ e after stops.
          r.goes e (inl (after, subst (λ x. Stops t.name e status x) says (subst (λ s. Stops t.name e s (t.text reason)) same stops)));
    }

    -- memory was refused for an answer
    pub without_memory : (answer : Answer O) → Reaches t.name plan (answers answer) held old new → StopsAt t plan held old new NoMemory
    without_memory answer r = record { looks = r.looks; history = r.history; told = r.told; comes = λ e after stops. r.goes e (inr (after, stops)) }

    module _ (held' : Option Store) (same : held' ≡ held) (out out' : SinkState) where
      -- nothing is written
      quietly : (looks : List Look) → new ≡ looked old looks → IfSome held (λ m. ShowAll m looks) → (outcome : Outcome)
          → ((err err' : SinkState) → Reported t err err' outcome → Runs t.name (ends_with t old new out out' outcome err err') plan old) → ComesTo t plan held held' old new out out' outcome
      quietly looks is told outcome comes = record {
        looks = looks;
        writes = [];
        history = is ∙ ap (λ ws. record { looks = old.looks ++ looks; writes = ws }) (sym (append-nil old.writes));
        told = told;
        left = same;
        comes = comes;
      }

      pub stopped : out' ≡ out → (error : CommandError R) → StopsAt t plan held old new error → ComesTo t plan held held' old new out out' (Err error)
      stopped quiet error s =
          quietly s.looks s.history s.told (Err error)
          (λ err err' told. s.comes (ends_with t old new out out' (Err error) err err') refl (record { ended = refl; quiet = quiet; told = told }))

      -- ---- that puts a text

      pub put_so : (text : List ℕ) (outcome : Outcome) → PutsTo text out out' outcome → (err err' : SinkState) → Reported t err err' outcome
          → DoesOrNot t.name (ends_with t old new out out' outcome err err') new (prints text)
      put_so text (Ok u) put err err' told = inl (refl, inl (record { ended = refl; put = put; quiet = told }))
      put_so text (Err OutputFault) put err err' told = inl (refl, inr (record { ended = refl; put = put; told = told }))
      put_so text (Err NoMemory) put err err' told = inr (refl, record { ended = refl; quiet = put; told = told })
      put_so text (Err Usage) put err err' told = absurd put
      put_so text (Err (Missing n)) put err err' told = absurd put
      put_so text (Err (TooLong n k)) put err err' told = absurd put
      put_so text (Err FileFault) put err err' told = absurd put
      put_so text (Err (Own reason)) put err err' told = absurd put

      pub printed : (text : List ℕ) → Reaches t.name plan (answers (prints text)) held old new → (outcome : Outcome) → PutsTo text out out' outcome → ComesTo t plan held held' old new out out' outcome
      printed text r outcome put =
          quietly r.looks r.history r.told outcome (λ err err' told. r.goes (ends_with t old new out out' outcome err err') (put_so text outcome put err err' told))

  -- ---- that writes

  module _ (plan : Plan O) (held mid_held held' : Option Store) (old mid new : History) (same : mid_held ≡ held) (out : SinkState) (name bytes : List ℕ) (r : Reaches t.name plan (answers (writes name bytes)) held old mid) where
    by_write : (end : Result (Unit {0}) FileError) (outcome : Outcome) → Wrote name bytes end mid_held held' mid new
        → ((err err' : SinkState) → Reported t err err' outcome → WriteEnds t.name (ends_with t old new out out outcome err err') end)
        → ComesTo t plan held held' old new out out outcome
    by_write end outcome w ends_so =
        let one = write name bytes end ∷ [] in
        record {
          looks = r.looks;
          writes = one;
          history = w.history ∙ ap (λ h. written h one) r.history;
          told = r.told;
          left = (held', subst (λ h. WriteLeaves name bytes end h held') same w.left, refl);
          comes = λ err err' told. r.goes (ends_with t old new out out outcome err err') (inl (end, w.history, ends_so err err' told));
        }

    pub wrote_so : (outcome : Outcome) → WritesTo name bytes mid_held held' mid new outcome → ComesTo t plan held held' old new out out outcome
    wrote_so (Ok u) w = by_write (Ok tt) (Ok u) w (λ err err' told. (refl, refl, told))
    wrote_so (Err FileFault) w = by_write (Err FilesFailed) (Err FileFault) w (λ err err' told. record { ended = refl; quiet = refl; told = told })
    wrote_so (Err NoMemory) w = by_write (Err FilesMemory) (Err NoMemory) w (λ err err' told. record { ended = refl; quiet = refl; told = told })
    wrote_so (Err Usage) w = absurd w
    wrote_so (Err (Missing n)) w = absurd w
    wrote_so (Err (TooLong n k)) w = absurd w
    wrote_so (Err OutputFault) w = absurd w
    wrote_so (Err (Own reason)) w = absurd w

  -- ---- of words

  module _ (held held' : Option Store) (old new : History) (out out' : SinkState) (outcome : Outcome) where
    pub called : (plan : Option (Plan O)) → ComesOf t plan held held' old new out out' outcome → (err err' : SinkState) → Reported t err err' outcome
        → IsCallOf t.name t.usage plan (ends_with t old new out out' outcome err err')
    called None u err err' told = (u.history, record { ended = ap (status_of t.status) u.is; quiet = u.quiet; told = subst (Reported t err err') u.is told })
    called (Some plan) p err err' told = p.comes err err' told

    pub looks_are : (looks : List Look) (ws : List Write) → new ≡ went old looks ws → looks_since old new ≡ looks
    looks_are looks ws is = ap (looks_since old) is ∙ drop-append_seam old.looks looks

    pub writes_are : (looks : List Look) (ws : List Write) → new ≡ went old looks ws → writes_since old new ≡ ws
    writes_are looks ws is = ap (writes_since old) is ∙ drop-append_seam old.writes ws

    nothing : new ≡ old → new ≡ went old [] []
    nothing is = is ∙ ap (λ ls. record { looks = ls; writes = old.writes }) (sym (append-nil old.looks)) ∙ ap (λ ws. record { looks = old.looks ++ []; writes = ws }) (sym (append-nil old.writes))

    pub agrees : (plan : Option (Plan O)) → ComesOf t plan held held' old new out out' outcome → IfSome held (λ m. ShowAll m (looks_since old new))
    agrees None u = subst (λ looks. IfSome held (λ m. ShowAll m looks)) (sym (looks_are [] [] (nothing u.history))) (told_none held)
    agrees (Some plan) p = subst (λ looks. IfSome held (λ m. ShowAll m looks)) (sym (looks_are p.looks p.writes p.history)) p.told

    pub held_so : (plan : Option (Plan O)) → ComesOf t plan held held' old new out out' outcome → HeldAfter (writes_since old new) held held'
    held_so None u = subst (λ ws. HeldAfter ws held held') (sym (writes_are [] [] (nothing u.history))) u.left
    held_so (Some plan) p = subst (λ ws. HeldAfter ws held held') (sym (writes_are p.looks p.writes p.history)) p.left
