-- Lines by numbers.
use Rattle.std.proofs.Common.{◌≡◌, ◌∙◌, ℕ, suc, ◌+◌, ◌<◌, List, [], ◌∷◌, ◌++◌, Option, Some, None, Result, IsErr, refl, sym, ap, arith, add-one, append-nil}
use Rattle.std.specs.Prelude.{option_map, slice_get, unwrap_or}
use Rattle.std.specs.List.{flat_map}
use Rattle.std.proofs.lemmas.Grind.{flat_map-append}
use Rattle.std.proofs.lemmas.Option.{none-some}
use Rattle.muen_num.specs.Range.{numbers_below}
use Rattle.ept_walk.specs.Memory.{Page}
use Rattle.view_text.specs.StatePage.{state_in}
use Rattle.view_text.specs.state.SubjectState.{SubjectState}
use Rattle.view_text.specs.ViewText.{rows_text}
use Rattle.image_pack.specs.declared.parts.SubjectPart.{SubjectPart}
use Rattle.kernel_core.specs.Machine.{page_bytes_at}
use Rattle.kernel_core.specs.Control.{Control}
use Rattle.kernel_core.specs.declared.setup.Setup.{Setup}
use Rattle.muen_run.specs.RunText.{bytes_from, numbered_subject_text, machine_subject_text}
use Rattle.muen_outside.specs.Buffered.{OutState, Given, Lost, Gives}
use Rattle.muen_outside.proofs.Buffered.{given_step, step_exit}

-- the texts of the numbers below a bound, and one more
grows : (f : ℕ → List ℕ) (end n : ℕ) → n < end → flat_map f (numbers_below (suc n)) ≡ flat_map f (numbers_below n) ++ f n
grows f end n h = flat_map-append f (numbers_below n) (n ∷ []) ∙ ap (λ x. flat_map f (numbers_below n) ++ x) (append-nil (f n))

pub given_number : (f : ℕ → List ℕ) (n : ℕ) (s t u : OutState) → Given (flat_map f (numbers_below n)) s t → Given (f n) t u → Given (flat_map f (numbers_below (n + 1))) s u
given_number f n s t u before here = given_step (λ n. flat_map f (numbers_below n)) f (suc n) (grows f (suc n)) n (f n) s t u (omega arith) refl before here

pub number_exit : {E : Type 0} (f : ℕ → List ℕ) (n end : ℕ) (s t u : OutState) (r : Result (Unit {0}) E) → IsErr r → n < end → Given (flat_map f (numbers_below n)) s t → Lost (f n) t u → Gives (flat_map f (numbers_below end)) s u r
number_exit f n end s t u r err l before here = step_exit (λ n. flat_map f (numbers_below n)) f end (grows f end) n (f n) s t u r err l refl before here

pub ruleset numbered = (given_number)

-- ---- one page more

pub one_page : (pages : List Page) (first n : ℕ) (bytes : List ℕ) → bytes ≡ page_bytes_at pages (first + n) → bytes_from pages first n ++ bytes ≡ bytes_from pages first (n + 1)
one_page pages first n bytes is =
    ap (λ b. bytes_from pages first n ++ b) is
    ∙ sym (grows (λ j. page_bytes_at pages (first + j)) (suc n) n (omega arith))
    ∙ ap (bytes_from pages first) (sym (add-one n))

-- ---- the lines of the subject with a number

by_parts : (pages : List Page) (o : Option SubjectPart) (p : Option Control) → None ≡ option_map (λ s. s.name) o → machine_subject_text pages o p ≡ []
by_parts pages None p e = refl
by_parts pages (Some s) p e = absurd (none-some s.name e)

pub no_name : (setup : Setup) (pages : List Page) (n : ℕ) → None ≡ option_map (λ s. s.name) (slice_get setup.subjects n) → [] ≡ numbered_subject_text setup pages n
no_name setup pages n is = sym (by_parts pages (slice_get setup.subjects n) (slice_get setup.controls n) is)

-- the state of a state page
abbrev pub page_state : List Page → Control → SubjectState
page_state pages c = state_in (page_bytes_at pages c.state)

by_control : (pages : List Page) (o : Option SubjectPart) (p : Option Control) → None ≡ option_map (page_state pages) p → machine_subject_text pages o p ≡ []
by_control pages None p e = refl
by_control pages (Some s) None e = refl
by_control pages (Some s) (Some c) e = absurd (none-some (page_state pages c) e)

pub no_state : (setup : Setup) (pages : List Page) (n : ℕ) → None ≡ option_map (page_state pages) (slice_get setup.controls n) → [] ≡ numbered_subject_text setup pages n
no_state setup pages n is = sym (by_control pages (slice_get setup.subjects n) (slice_get setup.controls n) is)

by_both : (pages : List Page) (o : Option SubjectPart) (p : Option Control) (name : List ℕ) (st : SubjectState) → Some name ≡ option_map (λ s. s.name) o → Some st ≡ option_map (page_state pages) p → rows_text name st ≡ machine_subject_text pages o p
by_both pages None p name st e h = absurd (none-some name (sym e))
by_both pages (Some s) None name st e h = absurd (none-some st (sym h))
by_both pages (Some s) (Some c) name st e h = λ i. rows_text (ap (λ o. unwrap_or o name) e i) (ap (λ o. unwrap_or o st) h i)

pub state_told : (setup : Setup) (pages : List Page) (n : ℕ) (name : List ℕ) (st : SubjectState) → Some name ≡ option_map (λ s. s.name) (slice_get setup.subjects n) → Some st ≡ option_map (page_state pages) (slice_get setup.controls n) → rows_text name st ≡ numbered_subject_text setup pages n
state_told setup pages n name st e h = by_both pages (slice_get setup.subjects n) (slice_get setup.controls n) name st e h
