-- The pages that are written when a subject leaves its CPU: its state page and that of its MSR area, and no other.
use Rattle.std.proofs.Common.{◌≡◌, ℕ, ◌+◌, ◌<◌, true, false, Some, List, refl, sym, ap, ◌∙◌, subst, inl, inr, arith}
use Rattle.std.specs.Prelude.{option_map, slice_get}
use Rattle.std.specs.List.{All}
use Rattle.std.proofs.lemmas.Bool.{cases_eq}
use Rattle.muen_num.specs.Range.{numbers_below}
use Rattle.machine_layout.specs.Memory.{Page, page_of, is_there, change}
use Rattle.machine_layout.proofs.PageLaws.{page_of-change_same, page_of-change_other, is_there-change}
use Rattle.policy_lawful.specs.Thing.{Thing}
use Rattle.policy_lawful.specs.source.Subject.{Subject}
use Rattle.muen_num.proofs.Options.{one_value}
use Rattle.subject_model.specs.StatePage.{page_bytes}
use Rattle.subject_model.specs.SubjectState.{SubjectState}
use Rattle.vmx_machine.specs.Machine.{saved, entries_in}
use Rattle.vmx_machine.specs.declared.control.Control.{Control}
use Rattle.subject_model.specs.Alone.{Things}
use Rattle.muen_num.specs.Numbers.{is_among}
use Rattle.proof_turns.specs.Ground.{Ground, IsSubject, Spot, thing_at, state_at, area_at, IsSpotAt}
use Rattle.proof_turns.specs.Fixed.{IsFixed}
use Rattle.guest_isa.specs.Words.{IsByte}
use Rattle.proof_turns.specs.Held.{AreDistinctIndices, AreEntries, FitsFile, indices}
use Rattle.proof_turns.specs.Stands.{ShowsThings, HasStateAndMsrArea}
use Rattle.proof_turns.proofs.AreaLaws.{saved_elsewhere, saved_there, saved_page, saved_is, length-saved, saved_small, entries_saved, indices_refreshed}
use Rattle.guest_isa.proofs.StateLaws.{written_bytes}

-- memory with the page of a state and of an area written
abbrev pub left_pages : Control → SubjectState → List ℕ → List Page → List Page
left_pages d st file pages = saved file d.msr_area (numbers_below d.msrs) (change pages d.state (λ _. page_bytes st))

-- the state pages of two subjects are two
pub state_spot : (s t : ℕ) → (s ≡ t → ⊥) → state_at s ≡ state_at t → ⊥
state_spot s t ne e = ne (cc (e))

-- .. and so are the pages of their areas
area_spot : (s t : ℕ) → (s ≡ t → ⊥) → area_at s ≡ area_at t → ⊥
area_spot s t ne e = ne (cc (e))

-- a subject has its pages where they stay
pub pages_stay : (pages later : List Page) (n : Subject) (c : Control) → page_of later c.state ≡ page_of pages c.state → page_of later c.msr_area ≡ page_of pages c.msr_area
    → HasStateAndMsrArea pages n c → HasStateAndMsrArea later n c
pages_stay pages later n c same same_area h = record {
  state = h.state;
  state_is = same ∙ h.state_is;
  area = h.area;
  area_is = same_area ∙ h.area_is;
  full = h.full;
  room = h.room;
  entries = h.entries;
}

module _ (g : Ground) (fixed : IsFixed g) where
  -- memory shows the same things where their pages, and those that are kept, stay
  shows_same : (pages later : List Page) (things : Things)
      → ((x : Thing) (j : ℕ) → j < g.pages x → page_of later (g.first x + j) ≡ page_of pages (g.first x + j))
      → ((k : ℕ) → g.kept k ≡ true → page_of later k ≡ page_of pages k) → ((k : ℕ) → is_there later k ≡ is_there pages k)
      → ((k : ℕ) (page : List ℕ) → page_of later k ≡ Some page → All IsByte page) → ShowsThings g pages things → ShowsThings g later things
  shows_same pages later things same kept there small shows = record {
    bytes = λ x j h. same x j h ∙ shows.bytes x j h;
    kept = λ k h. kept k h ∙ shows.kept k h;
    there = λ k. there k ∙ shows.there k;
    small = small;
  }

  -- a page that is kept isn't one that changes
  kept_apart : (a : Spot) (j k : ℕ) → IsSpotAt g a j → g.kept k ≡ true → k ≡ j → ⊥
  kept_apart a j k at h e = true_false (sym h ∙ (ap g.kept e ∙ fixed.aside a j at))
    where
      true_false : true ≡ false → ⊥
      true_false i = cc (i)

  -- subject t leaves its CPU with this state and these MSRs
  module _ (t : ℕ) (x : IsSubject g t) (st : SubjectState) (file : List ℕ) (pages : List Page) (has : HasStateAndMsrArea pages x.subject x.control) where
    abbrev d : Control
    d = x.control

    -- memory with its state page, and then with its area too
    abbrev with_state_page : List Page
    with_state_page = change pages d.state (λ _. page_bytes st)

    abbrev later : List Page
    later = left_pages d st file pages

    -- where the two pages are
    at_state : IsSpotAt g (state_at t) d.state
    at_state = (d, x.joined.control, refl)

    at_area : IsSpotAt g (area_at t) d.msr_area
    at_area = (d, x.joined.control, refl)

    -- they are two
    differ : d.state ≡ d.msr_area → ⊥
    differ e = fixed.apart (state_at t) (area_at t) d.state d.msr_area at_state at_area (λ h. cc (h)) e

    -- every other page stays
    left_elsewhere : (k : ℕ) → (k ≡ d.state → ⊥) → (k ≡ d.msr_area → ⊥) → page_of later k ≡ page_of pages k
    left_elsewhere k ns na =
        saved_elsewhere file d.msr_area d.msrs with_state_page k na has.room ∙ page_of-change_other pages d.state (λ _. page_bytes st) k ns

    -- the same pages are there
    left_there : (k : ℕ) → is_there later k ≡ is_there pages k
    left_there k = saved_there file d.msr_area d.msrs with_state_page k ∙ is_there-change pages d.state (λ _. page_bytes st) k

    -- the state page has the state
    pub left_state : page_of later d.state ≡ Some (page_bytes st)
    left_state =
        saved_elsewhere file d.msr_area d.msrs with_state_page d.state differ has.room
        ∙ (page_of-change_same pages d.state (λ _. page_bytes st) ∙ ap (option_map (λ _. page_bytes st)) has.state_is)

    -- the page of the area has the values of the MSRs
    pub left_area : page_of later d.msr_area ≡ Some (saved_page d.msrs file has.area)
    left_area =
        saved_is file d.msr_area d.msrs with_state_page has.area
        (page_of-change_other pages d.state (λ _. page_bytes st) d.msr_area (λ e. differ (sym e)) ∙ has.area_is) has.room

    -- what every page holds are bytes
    left_small : (things : Things) → ShowsThings g pages things → (k : ℕ) (page : List ℕ) → page_of later k ≡ Some page → All IsByte page
    left_small things shows k page at =
        elim (cases_eq k d.state) [
          | inl e ↦ subst (All IsByte) (one_value _ _ _ left_state (ap (page_of later) (sym e) ∙ at)) (written_bytes st)
          | inr ns ↦ elim (cases_eq k d.msr_area) [
            | inl e ↦
                subst (All IsByte) (one_value _ _ _ left_area (ap (page_of later) (sym e) ∙ at))
                (saved_small d.msrs file has.area (shows.small d.msr_area has.area has.area_is))
            | inr na ↦ shows.small k page (sym (left_elsewhere k ns na) ∙ at)
          ]
        ]

    -- memory shows the same things
    pub left_shows : (things : Things) → ShowsThings g pages things → ShowsThings g later things
    left_shows things shows =
        shows_same pages later things
        (λ z j h. left_elsewhere (g.first z + j)
        (λ e. fixed.apart (thing_at z j) (state_at t) (g.first z + j) d.state (h, refl) at_state (λ i. cc (i)) e)
        (λ e. fixed.apart (thing_at z j) (area_at t) (g.first z + j) d.msr_area (h, refl) at_area (λ i. cc (i)) e))
        (λ k h. left_elsewhere k (kept_apart (state_at t) d.state k at_state h) (kept_apart (area_at t) d.msr_area k at_area h))
        left_there (left_small things shows) shows

    -- the state page of another subject stays
    pub state_stays : (s : ℕ) (c : Control) → slice_get g.setup.controls s ≡ Some c → (s ≡ t → ⊥) → page_of later c.state ≡ page_of pages c.state
    state_stays s c is ne =
        left_elsewhere c.state
        (λ e. fixed.apart (state_at s) (state_at t) c.state d.state (c, is, refl) at_state (state_spot s t ne) e)
        (λ e. fixed.apart (state_at s) (area_at t) c.state d.msr_area (c, is, refl) at_area (λ i. cc (i)) e)

    -- .. and so does the page of its area
    pub area_stays : (s : ℕ) (c : Control) → slice_get g.setup.controls s ≡ Some c → (s ≡ t → ⊥) → page_of later c.msr_area ≡ page_of pages c.msr_area
    area_stays s c is ne =
        left_elsewhere c.msr_area
        (λ e. fixed.apart (area_at s) (state_at t) c.msr_area d.state (c, is, refl) at_state (λ i. cc (i)) e)
        (λ e. fixed.apart (area_at s) (area_at t) c.msr_area d.msr_area (c, is, refl) at_area (area_spot s t ne) e)

    -- the subject has its pages still
    pub left_own_pages : FitsFile file → HasStateAndMsrArea later x.subject d
    left_own_pages fits = record {
      state = page_bytes st;
      state_is = left_state;
      area = saved_page d.msrs file has.area;
      area_is = left_area;
      full = length-saved d.msrs file has.area ∙ has.full;
      room = has.room;
      entries = left_entries;
    }
      where
        same_indices : indices (entries_in d.msrs (saved_page d.msrs file has.area)) ≡ indices (entries_in d.msrs has.area)
        same_indices =
            ap indices (entries_saved d.msrs file has.area (omega (arith, has.room, has.full)) fits)
            ∙ indices_refreshed file (entries_in d.msrs has.area)

        left_entries : AreEntries x.subject (entries_in d.msrs (saved_page d.msrs file has.area))
        left_entries = record {
          distinct = subst AreDistinctIndices (sym same_indices) has.entries.distinct;
          covers = λ index h. ap (λ is. is_among is index) same_indices ∙ has.entries.covers index h;
        }

    -- and so has every other one
    pub left_other_pages : (s : ℕ) (n : Subject) (c : Control) → slice_get g.setup.controls s ≡ Some c → (s ≡ t → ⊥) → HasStateAndMsrArea pages n c → HasStateAndMsrArea later n c
    left_other_pages s n c is ne h = pages_stay pages later n c (state_stays s c is ne) (area_stays s c is ne) h
