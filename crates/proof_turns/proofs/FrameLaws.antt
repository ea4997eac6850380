-- A change of one page that is no table and no bitmap keeps what memory shows, or changes it as the thing is changed.
use Rattle.std.proofs.Common.{◌≡◌, ◌⊎◌, ◌+◌, ◌-◌, ◌*◌, ◌/◌, ◌%◌, ◌^◌, ◌<◌, ◌≤◌, ◌∙◌}
use Rattle.std.proofs.Common.{ℕ, zero, suc, Bool, true, List, [], length, take, drop, Option, Some, None, refl, sym, ap, inl, inr, arith}
use Rattle.std.specs.Prelude.{option_map, slice_get, unwrap_or}
use Rattle.std.specs.List.{All}
use Rattle.std.specs.Option.{option_map_or}
use Rattle.std.proofs.lemmas.Bool.{cases_eq, cases_lt, true≢false}
use Rattle.std.proofs.lemmas.List.{drop-take, take-take, drop-drop}
use Rattle.machine_layout.specs.Memory.{Page, page_of, change, over, le_number, load_of}
use Rattle.machine_layout.proofs.PageLaws.{page_of-change_other, page_of-change_same, is_there-change}
use Rattle.machine_layout.proofs.StoreLaws.{over_part, over_apart}
use Rattle.machine_layout.proofs.WalkLaws.{same_walks}
use Rattle.muen_num.specs.AccessSize.{bytes_of as count}
use Rattle.muen_num.specs.declared.access.AccessKind.{AccessKind}
use Rattle.muen_num.specs.declared.access.AccessSize.{AccessSize}
use Rattle.muen_num.specs.declared.access.AccessSize.TheVariants.{One, Two, Four, Eight}
use Rattle.muen_num.specs.declared.limits.TheConstants.{GUEST_END}
use Rattle.policy_lawful.specs.Thing.{Thing, same_thing}
use Rattle.guest_isa.specs.Step.{word_at}
use Rattle.vmx_machine.specs.Machine.{look_in, msr_exits_in, ports_exit, page_bytes_at, reach_by}
use Rattle.vmx_machine.specs.declared.control.Control.{Control}
use Rattle.subject_model.specs.Alone.{Things, thing_in}
use Rattle.subject_model.specs.System.{change_thing}
use Rattle.proof_turns.specs.Ground.{Ground, Spot, thing_at, IsSpotAt, part}
use Rattle.guest_isa.specs.Words.{IsByte}
use Rattle.guest_isa.proofs.StateLaws.{over_small}
use Rattle.proof_turns.specs.Fixed.{IsFixed}
use Rattle.proof_turns.specs.Stands.{ShowsThings}
use Rattle.subject_model.proofs.KeyLaws.{value_changed, value_other, things_apart}
use Rattle.policy_lawful.proofs.SameThings.{cases_thing}

-- ---- parts of bytes

-- a part of bytes that are written over
pub part_there : (old : Option (List ℕ)) (o : ℕ) (bs : List ℕ) → o % 4096 + length bs ≤ 4096
    → option_map (λ x. over x (o % 4096) bs) (option_map (part (o / 4096)) old) ≡ option_map (part (o / 4096)) (option_map (λ x. over x o bs) old)
part_there None o bs room = refl
part_there (Some x) o bs room = ap Some (sym (over_part x o bs (4096 * (o / 4096)) 4096 (o % 4096) (omega arith) room))

apart_ranges : (j o n : ℕ) → o % 4096 + n ≤ 4096 → (j ≡ o / 4096 → ⊥) → (4096 * j + 4096 ≤ o) ⊎ (o + n ≤ 4096 * j)
apart_ranges j o n room ne =
    elim (cases_lt j (o / 4096)) [ inl l ↦ inl (omega arith) | inr g ↦ let m : o / 4096 < j = omega (arith, ne) in inr (omega arith) ]

-- any other part stays
pub part_elsewhere : (old : Option (List ℕ)) (j o : ℕ) (bs : List ℕ) → o % 4096 + length bs ≤ 4096 → (j ≡ o / 4096 → ⊥)
    → option_map (part j) old ≡ option_map (part j) (option_map (λ x. over x o bs) old)
part_elsewhere None j o bs room ne = refl
part_elsewhere (Some x) j o bs room ne = ap Some (sym (over_apart x o bs (4096 * j) 4096 (apart_ranges j o (length bs) room ne)))

inner : (xs : List ℕ) (q d n m o : ℕ) → o ≡ q + d → d + m ≤ n → take m (drop d (take n (drop q xs))) ≡ take m (drop o xs)
inner xs q d n m o e h =
    let k : n ≡ d + (n - d) = omega arith in
    ap (λ i. take m (drop d (take i (drop q xs)))) k
    ∙ (ap (take m) (drop-take d (n - d) (drop q xs))
    ∙ (ap (take m) (ap (take (n - d)) (drop-drop d q xs ∙ ap (λ i. drop i xs) (sym e)))
    ∙ take-take m (n - d) (drop o xs) (omega arith)))

-- a word that lies in one page
pub word_within : (n : ℕ) (bytes : List ℕ) (offset : ℕ) → offset % 4096 + n ≤ 4096 → word_at n (part (offset / 4096) bytes) (offset % 4096) ≡ word_at n bytes offset
word_within n bytes offset h =
    ap (λ ys. le_number ys % 2 ^ 64) (inner bytes (4096 * (offset / 4096)) (offset % 4096) 4096 n offset (omega arith) h)

-- one that is aligned does
pub aligned_within : (size : AccessSize) (offset : ℕ) → offset % count size ≡ 0 → offset % 4096 + count size ≤ 4096
aligned_within One offset h = omega arith
aligned_within Two offset h = omega (arith, h)
aligned_within Four offset h = omega (arith, h)
aligned_within Eight offset h = omega (arith, h)

-- an offset is aligned where the address is that lies alike in its page
pub aligned_alike : (size : AccessSize) (offset addr : ℕ) → offset % 4096 ≡ addr % 4096 → addr % count size ≡ 0 → offset % count size ≡ 0
aligned_alike One offset addr e h = omega arith
aligned_alike Two offset addr e h = omega (arith, e, h)
aligned_alike Four offset addr e h = omega (arith, e, h)
aligned_alike Eight offset addr e h = omega (arith, e, h)

pub word_in_part : (size : AccessSize) (bytes : List ℕ) (offset : ℕ) → offset % count size ≡ 0
    → word_at (count size) (part (offset / 4096) bytes) (offset % 4096) ≡ word_at (count size) bytes offset
word_in_part size bytes offset h = word_within (count size) bytes offset (aligned_within size offset h)

no_word : (n offset : ℕ) → word_at n [] offset ≡ 0
no_word zero zero = refl
no_word zero (suc offset) = refl
no_word (suc n) zero = refl
no_word (suc n) (suc offset) = refl

-- a word of bytes that may not be there, read in the page that shows them
pub word_of_part : (size : AccessSize) (old page : Option (List ℕ)) (offset : ℕ) → offset % count size ≡ 0 → page ≡ option_map (part (offset / 4096)) old
    → word_at (count size) (unwrap_or page []) (offset % 4096) ≡ word_at (count size) (option_map_or (λ bytes. bytes) old []) offset
word_of_part size None page offset h e =
    rw e (no_word (count size) (offset % 4096) ∙ sym (no_word (count size) offset))
word_of_part size (Some bytes) page offset h e = rw e (word_in_part size bytes offset h)

-- ---- all are bytes

changed_small : (f : List ℕ → List ℕ) (o : Option (List ℕ)) (page : List ℕ) → ((old : List ℕ) → All IsByte old → All IsByte (f old))
    → ((old : List ℕ) → o ≡ Some old → All IsByte old) → option_map f o ≡ Some page → All IsByte page
changed_small f None page keeps small e = absurd (cc (e))
changed_small f (Some old) page keeps small e =
    let is : f old ≡ page = cc (e) in rw (sym is) (keeps old (small old refl))

small_after : (pages : List Page) (k : ℕ) (f : List ℕ → List ℕ) → ((old : List ℕ) → All IsByte old → All IsByte (f old))
    → ((q : ℕ) (page : List ℕ) → page_of pages q ≡ Some page → All IsByte page) → (q : ℕ) (page : List ℕ) → page_of (change pages k f) q ≡ Some page
    → All IsByte page
small_after pages k f keeps small q page e =
    elim (cases_eq q k) [
      | inl h ↦ changed_small f (page_of pages k) page keeps (small k) (sym (page_of-change_same pages k f) ∙ (ap (page_of (change pages k f)) (sym h) ∙ e))
      | inr ne ↦ small q page (sym (page_of-change_other pages k f q ne) ∙ e)
    ]

-- ---- what is read alike

load_alike : (old new : List Page) (q n : ℕ) → page_of new (q / 4096) ≡ page_of old (q / 4096) → load_of new q n ≡ load_of old q n
load_alike old new q n e =
    ap (λ o. option_map le_number (option_map (λ bytes. take n (drop (q % 4096) bytes)) o)) e

module _ (g : Ground) (fixed : IsFixed g) where
  -- walks end as at the start
  pub look_stays : (pages : List Page) (things : Things) (s : ℕ) (c : Control) (kind : AccessKind) (addr : ℕ) → ShowsThings g pages things
      → slice_get g.setup.controls s ≡ Some c → addr < GUEST_END → look_in pages c.eptp kind addr ≡ look_in g.memory c.eptp kind addr
  look_stays pages things s c kind addr shows at low =
      ap (reach_by kind addr) (same_walks g.memory pages c.eptp addr kind (record {
        entries = λ k d inside. load_alike g.memory pages _ 8 (shows.kept _ (fixed.tables s c addr at low k d inside));
        there = shows.there;
      }))

  kept_page : (pages : List Page) (things : Things) (k : ℕ) → ShowsThings g pages things → g.kept k ≡ true → page_bytes_at pages k ≡ page_bytes_at g.memory k
  kept_page pages things k shows h = ap (λ o. unwrap_or o []) (shows.kept k h)

  -- the same ports exit as at the start
  pub ports_stay : (pages : List Page) (things : Things) (s : ℕ) (c : Control) (port size : ℕ) → ShowsThings g pages things → slice_get g.setup.controls s ≡ Some c
      → ports_exit pages c port size ≡ ports_exit g.memory c port size
  ports_stay pages things s c port size shows at =
      let first = kept_page pages things c.io_bitmaps shows (fixed.io_bitmap s c at) in
      let second = kept_page pages things (c.io_bitmaps + 1) shows (fixed.second_io_bitmap s c at) in
      rw (first, second) refl

  -- and the same MSRs
  pub msrs_stay : (pages : List Page) (things : Things) (s : ℕ) (c : Control) (index : ℕ) (write : Bool) → ShowsThings g pages things → slice_get g.setup.controls s ≡ Some c
      → msr_exits_in pages c index write ≡ msr_exits_in g.memory c index write
  msrs_stay pages things s c index write shows at =
      let page = kept_page pages things c.msr_bitmap shows (fixed.msr_bitmap s c at) in rw page refl

  -- ---- a change of the page of a spot

  kept_after : (pages : List Page) (things : Things) (k : ℕ) (f : List ℕ → List ℕ) (a : Spot) → IsSpotAt g a k → ShowsThings g pages things → (q : ℕ) → g.kept q ≡ true
      → page_of (change pages k f) q ≡ page_of g.memory q
  kept_after pages things k f a at shows q h =
      page_of-change_other pages k f q (λ e. true≢false (sym h ∙ (ap g.kept e ∙ fixed.aside a k at))) ∙ shows.kept q h

  -- a page that is no thing's, and things of which those that have pages stay
  pub change_elsewhere : (pages : List Page) (things things' : Things) (k : ℕ) (f : List ℕ → List ℕ) (a : Spot) → IsSpotAt g a k
      → ((x : Thing) (j : ℕ) → a ≡ thing_at x j → ⊥) → ((x : Thing) → 0 < g.pages x → thing_in things' x ≡ thing_in things x)
      → ((old : List ℕ) → All IsByte old → All IsByte (f old)) → ShowsThings g pages things → ShowsThings g (change pages k f) things'
  change_elsewhere pages things things' k f a at away same keeps shows =
      record {
        bytes = λ x j l.
            page_of-change_other pages k f (g.first x + j) (fixed.apart (thing_at x j) a (g.first x + j) k (l, refl) at (λ e. away x j (sym e)))
            ∙ (shows.bytes x j l ∙ ap (option_map (part j)) (sym (same x (omega (arith, l)))));
        kept = kept_after pages things k f a at shows;
        there = λ q. is_there-change pages k f q ∙ shows.there q;
        small = small_after pages k f keeps shows.small;
      }

  other_thing : (x z : Thing) (j i : ℕ) → (x ≡ z → ⊥) → thing_at x j ≡ thing_at z i → ⊥
  other_thing x z j i ne e = ne (cc (e))

  other_part : (x z : Thing) (j i : ℕ) → (j ≡ i → ⊥) → thing_at x j ≡ thing_at z i → ⊥
  other_part x z j i ne e = ne (cc (e))

  -- bytes over a part of one page of a thing
  pub thing_changes : (pages : List Page) (things : Things) (x : Thing) (offset : ℕ) (new : List ℕ) → offset / 4096 < g.pages x → offset % 4096 + length new ≤ 4096
      → All IsByte new → ShowsThings g pages things
      → ShowsThings g (change pages (g.first x + offset / 4096) (λ old. over old (offset % 4096) new)) (change_thing x (λ old. over old offset new) things)
  thing_changes pages things z o new hz room bytes shows =
      let f : List ℕ → List ℕ = λ old. over old o new in
      let h : List ℕ → List ℕ = λ old. over old (o % 4096) new in
      let k = g.first z + o / 4096 in
      record {
        bytes = λ x j hx. elim (cases_thing x z) [
          | inl e ↦ elim (cases_eq j (o / 4096)) [
            | inl i ↦
                rw (e, i) (page_of-change_same pages k h ∙ (ap (option_map h) (shows.bytes z (o / 4096) hz)
                ∙ (part_there (thing_in things z) o new room ∙ ap (option_map (part (o / 4096))) (sym (value_changed same_thing z f things)))))
            | inr ne ↦
                page_of-change_other pages k h (g.first x + j) (fixed.apart (thing_at x j) (thing_at z (o / 4096)) (g.first x + j) k (hx, refl) (hz, refl) (other_part x z j (o / 4096) ne))
                ∙ (shows.bytes x j hx ∙ rw e (part_elsewhere (thing_in things z) j o new room ne
                ∙ ap (option_map (part j)) (sym (value_changed same_thing z f things))))
          ]
          | inr ne ↦
              page_of-change_other pages k h (g.first x + j) (fixed.apart (thing_at x j) (thing_at z (o / 4096)) (g.first x + j) k (hx, refl) (hz, refl) (other_thing x z j (o / 4096) ne))
              ∙ (shows.bytes x j hx ∙ ap (option_map (part j)) (sym (value_other same_thing z x f things (things_apart z x (λ e. ne (sym e))))))
        ];
        kept = kept_after pages things k h (thing_at z (o / 4096)) (hz, refl) shows;
        there = λ q. is_there-change pages k h q ∙ shows.there q;
        small = small_after pages k h (λ old small. over_small old (o % 4096) new small bytes) shows.small;
      }
