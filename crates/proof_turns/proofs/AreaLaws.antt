-- An area of MSRs, as leaving saves it and as entering loads it, and the MSR file.
use Rattle.std.proofs.Common.{◌≡◌, ◌⊎◌, ◌+◌, ◌*◌, ◌%◌, ◌^◌, ◌<◌, ◌≤◌, ◌∷◌, ◌++◌, ◌∙◌, ℕ, zero, suc, true, false, List, [], length, take, drop, get_or, Option, Some, None, refl, sym, ap, ap₂, subst, inl, inr, arith}
use Rattle.std.specs.Prelude.{option_map, option_and_then, is_some, slice_get, unwrap_or}
use Rattle.std.specs.List.{All}
use Rattle.std.proofs.lemmas.Bool.{cases_eq, eq-eqb, ne_eqb, true≢false, false≢true}
use Rattle.std.proofs.lemmas.Bool.Decides.{nat_tests}
use Rattle.std.proofs.lemmas.List.{map-append}
use Rattle.std.proofs.lemmas.List.Elements.{All-nil, All-cons, All-head, All-tail, All-set, All-push}
use Rattle.std.proofs.lemmas.Option.{slice_get-get_or, slice_get_within, get_or_from_slice_get}
use Rattle.muen_num.specs.Range.{numbers_below}
use Rattle.muen_num.specs.declared.limits.TheConstants.{LOW_MSR_LAST, HIGH_MSR_FIRST, HIGH_MSR_LAST}
use Rattle.muen_num.proofs.ChangeLaws.{set_is, length_stays, element_changes, others_stay}
use Rattle.machine_layout.specs.Exits.{AreaEntry, area_index, area_value}
use Rattle.machine_layout.specs.Memory.{Page, page_of, is_there, over, le_number, le_bytes}
use Rattle.machine_layout.proofs.PageLaws.{page_of-change_other, page_of-change_same, is_there-change}
use Rattle.machine_layout.proofs.StoreLaws.{over_apart, length-over, over_itself, le_number-le_bytes}
use Rattle.machine_layout.proofs.PageFieldLaws.{length-le_bytes}
use Rattle.vmx_machine.specs.Machine.{entries_in, msrs_loaded, save_value, entry_saved, saved}
use Rattle.vmx_machine.specs.MsrFile.{msr_slot_of, most, value_in, put_at, with_msr}
use Rattle.vmx_machine.proofs.StoreWithin.{stored_within}
use Rattle.muen_num.specs.Numbers.{is_among}
use Rattle.guest_isa.specs.Words.{IsByte, IsWord}
use Rattle.guest_isa.proofs.StateLaws.{le_bytes_small}
use Rattle.proof_turns.specs.Held.{FitsFile, AreDistinctIndices, indices, entry_value}

-- ---- the MSR file

-- where an MSR is in the file
abbrev StandsAt : ℕ → ℕ → Type 0
StandsAt index slot =
    ((index ≤ LOW_MSR_LAST) × (slot ≡ index))
    ⊎ ((HIGH_MSR_FIRST ≤ index) × (index ≤ HIGH_MSR_LAST) × (slot + HIGH_MSR_FIRST ≡ LOW_MSR_LAST + 1 + index))

slot_tells : (index slot : ℕ) → msr_slot_of index ≡ Some slot → StandsAt index slot
slot_tells index slot e = grind (arith, nat_tests)

below_most : (index slot : ℕ) → StandsAt index slot → slot < most
below_most index slot (inl h) = omega (arith, h.0, h.1)
below_most index slot (inr h) = omega (arith, h.0, h.1, h.2)

one_index : (i j slot : ℕ) → StandsAt i slot → StandsAt j slot → i ≡ j
one_index i j slot (inl h) (inl g) = omega (arith, h.1, g.1)
one_index i j slot (inl h) (inr g) = absurd (omega (arith, h.0, h.1, g.0, g.2))
one_index i j slot (inr h) (inl g) = absurd (omega (arith, h.0, h.2, g.0, g.1))
one_index i j slot (inr h) (inr g) = omega (arith, h.0, h.2, g.0, g.2)

-- two MSRs that have a slot have two
apart_slots : (i j slot : ℕ) → (i ≡ j → ⊥) → msr_slot_of j ≡ Some slot → msr_slot_of i ≡ Some slot → ⊥
apart_slots i j slot ne e h = ne (one_index i j slot (slot_tells i slot h) (slot_tells j slot e))

there_at : (file : List ℕ) (o : Option ℕ) → ((slot : ℕ) → o ≡ Some slot → slot < length file) → is_some o ≡ true → (v : ℕ) × (option_and_then (slice_get file) o ≡ Some v)
there_at file None h s = absurd (false≢true s)
there_at file (Some slot) h s = (get_or file slot 0, slice_get-get_or file slot 0 (h slot refl))

in_length : (file : List ℕ) (index slot : ℕ) → length file ≡ most → msr_slot_of index ≡ Some slot → slot < length file
in_length file index slot l e = subst (λ n. slot < n) (sym l) (below_most index slot (slot_tells index slot e))

-- an MSR that has a slot has a value
pub value_there : (file : List ℕ) (index : ℕ) → length file ≡ most → is_some (msr_slot_of index) ≡ true → (v : ℕ) × (value_in file index ≡ Some v)
value_there file index l s = there_at file (msr_slot_of index) (λ slot e. in_length file index slot l e) s

word_at_slot : (file : List ℕ) (o : Option ℕ) (v : ℕ) → All IsWord file → option_and_then (slice_get file) o ≡ Some v → IsWord v
word_at_slot file None v h e = absurd (cc (e))
word_at_slot file (Some slot) v h e =
    subst IsWord (get_or_from_slice_get file slot v 0 e) (h slot 0 (slice_get_within file slot v e))

-- each value of the file fits
pub value_fits : (file : List ℕ) (index v : ℕ) → FitsFile file → value_in file index ≡ Some v → IsWord v
value_fits file index v f e = word_at_slot file (msr_slot_of index) v f.words e

length-put_at : (o : Option ℕ) (v : ℕ) (file : List ℕ) → length (put_at o v file) ≡ length file
length-put_at None v file = refl
length-put_at (Some slot) v file = length_stays slot (λ _. v) file

pub length-with_msr : (index v : ℕ) (file : List ℕ) → length (with_msr index v file) ≡ length file
length-with_msr index v file = length-put_at (msr_slot_of index) v file

put_words : (o : Option ℕ) (v : ℕ) (file : List ℕ) → IsWord v → All IsWord file → All IsWord (put_at o v file)
put_words None v file w h = h
put_words (Some slot) v file w h = subst (All IsWord) (set_is slot file v) (All-set IsWord file slot v w h)

-- with a value that fits, the file fits
pub with_msr_fits : (index v : ℕ) (file : List ℕ) → IsWord v → FitsFile file → FitsFile (with_msr index v file)
with_msr_fits index v file w f =
    record {
      length = length-with_msr index v file ∙ f.length;
      words = put_words (msr_slot_of index) v file w f.words;
    }

put_same : (o : Option ℕ) (v : ℕ) (file : List ℕ) → ((slot : ℕ) → o ≡ Some slot → slot < length file) → is_some o ≡ true
    → option_and_then (slice_get (put_at o v file)) o ≡ Some v
put_same None v file h s = absurd (false≢true s)
put_same (Some slot) v file h s =
    element_changes slot (λ _. v) file ∙ ap (option_map (λ _. v)) (slice_get-get_or file slot 0 (h slot refl))

-- the value that was put
pub with_msr_same : (index v : ℕ) (file : List ℕ) → length file ≡ most → is_some (msr_slot_of index) ≡ true → value_in (with_msr index v file) index ≡ Some v
with_msr_same index v file l s = put_same (msr_slot_of index) v file (λ slot e. in_length file index slot l e) s

put_other : (o q : Option ℕ) (v : ℕ) (file : List ℕ) → ((slot : ℕ) → o ≡ Some slot → q ≡ Some slot → ⊥)
    → option_and_then (slice_get (put_at o v file)) q ≡ option_and_then (slice_get file) q
put_other None q v file h = refl
put_other (Some a) None v file h = refl
put_other (Some a) (Some b) v file h = others_stay a b (λ _. v) file (λ e. h a refl (ap Some e))

-- the values of other MSRs stay
pub with_msr_other : (index v i : ℕ) (file : List ℕ) → (i ≡ index → ⊥) → value_in (with_msr index v file) i ≡ value_in file i
with_msr_other index v i file ne =
    put_other (msr_slot_of index) (msr_slot_of i) v file (λ slot e h. apart_slots i index slot ne e h)

-- ---- numbers below a bound

abbrev AreBelow : ℕ → List ℕ → Type 0
AreBelow n [] = Unit {0}
AreBelow n (i ∷ is) = (i < n) × AreBelow n is

below_push : (n : ℕ) (is : List ℕ) (i : ℕ) → AreBelow n is → i < n → AreBelow n (is ++ i ∷ [])
below_push n [] i h l = (l, tt)
below_push n (j ∷ is) i h l = (h.0, below_push n is i h.1 l)

-- the first n of them are below any bound that isn't less
numbers_are_below : (m n : ℕ) → n ≤ m → AreBelow m (numbers_below n)
numbers_are_below m zero l = tt
numbers_are_below m (suc n) l = below_push m (numbers_below n) n (numbers_are_below m n (omega arith)) (omega arith)

in_page : (n : ℕ) → 16 * n ≤ 4096 → AreBelow 256 (numbers_below n)
in_page n h = numbers_are_below 256 n (omega arith)

-- ---- leaving: memory

-- a page with a value at an offset, if there is one
abbrev pub put_value : Option ℕ → ℕ → List ℕ → List ℕ
put_value None offset page = page
put_value (Some v) offset page = over page offset (le_bytes 8 v)

-- a page with the value of entry i
abbrev pub entry_page : List ℕ → ℕ → List ℕ → List ℕ
entry_page file i page = put_value (value_in file (area_index page i)) (16 * i + 8) page

abbrev pub entries_page : List ℕ → List ℕ → List ℕ → List ℕ
entries_page file [] page = page
entries_page file (i ∷ is) page = entries_page file is (entry_page file i page)

-- a page with the values of the first n entries, one after another
abbrev pub saved_page : ℕ → List ℕ → List ℕ → List ℕ
saved_page n file page = entries_page file (numbers_below n) page

save_elsewhere : (o : Option ℕ) (area i : ℕ) (pages : List Page) (k : ℕ) → (k ≡ area → ⊥) → i < 256 → page_of (save_value o (4096 * area + (16 * i + 8)) pages) k ≡ page_of pages k
save_elsewhere None area i pages k ne l = refl
save_elsewhere (Some v) area i pages k ne l =
    ap (λ m. page_of m k) (stored_within pages area (16 * i + 8) 8 v (omega arith))
    ∙ page_of-change_other pages area (λ old. over old (16 * i + 8) (le_bytes 8 v)) k ne

all_elsewhere : (file : List ℕ) (area : ℕ) (is : List ℕ) (pages : List Page) (k : ℕ) → (k ≡ area → ⊥) → AreBelow 256 is → page_of (saved file area is pages) k ≡ page_of pages k
all_elsewhere file area [] pages k ne h = refl
all_elsewhere file area (i ∷ is) pages k ne h =
    all_elsewhere file area is (entry_saved file area i pages) k ne h.1 ∙ save_elsewhere _ area i pages k ne h.0

-- other pages than the area's stay
pub saved_elsewhere : (file : List ℕ) (area n : ℕ) (pages : List Page) (k : ℕ) → (k ≡ area → ⊥) → 16 * n ≤ 4096
    → page_of (saved file area (numbers_below n) pages) k ≡ page_of pages k
saved_elsewhere file area n pages k ne h = all_elsewhere file area (numbers_below n) pages k ne (in_page n h)

save_there : (o : Option ℕ) (at : ℕ) (pages : List Page) (k : ℕ) → is_there (save_value o at pages) k ≡ is_there pages k
save_there None at pages k = refl
save_there (Some v) at pages k = is_there-change pages _ _ k

all_there : (file : List ℕ) (area : ℕ) (is : List ℕ) (pages : List Page) (k : ℕ) → is_there (saved file area is pages) k ≡ is_there pages k
all_there file area [] pages k = refl
all_there file area (i ∷ is) pages k =
    all_there file area is (entry_saved file area i pages) k ∙ save_there _ (4096 * area + (16 * i + 8)) pages k

-- the same pages are there
pub saved_there : (file : List ℕ) (area n : ℕ) (pages : List Page) (k : ℕ) → is_there (saved file area (numbers_below n) pages) k ≡ is_there pages k
saved_there file area n pages k = all_there file area (numbers_below n) pages k

save_same : (o q : Option ℕ) (area i : ℕ) (pages : List Page) (page : List ℕ) → o ≡ q → page_of pages area ≡ Some page → i < 256
    → page_of (save_value o (4096 * area + (16 * i + 8)) pages) area ≡ Some (put_value q (16 * i + 8) page)
save_same None None area i pages page s e l = e
save_same None (Some w) area i pages page s e l = absurd (cc (s))
save_same (Some v) q area i pages page s e l =
    let put : List ℕ → List ℕ = λ old. over old (16 * i + 8) (le_bytes 8 v) in
    ap (λ m. page_of m area) (stored_within pages area (16 * i + 8) 8 v (omega arith))
    ∙ (page_of-change_same pages area put ∙ (ap (option_map put) e ∙ ap (λ r. Some (put_value r (16 * i + 8) page)) s))

all_same : (file : List ℕ) (area : ℕ) (is : List ℕ) (pages : List Page) (page : List ℕ) → page_of pages area ≡ Some page → AreBelow 256 is
    → page_of (saved file area is pages) area ≡ Some (entries_page file is page)
all_same file area [] pages page e h = e
all_same file area (i ∷ is) pages page e h =
    all_same file area is (entry_saved file area i pages) (entry_page file i page) (save_same _ _ area i pages page (ap (λ p. value_in file (area_index (unwrap_or p []) i)) e) e h.0) h.1

-- the area's page has the values
pub saved_is : (file : List ℕ) (area n : ℕ) (pages : List Page) (page : List ℕ) → page_of pages area ≡ Some page → 16 * n ≤ 4096
    → page_of (saved file area (numbers_below n) pages) area ≡ Some (saved_page n file page)
saved_is file area n pages page e h = all_same file area (numbers_below n) pages page e (in_page n h)

-- ---- leaving: the page

length-put_value : (o : Option ℕ) (offset : ℕ) (page : List ℕ) → length (put_value o offset page) ≡ length page
length-put_value None offset page = refl
length-put_value (Some v) offset page = length-over page offset (le_bytes 8 v)

length-entries : (file is page : List ℕ) → length (entries_page file is page) ≡ length page
length-entries file [] page = refl
length-entries file (i ∷ is) page =
    length-entries file is (entry_page file i page) ∙ length-put_value (value_in file (area_index page i)) (16 * i + 8) page

-- the page is as long as it was
pub length-saved : (n : ℕ) (file page : List ℕ) → length (saved_page n file page) ≡ length page
length-saved n file page = length-entries file (numbers_below n) page

over_all : (P : ℕ → Type 0) (xs : List ℕ) (o : ℕ) (bs : List ℕ) → All P xs → All P bs → All P (over xs o bs)
over_all P [] o bs h g = h
over_all P (x ∷ xs) zero [] h g = h
over_all P (x ∷ xs) zero (b ∷ bs) h g =
    All-cons P b (over xs zero bs) (All-head P b bs g) (over_all P xs zero bs (All-tail P x xs h) (All-tail P b bs g))
over_all P (x ∷ xs) (suc o) bs h g = All-cons P x (over xs o bs) (All-head P x xs h) (over_all P xs o bs (All-tail P x xs h) g)

put_small : (o : Option ℕ) (offset : ℕ) (page : List ℕ) → All IsByte page → All IsByte (put_value o offset page)
put_small None offset page h = h
put_small (Some v) offset page h = over_all IsByte page offset (le_bytes 8 v) h (le_bytes_small 8 v)

entries_small : (file is page : List ℕ) → All IsByte page → All IsByte (entries_page file is page)
entries_small file [] page h = h
entries_small file (i ∷ is) page h =
    entries_small file is (entry_page file i page) (put_small (value_in file (area_index page i)) (16 * i + 8) page h)

-- all are bytes
pub saved_small : (n : ℕ) (file page : List ℕ) → All IsByte page → All IsByte (saved_page n file page)
saved_small n file page h = entries_small file (numbers_below n) page h

-- ---- leaving: the entries

-- an entry with the value that the file has of it, or with its own
abbrev pub refreshed_entry : List ℕ → AreaEntry → AreaEntry
refreshed_entry file e = record { index = e.index; value = unwrap_or (value_in file e.index) e.value }

abbrev pub refreshed : List ℕ → List AreaEntry → List AreaEntry
refreshed file [] = []
refreshed file (e ∷ es) = refreshed_entry file e ∷ refreshed file es

-- entry i of a page
abbrev entry_in : List ℕ → ℕ → AreaEntry
entry_in page i = record { index = area_index page i; value = area_value page i }

same_entry : (a b x y : ℕ) → a ≡ x → b ≡ y → ◌≡◌ {A = AreaEntry} (record { index = a; value = b }) (record { index = x; value = y })
same_entry a b x y e f = rw (e, f) refl

entries_more : (n : ℕ) (page : List ℕ) → entries_in (suc n) page ≡ entries_in n page ++ entry_in page n ∷ []
entries_more n page = map-append (entry_in page) (numbers_below n) (n ∷ [])

refreshed-push : (file : List ℕ) (es : List AreaEntry) (e : AreaEntry) → refreshed file (es ++ e ∷ []) ≡ refreshed file es ++ refreshed_entry file e ∷ []
refreshed-push file [] e = refl
refreshed-push file (f ∷ es) e = ap (λ fs. refreshed_entry file f ∷ fs) (refreshed-push file es e)

page-push : (file is : List ℕ) (i : ℕ) (page : List ℕ) → entries_page file (is ++ i ∷ []) page ≡ entry_page file i (entries_page file is page)
page-push file [] i page = refl
page-push file (j ∷ is) i page = page-push file is i (entry_page file j page)

page_more : (n : ℕ) (file page : List ℕ) → saved_page (suc n) file page ≡ entry_page file n (saved_page n file page)
page_more n file page = page-push file (numbers_below n) n page

-- what isn't written stays
put_apart : (o : Option ℕ) (offset : ℕ) (page : List ℕ) (q k : ℕ) → (q + k ≤ offset) ⊎ (offset + 8 ≤ q) → take k (drop q (put_value o offset page)) ≡ take k (drop q page)
put_apart None offset page q k h = refl
put_apart (Some v) offset page q k h =
    over_apart page offset (le_bytes 8 v) q k (subst (λ l. (q + k ≤ offset) ⊎ (offset + l ≤ q)) (sym (length-le_bytes 8 v)) h)

index_kept : (o : Option ℕ) (offset : ℕ) (page : List ℕ) (i : ℕ) → (16 * i + 4 ≤ offset) ⊎ (offset + 8 ≤ 16 * i) → area_index (put_value o offset page) i ≡ area_index page i
unfolding area_index
index_kept o offset page i h = ap le_number (put_apart o offset page (16 * i) 4 h)

value_kept : (o : Option ℕ) (offset : ℕ) (page : List ℕ) (i : ℕ) → (16 * i + 8 + 8 ≤ offset) ⊎ (offset + 8 ≤ 16 * i + 8)
    → area_value (put_value o offset page) i ≡ area_value page i
unfolding area_value
value_kept o offset page i h = ap le_number (put_apart o offset page (16 * i + 8) 8 h)

loaded : (page : List ℕ) (o v : ℕ) → o + 8 ≤ length page → v < 2 ^ 64 → le_number (take 8 (drop o (over page o (le_bytes 8 v)))) ≡ v
loaded page o v h w =
    let len = length-le_bytes 8 v in
    let whole : le_number (le_bytes 8 v) ≡ v % 256 ^ 8 = le_number-le_bytes 8 v in
    ap (λ k. le_number (take k (drop o (over page o (le_bytes 8 v))))) (sym len)
    ∙ (ap le_number (over_itself page o (le_bytes 8 v) (subst (λ k. o + k ≤ length page) (sym len) h)) ∙ omega (arith, whole, w))

-- the value that an entry has then
value_fresh : (o : Option ℕ) (page : List ℕ) (i : ℕ) → ((v : ℕ) → o ≡ Some v → v < 2 ^ 64) → 16 * i + 8 + 8 ≤ length page
    → area_value (put_value o (16 * i + 8) page) i ≡ unwrap_or o (area_value page i)
unfolding area_value
value_fresh None page i h l = refl
value_fresh (Some v) page i h l = loaded page (16 * i + 8) v l (h v refl)

-- behind the entries all stays
behind : (n : ℕ) (file page : List ℕ) (q k : ℕ) → 16 * n ≤ q → take k (drop q (saved_page n file page)) ≡ take k (drop q page)
behind zero file page q k h = refl
behind (suc n) file page q k h =
    ap (λ p. take k (drop q p)) (page_more n file page)
    ∙ (put_apart (value_in file (area_index (saved_page n file page) n)) (16 * n + 8) (saved_page n file page) q k (inr (omega arith))
    ∙ behind n file page q k (omega arith))

index_behind : (n : ℕ) (file page : List ℕ) → area_index (saved_page n file page) n ≡ area_index page n
unfolding area_index
index_behind n file page = ap le_number (behind n file page (16 * n) 4 (omega arith))

value_behind : (n : ℕ) (file page : List ℕ) → area_value (saved_page n file page) n ≡ area_value page n
unfolding area_value
value_behind n file page = ap le_number (behind n file page (16 * n + 8) 8 (omega arith))

-- the entries before stay
entries_before : (n : ℕ) (o : Option ℕ) (offset : ℕ) (page : List ℕ) → 16 * n ≤ offset → entries_in n (put_value o offset page) ≡ entries_in n page
entries_before zero o offset page h = refl
entries_before (suc n) o offset page h =
    entries_more n (put_value o offset page)
    ∙ (ap₂ (λ es e. es ++ e ∷ []) (entries_before n o offset page (omega arith))
    (same_entry _ _ _ _ (index_kept o offset page n (inl (omega arith))) (value_kept o offset page n (inl (omega arith))))
    ∙ sym (entries_more n page))

entry_fresh : (n : ℕ) (file page : List ℕ) → 16 * n + 8 + 8 ≤ length page → FitsFile file
    → entry_in (entry_page file n (saved_page n file page)) n ≡ refreshed_entry file (entry_in page n)
entry_fresh n file page l f =
    let before = saved_page n file page in
    let o = value_in file (area_index before n) in
    same_entry _ _ _ _
    (index_kept o (16 * n + 8) before n (inl (omega arith)) ∙ index_behind n file page)
    (value_fresh o before n (λ v e. value_fits file (area_index before n) v f e) (subst (λ k. 16 * n + 8 + 8 ≤ k) (sym (length-saved n file page)) l)
    ∙ ap₂ (λ i d. unwrap_or (value_in file i) d) (index_behind n file page) (value_behind n file page))

-- the entries of the page have the values of the file
pub entries_saved : (n : ℕ) (file page : List ℕ) → 16 * n ≤ length page → FitsFile file → entries_in n (saved_page n file page) ≡ refreshed file (entries_in n page)
entries_saved zero file page l f = refl
entries_saved (suc n) file page l f =
    let before = saved_page n file page in
    ap (entries_in (suc n)) (page_more n file page)
    ∙ (entries_more n (entry_page file n before)
    ∙ (ap₂ (λ es e. es ++ e ∷ []) (entries_before n (value_in file (area_index before n)) (16 * n + 8) before (omega arith) ∙ entries_saved n file page (omega arith) f)
    (entry_fresh n file page (omega arith) f)
    ∙ sym (ap (refreshed file) (entries_more n page) ∙ refreshed-push file (entries_in n page) (entry_in page n))))

-- with the same indices
pub indices_refreshed : (file : List ℕ) (es : List AreaEntry) → indices (refreshed file es) ≡ indices es
indices_refreshed file [] = refl
indices_refreshed file (e ∷ es) = ap (λ is. e.index ∷ is) (indices_refreshed file es)

fresh_is : (file : List ℕ) (i j d v : ℕ) → j ≡ i → value_in file i ≡ Some v → Some (unwrap_or (value_in file j) d) ≡ value_in file i
fresh_is file i j d v e h = ap (λ k. Some (unwrap_or (value_in file k) d)) e ∙ (ap (λ o. Some (unwrap_or o d)) h ∙ sym h)

-- what an entry has is what the file has
pub refreshed_value : (file : List ℕ) (es : List AreaEntry) (index : ℕ) → length file ≡ most → is_some (msr_slot_of index) ≡ true → is_among (indices es) index ≡ true
    → entry_value (refreshed file es) index ≡ value_in file index
refreshed_value file [] index l s h = absurd (false≢true h)
refreshed_value file (e ∷ es) index l s h =
    elim (cases_eq e.index index) [
      | inl a ↦ let v = value_there file index l s in rw (eq-eqb e.index index a) (fresh_is file index e.index e.value v.0 a v.1)
      | inr n ↦ let g : is_among (indices es) index ≡ true = rw (ne_eqb e.index index n) at h in rw (ne_eqb e.index index n) (refreshed_value file es index l s g)
    ]

-- ---- entering

-- an MSR that no entry names stays
pub filled_other : (es : List AreaEntry) (file : List ℕ) (index : ℕ) → is_among (indices es) index ≡ false → value_in (msrs_loaded es file) index ≡ value_in file index
filled_other [] file index h = refl
filled_other (e ∷ es) file index h =
    elim (cases_eq e.index index) [
      | inl a ↦ absurd (true≢false (rw (eq-eqb e.index index a) at h))
      | inr n ↦ filled_other es (with_msr e.index e.value file) index (rw (ne_eqb e.index index n) at h) ∙ with_msr_other e.index e.value index file (λ q. n (sym q))
    ]

put_is : (file : List ℕ) (j v index : ℕ) → j ≡ index → length file ≡ most → is_some (msr_slot_of index) ≡ true → value_in (with_msr j v file) index ≡ Some v
put_is file j v index e l s = ap (λ k. value_in (with_msr k v file) index) e ∙ with_msr_same index v file l s

-- what the file has then is what the entry has
pub filled_value : (es : List AreaEntry) (file : List ℕ) (index : ℕ) → length file ≡ most → AreDistinctIndices (indices es) → is_among (indices es) index ≡ true
    → is_some (msr_slot_of index) ≡ true → value_in (msrs_loaded es file) index ≡ entry_value es index
filled_value [] file index l d h s = absurd (false≢true h)
filled_value (e ∷ es) file index l d h s =
    let next = with_msr e.index e.value file in
    elim (cases_eq e.index index) [
      | inl a ↦ rw (eq-eqb e.index index a) (filled_other es next index (ap (is_among (indices es)) (sym a) ∙ d.0) ∙ put_is file e.index e.value index a l s)
      | inr n ↦
          let g : is_among (indices es) index ≡ true = rw (ne_eqb e.index index n) at h in
          rw (ne_eqb e.index index n) (filled_value es next index (length-with_msr e.index e.value file ∙ l) d.1 g s)
    ]

-- ---- numbers that fit

abbrev worth : ℕ → ℕ
worth zero = 1
worth (suc n) = 256 * worth n

some_worth : (n : ℕ) → 0 < worth n
some_worth zero = omega arith
some_worth (suc n) = let h = some_worth n in omega (arith, h)

number_below : (n : ℕ) (bytes : List ℕ) → All IsByte bytes → le_number (take n bytes) < worth n
number_below zero bytes h = omega arith
number_below (suc n) [] h = some_worth (suc n)
number_below (suc n) (b ∷ bytes) h =
    let small : b < 256 = All-head IsByte b bytes h in
    let rest = number_below n bytes (All-tail IsByte b bytes h) in
    omega (arith, small, rest)

drop_small : (q : ℕ) (bytes : List ℕ) → All IsByte bytes → All IsByte (drop q bytes)
drop_small zero bytes h = h
drop_small (suc q) [] h = h
drop_small (suc q) (b ∷ bytes) h = drop_small q bytes (All-tail IsByte b bytes h)

value_small : (page : List ℕ) (i : ℕ) → All IsByte page → IsWord (area_value page i)
unfolding area_value
value_small page i h = number_below 8 (drop (16 * i + 8) page) (drop_small (16 * i + 8) page h)

-- the values of the entries fit
pub entries_fit : (n : ℕ) (page : List ℕ) → All IsByte page → All (λ e. IsWord e.value) (entries_in n page)
entries_fit zero page h = All-nil (λ (e : AreaEntry). IsWord e.value)
entries_fit (suc n) page h =
    subst (All (λ (e : AreaEntry). IsWord e.value)) (sym (entries_more n page))
    (All-push (λ (e : AreaEntry). IsWord e.value) (entries_in n page) (entry_in page n) (entries_fit n page h) (value_small page n h))

-- and the file fits after they are loaded
pub filled_fits : (es : List AreaEntry) (file : List ℕ) → All (λ e. IsWord e.value) es → FitsFile file → FitsFile (msrs_loaded es file)
filled_fits [] file h f = f
filled_fits (e ∷ es) file h f =
    filled_fits es (with_msr e.index e.value file) (All-tail (λ (e : AreaEntry). IsWord e.value) e es h) (with_msr_fits e.index e.value file (All-head (λ (e : AreaEntry). IsWord e.value) e es h) f)
