-- Laws of areas of MSRs.
use Rattle.std.proofs.Common.{◌≡◌, ◌∙◌, ap, sym, refl, ℕ, suc, ◌+◌, ◌-◌, ◌*◌, ◌/◌, ◌<◌, ◌≤◌, ◌^◌, List, [], ◌∷◌, ◌++◌, length, map, get_or, take, arith, append_assoc, append-nil, length-append, flat_map, ap₂}
use Rattle.std.proofs.lemmas.List.{take_more, map-append, length-map, take_all}
use Rattle.std.proofs.lemmas.Grind.{flat_map-append}
use Rattle.std.proofs.lemmas.List.Sums.{sum_by-cons, sum_by_more, sum_by_more_le}
use Rattle.muen_num.specs.Range.{numbers_below}
use Rattle.muen_num.proofs.NumbersBelow.{length_numbers}
use Rattle.machine_layout.specs.Exits.{AreaEntry, area_bytes, entry_bytes, entry_size}
use Rattle.machine_layout.specs.Memory.{le_bytes, over}
use Rattle.machine_layout.specs.PageFields.{padded}
use Rattle.machine_layout.proofs.PageFieldLaws.{over_padded, length-le_bytes}
use Rattle.machine_layout.proofs.AreaLaws.{length-area}
use Rattle.policy_types.specs.declared.resources.MsrGrant.{MsrGrant}
use Rattle.msrbm_emit.specs.Area.{area_of, msr_count, grant_area_entries, zero_area_entry, size_of}

-- an entry of an MSR in two words
entry_words : (index : ℕ) → index < 2 ^ 32 → entry_bytes (zero_area_entry index) ≡ le_bytes 8 index ++ le_bytes 8 0
unfolding entry_bytes
entry_words index h = let none : index / 256 / 256 / 256 / 256 ≡ 0 = omega arith in rw none refl

-- one more entry behind those that are there
pub entry_put : (size at index : ℕ) (front old mid new : List ℕ) → index < 2 ^ 32 → length front ≡ at → at + entry_size ≤ size → old ≡ padded size front → mid ≡ over old at (le_bytes 8 index) → new ≡ over mid (at + 8) (le_bytes 8 0) → new ≡ padded size (front ++ entry_bytes (zero_area_entry index))
entry_put size at index front old mid new small long room p q r =
    let words : List ℕ = le_bytes 8 index in
    let first : mid ≡ padded size (front ++ words) = q ∙ (ap (λ x. over x at words) p ∙ over_padded size front words at (sym long) (omega (arith, long, length-le_bytes 8 index))) in
    let more : length (front ++ words) ≡ at + 8 = omega (arith, length-append front words, length-le_bytes 8 index, long) in
    r ∙ (ap (λ x. over x (at + 8) (le_bytes 8 0)) first ∙ (over_padded size (front ++ words) (le_bytes 8 0) (at + 8) (sym more) (omega (arith, more, length-le_bytes 8 0)) ∙ ap (padded size) (append_assoc front words (le_bytes 8 0) ∙ ap (λ x. front ++ x) (sym (entry_words index small)))))

-- ---- a grant's entries

-- those of the first MSRs of a grant that begins here
abbrev pub front_of : ℕ → ℕ → List AreaEntry
front_of start n = map (λ k. zero_area_entry (start + k)) (numbers_below n)

length-front_of : (start n : ℕ) → length (front_of start n) ≡ n
length-front_of start n = length-map (numbers_below n) (λ k. zero_area_entry (start + k)) ∙ length_numbers n

area_push : (es : List AreaEntry) (e : AreaEntry) → area_bytes (es ++ e ∷ []) ≡ area_bytes es ++ entry_bytes e
area_push es e = flat_map-append entry_bytes es (e ∷ []) ∙ ap (λ x. area_bytes es ++ x) (append-nil (entry_bytes e))

front_more : (start i : ℕ) → start ≤ i → front_of start (i + 1 - start) ≡ front_of start (i - start) ++ zero_area_entry i ∷ []
front_more start i h =
    let next : i + 1 - start ≡ suc (i - start) = omega arith in
    let here : start + (i - start) ≡ i = omega arith in
    ap (front_of start) next ∙ (map-append (λ k. zero_area_entry (start + k)) (numbers_below (i - start)) ((i - start) ∷ []) ∙ ap (λ k. front_of start (i - start) ++ zero_area_entry k ∷ []) here)

-- one more entry of a grant
pub range_step : (size long at start i end : ℕ) (area new front : List ℕ) → long ≡ size → start ≤ i → end ≡ at + entry_size * (i - start) → length front ≡ at → area ≡ padded size (front ++ area_bytes (front_of start (i - start))) → ((f : List ℕ) → length f ≡ end → area ≡ padded long f → new ≡ padded long (f ++ entry_bytes (zero_area_entry i))) → new ≡ padded size (front ++ area_bytes (front_of start (i + 1 - start)))
range_step size long at start i end area new front same h offset fits p put =
    let so_far : List ℕ = front ++ area_bytes (front_of start (i - start)) in
    let ends : length so_far ≡ end = omega (arith, length-append front (area_bytes (front_of start (i - start))), length-area (front_of start (i - start)), length-front_of start (i - start), fits, offset) in
    let after : new ≡ padded long (so_far ++ entry_bytes (zero_area_entry i)) = put so_far ends (rw same p) in
    after ∙ (ap (λ n. padded n (so_far ++ entry_bytes (zero_area_entry i))) same ∙ ap (padded size) (append_assoc front _ _ ∙ ap (λ x. front ++ x) (sym (area_push (front_of start (i - start)) (zero_area_entry i)) ∙ ap area_bytes (sym (front_more start i h)))))

pub range_begins : (start : ℕ) (front : List ℕ) → front ≡ front ++ area_bytes (front_of start (start - start))
range_begins start front = let none : start - start ≡ 0 = omega arith in rw none (sym (append-nil front))

pub range_ends : (m : MsrGrant) (i : ℕ) → m.end + 1 ≤ i → i - m.start ≤ size_of m → front_of m.start (i - m.start) ≡ grant_area_entries m
unfolding grant_area_entries
range_ends m i h l = let e : i - m.start ≡ size_of m = omega arith in ap (front_of m.start) e

-- ---- grant by grant

pub length-entries_of : (m : MsrGrant) → length (grant_area_entries m) ≡ size_of m
unfolding grant_area_entries
length-entries_of m = length-front_of m.start (size_of m)

pub length-area_of : (msrs : List MsrGrant) → length (area_of msrs) ≡ msr_count msrs
unfolding area_of msr_count
length-area_of [] = refl
length-area_of (m ∷ msrs) = length-append (grant_area_entries m) (area_of msrs) ∙ (ap₂ (λ a b. a + b) (length-entries_of m) (length-area_of msrs) ∙ sym (sum_by-cons size_of m msrs))

pub count_more : (msrs : List MsrGrant) (i : ℕ) (d : MsrGrant) → i < length msrs → msr_count (take (i + 1) msrs) ≡ msr_count (take i msrs) + size_of (get_or msrs i d)
unfolding msr_count
count_more msrs i d h = sum_by_more size_of msrs i d h

-- there is room for one more grant
pub count_within : (msrs : List MsrGrant) (i : ℕ) (d : MsrGrant) → i < length msrs → msr_count (take i msrs) + size_of (get_or msrs i d) ≤ msr_count msrs
unfolding msr_count
count_within msrs i d h = sum_by_more_le size_of msrs i d h

area_more : (msrs : List MsrGrant) (i : ℕ) (d : MsrGrant) → i < length msrs → area_of (take (i + 1) msrs) ≡ area_of (take i msrs) ++ grant_area_entries (get_or msrs i d)
unfolding area_of
area_more msrs i d h =
    ap (flat_map grant_area_entries) (take_more msrs i d h) ∙ (flat_map-append grant_area_entries (take i msrs) (get_or msrs i d ∷ []) ∙ ap (λ x. flat_map grant_area_entries (take i msrs) ++ x) (append-nil (grant_area_entries (get_or msrs i d))))

-- where the entries of one more grant end
pub end_step : (msrs : List MsrGrant) (i end new : ℕ) (d : MsrGrant) → i < length msrs → end ≡ entry_size * msr_count (take i msrs) → new ≡ end + entry_size * size_of (get_or msrs i d) → new ≡ entry_size * msr_count (take (i + 1) msrs)
end_step msrs i end new d h p q = omega (arith, p, q, count_more msrs i d h)

pub room_for : (msrs : List MsrGrant) (i end room : ℕ) (d : MsrGrant) → i < length msrs → end ≡ entry_size * msr_count (take i msrs) → msr_count msrs ≤ 64 → room ≡ 4096 → end + entry_size * size_of (get_or msrs i d) ≤ room
room_for msrs i end room d h p few e = omega (arith, p, count_within msrs i d h)

-- the entries of one more grant
pub area_step : (size long : ℕ) (msrs : List MsrGrant) (i end : ℕ) (d : MsrGrant) (area new : List ℕ) → i < length msrs → long ≡ size → end ≡ entry_size * msr_count (take i msrs) → area ≡ padded size (area_bytes (area_of (take i msrs))) → ((front : List ℕ) → length front ≡ end → area ≡ padded long front → new ≡ padded long (front ++ area_bytes (grant_area_entries (get_or msrs i d)))) → new ≡ padded size (area_bytes (area_of (take (i + 1) msrs)))
area_step size long msrs i end d area new h same offset p put =
    let so_far : List ℕ = area_bytes (area_of (take i msrs)) in
    let ends : length so_far ≡ end = omega (arith, length-area (area_of (take i msrs)), length-area_of (take i msrs), offset) in
    let after : new ≡ padded long (so_far ++ area_bytes (grant_area_entries (get_or msrs i d))) = put so_far ends (rw same p) in
    let joined : area_bytes (area_of (take (i + 1) msrs)) ≡ so_far ++ area_bytes (grant_area_entries (get_or msrs i d)) = ap area_bytes (area_more msrs i d h) ∙ flat_map-append entry_bytes _ _ in
    after ∙ (ap (λ n. padded n (so_far ++ area_bytes (grant_area_entries (get_or msrs i d)))) same ∙ ap (padded size) (sym joined))

pub area_all : (size long : ℕ) (msrs : List MsrGrant) (i : ℕ) (area : List ℕ) → length msrs ≤ i → long ≡ size → area ≡ padded long (area_bytes (area_of (take i msrs))) → area ≡ padded size (area_bytes (area_of msrs))
area_all size long msrs i area h same p = rw (← same, ← take_all i msrs h) p
