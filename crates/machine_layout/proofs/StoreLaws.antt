-- What a store leaves as it was, and what is loaded after it.
use Rattle.std.proofs.Common.{◌≡◌, ◌⊎◌, inl, inr, ℕ, zero, suc, ◌+◌, ◌*◌, ◌/◌, ◌%◌, ◌^◌, ◌<◌, ◌≤◌, List, [], ◌∷◌, length, take, drop, Option, Some, None, refl, sym, ap, subst, ◌∙◌, arith}
use Rattle.std.specs.Prelude.{option_map}
use Rattle.std.proofs.lemmas.Bool.{cases_eq}
use Rattle.std.proofs.Math.Nat.{mod-one, one-le-pow, pow-suc}
use Rattle.std.proofs.Math.Arith.{mod-mul}
use borrow.Rule.Slice.PartMut.{put_mid}
use Rattle.machine_layout.specs.Memory.{Page, page_of, change, over, read, write, le_number, le_bytes, load_of, store_of}
use Rattle.machine_layout.specs.Laws.{OtherBytesStay, TheStoredIsLoaded, LengthsStay, StoresDifferInTheirBytes}
use Rattle.machine_layout.proofs.PageLaws.{page_of-change_other, page_of-change_same, is_there-change}
use Rattle.machine_layout.proofs.PageFieldLaws.{length-le_bytes}

-- where it has room, it is the part before, the bytes, and the part after
pub over_is : (xs : List ℕ) (o : ℕ) (bs : List ℕ) → o + length bs ≤ length xs → over xs o bs ≡ put_mid o (length bs) xs bs
over_is [] zero [] h = refl
over_is [] zero (b ∷ bs) h = absurd (omega arith)
over_is [] (suc o) bs h = absurd (omega arith)
over_is (x ∷ xs) zero [] h = refl
over_is (x ∷ xs) zero (b ∷ bs) h = ap (λ ys. b ∷ ys) (over_is xs zero bs (omega arith))
over_is (x ∷ xs) (suc o) bs h = ap (λ ys. x ∷ ys) (over_is xs o bs (omega arith))

-- a part of a frame that was spelt over
pub spelt : (xs ys : List ℕ) (o n k v : ℕ) → o + n ≤ length xs → k ≡ n → ys ≡ le_bytes n v → put_mid o k xs ys ≡ over xs o (le_bytes n v)
spelt xs ys o n k v h e f =
    let len = length-le_bytes n v in
    rw (e, f) (sym (over_is xs o (le_bytes n v) (omega (arith, len)) ∙ ap (λ j. put_mid o j xs (le_bytes n v)) len))

-- a part without the bytes stays
pub over_apart : (xs : List ℕ) (o : ℕ) (bs : List ℕ) (q n : ℕ) → (q + n ≤ o) ⊎ (o + length bs ≤ q) → take n (drop q (over xs o bs)) ≡ take n (drop q xs)
over_apart [] o bs q n h = refl
over_apart (x ∷ xs) zero [] q n h = refl
over_apart (x ∷ xs) zero (b ∷ bs) zero zero h = refl
over_apart (x ∷ xs) zero (b ∷ bs) zero (suc n) (inl h) = absurd (omega arith)
over_apart (x ∷ xs) zero (b ∷ bs) zero (suc n) (inr h) = absurd (omega arith)
over_apart (x ∷ xs) zero (b ∷ bs) (suc q) n (inl h) = absurd (omega arith)
over_apart (x ∷ xs) zero (b ∷ bs) (suc q) n (inr h) = over_apart xs zero bs q n (inr (omega arith))
over_apart (x ∷ xs) (suc o) bs zero zero h = refl
over_apart (x ∷ xs) (suc o) bs zero (suc n) (inl h) = ap (λ ys. x ∷ ys) (over_apart xs o bs zero n (inl (omega arith)))
over_apart (x ∷ xs) (suc o) bs zero (suc n) (inr h) = absurd (omega arith)
over_apart (x ∷ xs) (suc o) bs (suc q) n (inl h) = over_apart xs o bs q n (inl (omega arith))
over_apart (x ∷ xs) (suc o) bs (suc q) n (inr h) = over_apart xs o bs q n (inr (omega arith))

option_map-over : (o : Option (List ℕ)) (f g : List ℕ → List ℕ) → ((x : List ℕ) → f (g x) ≡ f x) → option_map f (option_map g o) ≡ option_map f o
option_map-over None f g h = refl
option_map-over (Some x) f g h = ap Some (h x)

same_page : (q n at l : ℕ) → q / 4096 ≡ at / 4096 → (q + n ≤ at) ⊎ (at + l ≤ q) → (q % 4096 + n ≤ at % 4096) ⊎ (at % 4096 + l ≤ q % 4096)
same_page q n at l e (inl h) = inl (omega arith)
same_page q n at l e (inr h) = inr (omega arith)

-- n bytes that no byte of a write is among
pub read-write_apart : (m : List Page) (at : ℕ) (bs : List ℕ) (q n : ℕ) → (q + n ≤ at) ⊎ (at + length bs ≤ q) → read (write m at bs) q n ≡ read m q n
read-write_apart m at bs q n h =
    let part : List ℕ → List ℕ = λ x. take n (drop (q % 4096) x) in
    let new : List ℕ → List ℕ = λ x. over x (at % 4096) bs in
    elim (cases_eq (q / 4096) (at / 4096)) [ inl e ↦ ap (λ k. option_map part (page_of (change m (at / 4096) new) k)) e ∙ (ap (option_map part) (page_of-change_same m (at / 4096) new) ∙ (option_map-over (page_of m (at / 4096)) part new (λ x. over_apart x (at % 4096) bs (q % 4096) n (same_page q n at (length bs) e h)) ∙ ap (λ k. option_map part (page_of m k)) (sym e))) | inr ne ↦ ap (option_map part) (page_of-change_other m (at / 4096) new (q / 4096) ne) ]

-- a word that no byte of a store is among
pub load-store_apart : (m : List Page) (at w v q n : ℕ) → (q + n ≤ at) ⊎ (at + w ≤ q) → load_of (store_of m at w v) q n ≡ load_of m q n
load-store_apart m at w v q n h =
    ap (option_map le_number) (read-write_apart m at (le_bytes w v) q n (subst (λ l. (q + n ≤ at) ⊎ (at + l ≤ q)) (sym (length-le_bytes w v)) h))

over_front : (xs : List ℕ) (o : ℕ) (bs : List ℕ) (n : ℕ) → o + length bs ≤ n → take n (over xs o bs) ≡ over (take n xs) o bs
over_front [] o bs zero h = refl
over_front [] o bs (suc n) h = refl
over_front (x ∷ xs) zero [] zero h = refl
over_front (x ∷ xs) zero [] (suc n) h = refl
over_front (x ∷ xs) zero (b ∷ bs) zero h = absurd (omega arith)
over_front (x ∷ xs) zero (b ∷ bs) (suc n) h = ap (λ ys. b ∷ ys) (over_front xs zero bs n (omega arith))
over_front (x ∷ xs) (suc o) bs zero h = absurd (omega arith)
over_front (x ∷ xs) (suc o) bs (suc n) h = ap (λ ys. x ∷ ys) (over_front xs o bs n (omega arith))

-- a part that has all the bytes
pub over_part : (xs : List ℕ) (o : ℕ) (bs : List ℕ) (q n d : ℕ) → o ≡ q + d → d + length bs ≤ n → take n (drop q (over xs o bs)) ≡ over (take n (drop q xs)) d bs
over_part xs o bs zero n d e h =
    let same : o ≡ d = omega arith in
    rw same (over_front xs d bs n h)
over_part [] o bs (suc q) zero d e h = refl
over_part [] o bs (suc q) (suc n) d e h = refl
over_part (x ∷ xs) zero bs (suc q) n d e h = absurd (omega arith)
over_part (x ∷ xs) (suc o) bs (suc q) n d e h = over_part xs o bs q n d (omega arith) h

-- ---- what is loaded after a store

pub length-over : (xs : List ℕ) (o : ℕ) (bs : List ℕ) → length (over xs o bs) ≡ length xs
length-over [] o bs = refl
length-over (x ∷ xs) zero [] = refl
length-over (x ∷ xs) zero (b ∷ bs) = ap suc (length-over xs zero bs)
length-over (x ∷ xs) (suc o) bs = ap suc (length-over xs o bs)

-- the part that was written
pub over_itself : (xs : List ℕ) (o : ℕ) (bs : List ℕ) → o + length bs ≤ length xs → take (length bs) (drop o (over xs o bs)) ≡ bs
over_itself xs zero [] h = refl
over_itself [] zero (b ∷ bs) h = absurd (omega arith)
over_itself [] (suc o) bs h = absurd (omega arith)
over_itself (x ∷ xs) zero (b ∷ bs) h = ap (λ ys. b ∷ ys) (over_itself xs zero bs (omega arith))
over_itself (x ∷ xs) (suc o) bs h = over_itself xs o bs (omega arith)

pub le_number-le_bytes : (n v : ℕ) → le_number (le_bytes n v) ≡ v % 256 ^ n
le_number-le_bytes zero v = sym (mod-one v)
le_number-le_bytes (suc n) v =
    let ih = le_number-le_bytes n (v / 256) in
    let some : 0 < 256 ^ n = one-le-pow n 256 (omega arith) in
    let parts : v % (256 ^ n * 256) ≡ (v / 256 % 256 ^ n) * 256 + v % 256 = mod-mul v some (omega arith) in
    rw (ih, pow-suc 256 n, parts) (omega arith)

loaded : (old : List ℕ) (o n v : ℕ) → o + n ≤ length old → le_number (take n (drop o (over old o (le_bytes n v)))) ≡ v % 256 ^ n
loaded old o n v h =
    let len = length-le_bytes n v in
    ap (λ j. le_number (take j (drop o (over old o (le_bytes n v))))) (sym len) ∙ (ap le_number (over_itself old o (le_bytes n v) (omega (arith, len))) ∙ le_number-le_bytes n v)

-- ---- the statements

pub other_bytes_stay : OtherBytesStay
other_bytes_stay = load-store_apart

pub the_stored_is_loaded : TheStoredIsLoaded
the_stored_is_loaded m at n v page there room =
    let part : List ℕ → ℕ = λ x. le_number (take n (drop (at % 4096) x)) in
    let changed = page_of-change_same m (at / 4096) (λ old. over old (at % 4096) (le_bytes n v)) in
    rw (changed, there) (ap Some (loaded page (at % 4096) n v room))

lengths : (o : Option (List ℕ)) (f : List ℕ → List ℕ) → ((x : List ℕ) → length (f x) ≡ length x) → option_map length (option_map f o) ≡ option_map length o
lengths None f h = refl
lengths (Some x) f h = ap Some (h x)

pub lengths_stay : LengthsStay
lengths_stay m at n v k =
    let new : List ℕ → List ℕ = λ x. over x (at % 4096) (le_bytes n v) in
    elim (cases_eq k (at / 4096)) [ inl e ↦ rw e (ap (option_map length) (page_of-change_same m (at / 4096) new) ∙ lengths (page_of m (at / 4096)) new (λ x. length-over x (at % 4096) (le_bytes n v))) | inr ne ↦ ap (option_map length) (page_of-change_other m (at / 4096) new k ne) ]

pub stores_differ_in_their_bytes : StoresDifferInTheirBytes
stores_differ_in_their_bytes m at n v =
    record {
      entries = λ q h. load-store_apart m at n v q 8 h;
      there = is_there-change m _ _;
    }
