-- Pages of bytes.
use Rattle.std.proofs.Common.{◌≡◌, ℕ, zero, suc, ◌+◌, ◌-◌, ◌*◌, ◌<◌, ◌≤◌, ◌==◌, Bool, true, false, min, List, [], ◌∷◌, ◌++◌, length, take, drop, replicate, get_or, Some, None, refl, sym, ap, ap₂, ◌∙◌, arith}
use Rattle.std.specs.List.{find, zip}
use Rattle.std.proofs.lemmas.Bool.{eq-eqb}
use Rattle.std.proofs.lemmas.Slice.Zip.{get_or-zip, length-zip}
use Rattle.image_pack.specs.declared.parts.SpanPart.{SpanPart}
use Rattle.std.proofs.Math.Nat.{mul-le-mul_left}
use Rattle.std.proofs.Math.Seq.{take-nil}
use Rattle.std.proofs.lemmas.List.{drop_min, drop-replicate, drop-take, take-replicate, take_min, take_rest}

shorter : (m n : ℕ) (xs : List ℕ) → m ≤ n → take m (take n xs) ≡ take m xs
shorter zero n xs l = refl
shorter (suc m) zero xs l = absurd (omega (arith, l))
shorter (suc m) (suc n) [] l = refl
shorter (suc m) (suc n) (x ∷ xs) l = ap (λ ys. x ∷ ys) (shorter m n xs (omega (arith, l)))

-- a page of bytes, which may end before it does
pub cut : (bytes made front : List ℕ) (size start many number page : ℕ) → made ≡ front ++ take many (take (length bytes - start) (drop start bytes)) → front ≡ [] → many ≡ min size (length (take (length bytes - start) (drop start bytes))) → start ≡ min (size * number) (length bytes) → number ≡ page
    → made ≡ take size (drop (size * page) bytes)
cut bytes made front size start many number page is none few from same =
    let rest : take (length bytes - start) (drop start bytes) ≡ drop (size * page) bytes =
    take_rest bytes start ∙ ap (λ n. drop n bytes) from ∙ drop_min (size * number) bytes ∙ ap (λ n. drop (size * n) bytes) same in
    is
    ∙ ap (λ xs. xs ++ take many (take (length bytes - start) (drop start bytes))) none
    ∙ ap (λ n. take n (take (length bytes - start) (drop start bytes))) few
    ∙ take_min size (take (length bytes - start) (drop start bytes))
    ∙ ap (take {A = ℕ} size) rest

-- a page of zeros
pub zeros_page : (size pages page : ℕ) → page < pages → take size (drop (size * page) (replicate {A = ℕ} (size * pages) 0)) ≡ replicate {A = ℕ} size 0
zeros_page size pages page l =
    let more : size * (page + 1) ≤ size * pages = mul-le-mul_left size (omega arith) in
    let fits : size ≤ size * pages - size * page = grind arith in
    ap (λ (xs : List ℕ). take size xs) (drop-replicate {X = ℕ} (size * page) (size * pages) 0) ∙ take-replicate size (size * pages - size * page) 0 fits

-- none is left behind the last
pub no_page : (size pages page : ℕ) → pages ≤ page → take size (drop (size * page) (replicate {A = ℕ} (size * pages) 0)) ≡ []
no_page size pages page l =
    let less : size * pages ≤ size * page = mul-le-mul_left size l in
    let none : size * pages - size * page ≡ 0 = omega (arith, less) in
    ap (λ (xs : List ℕ). take size xs) (drop-replicate {X = ℕ} (size * page) (size * pages) 0 ∙ ap (λ n. replicate {A = ℕ} n 0) none) ∙ take-nil size

-- within the first page nothing is lost
pub within_page : (bytes : List ℕ) (at many size : ℕ) → at + many ≤ size → take many (drop at (take size bytes)) ≡ take many (drop at bytes)
within_page bytes at many size l =
    let n : at + (size - at) ≡ size = omega (arith, l) in
    ap (λ m. take many (drop at (take m bytes))) (sym n) ∙ ap (take many) (drop-take at (size - at) bytes) ∙ shorter many (size - at) (drop at bytes) (omega (arith, l))

-- a list up to a number that is within it
pub first_of : {X : Type 0} (read xs : List X) (n most m : ℕ) → read ≡ xs → n ≡ min most (length read) → most ≡ m → take n read ≡ take m xs
first_of read xs n most m same is many = ap (λ k. take k read) is ∙ take_min most read ∙ ap₂ (λ k ys. take k ys) many same

-- ---- spans by number

-- the first that passes
pub found_at : {X : Type 0} (test : X → Bool) (xs : List X) (k : ℕ) (d : X) → k < length xs → test (get_or xs k d) ≡ true → ((j : ℕ) → j < k → test (get_or xs j d) ≡ false) → find test xs ≡ Some (get_or xs k d)
found_at test [] k d l h before = absurd (omega (arith, l))
found_at test (x ∷ xs) zero d l h before = rw h refl
found_at test (x ∷ xs) (suc k) d l h before = rw (before 0 (omega arith)) (found_at test xs k d (omega (arith, l)) h (λ j m. before (suc j) (omega (arith, m))))

-- none passes
pub none_at : {X : Type 0} (test : X → Bool) (xs : List X) → ((j : ℕ) (d : X) → j < length xs → test (get_or xs j d) ≡ false) → find test xs ≡ None
none_at test [] h = refl
none_at test (x ∷ xs) h = rw (h 0 x (omega arith)) (none_at test xs (λ j d l. h (suc j) d (omega (arith, l))))

-- a span with its bytes
pub span_here : (spans : List SpanPart) (contents : List (List ℕ)) (number k : ℕ) (s : SpanPart) (bytes : List ℕ) → k < length spans → k < length contents → s ≡ get_or spans k s → bytes ≡ get_or contents k bytes → s.number ≡ number
    → ((j : ℕ) (d : SpanPart) → j < k → ((get_or spans j d).number == number) ≡ false) → Some (s, bytes) ≡ find (λ (e : SpanPart × List ℕ). e.0.number == number) (zip spans contents)
span_here spans contents number k s bytes l m is are h before =
    let d : SpanPart × List ℕ = (s, bytes) in
    let here : get_or (zip spans contents) k d ≡ (s, bytes) = get_or-zip spans contents k d l m ∙ (λ i. (sym is i, sym are i)) in
    let long : k < length (zip spans contents) = omega (arith, l, m, length-zip spans contents) in
    let found = found_at (λ (e : SpanPart × List ℕ). e.0.number == number) (zip spans contents) k d long (ap (λ (e : SpanPart × List ℕ). e.0.number == number) here ∙ eq-eqb s.number number h)
    (λ j low. ap (λ (e : SpanPart × List ℕ). e.0.number == number) (get_or-zip spans contents j d (omega (arith, low, l)) (omega (arith, low, m))) ∙ before j s low) in
    sym (found ∙ ap Some here)

pub no_span : (spans : List SpanPart) (contents : List (List ℕ)) (number k : ℕ) → min (length spans) (length contents) ≤ k → ((j : ℕ) (d : SpanPart) → j < k → ((get_or spans j d).number == number) ≡ false) → None ≡ find (λ (e : SpanPart × List ℕ). e.0.number == number) (zip spans contents)
no_span spans contents number k all before =
    sym (none_at (λ (e : SpanPart × List ℕ). e.0.number == number) (zip spans contents)
    (λ j d l.
    let n : j < min (length spans) (length contents) = omega (arith, l, length-zip spans contents) in
    let a : j < length spans = omega (arith, n) in
    let b : j < length contents = omega (arith, n) in
    ap (λ (e : SpanPart × List ℕ). e.0.number == number) (get_or-zip spans contents j d a b) ∙ before j d.0 (omega (arith, n, all))))
