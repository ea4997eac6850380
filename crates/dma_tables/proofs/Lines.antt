-- The writes of a line: where its pages lead decides where each of its bytes goes.
use Rattle.std.proofs.Common.{◌≡◌, ◌∙◌, refl, sym, ap, arith, ℕ, ◌+◌, ◌-◌, ◌*◌, ◌/◌, ◌%◌, ◌<◌, ◌≤◌, ◌&&◌, Bool, true, false, le-leb, List, [], ◌∷◌, length, map, take, drop, Option, Some, None, if◌then◌else◌}
use Rattle.std.specs.Prelude.{is_some, nat_le, unwrap_or}
use Rattle.std.specs.List.{enumerate_from, list_all}
use Rattle.std.proofs.lemmas.Bool.{and_parts, leb-true, lt-leb}
use Rattle.std.proofs.Math.Bool.{and-true}
use Rattle.std.proofs.lemmas.List.{length-take, length-drop, take-append-drop}
use Rattle.std.proofs.lemmas.List.Folds.{list_all-append}
use Rattle.muen_num.proofs.Lists.{numbered_append}
use Rattle.muen_num.specs.declared.limits.TheConstants.{PAGE}
use Rattle.device_bench.specs.declared.effect.Effect.TheVariants.{Mem}
use Rattle.record_text.specs.declared.record.TheConstants.{INPUT_MOST}
use Rattle.dma_tables.specs.LineWrites.{byte_going, one_write, two_writes}
use Rattle.dma_tables.specs.Lowered.{all_go, is_line, left_in_page, line_writes}
use Rattle.dma_tables.proofs.ByPages.{IsByPage, along}

-- ---- bytes in one page

along_some : (addr : ℕ) (o : Option ℕ) → is_some (along addr o) ≡ is_some o
along_some addr None = refl
along_some addr (Some p) = refl

in_page : (k a : ℕ) → PAGE * k ≤ a → a < PAGE * k + PAGE → a / PAGE ≡ k
in_page k a low high = omega (arith, low, high)

goes_as : (go : ℕ → Option ℕ) (b : IsByPage go) (k a : ℕ) → PAGE * k ≤ a → a < PAGE * k + PAGE → go a ≡ along a (b.page k)
goes_as go b k a low high = b.is a ∙ ap (λ n. along a (b.page n)) (in_page k a low high)

pub goes_some : (go : ℕ → Option ℕ) (b : IsByPage go) (k a : ℕ) → PAGE * k ≤ a → a < PAGE * k + PAGE → is_some (go a) ≡ is_some (b.page k)
goes_some go b k a low high = ap is_some (goes_as go b k a low high) ∙ along_some a (b.page k)

twice : (a b c : Bool) → a ≡ c → b ≡ c → (a && b) ≡ c
twice a b true e f = rw (e, f) refl
twice a b false e f = rw e refl

-- they all go somewhere, or none does
pub all_as_one : (go : ℕ → Option ℕ) (b : IsByPage go) (k a : ℕ) (bytes : List ℕ) → 1 ≤ length bytes → PAGE * k ≤ a → a + length bytes ≤ PAGE * k + PAGE → all_go go a bytes ≡ is_some (b.page k)
all_as_one go b k a [] some low high = absurd (omega (arith, some))
all_as_one go b k a (x ∷ []) some low high =
    let here = goes_some go b k a low (omega (arith, high)) in
    rw here (and-true (is_some (b.page k)))
all_as_one go b k a (x ∷ y ∷ bytes) some low high =
    twice (is_some (go a)) (all_go go (a + 1) (y ∷ bytes)) (is_some (b.page k)) (goes_some go b k a low (omega (arith, high)))
    (all_as_one go b k (a + 1) (y ∷ bytes) (omega arith) (omega (arith, low)) (omega (arith, high)))

going : (go : ℕ → Option ℕ) (k a p at : ℕ) (o : Option ℕ) → go a ≡ along a o → o ≡ Some p → at ≡ PAGE * p + a % PAGE → at ≡ unwrap_or (go a) 0
going go k a p at o e f g = g ∙ sym (ap (λ q. unwrap_or q 0) (e ∙ ap (along a) f))

-- each byte goes to its own place
pub bytes_as_one : (go : ℕ → Option ℕ) (b : IsByPage go) (k a p at : ℕ) (bytes : List ℕ) → b.page k ≡ Some p → at + PAGE * k ≡ PAGE * p + a → PAGE * k ≤ a → a + length bytes ≤ PAGE * k + PAGE
    → enumerate_from at bytes ≡ map (byte_going go) (enumerate_from a bytes)
bytes_as_one go b k a p at [] e there low high = refl
bytes_as_one go b k a p at (x ∷ bytes) e there low high =
    let here : at ≡ unwrap_or (go a) 0 = going go k a p at (b.page k) (goes_as go b k a low (omega (arith, high))) e (omega (arith, there, low, high)) in
    let rest = bytes_as_one go b k (a + 1) p (at + 1) bytes e (omega (arith, there)) (omega (arith, low)) (omega (arith, high)) in
    ap (λ n. (n, x) ∷ enumerate_from (at + 1) bytes) here ∙ ap (λ es. (unwrap_or (go a) 0, x) ∷ es) rest

-- ---- which lines there are

pub line_length : (bytes : List ℕ) → is_line bytes ≡ true → (1 ≤ length bytes) × (length bytes ≤ 64)
line_length bytes line =
    let h = and_parts (nat_le 1 (length bytes)) (nat_le (length bytes) INPUT_MOST) line in
    (leb-true 1 (length bytes) h.0, leb-true (length bytes) INPUT_MOST h.1)

pub no_line : (go : ℕ → Option ℕ) (addr : ℕ) (bytes : List ℕ) → is_line bytes ≡ false → unwrap_or (line_writes go addr bytes) [] ≡ []
unfolding line_writes
no_line go addr bytes line = rw line refl

pub line_dropped : (go : ℕ → Option ℕ) (addr : ℕ) (bytes : List ℕ) → is_line bytes ≡ true → go addr ≡ None → unwrap_or (line_writes go addr bytes) [] ≡ []
unfolding line_writes
line_dropped go addr [] line none = refl
line_dropped go addr (x ∷ bytes) line none = rw (line, none) refl

-- ---- a line in one page

one_shown : (go : Option ℕ) (bytes : List ℕ) → unwrap_or (if is_some go then Some (Mem (unwrap_or go 0) bytes ∷ []) else None) [] ≡ one_write go bytes
one_shown None bytes = refl
one_shown (Some at) bytes = refl

pub line_in_one : (go : ℕ → Option ℕ) (b : IsByPage go) (addr : ℕ) (bytes : List ℕ) → is_line bytes ≡ true → length bytes ≤ left_in_page addr → unwrap_or (line_writes go addr bytes) [] ≡ one_write (go addr) bytes
unfolding line_writes
line_in_one go b addr bytes line few =
    let some : 1 ≤ length bytes = (line_length bytes line).0 in
    let k : ℕ = addr / PAGE in
    let all : all_go go addr bytes ≡ is_some (b.page k) = all_as_one go b k addr bytes some (omega arith) (omega (arith, few)) in
    let one : is_some (go addr) ≡ is_some (b.page k) = goes_some go b k addr (omega arith) (omega arith) in
    rw (line, all ∙ sym one, le-leb (length bytes) (left_in_page addr) few) (one_shown (go addr) bytes)

-- ---- a line in two pages

two_shown : (go next : Option ℕ) (front back : List ℕ)
    → unwrap_or (if is_some go && is_some next then Some (Mem (unwrap_or go 0) front ∷ Mem (unwrap_or next 0) back ∷ []) else None) [] ≡ two_writes go front next back
two_shown None next front back = refl
two_shown (Some at) None front back = refl
two_shown (Some at) (Some to) front back = refl

pub all_split : (go : ℕ → Option ℕ) (addr n : ℕ) (bytes : List ℕ) → n ≤ length bytes → all_go go addr bytes ≡ (all_go go addr (take n bytes) && all_go go (addr + n) (drop n bytes))
all_split go addr n bytes many =
    let front : length (take n bytes) ≡ n = omega (arith, length-take n bytes) in
    ap (all_go go addr) (sym (take-append-drop n bytes))
    ∙ ap (list_all (λ e. is_some (go e.0))) (numbered_append addr (take n bytes) (drop n bytes))
    ∙ list_all-append (λ e. is_some (go e.0)) (enumerate_from addr (take n bytes)) (enumerate_from (addr + length (take n bytes)) (drop n bytes))
    ∙ ap (λ k. all_go go addr (take n bytes) && all_go go (addr + k) (drop n bytes)) front

-- what is known of a line's two parts
pub record HasTwo (go : ℕ → Option ℕ) (addr : ℕ) (bytes : List ℕ) : Type 0 where
  pub front : 1 ≤ length (take (left_in_page addr) bytes)
  pub front_in : addr + length (take (left_in_page addr) bytes) ≤ PAGE * (addr / PAGE) + PAGE
  pub back : 1 ≤ length (drop (left_in_page addr) bytes)
  pub begins : addr + left_in_page addr ≡ PAGE * (addr / PAGE + 1)
  pub back_in : addr + left_in_page addr + length (drop (left_in_page addr) bytes) ≤ PAGE * (addr / PAGE + 1) + PAGE

pub has_two : (go : ℕ → Option ℕ) (addr : ℕ) (bytes : List ℕ) → left_in_page addr < length bytes → length bytes ≤ 64 → HasTwo go addr bytes
has_two go addr bytes long few =
    let n : ℕ = left_in_page addr in
    let front : length (take n bytes) ≡ n = omega (arith, long, length-take n bytes) in
    let back : length (drop n bytes) ≡ length bytes - n = omega (arith, length-drop n bytes) in
    record {
      front = omega (arith, front);
      front_in = omega (arith, front);
      back = omega (arith, back, long);
      begins = omega arith;
      back_in = omega (arith, back, few);
    }

pub line_in_two : (go : ℕ → Option ℕ) (b : IsByPage go) (addr : ℕ) (bytes : List ℕ) → left_in_page addr < length bytes → is_line bytes ≡ true
    → unwrap_or (line_writes go addr bytes) [] ≡ two_writes (go addr) (take (left_in_page addr) bytes) (go (addr + left_in_page addr)) (drop (left_in_page addr) bytes)
unfolding line_writes
line_in_two go b addr bytes long line =
    let few : length bytes ≤ 64 = (line_length bytes line).1 in
    let n : ℕ = left_in_page addr in
    let k : ℕ = addr / PAGE in
    let two = has_two go addr bytes long few in
    let front : all_go go addr (take n bytes) ≡ is_some (go addr) =
    all_as_one go b k addr (take n bytes) two.front (omega arith) two.front_in ∙ sym (goes_some go b k addr (omega arith) (omega arith)) in
    let back : all_go go (addr + n) (drop n bytes) ≡ is_some (go (addr + n)) =
    all_as_one go b (k + 1) (addr + n) (drop n bytes) two.back (omega arith) two.back_in ∙ sym (goes_some go b (k + 1) (addr + n) (omega arith) (omega arith)) in
    rw (line, all_split go addr n bytes (omega (arith, long)), front, back, lt-leb (length bytes) n long) (two_shown (go addr) (go (addr + n)) (take n bytes) (drop n bytes))
