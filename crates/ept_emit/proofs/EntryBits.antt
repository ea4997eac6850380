-- What the bits of an entry say.
use Rattle.std.proofs.Common.{◌≡◌, inl, inr, ℕ, zero, suc, ◌+◌, ◌*◌, ◌%◌, ◌^◌, ◌<◌, ◌==◌, ◌||◌, ◌&&◌, true, false, Bool, Some, refl, ap, sym, ◌∙◌, arith}
use Rattle.std.specs.Prelude.{bit_and, nat_lt, not, if◌then◌else◌}
use Rattle.std.proofs.lemmas.Bool.{cases_Bool, or_from, or_right, and_from, and_right, lt-ltb, eq-eqb, ne_eqb, not_from_true}
use Rattle.std.proofs.lemmas.Nat.{and_mask, and_comm}
use Rattle.machine_layout.specs.declared.walk.Walk.{Walk}
use Rattle.machine_layout.specs.declared.walk.Walk.TheVariants.{Violation, Misconfigured}
use Rattle.machine_layout.specs.Walks.{entry_size, bits_of, is_present, is_leaf, is_misconfigured, has_lone_rights, has_no_type, is_misaligned, has_reserved, is_beyond, reads, leaf_end, goes_on}
use Rattle.policy_types.specs.Rights.{rights_bits}
use Rattle.policy_types.specs.declared.rights.Rights.{Rights}
use Rattle.policy_types.specs.declared.rights.Rights.TheVariants.{R, Rw, Rx, Rwx}
use Rattle.policy_types.specs.declared.rights.Caching.{Caching}
use Rattle.policy_types.specs.declared.rights.Caching.TheVariants.{Uc, Wc, Wt, Wp, Wb}
use Rattle.ept_emit.specs.Entries.{size_bit, table_entry, type_of}

pub rights_kept : (r : ℕ) → r < 8 → bit_and 7 r ≡ r
rights_kept r h = let e : r % 8 ≡ r = omega arith in and_comm 7 r ∙ (and_mask r 3 ∙ e)

-- ---- an entry that maps the page at x, with memory type t and rights r

abbrev pub maps : ℕ → ℕ → ℕ → ℕ → ℕ
maps l x t r = x + size_bit l + 8 * t + r

pub maps_rights : (l x t r : ℕ) → x % 4096 ≡ 0 → r < 8 → bits_of (maps l x t r) 0 2 ≡ r
maps_rights zero x t r a b = omega arith
maps_rights (suc l) x t r a b = omega arith

pub maps_type : (l x t r : ℕ) → x % 4096 ≡ 0 → t < 8 → r < 8 → bits_of (maps l x t r) 3 5 ≡ t
maps_type zero x t r a b c = omega arith
maps_type (suc l) x t r a b c = omega arith

pub maps_address : (l x t r : ℕ) → x % 4096 ≡ 0 → x < 2 ^ 40 → t < 8 → r < 8 → 4096 * bits_of (maps l x t r) 12 51 ≡ x
maps_address zero x t r a small b c = omega arith
maps_address (suc l) x t r a small b c = omega arith

maps_beyond : (l x t r : ℕ) → x % 4096 ≡ 0 → x < 2 ^ 40 → t < 8 → r < 8 → bits_of (maps l x t r) 40 51 ≡ 0
maps_beyond zero x t r a small b c = omega arith
maps_beyond (suc l) x t r a small b c = omega arith

pub maps_leaf : (l x t r : ℕ) → l < 3 → x % 4096 ≡ 0 → t < 8 → r < 8 → is_leaf l (maps l x t r) ≡ true
maps_leaf zero x t r low a b c = refl
maps_leaf (suc l) x t r low a b c =
    let bit : bits_of (maps (suc l) x t r) 7 7 ≡ 1 = omega arith in
    or_right (suc l == 0) _ (and_from _ _ (lt-ltb _ _ low) (eq-eqb _ _ bit))

pub maps_present : (l x t r : ℕ) → x % 4096 ≡ 0 → r < 8 → r % 2 ≡ 1 → is_present (maps l x t r) ≡ true
maps_present l x t r a b odd =
    let e = maps_rights l x t r a b in
    ap not (ne_eqb (bits_of (maps l x t r) 0 2) 0 (λ h. omega (arith, e, h)))

pub type_small : (c : Caching) → type_of c < 8
type_small Uc = omega arith
type_small Wc = omega arith
type_small Wt = omega arith
type_small Wp = omega arith
type_small Wb = omega arith

pub rights_small : (rights : Rights) → rights_bits rights < 8
rights_small R = omega arith
rights_small Rw = omega arith
rights_small Rx = omega arith
rights_small Rwx = omega arith

pub rights_odd : (rights : Rights) → rights_bits rights % 2 ≡ 1
rights_odd R = refl
rights_odd Rw = refl
rights_odd Rx = refl
rights_odd Rwx = refl

abbrev no_type : ℕ → Bool
no_type t = (t == 2) || ((t == 3) || (t == 7))

type_known : (c : Caching) → no_type (type_of c) ≡ false
type_known Uc = refl
type_known Wc = refl
type_known Wt = refl
type_known Wp = refl
type_known Wb = refl

abbrev lone : ℕ → Bool
lone r = (r == 2) || ((r == 4) || (r == 6))

not_lone : (r : ℕ) → r % 2 ≡ 1 → lone r ≡ false
not_lone r odd = or_from _ _ (ne_eqb r 2 (λ h. omega arith)) (or_from _ _ (ne_eqb r 4 (λ h. omega arith)) (ne_eqb r 6 (λ h. omega arith)))

if_true : (b : Bool) (x y : Bool) → b ≡ true → x ≡ false → (if b then x else y) ≡ false
if_true b x y h k = rw h k

if_false : (b : Bool) (x y : Bool) → b ≡ false → y ≡ false → (if b then x else y) ≡ false
if_false b x y h k = rw h k

pub maps_fine : (l x r : ℕ) (c : Caching) → l < 3 → x % 4096 ≡ 0 → x % entry_size l ≡ 0 → x < 2 ^ 40 → r < 8 → r % 2 ≡ 1 → is_misconfigured l (maps l x (type_of c) r) ≡ false
maps_fine l x r c low a aligned small b odd =
    let t = type_of c in
    let lt = type_small c in
    let word = maps l x t r in
    let p : has_lone_rights word ≡ false = ap lone (maps_rights l x t r a b) ∙ not_lone r odd in
    let q : is_beyond word ≡ false = not_from_true _ (eq-eqb _ _ (maps_beyond l x t r a small lt b)) in
    let u : has_no_type word ≡ false = ap no_type (maps_type l x t r a lt b) ∙ type_known c in
    let v : is_misaligned l word ≡ false = not_from_true _ (eq-eqb _ _ (ap (λ n. n % entry_size l) (maps_address l x t r a small lt b) ∙ aligned)) in
    or_from _ _ p (or_from _ _ q (if_true (is_leaf l word) (has_no_type word || is_misaligned l word) (has_reserved l word) (maps_leaf l x t r low a lt b) (or_from _ _ u v)))

-- ---- an entry that references the table in a page

table_rights : (p : ℕ) → bits_of (table_entry Rwx p) 0 2 ≡ 7
table_rights p = omega arith

pub table_present : (p : ℕ) → is_present (table_entry Rwx p) ≡ true
table_present p = let e = table_rights p in ap not (ne_eqb (bits_of (table_entry Rwx p) 0 2) 0 (λ h. omega (arith, e, h)))

table_page : (p : ℕ) → p < 2 ^ 28 → bits_of (table_entry Rwx p) 12 51 ≡ p
table_page p h = omega arith

pub table_leaf : (l p : ℕ) → is_leaf (suc l) (table_entry Rwx p) ≡ false
table_leaf l p =
    let bit : bits_of (table_entry Rwx p) 7 7 ≡ 0 = omega arith in
    or_from (suc l == 0) _ (ne_eqb (suc l) 0 (λ h. omega arith)) (and_right (nat_lt (suc l) 3) _ (ne_eqb (bits_of (table_entry Rwx p) 7 7) 1 (λ h. omega (arith, bit, h))))

table_reserved : (l p : ℕ) → has_reserved l (table_entry Rwx p) ≡ false
table_reserved l p =
    let high : bits_of (table_entry Rwx p) 3 7 ≡ 0 = omega arith in
    let low : bits_of (table_entry Rwx p) 3 6 ≡ 0 = omega arith in
    let a : not (bits_of (table_entry Rwx p) 3 7 == 0) ≡ false = not_from_true _ (eq-eqb _ _ high) in
    let b : not (bits_of (table_entry Rwx p) 3 6 == 0) ≡ false = not_from_true _ (eq-eqb _ _ low) in
    elim (cases_Bool (l == 3)) [
      | inl t ↦ rw t a
      | inr f ↦ rw f b
    ]

pub table_fine : (l p : ℕ) → p < 2 ^ 28 → is_misconfigured (suc l) (table_entry Rwx p) ≡ false
table_fine l p small =
    let word = table_entry Rwx p in
    let high : bits_of word 40 51 ≡ 0 = omega arith in
    let a : has_lone_rights word ≡ false = ap lone (table_rights p) in
    let q : is_beyond word ≡ false = not_from_true _ (eq-eqb _ _ high) in
    or_from _ _ a (or_from _ _ q (if_false (is_leaf (suc l) word) (has_no_type word || is_misaligned (suc l) word) (has_reserved (suc l) word) (table_leaf l p) (table_reserved (suc l) p)))

-- ---- what the walk does at an entry

by_tests : (there : ℕ → Bool) (l addr want rights word : ℕ) (new : ℕ → ℕ → Walk) (p m f : Bool) → is_present word ≡ p → is_misconfigured l word ≡ m → is_leaf l word ≡ f → reads there l addr want rights (Some word) new ≡ (if p then (if m then Misconfigured else (if f then leaf_end there addr want (bit_and rights (bits_of word 0 2)) (4096 * bits_of word 12 51 + addr % entry_size l) else new (bits_of word 12 51) (bit_and rights (bits_of word 0 2)))) else Violation 0)
by_tests there l addr want rights word new p m f a b c = rw (sym a, sym b, sym c) refl

pub reads_free : (there : ℕ → Bool) (l addr want word : ℕ) (new : ℕ → ℕ → Walk) → word ≡ 0 → reads there l addr want 7 (Some word) new ≡ Violation 0
reads_free there l addr want word new h = rw h refl

pub reads_page : (there : ℕ → Bool) (l addr want word r x : ℕ) (new : ℕ → ℕ → Walk) → is_present word ≡ true → is_misconfigured l word ≡ false → is_leaf l word ≡ true → bits_of word 0 2 ≡ r → r < 8 → 4096 * bits_of word 12 51 ≡ x → reads there l addr want 7 (Some word) new ≡ leaf_end there addr want r (x + addr % entry_size l)
reads_page there l addr want word r x new a b c rights small address =
    by_tests there l addr want 7 word new true false true a b c
    ∙ (ap (λ q. leaf_end there addr want q (4096 * bits_of word 12 51 + addr % entry_size l)) (ap (bit_and 7) rights ∙ rights_kept r small)
    ∙ ap (λ y. leaf_end there addr want r (y + addr % entry_size l)) address)

pub reads_table : (there : ℕ → Bool) (l addr want word p : ℕ) (new : ℕ → ℕ → Walk) → word ≡ table_entry Rwx p → p < 2 ^ 28 → reads there (suc l) addr want 7 (Some word) new ≡ new p 7
reads_table there l addr want word p new is small =
    ap (λ q. reads there (suc l) addr want 7 (Some q) new) is
    ∙ (by_tests there (suc l) addr want 7 (table_entry Rwx p) new true false false (table_present p) (table_fine l p small) (table_leaf l p)
    ∙ (ap (λ q. new q (bit_and 7 (bits_of (table_entry Rwx p) 0 2))) (table_page p small) ∙ ap (new p) (ap (bit_and 7) (table_rights p))))

goes_by : {A : Type 0} (l word : ℕ) (end : A) (deeper : ℕ → A) (p m f : Bool) → is_present word ≡ p → is_misconfigured l word ≡ m → is_leaf l word ≡ f → goes_on l (Some word) end deeper ≡ (if p && not (m || f) then deeper (bits_of word 12 51) else end)
goes_by l word end deeper p m f a b c = rw (sym a, sym b, sym c) refl

pub goes_free : {A : Type 0} (l word : ℕ) (end : A) (deeper : ℕ → A) → word ≡ 0 → goes_on l (Some word) end deeper ≡ end
goes_free l word end deeper h = rw h refl

pub goes_page : {A : Type 0} (l word : ℕ) (end : A) (deeper : ℕ → A) → is_present word ≡ true → is_misconfigured l word ≡ false → is_leaf l word ≡ true → goes_on l (Some word) end deeper ≡ end
goes_page l word end deeper a b c = goes_by l word end deeper true false true a b c

pub goes_table : {A : Type 0} (l word p : ℕ) (end : A) (deeper : ℕ → A) → word ≡ table_entry Rwx p → p < 2 ^ 28 → goes_on (suc l) (Some word) end deeper ≡ deeper p
goes_table l word p end deeper is small =
    ap (λ q. goes_on (suc l) (Some q) end deeper) is
    ∙ (goes_by (suc l) (table_entry Rwx p) end deeper true false false (table_present p) (table_fine l p small) (table_leaf l p) ∙ ap deeper (table_page p small))
