-- An entry that references no table is compared once for each piece between borders of windows.
use Rattle.std.proofs.Common.{◌≡◌, ℕ, ◌+◌, ◌-◌, ◌*◌, ◌/◌, ◌%◌, ◌<◌, ◌≤◌, ◌⊎◌, Bool, true, false, cond, List, [], ◌∷◌, Option, Some, None, refl, sym, ap, subst, ◌∙◌, inl, inr, arith}
use Rattle.std.specs.Prelude.{bit_and, not, ◌&&◌, ◌||◌, ◌==◌, nat_le, nat_lt}
use Rattle.std.specs.List.{All, find, list_any}
use Rattle.std.proofs.Math.Bool.{and-false}
use Rattle.std.proofs.lemmas.Bool.{cases_Bool, and_parts, eqb-true, eq-eqb, leb-true, ltb-true, le-leb, lt-ltb, lt-leb, le-ltb}
use Rattle.std.proofs.lemmas.List.Elements.{All-head, All-tail}
use Rattle.std.proofs.lemmas.Option.{same_Some}
use Rattle.ept_check.proofs.Sizes.{addr_on, within}
use Rattle.ept_check.specs.Entries.{ended, pages}
use Rattle.ept_check.specs.Faults.{contents, table_fault_of_kind, is_at, is_lack, is_leak, kinds, same}
use Rattle.ept_check.specs.Pieces.{HasNoEdgeBetween, led_by_entry}
use Rattle.ept_check.specs.Search.{when}
use Rattle.ept_check.specs.Sound.{AreSubjectWindows, HasPages, IsWhole}
use Rattle.ept_check.specs.Tables.{addr_of}
use Rattle.ept_check.specs.declared.types.FaultKind.TheVariants.{Lacks, Leak}
use Rattle.ept_emit.specs.Emitted.{holds, translation, translation_in}
use Rattle.ept_emit.specs.declared.window.Window.{Window}
use Rattle.machine_layout.specs.Walks.{bits_of, entry_size, is_misconfigured, is_present, leaf_end}
use Rattle.machine_layout.specs.declared.walk.Walk.{Walk}
use Rattle.machine_layout.specs.declared.walk.Walk.TheVariants.{At, Misconfigured, Violation}
use Rattle.muen_num.specs.Access.{kind_bit}
use Rattle.muen_num.specs.Search.{first_of}
use Rattle.muen_num.specs.declared.access.AccessKind.{AccessKind}
use Rattle.muen_num.specs.declared.access.AccessKind.TheVariants.{Fetch, Read, Write}
use Rattle.ept_emit.specs.Rights.{allows}

-- ---- tests

or_false : (a b : Bool) → (a || b) ≡ false → (a ≡ false) × (b ≡ false)
or_false true b h = absurd (cc)
or_false false b h = (refl, h)

abbrev address_or : Walk → ℕ
address_or (At address) = address
address_or (Violation r) = 0
address_or Misconfigured = 0

at_is : (a b : ℕ) → At a ≡ At b → a ≡ b
at_is a b h = ap address_or h

le_same : (n low a high : ℕ) → (n ≤ low) ⊎ (high ≤ n) → low ≤ a → a < high → nat_le n low ≡ nat_le n a
le_same n low a high h l r = elim h [
  | inl e ↦ le-leb n low e ∙ sym (le-leb n a (omega (arith, e, l)))
  | inr e ↦ lt-leb n low (omega (arith, e, l, r)) ∙ sym (lt-leb n a (omega (arith, e, r)))
]

lt_same : (n low a high : ℕ) → (n ≤ low) ⊎ (high ≤ n) → low ≤ a → a < high → nat_lt low n ≡ nat_lt a n
lt_same n low a high h l r = elim h [
  | inl e ↦ le-ltb low n e ∙ sym (le-ltb a n (omega (arith, e, l)))
  | inr e ↦ lt-ltb low n (omega (arith, e, l, r)) ∙ sym (lt-ltb a n (omega (arith, e, r)))
]

-- ---- equal walks

pub same_is : (a b : Walk) → same a b ≡ true → a ≡ b
same_is (At a) (At b) h = ap (λ n. At n) (eqb-true a b h)
same_is (Violation a) (Violation b) h = ap (λ n. Violation n) (eqb-true a b h)
same_is Misconfigured Misconfigured h = refl
same_is (At a) (Violation b) h = absurd (cc)
same_is (At a) Misconfigured h = absurd (cc)
same_is (Violation a) (At b) h = absurd (cc)
same_is (Violation a) Misconfigured h = absurd (cc)
same_is Misconfigured (At b) h = absurd (cc)
same_is Misconfigured (Violation b) h = absurd (cc)

same_self : (a : Walk) → same a a ≡ true
same_self (At a) = eq-eqb a a refl
same_self (Violation a) = eq-eqb a a refl
same_self Misconfigured = refl

pub is_same : (a b : Walk) → a ≡ b → same a b ≡ true
is_same a b h = subst (λ c. same a c ≡ true) h (same_self a)

-- ---- contents

first_none : {O : Type 0} (a b : Bool) (x y : O) → first_of (when a x ∷ when b y ∷ []) ≡ None → (a ≡ false) × (b ≡ false)
first_none true b x y h = absurd (cc)
first_none false true x y h = absurd (cc)
first_none false false x y h = (refl, refl)

each_kind : (f : AccessKind → Bool) → list_any f kinds ≡ false → (kind : AccessKind) → f kind ≡ false
each_kind f h Read = (or_false _ _ h).0
each_kind f h Write = (or_false _ _ (or_false _ _ h).1).0
each_kind f h Fetch = (or_false _ _ (or_false _ _ (or_false _ _ h).1).1).0

no_kind : (a s : Bool) → (a && not s) ≡ false → (not a && not s) ≡ false → s ≡ true
no_kind true true x y = refl
no_kind true false x y = absurd (cc)
no_kind false true x y = refl
no_kind false false x y = absurd (cc)

-- where there is no fault of contents, each kind of access is led where the windows say
pub contents_led : (walked told : ℕ → AccessKind → Walk) (q : ℕ) → contents walked told q ≡ None → (kind : AccessKind) → walked q kind ≡ told q kind
contents_led walked told q h kind =
    let both = first_none (is_leak (walked q) (told q)) (is_lack (walked q) (told q)) (table_fault_of_kind Leak q) (table_fault_of_kind Lacks q) h in
    let a = each_kind (λ k. is_at (walked q k) && not (same (walked q k) (told q k))) both.0 kind in
    let b = each_kind (λ k. not (is_at (walked q k)) && not (same (walked q k) (told q k))) both.1 kind in
    same_is _ _ (no_kind (is_at (walked q kind)) _ a b)

none_kind : (f : AccessKind → Bool) → ((kind : AccessKind) → f kind ≡ false) → list_any f kinds ≡ false
none_kind f h = let a = h Read in let b = h Write in let c = h Fetch in rw (a, b, c) refl

and_not : (a s : Bool) → s ≡ true → (a && not s) ≡ false
and_not a true h = and-false a
and_not a false h = absurd (cc)

-- and the other way
pub led_contents : (walked told : ℕ → AccessKind → Walk) (q : ℕ) → ((kind : AccessKind) → walked q kind ≡ told q kind) → contents walked told q ≡ None
led_contents walked told q h =
    let a = none_kind (λ k. is_at (walked q k) && not (same (walked q k) (told q k))) (λ k. and_not (is_at (walked q k)) _ (is_same _ _ (h k))) in
    let b = none_kind (λ k. not (is_at (walked q k)) && not (same (walked q k) (told q k))) (λ k. and_not (not (is_at (walked q k))) _ (is_same _ _ (h k))) in
    rw (a, b) refl

pub contents_same : (a b c d : ℕ → AccessKind → Walk) (q : ℕ) → ((kind : AccessKind) → a q kind ≡ b q kind) → ((kind : AccessKind) → c q kind ≡ d q kind) → contents a c q ≡ contents b d q
contents_same a b c d q h g =
    let x = h Read in
    let y = h Write in
    let z = h Fetch in
    let u = g Read in
    let v = g Write in
    let w = g Fetch in
    rw (x, y, z, u, v, w) refl

-- ---- the window

pub find_same : (f g : Window → Bool) (ws : List Window) → All (λ w. f w ≡ g w) ws → find f ws ≡ find g ws
find_same f g [] h = refl
find_same f g (w ∷ ws) h =
    let here = All-head (λ w. f w ≡ g w) w ws h in
    rw here (ap (cond (g w) (Some w)) (find_same f g ws (All-tail (λ w. f w ≡ g w) w ws h)))

-- the window that is found
pub record IsFound (P : Window → Type 0) (test : Window → Bool) (w : Window) : Type 0 where
  pub is : P w
  pub passes : test w ≡ true

pub find_some : (P : Window → Type 0) (test : Window → Bool) (ws : List Window) (w : Window) → All P ws → find test ws ≡ Some w → IsFound P test w
find_some P test [] w h e = absurd (cc)
find_some P test (x ∷ xs) w h e = elim (cases_Bool (test x)) [
  | inl a ↦
      let same : x ≡ w = same_Some x w (rw a at e) in
      subst (IsFound P test) same (record { is = All-head P x xs h; passes = a })
  | inr b ↦ find_some P test xs w (All-tail P x xs h) (rw b at e)
]

holds_same : (low high a : ℕ) (w : Window) → low ≤ a → a < high → HasNoEdgeBetween low high w → holds low w ≡ holds a w
holds_same low high a w l h apart =
    let one : nat_le w.guest low ≡ nat_le w.guest a = le_same w.guest low a high apart.begins l h in
    let two : nat_lt low (w.guest + w.size) ≡ nat_lt a (w.guest + w.size) = lt_same (w.guest + w.size) low a high apart.ends l h in
    ap (λ b. b && nat_lt low (w.guest + w.size)) one ∙ ap (λ b. nat_le w.guest a && b) two

-- ---- where accesses further on are led

violation_on : (o : Option Window) (a b : ℕ) (kind : AccessKind) (r : ℕ) → translation_in o a kind ≡ Violation r → translation_in o b kind ≡ Violation r
violation_on None a b kind r h = h
violation_on (Some w) a b kind r h = elim (cases_Bool (allows w.rights kind)) [
  | inl e ↦ let bad = rw e at h in absurd (cc)
  | inr e ↦ rw e (rw e at h)
]

not_misconfigured : (o : Option Window) (a : ℕ) (kind : AccessKind) → translation_in o a kind ≡ Misconfigured → ⊥
not_misconfigured None a kind h = cc
not_misconfigured (Some w) a kind h = elim (cases_Bool (allows w.rights kind)) [
  | inl e ↦ let bad = rw e at h in cc
  | inr e ↦ let bad = rw e at h in cc
]

-- an address of the window, further on
pub record IsOn (there : ℕ → Bool) (w : Window) (a b : ℕ) : Type 0 where
  pub whole : IsWhole w
  pub pages : HasPages there w
  pub start : w.guest ≤ a
  pub end : b < w.guest + w.size
  pub page : b % 4096 ≡ 0

module _ (there : ℕ → Bool) where
  at_on : (o : Option Window) (a b : ℕ) (kind : AccessKind) (address : ℕ) → a ≤ b → ((w : Window) → o ≡ Some w → IsOn there w a b) → translation_in o a kind ≡ At address → (translation_in o b kind ≡ At (address + (b - a))) × (there ((address + (b - a)) / 4096) ≡ true)
  at_on None a b kind address l on h = absurd (cc)
  at_on (Some w) a b kind address l on h = elim (cases_Bool (allows w.rights kind)) [
    | inl e ↦
        let here = at_is _ _ (rw e at h) in
        let is = on w refl in
        let start = is.start in
        let further : w.address + (b - w.guest) ≡ address + (b - a) = omega (arith, here, l, start) in
        let long = is.end in
        let k = (address + (b - a)) / 4096 in
        let exact : 4096 * k ≡ address + (b - a) = omega (arith, further, is.page, is.whole.guest, is.whole.address, l, start) in
        (rw e (ap (λ n. At n) further), is.pages k (omega (arith, exact, further)) (omega (arith, exact, further, long, l, start)))
    | inr e ↦ let bad = rw e at h in absurd (cc)
  ]

  -- at a leaf
  abbrev end : ℕ → ℕ → ℕ → Walk
  end want rights address = leaf_end there 0 want rights address

  end_on : (o : Option Window) (a b : ℕ) (kind : AccessKind) (rights address : ℕ) → a ≤ b → ((w : Window) → o ≡ Some w → IsOn there w a b) → end (kind_bit kind) rights address ≡ translation_in o a kind → end (kind_bit kind) rights (address + (b - a)) ≡ translation_in o b kind
  end_on o a b kind rights address l on h = elim (cases_Bool (bit_and rights (kind_bit kind) == kind_bit kind)) [
    | inr e ↦ rw e (sym (violation_on o a b kind rights (sym (rw e at h))))
    | inl e ↦ elim (cases_Bool (there (address / 4096))) [
      | inr t ↦ absurd (not_misconfigured o a kind (sym (rw (e, t) at h)))
      | inl t ↦ let next = at_on o a b kind address l on (sym (rw (e, t) at h)) in let is = next.1 in rw (e, is) (sym next.0)
    ]
  ]

  pub led_on : (level e rights : ℕ) (kind : AccessKind) (a b : ℕ) (o : Option Window) → a ≤ b → b % entry_size level ≡ a % entry_size level + (b - a) → ((w : Window) → o ≡ Some w → IsOn there w a b) → ended there level e a (kind_bit kind) rights ≡ translation_in o a kind → ended there level e b (kind_bit kind) rights ≡ translation_in o b kind
  led_on level e rights kind a b o l far on h = elim (cases_Bool (is_present e)) [
    | inr p ↦ rw p (sym (violation_on o a b kind 0 (sym (rw p at h))))
    | inl p ↦ elim (cases_Bool (is_misconfigured level e)) [
      | inl bad ↦ absurd (not_misconfigured o a kind (sym (rw (p, bad) at h)))
      | inr good ↦
          let address : 4096 * bits_of e 12 51 + b % entry_size level ≡ 4096 * bits_of e 12 51 + a % entry_size level + (b - a) = omega (arith, far) in
          rw (p, good) (ap (end (kind_bit kind) (bit_and rights (bits_of e 0 2))) address ∙ end_on o a b kind (bit_and rights (bits_of e 0 2)) (4096 * bits_of e 12 51 + a % entry_size level) l on (rw (p, good) at h))
    ]
  ]

  -- ---- a piece

  found_on : (low a : ℕ) (w : Window) → a % 4096 ≡ 0 → low ≤ a → IsFound IsWhole (holds low) w → HasPages there w → holds low w ≡ holds a w → IsOn there w low a
  found_on low a w whole l found has same_holds =
      let now = and_parts _ _ found.passes in
      let then_on = and_parts _ _ (sym same_holds ∙ found.passes) in
      record { whole = found.is; pages = has; start = leb-true _ _ now.0; end = ltb-true _ _ then_on.1; page = whole }

  pub piece_none : (ws : List Window) (level e rights x at p high : ℕ) → level ≤ 3 → x % pages level ≡ 0 → x ≤ at → at ≤ p → p < x + pages level → AreSubjectWindows there ws → All (HasNoEdgeBetween (addr_of at) high) ws → addr_of p < high → contents (led_by_entry there level e rights) (λ q kind. translation ws (addr_of q) kind) at ≡ None → contents (led_by_entry there level e rights) (λ q kind. translation ws (addr_of q) kind) p ≡ None
  piece_none ws level e rights x at p high a b c d f fine apart low none =
      let far = within level x at p a b c d f in
      let up = addr_on level x at p a b c d f in
      let each : All (λ w. holds (addr_of at) w ≡ holds (addr_of p) w) ws = λ k w l. holds_same (addr_of at) high (addr_of p) _ up low (apart k w l) in
      let one = find_same (holds (addr_of at)) (holds (addr_of p)) ws each in
      let on = λ (w : Window) (is : find (holds (addr_of at)) ws ≡ Some w).
      let found = find_some IsWhole (holds (addr_of at)) ws w fine.whole is in
      let has = find_some (HasPages there) (holds (addr_of at)) ws w fine.pages is in
      let far_found = find_some IsWhole (holds (addr_of p)) ws w fine.whole (sym one ∙ is) in
      found_on (addr_of at) (addr_of p) w (omega arith) up found has.is (found.passes ∙ sym far_found.passes) in
      led_contents (led_by_entry there level e rights) (λ q kind. translation ws (addr_of q) kind) p (λ kind.
      led_on level e rights kind (addr_of at) (addr_of p) (find (holds (addr_of at)) ws) up far on (contents_led (led_by_entry there level e rights) (λ q kind. translation ws (addr_of q) kind) at none kind)
      ∙ ap (λ o. translation_in o (addr_of p) kind) one)
