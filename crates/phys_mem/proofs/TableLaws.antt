-- Two tables, and what they tell of a number.
use Rattle.std.proofs.Common.{◌≡◌, ◌≢◌, ◌⊎◌, inl, inr, ℕ, ◌+◌, ◌/◌, ◌%◌, ◌<◌, ◌≤◌, Bool, true, false, cond, eqb, List, ◌++◌, length, get_or, set, Option, Some, None, MatchOption, refl, sym, ap, subst, ◌∙◌, length-set, arith}
use Rattle.std.proofs.lemmas.Bool.{cases_eq, cases_lt, ne_eqb, true≢false}
use Rattle.std.proofs.lemmas.Bool.Decides.{nat_tests}
use Rattle.std.proofs.lemmas.List.{get_or_read, get_or_append_left, get_or-append-add, get_or-set_same, get_or-set_other}
use Rattle.std.proofs.lemmas.Option.{none-some, same_Some}
use Rattle.std.specs.Option.{is_some}
use Rattle.std.specs.Prelude.{not}
use Rattle.phys_mem.specs.Frames.{NoneBelow, IsFirst}
use Rattle.phys_mem.specs.IndexTables.{lower_table_of, in_table, index_told, AreTables, IsTableAdded, TellsTo, Tells}

-- what is told where a table is longer, or an entry is another
longer : (lower more : List (Option ℕ)) (low : ℕ) (o : Option ℕ) → low < 16384 → ((s : ℕ) → o ≡ Some s → s + 16384 ≤ length lower) → in_table (lower ++ more) low o ≡ in_table lower low o
longer lower more low None l h = refl
longer lower more low (Some s) l h = let r = h s refl in get_or_append_left lower more None (s + low) (omega (arith, r))

elsewhere : (lower : List (Option ℕ)) (i : ℕ) (v : Option ℕ) (low : ℕ) (o : Option ℕ) → ((s : ℕ) → o ≡ Some s → s + low ≢ i) → in_table (set lower i v) low o ≡ in_table lower low o
elsewhere lower i v low None h = refl
elsewhere lower i v low (Some s) h = get_or-set_other lower i (s + low) v None (h s refl)

module _ (upper lower : List (Option ℕ)) (tables : AreTables upper lower) where
  -- a lower table lies within
  pub room : (u base : ℕ) (x : Option ℕ) → u < length upper → x ≡ get_or upper u x → x ≡ Some base → base + 16384 ≤ length lower
  room u base x l v is = tables.within u base (sym (get_or_read upper u x l v None) ∙ is)

  -- there is none
  pub absent : (u : ℕ) (x : Option ℕ) → u < 16384 → x ≡ get_or upper u x → ((s : ℕ) → x ≡ Some s → ⊥) → lower_table_of upper u ≡ None
  absent u None l v h = sym (get_or_read upper u None (omega (arith, l, tables.long)) v None)
  absent u (Some s) l v h = absurd (h s refl)

  -- ---- a new lower table

  module _ (high : ℕ) (small : high < 16384) (none : lower_table_of upper high ≡ None) (base : ℕ) (end : base ≡ length lower) where
    abbrev made : List (Option ℕ)
    made = set upper high (Some base)

    table_at : lower_table_of made high ≡ Some base
    table_at = get_or-set_same upper high (Some base) None (omega (arith, small, tables.long))

    known : (a s : ℕ) → lower_table_of made a ≡ Some s → ((a ≡ high) × (s ≡ base)) ⊎ (lower_table_of upper a ≡ Some s)
    known a s e =
        elim (cases_eq a high) [
          | inl h ↦ inl (h, sym (same_Some base s (sym table_at ∙ (ap (λ b. lower_table_of made b) (sym h) ∙ e))))
          | inr ne ↦ inr (sym (get_or-set_other upper high a (Some base) None ne) ∙ e)
        ]

    own : (a b s t x y : ℕ) → (((a ≡ high) × (s ≡ base)) ⊎ (lower_table_of upper a ≡ Some s)) → (((b ≡ high) × (t ≡ base)) ⊎ (lower_table_of upper b ≡ Some t)) → x < 16384 → y < 16384 → s + x ≡ t + y → a ≡ b
    own a b s t x y (inl h) (inl k) lx ly e = h.0 ∙ sym k.0
    own a b s t x y (inl h) (inr k) lx ly e =
        let r = tables.within b t k in absurd (omega (arith, r, h.1, end, lx, ly, e))
    own a b s t x y (inr h) (inl k) lx ly e =
        let r = tables.within a s h in absurd (omega (arith, r, k.1, end, lx, ly, e))
    own a b s t x y (inr h) (inr k) lx ly e = tables.own a b s t x y h k lx ly e

    within : (lower' : List (Option ℕ)) → length lower' ≡ length lower + 16384 → (a s : ℕ) → (((a ≡ high) × (s ≡ base)) ⊎ (lower_table_of upper a ≡ Some s)) → s + 16384 ≤ length lower'
    within lower' long a s (inl h) = omega (arith, h.1, end, long)
    within lower' long a s (inr h) = let r = tables.within a s h in omega (arith, r, long)

    module _ (lower' more : List (Option ℕ)) (is : lower' ≡ lower ++ more) (long : length lower' ≡ length lower + 16384) (empty : (j : ℕ) → j < 16384 → get_or more j None ≡ None) where
      pub made_tables : AreTables made lower'
      made_tables =
          record {
            long = length-set upper high (Some base) ∙ tables.long;
            within = λ a s e. within lower' long a s (known a s e);
            own = λ a b s t x y ea eb lx ly e. own a b s t x y (known a s ea) (known b t eb) lx ly e;
          }

      same : (k : ℕ) → (k / 16384 ≡ high) ⊎ (k / 16384 ≢ high) → index_told made lower' k ≡ index_told upper lower k
      same k (inl h) =
          let new : index_told made lower' k ≡ get_or lower' (base + k % 16384) None = ap (λ u. in_table lower' (k % 16384) (lower_table_of made u)) h ∙ ap (λ o. in_table lower' (k % 16384) o) table_at in
          let old : index_told upper lower k ≡ None = ap (λ u. in_table lower (k % 16384) (lower_table_of upper u)) h ∙ ap (λ o. in_table lower (k % 16384) o) none in
          new
          ∙ (ap (λ xs. get_or xs (base + k % 16384) None) is
          ∙ (ap (λ b. get_or (lower ++ more) (b + k % 16384) None) end
          ∙ (get_or-append-add lower more (k % 16384) None ∙ (empty (k % 16384) (omega arith) ∙ sym old))))
      same k (inr ne) =
          ap (λ o. in_table lower' (k % 16384) o) (get_or-set_other upper high (k / 16384) (Some base) None ne)
          ∙ (ap (λ xs. in_table xs (k % 16384) (lower_table_of upper (k / 16384))) is
          ∙ longer lower more (k % 16384) (lower_table_of upper (k / 16384)) (omega arith) (λ s e. tables.within (k / 16384) s e))

      pub is_made : IsTableAdded upper lower made lower' high base
      is_made =
          record {
            table = table_at;
            same = λ k. same k (cases_eq (k / 16384) high);
          }

  -- ---- an entry is written

  module _ (n base place : ℕ) (at : lower_table_of upper (n / 16384) ≡ Some base) where
    abbrev written : List (Option ℕ)
    written = set lower (base + n % 16384) (Some place)

    other : (k s : ℕ) → k ≢ n → lower_table_of upper (k / 16384) ≡ Some s → s + k % 16384 ≢ base + n % 16384
    other k s ne e h =
        let high : k / 16384 ≡ n / 16384 = tables.own (k / 16384) (n / 16384) s base (k % 16384) (n % 16384) e at (omega arith) (omega arith) h in
        let same : s ≡ base = same_Some s base (sym e ∙ (ap (λ u. lower_table_of upper u) high ∙ at)) in
        ne (omega (arith, high, same, h))

    entered_at : (k : ℕ) → (k ≡ n) ⊎ (k ≢ n) → index_told upper written k ≡ cond (eqb k n) (Some place) (index_told upper lower k)
    entered_at k (inl h) =
        let r = tables.within (n / 16384) base at in
        let test : eqb k n ≡ true = grind (arith, nat_tests, h) in
        ap (λ j. index_told upper written j) h
        ∙ (ap (λ o. in_table written (n % 16384) o) at
        ∙ (get_or-set_same lower (base + n % 16384) (Some place) None (omega (arith, r)) ∙ sym (ap (λ b. cond b (Some place) (index_told upper lower k)) test)))
    entered_at k (inr ne) =
        elsewhere lower (base + n % 16384) (Some place) (k % 16384) (lower_table_of upper (k / 16384)) (λ s e. other k s ne e)
        ∙ sym (ap (λ b. cond b (Some place) (index_told upper lower k)) (ne_eqb k n ne))

    pub entered : (k : ℕ) → index_told upper written k ≡ cond (eqb k n) (Some place) (index_told upper lower k)
    entered k = entered_at k (cases_eq k n)

-- ---- one number more

still : (ns : List ℕ) (k i n : ℕ) (o : Option ℕ) → get_or ns i 0 ≡ n → (o ≡ None → k ≢ n) → MatchOption o (NoneBelow ns k i) (IsFirst ns k) → MatchOption o (NoneBelow ns k (i + 1)) (IsFirst ns k)
still ns k i n None at ne h = λ j l.
    elim (cases_lt j i) [
      | inl a ↦ h j a
      | inr a ↦ λ e. let same : j ≡ i = omega arith in ne refl (sym e ∙ (ap (λ m. get_or ns m 0) same ∙ at))
    ]
still ns k i n (Some p) at ne h = h

first : (ns : List ℕ) (n i : ℕ) (o : Option ℕ) → i < length ns → get_or ns i 0 ≡ n → o ≡ None → MatchOption o (NoneBelow ns n i) (IsFirst ns n) → IsFirst ns n i
first ns n i None l at e h = record { within = l; here = at; before = h }
first ns n i (Some p) l at e h = absurd (none-some p (sym e))

-- it had no place yet, and gets one
pub one_more : (u l u' l' : List (Option ℕ)) (ns : List ℕ) (i n : ℕ) → i < length ns → get_or ns i 0 ≡ n → index_told u l n ≡ None → ((k : ℕ) → index_told u' l' k ≡ cond (eqb k n) (Some i) (index_told u l k)) → TellsTo u l ns i → TellsTo u' l' ns (i + 1)
one_more u l u' l' ns i n lt at none entered h k =
    elim (cases_eq k n) [
      | inl e ↦
          let test : eqb k n ≡ true = grind (arith, nat_tests, e) in
          let is : index_told u' l' k ≡ Some i = entered k ∙ ap (λ b. cond b (Some i) (index_told u l k)) test in
          subst (λ o. MatchOption o (NoneBelow ns k (i + 1)) (IsFirst ns k)) (sym is) (subst (λ m. IsFirst ns m i) (sym e) (first ns n i (index_told u l n) lt at none (h n)))
      | inr ne ↦
          let is : index_told u' l' k ≡ index_told u l k = entered k ∙ ap (λ b. cond b (Some i) (index_told u l k)) (ne_eqb k n ne) in
          subst (λ o. MatchOption o (NoneBelow ns k (i + 1)) (IsFirst ns k)) (sym is) (still ns k i n (index_told u l k) at (λ _. ne) (h k))
    ]

-- it has a place already
pub none_more : (u l : List (Option ℕ)) (ns : List ℕ) (i n p : ℕ) → get_or ns i 0 ≡ n → index_told u l n ≡ Some p → TellsTo u l ns i → TellsTo u l ns (i + 1)
none_more u l ns i n p at some h k =
    still ns k i n (index_told u l k) at (λ none e. none-some p (sym none ∙ (ap (λ j. index_told u l j) e ∙ some))) (h k)

pub no_place : (o r : Option ℕ) (b : Bool) → r ≡ o → is_some r ≡ not b → b ≡ true → o ≡ None
no_place o None b e h t = sym e
no_place o (Some x) true e h t = absurd (true≢false h)
no_place o (Some x) false e h t = absurd (true≢false (sym t))

pub some_more : (u l : List (Option ℕ)) (ns : List ℕ) (i n : ℕ) (r : Option ℕ) (b : Bool) → get_or ns i 0 ≡ n → r ≡ index_told u l n → is_some r ≡ not b → b ≡ false → TellsTo u l ns i → TellsTo u l ns (i + 1)
some_more u l ns i n None true at e h t s = absurd (true≢false t)
some_more u l ns i n None false at e h t s = absurd (true≢false (sym h))
some_more u l ns i n (Some p) b at e h t s = none_more u l ns i n p at (sym e) s

matched : (ns : List ℕ) (k : ℕ) (o : Option ℕ) → (o ≡ None → NoneBelow ns k (length ns)) → ((i : ℕ) → o ≡ Some i → IsFirst ns k i) → MatchOption o (NoneBelow ns k (length ns)) (IsFirst ns k)
matched ns k None n s = n refl
matched ns k (Some i) n s = s i refl

pub tells_match : (u l : List (Option ℕ)) (ns : List ℕ) → Tells u l ns → TellsTo u l ns (length ns)
tells_match u l ns h k = matched ns k (index_told u l k) (h.none k) (h.some k)

pub tells_all : (u l : List (Option ℕ)) (ns : List ℕ) (n : ℕ) → n ≡ length ns → TellsTo u l ns n → Tells u l ns
tells_all u l ns n e h =
    let m : (k : ℕ) (o : Option ℕ) → index_told u l k ≡ o → MatchOption o (NoneBelow ns k n) (IsFirst ns k) = λ k o is. subst (λ a. MatchOption a (NoneBelow ns k n) (IsFirst ns k)) is (h k) in
    record { none = λ k is. subst (λ j. NoneBelow ns k j) e (m k None is); some = λ k i is. m k (Some i) is }

-- no number has a place yet
pub no_tables : (upper lower : List (Option ℕ)) → length upper ≡ 16384 → ((i : ℕ) → get_or upper i None ≡ None) → AreTables upper lower
no_tables upper lower long none =
    record {
      long = long;
      within = λ a s e. absurd (none-some s (sym (none a) ∙ e));
      own = λ a b s t x y ea eb lx ly e. absurd (none-some s (sym (none a) ∙ ea));
    }

pub none_told : (upper lower : List (Option ℕ)) → ((i : ℕ) → get_or upper i None ≡ None) → (k : ℕ) → index_told upper lower k ≡ None
none_told upper lower none k = ap (λ o. in_table lower (k % 16384) o) (none (k / 16384))
