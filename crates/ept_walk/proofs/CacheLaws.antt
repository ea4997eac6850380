-- What is kept, through walks, keeping and changes.
use Rattle.std.proofs.Common.{◌≡◌, ◌≢◌, ◌⊎◌, inl, inr, ℕ, zero, suc, ◌+◌, ◌-◌, ◌*◌, ◌/◌, ◌%◌, ◌^◌, ◌<◌, ◌≤◌, Bool, true, false, cond, eqb, List, length, get_or, set, Option, Some, None, refl, sym, ap, subst, ◌∙◌, arith}
use Rattle.std.specs.Prelude.{bit_and, is_some, nat_le, ◌&&◌}
use Rattle.std.specs.List.{All}
use Rattle.std.proofs.lemmas.Bool.{cases_eq, cases_lt, eq-eqb, ne_eqb, eqb-true, and_parts, and_from, leb-true, le-leb}
use Rattle.std.proofs.lemmas.Nat.{and_le_r}
use Rattle.std.proofs.lemmas.Option.{none-some, same_Some}
use Rattle.std.proofs.lemmas.List.{get_or-set_same, get_or-set_other, length-set}
use Rattle.muen_num.specs.Access.{kind_bit}
use Rattle.muen_num.specs.declared.access.AccessKind.{AccessKind}
use Rattle.machine_layout.specs.Memory.{Page, is_there}
use Rattle.machine_layout.specs.Walks.{entry_address, leaf_end, walk_of, addresses_read}
use Rattle.machine_layout.specs.Same.{SameOutside}
use Rattle.machine_layout.specs.declared.walk.Walk.TheVariants.{At, Violation, Misconfigured}
use Rattle.machine_layout.proofs.WalkLaws.{same_walks, same_addresses, walks_elsewhere_stay}
use Rattle.ept_walk.specs.Ends.{judged, offset_walk, IsEntryOf}
use Rattle.ept_walk.specs.Held.{time_of, is_unchanged, is_fresh, KeptBy, ChangedBy, Stands, AllStand, slot_index, matching, looked_up, IsUntouched, IsTouched, KeepsUntouched}
use Rattle.ept_walk.specs.declared.cached.Slot.{Slot}
use Rattle.ept_walk.specs.declared.trace.End.{End}
use Rattle.ept_walk.specs.declared.trace.End.TheVariants.{Leads}
use Rattle.ept_walk.specs.declared.trace.Target.{Target}
use Rattle.ept_walk.proofs.BlockLaws.{walk_in_page, leaf_end_moved}

of_four : (p : ℕ → Bool) → p 0 ≡ true → p 1 ≡ true → p 2 ≡ true → p 3 ≡ true → (level : ℕ) → level < 4 → p level ≡ true
of_four p a b c d zero l = a
of_four p a b c d (suc zero) l = b
of_four p a b c d (suc (suc zero)) l = c
of_four p a b c d (suc (suc (suc zero))) l = d
of_four p a b c d (suc (suc (suc (suc level)))) l = absurd (omega arith)

-- ---- looking up

record IsMatch (changed : List ℕ) (eptp page : ℕ) (o : Option Slot) (s : Slot) : Type 0 where
  pub kept : o ≡ Some s
  pub eptp_is : s.eptp ≡ eptp
  pub page_is : s.page ≡ page
  pub fresh : is_fresh changed s ≡ true

if_some : (b : Bool) (t s : Slot) → cond b (Some t) None ≡ Some s → (b ≡ true) × (t ≡ s)
if_some true t s e = (refl, same_Some t s e)
if_some false t s e = absurd (none-some s e)

match_is : (changed : List ℕ) (eptp page : ℕ) (o : Option Slot) (s : Slot) → matching changed eptp page o ≡ Some s → IsMatch changed eptp page o s
match_is changed eptp page None s e = absurd (none-some s e)
match_is changed eptp page (Some t) s e =
    let found = if_some (eqb t.eptp eptp && (eqb t.page page && is_fresh changed t)) t s e in
    let both = and_parts (eqb t.eptp eptp) (eqb t.page page && is_fresh changed t) found.0 in
    let rest = and_parts (eqb t.page page) (is_fresh changed t) both.1 in
    record {
      kept = ap (λ x. Some x) found.1;
      eptp_is = ap (λ (x : Slot). x.eptp) (sym found.1) ∙ eqb-true t.eptp eptp both.0;
      page_is = ap (λ (x : Slot). x.page) (sym found.1) ∙ eqb-true t.page page rest.0;
      fresh = ap (λ x. is_fresh changed x) (sym found.1) ∙ rest.1;
    }

abbrev at_index : List (Option Slot) → ℕ → ℕ → Option Slot
at_index slots eptp page = get_or slots (slot_index (length slots) eptp page) None

found_is : (slots : List (Option Slot)) (changed : List ℕ) (eptp page : ℕ) (s : Slot) → looked_up slots changed eptp page ≡ Some s → IsMatch changed eptp page (at_index slots eptp page) s
found_is slots changed eptp page s e = match_is changed eptp page (at_index slots eptp page) s e

-- ---- what is answered from what is kept

module _ (m : List Page) (slots : List (Option Slot)) (changed : List ℕ) (all : AllStand m slots changed) (s : Slot) (eptp addr : ℕ) (found : looked_up slots changed eptp (addr / 4096) ≡ Some s) where
  match : IsMatch changed eptp (addr / 4096) (at_index slots eptp (addr / 4096)) s
  match = found_is slots changed eptp (addr / 4096) s found

  stands : Stands m s
  stands = all (slot_index (length slots) eptp (addr / 4096)) s match.kept match.fresh

  pub hit_small : s.frame < 2 ^ 52
  hit_small = stands.small

  hit : (kind : AccessKind) → walk_of m eptp addr kind ≡ cond (eqb (bit_and s.rights (kind_bit kind)) (kind_bit kind)) (At (4096 * s.frame + addr % 4096)) (Violation s.rights)
  hit kind =
      let at : walk_of m eptp (4096 * (addr / 4096)) kind ≡ leaf_end (is_there m) (4096 * s.page) (kind_bit kind) s.rights (4096 * s.frame) = ap (λ x. walk_of m x (4096 * (addr / 4096)) kind) (sym match.eptp_is) ∙ (ap (λ x. walk_of m s.eptp (4096 * x) kind) (sym match.page_is) ∙ stands.answer kind) in
      let frame : (4096 * s.frame + addr % 4096) / 4096 ≡ s.frame = omega arith in
      let there : is_there m ((4096 * s.frame + addr % 4096) / 4096) ≡ true = ap (is_there m) frame ∙ stands.there in
      walk_in_page m eptp addr kind
      ∙ (ap (offset_walk (addr % 4096)) at
      ∙ (sym (leaf_end_moved (is_there m) addr (4096 * s.page) (kind_bit kind) s.rights (4096 * s.frame) (addr % 4096) (omega arith) (omega arith)) ∙ ap (λ t. cond (eqb (bit_and s.rights (kind_bit kind)) (kind_bit kind)) (cond t (At (4096 * s.frame + addr % 4096)) Misconfigured) (Violation s.rights)) there))

  pub hit_violation : (kind : AccessKind) (want : ℕ) → want ≡ kind_bit kind → bit_and s.rights want ≢ want → Violation s.rights ≡ walk_of m eptp addr kind
  hit_violation kind want is ne =
      sym (hit kind ∙ ap (λ b. cond b (At (4096 * s.frame + addr % 4096)) (Violation s.rights)) (ap (λ w. eqb (bit_and s.rights w) w) (sym is) ∙ ne_eqb (bit_and s.rights want) want ne))

  pub hit_at : (kind : AccessKind) (want : ℕ) → want ≡ kind_bit kind → bit_and s.rights want ≡ want → At (4096 * s.frame + addr % 4096) ≡ walk_of m eptp addr kind
  hit_at kind want is same =
      sym (hit kind ∙ ap (λ b. cond b (At (4096 * s.frame + addr % 4096)) (Violation s.rights)) (ap (λ w. eqb (bit_and s.rights w) w) (sym is) ∙ eq-eqb (bit_and s.rights want) want same))

-- ---- what is answered anew

pub miss : (m : List Page) (eptp addr : ℕ) (kind : AccessKind) (e : End) → walk_of m eptp (4096 * (addr / 4096)) kind ≡ judged (is_there m) (4096 * (addr / 4096)) (kind_bit kind) e → walk_of m eptp addr kind ≡ offset_walk (addr % 4096) (judged (is_there m) (4096 * (addr / 4096)) (kind_bit kind) e)
miss m eptp addr kind e h = walk_in_page m eptp addr kind ∙ ap (offset_walk (addr % 4096)) h

pub miss_leads : (m : List Page) (eptp addr : ℕ) (kind : AccessKind) (t : Target) → t.address % 4096 ≡ 0 → walk_of m eptp (4096 * (addr / 4096)) kind ≡ judged (is_there m) (4096 * (addr / 4096)) (kind_bit kind) (Leads t) → walk_of m eptp addr kind ≡ leaf_end (is_there m) addr (kind_bit kind) t.rights (t.address + addr % 4096)
miss_leads m eptp addr kind t even h =
    miss m eptp addr kind (Leads t) h ∙ sym (leaf_end_moved (is_there m) addr (4096 * (addr / 4096)) (kind_bit kind) t.rights t.address (addr % 4096) even (omega arith))

pub stands_new : (m : List Page) (eptp page since : ℕ) (t : Target) (tables : List ℕ) → ((kind : AccessKind) → walk_of m eptp (4096 * page) kind ≡ judged (is_there m) (4096 * page) (kind_bit kind) (Leads t)) → t.address % 4096 ≡ 0 → t.address < 2 ^ 64 → All (IsEntryOf tables) (addresses_read m eptp (4096 * page)) → is_there m (t.address / 4096) ≡ true → Stands m record { eptp = eptp; page = page; rights = t.rights; frame = t.address / 4096; tables = tables; since = since }
stands_new m eptp page since t tables h even small noted there =
    let start : t.address ≡ 4096 * (t.address / 4096) = omega (arith, even) in
    record {
      answer = λ kind. h kind ∙ ap (λ p. leaf_end (is_there m) (4096 * page) (kind_bit kind) t.rights p) start;
      there = there;
      small = omega (arith, small);
      tables = noted;
    }

-- ---- keeping

set_is : (slots : List (Option Slot)) (i j : ℕ) (s t : Slot) → i < length slots → get_or (set slots i (Some s)) j None ≡ Some t → (s ≡ t) ⊎ (get_or slots j None ≡ Some t)
set_is slots i j s t l e =
    elim (cases_eq j i) [
      | inl h ↦ inl (same_Some s t (sym (get_or-set_same slots i (Some s) None l) ∙ (ap (λ k. get_or (set slots i (Some s)) k None) (sym h) ∙ e)))
      | inr ne ↦ inr (sym (get_or-set_other slots i j (Some s) None ne) ∙ e)
    ]

stands_at : (m : List Page) (slots : List (Option Slot)) (changed : List ℕ) (j : ℕ) (s t : Slot) → AllStand m slots changed → Stands m s → is_fresh changed t ≡ true → (s ≡ t) ⊎ (get_or slots j None ≡ Some t) → Stands m t
stands_at m slots changed j s t all new fresh (inl h) = subst (λ u. Stands m u) h new
stands_at m slots changed j s t all new fresh (inr h) = all j t h fresh

pub all_stand_kept : (m : List Page) (slots : List (Option Slot)) (changed : List ℕ) (i : ℕ) (s : Slot) → i < length slots → AllStand m slots changed → Stands m s → AllStand m (set slots i (Some s)) changed
all_stand_kept m slots changed i s l all new j t e fresh =
    stands_at m slots changed j s t all new fresh (set_is slots i j s t l e)

module _ (changed : List ℕ) (s : Slot) where
  all_unchanged : ((level : ℕ) → level < 4 → is_unchanged changed s level ≡ true) → is_fresh changed s ≡ true
  all_unchanged h =
      and_from (is_unchanged changed s 0) _ (h 0 (omega arith)) (and_from (is_unchanged changed s 1) _ (h 1 (omega arith)) (and_from (is_unchanged changed s 2) (is_unchanged changed s 3) (h 2 (omega arith)) (h 3 (omega arith))))

  each_unchanged : is_fresh changed s ≡ true → (level : ℕ) → level < 4 → is_unchanged changed s level ≡ true
  each_unchanged fresh =
      let first = and_parts (is_unchanged changed s 0) (is_unchanged changed s 1 && (is_unchanged changed s 2 && is_unchanged changed s 3)) fresh in
      let second = and_parts (is_unchanged changed s 1) (is_unchanged changed s 2 && is_unchanged changed s 3) first.1 in
      let third = and_parts (is_unchanged changed s 2) (is_unchanged changed s 3) second.1 in
      of_four (is_unchanged changed s) first.0 second.0 third.0 third.1

fresh_new : (clock : ℕ) (changed : List ℕ) (s : Slot) → ChangedBy clock changed → clock ≤ s.since → is_fresh changed s ≡ true
fresh_new clock changed s by since =
    all_unchanged changed s (λ level h. le-leb (time_of changed (get_or s.tables level 0)) s.since (omega (arith, by (get_or s.tables level 0 % 16384), since)))

matching_self : (changed : List ℕ) (s : Slot) → is_fresh changed s ≡ true → matching changed s.eptp s.page (Some s) ≡ Some s
matching_self changed s fresh =
    ap (λ b. cond b (Some s) None) (and_from (eqb s.eptp s.eptp) (eqb s.page s.page && is_fresh changed s) (eq-eqb s.eptp s.eptp refl) (and_from (eqb s.page s.page) (is_fresh changed s) (eq-eqb s.page s.page refl) fresh))

slot_within : (n eptp page : ℕ) → 0 < n → slot_index n eptp page < n
slot_within n eptp page some = omega (arith, and_le_r ((page + 2531 * (eptp / 4096)) * 11400714819323198485 % 2 ^ 64 / 2 ^ 40) (n - 1))

module _ (slots slots' : List (Option Slot)) (changed changed' : List ℕ) (s : Slot) (some : 0 < length slots) (set_there : slots' ≡ set slots (slot_index (length slots) s.eptp s.page) (Some s)) (stay : changed' ≡ changed) where
  pub stands_kept : (m : List Page) → AllStand m slots changed → Stands m s → AllStand m slots' changed'
  stands_kept m all new =
      subst (λ xs. AllStand m xs changed') (sym set_there) (subst (λ ts. AllStand m (set slots (slot_index (length slots) s.eptp s.page) (Some s)) ts) (sym stay) (all_stand_kept m slots changed (slot_index (length slots) s.eptp s.page) s (slot_within (length slots) s.eptp s.page some) all new))

  held_at : (clock : ℕ) → ChangedBy clock changed → clock ≤ s.since → is_some (looked_up (set slots (slot_index (length slots) s.eptp s.page) (Some s)) changed s.eptp s.page) ≡ true
  held_at clock by since =
      let i = slot_index (length slots) s.eptp s.page in
      ap (λ n. is_some (matching changed s.eptp s.page (get_or (set slots i (Some s)) (slot_index n s.eptp s.page) None))) (length-set slots i (Some s))
      ∙ (ap (λ o. is_some (matching changed s.eptp s.page o)) (get_or-set_same slots i (Some s) None (slot_within (length slots) s.eptp s.page some)) ∙ ap is_some (matching_self changed s (fresh_new clock changed s by since)))

  pub held_kept : (clock : ℕ) → ChangedBy clock changed → clock ≤ s.since → is_some (looked_up slots' changed' s.eptp s.page) ≡ true
  held_kept clock by since =
      ap (λ xs. is_some (looked_up xs changed' s.eptp s.page)) set_there
      ∙ (ap (λ ts. is_some (looked_up (set slots (slot_index (length slots) s.eptp s.page) (Some s)) ts s.eptp s.page)) stay ∙ held_at clock by since)

at_nowhere : (b : Bool) (address rights place : ℕ) → cond b (cond false (At address) Misconfigured) (Violation rights) ≡ At place → ⊥
at_nowhere true address rights place e = cc
at_nowhere false address rights place e = cc

-- a walk to a page that isn't there ends at no address
pub leads_nowhere : (there : ℕ → Bool) (addr want rights address offset place : ℕ) → address % 4096 ≡ 0 → offset < 4096 → there (address / 4096) ≡ false → leaf_end there addr want rights (address + offset) ≡ At place → ⊥
leads_nowhere there addr want rights address offset place even l none e =
    let same : (address + offset) / 4096 ≡ address / 4096 = omega (arith, even, l) in
    at_nowhere (eqb (bit_and rights want) want) (address + offset) rights place (ap (λ t. cond (eqb (bit_and rights want) want) (cond t (At (address + offset)) Misconfigured) (Violation rights)) (sym (ap there same ∙ none)) ∙ e)

-- ---- changes

-- a change at one time of two pages
abbrev pub with_times : List ℕ → ℕ → ℕ → ℕ → List ℕ
with_times changed first last time = set (set changed (first % 16384) time) (last % 16384) time

record WasUnchanged (changed : List ℕ) (first last since table : ℕ) : Type 0 where
  pub not_first : table ≢ first
  pub not_last : table ≢ last
  pub unchanged : nat_le (time_of changed table) since ≡ true

module _ (changed : List ℕ) (first last time : ℕ) (long : length changed ≡ 16384) where
  time_last : (table : ℕ) → table % 16384 ≡ last % 16384 → time_of (with_times changed first last time) table ≡ time
  time_last table h =
      ap (λ k. get_or (with_times changed first last time) k 0) h
      ∙ get_or-set_same (set changed (first % 16384) time) (last % 16384) time 0 (omega (arith, length-set changed (first % 16384) time, long))

  time_first : (table : ℕ) → table % 16384 ≢ last % 16384 → table % 16384 ≡ first % 16384 → time_of (with_times changed first last time) table ≡ time
  time_first table ne h =
      get_or-set_other (set changed (first % 16384) time) (last % 16384) (table % 16384) time 0 ne
      ∙ (ap (λ k. get_or (set changed (first % 16384) time) k 0) h ∙ get_or-set_same changed (first % 16384) time 0 (omega (arith, long)))

  time_other : (table : ℕ) → table % 16384 ≢ last % 16384 → table % 16384 ≢ first % 16384 → time_of (with_times changed first last time) table ≡ time_of changed table
  time_other table ne ne' =
      get_or-set_other (set changed (first % 16384) time) (last % 16384) (table % 16384) time 0 ne
      ∙ get_or-set_other changed (first % 16384) (table % 16384) time 0 ne'

  was_unchanged : (since table : ℕ) → since < time → nat_le (time_of (with_times changed first last time) table) since ≡ true → WasUnchanged changed first last since table
  was_unchanged since table later h =
      let by = leb-true (time_of (with_times changed first last time) table) since h in
      elim (cases_eq (table % 16384) (last % 16384)) [
        | inl l ↦ absurd (omega (arith, by, time_last table l, later))
        | inr ne ↦
            elim (cases_eq (table % 16384) (first % 16384)) [
              | inl f ↦ absurd (omega (arith, by, time_first table ne f, later))
              | inr ne' ↦
                  record {
                    not_first = λ e. ne' (ap (λ k. k % 16384) e);
                    not_last = λ e. ne (ap (λ k. k % 16384) e);
                    unchanged = ap (λ k. nat_le k since) (sym (time_other table ne ne')) ∙ h;
                  }
            ]
      ]

-- an entry that is touched is in the first or in the last page of the bytes
apart_by_pages : (at n last table index q : ℕ) → q ≡ entry_address table index → index < 512 → n ≤ 4096 → last ≡ at / 4096 + (at % 4096 + (n - 1)) / 4096 → table ≢ at / 4096 → table ≢ last → IsUntouched at n q
apart_by_pages at n last table index q is few most l not_first not_last =
    elim (cases_lt at (q + 8)) [
      | inr below ↦ inl (omega arith)
      | inl after ↦
          elim (cases_lt q (at + n)) [
            | inr above ↦ inr (omega arith)
            | inl before ↦ absurd (omega arith)
          ]
    ]

module _ (at n last clock : ℕ) (changed : List ℕ) (s : Slot) (long : length changed ≡ 16384) (most : n ≤ 4096) (l : last ≡ at / 4096 + (at % 4096 + (n - 1)) / 4096) (by : s.since ≤ clock) (fresh : is_fresh (with_times changed (at / 4096) last (clock + 1)) s ≡ true) where
  abbrev after : List ℕ
  after = with_times changed (at / 4096) last (clock + 1)

  was : (level : ℕ) → level < 4 → WasUnchanged changed (at / 4096) last s.since (get_or s.tables level 0)
  was level h =
      was_unchanged changed (at / 4096) last (clock + 1) long s.since (get_or s.tables level 0) (omega arith) (each_unchanged after s fresh level h)

  was_fresh : is_fresh changed s ≡ true
  was_fresh = all_unchanged changed s (λ level h. (was level h).unchanged)

  is_apart : (q : ℕ) → IsEntryOf s.tables q → IsUntouched at n q
  is_apart q e =
      let w = was e.level e.within in apart_by_pages at n last (get_or s.tables e.level 0) e.index q e.is e.few most l w.not_first w.not_last

pub keeps_noted : (at n last clock : ℕ) (slots : List (Option Slot)) (changed : List ℕ) → length changed ≡ 16384 → n ≤ 4096 → last ≡ at / 4096 + (at % 4096 + (n - 1)) / 4096 → KeptBy clock slots → KeepsUntouched at n slots changed slots (with_times changed (at / 4096) last (clock + 1))
keeps_noted at n last clock slots changed long most l by i s e fresh =
    record {
      kept = e;
      fresh = was_fresh at n last clock changed s long most l (by i s e) fresh;
      apart = is_apart at n last clock changed s long most l (by i s e) fresh;
    }

same_leaf_end : (old new : List Page) (at n : ℕ) → SameOutside at n old new → (addr want rights address : ℕ) → leaf_end (is_there new) addr want rights address ≡ leaf_end (is_there old) addr want rights address
same_leaf_end old new at n same addr want rights address =
    ap (λ t. cond (eqb (bit_and rights want) want) (cond t (At address) Misconfigured) (Violation rights)) (same.there (address / 4096))

untouched_stands : (at n : ℕ) (old new : List Page) (s : Slot) → SameOutside at n old new → ((q : ℕ) → IsEntryOf s.tables q → IsUntouched at n q) → Stands old s → Stands new s
untouched_stands at n old new s same apart h =
    let entries = walks_elsewhere_stay at n old new s.eptp (4096 * s.page) same (λ k d l. apart _ (h.tables k d l)) in
    record {
      answer = λ kind. same_walks old new s.eptp (4096 * s.page) kind entries ∙ (h.answer kind ∙ sym (same_leaf_end old new at n same (4096 * s.page) (kind_bit kind) s.rights (4096 * s.frame)));
      there = same.there s.frame ∙ h.there;
      small = h.small;
      tables = subst (λ xs. All (IsEntryOf s.tables) xs) (sym (same_addresses old new s.eptp (4096 * s.page) entries)) h.tables;
    }

pub fits_after : (at n : ℕ) (slots slots' : List (Option Slot)) (changed changed' : List ℕ) → KeepsUntouched at n slots changed slots' changed' → (old new : List Page) → AllStand old slots changed → SameOutside at n old new → AllStand new slots' changed'
fits_after at n slots slots' changed changed' keeps old new all same i s e fresh =
    let was = keeps i s e fresh in untouched_stands at n old new s same was.apart (all i s was.kept was.fresh)

-- ---- what is held after a change

not_held : (o : Option Slot) → ((s : Slot) → o ≡ Some s → ⊥) → is_some o ≡ false
not_held None h = refl
not_held (Some s) h = absurd (h s refl)

not_both : (at n q : ℕ) → IsTouched at n q → IsUntouched at n q → ⊥
not_both at n q touched (inl h) = omega arith
not_both at n q touched (inr h) = omega arith

pub drops_after : (at n : ℕ) (slots slots' : List (Option Slot)) (changed changed' : List ℕ) → KeepsUntouched at n slots changed slots' changed' → (m : List Page) (eptp page k : ℕ) → AllStand m slots changed → k < length (addresses_read m eptp (4096 * page)) → IsTouched at n (get_or (addresses_read m eptp (4096 * page)) k 0) → is_some (looked_up slots' changed' eptp page) ≡ false
drops_after at n slots slots' changed changed' keeps m eptp page k all within touched =
    not_held (looked_up slots' changed' eptp page) (λ s e.
    let is = found_is slots' changed' eptp page s e in
    let was = keeps (slot_index (length slots') eptp page) s is.kept is.fresh in
    let h = all (slot_index (length slots') eptp page) s was.kept was.fresh in
    let read : addresses_read m s.eptp (4096 * s.page) ≡ addresses_read m eptp (4096 * page) = ap (λ x. addresses_read m x (4096 * s.page)) is.eptp_is ∙ ap (λ x. addresses_read m eptp (4096 * x)) is.page_is in
    let noted : All (IsEntryOf s.tables) (addresses_read m eptp (4096 * page)) = subst (λ xs. All (IsEntryOf s.tables) xs) read h.tables in
    not_both at n (get_or (addresses_read m eptp (4096 * page)) k 0) touched (was.apart _ (noted k 0 within)))

-- ---- nothing is kept

pub keeps_nothing : (at n : ℕ) (slots slots' : List (Option Slot)) (changed changed' : List ℕ) → ((i : ℕ) → get_or slots' i None ≡ None) → KeepsUntouched at n slots changed slots' changed'
keeps_nothing at n slots slots' changed changed' none i s e fresh = absurd (none-some s (sym (none i) ∙ e))
