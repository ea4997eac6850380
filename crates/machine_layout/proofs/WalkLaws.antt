-- A walk depends on the entries that it reads.
use Rattle.std.proofs.Common.{◌≡◌, ℕ, zero, suc, ◌/◌, Bool, true, false, cond, List, [], ◌∷◌, Option, Some, None, refl, ap, ◌∙◌, eqb, arith}
use Rattle.std.specs.Prelude.{bit_and, ◌&&◌, ◌||◌, not, option_map}
use Rattle.std.specs.List.{All}
use Rattle.muen_num.specs.Access.{kind_bit}
use Rattle.machine_layout.specs.Memory.{Page, is_there, load_of}
use Rattle.machine_layout.specs.Walks.{bits_of, index_at, entry_address, entry_size, is_present, is_leaf, is_misconfigured, leaf_end, reads, walk_from, entry_of, root_of, goes_on, addresses_from, addresses_read, end_entry_size, end_entry}
use Rattle.machine_layout.specs.declared.walk.Walk.{Walk}
use Rattle.machine_layout.specs.declared.walk.Walk.TheVariants.{At, Violation, Misconfigured}
use Rattle.machine_layout.specs.Laws.{SameWalks, SameAddresses, SameSizes, SameTypes, WalksElsewhereStay}

-- ---- lists, by recursion

-- each of these is so
abbrev Each : (ℕ → Type 0) → List ℕ → Type 0
Each P [] = Unit {0}
Each P (x ∷ xs) = P x × Each P xs

each_of_all : (P : ℕ → Type 0) (xs : List ℕ) → All P xs → Each P xs
each_of_all P [] h = tt
each_of_all P (x ∷ xs) h = (h 0 0 (omega arith), each_of_all P xs (λ k d l. h (suc k) d (omega arith)))

-- ---- by what is read

abbrev leads_on : ℕ → ℕ → Bool
leads_on level e = is_present e && not (is_misconfigured level e || is_leaf level e)

same_ends : {A : Type 0} (p m l : Bool) (none bad leaf leaf' deep deep' : A) → leaf ≡ leaf' → ((p && not (m || l)) ≡ true → deep ≡ deep') → cond p (cond m bad (cond l leaf deep)) none ≡ cond p (cond m bad (cond l leaf' deep')) none
same_ends false m l none bad leaf leaf' deep deep' e h = refl
same_ends true true l none bad leaf leaf' deep deep' e h = refl
same_ends true false true none bad leaf leaf' deep deep' e h = e
same_ends true false false none bad leaf leaf' deep deep' e h = h refl

same_deep : {A : Type 0} (b : Bool) (deep deep' end : A) → (b ≡ true → deep ≡ deep') → cond b deep end ≡ cond b deep' end
same_deep true deep deep' end h = h refl
same_deep false deep deep' end h = refl

leaf_end_same : (new old : ℕ → Bool) → ((k : ℕ) → new k ≡ old k) → (addr want rights address : ℕ) → leaf_end new addr want rights address ≡ leaf_end old addr want rights address
leaf_end_same new old same addr want rights address =
    ap (λ t. cond (eqb (bit_and rights want) want) (cond t (At address) Misconfigured) (Violation rights)) (same (address / 4096))

reads_same : (there was : ℕ → Bool) → ((k : ℕ) → there k ≡ was k) → (level addr want rights : ℕ) (o : Option ℕ) (new old : ℕ → ℕ → Walk) → ((e r : ℕ) → o ≡ Some e → leads_on level e ≡ true → new (bits_of e 12 51) r ≡ old (bits_of e 12 51) r) → reads there level addr want rights o new ≡ reads was level addr want rights o old
reads_same there was same level addr want rights None new old h = refl
reads_same there was same level addr want rights (Some e) new old h =
    same_ends (is_present e) (is_misconfigured level e) (is_leaf level e) (Violation 0) Misconfigured _ _ _ _ (leaf_end_same there was same addr want _ _) (λ on. h e _ refl on)

goes_on_same : {A : Type 0} (level : ℕ) (o : Option ℕ) (end : A) (new old : ℕ → A) → ((e : ℕ) → o ≡ Some e → leads_on level e ≡ true → new (bits_of e 12 51) ≡ old (bits_of e 12 51)) → goes_on level o end new ≡ goes_on level o end old
goes_on_same level None end new old h = refl
goes_on_same level (Some e) end new old h = same_deep (leads_on level e) _ _ end (λ on. h e refl on)

each_deeper : (P : ℕ → Type 0) (level : ℕ) (o : Option ℕ) (deeper : ℕ → List ℕ) (e : ℕ) → Each P (goes_on level o [] deeper) → o ≡ Some e → leads_on level e ≡ true → Each P (deeper (bits_of e 12 51))
each_deeper P level o deeper e h is on = rw (is, on) at h

-- ---- by the addresses that are read

abbrev LoadsSame : List Page → List Page → ℕ → Type 0
LoadsSame new old q = load_of new q 8 ≡ load_of old q 8

module _ (new old : List Page) (addr : ℕ) (there : (k : ℕ) → is_there new k ≡ is_there old k) where
  walk_same : (want level table rights : ℕ) → Each (LoadsSame new old) (addresses_from (entry_of old) addr level table) → walk_from (entry_of new) (is_there new) addr want level table rights ≡ walk_from (entry_of old) (is_there old) addr want level table rights
  unfolding walk_from
  walk_same want zero table rights h =
      ap (λ o. reads (is_there new) 0 addr want rights o (λ t r. Misconfigured)) h.0
      ∙ reads_same (is_there new) (is_there old) there 0 addr want rights (entry_of old table (index_at 0 addr)) (λ t r. Misconfigured) (λ t r. Misconfigured) (λ _ _ _ _. refl)
  walk_same want (suc level) table rights h =
      ap (λ o. reads (is_there new) (suc level) addr want rights o (λ t r. walk_from (entry_of new) (is_there new) addr want level t r)) h.0
      ∙ reads_same (is_there new) (is_there old) there (suc level) addr want rights (entry_of old table (index_at (suc level) addr)) (λ t r. walk_from (entry_of new) (is_there new) addr want level t r) (λ t r. walk_from (entry_of old) (is_there old) addr want level t r) (λ e r is on. walk_same want level (bits_of e 12 51) r (each_deeper (LoadsSame new old) (suc level) (entry_of old table (index_at (suc level) addr)) (λ t. addresses_from (entry_of old) addr level t) e h.1 is on))

  addresses_same : (level table : ℕ) → Each (LoadsSame new old) (addresses_from (entry_of old) addr level table) → addresses_from (entry_of new) addr level table ≡ addresses_from (entry_of old) addr level table
  addresses_same zero table h = refl
  addresses_same (suc level) table h =
      ap (λ o. entry_address table (index_at (suc level) addr) ∷ goes_on (suc level) o [] (λ t. addresses_from (entry_of new) addr level t)) h.0
      ∙ ap (λ qs. entry_address table (index_at (suc level) addr) ∷ qs) (goes_on_same (suc level) (entry_of old table (index_at (suc level) addr)) [] (λ t. addresses_from (entry_of new) addr level t) (λ t. addresses_from (entry_of old) addr level t) (λ e is on. addresses_same level (bits_of e 12 51) (each_deeper (LoadsSame new old) (suc level) (entry_of old table (index_at (suc level) addr)) (λ t. addresses_from (entry_of old) addr level t) e h.1 is on)))

  size_same : (level table : ℕ) → Each (LoadsSame new old) (addresses_from (entry_of old) addr level table) → end_entry_size (entry_of new) addr level table ≡ end_entry_size (entry_of old) addr level table
  size_same zero table h = refl
  size_same (suc level) table h =
      ap (λ o. goes_on (suc level) o (entry_size (suc level)) (λ t. end_entry_size (entry_of new) addr level t)) h.0
      ∙ goes_on_same (suc level) (entry_of old table (index_at (suc level) addr)) (entry_size (suc level)) (λ t. end_entry_size (entry_of new) addr level t) (λ t. end_entry_size (entry_of old) addr level t) (λ e is on. size_same level (bits_of e 12 51) (each_deeper (LoadsSame new old) (suc level) (entry_of old table (index_at (suc level) addr)) (λ t. addresses_from (entry_of old) addr level t) e h.1 is on))

  end_same : (level table : ℕ) → Each (LoadsSame new old) (addresses_from (entry_of old) addr level table) → end_entry (entry_of new) addr level table ≡ end_entry (entry_of old) addr level table
  end_same zero table h = h.0
  end_same (suc level) table h =
      ap (λ o. goes_on (suc level) o o (λ t. end_entry (entry_of new) addr level t)) h.0
      ∙ goes_on_same (suc level) (entry_of old table (index_at (suc level) addr)) (entry_of old table (index_at (suc level) addr)) (λ t. end_entry (entry_of new) addr level t) (λ t. end_entry (entry_of old) addr level t) (λ e is on. end_same level (bits_of e 12 51) (each_deeper (LoadsSame new old) (suc level) (entry_of old table (index_at (suc level) addr)) (λ t. addresses_from (entry_of old) addr level t) e h.1 is on))

-- ---- the statements

pub same_walks : SameWalks
same_walks old new eptp addr kind h =
    walk_same new old addr h.there (kind_bit kind) 3 (root_of eptp) 7 (each_of_all (LoadsSame new old) (addresses_read old eptp addr) h.entries)

pub same_addresses : SameAddresses
same_addresses old new eptp addr h =
    addresses_same new old addr h.there 3 (root_of eptp) (each_of_all (LoadsSame new old) (addresses_read old eptp addr) h.entries)

pub same_sizes : SameSizes
same_sizes old new eptp addr h =
    size_same new old addr h.there 3 (root_of eptp) (each_of_all (LoadsSame new old) (addresses_read old eptp addr) h.entries)

pub same_types : SameTypes
same_types old new eptp addr h =
    ap (option_map (λ e. bits_of e 3 5)) (end_same new old addr h.there 3 (root_of eptp) (each_of_all (LoadsSame new old) (addresses_read old eptp addr) h.entries))

pub walks_elsewhere_stay : WalksElsewhereStay
walks_elsewhere_stay at n old new eptp addr same apart =
    record { entries = λ k d l. same.entries _ (apart k d l); there = same.there }
