-- What stands in tables that lie one after another, and which tables lead to which. Tables are numbered from 0, and table k
-- is in page base + k. A level is that of a table, from 3 of the PML4 table down to 0 of a page table. Each entry that
-- references a table has the same rights, `pointers`.
use Rattle.std.specs.Prelude.{◌≡◌, ◌⊎◌, ℕ, zero, suc, ◌+◌, ◌-◌, ◌*◌, ◌/◌, ◌%◌, ◌^◌, ◌<◌, ◌≤◌, Bool, true, false, List, length, Option, Some, None}
use Rattle.ept_emit.specs.declared.window.Window.{Window}
use Rattle.machine_layout.specs.Walks.{entry_size}
use Rattle.policy_types.specs.declared.rights.Rights.{Rights}
use Rattle.ept_emit.specs.Entries.{is_whole, leaf_entry, table_entry, window_touching, word_at}
use Rattle.ept_emit.specs.Pages.{ept_pages, ranges_of}

abbrev pub Chosen : Type 0 → Type 0 → Bool → Type 0
Chosen A B true = A
Chosen A B false = B

-- which table an entry references
abbrev pub child : ℕ → ℕ → ℕ
child base word = word / 4096 - base

-- it references one of the tables lo to hi - 1, and has no bit set but those for that
pub record IsReference (pointers : Rights) (base lo hi word : ℕ) : Type 0 where
  pub is : word ≡ table_entry pointers (base + child base word)
  pub low : lo ≤ child base word
  pub high : child base word < hi

-- by the window that has an address of entry e, the first: without one the entry is 0; a page of it is mapped where that is
-- allowed; else the entry references a table
abbrev pub EntryFitsWindow : Rights → (ℕ → Type 0) → ℕ → ℕ → ℕ → ℕ → ℕ → ℕ → Option Window → Type 0
EntryFitsWindow pointers deeper base lo hi level e word None = word ≡ 0
EntryFitsWindow pointers deeper base lo hi level e word (Some w) =
    Chosen (word ≡ leaf_entry w level e) (IsReference pointers base lo hi word × deeper (child base word)) (is_whole w level e)

-- **each entry** that a walk for an address meets, from table `table` of this level on, has exactly the bits that it must
-- have for these windows, and all tables below lie among lo to hi - 1
unfoldable pub IsWritten : Rights → (ℕ → ℕ) → ℕ → ℕ → ℕ → List Window → ℕ → ℕ → ℕ → Type 0
IsWritten pointers word base lo hi ws zero table addr =
    EntryFitsWindow pointers (λ c. ⊥) base lo hi 0 (addr / entry_size 0) (word (512 * table + addr / entry_size 0 % 512)) (window_touching ws (entry_size 0 * (addr / entry_size 0)) (entry_size 0))
IsWritten pointers word base lo hi ws (suc level) table addr =
    EntryFitsWindow pointers (λ c. IsWritten pointers word base lo hi ws level c addr) base lo hi (suc level) (addr / entry_size (suc level)) (word (512 * table + addr / entry_size (suc level) % 512)) (window_touching ws (entry_size (suc level) * (addr / entry_size (suc level))) (entry_size (suc level)))

-- what holds of the table c that an entry references, if it references one
abbrev pub Leads : (ℕ → Type 0) → ℕ → ℕ → ℕ → Option Window → Type 0
Leads deeper c level e None = ⊥
Leads deeper c level e (Some w) = Chosen ⊥ (deeper c) (is_whole w level e)

-- a walk for this address comes from table `table` of this level to another table, of level `l` and number `k`
unfoldable pub Below : (ℕ → ℕ) → ℕ → List Window → ℕ → ℕ → ℕ → ℕ → ℕ → Type 0
Below word base ws zero table addr l k = ⊥
Below word base ws (suc level) table addr l k =
    Leads (λ c. ((l ≡ level) × (k ≡ c)) ⊎ Below word base ws level c addr l k) (child base (word (512 * table + addr / entry_size (suc level) % 512))) (suc level) (addr / entry_size (suc level)) (window_touching ws (entry_size (suc level) * (addr / entry_size (suc level))) (entry_size (suc level)))

-- a walk for some address of a set comes to table k
pub record IsTableReached (word : ℕ → ℕ) (base : ℕ) (ws : List Window) (level table : ℕ) (Within : ℕ → Type 0) (k : ℕ) : Type 0 where
  pub addr : ℕ
  pub depth : ℕ
  pub within : Within addr
  pub below : Below word base ws level table addr depth k

-- below table `table`, for the addresses of a set: the entries are as they must be; each of the tables `used` to top - 1 is
-- at one path, which its level and the address bits above it are; each is reached; they are numbered in the order in which
-- ascending addresses reach them; and a walk comes to a table after those of lower numbers
pub record AreNumbered (pointers : Rights) (word : ℕ → ℕ) (base used top : ℕ) (ws : List Window) (level table : ℕ) (Within : ℕ → Type 0) : Type 0 where
  pub written : (g : ℕ) → Within g → IsWritten pointers word base used top ws level table g
  pub paths : (g h l j k : ℕ) → Within g → Within h → Below word base ws level table g l k → Below word base ws level table h j k → (l ≡ j) × (g / entry_size (suc l) ≡ h / entry_size (suc l))
  pub reached : (k : ℕ) → used ≤ k → k < top → IsTableReached word base ws level table Within k
  pub order : (h l j k : ℕ) → Within h → Below word base ws level table h l k → used ≤ j → j ≤ k → IsTableReached word base ws level table (λ g. Within g × (g ≤ h)) j
  pub ascending : (g l k j i : ℕ) → Within g → Below word base ws level table g l k → Below word base ws level table g j i → j < l → k < i

-- **these bytes are the tables of the windows**, of which the first lies in this page, and as many as tables of small pages
-- would take: each entry that an address meets has exactly the bits that it must have, the tables are numbered in the order in
-- which ascending addresses need them, and behind them all is zero
pub record AreWritten (pointers : Rights) (ws : List Window) (page : ℕ) (bytes : List ℕ) : Type 0 where
  pub len : length bytes ≡ 4096 * ept_pages (ranges_of ws)
  pub used : ℕ
  pub some : 1 ≤ used
  pub few : used ≤ ept_pages (ranges_of ws)
  pub numbered : AreNumbered pointers (word_at bytes) page 1 used ws 3 0 (λ addr. addr < 2 ^ 48)
  pub rest : (j : ℕ) → 512 * used ≤ j → word_at bytes j ≡ 0
