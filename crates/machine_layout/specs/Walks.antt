-- The walk of EPT tables (Intel SDM volume 3, "VMX Support for Address Translation": the EPT mechanism, the formats of the
-- EPT PML4 entry, of the PDPTE, the PDE and the PTE that map a page or reference a table; the EPTP's format is that of the
-- VMCS's extended-page-table pointer), as this project's machine profiles it: no execute-only translations, 40 bits of
-- physical addresses, and memory that isn't everywhere.
use Rattle.std.specs.Prelude.{ℕ, zero, suc, ◌+◌, ◌-◌, ◌*◌, ◌/◌, ◌%◌, ◌^◌, ◌==◌, ◌&&◌, ◌||◌, not, bit_and, nat_lt, Bool, if◌then◌else◌, List, [], ◌∷◌, Option, Some, None, option_map}
use Rattle.muen_num.specs.Access.{kind_bit}
use Rattle.muen_num.specs.declared.access.AccessKind.{AccessKind}
use Rattle.machine_layout.specs.Memory.{Page, is_there, load_of}
use Rattle.machine_layout.specs.declared.walk.Walk.{Walk}
use Rattle.machine_layout.specs.declared.walk.Walk.TheVariants.{At, Violation, Misconfigured}

-- bits lo to hi of a word, as a number
abbrev pub bits_of : ℕ → ℕ → ℕ → ℕ
bits_of word lo hi = word / 2 ^ lo % 2 ^ (hi + 1 - lo)

-- ---- entries. A level is that of a table: 3 of the PML4 table, 2 of a page directory pointer table, 1 of a page directory,
-- 0 of a page table

-- how many bytes of addresses an entry stands for
abbrev pub entry_size : ℕ → ℕ
entry_size zero = 4096
entry_size (suc level) = 512 * entry_size level

-- which entry of its table an address takes: its bits 47:39, 38:30, 29:21 and 20:12
abbrev pub index_at : ℕ → ℕ → ℕ
index_at level addr = addr / entry_size level % 512

-- the address of entry i of a table
abbrev pub entry_address : ℕ → ℕ → ℕ
entry_address table i = 4096 * table + 8 * i

abbrev pub is_present : ℕ → Bool
is_present e = not (bits_of e 0 2 == 0)

-- it maps a page: bit 7 says so in a page directory and in a page directory pointer table, and the entries of a page table do
abbrev pub is_leaf : ℕ → ℕ → Bool
is_leaf level e = (level == 0) || (nat_lt level 3 && (bits_of e 7 7 == 1))

-- write without read, or execute alone
abbrev pub has_lone_rights : ℕ → Bool
has_lone_rights e = (bits_of e 0 2 == 2) || ((bits_of e 0 2 == 4) || (bits_of e 0 2 == 6))

-- a memory type that there isn't
abbrev pub has_no_type : ℕ → Bool
has_no_type e = (bits_of e 3 5 == 2) || ((bits_of e 3 5 == 3) || (bits_of e 3 5 == 7))

-- an address bit below the size of the page
abbrev pub is_misaligned : ℕ → ℕ → Bool
is_misaligned level e = not (4096 * bits_of e 12 51 % entry_size level == 0)

-- a bit that must be zero where an entry references a table: 7:3 in the PML4 table, 6:3 below
abbrev pub has_reserved : ℕ → ℕ → Bool
has_reserved level e = if level == 3 then not (bits_of e 3 7 == 0) else not (bits_of e 3 6 == 0)

-- an address bit above those that the machine has
abbrev pub is_beyond : ℕ → Bool
is_beyond e = not (bits_of e 40 51 == 0)

-- of an entry that is present
abbrev pub is_misconfigured : ℕ → ℕ → Bool
is_misconfigured level e =
    has_lone_rights e
    || (is_beyond e || (if is_leaf level e then has_no_type e || is_misaligned level e else has_reserved level e))

-- ---- the walk, over any way to read entries and to know pages. Rights are those that all entries so far have

-- the end at a leaf: the rights first, and then whether the target is there
abbrev pub leaf_end : (ℕ → Bool) → ℕ → ℕ → ℕ → ℕ → Walk
leaf_end there addr want rights address =
    if bit_and rights want == want then (if there (address / 4096) then At address else Misconfigured) else Violation rights

-- by what is read of an entry
abbrev pub reads : (ℕ → Bool) → ℕ → ℕ → ℕ → ℕ → Option ℕ → (ℕ → ℕ → Walk) → Walk
reads there level addr want rights None deeper = Misconfigured
reads there level addr want rights (Some e) deeper =
    if is_present e
    then (if is_misconfigured level e
    then Misconfigured
    else (if is_leaf level e
    then leaf_end there addr want (bit_and rights (bits_of e 0 2)) (4096 * bits_of e 12 51 + addr % entry_size level)
    else deeper (bits_of e 12 51) (bit_and rights (bits_of e 0 2))))
    else Violation 0

-- from a table of this level on; `entry table i` is entry i of the table in page `table`
unfoldable pub walk_from : (ℕ → ℕ → Option ℕ) → (ℕ → Bool) → ℕ → ℕ → ℕ → ℕ → ℕ → Walk
walk_from entry there addr want zero table rights =
    reads there 0 addr want rights (entry table (index_at 0 addr)) (λ t r. Misconfigured)
walk_from entry there addr want (suc level) table rights =
    reads there (suc level) addr want rights (entry table (index_at (suc level) addr)) (λ t r. walk_from entry there addr want level t r)

-- ---- the walk in a memory

-- entry i of the table in this page
abbrev pub entry_of : List Page → ℕ → ℕ → Option ℕ
entry_of m table i = load_of m (entry_address table i) 8

-- the page of the PML4 table of an EPTP
abbrev pub root_of : ℕ → ℕ
root_of eptp = eptp / 4096

-- **the walk** for a guest address below 2 ^ 48 and a kind of access, by the entries that memory has now
abbrev pub walk_of : List Page → ℕ → ℕ → AccessKind → Walk
walk_of m eptp addr kind = walk_from (entry_of m) (is_there m) addr (kind_bit kind) 3 (root_of eptp) 7

-- ---- what a walk reads, and the size and the memory type of the page that it ends at

-- what comes after an entry was read, where it references a table; else this
abbrev pub goes_on : {A : Type 0} → ℕ → Option ℕ → A → (ℕ → A) → A
goes_on level None end deeper = end
goes_on level (Some e) end deeper =
    if is_present e && not (is_misconfigured level e || is_leaf level e) then deeper (bits_of e 12 51) else end

-- the addresses of the entries that a walk for this address reads, in order
abbrev pub addresses_from : (ℕ → ℕ → Option ℕ) → ℕ → ℕ → ℕ → List ℕ
addresses_from entry addr zero table = entry_address table (index_at 0 addr) ∷ []
addresses_from entry addr (suc level) table =
    entry_address table (index_at (suc level) addr)
    ∷ goes_on (suc level) (entry table (index_at (suc level) addr)) [] (λ t. addresses_from entry addr level t)

abbrev pub addresses_read : List Page → ℕ → ℕ → List ℕ
addresses_read m eptp addr = addresses_from (entry_of m) addr 3 (root_of eptp)

-- how many bytes the entry stands for that ends a walk
abbrev pub end_entry_size : (ℕ → ℕ → Option ℕ) → ℕ → ℕ → ℕ → ℕ
end_entry_size entry addr zero table = entry_size 0
end_entry_size entry addr (suc level) table =
    goes_on (suc level) (entry table (index_at (suc level) addr)) (entry_size (suc level))
    (λ t. end_entry_size entry addr level t)

-- the size of the page by which this address is mapped, where a walk for reading it ends at an address
abbrev pub leaf_size : List Page → ℕ → ℕ → ℕ
leaf_size m eptp addr = end_entry_size (entry_of m) addr 3 (root_of eptp)

-- the entry that ends a walk, if memory has it
abbrev pub end_entry : (ℕ → ℕ → Option ℕ) → ℕ → ℕ → ℕ → Option ℕ
end_entry entry addr zero table = entry table (index_at 0 addr)
end_entry entry addr (suc level) table =
    goes_on (suc level) (entry table (index_at (suc level) addr)) (entry table (index_at (suc level) addr))
    (λ t. end_entry entry addr level t)

-- the memory type of the page by which this address is mapped, where a walk for reading it ends at an address: bits 5:3 of
-- the entry that ends the walk
abbrev pub leaf_type : List Page → ℕ → ℕ → Option ℕ
leaf_type m eptp addr = option_map (λ e. bits_of e 3 5) (end_entry (entry_of m) addr 3 (root_of eptp))
