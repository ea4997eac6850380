-- Faults, worked out: six pages from address 0 on, by which the source 24 (bus 0, device 3, function 0) reaches the page at 0x107000
-- by its addresses 4,096 to 8,191. Memory has the 16 pages from 0x100000 on.
use Rattle.std.proofs.Common.{◌≡◌, refl, ℕ, ◌+◌, ◌-◌, ◌*◌, ◌^◌, ◌==◌, ◌&&◌, Bool, true, false, if◌then◌else◌, [], ◌∷◌, Option, Some, None}
use Rattle.std.specs.Prelude.{nat_le, nat_lt}
use Rattle.dma_check.specs.Faults.{contents, expected, is_clash, is_outside, walk}
use Rattle.dma_check.specs.Sources.{declared, source_id}
use Rattle.dma_check.specs.Views.{View, table_at, walk_at}
use Rattle.dma_check.specs.declared.fault.FaultKind.TheVariants.{Lacks, Leak, Outside}

-- the words of the pages that aren't zero, but for the last, which is that of the memory's entry
abbrev words : ℕ → ℕ → ℕ → Option ℕ
words leaf page i =
    if (page == 0) && (i == 0) then Some 0x1001
    else (if (page == 1) && (i == 48) then Some 0x2001
    else (if (page == 1) && (i == 49) then Some 0x102
    else (if (page == 2) && (i == 0) then Some 0x3003
    else (if (page == 3) && (i == 0) then Some 0x4003
    else (if (page == 4) && (i == 0) then Some 0x5003
    else (if (page == 5) && (i == 1) then Some leaf
    else (if nat_lt page 6 then Some 0 else None)))))))

-- the policy's device is this source, and its domain has a page at 4096, to read and to write
abbrev told : ℕ → ℕ → Bool → Option ℕ
told source addr write = if (source == 24) && (nat_le 4096 addr && nat_lt addr 8192) then Some (0x107000 + (addr - 4096)) else None

abbrev view : ℕ → View
view leaf = record {
  word = words leaf;
  root = 0;
  is_table = λ page. nat_lt page 6;
  is_memory = λ a. nat_le 0x100000 a && nat_lt a 0x110000;
  declared = told;
}

-- the source of a device at its place on a bus
a_source : source_id (record { bus = 0; device = 3; function = 0 }) ≡ 24
a_source = refl

another_source : source_id (record { bus = 1; device = 31; function = 7 }) ≡ 511
another_source = refl

-- ---- where accesses come to, and which tables walks come to

a_byte : walk_at (view 0x107003) 24 4104 true ≡ Some 0x107008
a_byte = refl

another_function : walk_at (view 0x107003) 25 4104 true ≡ None
another_function = refl

the_last_table : table_at (view 0x107003) (2 ^ 48 * 24 + 4096) 5 ≡ Some 5
unfolding table_at
the_last_table = refl

-- a source without a context entry comes to the tables above alone
no_highest_table : table_at (view 0x107003) (2 ^ 48 * 25 + 4096) 2 ≡ None
unfolding table_at
no_highest_table = refl

no_table_outside : is_outside (view 0x107003) (2 ^ 48 * 24 + 4096) ≡ false
unfolding is_outside table_at
no_table_outside = refl

-- ---- what is found of the page

as_declared : contents (view 0x107003).is_memory (walk (view 0x107003)) (expected (view 0x107003)) (2 ^ 48 * 24 + 4096) ≡ None
as_declared = refl

-- nothing is declared behind it, and nothing is reached there
behind : contents (view 0x107003).is_memory (walk (view 0x107003)) (expected (view 0x107003)) (2 ^ 48 * 24 + 8192) ≡ None
behind = refl

-- the entry refers to another page of memory
moved : contents (view 0x106003).is_memory (walk (view 0x106003)) (expected (view 0x106003)) (2 ^ 48 * 24 + 4096)
    ≡ Some (record { kind = Leak; bus = 0; devfn = 24; addr = 4096 })
moved = refl

-- to one that memory hasn't
out_of_memory : contents (view 0x200003).is_memory (walk (view 0x200003)) (expected (view 0x200003)) (2 ^ 48 * 24 + 4096)
    ≡ Some (record { kind = Outside; bus = 0; devfn = 24; addr = 4096 })
out_of_memory = refl

-- it isn't to be written to, though it is declared so: each kind of access is asked
read_alone : contents (view 0x107001).is_memory (walk (view 0x107001)) (expected (view 0x107001)) (2 ^ 48 * 24 + 4096)
    ≡ Some (record { kind = Lacks; bus = 0; devfn = 24; addr = 4096 })
read_alone = refl

write_alone : contents (view 0x107002).is_memory (walk (view 0x107002)) (expected (view 0x107002)) (2 ^ 48 * 24 + 4096)
    ≡ Some (record { kind = Lacks; bus = 0; devfn = 24; addr = 4096 })
write_alone = refl

-- it isn't there
absent : contents (view 0).is_memory (walk (view 0)) (expected (view 0)) (2 ^ 48 * 24 + 4100)
    ≡ Some (record { kind = Lacks; bus = 0; devfn = 24; addr = 4100 })
absent = refl

-- ---- tables on two paths

-- the second entry of the highest table refers to that table itself
abbrev looped : ℕ → ℕ → Option ℕ
looped page i = if (page == 2) && (i == 1) then Some 0x2003 else words 0x107003 page i

abbrev loop : View
loop = record { word = looped; root = 0; is_table = λ page. nat_lt page 6; is_memory = λ a. true; declared = told }

a_table_below_itself : is_clash loop (2 ^ 48 * 24 + 2 ^ 39) 3 (2 ^ 48 * 24 + 2 ^ 39) 2 ≡ true
unfolding table_at
a_table_below_itself = refl

-- one table on one path, by two addresses
one_way : is_clash loop (2 ^ 48 * 24 + 4096) 5 (2 ^ 48 * 24) 5 ≡ false
unfolding table_at
one_way = refl

-- a second source shares the highest table of the first, and all below it
abbrev shared_words : ℕ → ℕ → Option ℕ
shared_words page i =
    if (page == 1) && (i == 50) then Some 0x2001 else (if (page == 1) && (i == 51) then Some 0x102 else words 0x107003 page i)

abbrev shared : View
shared = record { word = shared_words; root = 0; is_table = λ page. nat_lt page 6; is_memory = λ a. true; declared = told }

shared_tables : is_clash shared (2 ^ 48 * 25 + 4096) 5 (2 ^ 48 * 24) 5 ≡ false
unfolding table_at
shared_tables = refl

-- which leads it where nothing is declared for it
another_reaches : contents shared.is_memory (walk shared) (expected shared) (2 ^ 48 * 25 + 4096)
    ≡ Some (record { kind = Leak; bus = 0; devfn = 25; addr = 4096 })
another_reaches = refl
