-- How many pages EPT tables take (Intel SDM volume 3, extended page tables: a PML4 table, and below it tables by bits 47:39,
-- 47:30 and 47:21 of a guest address).
use Rattle.std.specs.Prelude.{ℕ, zero, suc, ◌+◌, ◌*◌, ◌^◌, ◌<◌, ◌≤◌, ◌&&◌, Bool, List, map, nat_lt, if◌then◌else◌}
use Rattle.std.specs.List.{AllPairs, list_any}
use Rattle.ept_emit.specs.declared.window.GuestRange.{GuestRange}
use Rattle.ept_emit.specs.declared.window.Window.{Window}

-- the guest addresses of a window: what it shows, and how, is nothing to how many tables there are
abbrev pub guest_range_of : Window → GuestRange
guest_range_of w = record { guest = w.guest; size = w.size }

abbrev pub ranges_of : List Window → List GuestRange
ranges_of ws = map guest_range_of ws

-- the range goes on below the last of the n from lo on, and ends behind lo: where it isn't empty, some byte of it is one of these
abbrev pub touches : GuestRange → ℕ → ℕ → Bool
touches r lo n = nat_lt r.guest (lo + n) && nat_lt lo (r.guest + r.size)

-- some byte of a range has an address whose quotient by the size of an entry is v
abbrev pub is_taken : List GuestRange → ℕ → ℕ → Bool
is_taken rs entry_size v = list_any (λ r. touches r (entry_size * v) entry_size) rs

abbrev pub one : Bool → ℕ
one b = if b then 1 else 0

-- how many of the n numbers from lo on pass
unfoldable pub count : (ℕ → Bool) → ℕ → ℕ → ℕ
count p lo zero = 0
count p lo (suc n) = count p lo n + one (p (lo + n))

-- the PML4, and the numbers of different values that bits 47:39, 47:30 and 47:21 of the ranges' addresses take
abbrev pub ept_pages : List GuestRange → ℕ
ept_pages rs = 1 + count (is_taken rs (2 ^ 39)) 0 (2 ^ 9) + count (is_taken rs (2 ^ 30)) 0 (2 ^ 18) + count (is_taken rs (2 ^ 21)) 0 (2 ^ 27)

-- it isn't empty, and ends where guest addresses do
pub record IsMapped (r : GuestRange) : Type 0 where
  pub some : 0 < r.size
  pub end : r.guest + r.size ≤ 2 ^ 48

-- they ascend, and share no address
abbrev pub AreApart : List GuestRange → Type 0
AreApart rs = AllPairs (λ a b. a.guest + a.size ≤ b.guest) rs
