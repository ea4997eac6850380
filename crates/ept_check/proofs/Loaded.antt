-- An entry of a table that memory has.
use Rattle.std.proofs.Common.{◌≡◌, ℕ, ◌+◌, ◌*◌, ◌/◌, ◌%◌, ◌<◌, List, Some, refl, arith}
use Rattle.machine_layout.specs.Memory.{Page, page_of}
use Rattle.machine_layout.specs.PageFields.{number_at}
use Rattle.machine_layout.specs.Walks.{entry_of}

-- it is a word of the table's page
pub entry_in : (m : List Page) (t i : ℕ) (bytes : List ℕ) → page_of m t ≡ Some bytes → i < 512 → entry_of m t i ≡ Some (number_at bytes (8 * i) 8)
unfolding number_at
entry_in m t i bytes h few =
    let page : (4096 * t + 8 * i) / 4096 ≡ t = omega (arith, few) in
    let offset : (4096 * t + 8 * i) % 4096 ≡ 8 * i = omega (arith, few) in
    rw (page, offset) (rw h refl)
