-- How far positions are alike, and how far windows stay.
use Rattle.std.proofs.Common.{◌≡◌, ℕ, zero, suc, ◌+◌, ◌-◌, ◌*◌, ◌/◌, ◌%◌, ◌^◌, ◌<◌, ◌≤◌, Bool, true, false, refl, sym, ap, subst, ◌∙◌, inl, inr, arith, List, Option, Some, None}
use Rattle.std.specs.Prelude.{is_some, slice_index_or}
use Rattle.std.specs.List.{AllWithin}
use Rattle.dma_check.specs.Marked.{IsPath, Reaches}
use Rattle.dma_check.specs.Pieces.{AreAlike, IsAlike, Keeps}
use Rattle.dma_check.specs.Views.{View, addr_of, source_of, table_at}
use Rattle.dma_check.specs.declared.held.DmaWindow.{DmaWindow}
use Rattle.dma_check.specs.declared.path.Path.{Path}
use Rattle.machine_layout.specs.Walks.{entry_size}

-- ---- one entry stands for them

in_entry : (level a b : ℕ) → level ≤ 3 → a ≤ b → b < (a / entry_size level + 1) * entry_size level → b / entry_size level ≡ a / entry_size level
in_entry zero a b l le lt = omega (arith, le, lt)
in_entry (suc zero) a b l le lt = omega (arith, le, lt)
in_entry (suc (suc zero)) a b l le lt = omega (arith, le, lt)
in_entry (suc (suc (suc zero))) a b l le lt = omega (arith, le, lt)
in_entry (suc (suc (suc (suc level)))) a b l le lt = absurd (omega (arith, l))

pub ends_above : (level a size : ℕ) → level ≤ 3 → size ≡ entry_size level → a < 2 ^ 48 → (a < (a / size + 1) * size) × ((a / size + 1) * size ≤ 2 ^ 48)
ends_above zero a size l e h = rw e (omega (arith, h), omega (arith, h))
ends_above (suc zero) a size l e h = rw e (omega (arith, h), omega (arith, h))
ends_above (suc (suc zero)) a size l e h = rw e (omega (arith, h), omega (arith, h))
ends_above (suc (suc (suc zero))) a size l e h = rw e (omega (arith, h), omega (arith, h))
ends_above (suc (suc (suc (suc level)))) a size l e h = absurd (omega (arith, l))

pub entry_alike : (source level a size : ℕ) → level ≤ 3 → size ≡ entry_size level → a < 2 ^ 48 → AreAlike (2 ^ 48 * source + a) ((a / size + 1) * size - a) level
entry_alike source level a size l e h = λ p le lt.
    let up = ends_above level a size l e h in
    let more = up.0 in
    let low = up.1 in
    let inside : p - 2 ^ 48 * source < (a / size + 1) * size = omega (arith, more, le, lt) in
    let own : source_of p ≡ source = omega (arith, inside, low, le) in
    let own_x : source_of (2 ^ 48 * source + a) ≡ source = omega (arith, h) in
    let at : addr_of p ≡ p - 2 ^ 48 * source = omega (arith, own, le) in
    let at_x : addr_of (2 ^ 48 * source + a) ≡ a = omega (arith, h) in
    let part : (p - 2 ^ 48 * source) / entry_size level ≡ a / entry_size level = in_entry level a (p - 2 ^ 48 * source) l (omega (arith, le)) (subst (λ n. p - 2 ^ 48 * source < (a / n + 1) * n) e inside) in
    record { source = own ∙ sym own_x; part = ap (λ n. n / entry_size level) at ∙ part ∙ ap (λ n. n / entry_size level) (sym at_x) }

pub source_alike : (source level a : ℕ) → level ≡ 4 → a < 2 ^ 48 → AreAlike (2 ^ 48 * source + a) (2 ^ 48 - a) level
source_alike source level a e h = λ p le lt.
    let own : source_of p ≡ source = omega (arith, h, le, lt) in
    let own_x : source_of (2 ^ 48 * source + a) ≡ source = omega (arith, h) in
    record { source = own ∙ sym own_x; part = subst (λ n. addr_of p / entry_size n ≡ addr_of (2 ^ 48 * source + a) / entry_size n) (sym e) (omega arith) }

-- ---- where a walk stops

pub none_is : (o : Option ℕ) → is_some o ≡ false → o ≡ None
none_is None h = refl
none_is (Some x) h = absurd (cc)

pub stops_at : (v : View) (q level n : ℕ) (o : Option ℕ) → level + n ≡ 6 → level ≤ 4 → o ≡ table_at v q n → is_some o ≡ false → Reaches v q level
stops_at v q level n o e few is none =
    let step : 6 - level ≡ n = omega (arith, e) in
    record { few = few; stops = inr (ap (table_at v q) step ∙ sym is ∙ none_is o none) }

-- ---- windows

pub keeps_less : (w : DmaWindow) (addr high less : ℕ) → less ≤ high → Keeps addr high w → Keeps addr less w
keeps_less w addr high less l h = λ a le lt. h a le (omega (arith, l, lt))

pub keeps_all : (ws : List DmaWindow) (addr high less n : ℕ) → less ≤ high → AllWithin (Keeps addr high) ws 0 n → AllWithin (Keeps addr less) ws 0 n
keeps_all ws addr high less n l h = λ k d low lt. keeps_less (slice_index_or ws k d) addr high less l (h k d low lt)
