-- Addresses of one guest page are walked alike.
use Rattle.std.proofs.Common.{◌≡◌, ℕ, zero, suc, ◌+◌, ◌*◌, ◌/◌, ◌%◌, ◌<◌, Bool, true, false, cond, Option, Some, None, refl, ap, ◌∙◌, eqb, arith}
use Rattle.std.specs.Prelude.{bit_and}
use Rattle.muen_num.specs.Access.{kind_bit}
use Rattle.muen_num.specs.declared.access.AccessKind.{AccessKind}
use Rattle.std.specs.Prelude.{List}
use Rattle.machine_layout.specs.Memory.{Page, is_there}
use Rattle.machine_layout.specs.Walks.{bits_of, entry_size, index_at, is_present, is_leaf, is_misconfigured, leaf_end, reads, walk_from, entry_of, root_of, walk_of}
use Rattle.machine_layout.specs.declared.walk.Walk.{Walk}
use Rattle.machine_layout.specs.declared.walk.Walk.TheVariants.{At, Violation, Misconfigured}
use Rattle.ept_walk.specs.Ends.{offset_walk}

-- the first address of the page
abbrev first : ℕ → ℕ
first addr = 4096 * (addr / 4096)

same_index : (level addr : ℕ) → level < 4 → index_at level addr ≡ index_at level (first addr)
same_index zero addr l = omega arith
same_index (suc zero) addr l = omega arith
same_index (suc (suc zero)) addr l = omega arith
same_index (suc (suc (suc zero))) addr l = omega arith
same_index (suc (suc (suc (suc level)))) addr l = absurd (omega arith)

low_part : (level addr : ℕ) → level < 4 → addr % entry_size level ≡ first addr % entry_size level + addr % 4096
low_part zero addr l = omega arith
low_part (suc zero) addr l = omega arith
low_part (suc (suc zero)) addr l = omega arith
low_part (suc (suc (suc zero))) addr l = omega arith
low_part (suc (suc (suc (suc level)))) addr l = absurd (omega arith)

whole : (level addr : ℕ) → level < 4 → addr % 4096 ≡ 0 → addr % entry_size level % 4096 ≡ 0
whole zero addr l e = omega arith
whole (suc zero) addr l e = omega arith
whole (suc (suc zero)) addr l e = omega arith
whole (suc (suc (suc zero))) addr l e = omega arith
whole (suc (suc (suc (suc level)))) addr l e = absurd (omega arith)

-- what the first address of a page is mapped to
pub leads_to_page : (level addr number size : ℕ) → level < 4 → size ≡ entry_size level → addr % 4096 ≡ 0 → (4096 * number + addr % size) % 4096 ≡ 0
leads_to_page level addr number size l s e = let w = whole level addr l e in rw s (omega (arith, w))

-- ---- the walk

moved_conds : (o : ℕ) (p m l : Bool) (leaf leaf' deep deep' : Walk) → leaf ≡ offset_walk o leaf' → deep ≡ offset_walk o deep' → cond p (cond m Misconfigured (cond l leaf deep)) (Violation 0) ≡ offset_walk o (cond p (cond m Misconfigured (cond l leaf' deep')) (Violation 0))
moved_conds o false m l leaf leaf' deep deep' e h = refl
moved_conds o true true l leaf leaf' deep deep' e h = refl
moved_conds o true false true leaf leaf' deep deep' e h = e
moved_conds o true false false leaf leaf' deep deep' e h = h

moved_end : (o address rights : ℕ) (b c : Bool) → cond b (cond c (At (address + o)) Misconfigured) (Violation rights) ≡ offset_walk o (cond b (cond c (At address) Misconfigured) (Violation rights))
moved_end o address rights true true = refl
moved_end o address rights true false = refl
moved_end o address rights false c = refl

pub leaf_end_moved : (there : ℕ → Bool) (addr addr' want rights address o : ℕ) → address % 4096 ≡ 0 → o < 4096 → leaf_end there addr want rights (address + o) ≡ offset_walk o (leaf_end there addr' want rights address)
leaf_end_moved there addr addr' want rights address o w l =
    let same : (address + o) / 4096 ≡ address / 4096 = omega (arith, w, l) in
    ap (λ k. cond (eqb (bit_and rights want) want) (cond (there k) (At (address + o)) Misconfigured) (Violation rights)) same
    ∙ moved_end o address rights (eqb (bit_and rights want) want) (there (address / 4096))

reads_moved : (there : ℕ → Bool) (level addr want rights : ℕ) (o : Option ℕ) (new old : ℕ → ℕ → Walk) → level < 4 → ((t r : ℕ) → new t r ≡ offset_walk (addr % 4096) (old t r)) → reads there level addr want rights o new ≡ offset_walk (addr % 4096) (reads there level (first addr) want rights o old)
reads_moved there level addr want rights None new old l h = refl
reads_moved there level addr want rights (Some e) new old l h =
    let part = low_part level addr l in
    let w = whole level (first addr) l (omega arith) in
    let sum : 4096 * bits_of e 12 51 + addr % entry_size level ≡ 4096 * bits_of e 12 51 + first addr % entry_size level + addr % 4096 = omega (arith, part) in
    let even : (4096 * bits_of e 12 51 + first addr % entry_size level) % 4096 ≡ 0 = omega (arith, w) in
    moved_conds (addr % 4096) (is_present e) (is_misconfigured level e) (is_leaf level e) _ _ _ _ (ap (λ p. leaf_end there addr want (bit_and rights (bits_of e 0 2)) p) sum ∙ leaf_end_moved there addr (first addr) want (bit_and rights (bits_of e 0 2)) (4096 * bits_of e 12 51 + first addr % entry_size level) (addr % 4096) even (omega arith)) (h (bits_of e 12 51) (bit_and rights (bits_of e 0 2)))

walk_moved : (entry : ℕ → ℕ → Option ℕ) (there : ℕ → Bool) (addr want level table rights : ℕ) → level < 4 → walk_from entry there addr want level table rights ≡ offset_walk (addr % 4096) (walk_from entry there (first addr) want level table rights)
unfolding walk_from
walk_moved entry there addr want zero table rights l =
    ap (λ i. reads there 0 addr want rights (entry table i) (λ t r. Misconfigured)) (same_index 0 addr l)
    ∙ reads_moved there 0 addr want rights (entry table (index_at 0 (first addr))) (λ t r. Misconfigured) (λ t r. Misconfigured) l (λ t r. refl)
walk_moved entry there addr want (suc level) table rights l =
    ap (λ i. reads there (suc level) addr want rights (entry table i) (λ t r. walk_from entry there addr want level t r)) (same_index (suc level) addr l)
    ∙ reads_moved there (suc level) addr want rights (entry table (index_at (suc level) (first addr))) (λ t r. walk_from entry there addr want level t r) (λ t r. walk_from entry there (first addr) want level t r) l (λ t r. walk_moved entry there addr want level t r (omega arith))

-- **the walk for an address is that for the first of its page, moved by the offset**
pub walk_in_page : (m : List Page) (eptp addr : ℕ) (kind : AccessKind) → walk_of m eptp addr kind ≡ offset_walk (addr % 4096) (walk_of m eptp (4096 * (addr / 4096)) kind)
walk_in_page m eptp addr kind = walk_moved (entry_of m) (is_there m) addr (kind_bit kind) 3 (root_of eptp) 7 (omega arith)
