-- The file of the tables of domains is one: its pages follow from the domains and from where they lie, and where they lie from how
-- many they are.
use Rattle.std.proofs.Common.{◌≡◌, inl, inr, ℕ, zero, suc, ◌+◌, ◌/◌, ◌<◌, List, [], ◌∷◌, ◌++◌, length, get_or, sym, ap, ◌∙◌, subst, arith}
use Rattle.std.specs.List.{concat, flat_map}
use Rattle.std.proofs.lemmas.Bool.{cases_Bool, cases_lt, cases_order, true≢false}
use Rattle.std.proofs.lemmas.List.{get_or_append_left, get_or-append-add, get_or_default, get_or_past, same_lists}
use Rattle.dma_emit.specs.declared.domains.Domains.{Domains}
use Rattle.dma_emit.specs.Base.{IsBase, IsLowestFree}
use Rattle.dma_emit.specs.Emitted.{ArePages, IsDomainsTables, IsFileOf}
use Rattle.dma_emit.specs.Entries.{context_entry, root_entry, table_bytes}
use Rattle.dma_emit.specs.Layout.{buses, domain_windows_at, has_device, tables_page}
use Rattle.dma_emit.proofs.Places.{pages_long}
use Rattle.dma_tables.specs.Form.{IsBytes}
use Rattle.dma_tables.specs.DmaWalk.{root_page}
use Rattle.dma_tables.specs.declared.file.DmaFile.{DmaFile}
use Rattle.ept_emit.proofs.OneTables.{tables_are_one}
use Rattle.muen_num.specs.declared.limits.TheConstants.{PAGE}
use Rattle.policy_lawful.specs.Rules.{extents_of}
use Rattle.policy_lawful.specs.declared.offence.Extent.{Extent}
use Rattle.policy_lawful.specs.rights.Rights.TheVariants.{Rw}
use Rattle.policy_lawful.specs.source.Source.{Source}

-- ---- parts of bytes

front_bytes : (xs ys : List ℕ) → IsBytes (xs ++ ys) → IsBytes xs
front_bytes xs ys bytes i =
    elim (cases_lt i (length xs)) [
      | inl within ↦ subst (λ x. x < 256) (get_or_append_left xs ys 0 i within) (bytes i)
      | inr past ↦ subst (λ x. x < 256) (sym (get_or_past xs i 0 past)) (omega arith)
    ]

rest_bytes : (xs ys : List ℕ) → IsBytes (xs ++ ys) → IsBytes ys
rest_bytes xs ys bytes i = subst (λ x. x < 256) (get_or-append-add xs ys i 0) (bytes (length xs + i))

each_bytes : (xss : List (List ℕ)) → IsBytes (concat xss) → (n : ℕ) → IsBytes (get_or xss n [])
each_bytes [] bytes n = λ i. omega arith
each_bytes (xs ∷ xss) bytes zero = front_bytes xs (concat xss) bytes
each_bytes (xs ∷ xss) bytes (suc n) = each_bytes xss (rest_bytes xs (concat xss) bytes) n

-- ---- pages

domain_is_one : (d : Domains) (root n : ℕ) (a b : List ℕ) → IsDomainsTables d root n a → IsDomainsTables d root n b → IsBytes a → IsBytes b → a ≡ b
domain_is_one d root n a b of_a of_b bytes_a bytes_b =
    elim (cases_Bool (has_device d n)) [
      | inl has ↦ tables_are_one Rw (domain_windows_at d n) (root + tables_page d n) a b (of_a.some has) (of_b.some has) bytes_a bytes_b
      | inr none ↦ of_a.none none ∙ sym (of_b.none none)
    ]

pages_are_one : (d : Domains) (root : ℕ) (a b : List ℕ) → ArePages d root a → ArePages d root b → IsBytes a → IsBytes b → a ≡ b
pages_are_one d root a b of_a of_b bytes_a bytes_b =
    let first : List ℕ = table_bytes (root_entry d root) in
    let contexts : List ℕ = flat_map (λ bus. table_bytes (context_entry d root bus)) (buses d) in
    let many = of_a.are.many ∙ sym of_b.are.many in
    let in_a = each_bytes of_a.tables (rest_bytes (first ++ contexts) (concat of_a.tables) (subst IsBytes of_a.pages_are bytes_a)) in
    let in_b = each_bytes of_b.tables (rest_bytes (first ++ contexts) (concat of_b.tables) (subst IsBytes of_b.pages_are bytes_b)) in
    let tables : of_a.tables ≡ of_b.tables = same_lists of_a.tables of_b.tables many (λ n other lt.
    let there : n < length d.windows = omega (arith, lt, of_a.are.many) in
    let here = domain_is_one d root n (get_or of_a.tables n []) (get_or of_b.tables n []) (of_a.are.each n there) (of_b.are.each n there) (in_a n) (in_b n) in
    get_or_default of_a.tables n other [] lt ∙ (here ∙ get_or_default of_b.tables n [] other (omega (arith, lt, many)))) in
    of_a.pages_are ∙ (ap (λ (ts : List (List ℕ)). first ++ contexts ++ concat ts) tables ∙ sym of_b.pages_are)

-- ---- where they lie

lowest_is_one : (extents : List Extent) (bytes a b : ℕ) → IsLowestFree extents bytes a → IsLowestFree extents bytes b → a ≡ b
lowest_is_one extents bytes a b of_a of_b =
    elim (cases_order a b) [
      | inl same ↦ same
      | inr (inl less) ↦ absurd (true≢false (sym of_a.free ∙ of_b.lowest a of_a.aligned less))
      | inr (inr more) ↦ absurd (true≢false (sym of_b.free ∙ of_a.lowest b of_b.aligned more))
    ]

-- ---- the file

pub file_is_one : (p : Source) (d : Domains) (t u : DmaFile) → IsFileOf d t → IsFileOf d u
    → IsBase p (length t.pages) t.base → IsBase p (length u.pages) u.base → IsBytes t.pages → IsBytes u.pages → t ≡ u
file_is_one p d t u of_t of_u base_t base_u bytes_t bytes_u =
    let many = pages_long d (root_page t) t.pages of_t.pages ∙ sym (pages_long d (root_page u) u.pages of_u.pages) in
    let base = lowest_is_one (extents_of p) (length u.pages) t.base u.base (subst (λ n. IsBase p n t.base) many base_t) base_u in
    let root : root_page t ≡ root_page u = ap (λ n. n / PAGE) base in
    let pages = pages_are_one d (root_page u) t.pages u.pages (subst (λ n. ArePages d n t.pages) root of_t.pages) of_u.pages bytes_t bytes_u in
    let devices = of_t.devices ∙ sym of_u.devices in
    λ i. record { base = base i; pages = pages i; devices = devices i }
