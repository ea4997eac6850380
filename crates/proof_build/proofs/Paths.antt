-- No page of the tables is read at two paths.
use Rattle.std.proofs.Common.{◌≡◌, ℕ, ◌+◌, ◌-◌, ◌*◌, ◌/◌, ◌%◌, ◌^◌, ◌<◌, ◌≤◌, Some, refl, sym, ◌∙◌, subst, arith, inl, inr}
use Rattle.std.specs.Prelude.{slice_get}
use Rattle.std.specs.List.{Contains}
use Rattle.std.proofs.lemmas.Bool.{cases_lt}
use Rattle.std.proofs.lemmas.List.Elements.{All-contains}
use Rattle.std.proofs.lemmas.List.Sorted.{Contains-permutation}
use Rattle.std.proofs.lemmas.Option.{get_or_from_slice_get, slice_get_within}
use Rattle.ept_emit.specs.Pages.{ept_pages}
use Rattle.ept_emit.specs.Emitted.{eptp_of}
use Rattle.machine_layout.specs.Reads.{Reads}
use Rattle.event_emit.specs.declared.event_tables.EventTables.{EventTables}
use Rattle.expand_kernel.specs.granted.Grants.{Grants}
use Rattle.expand_kernel.specs.ByIndex.{granted_ranges, kernel_first}
use Rattle.expand_kernel.specs.Regions.{anywhere}
use Rattle.expand_kernel.specs.thing.RegionKind.TheVariants.{Kernel}
use Rattle.image_soundness.specs.Paths.{HasOnePathPerTable}
use Rattle.image_emit.specs.Made.{IsMade, Made, image_of, policy_of}
use Rattle.image_emit.proofs.ByNumber.{as_many_addresses}
use Rattle.image_emit.proofs.BySubject.{IsAtIndex, SubjectAt, subject_at}
use Rattle.image_emit.proofs.SpansOfKernel.{kernel_numbered, kernel_span, placed_of}
use Rattle.proof_build.proofs.Tables.{has_tables, tables_long}
use Rattle.image_soundness.specs.Memory.{memory_of}
use Rattle.image_pack.specs.SpanConditions.{IsSpan}
use Rattle.image_pack.specs.declared.parts.SubjectPart.{SubjectPart}
use Rattle.muen_num.proofs.Lists.{there}
use Rattle.muen_num.specs.declared.limits.TheConstants.{PAGE}
use Rattle.muen_num.specs.declared.tag.TagPart.TheVariants.{Ept}
use Rattle.policy_lawful.specs.declared.resolved.Subject.{Subject}
use Rattle.span_emit.specs.SpansOf.{spans_of}
use Rattle.subject_emit.specs.Pages.{tables_at}
use Rattle.subject_emit.specs.declared.subject_pages.SubjectPages.{SubjectPages}
use Rattle.subject_emit.proofs.TablesReady.{kernel_at}

-- ---- tables are whole pages apart

not_one_page : (a long b x y : ℕ) → b % 4096 ≡ 0 → a + long ≤ b → x + 8 ≤ a + long → b ≤ y → x / 4096 ≡ y / 4096 → ⊥
not_one_page a long b x y whole apart low high same = omega (arith, whole, apart, low, high, same)

-- the address at which a walk for the subject reads is one of its tables
record IsReadAt (m : Made) (k long page : ℕ) : Type 0 where
  address : ℕ
  low : tables_at m.placed k ≤ address
  high : address + 8 ≤ tables_at m.placed k + long
  here : address / 4096 ≡ page

module _ (m : Made) (h : IsMade m) (k : ℕ) (s : Subject) (g : Grants) (t : EventTables) (q : SubjectPages) (at : IsAtIndex m k s g t q) where
  abbrev many : ℕ
  many = ept_pages (granted_ranges g.windows)

  pub whole : tables_at m.placed k % 4096 ≡ 0
  whole =
      let number = kernel_first (policy_of m) k + 1 in
      let one = kernel_span m h k s g t q at 1 (many * PAGE) Ept in
      let numbered : slice_get (spans_of m.placed) number ≡ Some one = kernel_numbered m h k s g t q at 1 (many * PAGE) Ept refl in
      let all : Contains (spans_of m.placed) one = (number, slice_get_within (spans_of m.placed) number one numbered, get_or_from_slice_get (spans_of m.placed) number one one numbered) in
      (All-contains IsSpan m.spans one h.spans.each (Contains-permutation (spans_of m.placed) m.spans one h.numbered all)).aligned

  read_at : (addr level page : ℕ) → addr < 2 ^ 48 → Reads (memory_of (image_of m)) (eptp_of (tables_at m.placed k)) addr level page → IsReadAt m k (many * 4096) page
  read_at addr level page l r =
      let lies = at.pages.tables.alone (memory_of (image_of m)) addr (has_tables m h k s g t q at) l (3 - level) 0 r.within in
      let long = tables_long m h k s g t q at in
      record { address = _; low = lies.0; high = omega (arith, lies.1, long); here = r.here }

-- tables of two subjects share no page
module _ (m : Made) (h : IsMade m) (j k page : ℕ) (p : SubjectPart) (o : SubjectPart) (a : SubjectAt m j p) (b : SubjectAt m k o) where
  abbrev long_of : Grants → ℕ
  long_of g = ept_pages (granted_ranges g.windows) * 4096

  apart : j < k → IsReadAt m j (long_of a.granted) page → IsReadAt m k (long_of b.granted) page → ⊥
  apart l x y =
      let first = kernel_first (policy_of m) j + 1 in
      let second = kernel_first (policy_of m) k + 1 in
      let one = kernel_at m.placed (placed_of m h) j 1 a.subject a.granted (anywhere Kernel a.subject.name Ept (long_of a.granted)) a.is.subject a.is.granted refl in
      let other = kernel_at m.placed (placed_of m h) k 1 b.subject b.granted (anywhere Kernel b.subject.name Ept (long_of b.granted)) b.is.subject b.is.granted refl in
      let as_many = as_many_addresses m h in
      let there = slice_get_within m.placed.expanded.regions second _ other in
      let before = whole m h j a.subject a.granted a.raising a.kept a.is in
      let behind = whole m h k b.subject b.granted b.raising b.kept b.is in
      elim (h.disjoint first second _ _ (omega (arith, l)) (omega (arith, there, as_many)) one other) [
        | inl up ↦ not_one_page (tables_at m.placed j) (long_of a.granted) (tables_at m.placed k) x.address y.address behind up x.high y.low (x.here ∙ sym y.here)
        | inr down ↦ not_one_page (tables_at m.placed k) (long_of b.granted) (tables_at m.placed j) y.address x.address before down y.high x.low (y.here ∙ sym x.here)
      ]

-- ---- paths

module _ (m : Made) (h : IsMade m) where
  -- what a walk for the subject at an index reads
  read_by : (k : ℕ) (part : SubjectPart) (s : SubjectAt m k part) (addr level page : ℕ) → addr < 2 ^ 48 → Reads (memory_of (image_of m)) part.eptp addr level page → Reads (memory_of (image_of m)) (eptp_of (tables_at m.placed k)) addr level page
  read_by k part s addr level page l r = subst (λ (p : SubjectPart). Reads (memory_of (image_of m)) p.eptp addr level page) s.made r

  pub paths : HasOnePathPerTable (image_of m)
  unfolding image_of
  paths j k q r a b level other page at there low high x y =
      let one = subject_at m h j q at in
      let two = subject_at m h k r there in
      let first = read_by j q one a level page low x in
      let second = read_by k r two b other page high y in
      let p = read_at m h j one.subject one.granted one.raising one.kept one.is a level page low first in
      let o = read_at m h k two.subject two.granted two.raising two.kept two.is b other page high second in
      elim (cases_lt j k) [
        | inl before ↦ absurd (apart m h j k page q r one two before p o)
        | inr rest ↦ elim (cases_lt k j) [
          | inl behind ↦ absurd (apart m h k j page r q two one behind o p)
          | inr same ↦
              let e : j ≡ k = omega (arith, rest, same) in
              let here : Reads (memory_of (image_of m)) (eptp_of (tables_at m.placed j)) b other page = subst (λ n. Reads (memory_of (image_of m)) (eptp_of (tables_at m.placed n)) b other page) (sym e) second in
              let is = one.is.pages.tables.paths (memory_of (image_of m)) a b level other page (has_tables m h j one.subject one.granted one.raising one.kept one.is) low high first here in
              record { subject = e; depth = is.0; range = is.1 }
        ]
      ]
