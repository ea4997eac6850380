-- Each entry that a walk for a subject reads lies in a span of tables.
use Rattle.std.proofs.Common.{◌≡◌, ℕ, ◌+◌, ◌*◌, ◌<◌, ◌≤◌, All, Bool, true, length, take, drop, Some, refl, ap, ◌∙◌, arith, le-leb}
use Rattle.std.specs.Prelude.{◌&&◌, nat_le}
use Rattle.std.specs.Str.{bytes_eq}
use Rattle.std.proofs.lemmas.Bool.{and_from}
use Rattle.ept_emit.specs.Pages.{ept_pages}
use Rattle.ept_emit.specs.Emitted.{HasTables, eptp_of}
use Rattle.event_emit.specs.declared.event_tables.EventTables.{EventTables}
use Rattle.expand_kernel.specs.granted.Grants.{Grants}
use Rattle.expand_kernel.specs.ByIndex.{granted_ranges}
use Rattle.image_emit.specs.Made.{IsMade, Made, image_of, policy_of}
use Rattle.proof_build.proofs.PagesThere.{page_there}
use Rattle.image_emit.proofs.BySubject.{IsAtIndex, each_subject}
use Rattle.image_emit.proofs.SpansOfKernel.{kernel_content, kernel_numbered, kernel_span}
use Rattle.image_emit.proofs.SpansAt.{some_span}
use Rattle.image_soundness.specs.Memory.{memory_of}
use Rattle.image_soundness.specs.Sound.{ForEachSubject, ReadsTables, is_in_tables, is_tables}
use Rattle.image_pack.specs.SpanConditions.{end_of}
use Rattle.image_pack.specs.declared.parts.SpanPart.{SpanPart}
use Rattle.machine_layout.specs.Walks.{addresses_read}
use Rattle.muen_num.specs.declared.limits.TheConstants.{GUEST_END, PAGE}
use Rattle.muen_num.specs.declared.tag.TagPart.TheVariants.{Ept}
use Rattle.muen_num.proofs.Lookups.{same_self}
use Rattle.policy_lawful.specs.Resolution.{source_of}
use Rattle.policy_lawful.specs.declared.resolved.Subject.{Subject}
use Rattle.proof_build.specs.Built.{is_in_tables_of}
use Rattle.subject_emit.specs.Pages.{tables_at}
use Rattle.subject_emit.specs.declared.subject_pages.SubjectPages.{SubjectPages}
use Rattle.subject_emit.proofs.SamePages.{pages_same}

module _ (m : Made) (h : IsMade m) (k : ℕ) (s : Subject) (g : Grants) (t : EventTables) (q : SubjectPages) (at : IsAtIndex m k s g t q) where
  abbrev many : ℕ
  many = ept_pages (granted_ranges g.windows)

  -- the span of the subject's tables
  abbrev tables_span : SpanPart
  tables_span = kernel_span m h k s g t q at 1 (many * PAGE) Ept

  pub tables_long : length q.tables ≡ 4096 * many
  tables_long = at.pages.tables.written.len ∙ ap (λ n. 4096 * n) (pages_same m.placed g)

  -- has so many pages
  span_pages : tables_span.pages ≡ many
  span_pages = omega arith

  -- the tables stand in memory
  pub has_tables : HasTables (memory_of (image_of m)) (tables_at m.placed k) q.tables
  has_tables j l =
      let within : j < tables_span.pages = omega (arith, span_pages, tables_long, l) in
      page_there m h _ tables_span (kernel_numbered m h k s g t q at 1 (many * PAGE) Ept refl) j within
      ∙ ap (λ b. Some (take 4096 (drop (4096 * j) b))) (kernel_content m h k s g t q at 1 (many * PAGE) Ept q.tables refl)

  in_span : (address : ℕ) → tables_at m.placed k ≤ address → address + 8 ≤ tables_at m.placed k + length q.tables → is_in_tables (image_of m) address ≡ true
  unfolding image_of
  in_span address low high =
      let test : SpanPart → Bool = λ s. is_tables s && nat_le s.address address && nat_le (address + 8) (end_of s) in
      let numbered = kernel_numbered m h k s g t q at 1 (many * PAGE) Ept refl in
      let a : nat_le tables_span.address address ≡ true = le-leb _ _ low in
      let b : nat_le (address + 8) (end_of tables_span) ≡ true = le-leb _ _ (omega (arith, span_pages, tables_long, high)) in
      let passes : test tables_span ≡ true = and_from (nat_le tables_span.address address) _ a b in
      some_span m h test _ tables_span numbered passes

  -- they are the subject's own
  in_own_span : (address : ℕ) → tables_at m.placed k ≤ address → address + 8 ≤ tables_at m.placed k + length q.tables → is_in_tables_of (image_of m) s.name address ≡ true
  unfolding image_of
  in_own_span address low high =
      let test : SpanPart → Bool = λ x. is_tables x && bytes_eq x.tag.owner s.name && nat_le x.address address && nat_le (address + 8) (end_of x) in
      let numbered = kernel_numbered m h k s g t q at 1 (many * PAGE) Ept refl in
      let a : nat_le tables_span.address address ≡ true = le-leb _ _ low in
      let b : nat_le (address + 8) (end_of tables_span) ≡ true = le-leb _ _ (omega (arith, span_pages, tables_long, high)) in
      let own : (bytes_eq s.name s.name && nat_le tables_span.address address) ≡ true = and_from (bytes_eq s.name s.name) _ (same_self s.name) a in
      let passes : test tables_span ≡ true = and_from (bytes_eq s.name s.name && nat_le tables_span.address address) _ own b in
      some_span m h test _ tables_span numbered passes

  pub reads_own : (addr : ℕ) → addr < GUEST_END → All (λ address. is_in_tables_of (image_of m) s.name address ≡ true) (addresses_read (memory_of (image_of m)) (eptp_of (tables_at m.placed k)) addr)
  reads_own addr l i d low =
      let lies = at.pages.tables.alone (memory_of (image_of m)) addr has_tables l i d low in
      in_own_span _ lies.0 lies.1

pub tables : (m : Made) → IsMade m → ForEachSubject (source_of (policy_of m)) (image_of m) (λ s q. ReadsTables (image_of m) q)
tables m h =
    each_subject m h (λ s q. ReadsTables (image_of m) q)
    (λ k s g t q at addr l i d low.
    let lies = at.pages.tables.alone (memory_of (image_of m)) addr (has_tables m h k s g t q at) l i d low in
    in_span m h k s g t q at _ lies.0 lies.1)
