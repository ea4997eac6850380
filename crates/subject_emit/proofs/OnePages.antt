-- The pages that the kernel keeps for a subject are one: what is said of them leaves no byte open.
use Rattle.std.proofs.Common.{◌≡◌, ℕ, ◌/◌, ◌<◌, sym, ◌∙◌}
use Rattle.std.specs.Prelude.{slice_index}
use Rattle.ept_emit.proofs.OneTables.{tables_are_one}
use Rattle.expand_kernel.specs.granted.Grants.{Grants}
use Rattle.muen_num.specs.declared.limits.TheConstants.{PAGE}
use Rattle.policy_lawful.specs.declared.resolved.Subject.{Subject}
use Rattle.policy_lawful.specs.rights.Rights.TheVariants.{Rwx}
use Rattle.region_alloc.specs.Placed.{Placement}
use Rattle.subject_emit.specs.Mapped.{mapped_windows}
use Rattle.subject_emit.specs.Pages.{ArePages, tables_at}
use Rattle.subject_emit.specs.declared.subject_pages.SubjectPages.{SubjectPages}
use Rattle.subject_emit.proofs.OneBitmaps.{msrs_are_one, ports_are_one}

-- the pages are made of bytes; of the state page and the area what they are says so
pub record HaveBytes (q : SubjectPages) : Type 0 where
  pub tables : (i : ℕ) → slice_index q.tables i < 256
  pub ports : (i : ℕ) → slice_index q.ports i < 256
  pub msrs : (i : ℕ) → slice_index q.msrs i < 256

pub pages_are_one : (x : Placement) (k : ℕ) (s : Subject) (g : Grants) (a b : SubjectPages) → ArePages x k s g a → ArePages x k s g b → HaveBytes a → HaveBytes b → a ≡ b
pages_are_one x k s g a b of_a of_b bytes_a bytes_b =
    let state = of_a.state ∙ sym of_b.state in
    let tables = tables_are_one Rwx (mapped_windows x g) (tables_at x k / PAGE) a.tables b.tables of_a.tables.written of_b.tables.written bytes_a.tables bytes_b.tables in
    let ports = ports_are_one a.ports b.ports of_a.ports_len of_b.ports_len bytes_a.ports bytes_b.ports (λ port size. of_a.ports port size ∙ sym (of_b.ports port size)) in
    let msrs = msrs_are_one a.msrs b.msrs of_a.msrs_len of_b.msrs_len bytes_a.msrs bytes_b.msrs (λ index write. of_a.msrs index write ∙ sym (of_b.msrs index write)) in
    let area = of_a.area ∙ sym of_b.area in
    λ i. record { state = state i; tables = tables i; ports = ports i; msrs = msrs i; area = area i }
