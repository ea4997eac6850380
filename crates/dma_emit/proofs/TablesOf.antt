-- The tables of a domain, by the number of the page of the highest.
use Rattle.std.proofs.Common.{◌≡◌, inl, inr, ℕ, ◌+◌, ◌*◌, ◌/◌, ◌<◌, ◌≤◌, ◌^◌, true, false, true≢false, List, [], ◌∷◌, ◌++◌, length, get_or, Result, Ok, Err, refl, sym, ◌∙◌, subst, arith}
use Rattle.std.specs.Prelude.{IfOk}
use Rattle.std.proofs.lemmas.Bool.{cases_lt}
use Rattle.std.proofs.lemmas.List.{get_or_append_left, get_or_push}
use Rattle.dma_emit.specs.declared.domains.Domains.{Domains}
use Rattle.dma_emit.specs.Layout.{has_device, tables_page, domain_windows_at}
use Rattle.dma_emit.specs.Emitted.{IsDomainsTables}
use Rattle.ept_emit.specs.Entries.{word_at}
use Rattle.ept_emit.specs.Pages.{ept_pages, ranges_of}
use Rattle.ept_emit.specs.Tables.{AreNumbered, AreWritten}
use Rattle.ept_emit.specs.declared.window.Window.{Window}
use Rattle.policy_lawful.specs.rights.Rights.TheVariants.{Rw}

-- from what is written for an address
pub at_page : (ws : List Window) (page : ℕ) (bytes : List ℕ) (used : ℕ) → length bytes ≡ 4096 * ept_pages (ranges_of ws) → 1 ≤ used → used ≤ ept_pages (ranges_of ws)
    → AreNumbered Rw (word_at bytes) (4096 * page / 4096) 1 used ws 3 0 (λ addr. addr < 2 ^ 48) → ((j : ℕ) → 512 * used ≤ j → word_at bytes j ≡ 0) → AreWritten Rw ws page bytes
at_page ws page bytes used len some few numbered rest =
    let same : 4096 * page / 4096 ≡ page = omega arith in
    record {
      len = len;
      used = used;
      some = some;
      few = few;
      numbered = subst (λ (p : ℕ). AreNumbered Rw (word_at bytes) p 1 used ws 3 0 (λ addr. addr < 2 ^ 48)) same numbered;
      rest = rest;
    }

-- of a domain in which a device stands
pub of_domain : {E : Type 0} (d : Domains) (root n page : ℕ) (ws : List Window) → has_device d n ≡ true → ws ≡ domain_windows_at d n → page ≡ tables_page d n → (r : Result (List ℕ) E)
    → IfOk r (AreWritten Rw ws (root + page)) → IfOk r (IsDomainsTables d root n)
of_domain d root n page ws has are at (Err e) h = h
of_domain d root n page ws has are at (Ok bytes) h =
    let here : AreWritten Rw (domain_windows_at d n) (root + tables_page d n) bytes = subst (λ (vs : List Window). AreWritten Rw vs (root + tables_page d n) bytes) are (subst (λ (p : ℕ). AreWritten Rw ws (root + p) bytes) at h) in
    record { some = λ has. here; none = λ none. absurd (true≢false (sym has ∙ none)) }

-- of one in which none does
pub no_tables : (d : Domains) (root n : ℕ) → has_device d n ≡ false → IsDomainsTables d root n []
no_tables d root n none = record { some = λ has. absurd (true≢false (sym has ∙ none)); none = λ e. refl }

-- those of one domain more
pub one_more : (d : Domains) (root n : ℕ) (old new : List (List ℕ)) (bytes : List ℕ) → length old ≡ n → ((k : ℕ) → k < n → IsDomainsTables d root k (get_or old k [])) → IsDomainsTables d root n bytes → new ≡ old ++ bytes ∷ []
    → (k : ℕ) → k < n + 1 → IsDomainsTables d root k (get_or new k [])
one_more d root n old new bytes many each here is k l =
    subst (λ (ts : List (List ℕ)). IsDomainsTables d root k (get_or ts k [])) (sym is)
    (elim (cases_lt k n) [
      | inl before ↦ subst (IsDomainsTables d root k) (sym (get_or_append_left old (bytes ∷ []) [] k (omega arith))) (each k before)
      | inr last ↦
          let same : n ≡ k = omega arith in
          subst (IsDomainsTables d root k) (sym (get_or_push old bytes [] k (many ∙ same))) (subst (λ (j : ℕ). IsDomainsTables d root j bytes) same here)
    ])
