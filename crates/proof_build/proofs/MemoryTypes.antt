-- Each address of a subject's windows is mapped with the memory type of what the window shows.
use Rattle.std.proofs.Common.{◌≡◌, ℕ, List, Option, Some, None, refl, ap, ◌∙◌, subst}
use Rattle.std.specs.Prelude.{option_map}
use Rattle.std.specs.List.{find}
use Rattle.std.specs.Option.{IfSome}
use Rattle.std.proofs.lemmas.List.Elements.{All-contains}
use Rattle.ept_emit.specs.Emitted.{eptp_of}
use Rattle.ept_emit.specs.Entries.{type_of}
use Rattle.ept_emit.specs.declared.window.Window.{Window as MappedWindow}
use Rattle.event_emit.specs.declared.event_tables.EventTables.{EventTables}
use Rattle.expand_kernel.proofs.GrantedWindows.{IsShown, windows_shown}
use Rattle.expand_kernel.specs.Grants.{numbered_window}
use Rattle.expand_kernel.specs.granted.Grants.{Grants}
use Rattle.image_emit.specs.Made.{IsMade, Made, image_of, policy_of, subject_part}
use Rattle.image_emit.proofs.BySubject.{IsAtIndex, each_subject}
use Rattle.image_soundness.specs.Memory.{memory_of}
use Rattle.image_soundness.specs.Sound.{ForEachSubject}
use Rattle.machine_layout.specs.Walks.{leaf_type}
use Rattle.muen_num.proofs.FoundOnce.{found_contained}
use Rattle.policy_lawful.specs.Resolution.{source_of, subject_named}
use Rattle.policy_lawful.specs.Thing.{Thing}
use Rattle.policy_lawful.specs.Windows.{Window, holds, windows_of}
use Rattle.policy_lawful.specs.declared.resolved.Subject.{Subject}
use Rattle.policy_lawful.specs.source.Source.{Source}
use Rattle.proof_build.specs.Built.{HasMemoryTypes, thing_caching}
use Rattle.proof_build.proofs.Tables.{has_tables}
use Rattle.proof_build.proofs.Walks.{mapped_at}
use Rattle.subject_emit.specs.Mapped.{mapped}
use Rattle.subject_emit.specs.Pages.{tables_at}
use Rattle.subject_emit.specs.declared.subject_pages.SubjectPages.{SubjectPages}

module _ (m : Made) (h : IsMade m) (k : ℕ) (s : Subject) (g : Grants) (t : EventTables) (q : SubjectPages) (at : IsAtIndex m k s g t q) where
  abbrev p : Source
  p = source_of (policy_of m)

  abbrev windows : List (Window Thing)
  windows = windows_of p (subject_named (policy_of m) s)

  -- of the window that tables map
  abbrev IsMapped : Option ℕ → Option MappedWindow → Type 0
  IsMapped found o = IfSome o (λ w. found ≡ Some (type_of w.caching))

  -- so of the window that the policy grants
  of_found : (addr : ℕ) (found : Option ℕ) (o : Option (Window Thing)) → find (λ w. holds w addr) windows ≡ o → IsMapped found (option_map (λ w. mapped m.placed (numbered_window p w)) o)
      → IfSome o (λ w. found ≡ Some (type_of (thing_caching p w.thing)))
  of_found addr found None e is = tt
  of_found addr found (Some w) e is =
      let among = found_contained (λ w. holds w addr) windows w e in
      is ∙ ap (λ c. Some (type_of c)) (All-contains (IsShown (policy_of m)) windows w (windows_shown (policy_of m) h.resolved k s at.subject) among).caching

  each : HasMemoryTypes p (image_of m) (subject_named (policy_of m) s) (subject_part m.placed (k, (s, (g, t))))
  each addr l =
      let found = leaf_type (memory_of (image_of m)) (eptp_of (tables_at m.placed k)) addr in
      of_found addr found (find (λ w. holds w addr) windows) refl
      (subst (IsMapped found) (mapped_at m h k s g at.granted at.grants addr) (at.pages.tables.types (memory_of (image_of m)) addr (has_tables m h k s g t q at) l))

pub memory_types : (m : Made) → IsMade m → ForEachSubject (source_of (policy_of m)) (image_of m) (HasMemoryTypes (source_of (policy_of m)) (image_of m))
memory_types m h = each_subject m h (HasMemoryTypes (source_of (policy_of m)) (image_of m)) (λ k s g t q at. each m h k s g t q at)
