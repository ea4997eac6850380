-- The events of a subject of the image that is made keep the conditions of an image.
use Rattle.std.proofs.Common.{◌≡◌, ◌∙◌, ℕ, ◌<◌, true, List, length, get_or, Option, Some, None, sym, ap, subst, arith}
use Rattle.std.specs.Prelude.{nat_le, option_map}
use Rattle.std.specs.Option.{option_map_or}
use Rattle.std.proofs.lemmas.Bool.{and_parts, leb-true}
use Rattle.std.proofs.lemmas.List.{get_or_default}
use Rattle.image_soundness.specs.TablesOf.{IsEntry, IsTable, part_raised}
use Rattle.policy_lawful.proofs.KeptVectors.{event_free, is_free_if_any, raised_free}
use Rattle.image_pack.specs.Codes.{is_vector, vector_code}
use Rattle.image_pack.specs.ImageConditions.{AreEvents, IsEvent, IsVector}
use Rattle.image_pack.specs.declared.parts.EventPart.{EventPart}
use Rattle.muen_num.specs.declared.limits.TheConstants.{FIRST_VECTOR, LAST_VECTOR}
use Rattle.muen_num.specs.declared.mode.EventMode.{EventMode}
use Rattle.policy_lawful.specs.MoreRules.{offence_15}
use Rattle.policy_lawful.specs.Resolution.{Resolution, source_of, subject_named}
use Rattle.policy_lawful.specs.declared.resolved.Subject.{Subject}
use Rattle.policy_lawful.specs.source.SourceWay.{SourceWay}

vector_kept : (mode : EventMode) (v : Option ℕ) → is_vector mode (vector_code v) ≡ true → is_free_if_any v ≡ true → IsVector mode v
vector_kept mode None h free = h
vector_kept mode (Some n) h free = let parts = and_parts (nat_le FIRST_VECTOR n) (nat_le n LAST_VECTOR) free in (leb-true FIRST_VECTOR n parts.0, leb-true n LAST_VECTOR parts.1)

entry_kept : (r : Resolution) (o : Option EventPart) → IsEntry (length r.subjects) o → option_map_or raised_free (option_map (part_raised r) o) true ≡ true → IsEvent (length r.subjects) o
entry_kept r None h free = tt
entry_kept r (Some e) h free = (h.0, vector_kept e.mode e.vector h.1 free)

-- **the events** that a table of a subject has
pub table_kept : (r : Resolution) (s : Subject) (way : ℕ → SourceWay) (table : List (Option EventPart)) → offence_15 (source_of r) ≡ None → IsTable r s way table → AreEvents (length r.subjects) table
table_kept r s way table lawful is = record {
  many = is.many;
  each = λ k d l.
      let many = is.many in
      let few : k < 64 = omega (arith, l, many) in
      let same : get_or table k d ≡ get_or table k None = get_or_default table k d None l in
      let free : option_map_or raised_free (option_map (part_raised r) (get_or table k None)) true ≡ true =
      ap (λ o. option_map_or raised_free o true) (is.raises k few) ∙ event_free (source_of r) lawful (subject_named r s) (way k) in
      subst (IsEvent (length r.subjects)) (sym same) (entry_kept r (get_or table k None) (is.entries k None l) free);
}
