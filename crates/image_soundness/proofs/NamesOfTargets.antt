-- Whom an image's events and interrupts reach by the index of the subject, they reach by its name.
use Rattle.std.proofs.Common.{◌≡◌, ◌∙◌, ℕ, List, [], ◌∷◌, map, get_or, Option, Some, None, refl, sym, ap}
use Rattle.std.specs.Prelude.{option_map, position, slice_index_or}
use Rattle.std.specs.Str.{bytes_eq}
use Rattle.std.proofs.lemmas.List.{get_or-map}
use Rattle.std.proofs.lemmas.List.Quantifiers.{position-Some}
use Rattle.std.proofs.lemmas.Option.{same_Some}
use Rattle.std.proofs.lemmas.Slice.Eq.{bytes_eq-Decides}
use Rattle.image_pack.specs.declared.parts.EventPart.{EventPart}
use Rattle.image_pack.specs.declared.parts.Image.{Image}
use Rattle.image_pack.specs.declared.parts.SubjectPart.{SubjectPart}
use Rattle.image_soundness.specs.Named.{raised, reached, subject_name, target}
use Rattle.image_soundness.specs.Targets.{IndexedEvent, IndexedTarget, at_index, entry_event, event_index, irq_target, subject_index, target_index}
use Rattle.muen_num.specs.declared.devices.IrqTarget.{IrqTarget}
use Rattle.policy_lawful.specs.Events.{Raised, Target}
use Rattle.policy_lawful.specs.source.Source.{Source}
use Rattle.policy_lawful.specs.source.Subject.{Subject}

-- the index of a name has this name
name_there : (ss : List Subject) (name : List ℕ) (k : ℕ) → position (λ (s : Subject). bytes_eq s.name name) ss ≡ Some k → slice_index_or (map (λ (s : Subject). s.name) ss) k [] ≡ name
name_there [] name k e = absurd (cc (e))
name_there (s ∷ ss) name k e =
    let found = position-Some (λ (s : Subject). bytes_eq s.name name) (s ∷ ss) k s e in
    get_or-map (λ (s : Subject). s.name) (s ∷ ss) k s [] found.0 ∙ (bytes_eq-Decides (get_or (s ∷ ss) k s).name name).0 found.1

module _ (p : Source) (i : Image) (named : map (λ (q : SubjectPart). q.name) i.subjects ≡ map (λ (s : Subject). s.name) p.subjects) where
  name_of_index : (k : ℕ) (name : List ℕ) → Some k ≡ subject_index p name → subject_name i k ≡ name
  name_of_index k name e = ap (λ ns. slice_index_or ns k []) named ∙ name_there p.subjects name k (sym e)

  target_named : (k : ℕ) (v : Option ℕ) (t : Target) → at_index k v ≡ target_index p t → target i k v ≡ t
  target_named k v t e =
      let name : subject_name i k ≡ t.subject = name_of_index k t.subject (ap (λ (x : IndexedTarget). x.subject) e) in
      let vector : v ≡ t.vector = ap (λ (x : IndexedTarget). x.vector) e in
      (λ j. record { subject = name j; vector = vector j })

  event_named : (e : EventPart) (r : Raised) → entry_event e ≡ event_index p r → raised i e ≡ r
  event_named e r h =
      let mode : e.mode ≡ r.mode = ap (λ (x : IndexedEvent). x.mode) h in
      let reaches : target i e.target e.vector ≡ r.target = target_named e.target e.vector r.target (ap (λ (x : IndexedEvent). x.target) h) in
      (λ j. record { mode = mode j; target = reaches j })

  -- what an entry of a table of events raises
  pub raised_by_name : (o : Option EventPart) (r : Option Raised) → option_map entry_event o ≡ option_map (event_index p) r → option_map (raised i) o ≡ r
  raised_by_name None None h = refl
  raised_by_name None (Some r) h = absurd (cc (h))
  raised_by_name (Some e) None h = absurd (cc (h))
  raised_by_name (Some e) (Some r) h = ap Some (event_named e r (same_Some (entry_event e) (event_index p r) h))

  -- whom an interrupt reaches
  pub reached_by_name : (o : Option IrqTarget) (t : Option Target) → option_map irq_target o ≡ option_map (target_index p) t → option_map (reached i) o ≡ t
  reached_by_name None None h = refl
  reached_by_name None (Some t) h = absurd (cc (h))
  reached_by_name (Some x) None h = absurd (cc (h))
  reached_by_name (Some x) (Some t) h = ap Some (target_named x.subject (Some x.vector) t (same_Some (irq_target x) (target_index p t) h))
