-- One event of two policies, raised in two systems.
use Rattle.std.proofs.Common.{◌≡◌, ℕ, true, false, List, Option, Some, None, not, refl, sym, ap, subst, ◌∙◌, inl, inr, true≢false}
use Rattle.std.specs.Prelude.{option_and_then, option_map, slice_get}
use Rattle.std.specs.Option.{option_map_or}
use Rattle.std.specs.Str.{bytes_eq}
use Rattle.std.proofs.lemmas.Bool.{and_parts, cases_Bool, false_from_ne_true, not-true}
use Rattle.std.proofs.lemmas.Slice.Eq.{bytes_eq-Decides}
use Rattle.muen_num.proofs.ChangeLaws.{element_changes}
use Rattle.muen_num.proofs.Lookups.{same_self}
use Rattle.muen_num.specs.ListChange.{change_at}
use Rattle.subject_model.specs.Pending.{with_vector}
use Rattle.muen_num.specs.declared.mode.EventMode.{EventMode}
use Rattle.muen_num.specs.declared.mode.EventMode.TheVariants.{Asap, Async, Own as OwnMode, Switch}
use Rattle.policy_lawful.proofs.KeptMembers.{members_kept}
use Rattle.policy_lawful.proofs.KeptRules.{rules_of}
use Rattle.policy_lawful.specs.Lawful.{IsLawful}
use Rattle.policy_lawful.specs.MoreRules.{fits_mode, some_group_lists}
use Rattle.policy_lawful.specs.Events.{Raised, Target, event_of}
use Rattle.policy_lawful.specs.Frames.{group_of}
use Rattle.policy_lawful.specs.Thing.{Thing, same_thing}
use Rattle.policy_lawful.specs.source.Source.{Source}
use Rattle.policy_lawful.specs.source.SourceWay.{SourceWay}
use Rattle.policy_lawful.specs.source.Subject.{Subject}
use Rattle.subject_model.specs.Slot.{Slot}
use Rattle.subject_model.proofs.KeyLaws.{names_apart, things_apart, value_changed, value_other}
use Rattle.policy_lawful.proofs.SameThings.{cases_thing}
use Rattle.subject_model.specs.Alone.{Things, thing_in}
use Rattle.subject_model.specs.System.{Named, System, change_named, change_thing, happens, happens_as, named, pends_now, with_active}
use Rattle.proof_isolation.specs.Agree.{is_handover}
use Rattle.proof_isolation.specs.Alike.{is_active}
use Rattle.proof_isolation.proofs.Outsiders.{group_by_name}
use Rattle.proof_isolation.proofs.Switches.{raised_fits}
use Rattle.proof_isolation.proofs.Turners.{Acts}

-- ---- one change in both

pub change_thing_alike : (x k : Thing) (f : List ℕ → List ℕ) (a b : Things) → thing_in a k ≡ thing_in b k → thing_in (change_thing x f a) k ≡ thing_in (change_thing x f b) k
change_thing_alike x k f a b same =
    elim (cases_thing x k) as (λ _. thing_in (change_thing x f a) k ≡ thing_in (change_thing x f b) k) [
      | inl e ↦
          let at : thing_in (change_thing k f a) k ≡ thing_in (change_thing k f b) k = value_changed same_thing k f a ∙ ap (option_map f) same ∙ sym (value_changed same_thing k f b) in
          subst (λ y. thing_in (change_thing y f a) k ≡ thing_in (change_thing y f b) k) (sym e) at
      | inr ne ↦ value_other same_thing x k f a (things_apart x k ne) ∙ same ∙ sym (value_other same_thing x k f b (things_apart x k ne))
    ]

pub change_named_alike : {X : Type 0} (n k : List ℕ) (f : X → X) (a b : Named X) → named a k ≡ named b k → named (change_named n f a) k ≡ named (change_named n f b) k
change_named_alike n k f a b same =
    elim (cases_Bool (bytes_eq n k)) as (λ _. named (change_named n f a) k ≡ named (change_named n f b) k) [
      | inl e ↦
          let at : named (change_named k f a) k ≡ named (change_named k f b) k = value_changed bytes_eq k f a ∙ ap (option_map f) same ∙ sym (value_changed bytes_eq k f b) in
          subst (λ m. named (change_named m f a) k ≡ named (change_named m f b) k) (sym ((bytes_eq-Decides n k).0 e)) at
      | inr e ↦
          let ne : n ≡ k → ⊥ = λ is. true≢false (sym ((bytes_eq-Decides n k).1 is) ∙ e) in
          value_other bytes_eq n k f a (names_apart n k ne) ∙ same ∙ sym (value_other bytes_eq n k f b (names_apart n k ne))
    ]

-- ---- who is active after a handover

-- an event that isn't a handover changes no active member
pub plain_active : (p : Source) (name : List ℕ) (mode : EventMode) (t : Target) (y : System) → is_handover (Some (record { mode = mode; target = t })) ≡ false → is_active p (happens_as p mode t y) name ≡ is_active p y name
plain_active p name Asap t y h = refl
plain_active p name Async t y h = refl
plain_active p name OwnMode t y h = refl
plain_active p name Switch t y h = absurd (cc (h))

module _ (p : Source) (lawful : IsLawful p) (cpu tick : ℕ) (y : System) (slot : Slot) (u : Subject) (at : Acts p cpu tick y slot u) where
  to_group : (e : Raised) → e.mode ≡ Switch → fits_mode p e.mode u.name e.target.subject ≡ true → group_of p e.target.subject ≡ Some slot.group
  to_group e mode fit =
      let fits : fits_mode p Switch u.name e.target.subject ≡ true = subst (λ m. fits_mode p m u.name e.target.subject ≡ true) mode fit in
      group_by_name p (members_kept p (rules_of lawful).rule_17) u at.within e.target.subject (and_parts (not (bytes_eq u.name e.target.subject)) (some_group_lists p u.name e.target.subject) fits).1 ∙ at.its

  -- of a group of that number, the active member is the target
  handed_in : (t : List ℕ) (z : System) → z.active ≡ y.active → slice_get (change_at slot.group (λ _. t) z.active) slot.group ≡ Some t
  handed_in t z same = element_changes slot.group (λ _. t) z.active ∙ ap (option_map (λ _. t)) (ap (λ active. slice_get active slot.group) same ∙ at.acts)

  by_handover : (e : Raised) → e.mode ≡ Switch → fits_mode p e.mode u.name e.target.subject ≡ true → (name : List ℕ) → group_of p name ≡ Some slot.group → (z : System) → z.active ≡ y.active
      → is_active p (happens_as p Switch e.target z) name ≡ bytes_eq e.target.subject name
  by_handover e mode fit name in_it z same =
      ap (λ o. option_map_or (λ member. bytes_eq member name) (option_and_then (λ g. slice_get (happens_as p Switch e.target z).active g) o) false) in_it
      ∙ ap (λ o. option_map_or (λ member. bytes_eq member name) (slice_get (with_active o e.target.subject (pends_now e.target z)).active slot.group) false) (to_group e mode fit)
      ∙ ap (λ o. option_map_or (λ member. bytes_eq member name) o false) (handed_in e.target.subject z same)

  -- the target is active then
  pub target_active : (way : SourceWay) (e : Raised) → event_of p u way ≡ Some e → e.mode ≡ Switch → (z : System) → z.active ≡ y.active → is_active p (happens_as p Switch e.target z) e.target.subject ≡ true
  target_active way e is mode z same =
      let fit = raised_fits p lawful u at.within way e is in
      by_handover e mode fit e.target.subject (to_group e mode fit) z same ∙ same_self e.target.subject

  -- and who raised it isn't
  pub source_rests : (way : SourceWay) (e : Raised) → event_of p u way ≡ Some e → e.mode ≡ Switch → (z : System) → z.active ≡ y.active → is_active p (happens_as p Switch e.target z) u.name ≡ false
  source_rests way e is mode z same =
      let fit = raised_fits p lawful u at.within way e is in
      let fits : fits_mode p Switch u.name e.target.subject ≡ true = subst (λ m. fits_mode p m u.name e.target.subject ≡ true) mode fit in
      let apart = not-true (bytes_eq u.name e.target.subject) (and_parts (not (bytes_eq u.name e.target.subject)) (some_group_lists p u.name e.target.subject) fits).0 in
      by_handover e mode fit u.name at.its z same
      ∙ false_from_ne_true (bytes_eq e.target.subject u.name) (λ k. true≢false (sym ((bytes_eq-Decides u.name e.target.subject).1 (sym ((bytes_eq-Decides e.target.subject u.name).0 k))) ∙ apart))

-- ---- an event that reaches a subject in both systems

mode_now : (p q : Source) (name : List ℕ) (mode : EventMode) (t : Target) (y z : System) → named y.now name ≡ named z.now name → named (happens_as p mode t y).now name ≡ named (happens_as q mode t z).now name
mode_now p q name Asap t y z same = change_named_alike t.subject name (with_vector t.vector) y.now z.now same
mode_now p q name Async t y z same = same
mode_now p q name OwnMode t y z same = change_named_alike t.subject name (with_vector t.vector) y.now z.now same
mode_now p q name Switch t y z same = by_groups (group_of p t.subject) (group_of q t.subject)
  where
    by_groups : (o k : Option ℕ) → named (with_active o t.subject (pends_now t y)).now name ≡ named (with_active k t.subject (pends_now t z)).now name
    by_groups None None = change_named_alike t.subject name (with_vector t.vector) y.now z.now same
    by_groups None (Some k) = change_named_alike t.subject name (with_vector t.vector) y.now z.now same
    by_groups (Some g) None = change_named_alike t.subject name (with_vector t.vector) y.now z.now same
    by_groups (Some g) (Some k) = change_named_alike t.subject name (with_vector t.vector) y.now z.now same

mode_later : (p q : Source) (name : List ℕ) (mode : EventMode) (t : Target) (y z : System) → named y.later name ≡ named z.later name → named (happens_as p mode t y).later name ≡ named (happens_as q mode t z).later name
mode_later p q name Asap t y z same = same
mode_later p q name Async t y z same = change_named_alike t.subject name (with_vector t.vector) y.later z.later same
mode_later p q name OwnMode t y z same = same
mode_later p q name Switch t y z same = by_groups (group_of p t.subject) (group_of q t.subject)
  where
    by_groups : (o k : Option ℕ) → named (with_active o t.subject (pends_now t y)).later name ≡ named (with_active k t.subject (pends_now t z)).later name
    by_groups None None = same
    by_groups None (Some k) = same
    by_groups (Some g) None = same
    by_groups (Some g) (Some k) = same

-- what a subject has pending, and whether it is active
pub record SameEvents (p q : Source) (name : List ℕ) (y z : System) : Type 0 where
  pub now : named y.now name ≡ named z.now name
  pub later : named y.later name ≡ named z.later name
  pub active : is_active p y name ≡ is_active q z name

module _ (p q : Source) (lawful : IsLawful p) (lawful_too : IsLawful q) (cpu tick : ℕ) (y z : System) (slot slot' : Slot) (u v : Subject) (at : Acts p cpu tick y slot u) (at' : Acts q cpu tick z slot' v) (way : SourceWay) where
  -- one that reaches it is the same in both
  reached_active : (e : Raised) → event_of p u way ≡ Some e → event_of q v way ≡ Some e → (mode : EventMode) → e.mode ≡ mode → (name : List ℕ) → e.target.subject ≡ name → (y' z' : System) → y'.active ≡ y.active → z'.active ≡ z.active
      → is_active p y' name ≡ is_active q z' name → is_active p (happens_as p mode e.target y') name ≡ is_active q (happens_as q mode e.target z') name
  reached_active e is is' Asap mode name to y' z' same same' before = before
  reached_active e is is' Async mode name to y' z' same same' before = before
  reached_active e is is' OwnMode mode name to y' z' same same' before = before
  reached_active e is is' Switch mode name to y' z' same same' before =
      subst (λ n. is_active p (happens_as p Switch e.target y') n ≡ is_active q (happens_as q Switch e.target z') n) to
      (target_active p lawful cpu tick y slot u at way e is mode y' same ∙ sym (target_active q lawful_too cpu tick z slot' v at' way e is' mode z' same'))

  pub reached_both : (e : Raised) → event_of p u way ≡ Some e → event_of q v way ≡ Some e → (name : List ℕ) → e.target.subject ≡ name → (y' z' : System) → y'.active ≡ y.active → z'.active ≡ z.active → SameEvents p q name y' z'
      → SameEvents p q name (happens p (Some e) y') (happens q (Some e) z')
  reached_both e is is' name to y' z' same same' before =
      record {
        now = mode_now p q name e.mode e.target y' z' before.now;
        later = mode_later p q name e.mode e.target y' z' before.later;
        active = reached_active e is is' e.mode refl name to y' z' same same' before.active;
      }
