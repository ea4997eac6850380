-- What windows of members show is the same in two systems that are alike for members.
use Rattle.std.proofs.Common.{◌≡◌, ℕ, true, false, cond, List, None, Some, sym, ap, ◌∙◌, inl, inr, true≢false}
use Rattle.std.specs.Prelude.{◌&&◌}
use Rattle.std.proofs.lemmas.Bool.{and_parts, cases_Bool, false_from_ne_true}
use Rattle.muen_num.proofs.Members.{any_some}
use Rattle.policy_flows.proofs.Closures.{same_member}
use Rattle.policy_flows.specs.Flows.{is_member}
use Rattle.policy_lawful.specs.Contents.{Held}
use Rattle.policy_lawful.specs.Lawful.{IsLawful}
use Rattle.policy_lawful.specs.Thing.{Thing}
use Rattle.policy_lawful.specs.Windows.{windows_of}
use Rattle.policy_lawful.specs.source.Source.{Source}
use Rattle.policy_lawful.specs.source.Subject.{Subject}
use Rattle.subject_model.specs.Alone.{own_of, thing_in}
use Rattle.subject_model.specs.DeviceRecord.{DeviceRecord}
use Rattle.subject_model.specs.System.{System, is_shown, subject_named}
use Rattle.proof_views.proofs.OwnLines.{found_so, named_so}
use Rattle.proof_isolation.specs.Agree.{Agree, is_seen}
use Rattle.proof_isolation.specs.Alike.{AreAlike}
use Rattle.proof_isolation.proofs.SeenWrites.{seen_by}
use Rattle.proof_isolation.proofs.TwoSystems.{itself}
use Rattle.proof_reactive.specs.Answering.{shown_by}

-- a member to which a thing is shown
record Viewer (p : Source) (members : List (List ℕ)) (x : Thing) : Type 0 where
  one : Subject
  inside : is_member members one ≡ true
  found : subject_named p one.name ≡ Some one
  shows : is_shown (windows_of p one) x ≡ true

viewer : (p : Source) → IsLawful p → (members : List (List ℕ)) (x : Thing) → is_seen p members x ≡ true → Viewer p members x
viewer p lawful members x seen =
    let at = any_some (λ s. is_member members s && is_shown (windows_of p s) x) p.subjects seen in
    let parts = and_parts (is_member members at.one) (is_shown (windows_of p at.one) x) at.passes in
    record { one = at.one; inside = parts.0; found = itself p lawful at.one at.within; shows = parts.1 }

module _ (p q : Source) (lawful : IsLawful p) (lawful_too : IsLawful q) (members : List (List ℕ)) (f g : Held) (r t : DeviceRecord) (ends : ℕ) (agree : Agree members p q f g r t ends) where
  seen_there : (x : Thing) → Viewer p members x → is_seen q members x ≡ true
  unfolding own_of
  seen_there x v =
      let z = agree.there v.one v.inside v.found in
      let own = (agree.each v.one z.0 v.inside v.found z.1).own in
      let name : v.one.name ≡ z.0.name = ap (λ o. o.name) own in
      seen_by q members z.0 (same_member members v.one z.0 name v.inside) (ap (subject_named q) (sym name) ∙ z.1) x (ap (λ o. is_shown o.windows x) (sym own) ∙ v.shows)

  seen_here : (x : Thing) → Viewer q members x → is_seen p members x ≡ true
  unfolding own_of
  seen_here x v =
      let s = agree.back v.one v.inside v.found in
      let name : s.0.name ≡ v.one.name = named_so p v.one.name s.0 s.1 in
      let inside = same_member members v.one s.0 (sym name) v.inside in
      let found = found_so p v.one.name s.0 s.1 in
      let own = (agree.each s.0 v.one inside found (ap (subject_named q) name ∙ v.found)).own in
      seen_by p members s.0 inside found x (ap (λ o. is_shown o.windows x) own ∙ v.shows)

  pub shown_same : (y z : System) → AreAlike p q members y z → (x : Thing) → shown_by p members y x ≡ shown_by q members z x
  shown_same y z alike x =
      elim (cases_Bool (is_seen p members x)) as (λ _. shown_by p members y x ≡ shown_by q members z x) [
        | inl seen ↦
            let v = viewer p lawful members x seen in
            ap (λ b. cond b (thing_in y.things x) None) seen ∙ (alike v.one v.inside v.found).shown x v.shows ∙ sym (ap (λ b. cond b (thing_in z.things x) None) (seen_there x v))
        | inr unseen ↦
            let neither : is_seen q members x ≡ false = false_from_ne_true (is_seen q members x) (λ e. true≢false (sym (seen_here x (viewer q lawful_too members x e)) ∙ unseen)) in
            ap (λ b. cond b (thing_in y.things x) None) unseen ∙ sym (ap (λ b. cond b (thing_in z.things x) None) neither)
      ]
