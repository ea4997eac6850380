-- Systems that are alike stay so where one of them changes nothing that members have or see.
use Rattle.std.proofs.Common.{◌≡◌, ℕ, List, sym, ap, subst, ◌∙◌}
use Rattle.std.specs.Prelude.{◌==◌}
use Rattle.std.specs.List.{list_any}
use Rattle.subject_model.specs.Resources.{ports_of}
use Rattle.policy_lawful.specs.Contents.{Held}
use Rattle.policy_lawful.specs.Thing.{state}
use Rattle.policy_lawful.specs.Windows.{windows_of}
use Rattle.policy_lawful.specs.source.Source.{Source}
use Rattle.policy_lawful.specs.source.Subject.{Subject}
use Rattle.subject_model.specs.DeviceRecord.{DeviceRecord}
use Rattle.policy_flows.proofs.Closures.{same_member}
use Rattle.subject_model.specs.Alone.{own_of, thing_in}
use Rattle.subject_model.specs.System.{System, is_shown, named, subject_named}
use Rattle.proof_isolation.specs.Agree.{Agree}
use Rattle.proof_isolation.specs.Alike.{AreAlike, is_active}

-- ---- what two policies give a subject alike

module _ (p q : Source) (s z : Subject) (own : own_of p s ≡ own_of q z) where
  pub same_name : s.name ≡ z.name
  unfolding own_of
  same_name = ap (λ o. o.name) own

  pub same_cpu : s.cpu ≡ z.cpu
  unfolding own_of
  same_cpu = ap (λ o. o.cpu) own

  pub same_windows : windows_of p s ≡ windows_of q z
  unfolding own_of
  same_windows = ap (λ o. o.windows) own

  pub same_ports : ports_of p s ≡ ports_of q z
  unfolding own_of
  same_ports = ap (λ o. o.ports) own

  pub same_entry : s.entry ≡ z.entry
  unfolding own_of
  same_entry = ap (λ o. o.entry) own

-- ---- a change of one of them

pub alike_left : (p q : Source) (members : List (List ℕ)) (y w z : System) → AreAlike p p members y w → AreAlike p q members y z → AreAlike p q members w z
alike_left p q members y w z change h = λ s member is.
    let a = change s member is in
    let b = h s member is in
    record {
      page = sym a.page ∙ b.page;
      msrs = sym a.msrs ∙ b.msrs;
      now = sym a.now ∙ b.now;
      later = sym a.later ∙ b.later;
      active = sym a.active ∙ b.active;
      shown = λ x e. sym (a.shown x e) ∙ b.shown x e;
      ports = λ n e. sym (a.ports n e) ∙ b.ports n e;
    }

module _ (p q : Source) (members : List (List ℕ)) (f g : Held) (r t : DeviceRecord) (ends : ℕ) (agree : Agree members p q f g r t ends) where
  pub alike_right : (y z w : System) → AreAlike q q members z w → AreAlike p q members y z → AreAlike p q members y w
  alike_right y z w change h = λ s member is.
      let other = agree.there s member is in
      let own = (agree.each s other.0 member is other.1).own in
      let name = same_name p q s other.0 own in
      let a = change other.0 (same_member members s other.0 name member) (ap (subject_named q) (sym name) ∙ other.1) in
      let b = h s member is in
      record {
        page = b.page ∙ subst (λ n. thing_in z.things (state n) ≡ thing_in w.things (state n)) (sym name) a.page;
        msrs = b.msrs ∙ subst (λ n. named z.msrs n ≡ named w.msrs n) (sym name) a.msrs;
        now = b.now ∙ subst (λ n. named z.now n ≡ named w.now n) (sym name) a.now;
        later = b.later ∙ subst (λ n. named z.later n ≡ named w.later n) (sym name) a.later;
        active = b.active ∙ subst (λ n. is_active q z n ≡ is_active q w n) (sym name) a.active;
        shown = λ x e. b.shown x e ∙ a.shown x (ap (λ windows. is_shown windows x) (sym (same_windows p q s other.0 own)) ∙ e);
        ports = λ n e. b.ports n e ∙ a.ports n (ap (list_any (λ m. m == n)) (sym (same_ports p q s other.0 own)) ∙ e);
      }
