-- What events change: pending sets and active members.
use Rattle.std.proofs.Common.{◌≡◌, ℕ, zero, suc, cond, Bool, Option, Some, None, List, [], ◌∷◌, map, refl, sym, ap, ◌∙◌, subst, inl, inr}
use Rattle.std.specs.Prelude.{option_map, slice_get, unwrap_or}
use Rattle.std.specs.Str.{bytes_eq}
use Rattle.std.proofs.lemmas.Bool.{cases_Bool, cases_eq}
use Rattle.machine_layout.specs.Pending.{without as without_in, with_vector as with_in}
use Rattle.muen_num.specs.declared.mode.EventMode.{EventMode}
use Rattle.muen_num.specs.declared.mode.EventMode.TheVariants.{Asap, Async, Own, Switch}
use Rattle.policy_lawful.specs.source.SourceWay.TheVariants.{Call, Trap}
use Rattle.policy_lawful.specs.source.Subject.{Subject}
use Rattle.image_pack.specs.declared.parts.EventPart.{EventPart}
use Rattle.image_pack.specs.declared.parts.SubjectPart.{SubjectPart}
use Rattle.muen_num.specs.ListChange.{change_at}
use Rattle.muen_num.proofs.ChangeLaws.{element_changes, others_stay}
use Rattle.kernel_core.specs.Vectors.{with_vector, without_vector}
use Rattle.kernel_core.specs.Router.{RouterState, hands_over, pends, router_pends_now as kernel_pends_now, router_pends_later as kernel_pends_later, raised_as, taken}
use Rattle.kernel_core.specs.Kernel.{Live, entry, raised_by as kernel_raised_by}
use Rattle.policy_lawful.specs.Frames.{group_of}
use Rattle.vmx_machine.specs.declared.control.Control.{Control}
use Rattle.subject_model.specs.System.{Named, System, change_named, happens, happens_as, named, pends_now, pends_later, raised_by, took, with_active}
use Rattle.proof_turns.specs.Ground.{Ground, IsSubject, Joined, subject_name_at, raised_of}
use Rattle.proof_turns.specs.Fixed.{IsFixed}
use Rattle.proof_turns.specs.Held.{SameSet}
use Rattle.proof_turns.specs.Stands.{IsMember, RouterStands, StandsFor}
use Rattle.proof_turns.proofs.SetLaws.{set_with, set_without}
use Rattle.subject_model.proofs.KeyLaws.{value_changed, value_other, names_apart}
use Rattle.proof_turns.proofs.Holds.{each_subject, found_before}

-- a change that changes nothing
named_same : {X : Type 0} (name other : List ℕ) (entries : Named X) → named (change_named name (λ x. x) entries) other ≡ named entries other
named_same name other [] = refl
named_same name other (e ∷ es) =
    elim (cases_Bool (bytes_eq e.0 name)) [
      | inl t ↦ rw t refl
      | inr f ↦ rw f (ap (cond (bytes_eq e.0 other) (Some e.1)) (named_same name other es))
    ]

mapped_at : {X Y : Type 0} (f : X → Y) (xs : List X) (i : ℕ) → slice_get (map f xs) i ≡ option_map f (slice_get xs i)
mapped_at f [] i = refl
mapped_at f (x ∷ xs) zero = refl
mapped_at f (x ∷ xs) (suc i) = mapped_at f xs i

module _ (g : Ground) (fixed : IsFixed g) where
  pub name_is : (s : ℕ) (n : Subject) (q : SubjectPart) (c : Control) → Joined g s n q c → subject_name_at g s ≡ n.name
  name_is s n q c j = ap (λ o. unwrap_or (option_map (λ (x : Subject). x.name) o) []) j.subject

  -- ---- one set
  sets_change : (f : List Bool → List Bool) (h : List ℕ → List ℕ)
      → ((o : Option (List Bool)) (l : Option (List ℕ)) → SameSet o l → SameSet (option_map f o) (option_map h l))
      → (sets : List (List Bool)) (entries : Named (List ℕ))
      → ((s : ℕ) (n : Subject) (q : SubjectPart) (c : Control) → Joined g s n q c → SameSet (slice_get sets s) (named entries n.name))
      → (t : ℕ) (m : Subject) (r : SubjectPart) (d : Control) → Joined g t m r d → (s : ℕ) (n : Subject) (q : SubjectPart) (c : Control) → Joined g s n q c
      → SameSet (slice_get (change_at t f sets) s) (named (change_named m.name h entries) n.name)
  sets_change f h both sets entries same t m r d i =
      each_subject g (λ s n q c. SameSet (slice_get (change_at t f sets) s) (named (change_named m.name h entries) n.name)) t m r d i
      (rw (element_changes t f sets, value_changed bytes_eq m.name h entries) (both (slice_get sets t) (named entries m.name) (same t m r d i)))
      (λ s n q c j ne. rw (
        others_stay t s f sets ne,
        value_other bytes_eq m.name n.name h entries (names_apart m.name n.name (λ e. ne (fixed.names s t n m j.subject i.subject (sym e)))),
      ) (same s n q c j))

  sets_stay : (sets : List (List Bool)) (entries : Named (List ℕ))
      → ((s : ℕ) (n : Subject) (q : SubjectPart) (c : Control) → Joined g s n q c → SameSet (slice_get sets s) (named entries n.name))
      → (name : List ℕ) (s : ℕ) (n : Subject) (q : SubjectPart) (c : Control) → Joined g s n q c
      → SameSet (slice_get sets s) (named (change_named name (λ vs. vs) entries) n.name)
  sets_stay sets entries same name s n q c j = rw (named_same name n.name entries) (same s n q c j)

  sets_pend : (vector : Option ℕ) (sets : List (List Bool)) (entries : Named (List ℕ))
      → ((s : ℕ) (n : Subject) (q : SubjectPart) (c : Control) → Joined g s n q c → SameSet (slice_get sets s) (named entries n.name))
      → (t : ℕ) (m : Subject) (r : SubjectPart) (d : Control) → Joined g t m r d → (s : ℕ) (n : Subject) (q : SubjectPart) (c : Control) → Joined g s n q c
      → SameSet (slice_get (pends vector t sets) s) (named (change_named m.name (with_in vector) entries) n.name)
  sets_pend None sets entries same t m r d i = sets_stay sets entries same m.name
  sets_pend (Some v) sets entries same t m r d i = sets_change (with_vector v) (with_in (Some v)) (set_with v) sets entries same t m r d i

  -- ---- with another router
  abbrev pub with_router : RouterState → Live → Live
  with_router r k = record k { router = r }

  router_stands : (k : Live) (y : System) (r : RouterState) (now later : Named (List ℕ)) (active : List (List ℕ)) → StandsFor g k y → RouterStands g r now later active
      → StandsFor g (with_router r k) (record y { now = now; later = later; active = active })
  router_stands k y r now later active stands h = record {
    shows = stands.shows;
    pages = stands.pages;
    owns = stands.owns;
    router = h;
    cpus = stands.cpus;
    ports = stands.ports;
    many_ports = stands.many_ports;
    small_ports = stands.small_ports;
    frame = stands.frame;
  }

  -- ---- a vector is taken
  pub took_stands : (k : Live) (y : System) (s : ℕ) (n : Subject) (q : SubjectPart) (c : Control) (v : Option ℕ) → Joined g s n q c → StandsFor g k y
      → StandsFor g (with_router (taken s v k.router) k) (took n.name v y)
  took_stands k y s n q c None j stands =
      router_stands k y k.router (change_named n.name (λ vs. vs) y.now) (change_named n.name (λ vs. vs) y.later) y.active stands (record {
        now = sets_stay k.router.pending_now y.now stands.router.now n.name;
        later = sets_stay k.router.pending_later y.later stands.router.later n.name;
        groups = stands.router.groups;
        same_active = stands.router.same_active;
        members = stands.router.members;
      })
  took_stands k y s n q c (Some v) j stands =
      router_stands k y (taken s (Some v) k.router) (change_named n.name (without_in (Some v)) y.now) (change_named n.name (without_in (Some v)) y.later) y.active stands (record {
        now = sets_change (without_vector v) (without_in (Some v)) (set_without v) k.router.pending_now y.now stands.router.now s n q c j;
        later = sets_change (without_vector v) (without_in (Some v)) (set_without v) k.router.pending_later y.later stands.router.later s n q c j;
        groups = stands.router.groups;
        same_active = stands.router.same_active;
        members = stands.router.members;
      })

  -- ---- a vector is pending
  pub pended_now : (k : Live) (y : System) (t : ℕ) (m : Subject) (r : SubjectPart) (d : Control) (vector : Option ℕ) → Joined g t m r d → StandsFor g k y
      → StandsFor g (with_router (kernel_pends_now t vector k.router) k) (pends_now (record { subject = m.name; vector = vector }) y)
  pended_now k y t m r d vector i stands =
      router_stands k y (kernel_pends_now t vector k.router) (change_named m.name (with_in vector) y.now) y.later y.active stands (record {
        now = sets_pend vector k.router.pending_now y.now stands.router.now t m r d i;
        later = stands.router.later;
        groups = stands.router.groups;
        same_active = stands.router.same_active;
        members = stands.router.members;
      })

  pub pended_later : (k : Live) (y : System) (t : ℕ) (m : Subject) (r : SubjectPart) (d : Control) (vector : Option ℕ) → Joined g t m r d → StandsFor g k y
      → StandsFor g (with_router (kernel_pends_later t vector k.router) k) (pends_later (record { subject = m.name; vector = vector }) y)
  pended_later k y t m r d vector i stands =
      router_stands k y (kernel_pends_later t vector k.router) y.now (change_named m.name (with_in vector) y.later) y.active stands (record {
        now = stands.router.now;
        later = sets_pend vector k.router.pending_later y.later stands.router.later t m r d i;
        groups = stands.router.groups;
        same_active = stands.router.same_active;
        members = stands.router.members;
      })

  -- ---- a handover
  active_alike : (i h s : ℕ) (name : List ℕ) (numbers : List ℕ) (names : List (List ℕ)) → subject_name_at g s ≡ name
      → slice_get names i ≡ option_map (subject_name_at g) (slice_get numbers i)
      → slice_get (change_at h (λ _. name) names) i ≡ option_map (subject_name_at g) (slice_get (change_at h (λ _. s) numbers) i)
  active_alike i h s name numbers names e is =
      elim (cases_eq i h) [
        | inl z ↦
            ap (λ x. slice_get (change_at h (λ _. name) names) x) z
            ∙ element_changes h (λ _. name) names
            ∙ ap (option_map (λ _. name)) (ap (slice_get names) (sym z) ∙ is ∙ ap (λ x. option_map (subject_name_at g) (slice_get numbers x)) z)
            ∙ constant (slice_get numbers h)
            ∙ ap (option_map (subject_name_at g)) (sym (element_changes h (λ _. s) numbers))
            ∙ ap (λ x. option_map (subject_name_at g) (slice_get (change_at h (λ _. s) numbers) x)) (sym z)
        | inr ne ↦ others_stay h i (λ _. name) names ne ∙ (is ∙ ap (option_map (subject_name_at g)) (sym (others_stay h i (λ _. s) numbers ne)))
      ]
    where
      constant : (o : Option ℕ) → option_map (λ _. name) (option_map (subject_name_at g) o) ≡ option_map (subject_name_at g) (option_map (λ _. s) o)
      constant None = refl
      constant (Some x) = ap Some (sym e)

  group_at : (k : Live) (y : System) (t : ℕ) (m : Subject) (r : SubjectPart) (d : Control) → Joined g t m r d → StandsFor g k y → slice_get k.router.groups t ≡ Some r.group
  group_at k y t m r d i stands =
      ap (λ gs. slice_get gs t) stands.router.groups
      ∙ (mapped_at (λ (x : SubjectPart). x.group) g.setup.subjects t ∙ ap (option_map (λ (x : SubjectPart). x.group)) i.part)

  active_stands : (k : Live) (y : System) (t : ℕ) (m : Subject) (r : SubjectPart) (d : Control) → Joined g t m r d → StandsFor g k y
      → StandsFor g (with_router (record k.router { active = change_at r.group (λ _. t) k.router.active }) k) (record y { active = change_at r.group (λ _. m.name) y.active })
  active_stands k y t m r d i stands =
      router_stands k y (record k.router { active = change_at r.group (λ _. t) k.router.active }) y.now y.later (change_at r.group (λ _. m.name) y.active) stands (record {
        now = stands.router.now;
        later = stands.router.later;
        groups = stands.router.groups;
        same_active = λ x. active_alike x r.group t m.name k.router.active y.active (name_is t m r d i) (stands.router.same_active x);
        members = λ x s at. found_before r.group (λ _. t) k.router.active x s at
            (λ w e _ is. subst (IsMember g x) is (record { is = record { subject = m; part = r; control = d; joined = i }; in_group = sym e }))
            (λ ne wat. stands.router.members x s wat);
      })

  handed_stands : (k : Live) (y : System) (t : ℕ) (m : Subject) (r : SubjectPart) (d : Control) → Joined g t m r d → StandsFor g k y
      → StandsFor g (with_router (hands_over t k.router) k) (with_active (group_of g.policy m.name) m.name y)
  handed_stands k y t m r d i stands = rw (group_at k y t m r d i stands, i.in_group) (active_stands k y t m r d i stands)

  -- ---- an event, by its mode
  event_as : (mode : EventMode) (k : Live) (y : System) (t : ℕ) (m : Subject) (r : SubjectPart) (d : Control) (vector : Option ℕ) → Joined g t m r d → StandsFor g k y
      → StandsFor g (with_router (raised_as mode t vector k.router) k) (happens_as g.policy mode (record { subject = m.name; vector = vector }) y)
  event_as Asap k y t m r d vector i stands = pended_now k y t m r d vector i stands
  event_as Async k y t m r d vector i stands = pended_later k y t m r d vector i stands
  event_as Own k y t m r d vector i stands = pended_now k y t m r d vector i stands
  event_as Switch k y t m r d vector i stands =
      handed_stands (with_router (kernel_pends_now t vector k.router) k) (pends_now (record { subject = m.name; vector = vector }) y) t m r d i (pended_now k y t m r d vector i stands)

  event_stands : (k : Live) (y : System) (o : Option EventPart) → ((e : EventPart) → o ≡ Some e → IsSubject g e.target) → StandsFor g k y
      → StandsFor g (with_router (kernel_raised_by o k.router) k) (happens g.policy (option_map (raised_of g) o) y)
  event_stands k y None there stands = stands
  event_stands k y (Some e) there stands =
      let is = there e refl in
      rw (name_is e.target is.subject is.part is.control is.joined) (event_as e.mode k y e.target is.subject is.part is.control e.vector is.joined stands)

  pub called_stands : (k : Live) (y : System) (s : ℕ) (n : Subject) (q : SubjectPart) (c : Control) (number : ℕ) → Joined g s n q c → StandsFor g k y
      → StandsFor g (with_router (kernel_raised_by (entry q.calls number) k.router) k) (raised_by g.policy n (Some (Call number)) y)
  called_stands k y s n q c number j stands = rw (sym (j.calls number)) (event_stands k y (entry q.calls number) (λ e is. fixed.call_targets s number q e j.part is) stands)

  pub trapped_stands : (k : Live) (y : System) (s : ℕ) (n : Subject) (q : SubjectPart) (c : Control) (reason : ℕ) → Joined g s n q c → StandsFor g k y
      → StandsFor g (with_router (kernel_raised_by (entry q.traps reason) k.router) k) (raised_by g.policy n (Some (Trap reason)) y)
  trapped_stands k y s n q c reason j stands = rw (sym (j.traps reason)) (event_stands k y (entry q.traps reason) (λ e is. fixed.trap_targets s reason q e j.part is) stands)
