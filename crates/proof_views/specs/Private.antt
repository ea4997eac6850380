-- The private memory of a subject: things that it alone may change, and what they hold by its own stores (this project's own).
use Rattle.std.specs.Prelude.{◌≡◌, ℕ, zero, suc, ◌||◌, not, true, false, List, Option, None}
use Rattle.std.specs.List.{list_all, list_any}
use Rattle.std.specs.Str.{bytes_eq}
use Rattle.subject_model.specs.Step.{Stored}
use Rattle.policy_lawful.specs.Dma.{domain_windows}
use Rattle.policy_lawful.specs.Thing.{Thing, is_device, same_thing, state}
use Rattle.policy_lawful.specs.source.Source.{Source}
use Rattle.policy_lawful.specs.source.Subject.{Subject}
use Rattle.subject_model.specs.Alone.{Own, OwnState, solo_turn}
use Rattle.proof_views.specs.AloneRun.{Arrival, nothing, at_turn, rewritten, alone_to}
use Rattle.proof_views.specs.Changes.{after_store, are_writable, may_change}

-- no other subject may change it, no device's domain has a window with write on it, and it is neither a device's memory nor the
-- subject's own state page
pub record IsPrivate (p : Source) (s : Subject) (x : Thing) : Type 0 where
  pub subjects : list_all (λ q. bytes_eq q.name s.name || not (may_change p q x)) p.subjects ≡ true
  pub domains : list_any (λ d. are_writable (domain_windows p d) x) p.device_domains ≡ false
  pub device : is_device x ≡ false
  pub page : same_thing (state s.name) x ≡ false

-- what a subject's turn stores, in a tick in which this reaches it
abbrev pub stored_in : Own → Arrival → OwnState → Option (Stored Thing)
stored_in own nothing mine = None
stored_in own (at_turn inbox) mine = (solo_turn own mine inbox).stored
stored_in own (rewritten st) mine = None

-- what a thing holds after so many ticks, if nothing but the subject's own turns stores into it: over what it holds first
abbrev pub held_alone : Own → (ℕ → Arrival) → OwnState → Thing → List ℕ → ℕ → List ℕ
held_alone own arrivals mine x first zero = first
held_alone own arrivals mine x first (suc tick) =
    after_store (stored_in own (arrivals tick) (alone_to own arrivals tick mine)) x (held_alone own arrivals mine x first tick)
