-- Events and handovers between subjects, by numbers (this project's own, after Muen's events).
use Rattle.std.specs.Prelude.{ℕ, Bool, List, map, slice_get, Option, Some, None}
use Rattle.muen_num.specs.ListChange.{change_at}
use Rattle.image_pack.specs.declared.parts.EventPart.{EventPart}
use Rattle.image_pack.specs.declared.parts.SubjectPart.{SubjectPart}
use Rattle.image_pack.specs.plan.GroupPart.{GroupPart}
use Rattle.muen_num.specs.declared.mode.EventMode.{EventMode}
use Rattle.muen_num.specs.declared.mode.EventMode.TheVariants.{Asap, Async, Own, Switch}
use Rattle.event_router.specs.Vectors.{no_vectors, with_vector, without_vector, delivered}

pub record RouterState : Type 0 where
  -- each subject's pending vectors that are deliverable at any turn
  pub pending_now : List (List Bool)
  -- each subject's pending vectors that wait for a minor frame or an exit
  pub pending_later : List (List Bool)
  -- each subject's scheduling group
  pub groups : List ℕ
  -- each group's active member
  pub active : List ℕ

-- nothing is pending, and the first member of each group is active
abbrev pub started : List SubjectPart → List GroupPart → RouterState
started subjects groups = record {
  pending_now = map (λ s. no_vectors) subjects;
  pending_later = map (λ s. no_vectors) subjects;
  groups = map (λ s. s.group) subjects;
  active = map (λ g. g.first) groups;
}

-- ---- events are raised

abbrev pub pends : Option ℕ → ℕ → List (List Bool) → List (List Bool)
pends None subject sets = sets
pends (Some v) subject sets = change_at subject (with_vector v) sets

abbrev pub router_pends_now : ℕ → Option ℕ → RouterState → RouterState
router_pends_now subject vector r = record r { pending_now = pends vector subject r.pending_now }

abbrev pub router_pends_later : ℕ → Option ℕ → RouterState → RouterState
router_pends_later subject vector r = record r { pending_later = pends vector subject r.pending_later }

-- the subject becomes the active member of its group
abbrev pub with_active_member : Option ℕ → ℕ → List ℕ → List ℕ
with_active_member None subject active = active
with_active_member (Some g) subject active = change_at g (λ _. subject) active

abbrev pub hands_over : ℕ → RouterState → RouterState
hands_over subject r = record r { active = with_active_member (slice_get r.groups subject) subject r.active }

abbrev pub raised_as : EventMode → ℕ → Option ℕ → RouterState → RouterState
raised_as Asap target vector r = router_pends_now target vector r
raised_as Async target vector r = router_pends_later target vector r
raised_as Own target vector r = router_pends_now target vector r
raised_as Switch target vector r = hands_over target (router_pends_now target vector r)

abbrev pub raised : EventPart → RouterState → RouterState
raised e r = raised_as e.mode e.target e.vector r

-- ---- events are delivered

abbrev pub delivered_by : Option (List Bool) → Option (List Bool) → Bool → Option ℕ
delivered_by (Some now) (Some later) entry = delivered now later entry
delivered_by (Some now) None entry = None
delivered_by None later entry = None

-- the vector that is delivered to a subject; `entry` says whether those are deliverable that wait
abbrev pub deliverable : RouterState → ℕ → Bool → Option ℕ
deliverable r subject entry = delivered_by (slice_get r.pending_now subject) (slice_get r.pending_later subject) entry

-- it isn't pending any more
abbrev pub taken : ℕ → Option ℕ → RouterState → RouterState
taken subject None r = r
taken subject (Some v) r =
    record r { pending_now = change_at subject (without_vector v) r.pending_now; pending_later = change_at subject (without_vector v) r.pending_later }
