-- What events leave: all things, all MSRs, the input bytes of ports, and the frame.
use Rattle.std.proofs.Common.{◌≡◌, ℕ, List, Option, Some, None, refl}
use Rattle.muen_num.specs.declared.mode.EventMode.{EventMode}
use Rattle.muen_num.specs.declared.mode.EventMode.TheVariants.{Asap, Async, Own as OwnMode, Switch}
use Rattle.policy_lawful.specs.Events.{Raised, Target, event_of}
use Rattle.policy_lawful.specs.Frames.{group_of}
use Rattle.policy_lawful.specs.source.Source.{Source}
use Rattle.policy_lawful.specs.source.SourceWay.{SourceWay}
use Rattle.policy_lawful.specs.source.Subject.{Subject}
use Rattle.subject_model.specs.Clock.{irq_reaches}
use Rattle.subject_model.specs.System.{System, happens, happens_as, pends_now, raised_by, with_active}

pub record Unmoved (y z : System) : Type 0 where
  pub things : z.things ≡ y.things
  pub msrs : z.msrs ≡ y.msrs
  pub ports : z.ports ≡ y.ports
  pub frame : z.frame ≡ y.frame

unmoved : (y : System) → Unmoved y y
unmoved y = record { things = refl; msrs = refl; ports = refl; frame = refl }

by_group : (o : Option ℕ) (member : List ℕ) (y : System) → Unmoved y (with_active o member y)
by_group None member y = unmoved y
by_group (Some g) member y = record { things = refl; msrs = refl; ports = refl; frame = refl }

by_mode : (p : Source) (mode : EventMode) (t : Target) (y : System) → Unmoved y (happens_as p mode t y)
by_mode p Asap t y = record { things = refl; msrs = refl; ports = refl; frame = refl }
by_mode p Async t y = record { things = refl; msrs = refl; ports = refl; frame = refl }
by_mode p OwnMode t y = record { things = refl; msrs = refl; ports = refl; frame = refl }
by_mode p Switch t y =
    let handed = by_group (group_of p t.subject) t.subject (pends_now t y) in
    record { things = handed.things; msrs = handed.msrs; ports = handed.ports; frame = handed.frame }

by_event : (p : Source) (o : Option Raised) (y : System) → Unmoved y (happens p o y)
by_event p None y = unmoved y
by_event p (Some e) y = by_mode p e.mode e.target y

pub by_raised : (p : Source) (q : Subject) (way : Option SourceWay) (y : System) → Unmoved y (raised_by p q way y)
by_raised p q None y = unmoved y
by_raised p q (Some way) y = by_event p (event_of p q way) y

pub by_irq : (o : Option Target) (y : System) → Unmoved y (irq_reaches o y)
by_irq None y = unmoved y
by_irq (Some t) y = record { things = refl; msrs = refl; ports = refl; frame = refl }
