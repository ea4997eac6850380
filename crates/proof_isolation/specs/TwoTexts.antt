-- What is printed of a subject in two runs (this project's own).
use Rattle.std.specs.Prelude.{◌≡◌, true, List, ℕ, filter, min, nat_lt, Some}
use Rattle.std.specs.List.{flat_map}
use Rattle.policy_flows.specs.Flows.{IsClosed, is_member}
use Rattle.policy_lawful.specs.Contents.{Held}
use Rattle.policy_lawful.specs.Lawful.{IsLawful}
use Rattle.policy_lawful.specs.Thing.{Thing}
use Rattle.policy_lawful.specs.Windows.{windows_of}
use Rattle.policy_lawful.specs.source.Source.{Source}
use Rattle.policy_lawful.specs.source.Subject.{Subject}
use Rattle.proof_isolation.specs.Agree.{Agree}
use Rattle.proof_isolation.specs.MemberLines.{is_of}
use Rattle.proof_views.specs.LinesOf.{lines_of}
use Rattle.subject_model.specs.Clock.{run_of}
use Rattle.subject_model.specs.DeviceRecord.{DeviceRecord}
use Rattle.subject_model.specs.System.{is_shown, subject_named}
use Rattle.subject_model.specs.Trace.{subject_text, thing_text}
use Rattle.subject_model.specs.TurnLine.{TurnLine}
use Rattle.proof_views.specs.ViewText.{turn_text}

-- the lines of ticks below an end, in their order
abbrev pub lines_below : ℕ → List TurnLine → List TurnLine
lines_below end lines = filter (λ l. nat_lt l.tick end) lines

-- those of a run that come in ticks which another run has too
abbrev pub lines_in_both : Source → Held → DeviceRecord → DeviceRecord → List TurnLine
lines_in_both p f r other = lines_below (min r.end other.end) (run_of p f r).lines

-- the same bytes are printed of a member in both: in the ticks that both runs have, the lines of all members together, in their
-- order, and its own lines; and where both end at the same tick its final state, and the digest of each thing that a window of it
-- shows
pub record ArePrintedAlike (members : List (List ℕ)) (p q : Source) (f g : Held) (r t : DeviceRecord) (s w : Subject) : Type 0 where
  pub together : flat_map turn_text (filter (is_of members) (lines_in_both p f r t)) ≡ flat_map turn_text (filter (is_of members) (lines_in_both q g t r))
  pub lines : flat_map turn_text (lines_of s.name (lines_in_both p f r t)) ≡ flat_map turn_text (lines_of w.name (lines_in_both q g t r))
  pub state : r.end ≡ t.end → subject_text (run_of p f r).state s ≡ subject_text (run_of q g t).state w
  pub digests : r.end ≡ t.end → (x : Thing) → is_shown (windows_of p s) x ≡ true → thing_text (run_of p f r).state x ≡ thing_text (run_of q g t).state x

-- of each member of a set that is closed in this system, the same is printed in every second system in which the set is closed, and
-- that agrees on it in the ticks that both have
abbrev pub PrintsMembersAlike : Source → Held → DeviceRecord → Type 0
PrintsMembersAlike p f r =
    (q : Source) (g : Held) (t : DeviceRecord) (members : List (List ℕ)) → IsLawful q → IsClosed p members → IsClosed q members → Agree members p q f g r t (min r.end t.end)
    → (s w : Subject) → is_member members s ≡ true → subject_named p s.name ≡ Some s → subject_named q s.name ≡ Some w → ArePrintedAlike members p q f g r t s w

-- all lines of a run are of ticks below its end
abbrev pub LinesEndWithRuns : Type 0
LinesEndWithRuns = (p : Source) (f : Held) (r : DeviceRecord) → lines_below r.end (run_of p f r).lines ≡ (run_of p f r).lines
