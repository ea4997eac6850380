-- What is printed of members is the same in two systems that agree on them.
use Rattle.std.proofs.Common.{◌≡◌, ℕ, ◌≤◌, true, List, filter, min, sym, ap, subst, ◌∙◌, arith}
use Rattle.std.specs.List.{flat_map}
use Rattle.std.specs.Prelude.{option_map}
use Rattle.std.specs.Str.{bytes_eq}
use Rattle.std.proofs.lemmas.Slice.Eq.{bytes_eq-Decides}
use Rattle.policy_flows.specs.Flows.{is_member}
use Rattle.policy_lawful.specs.Thing.{state}
use Rattle.policy_lawful.specs.source.Subject.{Subject}
use Rattle.subject_model.specs.Alone.{thing_in}
use Rattle.subject_model.specs.Clock.{run_of}
use Rattle.subject_model.specs.StatePage.{state_in}
use Rattle.subject_model.specs.Trace.{state_text}
use Rattle.subject_model.specs.TurnLine.{TurnLine}
use Rattle.proof_views.specs.ViewText.{turn_text}
use Rattle.proof_views.specs.LinesOf.{lines_of}
use Rattle.proof_isolation.specs.Agree.{Agree}
use Rattle.proof_isolation.specs.Laws.{MembersPrintTheSame}
use Rattle.proof_isolation.specs.MemberLines.{is_of}
use Rattle.proof_isolation.specs.Alike.{AreAlikeFor}
use Rattle.proof_isolation.specs.TwoTexts.{lines_below, lines_in_both}
use Rattle.proof_isolation.proofs.Alike.{same_name}
use Rattle.proof_isolation.proofs.TwoSystems.{all_lines, ends_alike}
use Rattle.proof_isolation.proofs.TwoTexts.{filter_finer, lines_of_front}

-- a member's lines are among those of members
own_among : (members : List (List ℕ)) (s : Subject) → is_member members s ≡ true → (l : TurnLine) → bytes_eq l.subject s.name ≡ true → is_of members l ≡ true
own_among members s member l own = ap (λ n. is_of members (record { tick = l.tick; cpu = l.cpu; subject = n; pc = l.pc; what = l.what })) ((bytes_eq-Decides l.subject s.name).0 own) ∙ member

-- in the ticks that both have, and at the end of both, where they end at the same tick
pub printed_alike : MembersPrintTheSame
printed_alike p f r lawful q g t members lawful_too closed closed_too agree s w member found is =
    let name = same_name p q s w (agree.each s w member found is).own in
    let low : min r.end t.end ≤ r.end = omega arith in
    let low_too : min r.end t.end ≤ t.end = omega arith in
    let ends : min t.end r.end ≡ min r.end t.end = omega arith in
    let left = lines_of_front p f r (min r.end t.end) low in
    let right : lines_in_both q g t r ≡ _ = ap (λ n. lines_below n (run_of q g t).lines) ends ∙ lines_of_front q g t (min r.end t.end) low_too in
    let both : filter (is_of members) (lines_in_both p f r t) ≡ filter (is_of members) (lines_in_both q g t r) =
    ap (filter (is_of members)) left ∙ all_lines p q lawful lawful_too members closed closed_too f g r t (min r.end t.end) agree s member found (min r.end t.end) (omega arith) ∙ sym (ap (filter (is_of members)) right) in
    let finer = filter_finer (λ l. bytes_eq l.subject s.name) (is_of members) (own_among members s member) in
    record {
      together = ap (flat_map turn_text) both;
      lines =
          ap (flat_map turn_text)
          (sym (finer (lines_in_both p f r t)) ∙ ap (lines_of s.name) both ∙ finer (lines_in_both q g t r) ∙ ap (λ n. lines_of n (lines_in_both q g t r)) name);
      state = λ same. let end = at_end same in ap (λ o. state_text s.name (option_map state_in o)) end.page ∙ ap (λ n. state_text n (option_map state_in (thing_in (run_of q g t).state.things (state n)))) name;
      digests = λ same x shown. let alike = (at_end same).shown x shown in cc (alike);
    }
  where
    at_end : r.end ≡ t.end → AreAlikeFor p q s (run_of p f r).state (run_of q g t).state
    at_end same = ends_alike p q lawful lawful_too members closed closed_too f g r t (subst (Agree members p q f g r t) (omega (arith, same)) agree) (sym same) s member found
