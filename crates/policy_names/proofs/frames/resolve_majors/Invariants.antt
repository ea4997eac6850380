use Rattle.std.proofs.Common.{◌≡◌, ℕ, true}
use Rattle.std.specs.Prelude.{map, take, drop}
use Rattle.std.specs.List.{list_all, enumerate_from}
use Rattle.muen_num.specs.Search.{first_in}
use Rattle.policy_lawful.specs.Resolution.{major_in_range, major_named}
use Rattle.policy_lawful.specs.Rules.{frame_references, major_name, undeclared}
use Rattle.policy_lawful.specs.source.MajorFrame.{MajorFrame}
use Rattle.policy_names.specs.Outline.{bare_resolution}
use Rattle.policy_names.proofs.frames.resolve_majors.Given as goal

abbrev pub invariant-loop-index : goal.invariant-loop-index
invariant-loop-index l =
    let p = l.scope.source.now in
    let offence = λ (m : ℕ × MajorFrame). first_in (undeclared (major_name m.0)) (frame_references p m.1) in
    record {
      same : map (major_named (bare_resolution p)) l.resolved_majors ≡ take l.index l.majors;
      there : list_all (major_in_range (bare_resolution p)) l.resolved_majors ≡ true;
      rest : first_in offence (enumerate_from l.index (drop l.index l.majors)) ≡ first_in offence (enumerate_from 0 l.majors);
    }
