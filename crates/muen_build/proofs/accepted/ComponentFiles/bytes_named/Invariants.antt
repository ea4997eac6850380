-- The files that are left are found as all are.
use Rattle.std.proofs.Common.{◌≡◌}
use Rattle.muen_outside.specs.Store.{find_bytes}
use Rattle.muen_build.proofs.accepted.ComponentFiles.bytes_named.Given as goal

abbrev pub invariant-loop-file : goal.invariant-loop-file
invariant-loop-file l = find_bytes l.name l.file-iterator ≡ find_bytes l.name l.self
