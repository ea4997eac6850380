use Rattle.std.proofs.Common.{◌≤◌, vec_len}
use Rattle.std.specs.Io.KnownBytes.{Consumes}
use Rattle.muen_outside.proofs.folder_files.read_all.Given as goal

abbrev pub invariant-loop : goal.invariant-loop
invariant-loop g l = record {
  within : vec_len l.bytes ≤ l.most;
  taken : Consumes (g.I.Read.remaining l.initial.from) (g.I.Read.remaining l.from) l.bytes.items;
}
