use Rattle.std.proofs.Common.{◌≡◌, drop}
use Rattle.std.specs.List.{list_all}
use Rattle.muen_num.specs.Naming.{is_name_byte}
use Rattle.muen_num.proofs.name.has_name_bytes.Given as goal

abbrev pub invariant-loop-c : goal.invariant-loop-c
invariant-loop-c l = list_all is_name_byte (drop l.c-index l.text) ≡ list_all is_name_byte l.text
