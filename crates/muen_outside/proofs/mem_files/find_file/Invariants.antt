use Rattle.std.proofs.Common.{◌≡◌, drop}
use Rattle.muen_outside.specs.Store.{find_bytes}
use Rattle.muen_outside.specs.Entries.{entry_list}
use Rattle.muen_outside.proofs.mem_files.find_file.Given as goal

abbrev pub invariant-loop-file : goal.invariant-loop-file
invariant-loop-file l =
    find_bytes l.name (entry_list (drop l.file-index l.files)) ≡ find_bytes l.name (entry_list l.files)
