use Rattle.std.proofs.Common.{◌≡◌, ◌++◌, take, drop, string_bytes}
use Rattle.muen_outside.specs.Store.{put_entry}
use Rattle.muen_outside.specs.Entries.{entry_list}
use Rattle.muen_outside.proofs.mem_files.put_file.Given as goal

abbrev pub invariant-loop-i : goal.invariant-loop-i
invariant-loop-i l = record {
  same : l.files.items ≡ l.fn.files.items;
  name : string_bytes l.name ≡ string_bytes l.fn.name;
  bytes : l.bytes.items ≡ l.fn.bytes.items;
  rest : put_entry (string_bytes l.name) l.bytes.items (entry_list l.files.items)
      ≡ entry_list (take l.i l.files.items) ++ put_entry (string_bytes l.name) l.bytes.items (entry_list (drop l.i l.files.items));
}
