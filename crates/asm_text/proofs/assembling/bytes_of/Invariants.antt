use Rattle.std.proofs.Common.{◌≡◌, drop, length}
use Rattle.text_words.specs.Steps.{mapped}
use Rattle.asm_text.specs.Appended.{FollowFrom}
use Rattle.asm_text.specs.Meaning.{bytes_of_items, items_of}
use Rattle.asm_text.proofs.Seats.{finished}
use Rattle.asm_text.proofs.assembling.bytes_of.Given as goal

abbrev pub invariant-loop-line : goal.invariant-loop-line
invariant-loop-line l = record {
  same : finished l.out.items (items_of l.layout.names.entries (drop l.line-index l.layout.lines)) ≡ mapped bytes_of_items (items_of l.layout.names.entries l.layout.lines);
  follow : FollowFrom (length l.out.items) (drop l.line-index l.layout.lines);
}
