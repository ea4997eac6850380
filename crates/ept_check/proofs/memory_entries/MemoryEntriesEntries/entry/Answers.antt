use Rattle.std.proofs.Common.{Some, ap, sym, ◌∙◌}
use Rattle.std.specs.Prelude.{option_map}
use Rattle.ept_check.proofs.Loaded.{entry_in}
use Rattle.ept_check.proofs.memory_entries.MemoryEntriesEntries.entry.Goals as goal

pub returns-in-Some-clause-entry : goal.returns-in-Some-clause-entry
returns-in-Some-clause-entry g c =
    let lent = sym c.turn_to.ensures.page ∙ ap (option_map (λ p. p.now)) c.in-Some.is in
    ap (λ n. Some n) c.word_at.ensures ∙ sym (entry_in (g.M.PhysMem.pages c.args.self.now.mem.now) c.args.page c.args.index c.in-Some.bytes.now lent c.requires)
