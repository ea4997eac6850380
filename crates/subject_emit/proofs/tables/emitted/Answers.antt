use Rattle.std.proofs.Common.{length, drop, map, sym, ap, subst, ◌∙◌}
use Rattle.std.proofs.lemmas.List.{take_at}
use Rattle.subject_emit.specs.Mapped.{mapped, mapped_windows}
use Rattle.subject_emit.specs.Pages.{AreTablesOf, tables_at}
use Rattle.subject_emit.proofs.tables.emitted.Goals as goal

pub returns : goal.returns
returns c =
    let are = c.deref.ensures.value ∙ c.in_ok-windows.ensures ∙ ap (map (mapped c.args.placed.now)) c.items.ensures in
    let bytes = c.in_ok-tables.tables in
    let out = c.emit.new.out in
    let is = c.of.ensures ∙ take_at out (drop (length out) bytes.items) bytes.len (c.emit.auto.out ∙ c.as_mut_slice.ensures.len) in
    subst (AreTablesOf (mapped_windows c.args.placed.now c.args.granted.now) (tables_at c.args.placed.now c.args.subject)) (sym is)
    (subst (λ at. AreTablesOf (mapped_windows c.args.placed.now c.args.granted.now) at out) c.tables_at.ensures
    (subst (λ ws. AreTablesOf ws c.tables_at.result out) are
    (record {
      walk = c.emit.ensures.walk;
      alone = c.emit.ensures.alone;
      paths = c.emit.ensures.paths;
      leaves = c.emit.ensures.leaves;
      types = c.emit.ensures.types;
      ascending = c.emit.ensures.ascending;
      rest = c.emit.ensures.rest;
      written = c.emit.ensures.written;
    })))
