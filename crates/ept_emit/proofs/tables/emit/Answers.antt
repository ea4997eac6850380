use Rattle.std.proofs.Common.{arith, refl}
use Rattle.ept_emit.specs.Pages.{ept_pages, ranges_of}
use Rattle.ept_emit.specs.Emitted.{window_at}
use Rattle.ept_emit.proofs.Held.{alone_held, ascending_held, order_held, paths_held, rest_held, size_held, type_held, walk_held}
use Rattle.ept_emit.proofs.tables.emit.Goals as goal

pub returns-clause-walk : goal.returns-clause-walk
returns-clause-walk c = λ m addr kind held addresses lt. walk_held m c.args.at c.write_tables.result (ept_pages (ranges_of c.args.windows.now)) c.write_tables.new.out c.args.windows.now c.requires.at c.write_tables.ensures.some c.write_tables.ensures.few c.requires.end (omega (arith, c.write_tables.ensures.len, c.requires.room)) c.requires.emittable c.write_tables.ensures.numbered held addr kind lt addresses

pub returns-clause-alone : goal.returns-clause-alone
returns-clause-alone c = λ m addr held lt. alone_held m c.args.at c.write_tables.result (ept_pages (ranges_of c.args.windows.now)) c.write_tables.new.out c.args.windows.now c.requires.at c.write_tables.ensures.some c.write_tables.ensures.few c.requires.end (omega (arith, c.write_tables.ensures.len, c.requires.room)) c.requires.emittable c.write_tables.ensures.numbered held addr lt

pub returns-clause-paths : goal.returns-clause-paths
returns-clause-paths c = λ m a b level other page held la lb ra rb. paths_held m c.args.at c.write_tables.result (ept_pages (ranges_of c.args.windows.now)) c.write_tables.new.out c.args.windows.now c.requires.at c.write_tables.ensures.some c.write_tables.ensures.few c.requires.end (omega (arith, c.write_tables.ensures.len, c.requires.room)) c.requires.emittable c.write_tables.ensures.numbered held a b level other page la lb ra rb

pub returns-clause-leaves : goal.returns-clause-leaves
returns-clause-leaves c = λ m addr held lt. size_held m c.args.at c.write_tables.result (ept_pages (ranges_of c.args.windows.now)) c.write_tables.new.out c.args.windows.now c.requires.at c.write_tables.ensures.some c.write_tables.ensures.few c.requires.end (omega (arith, c.write_tables.ensures.len, c.requires.room)) c.requires.emittable c.write_tables.ensures.numbered held addr (window_at c.args.windows.now addr) refl lt c.requires.apart

pub returns-clause-types : goal.returns-clause-types
returns-clause-types c = λ m addr held lt. type_held m c.args.at c.write_tables.result (ept_pages (ranges_of c.args.windows.now)) c.write_tables.new.out c.args.windows.now c.requires.at c.write_tables.ensures.some c.write_tables.ensures.few c.requires.end (omega (arith, c.write_tables.ensures.len, c.requires.room)) c.requires.emittable c.write_tables.ensures.numbered held addr (window_at c.args.windows.now addr) refl lt

pub returns-clause-ascending : goal.returns-clause-ascending
returns-clause-ascending c = λ m addr level page lower lower_page held lt r q less. ascending_held m c.args.at c.write_tables.result (ept_pages (ranges_of c.args.windows.now)) c.write_tables.new.out c.args.windows.now c.requires.at c.write_tables.ensures.some c.write_tables.ensures.few c.requires.end (omega (arith, c.write_tables.ensures.len, c.requires.room)) c.requires.emittable c.write_tables.ensures.numbered held addr level page lower lower_page lt r q less

pub returns-clause-order : goal.returns-clause-order
returns-clause-order c = λ m addr level page k held lt r low high. order_held m c.args.at c.write_tables.result (ept_pages (ranges_of c.args.windows.now)) c.write_tables.new.out c.args.windows.now c.requires.at c.write_tables.ensures.some c.write_tables.ensures.few c.requires.end (omega (arith, c.write_tables.ensures.len, c.requires.room)) c.requires.emittable c.write_tables.ensures.numbered held addr level page k lt r low high

pub returns-clause-rest : goal.returns-clause-rest
returns-clause-rest c = λ m k held lt. rest_held m c.args.at c.write_tables.result (ept_pages (ranges_of c.args.windows.now)) c.write_tables.new.out c.args.windows.now c.requires.at c.write_tables.ensures.some c.write_tables.ensures.few c.requires.end (omega (arith, c.write_tables.ensures.len, c.requires.room)) c.requires.emittable c.write_tables.ensures.numbered held k lt c.write_tables.ensures.rest

pub returns-clause-written : goal.returns-clause-written
returns-clause-written c =
    record {
      len = omega (arith, c.write_tables.ensures.len, c.requires.room);
      used = c.write_tables.result;
      some = c.write_tables.ensures.some;
      few = c.write_tables.ensures.few;
      numbered = c.write_tables.ensures.numbered;
      rest = c.write_tables.ensures.rest;
    }
