use Rattle.std.proofs.Common.{◌≤◌, ℕ, List, length, ap, sym, subst}
use Rattle.guest_isa.specs.GuestIsa.{Row}
use Rattle.guest_isa.proofs.Rows.{word_short}
use Rattle.guest_isa.proofs.opcode.Opcode.word.Goals as goal

pub returns-clause-short : goal.returns-clause-short
returns-clause-short c =
    subst (λ (w : List ℕ). length w ≤ 6) (sym (ap (λ (r : Row). r.word) c.row.ensures)) (word_short c.args.self)
