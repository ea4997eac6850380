use Rattle.std.proofs.Common.{ℕ, ◌+◌, ◌-◌, ◌/◌, ◌^◌, ◌<◌, sym, subst}
use Rattle.std.proofs.lemmas.Nat.{mod_below, pow_pos}
use Rattle.machine_layout.proofs.BitFieldLaws.{masked}
use Rattle.machine_layout.proofs.bit_fields.bits.Goals as goal

pub returns : goal.returns
returns c =
    let is = masked c.args.word c.args.low c.args.high c.requires.order c.requires.high in
    let below = mod_below (c.args.word / 2 ^ c.args.low) (2 ^ (c.args.high + 1 - c.args.low)) (pow_pos (c.args.high + 1 - c.args.low)) in
    record { value = is; small = subst (λ (x : ℕ). x < 2 ^ (c.args.high + 1 - c.args.low)) (sym is) below }
