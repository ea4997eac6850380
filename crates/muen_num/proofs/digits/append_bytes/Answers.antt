use Rattle.std.proofs.Common.{◌++◌, ap, sym, ◌∙◌, take, append-nil, arith}
use Rattle.muen_num.proofs.HexPairs.{encode_none, one_more}
use Rattle.muen_num.proofs.digits.append_bytes.Goals as goal

pub loop-byte-init : goal.loop-byte-init
loop-byte-init c =
    (omega arith, sym (ap (λ x. take c.args.at c.args.out.now ++ x) encode_none ∙ append-nil (take c.args.at c.args.out.now)))

pub loop-byte-preserved : goal.loop-byte-preserved
loop-byte-preserved c =
    (omega arith, one_more (take c.args.at c.args.out.now) _ _ c.args.bytes.now c.loop-byte.byte-index (omega arith) c.loop-byte.invariant.1 c.append_byte-end.ensures.text)
