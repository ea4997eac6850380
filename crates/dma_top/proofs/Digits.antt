-- What holds where digits were written.
use Rattle.std.proofs.Common.{Result, Ok, Err, IsOk, OnOk}

-- what a call promises where it succeeds, where it has
pub on_ok : {T E P : Type 0} (r : Result T E) → IsOk r → OnOk r P → P
on_ok (Ok x) is h = h
on_ok (Err e) is h = absurd (cc)
