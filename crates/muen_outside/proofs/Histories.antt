-- Histories with calls that were made and none.
use Rattle.std.proofs.Common.{◌≡◌, List, [], ◌++◌, sym, ap, ◌∙◌, append-nil}
use Rattle.muen_outside.specs.States.{History, Look, looked, went}

pub no_look : (h : History) → h ≡ looked h []
no_look h = ap (λ looks. record { looks = looks; writes = h.writes }) (sym (append-nil h.looks))

-- after looks alone nothing was written
pub looked_alone : (old new : History) (looks : List Look) → new ≡ looked old looks → new ≡ went old looks []
looked_alone old new looks is = is ∙ ap (λ ws. record { looks = old.looks ++ looks; writes = ws }) (sym (append-nil old.writes))
