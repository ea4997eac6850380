-- Texts in pieces.
use Rattle.std.specs.Prelude.{ℕ, List, ◌++◌}
use Rattle.muen_num.specs.declared.pieces.Pieces.{Pieces}

-- the pieces one after another
abbrev pub whole : Pieces → List ℕ
whole p = p.0.now ++ (p.1.now ++ (p.2.now ++ (p.3.now ++ (p.4.now ++ (p.5.now ++ (p.6.now ++ p.7.now))))))
