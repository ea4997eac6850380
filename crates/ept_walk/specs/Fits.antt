-- Which memories a walk fits that keeps nothing.
use Rattle.std.specs.Prelude.{List}
use Rattle.machine_layout.specs.Memory.{Page}
use Rattle.ept_walk.specs.declared.plain.PlainWalk.{PlainWalk}

-- every one
abbrev pub FitsEvery : PlainWalk → List Page → Type 0
FitsEvery w m = Unit {0}
