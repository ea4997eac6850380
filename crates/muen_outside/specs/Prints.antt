-- What a put does to a sink and the buffer before it, which travel as one.
use Rattle.std.specs.Prelude.{◌≡◌, ℕ, List, Result}
use Rattle.muen_outside.specs.States.{SinkState}
use Rattle.muen_outside.specs.Buffered.{Flushed, Given, Gives, OutState, behind}
use Rattle.muen_outside.specs.declared.buffered_sink.BufferedSink.{BufferedSink}

-- the sink's state and the bytes that wait for it
abbrev pub out_state : {S : Type 0} → (S → SinkState) → BufferedSink S → OutState
out_state state b = behind (state b.sink.now) b.buffer.now

-- both are still the ones that were lent
abbrev pub AreSame : {S : Type 0} → BufferedSink S → BufferedSink S → Type 0
AreSame old new = (new.sink.ghost_name ≡ old.sink.ghost_name) × (new.buffer.ghost_name ≡ old.buffer.ghost_name)

-- the bytes were put behind those that waited
abbrev pub Printed : {S : Type 0} → (S → SinkState) → List ℕ → BufferedSink S → BufferedSink S → Type 0
Printed state bytes old new = AreSame old new × Given bytes (out_state state old) (out_state state new)

-- the bytes were put behind those that waited, or the sink has failed
abbrev pub Prints : {S E : Type 0} → (S → SinkState) → List ℕ → BufferedSink S → BufferedSink S → Result (Unit {0}) E → Type 0
Prints state bytes old new result = AreSame old new × Gives bytes (out_state state old) (out_state state new) result

-- all that waited was put, or the sink has failed
abbrev pub Empties : {S E : Type 0} → (S → SinkState) → BufferedSink S → BufferedSink S → Result (Unit {0}) E → Type 0
Empties state old new result = AreSame old new × Flushed (out_state state old) (out_state state new) result
