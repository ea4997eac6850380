-- What the reader of a line answers.
use Rattle.std.specs.Prelude.{◌≡◌, Result, Ok, Err}
use Rattle.text_words.specs.declared.number.NumberError.{NumberError}
use Rattle.text_words.specs.declared.number.NumberError.TheVariants.{NoNumber, TooLarge}
use Rattle.record_text.specs.Resolving.{resolved_input}
use Rattle.text_words.specs.Steps.{mapped}
use Rattle.record_text.specs.Table.{Entry, input_entry, order_entry, end_entry}
use Rattle.record_text.specs.declared.devices.Devices.{Devices}
use Rattle.record_text.specs.declared.fault.LineWant.{LineWant}
use Rattle.record_text.specs.declared.fault.LineWant.TheVariants.{Number, Range}
use Rattle.record_text.specs.declared.line.RecordLine.{RecordLine}
use Rattle.record_text.specs.declared.line.Says.TheVariants.{Input, Order, End}
use Rattle.record_text.specs.declared.number.LineError.{LineError}
use Rattle.record_text.specs.declared.number.LineError.TheVariants.{Want, NoMemory}

-- what a word should have been that spells no such number
abbrev pub number_error : NumberError → LineError
number_error NoNumber = Want Number
number_error TooLarge = Want Range

-- what is read, or the error by its first fault
abbrev pub with_line_error : {X : Type 0} → Result X LineWant → Result X LineError
with_line_error (Ok x) = Ok x
with_line_error (Err want) = Err (Want want)

-- it is what is wanted, unless memory was refused
abbrev pub Gives : {X : Type 0} → Result X LineWant → Result X LineError → Type 0
Gives wanted (Ok x) = wanted ≡ Ok x
Gives wanted (Err (Want want)) = wanted ≡ Err want
Gives wanted (Err NoMemory) = Unit {0}

-- what a line says, with each name found or not
abbrev pub line_of : Devices → Entry → RecordLine
line_of devices (input_entry tick input) = record { tick = tick; says = Input (resolved_input devices input) }
line_of devices (order_entry tick cpus) = record { tick = tick; says = Order cpus }
line_of devices (end_entry tick) = record { tick = tick; says = End }

-- a line of these devices, as it is read
abbrev pub said : Devices → Result Entry LineWant → Result RecordLine LineWant
said devices r = mapped (line_of devices) r
