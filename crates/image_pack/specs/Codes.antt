-- Codes of an image: which bytes stand for what (this project's own format).
use Rattle.std.specs.Prelude.{ℕ, ◌==◌, ◌&&◌, ◌||◌, not, Bool, true, false, nat_lt, nat_le, List, [], ◌∷◌, codes, Option, Some, None, if◌then◌else◌}
use Rattle.std.specs.Str.{bytes_eq}
use Rattle.muen_num.specs.declared.limits.TheConstants.{FIRST_VECTOR, LAST_VECTOR}
use Rattle.muen_num.specs.declared.mode.EventMode.{EventMode}
use Rattle.muen_num.specs.declared.mode.EventMode.TheVariants.{Asap, Async, Own as OwnMode, Switch}
use Rattle.muen_num.specs.declared.tag.TagPart.{TagPart}
use Rattle.muen_num.specs.declared.tag.TagPart.TheVariants.{Whole, Named, State, Ept, Iobm, Msrbm, Msrs}
use Rattle.image_pack.specs.declared.parts.SpanKind.{SpanKind}
use Rattle.image_pack.specs.declared.parts.SpanKind.TheVariants.{Own, Channel, Provided, Kernel, Device}
use Rattle.image_pack.specs.declared.parts.EventPart.{EventPart}
use Rattle.muen_num.specs.declared.devices.IrqTarget.{IrqTarget}

-- ---- the version: whether the span of tau0 is named

unfoldable pub mark_in : List ℕ → Option Bool
mark_in bytes =
    if bytes_eq bytes (codes "MUENIMG1") then Some false
    else (if bytes_eq bytes (codes "MUENIMG2") then Some true else None)

unfoldable pub mark_bytes : Bool → List ℕ
mark_bytes has = if has then codes "MUENIMG2" else codes "MUENIMG1"

-- ---- kinds of spans

unfoldable pub span_kind_of : ℕ → Option SpanKind
span_kind_of n =
    if n == 0 then Some Own
    else (if n == 1 then Some Channel
    else (if n == 2 then Some Provided
    else (if n == 3 then Some Kernel
    else (if n == 4 then Some Device else None))))

abbrev pub kind_code : SpanKind → ℕ
kind_code Own = 0
kind_code Channel = 1
kind_code Provided = 2
kind_code Kernel = 3
kind_code Device = 4

unfoldable pub kind_in : List ℕ → Option SpanKind
kind_in (n ∷ []) = span_kind_of n
kind_in bytes = None

abbrev pub kind_bytes : SpanKind → List ℕ
kind_bytes kind = kind_code kind ∷ []

abbrev pub is_device : SpanKind → Bool
is_device Device = true
is_device kind = false

abbrev pub is_own : SpanKind → Bool
is_own Own = true
is_own kind = false

-- ---- parts of an owner

abbrev pub part_code : TagPart → ℕ
part_code Whole = 0
part_code (Named name) = 1
part_code State = 2
part_code Ept = 3
part_code Iobm = 4
part_code Msrbm = 5
part_code Msrs = 6

abbrev pub part_name : TagPart → Option (List ℕ)
part_name (Named name) = Some name
part_name part = None

-- by its code, where it has no name
unfoldable pub plain_part : ℕ → TagPart
plain_part code =
    if code == 0 then Whole
    else (if code == 2 then State
    else (if code == 3 then Ept
    else (if code == 4 then Iobm
    else (if code == 5 then Msrbm else Msrs))))

abbrev pub part_of : ℕ → Option (List ℕ) → TagPart
part_of code (Some name) = Named name
part_of code None = plain_part code

-- which parts a span of a kind may be
abbrev pub is_part : SpanKind → ℕ → Bool
is_part Own code = code == 0
is_part Channel code = code == 0
is_part Provided code = code == 1
is_part Kernel code = nat_le 2 code && nat_le code 6
is_part Device code = code == 1

-- ---- events

unfoldable pub mode_of : ℕ → Option EventMode
mode_of n =
    if n == 1 then Some Asap
    else (if n == 2 then Some Async
    else (if n == 3 then Some OwnMode
    else (if n == 4 then Some Switch else None)))

abbrev pub mode_code : EventMode → ℕ
mode_code Asap = 1
mode_code Async = 2
mode_code OwnMode = 3
mode_code Switch = 4

abbrev pub is_switch : EventMode → Bool
is_switch Switch = true
is_switch mode = false

-- 0 stands for no vector
abbrev pub vector_of : ℕ → Option ℕ
vector_of n = if n == 0 then None else Some n

abbrev pub vector_code : Option ℕ → ℕ
vector_code None = 0
vector_code (Some v) = v

-- a vector that isn't kept for exceptions, up to the last one, or none where the target becomes active
abbrev pub is_vector : EventMode → ℕ → Bool
is_vector mode n = (nat_le FIRST_VECTOR n && nat_le n LAST_VECTOR) || (n == 0 && is_switch mode)

-- an event of this mode, with its target among so many subjects
unfoldable pub event_of : ℕ → ℕ → ℕ → EventMode → Option (Option EventPart)
event_of subjects target vector mode =
    if nat_lt target subjects && is_vector mode vector
    then Some (Some (record { mode = mode; target = target; vector = vector_of vector }))
    else None

abbrev pub if_mode : Option EventMode → (EventMode → Option (Option EventPart)) → Option (Option EventPart)
if_mode None event = None
if_mode (Some mode) event = event mode

-- four bytes: mode, target, vector and zero; all are zero where there is no event
unfoldable pub event_in : ℕ → List ℕ → Option (Option EventPart)
event_in subjects (m ∷ t ∷ v ∷ z ∷ []) =
    if not (z == 0) then None
    else (if m == 0
    then (if t == 0 && v == 0 then Some None else None)
    else if_mode (mode_of m) (event_of subjects t v))
event_in subjects bytes = None

abbrev pub event_bytes : Option EventPart → List ℕ
event_bytes None = 0 ∷ 0 ∷ 0 ∷ 0 ∷ []
event_bytes (Some e) = mode_code e.mode ∷ e.target ∷ vector_code e.vector ∷ 0 ∷ []

-- ---- whom an IRQ reaches

-- the number in place of a subject's that stands for nobody
abbrev pub nobody : ℕ
nobody = 255

abbrev pub target_of : ℕ → ℕ → Option IrqTarget
target_of subject vector = if subject == nobody then None else Some (record { subject = subject; vector = vector })

abbrev pub subject_code : Option IrqTarget → ℕ
subject_code None = nobody
subject_code (Some t) = t.subject

abbrev pub irq_vector_code : Option IrqTarget → ℕ
irq_vector_code None = 0
irq_vector_code (Some t) = t.vector

-- one of so many subjects with a vector that isn't kept for exceptions, or nobody without one
abbrev pub is_target_code : ℕ → ℕ → ℕ → Bool
is_target_code subjects subject vector =
    if subject == nobody then vector == 0 else nat_lt subject subjects && nat_le FIRST_VECTOR vector
