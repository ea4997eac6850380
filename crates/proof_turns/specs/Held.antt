-- What a subject has for itself in a machine, wherever it is kept: on its CPU, or on its pages.
use Rattle.std.specs.Prelude.{◌≡◌, ℕ, ◌==◌, ◌<◌, Bool, true, false, if◌then◌else◌, List, [], ◌∷◌, length, Option, Some, None, option_map, slice_get, unwrap_or}
use Rattle.std.specs.List.{All}
use Rattle.guest_isa.specs.Words.{IsWord}
use Rattle.subject_model.specs.Alone.{MsrValues, Things, msr_value, thing_in}
use Rattle.muen_num.specs.Numbers.{is_among}
use Rattle.subject_model.specs.System.{Named, named}
use Rattle.kernel_core.specs.Vectors.{has}
use Rattle.subject_model.specs.Resources.{is_granted, msrs_of}
use Rattle.image_pack.specs.declared.parts.SubjectPart.{SubjectPart}
use Rattle.kernel_core.specs.Kernel.{Live}
use Rattle.machine_layout.specs.Exits.{AreaEntry}
use Rattle.machine_layout.specs.Memory.{page_of}
use Rattle.policy_lawful.specs.Thing.{state}
use Rattle.policy_lawful.specs.source.Subject.{Subject}
use Rattle.subject_model.specs.StatePage.{page_bytes}
use Rattle.vmx_machine.specs.Machine.{entries_in}
use Rattle.vmx_machine.specs.MsrFile.{most, value_in}
use Rattle.vmx_machine.specs.declared.control.Control.{Control}
use Rattle.vmx_machine.specs.declared.cpu.Cpu.{Cpu}

-- a state page, and values of MSRs by their indices
pub record Held : Type 0 where
  pub page : Option (List ℕ)
  pub msr : ℕ → Option ℕ

-- the value of the first entry with this index
abbrev pub entry_value : List AreaEntry → ℕ → Option ℕ
entry_value [] index = None
entry_value (e ∷ es) index = if e.index == index then Some e.value else entry_value es index

-- of who is on a CPU: the page is that of the CPU's state, and the values are those of its MSR file
abbrev pub on_cpu : Cpu → Held
on_cpu u = record { page = option_map (λ e. page_bytes e.state) u.entered; msr = value_in u.file }

-- of any other: its state page, and the entries of its MSR area
abbrev pub on_pages : ℕ → Option (List ℕ) → Option (List ℕ) → Held
on_pages msrs page area = record { page = page; msr = entry_value (entries_in msrs (unwrap_or area [])) }

abbrev pub is_subject_entered : ℕ → Option ℕ → Bool
is_subject_entered s None = false
is_subject_entered s (Some t) = t == s

-- by the two pages, by who is on the CPU, and by the CPU
abbrev pub held_by : ℕ → ℕ → Option (List ℕ) → Option (List ℕ) → Option (Option ℕ) → Option Cpu → Held
held_by s msrs page area (Some on) (Some u) = if is_subject_entered s on then on_cpu u else on_pages msrs page area
held_by s msrs page area (Some on) None = on_pages msrs page area
held_by s msrs page area None u = on_pages msrs page area

abbrev pub held : Live → ℕ → SubjectPart → Control → Held
held k s q c =
    held_by s c.msrs (page_of k.machine.pages c.state) (page_of k.machine.pages c.msr_area) (slice_get k.on q.cpu) (slice_get k.machine.cpus q.cpu)

-- ---- an area of MSRs

abbrev pub indices : List AreaEntry → List ℕ
indices [] = []
indices (e ∷ es) = e.index ∷ indices es

abbrev pub AreDistinctIndices : List ℕ → Type 0
AreDistinctIndices [] = Unit {0}
AreDistinctIndices (i ∷ is) = (is_among is i ≡ false) × AreDistinctIndices is

-- an MSR is granted to a subject, for reads or for writes
abbrev pub HasMsr : Subject → ℕ → Type 0
HasMsr n index = (write : Bool) × (is_granted (msrs_of n) index write ≡ true)

-- the entries have each index once, and each MSR that is granted
pub record AreEntries (n : Subject) (entries : List AreaEntry) : Type 0 where
  pub distinct : AreDistinctIndices (indices entries)
  pub covers : (index : ℕ) → HasMsr n index → is_among (indices entries) index ≡ true

-- ---- sets of vectors: marks that hold the same vectors as a list

pub record IsSameSet (marks : List Bool) (vectors : List ℕ) : Type 0 where
  pub length : length marks ≡ 256
  pub same : (v : ℕ) → v < 256 → has marks v ≡ is_among vectors v

abbrev pub SameSet : Option (List Bool) → Option (List ℕ) → Type 0
SameSet (Some marks) (Some vectors) = IsSameSet marks vectors
SameSet None None = ⊥
SameSet (Some marks) None = ⊥
SameSet None (Some vectors) = ⊥

-- ---- values that fit

pub record FitsFile (file : List ℕ) : Type 0 where
  pub length : length file ≡ most
  pub words : All IsWord file

-- ---- what the system has of a subject

pub record MsrsAre (n : Subject) (msrs : Named MsrValues) (msr : ℕ → Option ℕ) : Type 0 where
  pub values : MsrValues
  pub at : named msrs n.name ≡ Some values
  pub same : (index : ℕ) → HasMsr n index → msr index ≡ msr_value values index

-- it is what the machine has of it
pub record IsOwn (n : Subject) (things : Things) (msrs : Named MsrValues) (h : Held) : Type 0 where
  pub page : thing_in things (state n.name) ≡ h.page
  pub values : MsrsAre n msrs h.msr
