-- A small system, and an image of it (this project's own): one subject, with a page of zeros that it may read and execute.
use Rattle.std.specs.Prelude.{ℕ, ◌+◌, ◌-◌, ◌*◌, List, [], ◌∷◌, ◌++◌, None, codes, replicate}
use Rattle.image_pack.specs.Parts.{counted_image}
use Rattle.image_pack.specs.declared.parts.Image.{Image}
use Rattle.image_pack.specs.declared.parts.SpanKind.{SpanKind}
use Rattle.image_pack.specs.declared.parts.SpanKind.TheVariants.{Own, Kernel}
use Rattle.image_pack.specs.declared.parts.SpanPart.{SpanPart}
use Rattle.image_pack.specs.declared.parts.SubjectPart.{SubjectPart}
use Rattle.frame_clock.specs.declared.plan.Plan.{Plan}
use Rattle.machine_layout.specs.Memory.{le_bytes}
use Rattle.muen_num.specs.declared.limits.TheConstants.{MOST_CALLS, PAGE}
use Rattle.muen_num.specs.declared.tag.TagPart.{TagPart}
use Rattle.muen_num.specs.declared.tag.TagPart.TheVariants.{Whole, State, Ept, Iobm, Msrbm, Msrs}
use Rattle.policy_lawful.specs.rights.Caching.TheVariants.{Wb}
use Rattle.policy_lawful.specs.rights.Rights.TheVariants.{Rx}
use Rattle.policy_lawful.specs.source.Content.TheVariants.{Zero}
use Rattle.policy_lawful.specs.source.Source.{Source}
use Rattle.policy_lawful.specs.source.Subject.{Subject}
use Rattle.state_page.specs.StatePage.{page_bytes}
use Rattle.state_page.specs.States.{started}

-- ---- the policy

abbrev pub one : Subject
one = record {
  name = codes "one";
  cpu = 0;
  entry = 0;
  component = None;
  memory = record { region = codes "code"; virtual_address = 0; rights = Rx } ∷ [];
  channels = [];
  devices = [];
  msrs = [];
  sources = [];
  targets = [];
  monitors = [];
}

abbrev pub small_policy : Source
small_policy = record {
  processor = record { logical_cpus = 1 };
  memory_blocks = record { name = codes "ram"; physical_address = 1048576; size = 1048576 } ∷ [];
  devices = [];
  memory = record { name = codes "code"; size = 4096; caching = Wb; alignment = 4096; physical_address = None; content = Zero; shared_memory = [] } ∷ [];
  channels = [];
  components = [];
  events = [];
  subjects = one ∷ [];
  scheduling = record {
    groups = record { name = codes "all"; cpu = 0; subjects = codes "one" ∷ [] } ∷ [];
    major_frames = record { cpus = record { cpu = 0; minor_frames = record { group = codes "all"; ticks = 1 } ∷ [] } ∷ [] } ∷ [];
    tau0 = None;
  };
  device_domains = [];
}

-- ---- what stands in memory

-- so many bytes that are all this one
unfoldable pub repeated : ℕ → ℕ → List ℕ
repeated count byte = replicate count byte

abbrev pub zero_page : List ℕ
zero_page = repeated PAGE 0

abbrev pub ones_page : List ℕ
ones_page = repeated PAGE 255

-- the two bitmaps of ports
unfoldable pub port_pages : List ℕ
port_pages = ones_page ++ ones_page

-- a table whose first entry is this one, and no other is present
unfoldable pub table_page : ℕ → List ℕ
table_page e = le_bytes 8 e ++ repeated (PAGE - 8) 0

-- the entry that references the table in this page, with all rights
abbrev pub table_entry : ℕ → ℕ
table_entry page = 4096 * page + 7

-- the entry that maps the page of the region: it may be read and executed, and is write-back
abbrev pub leaf_entry : ℕ
leaf_entry = 4096 * 256 + 6 * 8 + 5

-- the tables of the four levels, the PML4 table first
unfoldable pub small_tables : List ℕ
small_tables = table_page (table_entry 259) ++ (table_page (table_entry 260) ++ (table_page (table_entry 261) ++ table_page leaf_entry))

-- ---- the image

-- so many pages from this one on
abbrev pub small_span : ℕ → ℕ → ℕ → SpanKind → List ℕ → TagPart → SpanPart
small_span page pages number kind owner part =
    record { address = PAGE * page; pages = pages; number = number; kind = kind; tag = record { owner = owner; part = part } }

abbrev pub small_spans : List SpanPart
small_spans =
    small_span 256 1 0 Own (codes "code") Whole
    ∷ small_span 257 1 1 Kernel (codes "one") State
    ∷ small_span 258 4 2 Kernel (codes "one") Ept
    ∷ small_span 262 2 3 Kernel (codes "one") Iobm
    ∷ small_span 264 1 4 Kernel (codes "one") Msrbm
    ∷ small_span 265 1 5 Kernel (codes "one") Msrs ∷ []

abbrev pub small_part : SubjectPart
small_part = record {
  cpu = 0;
  group = 0;
  msrs = 0;
  state = 1;
  iobm = 3;
  msrbm = 4;
  area = 5;
  eptp = 4096 * 258 + 30;
  name = codes "one";
  calls = replicate MOST_CALLS None;
  traps = replicate MOST_CALLS None;
}

abbrev pub small_plan : Plan
small_plan = record {
  groups = record { cpu = 0; first = 0 } ∷ [];
  majors = record { ticks = 1; cpus = (record { group = 0; ticks = 1 } ∷ []) ∷ [] } ∷ [];
}

abbrev pub small_image : Image
small_image =
    counted_image 1 None small_spans (small_part ∷ []) small_plan []
    (zero_page ∷ page_bytes (started 0) ∷ small_tables ∷ port_pages ∷ ones_page ∷ zero_page ∷ [])
