-- The file of a policy's tables isn't too long for a read.
use Rattle.std.proofs.Common.{sym, subst, ℕ, ◌+◌, ◌*◌, ◌≤◌, List, length, replicate, arith}
use Rattle.std.specs.Int.{w32, w64}
use Rattle.std.proofs.lemmas.Bool.{leb-true}
use Rattle.std.proofs.lemmas.List.{length-append, length-replicate}
use Rattle.muen_num.specs.declared.limits.TheConstants.{MOST_DEVICES, PAGE}
use Rattle.image_pack.specs.fault.Field.{Field}
use Rattle.image_pack.specs.Form.{Form, tag, field, gap, fixed_bytes}
use Rattle.image_pack.proofs.Leaves.{wide32, wide64}
use Rattle.image_pack.proofs.Sizes.{IsSized, byte_sized, condition, done_sized, items_sized, number_sized, only_sized, rows}
use Rattle.dma_tables.proofs.ConditionsHold.{conditions_kept}
use Rattle.dma_tables.proofs.FileSizes.{device_sized, marked_size}
use Rattle.dma_tables.specs.DmaFile.{after_dma_device, device, dma_file, dma_mark_bytes}
use Rattle.dma_tables.specs.Tables.{dma_device_size}
use Rattle.dma_tables.specs.declared.file.DmaFile.{DmaFile}
use Rattle.policy_lawful.specs.source.Source.{Source}
use Rattle.muen_top.specs.Tables.{IsTablesFor}
use Rattle.muen_top.specs.declared.limits.TheConstants.{DMA_MOST}

-- ---- how long a spelling is, by what is spelled

abbrev IsShort : {S : Type 0} → (S → ℕ) → Form S → Type 0
IsShort size f = (s : _) → f.fits s → length (f.spell s) ≤ size s

tag_short : {S : Type 0} (size : S → ℕ) (wanted : List ℕ) (title : Field) (more : Form S) → IsShort size more → IsShort (λ s. length wanted + size s) (tag wanted title more)
unfolding tag
tag_short size wanted _ more h s fits = let behind = h s fits in let sum = length-append wanted (more.spell s) in omega (arith, sum, behind)

field_short : {S A : Type 0} (here size : S → ℕ) (get : S → A) (f : Form A) (more : A → Form S) → ((s : S) → f.fits (get s) → length (f.spell (get s)) ≤ here s) → ((x : A) → f.fits x → IsShort size (more x))
    → IsShort (λ s. here s + size s) (field get f more)
unfolding field
field_short here size get f more first rest s fits =
    let front = first s fits.0 in
    let behind = rest (get s) fits.0 s fits.1 in
    let sum = length-append (f.spell (get s)) ((more (get s)).spell s) in
    omega (arith, sum, front, behind)

gap_short : {S : Type 0} (n : ℕ) (size : S → ℕ) (title : Field) (more : Form S) → IsShort size more → IsShort (λ s. n + size s) (gap n title more)
unfolding gap
gap_short n size _ more h s fits =
    let behind = h s fits in
    let sum = length-append (replicate n 0) (more.spell s) in
    let many = length-replicate {A = ℕ} n 0 in
    omega (arith, sum, many, behind)

-- one of a fixed size
fixed_short : {S A : Type 0} (n : ℕ) (size : S → ℕ) (get : S → A) (f : Form A) (more : A → Form S) → IsSized n f → ((x : A) → f.fits x → IsShort size (more x)) → IsShort (λ s. n + size s) (field get f more)
fixed_short n size get f more sized rest = field_short (λ s. n) size get f more (λ s fits. sized.few (get s) fits) rest

-- ---- the file

pages_short : (n : ℕ) (t : DmaFile) → (fixed_bytes n).fits t.pages → length ((fixed_bytes n).spell t.pages) ≤ length t.pages
unfolding fixed_bytes
pages_short n t fits = omega arith

file_short : IsShort (λ t. length dma_mark_bytes + (8 + (4 + (1 + (3 + (2176 + (length t.pages + 0))))))) dma_file
unfolding dma_file
file_short =
    tag_short _ _ _ _ (
    fixed_short 8 _ _ _ _ (only_sized 8 _ _ _ (number_sized w64 wide64)) (λ base a.
    fixed_short 4 _ _ _ _ (only_sized 4 _ _ _ (number_sized w32 wide32)) (λ pages b.
    fixed_short 1 _ _ _ _ (only_sized 1 _ _ _ byte_sized) (λ count c.
    gap_short 3 _ _ _ (
    fixed_short 2176 _ _ _ _
    (rows count MOST_DEVICES dma_device_size _ (leb-true count MOST_DEVICES (condition _ _ _ count c)) (items_sized (after_dma_device tt) (device tt) _ count dma_device_size (device_sized tt))) (λ devices d.
    field_short (λ t. length t.pages) (λ t. 0) _ _ _ (pages_short (PAGE * pages)) (λ bytes e.
    (done_sized _).few)))))))

pub tables_small : (p : Source) (file : List ℕ) → IsTablesFor p file → length file ≤ DMA_MOST
tables_small p file is =
    let keeps = conditions_kept is.tables is.file.tables in
    let many = keeps.many in
    let few = is.are.few in
    let size : length (dma_file.spell is.tables) ≤ length dma_mark_bytes + (8 + (4 + (1 + (3 + (2176 + (length is.tables.pages + 0)))))) = file_short is.tables is.file.tables in
    let mark = marked_size in
    let bound : length (dma_file.spell is.tables) ≤ DMA_MOST = omega (arith, many, few, size, mark) in
    subst (λ (b : List ℕ). length b ≤ DMA_MOST) (sym is.file.bytes_are) bound
