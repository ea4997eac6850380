-- A byte comes somewhere exactly where it goes somewhere, and to the same place.
use Rattle.std.proofs.Common.{◌≡◌, ◌∙◌, refl, ap, ℕ, ◌+◌, ◌*◌, ◌%◌, Bool, true, false, List, Option, Some, None, Result, Ok, Err, if◌then◌else◌}
use Rattle.std.specs.Prelude.{nat_lt, ok_or, option_and_then, option_map}
use Rattle.std.specs.List.{find, slice_get}
use Rattle.std.specs.Result.{result_ok}
use Rattle.std.specs.Str.{bytes_eq}
use Rattle.muen_num.specs.declared.limits.TheConstants.{GUEST_END, PAGE}
use Rattle.machine_layout.specs.Walks.{index_at}
use Rattle.text_words.specs.Steps.{◌>>=◌}
use Rattle.image_pack.specs.declared.parts.DevicePart.{DevicePart}
use Rattle.image_pack.specs.declared.parts.Image.{Image}
use Rattle.image_pack.specs.declared.parts.SpanPart.{SpanPart}
use Rattle.dma_tables.specs.DmaWalk.{context_table, device_page, device_walk, dma_walk, highest_table, next_page, paged, root_page, word_of}
use Rattle.dma_tables.specs.Lowered.{goes, in_spans, landing}
use Rattle.dma_tables.specs.declared.file.DmaDevice.{DmaDevice}
use Rattle.dma_tables.specs.declared.file.DmaFile.{DmaFile}
use Rattle.dma_lines.specs.Losses.{comes, device_steps, highest_step, name_steps, page_steps, pair_loss, paging_step, word_loss}
use Rattle.dma_lines.specs.declared.loss.Loss.{Loss}
use Rattle.dma_lines.specs.declared.loss.Loss.TheVariants.{NoTables, NoDevice, TooHigh, Outside}

-- ---- steps

step_ok : {A : Type 0} (o : Option A) (e : Loss) → result_ok (ok_or o e) ≡ o
step_ok None e = refl
step_ok (Some x) e = refl

-- one step, and what comes after it
then_ok : {A B : Type 0} (f : A → Result B Loss) (g : A → Option B) → ((x : A) → result_ok (f x) ≡ g x) → (o : Option A) (e : Loss) → result_ok (ok_or o e >>= f) ≡ option_and_then g o
then_ok f g h None e = refl
then_ok f g h (Some x) e = h x

-- the same of what is itself of steps
after_ok : {A B : Type 0} (f : A → Result B Loss) (g : A → Option B) → ((x : A) → result_ok (f x) ≡ g x) → (r : Result A Loss) → result_ok (r >>= f) ≡ option_and_then g (result_ok r)
after_ok f g h (Ok x) = h x
after_ok f g h (Err e) = refl

in_turn : {A B C : Type 0} (f : A → Option B) (g : B → Option C) (o : Option A) → option_and_then (λ x. option_and_then g (f x)) o ≡ option_and_then g (option_and_then f o)
in_turn f g None = refl
in_turn f g (Some x) = refl

mapped_ok : {A B : Type 0} (f : A → B) (r : Result A Loss) → result_ok (r >>= (λ x. Ok (f x))) ≡ option_map f (result_ok r)
mapped_ok f (Ok x) = refl
mapped_ok f (Err e) = refl

-- ---- the walk

module _ (word : ℕ → ℕ → Option ℕ) (addr : ℕ) where
  abbrev next : ℕ → ℕ → Option ℕ
  next level table = next_page word addr true level table

  abbrev step : ℕ → ℕ → Result ℕ Loss
  step level table = paging_step word addr level table

  abbrev why : ℕ → ℕ → Loss
  why level table = word_loss (word table (index_at level addr))

  last_ok : (first : ℕ) → result_ok (step 0 first) ≡ next 0 first
  last_ok first = step_ok (next 0 first) (why 0 first)

  first_ok : (second : ℕ) → result_ok (step 1 second >>= (λ first. step 0 first)) ≡ option_and_then (next 0) (next 1 second)
  first_ok second = then_ok (step 0) (next 0) last_ok (next 1 second) (why 1 second)

  second_ok : (third : ℕ) → result_ok (step 2 third >>= (λ second. step 1 second >>= (λ first. step 0 first))) ≡ option_and_then (next 0) (option_and_then (next 1) (next 2 third))
  second_ok third =
      then_ok (λ second. step 1 second >>= (λ first. step 0 first)) (λ second. option_and_then (next 0) (next 1 second)) first_ok (next 2 third) (why 2 third)
      ∙ in_turn (next 1) (next 0) (next 2 third)

  third_ok : (highest : ℕ)
      → result_ok (step 3 highest >>= (λ third. step 2 third >>= (λ second. step 1 second >>= (λ first. step 0 first)))) ≡ paged word addr true highest
  third_ok highest =
      then_ok (λ third. step 2 third >>= (λ second. step 1 second >>= (λ first. step 0 first))) (λ third. option_and_then (next 0) (option_and_then (next 1) (next 2 third))) second_ok (next 3 highest) (why 3 highest)
      ∙ in_turn (λ third. option_and_then (next 1) (next 2 third)) (next 0) (next 3 highest)
      ∙ ap (option_and_then (next 0)) (in_turn (next 2) (next 1) (next 3 highest))

  abbrev deeper : ℕ → Result ℕ Loss
  deeper highest = step 3 highest >>= (λ third. step 2 third >>= (λ second. step 1 second >>= (λ first. step 0 first)))

  pub page_ok : (root : ℕ) (d : DmaDevice) → result_ok (page_steps word root d addr) ≡ device_page word root d addr true
  unfolding page_steps
  page_ok root d =
      then_ok (λ context. highest_step word d.devfn context >>= deeper) (λ context. option_and_then (paged word addr true) (highest_table word context d.devfn))
      (λ context. then_ok deeper (paged word addr true) third_ok (highest_table word context d.devfn) (pair_loss (word context (2 * d.devfn)) (word context (2 * d.devfn + 1))))
      (context_table word root d.bus) (pair_loss (word root (2 * d.bus)) (word root (2 * d.bus + 1)))
      ∙ in_turn (λ context. highest_table word context d.devfn) (paged word addr true) (context_table word root d.bus)

-- ---- the whole way

low_ok : (b : Bool) (addr : ℕ) (r : ℕ → Result ℕ Loss) → result_ok ((if b then Ok addr else Err TooHigh) >>= r) ≡ (if b then result_ok (r addr) else None)
low_ok true addr r = refl
low_ok false addr r = refl

device_ok : (t : DmaFile) (d : DmaDevice) (addr : ℕ) → result_ok (device_steps t d addr) ≡ device_walk t d addr true
unfolding device_steps device_walk
device_ok t d addr =
    low_ok (nat_lt addr GUEST_END) addr (λ low. page_steps (word_of t) (root_page t) d low >>= (λ page. Ok (PAGE * page + addr % PAGE)))
    ∙ ap (λ o. if nat_lt addr GUEST_END then o else None)
    (mapped_ok (λ page. PAGE * page + addr % PAGE) (page_steps (word_of t) (root_page t) d addr) ∙ ap (option_map (λ page. PAGE * page + addr % PAGE)) (page_ok (word_of t) addr (root_page t) d))

landed : (t : DmaFile) (spans : List SpanPart) (name : List ℕ) (addr : ℕ) → result_ok (name_steps t spans name addr) ≡ landing t spans name addr
unfolding name_steps dma_walk
landed t spans name addr =
    then_ok (λ d. device_steps t d addr >>= (λ place. ok_or (in_spans spans place) Outside)) (λ d. option_and_then (in_spans spans) (device_walk t d addr true))
    (λ d.
    after_ok (λ place. ok_or (in_spans spans place) Outside) (in_spans spans) (λ place. step_ok (in_spans spans place) Outside) (device_steps t d addr)
    ∙ ap (option_and_then (in_spans spans)) (device_ok t d addr))
    (find (λ d. bytes_eq d.name name) t.devices) NoDevice
    ∙ in_turn (λ d. device_walk t d addr true) (in_spans spans) (find (λ d. bytes_eq d.name name) t.devices)

pub comes_goes : (tables : Option DmaFile) (i : Image) (device addr : ℕ) → result_ok (comes tables i device addr) ≡ goes tables i device addr
unfolding comes goes
comes_goes tables i device addr =
    then_ok (λ t. ok_or (slice_get i.devices device) NoDevice >>= (λ (d : DevicePart). name_steps t i.spans d.name addr))
    (λ t. option_and_then (λ (d : DevicePart). landing t i.spans d.name addr) (slice_get i.devices device))
    (λ t.
    then_ok (λ (d : DevicePart). name_steps t i.spans d.name addr) (λ (d : DevicePart). landing t i.spans d.name addr) (λ d. landed t i.spans d.name addr)
    (slice_get i.devices device) NoDevice)
    tables NoTables
