-- Lines of direct memory access: where tables fit, the machine writes what the system writes.
use Rattle.std.proofs.Common.{◌≡◌, ◌∙◌, ℕ, ◌+◌, ◌-◌, ◌*◌, ◌/◌, ◌%◌, ◌<◌, ◌≤◌, Bool, true, false, List, [], ◌∷◌, ◌++◌, length, map, take, drop, Option, Some, None, is_some, unwrap_or, refl, sym, ap, ap₂, subst, arith, inl, inr, le-leb, lt-ltb}
use Rattle.std.specs.Prelude.{◌&&◌, if◌then◌else◌, nat_le, nat_lt, option_and_then, slice_get}
use Rattle.std.specs.List.{All, enumerate_from, list_all}
use Rattle.std.proofs.lemmas.Bool.{and_from, and_left, and_right, cases_lt}
use Rattle.std.proofs.lemmas.List.{append-nil, length-drop, length-take, map-append, take-append-drop}
use Rattle.std.proofs.lemmas.List.Elements.{All-drop, All-take}
use Rattle.std.proofs.lemmas.List.Folds.{list_all-append}
use Rattle.std.proofs.lemmas.Map.Keys.{any_passes_from_place}
use Rattle.proof_turns.specs.effect.Effect.TheVariants.{Mem as ToMem}
use Rattle.dma_tables.specs.LineWrites.{one_write, two_writes}
use Rattle.dma_tables.specs.Lowered.{goes, in_spans, is_in_spans, is_line, landing, left_in_page, line_writes as machine_writes}
use Rattle.dma_tables.specs.declared.file.DmaFile.{DmaFile}
use Rattle.dma_tables.proofs.ByPages.{IsByPage, goes_by_page}
use Rattle.dma_tables.proofs.Lines.{has_two, line_in_one, line_in_two, line_length}
use Rattle.proof_start.specs.Words.{IsByte}
use Rattle.image_pack.specs.ImageConditions.{KeepsConditions}
use Rattle.image_pack.specs.declared.parts.DevicePart.{DevicePart}
use Rattle.image_pack.specs.declared.parts.Image.{Image}
use Rattle.image_pack.specs.declared.parts.SpanPart.{SpanPart}
use Rattle.image_soundness.specs.Sound.{IsSound, address_of}
use Rattle.muen_num.specs.declared.access.AccessKind.TheVariants.{Write}
use Rattle.muen_num.specs.declared.limits.TheConstants.{PAGE}
use Rattle.muen_num.proofs.Lists.{all_at, numbered_append}
use Rattle.policy_lawful.specs.Contents.{Held}
use Rattle.policy_lawful.specs.Dma.{dma_access}
use Rattle.policy_lawful.specs.Thing.{Thing}
use Rattle.policy_lawful.specs.Windows.{Access, byte, violation}
use Rattle.policy_lawful.specs.source.Source.{Source}
use Rattle.proof_runs.proofs.DomainWindows.{lands, next_lands}
use Rattle.proof_runs.specs.Fit.{access_address_of, write_by}
use Rattle.proof_start.specs.GroundOf.{ground_of}
use Rattle.proof_turns.specs.Inputs.{AreLine, IsWrite, Part, dropped, each_of, written}
use Rattle.subject_model.specs.Clock.{ByteWrite, line_writes, write_to}

-- ---- lists

module _ (p : Source) (files : Held) (i : Image) (keeps : KeepsConditions i) (sound : IsSound p files i) (tables : Option DmaFile)
    (device : List ℕ) (number : ℕ) (d : DevicePart) (here : slice_get i.devices number ≡ Some d) (named : d.name ≡ device)
    (fits : (addr : ℕ) → write_by tables device addr ≡ access_address_of (address_of p i) (dma_access p device addr Write)) where
  -- ---- where the device's writes go

  abbrev go : ℕ → Option ℕ
  go = goes tables i number

  abbrev access : ℕ → Access Thing
  access addr = dma_access p device addr Write

  led : (o : Option DmaFile) (addr : ℕ) → goes o i number addr ≡ option_and_then (in_spans i.spans) (write_by o device addr)
  unfolding goes
  led None addr = refl
  led (Some t) addr = ap (option_and_then (λ (d : DevicePart). landing t i.spans d.name addr)) here ∙ ap (λ name. landing t i.spans name addr) named

  lies : (x : Thing) (offset addr : ℕ) → access addr ≡ byte x offset → is_in_spans i.spans (address_of p i x + offset) ≡ true
  lies x offset addr e =
      let l = lands p files i keeps sound device addr Write x offset e in
      let s : SpanPart = l.span.span.0 in
      let address : address_of p i x ≡ s.address = l.span.address in
      let within : offset < PAGE * s.pages = l.within in
      let place : ℕ = address_of p i x + offset in
      any_passes_from_place (λ (s : SpanPart). nat_le s.address place && nat_lt place (s.address + PAGE * s.pages)) i.spans l.span.within.index s l.span.within.span
      (and_from (nat_le s.address place) (nat_lt place (s.address + PAGE * s.pages)) (le-leb s.address place (omega (arith, address))) (lt-ltb place (s.address + PAGE * s.pages) (omega (arith, address, within))))

  placed_in : (addr : ℕ) (a : Access Thing) → access addr ≡ a → option_and_then (in_spans i.spans) (access_address_of (address_of p i) a) ≡ access_address_of (address_of p i) a
  placed_in addr (byte x offset) e = ap (λ b. if b then Some (address_of p i x + offset) else None) (lies x offset addr e)
  placed_in addr (violation found) e = refl

  go_is : (addr : ℕ) (a : Access Thing) → access addr ≡ a → go addr ≡ access_address_of (address_of p i) a
  go_is addr a e = led tables addr ∙ (ap (option_and_then (in_spans i.spans)) (fits addr ∙ ap (access_address_of (address_of p i)) e) ∙ placed_in addr a e)

  -- ---- bytes in one page

  abbrev writes : ℕ → List ℕ → List (Option ByteWrite)
  writes addr bytes = line_writes p device addr bytes

  abbrev part : Thing → ℕ → List ℕ → Part
  part x offset bytes = record { thing = x; offset = offset; bytes = bytes }

  part_lands : (bytes : List ℕ) (addr offset : ℕ) (x : Thing) → access addr ≡ byte x offset → addr % PAGE + length bytes ≤ PAGE → writes addr bytes ≡ each_of (part x offset bytes)
  part_lands [] addr offset x e room = refl
  part_lands (b ∷ []) addr offset x e room = ap (λ a. write_to a b ∷ []) e
  part_lands (b ∷ c ∷ bytes) addr offset x e room =
      let later : access (addr + 1) ≡ byte x (offset + (addr + 1 - addr)) = next_lands p files i keeps sound device addr (addr + 1) Write x offset (omega (arith, room)) (omega arith) e in
      let next : offset + (addr + 1 - addr) ≡ offset + 1 = omega arith in
      ap (λ a. write_to a b ∷ writes (addr + 1) (c ∷ bytes)) e
      ∙ ap (λ (ws : List (Option ByteWrite)). Some (record { thing = x; offset = offset; value = b }) ∷ ws) (part_lands (c ∷ bytes) (addr + 1) (offset + 1) x (later ∙ ap (byte x) next) (omega (arith, room)))

  -- nothing is written where the first byte isn't
  not_all : (bytes : List ℕ) (addr : ℕ) (a : Access Thing) → 1 ≤ length bytes → access addr ≡ a → access_address_of (address_of p i) a ≡ None → list_all is_some (writes addr bytes) ≡ false
  not_all [] addr a some e none = absurd (omega (arith, some))
  not_all (b ∷ bytes) addr (byte x offset) some e none = absurd (cc)
  not_all (b ∷ bytes) addr (violation found) some e none = ap (λ a. is_some (write_to a b) && list_all is_some (writes (addr + 1) bytes)) e

  one_write_is : (addr offset : ℕ) (x : Thing) (bytes : List ℕ) → access addr ≡ byte x offset → addr % PAGE + length bytes ≤ PAGE → All IsByte bytes → IsWrite (ground_of p i) (ToMem (address_of p i x + offset) bytes) (part x offset bytes)
  one_write_is addr offset x bytes e room small =
      let l = lands p files i keeps sound device addr Write x offset e in
      let s : SpanPart = l.span.span.0 in
      let address : address_of p i x ≡ s.address = l.span.address in
      let first : (ground_of p i).first x ≡ s.address / 4096 = l.span.first in
      let pages : (ground_of p i).pages x ≡ s.pages = l.span.pages in
      let aligned : s.address % PAGE ≡ 0 = all_at (λ (s : SpanPart). s.address % PAGE ≡ 0) i.spans l.span.within.index s (λ k d l. (keeps.spans.each k d l).aligned) l.span.within.span in
      let within : offset < PAGE * s.pages = l.within in
      let along : offset % PAGE ≡ addr % PAGE = l.along in
      record { at = address_of p i x + offset; is = refl; address = omega (arith, address, first, aligned); room = omega (arith, pages, within, along, room); small = small }

  pages : IsByPage go
  pages = goes_by_page tables i number (λ k d l. (keeps.spans.each k d l).aligned)

  -- ---- a line in one page

  in_one : (addr : ℕ) (bytes : List ℕ) (a : Access Thing) → access addr ≡ a → 1 ≤ length bytes → addr % PAGE + length bytes ≤ PAGE → All IsByte bytes → AreLine (ground_of p i) (one_write (access_address_of (address_of p i) a) bytes) (writes addr bytes)
  in_one addr bytes (byte x offset) e some room small =
      written (part x offset bytes ∷ []) (one_write_is addr offset x bytes e room small, tt) (append-nil (each_of (part x offset bytes)) ∙ sym (part_lands bytes addr offset x e room))
  in_one addr bytes (violation found) e some room small = dropped refl (not_all bytes addr (violation found) some e refl)

  -- ---- a line in two pages

  abbrev all_written : Bool → Bool → Bool
  all_written a b = a && b

  in_two : (addr next : ℕ) (front back : List ℕ) (a b : Access Thing) (ws : List (Option ByteWrite)) → access addr ≡ a → access next ≡ b → ws ≡ writes addr front ++ writes next back → 1 ≤ length front → 1 ≤ length back
      → addr % PAGE + length front ≤ PAGE → next % PAGE + length back ≤ PAGE → All IsByte front → All IsByte back
      → AreLine (ground_of p i) (two_writes (access_address_of (address_of p i) a) front (access_address_of (address_of p i) b) back) ws
  in_two addr next front back (byte x offset) (byte y behind) ws e f are some more room rest small smaller =
      written (part x offset front ∷ part y behind back ∷ [])
      (one_write_is addr offset x front e room small, (one_write_is next behind y back f rest smaller, tt))
      (ap (λ vs. each_of (part x offset front) ++ vs) (append-nil (each_of (part y behind back)) ∙ sym (part_lands back next behind y f rest))
      ∙ ap (λ vs. vs ++ writes next back) (sym (part_lands front addr offset x e room)) ∙ sym are)
  in_two addr next front back (byte x offset) (violation found) ws e f are some more room rest small smaller =
      dropped refl (ap (list_all is_some) are ∙ list_all-append is_some (writes addr front) (writes next back)
      ∙ and_right (list_all is_some (writes addr front)) (list_all is_some (writes next back)) (not_all back next (violation found) more f refl))
  in_two addr next front back (violation found) b ws e f are some more room rest small smaller =
      dropped refl (ap (list_all is_some) are ∙ list_all-append is_some (writes addr front) (writes next back)
      ∙ and_left (list_all is_some (writes addr front)) (list_all is_some (writes next back)) (not_all front addr (violation found) some e refl))

  -- ---- any line

  pub line_alike : (addr : ℕ) (bytes : List ℕ) → is_line bytes ≡ true → All IsByte bytes → AreLine (ground_of p i) (unwrap_or (machine_writes go addr bytes) []) (writes addr bytes)
  line_alike addr bytes line small =
      let size = line_length bytes line in
      let n : ℕ = left_in_page addr in
      elim (cases_lt n (length bytes)) [
        | inr short ↦
            subst (λ es. AreLine (ground_of p i) es (writes addr bytes)) (ap (λ o. one_write o bytes) (sym (go_is addr (access addr) refl)) ∙ sym (line_in_one go pages addr bytes line short))
            (in_one addr bytes (access addr) refl size.0 (omega (arith, short)) small)
        | inl long ↦
            let two = has_two go addr bytes long size.1 in
            let front : length (take n bytes) ≡ n = omega (arith, long, length-take n bytes) in
            let back : length (drop n bytes) ≡ length bytes - n = omega (arith, length-drop n bytes) in
            let few : length bytes ≤ 64 = size.1 in
            let split : enumerate_from addr bytes ≡ enumerate_from addr (take n bytes) ++ enumerate_from (addr + n) (drop n bytes) =
            ap (enumerate_from addr) (sym (take-append-drop n bytes)) ∙ numbered_append addr (take n bytes) (drop n bytes) ∙ ap (λ k. enumerate_from addr (take n bytes) ++ enumerate_from (addr + k) (drop n bytes)) front in
            let each : writes addr bytes ≡ writes addr (take n bytes) ++ writes (addr + n) (drop n bytes) =
            ap (map (λ e. write_to (access e.0) e.1)) split ∙ map-append (λ e. write_to (access e.0) e.1) (enumerate_from addr (take n bytes)) (enumerate_from (addr + n) (drop n bytes)) in
            subst (λ es. AreLine (ground_of p i) es (writes addr bytes))
            (ap₂ (λ o q. two_writes o (take n bytes) q (drop n bytes)) (sym (go_is addr (access addr) refl)) (sym (go_is (addr + n) (access (addr + n)) refl)) ∙ sym (line_in_two go pages addr bytes long line))
            (in_two addr (addr + n) (take n bytes) (drop n bytes) (access addr) (access (addr + n)) (writes addr bytes) refl refl each two.front two.back
            (omega (arith, front)) (omega (arith, back, few)) (All-take IsByte n bytes small) (All-drop IsByte n bytes small))
      ]
