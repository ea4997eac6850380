-- Where lines of direct memory access write: into regions alone, each through a window with write of the device's domain; and
-- what they leave.
use Rattle.std.proofs.Common.{◌≡◌, ℕ, ◌-◌, true, false, cond, List, [], ◌∷◌, Option, Some, None, refl, sym, ap, ◌∙◌, inl, inr}
use Rattle.std.specs.Prelude.{◌&&◌, is_some}
use Rattle.std.specs.List.{AllByRecursion, enumerate_from, find, list_all, list_any}
use Rattle.std.specs.Option.{option_map_or}
use Rattle.std.specs.Str.{bytes_eq}
use Rattle.std.proofs.lemmas.Bool.{and_from, true≢false}
use Rattle.std.proofs.lemmas.List.Elements.{All-from_recursion}
use Rattle.machine_layout.specs.Memory.{over}
use Rattle.muen_num.proofs.Each.{each_some, mapped}
use Rattle.muen_num.proofs.Members.{In, all_in, any_in, find_in, map_some}
use Rattle.muen_num.specs.declared.access.AccessKind.TheVariants.{Write}
use Rattle.policy_lawful.specs.Dma.{dma_access, dma_windows, domain_of, domain_windows}
use Rattle.policy_lawful.specs.Thing.{Thing, region, same_thing, state}
use Rattle.policy_lawful.specs.Windows.{Window, access_by, byte, holds, region_window, violation, window}
use Rattle.policy_lawful.specs.Rights.{allows}
use Rattle.policy_lawful.specs.source.Domain.{Domain}
use Rattle.policy_lawful.specs.source.Mapping.{Mapping}
use Rattle.policy_lawful.specs.source.Region.{Region}
use Rattle.policy_lawful.specs.source.Source.{Source}
use Rattle.record_text.specs.DeviceRecord.{dma_input}
use Rattle.subject_model.specs.Alone.{thing_in}
use Rattle.subject_model.specs.Clock.{ByteWrite, line_writes, takes, with_byte, with_each, with_line, write_to}
use Rattle.subject_model.specs.System.{System}
use Rattle.subject_model.proofs.KeyLaws.{things_apart, value_other}
use Rattle.policy_lawful.proofs.SameThings.{same_thing_self}

-- ---- the windows of domains

-- a window on a region
abbrev pub IsOnRegion : Window Thing → Type 0
IsOnRegion w = (name : List ℕ) × (w.thing ≡ region name)

on_regions : (p : Source) (o : Option Domain) → AllByRecursion IsOnRegion (option_map_or (domain_windows p) o [])
on_regions p None = tt
on_regions p (Some d) =
    each_some IsOnRegion (λ (m : Mapping). region_window p m.region m.virtual_address m.rights)
    (λ m. mapped IsOnRegion (λ (r : Region). window m.virtual_address r.size m.rights (region r.name)) (λ r. (r.name, refl)) (find (λ r. bytes_eq r.name m.region) p.memory)) d.memory

pub window_on_region : (p : Source) (device : List ℕ) (w : Window Thing) → In w (dma_windows p device) → IsOnRegion w
window_on_region p device w within =
    all_in IsOnRegion (dma_windows p device) (All-from_recursion IsOnRegion (dma_windows p device) (on_regions p (domain_of p device))) w within

-- ---- where bytes go

-- a window with the right to write shows it
pub record IsWritable (windows : List (Window Thing)) (x : Thing) : Type 0 where
  pub window : Window Thing
  pub its : In window windows
  pub writes : allows window.rights Write ≡ true
  pub shows : window.thing ≡ x

module _ (p : Source) (device : List ℕ) where
  by_window : (address value : ℕ) (w : ByteWrite) (o : Option (Window Thing)) → find (λ w. holds w address) (dma_windows p device) ≡ o → write_to (access_by o address Write) value ≡ Some w → IsWritable (dma_windows p device) w.thing
  by_window address value w None is h = absurd (cc (h))
  by_window address value w (Some v) is h =
      elim (allows v.rights Write) as (λ b. allows v.rights Write ≡ b → write_to (cond b (byte v.thing (address - v.guest)) (violation (Some v.rights))) value ≡ Some w → IsWritable (dma_windows p device) w.thing) [
        | true ↦ λ e k.
            let same : record { thing = v.thing; offset = address - v.guest; value = value } ≡ w = cc (k) in
            record { window = v; its = (find_in (λ w. holds w address) (dma_windows p device) v is).0; writes = e; shows = ap (λ (w : ByteWrite). w.thing) same }
        | false ↦ λ _ k. absurd (cc (k))
      ] refl h

  module _ (address : ℕ) (bytes : List ℕ) where
    pub written : (w : ByteWrite) → In (Some w) (line_writes p device address bytes) → IsWritable (dma_windows p device) w.thing
    written w within =
        let at = map_some (λ (e : ℕ × ℕ). write_to (dma_access p device e.0 Write) e.1) (enumerate_from address bytes) (Some w) within in
        by_window at.one.0 at.one.1 w (find (λ w. holds w at.one.0) (dma_windows p device)) refl at.image

    -- no state page is written
    pub no_page : (w : ByteWrite) → In (Some w) (line_writes p device address bytes) → (name : List ℕ) → w.thing ≡ state name → ⊥
    no_page w within name same =
        let at = written w within in
        let on = window_on_region p device at.window at.its in
        let clash : region on.0 ≡ state name = sym on.1 ∙ at.shows ∙ same in
        absurd (cc (clash))

-- ---- what they leave

-- all but things
each_things : (ws : List (Option ByteWrite)) (y : System) → with_each ws y ≡ record y { things = (with_each ws y).things }
each_things [] y = refl
each_things (None ∷ ws) y = each_things ws y
each_things (Some w ∷ ws) y = each_things ws (with_byte (Some w) y)

pub line_things : (ws : List (Option ByteWrite)) (y : System) → with_line ws y ≡ record y { things = (with_line ws y).things }
line_things ws y =
    elim (list_all is_some ws) as (λ b. cond b (with_each ws y) y ≡ record y { things = (cond b (with_each ws y) y).things }) [ true ↦ each_things ws y | false ↦ refl ]

-- and each thing into which no byte goes
pub each_spares : (x : Thing) (ws : List (Option ByteWrite)) (y : System) → ((w : ByteWrite) → In (Some w) ws → w.thing ≡ x → ⊥) → thing_in (with_each ws y).things x ≡ thing_in y.things x
each_spares x [] y h = refl
each_spares x (None ∷ ws) y h = each_spares x ws y (λ w i. h w (inr i))
each_spares x (Some w ∷ ws) y h =
    each_spares x ws (with_byte (Some w) y) (λ v i. h v (inr i))
    ∙ value_other same_thing w.thing x (λ old. over old w.offset (w.value ∷ [])) y.things (things_apart w.thing x (h w (inl refl)))

pub line_spares : (x : Thing) (ws : List (Option ByteWrite)) (y : System) → ((w : ByteWrite) → In (Some w) ws → w.thing ≡ x → ⊥) → thing_in (with_line ws y).things x ≡ thing_in y.things x
line_spares x ws y h =
    elim (list_all is_some ws) as (λ b. thing_in (cond b (with_each ws y) y).things x ≡ thing_in y.things x) [ true ↦ each_spares x ws y h | false ↦ refl ]

module _ (p : Source) (device : List ℕ) (address : ℕ) (bytes : List ℕ) (y : System) where
  -- so a state page stays
  pub page_stays : (name : List ℕ) → thing_in (takes p (dma_input device address bytes) y).things (state name) ≡ thing_in y.things (state name)
  page_stays name = line_spares (state name) (line_writes p device address bytes) y (λ w within. no_page p device address bytes w within name)

  -- and all that no window with write of the device's domain shows
  pub unwritten_stays : (x : Thing) → list_any (λ w. allows w.rights Write && same_thing w.thing x) (dma_windows p device) ≡ false → thing_in (takes p (dma_input device address bytes) y).things x ≡ thing_in y.things x
  unwritten_stays x none =
      line_spares x (line_writes p device address bytes) y (λ w within same.
      let at = written p device address bytes w within in
      let shows : same_thing at.window.thing x ≡ true = ap (λ z. same_thing z x) (at.shows ∙ same) ∙ same_thing_self x in
      true≢false (sym (any_in (λ w. allows w.rights Write && same_thing w.thing x) (dma_windows p device) at.window at.its (and_from (allows at.window.rights Write) (same_thing at.window.thing x) at.writes shows)) ∙ none))
