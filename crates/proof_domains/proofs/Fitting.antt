-- Tables that lead each device where a placed policy declares it fit an image whose spans are those of the policy.
use Rattle.std.proofs.Common.{◌≡◌, ◌∙◌, ℕ, ◌+◌, List, Option, Some, None, find, position, is_some, refl, sym, ap, subst}
use Rattle.std.specs.Prelude.{slice_index}
use Rattle.std.specs.Option.{option_map_or}
use Rattle.std.specs.Str.{bytes_eq}
use Rattle.std.proofs.lemmas.Bool.{false≢true}
use Rattle.std.proofs.lemmas.Option.{get_or_from_slice_get}
use Rattle.dma_emit.specs.Domains.{region_address_of as region_place}
use Rattle.dma_emit.specs.Reached.{placed_at}
use Rattle.dma_tables.proofs.PartsKeep.{parts_keep}
use Rattle.dma_tables.specs.ImageConditions.{KeepsConditions}
use Rattle.dma_tables.specs.parts.Image.{Image}
use Rattle.proof_build.specs.Sound.{IsSound, address_of}
use Rattle.dma_emit.specs.access.AccessKind.TheVariants.{Write}
use Rattle.policy_lawful.specs.Contents.{Held}
use Rattle.policy_lawful.specs.Dma.{dma_access}
use Rattle.policy_lawful.specs.Resolution.{source_of}
use Rattle.policy_lawful.specs.Thing.{Thing, region, channel, provided, device_memory, state}
use Rattle.policy_lawful.specs.Windows.{Access, byte, violation}
use Rattle.policy_lawful.specs.source.Region.{Region}
use Rattle.policy_lawful.specs.source.Source.{Source}
use Rattle.proof_build.specs.Built.{HasSpans}
use Rattle.proof_runs.proofs.DomainWindows.{lands}
use Rattle.proof_runs.specs.Fit.{access_address_of}
use Rattle.dma_emit.specs.Placed.{IsPlaced, Placement}
use Rattle.proof_domains.proofs.Places.{placed_there}
use Rattle.muen_num.proofs.Lookups.{at_position, found_number}
use Rattle.proof_domains.specs.Laws.{EmittedTablesFit}

module _ (x : Placement) (placed : IsPlaced x) (files : Held) (i : Image) (keeps : KeepsConditions i) (sound : IsSound (source_of x.expanded.lawful) files i) (spans : HasSpans (source_of x.expanded.lawful) i) where
  abbrev p : Source
  p = source_of x.expanded.lawful

  -- a region that is found by its name lies where it was placed
  region_there : (r : Region) → find (λ s. bytes_eq s.name r.name) p.memory ≡ Some r → region_place x r.name ≡ address_of p i (region r.name)
  unfolding source_of
  region_there r found = by (position (λ s. bytes_eq s.name r.name) p.memory) refl
    where
      by : (o : Option ℕ) → position (λ s. bytes_eq s.name r.name) p.memory ≡ o → option_map_or (slice_index x.addresses) o 0 ≡ address_of p i (region r.name)
      by (Some k) e = get_or_from_slice_get x.addresses k (address_of p i (region r.name)) 0 (placed_there x placed files i keeps sound spans k r (at_position (λ s. bytes_eq s.name r.name) p.memory k e ∙ found))
      by None e = absurd (false≢true (ap is_some (sym e) ∙ (found_number (λ s. bytes_eq s.name r.name) p.memory ∙ ap is_some found)))

  same_place : (device : List ℕ) (addr : ℕ) (a : Access Thing) → dma_access p device addr Write ≡ a → placed_at x a ≡ access_address_of (address_of p i) a
  same_place device addr (violation found) e = refl
  same_place device addr (byte (region name) offset) e =
      let l = lands p files i keeps sound device addr Write (region name) offset e in
      let named : name ≡ l.source.name = (let is = l.is in cc (is)) in
      ap (λ n. Some (n + offset)) (subst (λ n. region_place x n ≡ address_of p i (region n)) (sym named) (region_there l.source l.found))
  same_place device addr (byte (channel name) offset) e = absurd (let is = (lands p files i keeps sound device addr Write (channel name) offset e).is in cc (is))
  same_place device addr (byte (provided subject name) offset) e = absurd (let is = (lands p files i keeps sound device addr Write (provided subject name) offset e).is in cc (is))
  same_place device addr (byte (device_memory d name) offset) e = absurd (let is = (lands p files i keeps sound device addr Write (device_memory d name) offset e).is in cc (is))
  same_place device addr (byte (state subject) offset) e = absurd (let is = (lands p files i keeps sound device addr Write (state subject) offset e).is in cc (is))

pub fits : EmittedTablesFit
fits x files i t placed sound spans walk k d l addr =
    walk _ addr ∙ same_place x placed files i (parts_keep i sound.parts) sound spans _ addr (dma_access (source_of x.expanded.lawful) _ addr Write) refl
