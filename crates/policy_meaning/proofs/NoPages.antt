-- No thing of a policy is the state page of a subject.
use Rattle.std.proofs.Common.{◌≡◌, ℕ, false, List, [], ◌∷◌, ◌++◌, map, Option, Some, None, refl, sym, subst, inl, inr}
use Rattle.std.specs.List.{AllByRecursion, flat_map, list_any}
use Rattle.std.proofs.lemmas.Bool.{cases_Bool}
use Rattle.muen_num.proofs.Each.{each_append, each_flat, each_map}
use Rattle.policy_meaning.specs.Thing.{Thing, channel, component_by, device_memory, provided, region, same_thing, state, things_of}
use Rattle.policy_types.specs.declared.source.Channel.{Channel}
use Rattle.policy_types.specs.declared.source.Component.{Component}
use Rattle.policy_types.specs.declared.source.Device.{Device}
use Rattle.policy_types.specs.declared.source.DeviceMemory.{DeviceMemory}
use Rattle.policy_types.specs.declared.source.Provided.{Provided}
use Rattle.policy_types.specs.declared.source.Region.{Region}
use Rattle.policy_types.specs.declared.source.Source.{Source}
use Rattle.policy_types.specs.declared.source.Subject.{Subject}
use Rattle.policy_meaning.proofs.Items.{provided_by, things_are}
use Rattle.policy_meaning.proofs.SameThings.{same_things}

-- it is the state page of no subject
abbrev pub NoPage : Thing → Type 0
NoPage x = (name : List ℕ) → x ≡ state name → ⊥

no_provided : (name : List ℕ) (o : Option Component) → AllByRecursion NoPage (provided_by name o)
no_provided name None = tt
no_provided name (Some c) = each_map NoPage (λ (x : Provided). provided name x.logical) (λ x n e. cc (e)) c.provides

pub things_no_page : (p : Source) → AllByRecursion NoPage (things_of p)
things_no_page p =
    let regions = map (λ (r : Region). region r.name) p.memory in
    let channels = map (λ (c : Channel). channel c.name) p.channels in
    let brought = flat_map (λ (s : Subject). provided_by s.name (component_by p s.component)) p.subjects in
    let devices = flat_map (λ (d : Device). map (λ (m : DeviceMemory). device_memory d.name m.name) d.memory) p.devices in
    subst (AllByRecursion NoPage) (sym (things_are p))
    (each_append NoPage (regions ++ channels ++ brought) devices
    (each_append NoPage (regions ++ channels) brought
    (each_append NoPage regions channels
    (each_map NoPage (λ (r : Region). region r.name) (λ r n e. cc (e)) p.memory)
    (each_map NoPage (λ (c : Channel). channel c.name) (λ c n e. cc (e)) p.channels))
    (each_flat NoPage (λ (s : Subject). provided_by s.name (component_by p s.component)) (λ s. no_provided s.name (component_by p s.component)) p.subjects))
    (each_flat NoPage (λ (d : Device). map (λ (m : DeviceMemory). device_memory d.name m.name) d.memory)
    (λ d. each_map NoPage (λ (m : DeviceMemory). device_memory d.name m.name) (λ m n e. cc (e)) d.memory) p.devices))

none_same : (name : List ℕ) (xs : List Thing) → AllByRecursion NoPage xs → list_any (λ y. same_thing y (state name)) xs ≡ false
none_same name [] h = refl
none_same name (x ∷ xs) h =
    let later = none_same name xs h.1 in
    elim (cases_Bool (same_thing x (state name))) [ inl e ↦ absurd (h.0 name (same_things x (state name) e)) | inr n ↦ rw n later ]

-- a state page is not among them
pub pages_apart : (p : Source) (name : List ℕ) → list_any (λ y. same_thing y (state name)) (things_of p) ≡ false
pages_apart p name = none_same name (things_of p) (things_no_page p)
