-- The memory types as bits 5:3 of an EPT entry have them (Intel SDM volume 3, "Memory Types"), and which type each kind of
-- thing is mapped with.
use Rattle.std.proofs.Common.{◌≡◌, ℕ, List, refl}
use Rattle.ept_emit.specs.Entries.{type_of}
use Rattle.policy_lawful.specs.Thing.{channel, device_memory, provided, state}
use Rattle.policy_lawful.specs.rights.Caching.TheVariants.{Uc, Wc, Wt, Wp, Wb}
use Rattle.policy_lawful.specs.source.Source.{Source}
use Rattle.proof_build.specs.Built.{thing_caching}

uncached : type_of Uc ≡ 0
uncached = refl

write_combining : type_of Wc ≡ 1
write_combining = refl

write_through : type_of Wt ≡ 4
write_through = refl

write_protected : type_of Wp ≡ 5
write_protected = refl

write_back : type_of Wb ≡ 6
write_back = refl

of_a_device : (p : Source) (device memory : List ℕ) → type_of (thing_caching p (device_memory device memory)) ≡ 0
of_a_device p device memory = refl

of_a_channel : (p : Source) (name : List ℕ) → type_of (thing_caching p (channel name)) ≡ 6
of_a_channel p name = refl

of_a_provided_region : (p : Source) (subject logical : List ℕ) → type_of (thing_caching p (provided subject logical)) ≡ 6
of_a_provided_region p subject logical = refl

of_a_state_page : (p : Source) (subject : List ℕ) → type_of (thing_caching p (state subject)) ≡ 6
of_a_state_page p subject = refl
