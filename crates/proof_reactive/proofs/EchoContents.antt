-- The bytes at the start of a region of the two systems.
use Rattle.std.proofs.Common.{◌≡◌, ℕ, List, refl, sym, ◌∙◌}
use Rattle.std.specs.Prelude.{Some, codes}
use Rattle.policy_lawful.specs.Contents.{Held}
use Rattle.policy_lawful.specs.Thing.{Item, device_items, item_of, items_of, placed_items, region, region_item}
use Rattle.subject_model.specs.Alone.{thing_in}
use Rattle.subject_model.specs.System.{start_of}
use Rattle.proof_isolation.proofs.WrittenOut.{at_start}
use Rattle.proof_reactive.specs.Echo.{code_region, echo, ring}

-- the talker's program is the same in both
program : List ℕ → Item
program own = region_item (code_region (codes "talker_code") own)

its_program : (own code : List ℕ) → item_of (echo own code) (region (codes "talker_code")) ≡ Some (program own)
unfolding program item_of items_of placed_items device_items
its_program own code = refl

pub same_program : (own c d : List ℕ) (f g : Held) → thing_in (start_of (echo own c) f).things (region (codes "talker_code")) ≡ thing_in (start_of (echo own d) g).things (region (codes "talker_code"))
unfolding program
same_program own c d f g = at_start (echo own c) f (region (codes "talker_code")) (program own) (its_program own c) ∙ sym (at_start (echo own d) g (region (codes "talker_code")) (program own) (its_program own d))

-- and the ring
its_ring : (own code : List ℕ) → item_of (echo own code) (region (codes "ring")) ≡ Some (region_item ring)
unfolding item_of items_of placed_items device_items
its_ring own code = refl

pub same_ring : (own c d : List ℕ) (f g : Held) → thing_in (start_of (echo own c) f).things (region (codes "ring")) ≡ thing_in (start_of (echo own d) g).things (region (codes "ring"))
same_ring own c d f g = at_start (echo own c) f (region (codes "ring")) (region_item ring) (its_ring own c) ∙ sym (at_start (echo own d) g (region (codes "ring")) (region_item ring) (its_ring own d))
