-- Tables whose verdict has no fault fit.
use Rattle.std.proofs.Common.{◌≡◌, ◌∙◌, ℕ, true, refl}
use Rattle.dma_check.proofs.Listings.{reaches}
use Rattle.dma_check.specs.Sources.{comes_to}
use Rattle.image_soundness.specs.Sound.{address_of, led}
use Rattle.muen_num.specs.declared.access.AccessKind.TheVariants.{Write}
use Rattle.policy_lawful.specs.Dma.{dma_access}
use Rattle.policy_lawful.specs.Thing.{Thing}
use Rattle.policy_lawful.specs.Windows.{Access, byte, violation}
use Rattle.proof_dma.specs.Laws.{FaultlessTablesFit}
use Rattle.proof_runs.specs.Fit.{access_address_of}

comes_there : (address : Thing → ℕ) (a : Access Thing) → comes_to (led address a) ≡ access_address_of address a
comes_there address (byte x offset) = refl
comes_there address (violation found) = refl

pub faultless_fit : FaultlessTablesFit
faultless_fit p i t lawful keeps none = λ k d l addr.
    reaches p i t lawful keeps none k d l addr true ∙ comes_there (address_of p i) (dma_access p _ addr Write)
