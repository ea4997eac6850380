-- Two bitmaps, one after the other.
use Rattle.std.proofs.Common.{◌≡◌, ℕ, Bool, List, ◌++◌, length, take, drop, sym, ◌∙◌}
use Rattle.std.proofs.Math.Seq.{take-append_seam, drop-append_seam}
use Rattle.machine_layout.specs.Exits.{port_exits}

-- bitmaps that are joined are the two
pub exits_joined : (n : ℕ) (a b both : List ℕ) (exits : ℕ → ℕ → Bool) → both ≡ a ++ b → length a ≡ n → ((port size : ℕ) → port_exits a b port size ≡ exits port size)
    → (port size : ℕ) → port_exits (take n both) (drop n both) port size ≡ exits port size
exits_joined n a b both exits is long h port size =
    (λ i. port_exits (take (sym long i) (is i)) (drop (sym long i) (is i)) port size)
    ∙ (λ i. port_exits (take-append_seam a b i) (drop-append_seam a b i) port size)
    ∙ h port size
