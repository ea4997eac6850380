pub use Rattle.proof_build.specs.Built
pub mod Laws
