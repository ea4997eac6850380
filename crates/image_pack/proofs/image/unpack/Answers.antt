use Rattle.std.proofs.Common.{Ok, Err, arith}
use Rattle.binary_form.proofs.Theorem.{is_found, is_error, is_unpacked, is_wanted, only_that}
use Rattle.image_pack.specs.Image.{image}
use Rattle.image_pack.proofs.ImageLaws.{image_laws}
use Rattle.image_pack.proofs.image.unpack.Goals as goal

pub invariant_of-result : goal.invariant_of-result
invariant_of-result c = (is_found image image_laws c.args.bytes.now c.in-Ok.image (λ i. omega (arith, c.type_inv.bytes i)) c.in-Ok.ensures).0

pub fault_of-requires : goal.fault_of-requires
fault_of-requires c = is_error image image_laws c.args.bytes.now c.in-Err.error (λ i. omega (arith, c.type_inv.bytes i)) c.in-Err.ensures

pub returns-in-Ok-clause-found : goal.returns-in-Ok-clause-found
returns-in-Ok-clause-found c =
    let h = is_found image image_laws c.args.bytes.now c.in-Ok.image (λ i. omega (arith, c.type_inv.bytes i)) c.in-Ok.ensures in
    record { parts = h.0; bytes_are = h.1 }

pub returns-in-Ok-clause-only : goal.returns-in-Ok-clause-only
returns-in-Ok-clause-only c = λ i h. only_that image image_laws c.args.bytes.now (Ok c.in-Ok.image) (is_unpacked image c.args.bytes.now c.in-Ok.image c.in-Ok.ensures) i h.parts h.bytes_are

pub returns-in-Ok-clause-exact : goal.returns-in-Ok-clause-exact
returns-in-Ok-clause-exact c = is_unpacked image c.args.bytes.now c.in-Ok.image c.in-Ok.ensures

pub returns-in-Err-clause-only : goal.returns-in-Err-clause-only
returns-in-Err-clause-only c = λ i h. only_that image image_laws c.args.bytes.now (Err c.fault_of.result) (is_wanted image c.args.bytes.now c.in-Err.error c.fault_of.result c.in-Err.ensures c.fault_of.ensures) i h.parts h.bytes_are

pub returns-in-Err-clause-exact : goal.returns-in-Err-clause-exact
returns-in-Err-clause-exact c = is_wanted image c.args.bytes.now c.in-Err.error c.fault_of.result c.in-Err.ensures c.fault_of.ensures
