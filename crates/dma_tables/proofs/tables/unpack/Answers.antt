use Rattle.std.proofs.Common.{Ok, Err, arith}
use Rattle.binary_form.proofs.Theorem.{is_found, is_error, is_unpacked, is_wanted, only_that}
use Rattle.dma_tables.specs.DmaFile.{dma_file}
use Rattle.dma_tables.proofs.FileLaws.{file_laws}
use Rattle.dma_tables.proofs.tables.unpack.Goals as goal

pub invariant_of-result : goal.invariant_of-result
invariant_of-result c = (is_found dma_file file_laws c.args.bytes.now c.in-Ok.file (λ i. omega (arith, c.type_inv.bytes i)) c.in-Ok.ensures).0

pub fault_of-requires : goal.fault_of-requires
fault_of-requires c = is_error dma_file file_laws c.args.bytes.now c.in-Err.error (λ i. omega (arith, c.type_inv.bytes i)) c.in-Err.ensures

pub returns-in-Ok-clause-found : goal.returns-in-Ok-clause-found
returns-in-Ok-clause-found c =
    let h = is_found dma_file file_laws c.args.bytes.now c.in-Ok.file (λ i. omega (arith, c.type_inv.bytes i)) c.in-Ok.ensures in
    record { tables = h.0; bytes_are = h.1 }

pub returns-in-Ok-clause-only : goal.returns-in-Ok-clause-only
returns-in-Ok-clause-only c = λ i h. only_that dma_file file_laws c.args.bytes.now (Ok c.in-Ok.file) (is_unpacked dma_file c.args.bytes.now c.in-Ok.file c.in-Ok.ensures) i h.tables h.bytes_are

pub returns-in-Ok-clause-exact : goal.returns-in-Ok-clause-exact
returns-in-Ok-clause-exact c = is_unpacked dma_file c.args.bytes.now c.in-Ok.file c.in-Ok.ensures

pub returns-in-Err-clause-only : goal.returns-in-Err-clause-only
returns-in-Err-clause-only c = λ i h. only_that dma_file file_laws c.args.bytes.now (Err c.fault_of.result) (is_wanted dma_file c.args.bytes.now c.in-Err.error c.fault_of.result c.in-Err.ensures c.fault_of.ensures) i h.tables h.bytes_are

pub returns-in-Err-clause-exact : goal.returns-in-Err-clause-exact
returns-in-Err-clause-exact c = is_wanted dma_file c.args.bytes.now c.in-Err.error c.fault_of.result c.in-Err.ensures c.fault_of.ensures
