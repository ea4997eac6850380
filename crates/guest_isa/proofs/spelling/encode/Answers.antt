use Rattle.guest_isa.proofs.Spelled.{fields_decode}
use Rattle.guest_isa.proofs.spelling.encode.Goals as goal

pub returns-clause-decodes : goal.returns-clause-decodes
returns-clause-decodes c =
    fields_decode c.args.i.now c.of_instruction.result c.bytes.result c.of_instruction.ensures.fields c.bytes.ensures c.requires c.of_instruction.ensures.fits
