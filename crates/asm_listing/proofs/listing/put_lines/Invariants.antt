use Rattle.std.proofs.Common.{length}
use Rattle.muen_outside.specs.Prints.{AreSame, out_state}
use Rattle.asm_listing.specs.Listing.{listing_of}
use Rattle.asm_listing.proofs.Printing.{IsPrinting}
use Rattle.asm_listing.proofs.listing.put_lines.Given as goal

abbrev pub invariant-loop-rest : goal.invariant-loop-rest
invariant-loop-rest g l =
    AreSame l.initial.out l.out
    × IsPrinting (listing_of l.base l.bytes) (listing_of l.address l.rest) (out_state g.S.Sink.state l.initial.out) (out_state g.S.Sink.state l.out)

abbrev pub decreases-loop-rest : goal.decreases-loop-rest
decreases-loop-rest g l = length l.rest
