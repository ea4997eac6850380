use Rattle.std.proofs.Common.{◌≡◌, length, sym, ◌∙◌, rules, arith}
use Rattle.std.proofs.lemmas.Bool.{eqb-true}
use Rattle.muen_outside.specs.Buffered.{OutState}
use Rattle.muen_outside.specs.Prints.{out_state}
use Rattle.muen_outside.proofs.Buffered.{gives_exit}
use Rattle.asm_listing.specs.Listing.{listing_of}
use Rattle.asm_listing.proofs.Printing.{IsCut, some_bytes, listing_cut, listing_end, printing_all, printing_lost, printing_more}
use Rattle.asm_listing.proofs.listing.put_lines.Goals as goal

pub returns-in_err-put_line : goal.returns-in_err-put_line
returns-in_err-put_line g c =
    let s : OutState = out_state g.S.Sink.state c.args.out.now in
    let t : OutState = out_state g.S.Sink.state c.loop-rest.out in
    let u : OutState = out_state g.S.Sink.state c.put_line.new.out in
    let rest = c.loop-rest.rest.now in
    let cut : IsCut rest c.split_at.result.0.now c.split_at.result.1.now c.min.result =
    record { some = some_bytes rest (sym c.is_empty.ensures ∙ c.loop-rest-test.true); at = omega arith; front = c.split_at.ensures.front; back = c.split_at.ensures.back } in
    let next = listing_cut c.loop-rest.address rest c.split_at.result.0.now c.split_at.result.1.now c.min.result (omega arith) cut in
    let lost = printing_lost _ (listing_of c.loop-rest.address rest) _ _ s t u next c.loop-rest.invariant.1 c.in_err-put_line.ensures.1 in
    (search rules, gives_exit (listing_of c.args.base c.args.bytes.now) s u _ c.from_residual.ensures.0 lost)

pub loop-rest-preserved : goal.loop-rest-preserved
loop-rest-preserved g c =
    let s : OutState = out_state g.S.Sink.state c.args.out.now in
    let t : OutState = out_state g.S.Sink.state c.loop-rest.out in
    let u : OutState = out_state g.S.Sink.state c.put_line.new.out in
    let rest = c.loop-rest.rest.now in
    let cut : IsCut rest c.split_at.result.0.now c.split_at.result.1.now c.min.result =
    record { some = some_bytes rest (sym c.is_empty.ensures ∙ c.loop-rest-test.true); at = omega arith; front = c.split_at.ensures.front; back = c.split_at.ensures.back } in
    let next = listing_cut c.loop-rest.address rest c.split_at.result.0.now c.split_at.result.1.now c.min.result (omega arith) cut in
    (search rules, printing_more _ (listing_of c.loop-rest.address rest) _ _ s t u next c.loop-rest.invariant.1 c.in_ok-put_line.ensures.1)

pub returns : goal.returns
returns g c =
    let s : OutState = out_state g.S.Sink.state c.args.out.now in
    let t : OutState = out_state g.S.Sink.state c.loop-rest.out in
    let rest = c.loop-rest.rest.now in
    let none : length rest ≡ 0 = eqb-true (length rest) 0 (sym c.is_empty.ensures ∙ c.loop-rest-test.false) in
    (search rules, printing_all (listing_of c.args.base c.args.bytes.now) (listing_of c.loop-rest.address rest) s t (listing_end c.loop-rest.address rest none) c.loop-rest.invariant.1)
