use Rattle.std.proofs.Common.{inr, sym}
use Rattle.asm_text.specs.Tokens.{tokens_of}
use Rattle.asm_text.proofs.TermLaws.{term_fails, term_then}
use Rattle.asm_text.proofs.reading.terms_of.Goals as goal

pub returns-in_ok-push-in-Ok-clause-terms : goal.returns-in_ok-push-in-Ok-clause-terms
returns-in_ok-push-in-Ok-clause-terms c =
    let front = rw c.new-terms.ensures at c.in_ok-push-in-Ok.ensures.ok in
    let answers = rw front at c.signed_terms.ensures.terms in
    rw (term_then c.args.minus (tokens_of c.args.line.now) (tokens_of c.in-Ok.rest.now) c.in-Ok.first (sym c.in-Ok.ensures.term)) at answers

pub returns-in-Err-clause-terms : goal.returns-in-Err-clause-terms
returns-in-Err-clause-terms c =
    inr (term_fails c.args.minus (tokens_of c.args.line.now) c.in-Err.error (sym c.in-Err.ensures.term))
