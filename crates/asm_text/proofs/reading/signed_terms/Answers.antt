use Rattle.std.proofs.Common.{◌∙◌, sym, inr, arith}
use Rattle.asm_text.specs.Tokens.{tokens_of}
use Rattle.asm_text.proofs.TermLaws.{no_more_terms, no_term, term_more}
use Rattle.asm_text.proofs.reading.signed_terms.Goals as goal

pub loop-minus-preserved : goal.loop-minus-preserved
loop-minus-preserved c =
    record {
      same = rw c.in_ok-push-in-Ok.ensures.ok (
          sym (term_more c.loop-minus.terms (tokens_of c.loop-minus.rest.now) (tokens_of c.in-Some.behind.now) (tokens_of c.in-Ok.more.now) c.in-Some.minus c.in-Ok.term (sym c.in-Some.ensures.sign) (sym c.in-Ok.ensures.term))
          ∙ c.loop-minus.invariant.same
          );
      within = omega (arith, c.in-Some.ensures.shorter, c.in-Ok.ensures.shorter, c.loop-minus.invariant.within);
    }

pub returns-in-Err-clause-terms : goal.returns-in-Err-clause-terms
returns-in-Err-clause-terms c =
    inr (
    sym c.loop-minus.invariant.same
    ∙ no_term c.loop-minus.terms (tokens_of c.loop-minus.rest.now) (tokens_of c.in-Some.behind.now) c.in-Some.minus c.in-Err.error (sym c.in-Some.ensures.sign) (sym c.in-Err.ensures.term)
    )

pub returns-clause-terms : goal.returns-clause-terms
returns-clause-terms c =
    sym c.loop-minus.invariant.same ∙ no_more_terms c.loop-minus.terms (tokens_of c.loop-minus.rest.now) (sym c.in_default.ensures.sign)
