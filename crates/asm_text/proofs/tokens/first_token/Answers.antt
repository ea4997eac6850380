use Rattle.std.proofs.Common.{◌∙◌, sym}
use Rattle.asm_text.proofs.TokenLaws.{comment_here, token_here}
use Rattle.asm_text.proofs.tokens.first_token.Goals as goal

pub returns-then-begins_comment-clause-tokens : goal.returns-then-begins_comment-clause-tokens
returns-then-begins_comment-clause-tokens c =
    comment_here c.behind_blanks-line.result.now c.in-Some.c.now c.in-Some.behind.now c.in-Some.ensures.cases.0 (sym c.if-begins_comment.ensures)
    ∙ c.behind_blanks-line.ensures.tokens

pub returns-clause-tokens : goal.returns-clause-tokens
returns-clause-tokens c =
    token_here c.behind_blanks-line.result.now c.in-Some.c.now c.in-Some.behind.now c.token_size.result c.split_at.result.0.now c.split_at.result.1.now c.in-Some.ensures.cases.0 c.behind_blanks-line.ensures.past (sym c.if-begins_comment.ensures) c.token_size.ensures.size c.split_at.ensures.front c.split_at.ensures.back
    ∙ c.behind_blanks-line.ensures.tokens
