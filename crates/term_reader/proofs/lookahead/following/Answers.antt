use Rattle.std.proofs.Common.{sym, subst}
use Rattle.token_scan.specs.NextToken.{word_of}
use Rattle.term_reader.specs.FollowingToken.{IsAhead, IsFollowingAt}
use Rattle.term_reader.specs.declared.lexeme.Lexeme.TheVariants as lex
use Rattle.term_reader.proofs.AheadLemmas.{mark-word, integer-word, follow-ahead, follow-other}
use Rattle.term_reader.proofs.FollowingTokenLemmas.{follow-none}
use Rattle.term_reader.proofs.lookahead.following.Goals as goal

pub returns-in-Punctuation : goal.returns-in-Punctuation
returns-in-Punctuation c = λ at h.
    let text = c.args.text.now in
    let t = c.in-Some.token in
    let n = subst (IsAhead text at) c.in-Some.is h in
    subst (IsFollowingAt text at) (sym c.follow_mark.ensures)
    (follow-ahead text at t _ n.0 (mark-word (word_of text t) t.kind _ _ n.0.token.kind c.in-Punctuation.is c.spelling.ensures c.mark-lexeme.ensures.mark) c.mark-lexeme.ensures.narrow)

pub returns-in-Integer : goal.returns-in-Integer
returns-in-Integer c = λ at h.
    let text = c.args.text.now in
    let t = c.in-Some.token in
    let n = subst (IsAhead text at) c.in-Some.is h in
    subst (IsFollowingAt text at) (sym c.follow_mark-in-Integer.ensures)
    (follow-ahead text at t (lex.Integer c.integer.result) n.0 (integer-word (word_of text t) t.kind _ n.0.token.kind c.in-Integer.is c.integer.ensures.number) c.integer.ensures.width)

pub returns-in_default-kind : goal.returns-in_default-kind
returns-in_default-kind c = λ at h.
    let text = c.args.text.now in
    let n = subst (IsAhead text at) c.in-Some.is h in
    follow-other text at c.in-Some.token n.0 n.1 c.in_default-kind.not-Punctuation c.in_default-kind.not-Integer

pub returns-in_default : goal.returns-in_default
returns-in_default c = λ at h. follow-none c.args.text.now at (subst (IsAhead c.args.text.now at) c.in_default.is h)
