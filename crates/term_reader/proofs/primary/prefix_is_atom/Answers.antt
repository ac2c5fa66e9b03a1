use Rattle.std.proofs.Common.{◌∙◌, false, sym, ap, subst}
use Rattle.std.specs.Str.{chars}
use Rattle.au_model.specs.Syntax.Characters.{chars_from}
use Rattle.au_model.specs.Syntax.Tokens as words
use Rattle.au_model.specs.Syntax.Tokens.{tokens_of}
use Rattle.token_scan.specs.NextToken.{word_of}
use Rattle.term_reader.specs.PrimaryView.{is_operator_between}
use Rattle.term_reader.specs.FollowingToken.{IsAhead}
use Rattle.term_reader.proofs.AheadLemmas.{mark-word, mark-closes, name-word, quoted-word, end-word, alone-ahead, alone-other}
use Rattle.term_reader.proofs.FirstTokenLemmas.{alone-none}
use Rattle.term_reader.proofs.primary.prefix_is_atom.Goals as goal

pub returns-in_default : goal.returns-in_default
returns-in_default c = λ at h. sym (alone-none c.args.source.ops.now (chars_from c.args.source.text.now at) (subst (IsAhead c.args.source.text.now at) c.in_default.is h))

pub returns-in-End : goal.returns-in-End
returns-in-End c = λ at h.
    let text = c.args.source.text.now in
    let t = c.in-Some.token in
    let n = subst (IsAhead text at) c.in-Some.is h in
    sym (alone-ahead c.args.source.ops.now text at t words.End n.0 (end-word (word_of text t) t.kind n.0.token.kind c.in-End.is))

pub returns-in-Punctuation : goal.returns-in-Punctuation
returns-in-Punctuation c = λ at h.
    let text = c.args.source.text.now in
    let t = c.in-Some.token in
    let n = subst (IsAhead text at) c.in-Some.is h in
    let is = mark-word (word_of text t) t.kind _ _ n.0.token.kind c.in-Punctuation.is c.spelling.ensures c.mark-mark.ensures.mark in
    let closes = mark-closes c.args.source.ops.now (word_of text t) t.kind _ _ (tokens_of (chars_from text t.end)) n.0.token.kind c.in-Punctuation.is c.spelling.ensures c.mark-mark.ensures.mark in
    c.ends_operand.ensures ∙ (sym closes ∙ sym (alone-ahead c.args.source.ops.now text at t _ n.0 is))

pub returns-in-Name : goal.returns-in-Name
returns-in-Name c = λ at h.
    let text = c.args.source.text.now in
    let t = c.in-Some.token in
    let n = subst (IsAhead text at) c.in-Some.is h in
    let is = name-word (word_of text t) t.kind _ n.0.token.kind c.in-Name.is c.spelling-name.ensures in
    c.joins.ensures ∙ (ap (λ b. is_operator_between c.args.source.ops.now (chars c.spelling-name.result.now) b (tokens_of (chars_from text t.end))) c.is_minus.ensures ∙ sym (alone-ahead c.args.source.ops.now text at t _ n.0 is))

pub returns-in_ok-name-in-QuotedName : goal.returns-in_ok-name-in-QuotedName
returns-in_ok-name-in-QuotedName c = λ at h.
    let text = c.args.source.text.now in
    let t = c.in-Some.token in
    let n = subst (IsAhead text at) c.in-Some.is h in
    let is = quoted-word (word_of text t) t.kind _ n.0.token.kind c.in-QuotedName.is c.in_ok-name-in-QuotedName.ensures in
    c.joins-in-QuotedName.ensures ∙ (ap (λ m. is_operator_between c.args.source.ops.now m false (tokens_of (chars_from text t.end))) c.text.ensures ∙ sym (alone-ahead c.args.source.ops.now text at t _ n.0 is))

pub returns-in_default-kind : goal.returns-in_default-kind
returns-in_default-kind c = λ at h.
    let text = c.args.source.text.now in
    let n = subst (IsAhead text at) c.in-Some.is h in
    sym (alone-other c.args.source.ops.now text at c.in-Some.token n.0 n.1 c.in_default-kind.not-End c.in_default-kind.not-Punctuation c.in_default-kind.not-Name c.in_default-kind.not-QuotedName)
