use Rattle.std.proofs.Common.{◌≡◌, sym, subst, IfOk}
use Rattle.au_model.specs.Syntax.Characters.{chars_from}
use Rattle.au_model.specs.Syntax.Tokens.{tokens_of}
use Rattle.term_reader.specs.FollowingToken.{IsFollowingAt}
use Rattle.term_reader.specs.PrimaryView.{primary_meant}
use Rattle.term_reader.proofs.FollowingTokenLemmas.{curly-atom}
use Rattle.std.proofs.lemmas.Result.{IfOk-weaker}
use Rattle.term_reader.proofs.FollowingTokenLemmas.{reached-here, opens-then}
use Rattle.term_reader.proofs.primary.curly_primary.Goals as goal

pub returns-in-ClosesCurly-clause-primary : goal.returns-in-ClosesCurly-clause-primary
returns-in-ClosesCurly-clause-primary c =
    let text = c.args.source.text.now in
    let us = tokens_of (chars_from text c.in-ClosesCurly.after) in
    let h = subst (IsFollowingAt text c.args.end) c.in-ClosesCurly.is c.look_ahead-next.ensures.follow in
    subst (λ x. IfOk c.atom_primary.result (λ o. primary_meant c.args.source o ≡ x))
    (sym (curly-atom h.is.0 _ us h.is.1)) c.atom_primary.ensures.primary

pub returns-in-ClosesCurly-clause-place : goal.returns-in-ClosesCurly-clause-place
returns-in-ClosesCurly-clause-place c =
    let text = c.args.source.text.now in
    let h = subst (IsFollowingAt text c.args.end) c.in-ClosesCurly.is c.look_ahead-next.ensures.follow in
    IfOk-weaker c.atom_primary.result _ _ (λ o d. opens-then text c.args.end c.in-ClosesCurly.after o h.ends d) c.atom_primary.ensures.place

pub returns-in_default-clause-place : goal.returns-in_default-clause-place
returns-in_default-clause-place c = reached-here c.args.source.text.now c.args.end c.requires
