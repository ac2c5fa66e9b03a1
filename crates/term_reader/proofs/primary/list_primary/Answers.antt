use Rattle.std.proofs.Common.{◌≡◌, sym, subst, IfOk}
use Rattle.au_model.specs.Syntax.Characters.{chars_from}
use Rattle.au_model.specs.Syntax.Tokens.{tokens_of}
use Rattle.term_reader.specs.FollowingToken.{IsFollowingAt}
use Rattle.term_reader.specs.PrimaryView.{primary_meant}
use Rattle.term_reader.proofs.FollowingTokenLemmas.{list-atom}
use Rattle.std.proofs.lemmas.Result.{IfOk-weaker}
use Rattle.term_reader.proofs.FollowingTokenLemmas.{reached-here, opens-then}
use Rattle.term_reader.proofs.primary.list_primary.Goals as goal

pub returns-in-ClosesList-clause-primary : goal.returns-in-ClosesList-clause-primary
returns-in-ClosesList-clause-primary c =
    let text = c.args.source.text.now in
    let us = tokens_of (chars_from text c.in-ClosesList.after) in
    let h = subst (IsFollowingAt text c.args.end) c.in-ClosesList.is c.look_ahead-next.ensures.follow in
    subst (λ x. IfOk c.atom_primary.result (λ o. primary_meant c.args.source o ≡ x))
    (sym (list-atom h.is.0 _ us h.is.1)) c.atom_primary.ensures.primary

pub returns-in-ClosesList-clause-place : goal.returns-in-ClosesList-clause-place
returns-in-ClosesList-clause-place c =
    let text = c.args.source.text.now in
    let h = subst (IsFollowingAt text c.args.end) c.in-ClosesList.is c.look_ahead-next.ensures.follow in
    IfOk-weaker c.atom_primary.result _ _ (λ o d. opens-then text c.args.end c.in-ClosesList.after o h.ends d) c.atom_primary.ensures.place

pub returns-in_default-clause-place : goal.returns-in_default-clause-place
returns-in_default-clause-place c = reached-here c.args.source.text.now c.args.end c.requires
