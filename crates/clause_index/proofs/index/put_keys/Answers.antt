use Rattle.std.proofs.Common.{◌≡◌, ◌+◌, ◌++◌, ◌∷◌, [], take, get_or, None, sym, subst}
use Rattle.std.proofs.lemmas.List.{take_more}
use Rattle.clause_index.specs.Chains.{KnowKeysOf}
use Rattle.clause_index.specs.declared.key.HeadKey.{HeadKey}
use Rattle.clause_index.proofs.index.put_keys.Goals as goal

pub loop-head-preserved : goal.loop-head-preserved
loop-head-preserved c =
    let none : HeadKey = record { name = 0; arity = 0; first = None } in
    let i = c.loop-head.head-index in
    let heads = c.args.heads.now in
    let more : take (i + 1) heads ≡ take i heads ++ get_or heads i none ∷ [] = take_more heads i none c.loop-head-test.true in
    (c.put_key.ensures.firsts, subst (λ hs. KnowKeysOf hs c.put_key.new.named.items) (sym more) (c.put_key.ensures.key (take i heads) c.loop-head.invariant.1))
