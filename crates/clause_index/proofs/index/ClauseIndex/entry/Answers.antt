use Rattle.std.proofs.Common.{◌≡◌, ◌∙◌, Some, ap, refl, sym, subst, IfSome, length, slice_get}
use Rattle.std.proofs.lemmas.Option.{slice_get_read}
use Rattle.clause_index.specs.Chains.{AreFirstsIn, AreFirstsOf, KnowsKeysOf}
use Rattle.clause_index.proofs.NamedLemmas.{firsts_in}
use Rattle.clause_index.proofs.index.ClauseIndex.entry.Goals as goal

pub returns-in-Some : goal.returns-in-Some
returns-in-Some c =
    let f = c.in-Some.firsts.now in
    let heads = c.self.inside.heads.items in
    let h = c.in-Some.ensures.lookup in
    let read : slice_get c.self.inside.named.items c.args.name ≡ Some f = ap (λ xs. slice_get xs c.args.name) (sym c.deref.ensures.value) ∙ slice_get_read c.deref.result.now (length c.deref.result.now) c.args.name f refl h.3.0 (h.3.1 f) in
    let firsts = subst (λ o. IfSome o (AreFirstsOf c.self.inside.firsts c.args.name)) read (c.self.invariant.named_are c.args.name) in
    let known = subst (λ o. IfSome o (KnowsKeysOf heads c.args.name)) read (c.self.invariant.keys_are c.args.name) in
    subst (λ hs. AreFirstsIn hs c.args.name c.args.arity f) c.self.view_is
    (firsts_in heads c.self.inside.firsts c.args.name c.args.arity f c.self.invariant.firsts_are firsts known c.if-firsts-arity.true)
