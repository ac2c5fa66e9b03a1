use Rattle.std.proofs.Common.{◌≡◌, ◌∙◌, ap, sym, subst, Some, slice_get, IfSome}
use Rattle.clause_index.specs.Chains.{AreFirstsOf, AreNamedFirsts, LearnKeyOf}
use Rattle.clause_index.proofs.NamedLemmas.{firsts_changed, key_learned, keys_stay}
use Rattle.clause_index.proofs.index.put_key.Goals as goal

pub returns-in_default-firsts_at-clause-key : goal.returns-in_default-firsts_at-clause-key
returns-in_default-firsts_at-clause-key c =
    let read : c.firsts_at.result ≡ slice_get c.args.named.now.items c.args.head.name = c.firsts_at.ensures ∙ ap (λ xs. slice_get xs c.args.head.name) c.deref.ensures.value in
    keys_stay c.args.head c.args.named.now.items (λ f key got arity first. c.in_default-firsts_at.not-Some f (read ∙ got))

pub and_key-requires : goal.and_key-requires
and_key-requires c =
    let read : c.firsts_at.result ≡ slice_get c.args.named.now.items c.args.head.name = c.firsts_at.ensures ∙ ap (λ xs. slice_get xs c.args.head.name) c.deref.ensures.value in
    subst (λ o. IfSome o (AreFirstsOf c.args.firsts.now c.args.head.name)) (sym read ∙ c.in-Some-firsts_at.is) (c.requires c.args.head.name)

pub returns-then-known-head-clause-firsts : goal.returns-then-known-head-clause-firsts
returns-then-known-head-clause-firsts c =
    subst (AreNamedFirsts c.args.firsts.now) (sym c.put_firsts.ensures) (firsts_changed c.args.firsts.now c.args.named.now.items c.args.head.name c.and_key.result c.and_key.ensures.firsts c.requires)

pub returns-then-known-head-clause-key : goal.returns-then-known-head-clause-key
returns-then-known-head-clause-key c =
    let read : c.firsts_at.result ≡ slice_get c.args.named.now.items c.args.head.name = c.firsts_at.ensures ∙ ap (λ xs. slice_get xs c.args.head.name) c.deref.ensures.value in
    subst (LearnKeyOf c.args.head c.args.named.now.items) (sym c.put_firsts.ensures)
    (key_learned c.args.head c.args.named.now.items c.in-Some-firsts_at.known c.and_key.result c.in-Some.key c.in-Some.is (sym read ∙ c.in-Some-firsts_at.is) c.and_key.ensures.key)

pub returns-else-known-head-clause-key : goal.returns-else-known-head-clause-key
returns-else-known-head-clause-key c =
    let read : c.firsts_at.result ≡ slice_get c.args.named.now.items c.args.head.name = c.firsts_at.ensures ∙ ap (λ xs. slice_get xs c.args.head.name) c.deref.ensures.value in
    keys_stay c.args.head c.args.named.now.items (λ f key got arity first.
    let is : Some f ≡ Some c.in-Some-firsts_at.known = sym got ∙ (sym read ∙ c.in-Some-firsts_at.is) in
    let same : c.in-Some-firsts_at.known ≡ f = cc in
    c.if-known-head.false (ap (λ g. g.arity) same ∙ sym arity))
