use Rattle.std.proofs.Common.{◌≡◌, ◌<◌, ℕ, suc, ◌+◌, ◌-◌, ◌∷◌, drop, length, sym, subst, ap₂, ◌∙◌, arith}
use Rattle.std.proofs.lemmas.List.{drop_more}
use Rattle.clause_index.specs.declared.key.Class.{Class}
use Rattle.clause_index.specs.declared.key.HeadKey.{HeadKey}
use Rattle.clause_index.specs.Classes.{key_class}
use Rattle.clause_index.specs.Chains.{AreLinkedFrom, IsChained}
use Rattle.clause_index.proofs.ChainLemmas.{linked_more}
use Rattle.clause_index.proofs.index.ClauseIndex.new.Goals as goal

pub loop-from-preserved : goal.loop-from-preserved
loop-from-preserved c =
    let heads = c.args.heads.items in
    let from : ℕ = c.loop-from.from - 1 in
    let head = c.index-head.result.now in
    let some = c.loop-from-test.true in
    let most = c.loop-from.invariant.0 in
    let within : from < length heads = omega (arith, some, most) in
    let last : c.loop-from.from ≡ suc from = omega (arith, some) in
    let next : from + 1 ≡ suc from = omega arith in
    let here : drop from heads ≡ head ∷ drop (suc from) heads = drop_more heads from head within ∙ ap₂ (λ (h : HeadKey) (n : ℕ). h ∷ drop n heads) (sym c.index-head.ensures) next in
    let before : AreLinkedFrom heads c.loop-from.next_of_procedure.items c.loop-from.next_of_class.items c.loop-from.firsts (suc from) =
    subst (AreLinkedFrom heads c.loop-from.next_of_procedure.items c.loop-from.next_of_class.items c.loop-from.firsts) last c.loop-from.invariant.1 in
    let own : IsChained from (key_class head) c.link.new.firsts c.link-in-loop-from.new.firsts c.loop-from.next_of_class.items c.link-in-loop-from.new.links.items =
    subst (λ (k : Class). IsChained from k c.link.new.firsts c.link-in-loop-from.new.firsts c.loop-from.next_of_class.items c.link-in-loop-from.new.links.items) c.class.ensures c.in_ok-link-2.ensures in
    (omega (arith, most), linked_more heads c.loop-from.next_of_procedure.items c.loop-from.next_of_class.items c.link.new.links.items c.link-in-loop-from.new.links.items c.loop-from.firsts c.link.new.firsts c.link-in-loop-from.new.firsts from head here before c.in_ok-link.ensures own)
