use Rattle.std.proofs.Common.{◌+◌, ◌++◌, ◌∷◌, [], ◌∙◌, ap₂, arith}
use Rattle.au_term.specs.declared.cell.Cell.TheVariants.{Functor}
use Rattle.meta_call.proofs.CalledTermLemmas.{own_count, has_begun}
use Rattle.meta_call.proofs.called.begin.Goals as goal

pub overflow_add-count : goal.overflow_add-count
overflow_add-count c = let own = own_count c.args.store.now c.args.callee c.parts-name.result.0 c.parts-name.result.1 c.parts-name.ensures in omega (arith, own, c.requires.most)

pub push-requires-clause-sound : goal.push-requires-clause-sound
push-requires-clause-sound c = let own = own_count c.args.store.now c.args.callee c.parts-name.result.0 c.parts-name.result.1 c.parts-name.ensures in (omega (arith, c.requires.some), omega (arith, own, c.requires.most))

pub returns : goal.returns
returns c =
    has_begun c.args.store.now c.args.callee c.args.further c.parts-name.result.1 c.parts-name.result.0 c.push.new.self c.new-pending.result.items c.put_arguments.new.pending.items c.put_arguments-2.new.pending.items c.parts-name.ensures c.requires.further c.requires.some c.new-pending.ensures.items c.in_ok-put_arguments.ensures c.in_ok-put_arguments-2.ensures
    (c.in_ok-push.ensures.ok ∙ ap₂ (λ cs f. cs ++ Functor f (c.parts-name.result.1.count + c.args.further.count) ∷ []) c.new-builder.ensures (c.in_ok-share.ensures ∙ c.name.ensures))
