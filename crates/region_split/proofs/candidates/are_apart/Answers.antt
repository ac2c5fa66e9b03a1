use Rattle.std.proofs.Common.{◌≡◌, ◌<◌, ◌∙◌, sym, arith, subst}
use Rattle.std.specs.Prelude.{IfSome, Some}
use Rattle.au_term.specs.Term.{argument}
use Rattle.proc_index.specs.Keys.{key_of}
use Rattle.cell_store.specs.StoreView.{text_in}
use Rattle.clause_index.specs.HeadKeys.{named_key}
use Rattle.region_split.specs.Texts.{IsInnerConstant, IsKeyedArgument}
use Rattle.region_split.proofs.KeyLemmas.{further_there, further_key, further_within, further_argument}
use Rattle.region_split.proofs.ToldApartLemmas.{told_here, told_inside_here}
use Rattle.region_split.proofs.candidates.are_apart.Goals as goal

pub argument-own-requires : goal.argument-own-requires
argument-own-requires c =
    let functor = c.functor-name.ensures.functor c.in-Compound.base c.in-Compound.ensures.there in
    further_there c.args.store.now c.args.goal c.in-Compound.at c.in-Compound.base _ _ c.in-Compound.ensures functor c.in-Some.inner.of c.if-inner-count.true

pub returns-then-tell_apart : goal.returns-then-tell_apart
returns-then-tell_apart c same next clause is =
    let st = c.args.store.now in
    let inner = c.in-Some.inner in
    let functor = c.functor-name.ensures.functor c.in-Compound.base c.in-Compound.ensures.there in
    let own = further_argument st c.args.goal c.in-Compound.at c.in-Compound.base _ _ c.in-Compound.ensures functor inner.of c.argument-own.result c.if-inner-count.true c.argument-own.ensures.term in
    let key = subst (λ t. IfSome c.inner_key_of_value-own.result (λ x. named_key (text_in st).names (Some x) ≡ key_of (argument inner.number t))) own c.inner_key_of_value-own.ensures.key in
    let known = subst (IsInnerConstant c.args.text.now.code.names clause.head) c.in-Some.is (c.placed-placed.ensures.clause clause is).inner in
    told_inside_here st c.args.text.now _ clause inner.of inner.number next c.inner_key_of_value-own.result (Some inner.key) c.requires.program c.next-next.ensures.sound c.inner_key_of_value-own.ensures.there key
    known.0 known.1 (sym c.tell_apart.ensures ∙ c.if-tell_apart.true)
    (further_within st c.args.goal c.in-Compound.at c.in-Compound.base _ _ c.in-Compound.ensures functor inner.of c.if-inner-count.true)

pub argument-requires : goal.argument-requires
argument-requires c =
    let functor = c.functor-name.ensures.functor c.in-Compound.base c.in-Compound.ensures.there in
    further_there c.args.store.now c.args.goal c.in-Compound.at c.in-Compound.base _ _ c.in-Compound.ensures functor c.in-Some-keyed.keyed.number c.if-keyed-count.true

pub returns-then-tell_apart-2 : goal.returns-then-tell_apart-2
returns-then-tell_apart-2 c same next clause is =
    let keyed = c.in-Some-keyed.keyed in
    let functor = c.functor-name.ensures.functor c.in-Compound.base c.in-Compound.ensures.there in
    let key = further_key c.args.store.now c.args.goal c.in-Compound.at c.in-Compound.base _ _ c.in-Compound.ensures functor keyed.number c.argument.result c.if-keyed-count.true c.argument.ensures.term in
    let known = subst (IsKeyedArgument c.args.text.now.code.names clause.head) c.in-Some-keyed.is (c.placed-placed.ensures.clause clause is).keyed in
    told_here c.args.store.now c.args.text.now _ clause keyed.number next c.key_of_value-own.result (Some keyed.key) c.requires.program c.next-next.ensures.sound c.key_of_value-own.ensures.there (c.key_of_value-own.ensures.key ∙ key)
    known.0 known.1 (sym c.tell_apart-then-keyed-count.ensures ∙ c.if-tell_apart-2.true)

pub argument-requires-in-loop-i : goal.argument-requires-in-loop-i
argument-requires-in-loop-i c =
    let functor = c.functor-name.ensures.functor c.in-Compound.base c.in-Compound.ensures.there in
    let few : c.loop-i.i < c.functor-name.result.1 = let e = c.min-i-end.ensures in let lt = c.loop-i-test.true in omega (arith, e, lt) in
    further_there c.args.store.now c.args.goal c.in-Compound.at c.in-Compound.base _ _ c.in-Compound.ensures functor c.loop-i.i few

pub returns-then-tell_apart-3 : goal.returns-then-tell_apart-3
returns-then-tell_apart-3 c same next clause is =
    let functor = c.functor-name.ensures.functor c.in-Compound.base c.in-Compound.ensures.there in
    let few : c.loop-i.i < c.functor-name.result.1 = let e = c.min-i-end.ensures in let lt = c.loop-i-test.true in omega (arith, e, lt) in
    let key = further_key c.args.store.now c.args.goal c.in-Compound.at c.in-Compound.base _ _ c.in-Compound.ensures functor c.loop-i.i c.argument-in-loop-i.result few c.argument-in-loop-i.ensures.term in
    told_here c.args.store.now c.args.text.now _ clause c.loop-i.i next c.key_of_value-own-in-loop-i.result c.argument_key.result c.requires.program c.next-next.ensures.sound c.key_of_value-own-in-loop-i.ensures.there (c.key_of_value-own-in-loop-i.ensures.key ∙ key)
    c.argument_key.ensures.there (c.argument_key.ensures.key clause is) (sym c.tell_apart-in-loop-i.ensures ∙ c.if-tell_apart-3.true)
