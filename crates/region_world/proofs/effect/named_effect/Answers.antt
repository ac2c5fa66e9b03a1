use Rattle.std.proofs.Common.{subst}
use Rattle.std.specs.Prelude.{codes}
use Rattle.clause_compile.specs.AtomNumbers.{name_at}
use Rattle.cell_store.specs.StoreView.{meaning, text_in}
use Rattle.std_builtins.specs.WorldGoals.{IsWorldGoal, writing_name}
use Rattle.region_world.proofs.AskedEffectLemmas.{asks_alone, asks_with, asks_with_two, asks_with_three}
use Rattle.region_world.proofs.effect.named_effect.Goals as goal

pub returns-in_ok-resolved-in-Write : goal.returns-in_ok-resolved-in-Write
returns-in_ok-resolved-in-Write c = λ goal is.
    let st = c.args.store.now in
    let named = subst (λ w. IsWorldGoal w (name_at (text_in st).names c.args.form.name) c.args.form.arguments.count) c.in-Write.is c.requires.named in
    c.writing.ensures (meaning st goal) (asks_with st c.args.form (writing_name c.in-Write.style) named.0 goal is c.in_ok-resolved-in-Write.field-0 named.1 c.in_ok-resolved-in-Write.ensures)

pub returns-in-Nl : goal.returns-in-Nl
returns-in-Nl c = λ goal is.
    let st = c.args.store.now in
    let named = subst (λ w. IsWorldGoal w (name_at (text_in st).names c.args.form.name) c.args.form.arguments.count) c.in-Nl.is c.requires.named in
    asks_alone st c.args.form (codes "nl") named.0 goal is named.1

pub returns-in-Halt : goal.returns-in-Halt
returns-in-Halt c = λ goal is.
    let st = c.args.store.now in
    let named = subst (λ w. IsWorldGoal w (name_at (text_in st).names c.args.form.name) c.args.form.arguments.count) c.in-Halt.is c.requires.named in
    asks_alone st c.args.form (codes "halt") named.0 goal is named.1

pub returns-in_ok-resolved-in-PutChar : goal.returns-in_ok-resolved-in-PutChar
returns-in_ok-resolved-in-PutChar c = λ goal is.
    let st = c.args.store.now in
    let named = subst (λ w. IsWorldGoal w (name_at (text_in st).names c.args.form.name) c.args.form.arguments.count) c.in-PutChar.is c.requires.named in
    asks_with st c.args.form (codes "put_char") named.0 goal is c.in_ok-resolved-in-PutChar.field-0 named.1 c.in_ok-resolved-in-PutChar.ensures

pub returns-in_ok-resolved-in-Asserta : goal.returns-in_ok-resolved-in-Asserta
returns-in_ok-resolved-in-Asserta c = λ goal is.
    let st = c.args.store.now in
    let named = subst (λ w. IsWorldGoal w (name_at (text_in st).names c.args.form.name) c.args.form.arguments.count) c.in-Asserta.is c.requires.named in
    asks_with st c.args.form (codes "asserta") named.0 goal is c.in_ok-resolved-in-Asserta.field-0 named.1 c.in_ok-resolved-in-Asserta.ensures

pub returns-in_ok-resolved-in-Assertz : goal.returns-in_ok-resolved-in-Assertz
returns-in_ok-resolved-in-Assertz c = λ goal is.
    let st = c.args.store.now in
    let named = subst (λ w. IsWorldGoal w (name_at (text_in st).names c.args.form.name) c.args.form.arguments.count) c.in-Assertz.is c.requires.named in
    asks_with st c.args.form (codes "assertz") named.0 goal is c.in_ok-resolved-in-Assertz.field-0 named.1 c.in_ok-resolved-in-Assertz.ensures

pub returns-in_ok-resolved-in-Retract : goal.returns-in_ok-resolved-in-Retract
returns-in_ok-resolved-in-Retract c = λ goal is.
    let st = c.args.store.now in
    let named = subst (λ w. IsWorldGoal w (name_at (text_in st).names c.args.form.name) c.args.form.arguments.count) c.in-Retract.is c.requires.named in
    asks_with st c.args.form (codes "retract") named.0 goal is c.in_ok-resolved-in-Retract.field-0 named.1 c.in_ok-resolved-in-Retract.ensures

pub returns-in_ok-resolved-in-Abolish : goal.returns-in_ok-resolved-in-Abolish
returns-in_ok-resolved-in-Abolish c = λ goal is.
    let st = c.args.store.now in
    let named = subst (λ w. IsWorldGoal w (name_at (text_in st).names c.args.form.name) c.args.form.arguments.count) c.in-Abolish.is c.requires.named in
    asks_with st c.args.form (codes "abolish") named.0 goal is c.in_ok-resolved-in-Abolish.field-0 named.1 c.in_ok-resolved-in-Abolish.ensures

pub returns-in_ok-resolved-in-HaltWith : goal.returns-in_ok-resolved-in-HaltWith
returns-in_ok-resolved-in-HaltWith c = λ goal is.
    let st = c.args.store.now in
    let named = subst (λ w. IsWorldGoal w (name_at (text_in st).names c.args.form.name) c.args.form.arguments.count) c.in-HaltWith.is c.requires.named in
    asks_with st c.args.form (codes "halt") named.0 goal is c.in_ok-resolved-in-HaltWith.field-0 named.1 c.in_ok-resolved-in-HaltWith.ensures

pub returns-in_ok-resolved-in-Clause-2 : goal.returns-in_ok-resolved-in-Clause-2
returns-in_ok-resolved-in-Clause-2 c = λ goal is.
    let st = c.args.store.now in
    let named = subst (λ w. IsWorldGoal w (name_at (text_in st).names c.args.form.name) c.args.form.arguments.count) c.in-Clause.is c.requires.named in
    asks_with_two st c.args.form (codes "clause") named.0 goal is c.in_ok-resolved-in-Clause.field-0 c.in_ok-resolved-in-Clause-2.field-0 named.1 c.in_ok-resolved-in-Clause.ensures c.in_ok-resolved-in-Clause-2.ensures

pub returns-in_ok-resolved-in-Op-3 : goal.returns-in_ok-resolved-in-Op-3
returns-in_ok-resolved-in-Op-3 c = λ goal is.
    let st = c.args.store.now in
    let named = subst (λ w. IsWorldGoal w (name_at (text_in st).names c.args.form.name) c.args.form.arguments.count) c.in-Op.is c.requires.named in
    asks_with_three st c.args.form (codes "op") named.0 goal is c.in_ok-resolved-in-Op.field-0 c.in_ok-resolved-in-Op-2.field-0 c.in_ok-resolved-in-Op-3.field-0 named.1 c.in_ok-resolved-in-Op.ensures c.in_ok-resolved-in-Op-2.ensures c.in_ok-resolved-in-Op-3.ensures

pub returns-in_ok-resolved-in-CurrentOp-3 : goal.returns-in_ok-resolved-in-CurrentOp-3
returns-in_ok-resolved-in-CurrentOp-3 c = λ goal is.
    let st = c.args.store.now in
    let named = subst (λ w. IsWorldGoal w (name_at (text_in st).names c.args.form.name) c.args.form.arguments.count) c.in-CurrentOp.is c.requires.named in
    asks_with_three st c.args.form (codes "current_op") named.0 goal is c.in_ok-resolved-in-CurrentOp.field-0 c.in_ok-resolved-in-CurrentOp-2.field-0 c.in_ok-resolved-in-CurrentOp-3.field-0 named.1 c.in_ok-resolved-in-CurrentOp.ensures c.in_ok-resolved-in-CurrentOp-2.ensures c.in_ok-resolved-in-CurrentOp-3.ensures
