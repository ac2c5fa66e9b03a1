use Rattle.std.proofs.Common.{◌≡◌, ◌+◌, ◌∙◌, [], ◌∷◌, ◌++◌, take, get_or, sym, ap}
use Rattle.std.proofs.lemmas.List.{take_more}
use Rattle.std.proofs.lemmas.List.Elements.{Contains-get_or}
use Rattle.cell_store.specs.MadeBindings.{bindings_of}
use Rattle.cell_store.proofs.MadeBindingLemmas.{more_bound, more_free}
use Rattle.cell_store.proofs.made.bindings_of.Goals as goal
use Rattle.cell_store.proofs.made.bindings_of.Goals.{in-Some+in_ok-push, in_default}

pub get-requires : goal.get-requires
get-requires c = c.requires (get_or c.args.variables.now c.loop-variable.variable-index 0) (Contains-get_or c.args.variables.now c.loop-variable.variable-index 0 c.loop-variable-test.true)

pub loop-variable-preserved : goal.loop-variable-preserved
loop-variable-preserved c =
    let cells = c.args.cells.now in
    let i = c.loop-variable.variable-index in
    let v = get_or c.args.variables.now i 0 in
    let done = take i c.args.variables.now in
    let more : bindings_of cells (done ++ v ∷ []) ≡ bindings_of cells (take (i + 1) c.args.variables.now) = ap (bindings_of cells) (sym (take_more c.args.variables.now i 0 c.loop-variable-test.true)) in
    elim c.match-get.branch [
      | in-Some+in_ok-push w ↦
          ap (λ bs. bs.items) w.bindings-is
          ∙ (w.in_ok-push.ensures.items ∙ (ap (λ bs. bs ++ (v, w.in-Some.value) ∷ []) c.loop-variable.invariant ∙ (sym (more_bound cells done v w.in-Some.value w.in-Some.ensures.0 w.in-Some.ensures.1) ∙ more)))
      | in_default w ↦ ap (λ bs. bs.items) w.bindings-is ∙ (c.loop-variable.invariant ∙ (sym (more_free cells done v w.in_default.ensures) ∙ more))
    ]
