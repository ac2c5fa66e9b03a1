use Rattle.std.proofs.Common.{◌∙◌, length, drop, refl, sym, ap, subst}
use Rattle.std.specs.List.{Contains}
use Rattle.std.proofs.lemmas.Result.{IfOk-weaker}
use Rattle.cell_store.specs.MadeBindings.{IsSince, bindings_of}
use Rattle.cell_store.proofs.MadeBindingLemmas.{since_within, taken_rest}
use Rattle.cell_store.proofs.made.bindings_after.Goals as goal

pub bindings_of-requires : goal.bindings_of-requires
bindings_of-requires c = λ v h.
    let t = c.args.trail.now in
    let m = c.args.mark in
    let rest = taken_rest m.trail t t refl in
    since_within t m.trail m.variables (length c.args.cells.now) v c.requires.there
    (subst (λ n. IsSince (drop m.trail t) m.variables n v) c.len.ensures (subst (λ vs. IsSince vs m.variables c.len.result v) rest (c.in_ok-variables.ensures.others v (subst (λ vs. Contains vs v) c.deref.ensures.value h))))

pub returns : goal.returns
returns c =
    let t = c.args.trail.now in
    let m = c.args.mark in
    let rest = taken_rest m.trail t t refl in
    IfOk-weaker c.bindings_of.result _ _ (λ bs is. record {
      variables = c.in_ok-variables.variables.items;
      rising = c.in_ok-variables.ensures.rising;
      all = λ v h. c.in_ok-variables.ensures.all v (subst (λ vs. IsSince vs m.variables c.len.result v) (sym rest) (subst (λ n. IsSince (drop m.trail t) m.variables n v) (sym c.len.ensures) h));
      others = λ v h. subst (λ n. IsSince (drop m.trail t) m.variables n v) c.len.ensures (subst (λ vs. IsSince vs m.variables c.len.result v) rest (c.in_ok-variables.ensures.others v h));
      are = is ∙ ap (bindings_of c.args.cells.now) c.deref.ensures.value;
    }) c.bindings_of.ensures
