use Rattle.std.proofs.Common.{◌≡◌, map, Some, refl, sym, ap, ◌∙◌, subst}
use Rattle.au_model.specs.Terms.Each.{Each}
use Rattle.cell_store.specs.StoreView.{StoreView}
use Rattle.task_region.specs.DeferredItems.{item_of, IsDeferredOver}
use Rattle.task_region.specs.TaskStandings.{HasOwnRun}
use Rattle.task_region.proofs.FloorLemmas.{over_stays}
use Rattle.task_region.proofs.StartLemmas.{stands_at_start, has_run}
use Rattle.task_region.proofs.task.TaskRegion.new.Goals as goal

pub invariant_of-result : goal.invariant_of-result
invariant_of-result c =
    let same : c.next-variables.result ≡ c.args.region.store.now.next = c.next-variables.ensures.next ∙ ap (λ (st : StoreView). st.now.next) c.store.ensures.store in
    let items = map item_of c.args.deferred.items in
    record {
      deferred = subst (λ n. Each (IsDeferredOver n c.args.floor) items) (sym same) c.requires.deferred;
      next = c.in_ok-position.ensures.leaves.position;
      run =
          subst (λ n. HasOwnRun (record { region = c.leave_rest.new.region; floor = c.args.floor; variables = n; deferred = items; next = Some c.in_ok-position.position })) (sym same)
          (has_run c.args.region c.lay_floor.new.region c.leave_rest.new.region c.args.floor items c.in_ok-position.position c.in_ok-lay_floor.ensures.lays c.in_ok-position.ensures.leaves);
    }

pub returns : goal.returns
returns c =
    let items = map item_of c.args.deferred.items in
    let r = c.lay_floor.new.region in
    let new = c.leave_rest.new.region in
    let lays = c.in_ok-lay_floor.ensures.lays in
    let leaves = c.in_ok-position.ensures.leaves in
    record {
      starts = record {
        stands = stands_at_start c.args.region r new c.args.floor items c.in_ok-position.position lays leaves;
        going = refl;
        over = λ named. over_stays r new c.args.floor named (c.in_ok-lay_floor.ensures.over named) (leaves.stands named) leaves.choices;
        floor_is = refl;
        deferred = refl;
        variables = c.next-variables.ensures.next ∙ ap (λ (st : StoreView). st.now.next) c.store.ensures.store;
        text = leaves.text ∙ lays.text;
        start = leaves.floor ∙ lays.start;
        next = leaves.next ∙ ap (λ m. m.next) lays.now;
      };
    }
