use Rattle.std.proofs.Common.{◌≡◌, true, map, take, length, ◌∙◌, sym, subst, arith}
use Rattle.std.proofs.lemmas.List.{length-map, length-take-le}
use Rattle.std.specs.Arc.{arc_value}
use Rattle.au_model.specs.Terms.Forms.{is_callable}
use Rattle.run_model.specs.Programs.Clauses.{Clause as ClauseTerms}
use Rattle.proc_index.specs.ProcedureIndex.{IsIndexOf, IsAdded}
use Rattle.proc_index.proofs.IndexLemmas.{indexed_more, next_taken, each_pushed}
use Rattle.proc_index.proofs.procs.Procs.new.Goals as goal

pub loop-place-preserved : goal.loop-place-preserved
loop-place-preserved c =
    let items = c.deref-clause-items.result.now in
    let p = c.loop-place.place in
    let done = map arc_value (take p items) in
    let long : length done ≡ p = length-map (take p items) arc_value ∙ length-take-le p items (omega arith) in
    let clause = arc_value c.clause-item.result in
    let added : IsAdded c.loop-place.index c.add.new.index (length done) clause =
    subst (λ n. IsAdded c.loop-place.index c.add.new.index n clause) (sym long) (subst (λ (d : ClauseTerms). IsAdded c.loop-place.index c.add.new.index p d) c.deref.ensures c.in_ok-add.ensures.added) in
    subst (IsIndexOf c.add.new.index) (sym (next_taken arc_value items p c.clause-item.result c.loop-place-test.true c.clause-item.is)) (record {
      indexed = indexed_more c.loop-place.index c.add.new.index done clause c.loop-place.invariant.indexed added;
      heads = each_pushed (λ (d : ClauseTerms). is_callable d.head ≡ true) done clause c.loop-place.invariant.heads (subst (λ (d : ClauseTerms). is_callable d.head ≡ true) c.deref.ensures c.in_ok-add.ensures.head);
    })
