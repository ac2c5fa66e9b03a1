use Rattle.std.proofs.Common.{◌≡◌, ◌+◌, [], ◌∷◌, ◌++◌, List, map, take, ap, ◌∙◌, sym, subst}
use Rattle.std.proofs.lemmas.List.{map-append}
use Rattle.std.specs.Arc.{arc_value}
use Rattle.cell_store.proofs.UndoingLemmas.{front_at}
use Rattle.run_model.specs.Programs.Clauses.{Clause}
use Rattle.clause_index.specs.declared.key.HeadKey.{HeadKey}
use Rattle.clause_index.specs.HeadKeys.{IsHeadKeyOf}
use Rattle.au_term.specs.Term.{Term}
use Rattle.region_split.specs.Texts.{ArePlacedClauses, AreHeadKeys}
use Rattle.region_split.specs.declared.text.PlacedClause.{PlacedClause}
use Rattle.region_split.proofs.TextLemmas.{one_more_clause}
use Rattle.region_split.proofs.HeadLemmas.{one_more_head}
use Rattle.region_split.proofs.text.place_clauses.Goals as goal

pub loop-clause-preserved : goal.loop-clause-preserved
loop-clause-preserved c =
    let code = c.place_clause.new.code in
    let bodies = c.place_clause.new.bodies.items in
    let whole : map arc_value (take (c.loop-clause.clause-index + 1) c.args.clauses.now) ≡ map arc_value (take c.loop-clause.clause-index c.args.clauses.now) ++ c.deref.result.now ∷ [] =
    ap (map arc_value) (front_at c.args.clauses.now c.loop-clause.clause-index c.clause-item.result c.loop-clause-test.true c.clause-item.is)
    ∙ (map-append arc_value (take c.loop-clause.clause-index c.args.clauses.now) (c.clause-item.result ∷ [])
    ∙ ap (λ x. map arc_value (take c.loop-clause.clause-index c.args.clauses.now) ++ x ∷ []) (sym c.deref.ensures)) in
    let before = map arc_value (take c.loop-clause.clause-index c.args.clauses.now) in
    let clause = c.deref.result.now in (
      subst (λ (cs : List Clause). ArePlacedClauses code bodies cs c.push-in-loop-clause.new.self.items) (sym whole)
          (subst (λ (ps : List PlacedClause). ArePlacedClauses code bodies (before ++ clause ∷ []) ps) (sym c.in_ok-push-2.ensures.items)
          (one_more_clause c.loop-clause.code code c.loop-clause.bodies.items bodies before c.loop-clause.placed.items clause c.in_ok-place.place c.loop-clause.invariant.0 c.in_ok-place.ensures)),
      subst (λ (cs : List Clause). AreHeadKeys code.names cs c.push.new.self.items) (sym whole)
          (subst (λ (ks : List HeadKey). AreHeadKeys code.names (before ++ clause ∷ []) ks) (sym c.in_ok-push.ensures.items)
          (one_more_head c.loop-clause.code code before c.loop-clause.heads.items clause c.of_head.result c.in_ok-place.ensures.keeps c.loop-clause.invariant.1
          (subst (λ (t : Term). IsHeadKeyOf code.names t c.of_head.result) c.in_ok-place.ensures.placed.head c.of_head.ensures))),
    )
