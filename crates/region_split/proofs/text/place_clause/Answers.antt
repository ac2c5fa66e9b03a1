use Rattle.std.proofs.Common.{◌≡◌, true, refl, ◌∙◌, subst}
use Rattle.au_model.specs.Terms.Forms.{is_callable}
use Rattle.region_split.proofs.TextLemmas.{clause_added}
use Rattle.region_split.proofs.text.place_clause.Goals as goal

pub returns : goal.returns
returns c =
    clause_added c.args.code.now c.push_clause.new.self c.args.bodies.now.items c.push_body.new.bodies.items c.args.clause.now c.in_ok-places.places c.deref.result.now _ c.in_ok-places.ensures
    (subst (λ t. is_callable t ≡ true) c.head-head.ensures.head c.head-head.ensures.callable) c.deref.ensures.value c.in_ok-push_body.ensures refl (c.len-body.ensures ∙ c.args.bodies.now.ok.0) refl c.first_keyed_argument-keyed.ensures c.first_inner_constant-inner.ensures
