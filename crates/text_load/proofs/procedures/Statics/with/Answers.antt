use Rattle.std.proofs.Common.{◌∙◌, ◌++◌, ◌∷◌, [], List, ap, sym, refl, map}
use Rattle.std.specs.Arc.{arc_value}
use Rattle.std.proofs.lemmas.List.{map-append}
use Rattle.au_term.specs.Term.{argument_count}
use Rattle.au_model.specs.Terms.Forms.{name_of}
use Rattle.dyn_clauses.proofs.EntriesLemmas.{static_added}
use Rattle.run_model.specs.Programs.Clauses.{Clause, is_defined}
use Rattle.text_load.proofs.ProcedureLemmas.{clause_added}
use Rattle.text_load.proofs.procedures.Statics.with.Goals as goal

pub invariant_of-self : goal.invariant_of-self
invariant_of-self c i =
    let keys = c.self.inside.defined.keys in
    let clauses = c.self.inside.clauses.items in
    let procedure = c.in_ok-of_clause.field-0 in
    let added = static_added keys c.insert.new.self.keys keys procedure c.in_ok-insert.ensures.updates.0 (λ j. refl) in
    clause_added keys c.insert.new.self.keys (map arc_value clauses) procedure (arc_value c.args.clause) (c.in_ok-of_clause.ensures.0 ∙ ap (λ (k : Clause). name_of k.head) c.deref.ensures) (c.in_ok-of_clause.ensures.1 ∙ ap (λ (k : Clause). argument_count k.head) c.deref.ensures) c.self.invariant added i
    ∙ ap (λ (cs : List Clause). is_defined cs i.name i.arity) (sym (map-append arc_value clauses (c.args.clause ∷ [])) ∙ ap (map arc_value) (sym c.in_ok-push.ensures.items))
