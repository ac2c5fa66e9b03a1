use Rattle.std.proofs.Common.{◌≡◌, ◌∙◌}
use Rattle.au_term.specs.Term.{Term}
use Rattle.run_model.specs.Programs.Clauses.{Clause as ClauseTerms}
use Rattle.clause_compile.proofs.RenumberingLemmas.{is_kept, kept_at, head_is, body_is}
use Rattle.clause_compile.proofs.clause.numbered_clause.Goals as goal

same_clause : {a b c d : Term} → a ≡ b → c ≡ d → ◌≡◌ {A = ClauseTerms} (record { head = a; body = c }) (record { head = b; body = d })
same_clause p q = cc

pub invariant_of-result : goal.invariant_of-result
invariant_of-result c =
    let h = c.in_ok-head.head in
    let b = c.in_ok-body.body in
    let kept = is_kept c.args.head.now c.args.body.now h.term b.term c.new.result h.renaming b.renaming c.in_ok-goals.goals.items c.count-vars.result c.new.ensures c.in_ok-head.ensures.seen c.in_ok-head.ensures.copy c.in_ok-body.ensures.seen c.in_ok-body.ensures.copy
    c.requires.head c.requires.body c.count-vars.ensures c.in_ok-goals.ensures in
    kept_at c.in_ok-goals.goals.items c.count-vars.result c.in_ok-new.ensures.ok c.in_ok-new-2.ensures.ok kept

pub returns : goal.returns
returns c =
    let h = c.in_ok-head.head in
    let b = c.in_ok-body.body in
    same_clause (c.in_ok-new.ensures.ok ∙ head_is c.args.head.now c.args.body.now h.term b.term c.new.result h.renaming b.renaming c.in_ok-goals.goals.items c.count-vars.result c.new.ensures c.in_ok-head.ensures.seen c.in_ok-head.ensures.copy c.in_ok-body.ensures.seen c.in_ok-body.ensures.copy)
    (c.in_ok-new-2.ensures.ok ∙ body_is c.args.head.now c.args.body.now h.term b.term c.new.result h.renaming b.renaming c.in_ok-goals.goals.items c.count-vars.result c.new.ensures c.in_ok-head.ensures.seen c.in_ok-head.ensures.copy c.in_ok-body.ensures.seen c.in_ok-body.ensures.copy)
