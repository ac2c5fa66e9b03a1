use Rattle.std.proofs.Common.{◌∷◌, [], refl, sym, subst, arith}
use Rattle.std.specs.Prelude.{codes}
use Rattle.std.proofs.lemmas.Result.{IfOk-weaker}
use Rattle.au_term.specs.Term.{argument_count, term_at, drop_terms}
use Rattle.au_model.specs.Terms.Forms.{name_of}
use Rattle.run_model.specs.Goals.Control.{call_outcome, either_form, throw_outcome, fail_goals, true_goals}
use Rattle.run_model.specs.Goals.Outcomes.{Replies, Solutions, Controls, GoesOnWith, TestOf, CutToScope, CatchOf, FindallOf}
use Rattle.run_model.specs.Programs.Bodies.{goals_of, call_of}
use Rattle.cell_store.specs.StoreView.{meaning}
use Rattle.region_control.specs.Replies.{LeavesOutcome}
use Rattle.region_control.specs.declared.replies.AfterGoal.TheVariants.{At, Failed}
use Rattle.std_builtins.specs.Controls.{IsControl}
use Rattle.region_run.proofs.InferenceLemmas.{infers_by, so_many, succeeds, fails, cuts, fail_named, call_taken, argument_read}
use Rattle.region_run.proofs.constructs.construct_taken.Goals as goal

pub either_taken-requires-clause-count : goal.either_taken-requires-clause-count
either_taken-requires-clause-count c =
    let r = c.args.region.now in
    let t = meaning r.store c.args.goal in
    so_many r c.args.goal c.args.form c.requires.form 2 (subst (λ k. IsControl k (name_of t) (argument_count t)) c.in-Either.is c.requires.control).1

pub returns-in-Either-clause-infers : goal.returns-in-Either-clause-infers
returns-in-Either-clause-infers c =
    let r = c.args.region.now in
    let t = meaning r.store c.args.goal in
    let named = subst (λ k. IsControl k (name_of t) (argument_count t)) c.in-Either.is c.requires.control in
    IfOk-weaker c.either_taken.result _ _ (λ after k. infers_by r c.args.goal c.args.form c.requires.form (codes ";") 2 (λ ts. Controls (either_form (term_at 0 ts) (term_at 1 ts))) named.0 named.1 (λ clauses next g. refl) c.either_taken.new.region c.args.place after k) c.either_taken.ensures.comes

pub then_taken-requires-clause-count : goal.then_taken-requires-clause-count
then_taken-requires-clause-count c =
    let r = c.args.region.now in
    let t = meaning r.store c.args.goal in
    so_many r c.args.goal c.args.form c.requires.form 2 (subst (λ k. IsControl k (name_of t) (argument_count t)) c.in-Then.is c.requires.control).1

pub returns-in-Then-clause-infers : goal.returns-in-Then-clause-infers
returns-in-Then-clause-infers c =
    let r = c.args.region.now in
    let t = meaning r.store c.args.goal in
    let named = subst (λ k. IsControl k (name_of t) (argument_count t)) c.in-Then.is c.requires.control in
    IfOk-weaker c.then_taken.result _ _ (λ after k. infers_by r c.args.goal c.args.form c.requires.form (codes "->") 2 (λ ts. Controls (TestOf (goals_of (term_at 0 ts)) (goals_of (term_at 1 ts)) fail_goals)) named.0 named.1 (λ clauses next g. refl) c.then_taken.new.region c.args.place after k) c.then_taken.ensures.comes

pub not_taken-requires-clause-count : goal.not_taken-requires-clause-count
not_taken-requires-clause-count c =
    let r = c.args.region.now in
    let t = meaning r.store c.args.goal in
    so_many r c.args.goal c.args.form c.requires.form 1 (subst (λ k. IsControl k (name_of t) (argument_count t)) c.in-Not.is c.requires.control).1

pub returns-in-Not-clause-infers : goal.returns-in-Not-clause-infers
returns-in-Not-clause-infers c =
    let r = c.args.region.now in
    let t = meaning r.store c.args.goal in
    let named = subst (λ k. IsControl k (name_of t) (argument_count t)) c.in-Not.is c.requires.control in
    IfOk-weaker c.not_taken.result _ _ (λ after k. infers_by r c.args.goal c.args.form c.requires.form (codes "\\+") 1 (λ ts. Controls (TestOf (call_of (term_at 0 ts) ∷ []) fail_goals true_goals)) named.0 named.1 (λ clauses next g. refl) c.not_taken.new.region c.args.place after k) c.not_taken.ensures.comes

pub once_taken-requires-clause-count : goal.once_taken-requires-clause-count
once_taken-requires-clause-count c =
    let r = c.args.region.now in
    let t = meaning r.store c.args.goal in
    so_many r c.args.goal c.args.form c.requires.form 1 (subst (λ k. IsControl k (name_of t) (argument_count t)) c.in-Once.is c.requires.control).1

pub returns-in-Once-clause-infers : goal.returns-in-Once-clause-infers
returns-in-Once-clause-infers c =
    let r = c.args.region.now in
    let t = meaning r.store c.args.goal in
    let named = subst (λ k. IsControl k (name_of t) (argument_count t)) c.in-Once.is c.requires.control in
    IfOk-weaker c.once_taken.result _ _ (λ after k. infers_by r c.args.goal c.args.form c.requires.form (codes "once") 1 (λ ts. Controls (TestOf (call_of (term_at 0 ts) ∷ []) true_goals fail_goals)) named.0 named.1 (λ clauses next g. refl) c.once_taken.new.region c.args.place after k) c.once_taken.ensures.comes

pub catch_taken-requires-clause-count : goal.catch_taken-requires-clause-count
catch_taken-requires-clause-count c =
    let r = c.args.region.now in
    let t = meaning r.store c.args.goal in
    so_many r c.args.goal c.args.form c.requires.form 3 (subst (λ k. IsControl k (name_of t) (argument_count t)) c.in-Catch.is c.requires.control).1

pub returns-in-Catch-clause-infers : goal.returns-in-Catch-clause-infers
returns-in-Catch-clause-infers c =
    let r = c.args.region.now in
    let t = meaning r.store c.args.goal in
    let named = subst (λ k. IsControl k (name_of t) (argument_count t)) c.in-Catch.is c.requires.control in
    IfOk-weaker c.catch_taken.result _ _ (λ after k. infers_by r c.args.goal c.args.form c.requires.form (codes "catch") 3 (λ ts. Controls (CatchOf (term_at 0 ts) (term_at 1 ts) (term_at 2 ts))) named.0 named.1 (λ clauses next g. refl) c.catch_taken.new.region c.args.place after k) c.catch_taken.ensures.comes

pub findall_taken-requires-clause-count : goal.findall_taken-requires-clause-count
findall_taken-requires-clause-count c =
    let r = c.args.region.now in
    let t = meaning r.store c.args.goal in
    so_many r c.args.goal c.args.form c.requires.form 3 (subst (λ k. IsControl k (name_of t) (argument_count t)) c.in-Findall.is c.requires.control).1

pub returns-in-Findall-clause-infers : goal.returns-in-Findall-clause-infers
returns-in-Findall-clause-infers c =
    let r = c.args.region.now in
    let t = meaning r.store c.args.goal in
    let named = subst (λ k. IsControl k (name_of t) (argument_count t)) c.in-Findall.is c.requires.control in
    IfOk-weaker c.findall_taken.result _ _ (λ after k. infers_by r c.args.goal c.args.form c.requires.form (codes "findall") 3 (λ ts. Controls (FindallOf (term_at 0 ts) (term_at 1 ts) (term_at 2 ts))) named.0 named.1 (λ clauses next g. refl) c.findall_taken.new.region c.args.place after k) c.findall_taken.ensures.comes

pub returns-in-Succeed-clause-infers : goal.returns-in-Succeed-clause-infers
returns-in-Succeed-clause-infers c =
    let r = c.args.region.now in
    let t = meaning r.store c.args.goal in
    let named = subst (λ k. IsControl k (name_of t) (argument_count t)) c.in-Succeed.is c.requires.control in
    infers_by r c.args.goal c.args.form c.requires.form (codes "true") 0 (λ ts. Controls (GoesOnWith [])) named.0 named.1 (λ clauses next g. refl) r c.args.place (At c.args.place.after) (succeeds r c.args.place c.requires.place)

pub returns-in-Fail-clause-infers : goal.returns-in-Fail-clause-infers
returns-in-Fail-clause-infers c =
    let r = c.args.region.now in
    let t = meaning r.store c.args.goal in
    let named = subst (λ k. IsControl k (name_of t) (argument_count t)) c.in-Fail.is c.requires.control in
    infers_by r c.args.goal c.args.form c.requires.form (name_of t) 0 (λ ts. Replies (Solutions [])) refl named.1 (λ clauses next g. fail_named (name_of t) clauses next g named.0) r c.args.place Failed (fails r c.args.place)

pub returns-in-Cut-clause-infers : goal.returns-in-Cut-clause-infers
returns-in-Cut-clause-infers c =
    let r = c.args.region.now in
    let t = meaning r.store c.args.goal in
    let named = subst (λ k. IsControl k (name_of t) (argument_count t)) c.in-Cut.is c.requires.control in
    infers_by r c.args.goal c.args.form c.requires.form (codes "!") 0 (λ ts. Controls CutToScope) named.0 named.1 (λ clauses next g. refl) c.cut.new.region c.args.place (At c.args.place.after) (cuts r c.cut.new.region c.args.place c.cut.ensures)

pub argument-ball-requires-clause-some : goal.argument-ball-requires-clause-some
argument-ball-requires-clause-some c =
    let r = c.args.region.now in
    let t = meaning r.store c.args.goal in
    let one = so_many r c.args.goal c.args.form c.requires.form 1 (subst (λ k. IsControl k (name_of t) (argument_count t)) c.in-Throw.is c.requires.control).1 in
    omega (arith, one)

pub returns-in-Throw-clause-infers : goal.returns-in-Throw-clause-infers
returns-in-Throw-clause-infers c =
    let r = c.args.region.now in
    let t = meaning r.store c.args.goal in
    let named = subst (λ k. IsControl k (name_of t) (argument_count t)) c.in-Throw.is c.requires.control in
    let thrown = argument_read c.store.result.now r.store c.argument-ball.result c.args.form.arguments 0 c.store.ensures.store c.argument-ball.ensures.term in
    IfOk-weaker c.throw_value.result _ _ (λ after k. infers_by r c.args.goal c.args.form c.requires.form (codes "throw") 1 (λ ts. throw_outcome (term_at 0 ts)) named.0 named.1 (λ clauses next g. refl) c.throw_value.new.region c.args.place after
    (subst (λ u. LeavesOutcome r c.throw_value.new.region (throw_outcome u) c.args.place after) thrown k)) c.throw_value.ensures.comes

pub call_arguments-requires-clause-arity : goal.call_arguments-requires-clause-arity
call_arguments-requires-clause-arity c =
    let r = c.args.region.now in
    let t = meaning r.store c.args.goal in
    let named = subst (λ k. IsControl k (name_of t) (argument_count t)) c.in-Call.is c.requires.control in
    let count = so_many r c.args.goal c.args.form c.requires.form (argument_count t) refl in
    let some = named.1 in
    let most = named.2 in
    (omega (arith, count, some), omega (arith, count, most))

pub returns-in-Call-clause-infers : goal.returns-in-Call-clause-infers
returns-in-Call-clause-infers c =
    let r = c.args.region.now in
    let t = meaning r.store c.args.goal in
    let named = subst (λ k. IsControl k (name_of t) (argument_count t)) c.in-Call.is c.requires.control in
    let count = so_many r c.args.goal c.args.form c.requires.form (argument_count t) refl in
    let n = c.args.form.arguments.count in
    IfOk-weaker c.call_arguments.result _ _ (λ after k. infers_by r c.args.goal c.args.form c.requires.form (codes "call") n (λ ts. call_outcome n (term_at 0 ts) (drop_terms 1 ts)) named.0 (sym count) (λ clauses next g. call_taken n clauses next g (omega (arith, count, named.1)) (omega (arith, count, named.2)))
    c.call_arguments.new.region c.args.place after k) c.call_arguments.ensures.comes
