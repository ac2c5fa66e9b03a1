use Rattle.std.proofs.Common.{◌≡◌, List, [], ◌∷◌, ◌++◌, append-nil, length, refl, sym, ap, ◌∙◌, subst, arith}
use Rattle.std.proofs.lemmas.Grind.{common_steps}
use Rattle.au_term.specs.declared.segment.Binding.{Binding}
use Rattle.tree_nodes.specs.Bodies.{body_view}
use Rattle.tree_nodes.specs.declared.body.NodeBody.{NodeBody}
use Rattle.public_tree.specs.Publishing.{bodies_view}
use Rattle.task_publishing.specs.declared.steps.LiveChoice.{LiveChoice}
use Rattle.task_publishing.specs.MadeBodies.{IsBranchOf, IsBodyOf, IsAloneBody, EndIn}
use Rattle.task_publishing.proofs.MadeLemmas.{bodies_snoc, end_in, alone_end}
use Rattle.task_publishing.proofs.bodies.bodies_of.Goals as goal
use Rattle.task_publishing.proofs.bodies.bodies_of.Goals.{in-Some+in_ok-body-in-Some, in-None+in_ok-body-in-None}

none_there : {A : Type 0} (xs : List A) → length xs ≡ 0 → xs ≡ []
none_there [] e = refl
none_there (x ∷ xs) e = absurd (omega (arith, e))

pub returns : goal.returns
returns c =
    let g = c.args.goals.now in
    let branch = c.in_ok-branch.branch in
    let base = c.args.live.since.base in
    let outer = bodies_view c.in_ok-bodies.bodies.items in
    let body = body_view c.match-innermost-3.body in
    let more : bodies_view c.push.new.self.items ≡ outer ++ body ∷ []
    = ap bodies_view c.in_ok-push.ensures.items ∙ (bodies_snoc c.in_ok-bodies.bodies.items c.in_ok-new.field-0
    ∙ ap (λ (b : NodeBody). outer ++ body_view b ∷ []) c.in_ok-new.ensures.ok) in
    record {
      branch = branch;
      is = subst (λ (bs : List Binding). IsBranchOf g base (record { first = c.args.current.first; bindings = bs; next = c.args.current.next })
          branch)
          c.in_ok-joined.ensures c.in_ok-branch.ensures;
      ends = subst (λ xs. EndIn g branch base c.args.live.choices.items xs) (sym more)
          (elim c.match-innermost-3.branch [
            | in-Some+in_ok-body-in-Some w ↦
                subst (λ (xs : List LiveChoice). EndIn g branch base xs (outer ++ body ∷ [])) (sym w.in-Some.ensures.items)
                (end_in g branch base c.pop-innermost.new.self.items w.in-Some.choice outer body c.in_ok-bodies.ensures
                (subst (λ (b : NodeBody). IsBodyOf g w.in-Some.choice branch (body_view b)) (sym w.body-is) w.in_ok-body-in-Some.ensures))
            | in-None+in_ok-body-in-None w ↦
                let all : c.args.live.choices.items ≡ c.pop-innermost.new.self.items = w.in-None.ensures.items
                ∙ append-nil c.pop-innermost.new.self.items in
                let gone : length c.pop-innermost.new.self.items ≡ 0 = let h = w.in-None.ensures.cases in grind (arith, common_steps) in
                subst (λ (xs : List LiveChoice). EndIn g branch base xs (outer ++ body ∷ [])) (sym all)
                (alone_end g branch base c.pop-innermost.new.self.items outer body (none_there c.pop-innermost.new.self.items gone)
                c.in_ok-bodies.ensures
                (subst (λ (b : NodeBody). IsAloneBody base branch (body_view b)) (sym w.body-is) w.in_ok-body-in-None.ensures))
          ]);
    }
