use Rattle.std.proofs.Common.{◌≡◌, ℕ, suc, ◌+◌, ◌-◌, ◌<◌, ◌==◌, true, false, List, [], ◌∷◌, ◌++◌, length, append_assoc, append-nil, get_or, sym, ap, ◌∙◌, subst, arith}
use Rattle.std.proofs.lemmas.Bool.Decides.{nat_tests}
use Rattle.std.proofs.lemmas.Grind.{common_steps}
use Rattle.task_publishing.specs.KeptScopes.{all_scopes, last_of}
use Rattle.task_publishing.proofs.ScopeLemmas.{KeepsScopes, keeps_none, keeps_empty, keeps_node, keeps_all}
use Rattle.task_publishing.proofs.scopes.scopes_kept.Goals as goal
use Rattle.task_publishing.proofs.scopes.scopes_kept.Goals.{then-not-is_empty+in-Some, else-not-is_empty}

pub loop-choice-init : goal.loop-choice-init
loop-choice-init c =
    let branch = c.args.branch.now in
    let none : all_scopes branch c.new-own.result.items ≡ 0 ∷ branch
    = ap (all_scopes branch) c.new-own.ensures.items ∙ ap (λ (xs : List ℕ). 0 ∷ xs) (append-nil branch) in
    let back : suc (length branch) - 1 ≡ length branch = omega arith in
    let last : c.last_scope-newest.result ≡ get_or (0 ∷ branch) (length branch) 0
    = c.last_scope-newest.ensures ∙ (ap (λ (xs : List ℕ). last_of (all_scopes branch xs)) c.deref.ensures.value
    ∙ (ap last_of none ∙ ap (λ n. get_or (0 ∷ branch) n 0) back)) in
    record {
      kept = λ levels gs d a. subst (λ scopes. KeepsScopes c.args.next levels gs 0 scopes c.last_scope-newest.result c.args.next) (sym none)
          (keeps_none c.args.next levels gs branch c.last_scope-newest.result d last);
    }

pub loop-choice-preserved : goal.loop-choice-preserved
loop-choice-preserved c =
    let i = c.loop-choice.choice-index in
    let choice = c.choice-item.result in
    let same : suc i ≡ i + 1 = omega arith in
    let before_it = all_scopes c.args.branch.now c.loop-choice.own.items in
    let more : all_scopes c.args.branch.now c.push.new.self.items ≡ before_it ++ c.if-not-is_empty.newest ∷ []
    = ap (all_scopes c.args.branch.now) c.in_ok-push.ensures.items
    ∙ ap (λ (xs : List ℕ). 0 ∷ xs) (sym (append_assoc c.args.branch.now c.loop-choice.own.items (c.if-not-is_empty.newest ∷ []))) in
    record {
      kept = λ levels gs d a.
          let before = c.loop-choice.invariant.kept levels gs d a in
          subst (λ n. KeepsScopes c.args.next levels gs n (all_scopes c.args.branch.now c.push.new.self.items) c.if-not-is_empty.newest c.if-not-is_empty.number) same
          (subst (λ scopes. KeepsScopes c.args.next levels gs (suc i) scopes c.if-not-is_empty.newest c.if-not-is_empty.number) (sym more)
          (elim c.if-not-is_empty.branch [
            | then-not-is_empty+in-Some w ↦
                (let test : (choice.alternatives.len == 0) ≡ false = sym w.if-not-is_empty.ensures in
                let some : 0 < length choice.alternatives.items = grind (arith, nat_tests, common_steps) in
                let later : c.if-not-is_empty.number ≡ c.loop-choice.number + 1 = w.number-is ∙ w.in-Some.ensures.1 in
                subst (λ x. KeepsScopes c.args.next levels gs (suc i) (before_it ++ x ∷ []) x c.if-not-is_empty.number)
                (sym w.newest-is)
                (subst (λ x. KeepsScopes c.args.next levels gs (suc i) (before_it ++ c.loop-choice.number ∷ []) c.loop-choice.number
                x)
                (sym later)
                (keeps_node c.args.next levels c.args.choices.now gs i choice before_it c.loop-choice.newest c.loop-choice.number a
                c.loop-choice-test.true c.choice-item.is some before)))
            | else-not-is_empty w ↦
                (let test : (choice.alternatives.len == 0) ≡ true = sym w.if-not-is_empty.ensures in
                let none : length choice.alternatives.items ≡ 0 = grind (arith, nat_tests, common_steps) in
                subst (λ x. KeepsScopes c.args.next levels gs (suc i) (before_it ++ x ∷ []) x c.if-not-is_empty.number)
                (sym w.newest-is)
                (subst (λ x. KeepsScopes c.args.next levels gs (suc i) (before_it ++ c.loop-choice.newest ∷ []) c.loop-choice.newest
                x)
                (sym w.number-is)
                (keeps_empty c.args.next levels c.args.choices.now gs i choice before_it c.loop-choice.newest c.loop-choice.number a
                c.loop-choice-test.true c.choice-item.is none before)))
          ]));
    }

pub returns : goal.returns
returns c =
    let end : c.loop-choice.choice-index ≡ length c.args.choices.now = let h = c.loop-choice-test.false in let
    t = c.loop-choice.auto.choice-index-end in omega (arith, h, t) in
    let scopes = all_scopes c.args.branch.now c.loop-choice.own.items in
    record {
      some = omega arith;
      kept = λ levels gs d a. keeps_all c.args.next levels c.args.choices.now gs scopes c.loop-choice.newest c.loop-choice.number
          a
          (subst (λ n. KeepsScopes c.args.next levels gs n scopes c.loop-choice.newest c.loop-choice.number) end
          (c.loop-choice.invariant.kept levels gs d a));
    }
