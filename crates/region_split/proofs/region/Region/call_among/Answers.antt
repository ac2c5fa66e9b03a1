use Rattle.std.proofs.Common.{subst}
use Rattle.cell_store.specs.StoreView.{StoreView, meaning}
use Rattle.region_split.specs.Candidates.{FindsClause, HaveNoEntry}
use Rattle.region_split.specs.Texts.{TextView}
use Rattle.region_split.specs.ClauseTrials.{TriesClause, Calls}
use Rattle.region_split.specs.declared.choice.Trial.{Trial}
use Rattle.region_split.proofs.CallLemmas.{last_called, others_left, if_ok_then}
use Rattle.region_split.proofs.region.Region.call_among.Goals as goal

pub returns-in_default-match_after : goal.returns-in_default-match_after
returns-in_default-match_after c =
    let r = c.args.self.now in
    let trial : Trial = record { goal = c.args.goal; clause = c.in-Some.clause; after = c.args.after } in
    let finds = subst (λ (x : TextView). FindsClause x (meaning c.args.self.now.store c.args.goal) c.args.self.now.store.now.next c.args.left c.first_match.new.left c.in-Some.clause) c.text.ensures (subst (λ (y : StoreView). FindsClause c.text.result.now (meaning y c.args.goal) y.now.next c.args.left c.first_match.new.left c.in-Some.clause) c.store.ensures.store c.in-Some.ensures) in
    let none = subst (λ (x : TextView). HaveNoEntry x (meaning c.args.self.now.store c.args.goal) c.args.self.now.store.now.next c.first_match.new.left) c.text-2.ensures (subst (λ (y : StoreView). HaveNoEntry c.text-2.result.now (meaning y c.args.goal) y.now.next c.first_match.new.left) c.store-2.ensures.store c.in_default-match_after.ensures) in
    if_ok_then (TriesClause r c.try_clause.new.self trial c.in_ok-cut.cut) (Calls r c.try_clause.new.self c.args.goal c.args.after) c.try_clause.result
    (λ reached tried. last_called r c.args.goal c.args.after c.args.left c.first_match.new.left c.requires.left c.in-Some.clause finds c.try_clause.new.self c.in_ok-cut.cut reached none c.in_ok-cut.ensures.count c.in_ok-cut.ensures.height tried c.try_clause.ensures.kept)
    c.try_clause.ensures.tried

pub returns : goal.returns
returns c =
    let r = c.args.self.now in
    let trial : Trial = record { goal = c.args.goal; clause = c.in-Some.clause; after = c.args.after } in
    let finds = subst (λ (x : TextView). FindsClause x (meaning c.args.self.now.store c.args.goal) c.args.self.now.store.now.next c.args.left c.first_match.new.left c.in-Some.clause) c.text.ensures (subst (λ (y : StoreView). FindsClause c.text.result.now (meaning y c.args.goal) y.now.next c.args.left c.first_match.new.left c.in-Some.clause) c.store.ensures.store c.in-Some.ensures) in
    let others = subst (λ (x : TextView). FindsClause x (meaning c.args.self.now.store c.args.goal) c.args.self.now.store.now.next c.first_match.new.left c.match_after.new.left c.in-Some-match_after.clause) c.text-2.ensures (subst (λ (y : StoreView). FindsClause c.text-2.result.now (meaning y c.args.goal) y.now.next c.first_match.new.left c.match_after.new.left c.in-Some-match_after.clause) c.store-2.ensures.store c.in-Some-match_after.ensures) in
    if_ok_then (TriesClause c.push_choice.new.self c.try_clause-2.new.self trial c.in_ok-cut.cut) (Calls r c.try_clause-2.new.self c.args.goal c.args.after) c.try_clause-2.result
    (λ reached tried. others_left r c.args.goal c.args.after c.args.left c.first_match.new.left c.requires.left c.in-Some.clause finds c.in-Some-match_after.clause c.match_after.new.left others c.push_choice.new.self c.try_clause-2.new.self c.in_ok-push_choice.ensures.ok c.requires.after c.in_ok-cut.cut c.in_ok-cut.ensures.count c.try_clause-2.ensures.kept reached tried)
    c.try_clause-2.ensures.tried
