-- Bodies of choice points, one below the first branch of the other, mean their groups.
use Rattle.std.proofs.Common.{◌≡◌, ℕ, ◌≤◌, List, [], ◌∷◌, map, slice_get, refl, sym, ap, ◌∙◌, subst, arith}
use Rattle.au_model.specs.Terms.Each.{Each}
use Rattle.branch_bindings.specs.Extensions.{ExtendsBy}
use Rattle.branch_bindings.specs.ExtensionLaws.{StandsForOlder}
use Rattle.branch_bindings.proofs.ExtensionLemmas.{extensions_stay_older, extensions_are_final, nothing_extends}
use Rattle.run_model.specs.Machine.Entries.{Entry}
use Rattle.clause_compile.specs.declared.event.Branch.{Branch}
use Rattle.clause_compile.specs.declared.item.Item.{Item as BranchItem}
use Rattle.tree_nodes.specs.Bodies.{BodyKind, Body}
use Rattle.branch_shapes.specs.ExtendedWays.{number_after}
use Rattle.branch_shapes.specs.ShownBodies.{BodyShows, BodiesShow, LeadsDown}
use Rattle.branch_shapes.specs.MeantBranches.{Placement, GoalsMean, BranchMeans}
use Rattle.branch_shapes.proofs.MeantBodyLemmas.{meant_bodies_show}
use Rattle.region_capture.specs.CapturedItems.{ItemLists}
use Rattle.region_capture.specs.CapturedMeanings.{captured_bindings}
use Rattle.region_capture.specs.CapturedChoices.{BoundThen, MeantChoice}
use Rattle.task_publishing.specs.declared.steps.LiveChoice.{LiveChoice}
use Rattle.task_publishing.specs.LiveChoices.{MeansLive, MeanLive}
use Rattle.task_publishing.specs.MadeBodies.{IsLeading, IsBodyOf, EndIn}
use Rattle.task_publishing.specs.PublishedRuns.{CanBeBranch, published_group}
use Rattle.task_publishing.proofs.BranchMeaningLemmas.{GoalsAre}
use Rattle.task_publishing.proofs.BodyMeaningLemmas.{body_means, segment_end}

-- alternatives that can be branches at the kind of their choice point
abbrev pub CanBeBody : Placement → MeantChoice → Type 0
CanBeBody p m = Each (CanBeBranch p m.kind) m.alternatives

module _ (p : Placement) (deferred : List BranchItem) (base : ℕ) (lists : ItemLists) (goals : List (List BranchItem))
    (g : GoalsAre p deferred base lists goals)
    (branch : Branch) (from : ℕ) (e : Entry) (newest : BoundThen) (top : (kind : BodyKind) → GoalsMean p newest.bound newest.next kind 0 branch e)
  where
    abbrev group : MeantChoice → List Entry
    group = published_group p deferred

    older_there : (under : BoundThen) (c : LiveChoice) (m : MeantChoice) → StandsForOlder under.bound → MeansLive lists under c m
        → StandsForOlder m.came.bound
    older_there under c m o k = extensions_stay_older under.bound m.came.bound m.came.next (captured_bindings c.lead.bindings) o k.lead.extends

    -- an empty first branch
    abbrev leads_down : (under : BoundThen) (c : LiveChoice) (m : MeantChoice) (first : Branch) (b : Body) → StandsForOlder under.bound
        → MeansLive lists under c m → IsLeading c.next first → IsBodyOf goals c first b
        → (d : LeadsDown m.came.bound b) × ((d.now ≡ m.came.bound) × (number_after d.branch.segment ≡ m.came.next))
    leads_down under c m first b o k l i =
        let end : number_after b.segment ≡ m.came.next = ap number_after i.segment ∙ segment_end lists under c m k in
        let last : number_after first.segment ≡ m.came.next = ap number_after l.segment ∙ (let n = k.next in omega (arith, n)) in (
          record {
            now = m.came.bound;
            branch = first;
            is = ap (λ (xs : List Branch). slice_get xs 0) i.made.are;
            leads = record {
              numbers = omega (arith, end, last);
              extends = subst (λ s. ExtendsBy m.came.bound m.came.bound (number_after first.segment) (captured_bindings s))
                  (sym (ap (λ s. s.bindings) l.segment))
                  (nothing_extends m.came.bound (number_after first.segment) (extensions_are_final under.bound m.came.bound m.came.next
                  (captured_bindings c.lead.bindings) o k.lead.extends));
            };
          },
          (refl, last),
        )

    body_shows : (under : BoundThen) (c : LiveChoice) (m : MeantChoice) (first : Branch) (b : Body) → base ≤ under.next → IsBodyOf goals c first b
        → MeansLive lists under c m → CanBeBody p m
        → BodyShows (BranchMeans p) under.next under.bound m.came.bound b (group m)
    body_shows under c m first b le i k can =
        meant_bodies_show p under.next under.bound m.came.bound b (group m) (body_means p deferred base lists goals g under c m first b le i k can)

    pub bodies_show : (under : BoundThen) (c : LiveChoice) (choices : List LiveChoice) (m : MeantChoice) (ms : List MeantChoice) (b : Body)
        (bodies : List Body) → base ≤ under.next → StandsForOlder under.bound
        → EndIn goals branch from (c ∷ choices) (b ∷ bodies) → MeansLive lists under c m → MeanLive lists m.came choices ms newest → CanBeBody p m
        → Each (CanBeBody p) ms
        → BodiesShow (BranchMeans p) e under.next under.bound b bodies (group m) (map group ms)
    bodies_show under c [] m [] b [] le o i k r can cans =
        let end : number_after b.segment ≡ m.came.next = ap number_after i.segment ∙ segment_end lists under c m k in (
          m.came.bound,
          (
            body_shows under c m branch b le i k can,
            record {
              branch = branch;
              is = ap (λ (xs : List Branch). slice_get xs 0) i.made.are;
              goals = subst (λ n. GoalsMean p m.came.bound n b.kind 0 branch e) (sym end)
                  (subst (λ (t : BoundThen). GoalsMean p t.bound t.next b.kind 0 branch e) (sym r) (top b.kind));
            },
          ),
        )
    bodies_show under c [] m [] b (d ∷ bodies) le o i k r can cans = elim i [ ]
    bodies_show under c [] m (n ∷ ms) b bodies le o i k r can cans = elim r [ ]
    bodies_show under c (f ∷ choices) m [] b bodies le o i k r can cans = elim r [ ]
    bodies_show under c (f ∷ choices) m (n ∷ ms) b [] le o i k r can cans = elim i.1 [ ]
    bodies_show under c (f ∷ choices) m (n ∷ ms) b (d ∷ bodies) le o i k r can cans =
        let down = leads_down under c m i.0.first b o k i.0.leads i.0.body in
        let more : under.next ≤ m.came.next = k.lead.more in (
          m.came.bound,
          (
            down.0,
            (
              body_shows under c m i.0.first b le i.0.body k can,
              subst (λ x. BodiesShow (BranchMeans p) e x m.came.bound d bodies (group n) (map group ms)) (sym down.1.1)
                  (bodies_show m.came f choices n ms d bodies (omega (arith, le, more)) (older_there under c m o k) i.1 r.0 r.1 cans.0 cans.1),
            ),
          ),
        )
