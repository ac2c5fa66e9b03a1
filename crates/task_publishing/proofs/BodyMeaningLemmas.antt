-- What the body of a choice point means.
use Rattle.std.proofs.Common.{◌≡◌, ℕ, suc, ◌-◌, ◌≤◌, true, List, [], ◌∷◌, length, map, refl, sym, ap, ◌∙◌, subst, arith}
use Rattle.au_model.specs.Terms.Each.{Each}
use Rattle.au_term.specs.declared.segment.Segment.{Segment}
use Rattle.branch_bindings.specs.Extensions.{ExtendsBy}
use Rattle.clause_compile.specs.declared.event.Branch.{Branch}
use Rattle.clause_compile.specs.declared.item.Item.{Item as BranchItem}
use Rattle.tree_nodes.specs.Bodies.{Body, guards_kind}
use Rattle.branch_shapes.specs.ExtendedWays.{IsNoQuery, LeadsOn, number_after}
use Rattle.branch_shapes.specs.MeantBranches.{Placement}
use Rattle.branch_shapes.specs.MeantBodies.{BodyMeans, AlternativesMean}
use Rattle.region_capture.specs.CapturedItems.{ItemLists}
use Rattle.region_capture.specs.CapturedMeanings.{captured_bindings}
use Rattle.region_capture.specs.CapturedChoices.{BoundThen, MeantChoice, IsAloneOf}
use Rattle.region_capture.specs.declared.captured.CapturedKind.{CapturedKind}
use Rattle.region_capture.specs.declared.captured.CapturedKind.TheVariants.{Choice, Catch, Findall}
use Rattle.task_publishing.specs.declared.steps.LiveChoice.{LiveChoice}
use Rattle.task_publishing.specs.LiveChoices.{MeansLive}
use Rattle.task_publishing.specs.MadeBodies.{published_kind, AreBranchesOf, IsBodyOf}
use Rattle.task_publishing.specs.PublishedRuns.{CanBeBranch, published_group, published_entry}
use Rattle.task_publishing.proofs.BranchMeaningLemmas.{GoalsAre}
use Rattle.task_publishing.proofs.RunLemmas.{further_mean}

pub many_mapped : {A B : Type 0} (f : A → B) (xs : List A) → length (map f xs) ≡ length xs
many_mapped f [] = refl
many_mapped f (x ∷ xs) = ap suc (many_mapped f xs)

no_query : (own : CapturedKind) → IsNoQuery (published_kind own)
no_query Choice = tt
no_query (Catch catcher recovery) = tt
no_query (Findall list results) = tt

guard_alone : (own : CapturedKind) (n : ℕ) → IsAloneOf own n → guards_kind (published_kind own) ≡ true → n ≡ 1
guard_alone Choice n a e = absurd cc
guard_alone (Catch catcher recovery) n a e = a
guard_alone (Findall list results) n a e = a

-- the segment of a choice point
abbrev pub segment_of : LiveChoice → Segment
segment_of c = record { base = c.lead.base; vars = c.next - c.lead.base; bindings = c.lead.bindings }

module _ (lists : ItemLists) (under : BoundThen) (c : LiveChoice) (m : MeantChoice) (k : MeansLive lists under c m) where
  pub segment_end : number_after (segment_of c) ≡ m.came.next
  segment_end = let f = k.lead.base in let o = k.lead.more in let n = k.next in omega (arith, f, o, n)

  pub segment_leads : LeadsOn under.bound m.came.bound under.next (segment_of c)
  segment_leads = record {
    numbers = let e = segment_end in let o = k.lead.more in omega (arith, e, o);
    extends = subst (λ n. ExtendsBy under.bound m.came.bound n (captured_bindings c.lead.bindings)) (sym segment_end) k.lead.extends;
  }

pub body_means : (p : Placement) (deferred : List BranchItem) (base : ℕ) (lists : ItemLists) (goals : List (List BranchItem))
    → GoalsAre p deferred base lists goals
    → (under : BoundThen) (c : LiveChoice) (m : MeantChoice) (first : Branch) (b : Body) → base ≤ under.next → IsBodyOf goals c first b
    → MeansLive lists under c m
    → Each (CanBeBranch p m.kind) m.alternatives → BodyMeans p under.next under.bound m.came.bound b (published_group p deferred m)
body_means p deferred base lists goals g under c m first b le i k can =
    let is : b.kind ≡ published_kind m.kind = i.kind ∙ ap published_kind k.kind in
    let end : number_after b.segment ≡ m.came.next = ap number_after i.segment ∙ segment_end lists under c m k in
    record {
      no_query = subst IsNoQuery (sym is) (no_query m.kind);
      guard = λ e. many_mapped (published_entry p deferred m.kind) m.alternatives ∙ guard_alone m.kind (length m.alternatives) k.alone
          (ap guards_kind (sym is) ∙ e);
      first = first;
      others = i.made.others;
      branches = i.made.are;
      leads = subst (λ s. LeadsOn under.bound m.came.bound under.next s) (sym i.segment) (segment_leads lists under c m k);
      further = subst (λ n. AlternativesMean p m.came.bound n b.kind 1 i.made.others (published_group p deferred m)) (sym end)
          (subst (λ x. AlternativesMean p m.came.bound m.came.next x 1 i.made.others (published_group p deferred m)) (sym is)
          (further_mean p deferred base lists goals g m.came.bound m.came.next k.cut m.kind c.alternatives.items m.alternatives i.made.others
          (let o = k.lead.more in omega (arith, le, o)) k.alone (subst (λ n. AreBranchesOf goals n c.alternatives.items i.made.others) k.next
          i.made.each) k.alternatives can));
    }
