-- Bodies whose further branches mean a group.
use Rattle.std.proofs.Common.{◌≡◌, ℕ, zero, suc, ◌+◌, ◌==◌, ◌||◌, Bool, true, false, not, cond, List, [], ◌∷◌, length, Some, refl, sym, ap, ◌∙◌, subst, arith}
use Rattle.std.specs.List.{list_any}
use Rattle.std.specs.Prelude.{slice_get}
use Rattle.au_model.specs.Terms.Each.{Each}
use Rattle.au_model.specs.Terms.Substitutions.{Substitution}
use Rattle.clause_compile.specs.declared.event.Branch.{Branch}
use Rattle.run_model.specs.Machine.Entries.{Entry, PlainEntry}
use Rattle.run_model.specs.Machine.Items.{Continuation, resolve_continuation}
use Rattle.tree_model.specs.Nodes.{ChoiceNode}
use Rattle.tree_model.specs.Shapes.{is_guard, is_alone, guard_kind}
use Rattle.tree_nodes.specs.Bodies.{BodyKind, ChoiceBody, ConditionBody, CatchBody, FindallBody, QueryBody, node_kind, guards_kind}
use Rattle.branch_shapes.specs.ExtendedWays.{number_after, IsNoQuery}
use Rattle.branch_shapes.specs.MeantBodies.{AlternativesMean, MeantBodiesShow}
use Rattle.branch_shapes.specs.MeantBranches.{Placement, continuation_in, GoalsMean}

-- an entry that only goes on
record IsPlain (e : Entry) : Type 0 where
  f : Continuation ℕ
  is : e ≡ PlainEntry f

module _ (p : Placement) (before : Substitution) (next : ℕ) where
  -- what the branch of an entry means
  record MeantBy (kind : BodyKind) (branches : List Branch) (i k : ℕ) (e : Entry) : Type 0 where
    branch : Branch
    is : slice_get branches i ≡ Some branch
    goals : GoalsMean p before next kind k branch e

  meant_at : (kind : BodyKind) (j : ℕ) (branches : List Branch) (es : List Entry) → AlternativesMean p before next kind j branches es
      → (i k : ℕ) (e : Entry) → k ≡ j + i → slice_get es i ≡ Some e → MeantBy kind branches i k e
  meant_at kind j [] [] h i k e q s = absurd cc
  meant_at kind j [] (x ∷ es) h i k e q s = absurd h
  meant_at kind j (b ∷ branches) [] h i k e q s = absurd h
  meant_at kind j (b ∷ branches) (x ∷ es) h zero k e q s =
      let same : x ≡ e = cc in
      let number : j ≡ k = omega arith in
      record { branch = b; is = refl; goals = subst (λ n. GoalsMean p before next kind n b e) number (subst (GoalsMean p before next kind j b) same h.0) }
  meant_at kind j (b ∷ branches) (x ∷ es) h (suc i) k e q s =
      let rest = meant_at kind (suc j) branches es h.1 i k e (omega arith) s in
      record { branch = rest.branch; is = rest.is; goals = rest.goals }

  as_many : (kind : BodyKind) (j : ℕ) (branches : List Branch) (es : List Entry) → AlternativesMean p before next kind j branches es
      → length branches ≡ length es
  as_many kind j [] [] h = refl
  as_many kind j [] (x ∷ es) h = absurd h
  as_many kind j (b ∷ branches) [] h = absurd h
  as_many kind j (b ∷ branches) (x ∷ es) h = ap suc (as_many kind (suc j) branches es h.1)

  -- of a choice, each goes on
  either_plain : (t : Bool) (f : Continuation ℕ) → cond t (PlainEntry f) (PlainEntry f) ≡ PlainEntry f
  either_plain true f = refl
  either_plain false f = refl

  choice_plain : (j : ℕ) (b : Branch) (e : Entry) → GoalsMean p before next ChoiceBody j b e → IsPlain e
  choice_plain j b e h = record {
    f = _;
    is = h.means
        ∙ either_plain (j == 1) (resolve_continuation h.now (continuation_in p (number_after b.segment) h.items));
  }

  condition_plain : (j : ℕ) (b : Branch) (e : Entry) → GoalsMean p before next ConditionBody j b e → IsPlain e
  condition_plain j b e h = record {
    f = _;
    is = h.means
        ∙ either_plain (j == 1) (resolve_continuation h.now (continuation_in p (number_after b.segment) h.items));
  }

  all_plain : (kind : BodyKind) → ((j : ℕ) (b : Branch) (e : Entry) → GoalsMean p before next kind j b e → IsPlain e)
      → (j : ℕ) (branches : List Branch) (es : List Entry)
      → AlternativesMean p before next kind j branches es → Each IsPlain es
  all_plain kind plain j [] [] h = tt
  all_plain kind plain j [] (x ∷ es) h = absurd h
  all_plain kind plain j (b ∷ branches) [] h = absurd h
  all_plain kind plain j (b ∷ branches) (x ∷ es) h = (plain j b x h.0, all_plain kind plain (suc j) branches es h.1)

-- a group of such entries is a choice
plain_kind : (g : List Entry) → Each IsPlain g → ChoiceNode ≡ guard_kind g
plain_kind [] h = refl
plain_kind (e ∷ es) h = sym (ap (λ x. guard_kind (x ∷ es)) h.0.is)

no_guard : (g : List Entry) → Each IsPlain g → list_any is_guard g ≡ false
no_guard [] h = refl
no_guard (e ∷ es) h = ap (λ x. is_guard x || list_any is_guard es) h.0.is ∙ no_guard es h.1

plain_alone : (g : List Entry) → Each IsPlain g → is_alone g ≡ true
plain_alone g h = ap (λ t. not t || (length g == 1)) (no_guard g h)

-- a group is of the kind of its body
record HasKind (kind : BodyKind) (g : List Entry) : Type 0 where
  same : node_kind kind ≡ guard_kind g
  alone : is_alone g ≡ true

module _ (p : Placement) (before : Substitution) (next : ℕ) where
  has_kind : (kind : BodyKind) (branches : List Branch) (g : List Entry) → IsNoQuery kind → (guards_kind kind ≡ true → length g ≡ 1)
      → AlternativesMean p before next kind 1 branches g → HasKind kind g
  has_kind ChoiceBody branches g n one h =
      let plain = all_plain p before next ChoiceBody
      (choice_plain p before next) 1 branches g h in record { same = plain_kind g plain; alone = plain_alone g plain }
  has_kind ConditionBody branches g n one h =
      let plain = all_plain p before next ConditionBody
      (condition_plain p before next) 1 branches g h in record { same = plain_kind g plain; alone = plain_alone g plain }
  has_kind (CatchBody catcher recovery) branches [] n one h = absurd (omega (arith, one refl))
  has_kind (CatchBody catcher recovery) [] (e ∷ []) n one h = absurd h
  has_kind (CatchBody catcher recovery) (b ∷ branches) (e ∷ []) n one h =
      record { same = sym (ap (λ x. guard_kind (x ∷ [])) h.0.means); alone = ap (λ x. is_alone (x ∷ [])) h.0.means }
  has_kind (CatchBody catcher recovery) branches (e ∷ x ∷ es) n one h = absurd (omega (arith, one refl))
  has_kind (FindallBody results list) branches [] n one h = absurd (omega (arith, one refl))
  has_kind (FindallBody results list) [] (e ∷ []) n one h = absurd h
  has_kind (FindallBody results list) (b ∷ branches) (e ∷ []) n one h =
      record { same = sym (ap (λ x. guard_kind (x ∷ [])) h.0.means); alone = ap (λ x. is_alone (x ∷ [])) h.0.means }
  has_kind (FindallBody results list) branches (e ∷ x ∷ es) n one h = absurd (omega (arith, one refl))
  has_kind QueryBody branches g n one h = absurd n

pub meant_bodies_show : MeantBodiesShow
meant_bodies_show p next before there b g h =
    let kind = has_kind p there (number_after b.segment) b.kind h.others g h.no_query h.guard h.further in
    record {
      no_query = h.no_query;
      kind = kind.same;
      alone = kind.alone;
      branches = ap length h.branches ∙ ap suc (as_many p there (number_after b.segment) b.kind 1 h.others g h.further);
      leads = h.leads;
      further = λ i e q.
          let one = meant_at p there (number_after b.segment) b.kind 1 h.others g h.further i (suc i) e (omega arith) q in
          record { branch = one.branch; is = ap (λ bs. slice_get bs (suc i)) h.branches ∙ one.is; goals = one.goals };
    }
