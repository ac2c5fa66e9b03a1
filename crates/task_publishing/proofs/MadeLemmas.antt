-- Branches and bodies, one after another.
use Rattle.std.proofs.Common.{◌≡◌, ℕ, List, [], ◌∷◌, ◌++◌, append_assoc, append-nil, refl, sym, ap, ◌∙◌, subst}
use Rattle.clause_compile.specs.declared.event.Branch.{Branch}
use Rattle.clause_compile.specs.declared.item.Item.{Item as BranchItem}
use Rattle.std.proofs.lemmas.List.{map-append}
use Rattle.std.specs.Arc.{arc_value}
use Rattle.std.specs.declared.sync.Arc.{Arc}
use Rattle.std.specs.Global.{Global}
use Rattle.tree_nodes.specs.Bodies.{Body, body_view}
use Rattle.tree_nodes.specs.declared.body.NodeBody.{NodeBody}
use Rattle.public_tree.specs.Publishing.{bodies_view}
use Rattle.region_capture.specs.declared.captured.CapturedAlternative.{CapturedAlternative}
use Rattle.task_publishing.specs.declared.steps.LiveChoice.{LiveChoice}
use Rattle.task_publishing.specs.MadeBodies.{IsBranchOf, AreBranchesOf, MakesBranches, IsBodyOf, IsLeadingBody, AreBodiesOf, IsAloneBody, EndIn}

-- branches of the first alternatives, before those that are left
pub record BranchesUpTo (goals : List (List BranchItem)) (base : ℕ) (first : Branch) (all left : List CapturedAlternative) (branches : List Branch) :
    Type 0 where
  pub done : List CapturedAlternative
  pub others : List Branch
  pub are : branches ≡ first ∷ others
  pub each : AreBranchesOf goals base done others
  pub whole : all ≡ done ++ left

module _ (goals : List (List BranchItem)) (base : ℕ) where
  branches_next : (done : List CapturedAlternative) (others : List Branch) (a : CapturedAlternative) (b : Branch)
      → AreBranchesOf goals base done others
      → IsBranchOf goals base a b
      → AreBranchesOf goals base (done ++ a ∷ []) (others ++ b ∷ [])
  branches_next [] [] a b k h = (h, tt)
  branches_next [] (d ∷ others) a b k h = elim k [ ]
  branches_next (e ∷ done) [] a b k h = elim k [ ]
  branches_next (e ∷ done) (d ∷ others) a b k h = (k.0, branches_next done others a b k.1 h)

  pub no_branches : (first : Branch) (all : List CapturedAlternative) → BranchesUpTo goals base first all all (first ∷ [])
  no_branches first all = record { done = []; others = []; are = refl; each = tt; whole = refl }

  pub one_branch : (first : Branch) (all left : List CapturedAlternative) (branches : List Branch) (a : CapturedAlternative) (b : Branch)
      → BranchesUpTo goals base first all (a ∷ left) branches → IsBranchOf goals base a b
      → BranchesUpTo goals base first all left (branches ++ b ∷ [])
  one_branch first all left branches a b k h = record {
    done = k.done ++ a ∷ [];
    others = k.others ++ b ∷ [];
    are = ap (λ xs. xs ++ b ∷ []) k.are;
    each = branches_next k.done k.others a b k.each h;
    whole = k.whole ∙ sym (append_assoc k.done (a ∷ []) left);
  }

  pub all_branches : (first : Branch) (all : List CapturedAlternative) (branches : List Branch) → BranchesUpTo goals base first all [] branches
      → MakesBranches goals base first all branches
  all_branches first all branches k = record {
    others = k.others;
    are = k.are;
    each = subst (λ xs. AreBranchesOf goals base xs k.others) (sym (append-nil k.done) ∙ sym k.whole) k.each;
  }

-- bodies of the first choice points, before those that are left
pub record BodiesUpTo (goals : List (List BranchItem)) (all left : List LiveChoice) (bodies : List Body) : Type 0 where
  pub done : List LiveChoice
  pub each : AreBodiesOf goals done bodies
  pub whole : all ≡ done ++ left

module _ (goals : List (List BranchItem)) where
  bodies_next : (done : List LiveChoice) (bodies : List Body) (c : LiveChoice) (b : Body) → AreBodiesOf goals done bodies → IsLeadingBody goals c b
      → AreBodiesOf goals (done ++ c ∷ []) (bodies ++ b ∷ [])
  bodies_next [] [] c b k h = (h, tt)
  bodies_next [] (d ∷ bodies) c b k h = elim k [ ]
  bodies_next (e ∷ done) [] c b k h = elim k [ ]
  bodies_next (e ∷ done) (d ∷ bodies) c b k h = (k.0, bodies_next done bodies c b k.1 h)

  pub no_bodies : (all : List LiveChoice) → BodiesUpTo goals all all []
  no_bodies all = record { done = []; each = tt; whole = refl }

  pub one_body : (all left : List LiveChoice) (bodies : List Body) (c : LiveChoice) (b : Body) → BodiesUpTo goals all (c ∷ left) bodies
      → IsLeadingBody goals c b
      → BodiesUpTo goals all left (bodies ++ b ∷ [])
  one_body all left bodies c b k h = record {
    done = k.done ++ c ∷ [];
    each = bodies_next k.done bodies c b k.each h;
    whole = k.whole
        ∙ sym (append_assoc k.done (c ∷ []) left);
  }

  pub all_bodies : (all : List LiveChoice) (bodies : List Body) → BodiesUpTo goals all [] bodies → AreBodiesOf goals all bodies
  all_bodies all bodies k = subst (λ xs. AreBodiesOf goals xs bodies) (sym (append-nil k.done) ∙ sym k.whole) k.each

  -- and the innermost one
  pub end_in : (branch : Branch) (base : ℕ) (choices : List LiveChoice) (c : LiveChoice) (bodies : List Body) (b : Body)
      → AreBodiesOf goals choices bodies → IsBodyOf goals c branch b
      → EndIn goals branch base (choices ++ c ∷ []) (bodies ++ b ∷ [])
  end_in branch base [] c [] b k h = h
  end_in branch base [] c (d ∷ bodies) b k h = elim k [ ]
  end_in branch base (e ∷ choices) c [] b k h = elim k [ ]
  end_in branch base (e ∷ []) c (d ∷ bodies) b k h = (k.0, end_in branch base [] c bodies b k.1 h)
  end_in branch base (e ∷ (f ∷ choices)) c (d ∷ bodies) b k h = (k.0, end_in branch base (f ∷ choices) c bodies b k.1 h)

-- the views of nodes' bodies
pub bodies_snoc : (items : List (Arc NodeBody Global)) (x : Arc NodeBody Global) → bodies_view (items ++ x ∷ []) ≡ bodies_view items ++ body_view
    (arc_value x) ∷ []
bodies_snoc items x = map-append (λ (a : Arc NodeBody Global). body_view (arc_value a)) items (x ∷ [])

-- one body alone
pub alone_end : (goals : List (List BranchItem)) (branch : Branch) (base : ℕ) (choices : List LiveChoice) (bodies : List Body) (b : Body)
    → choices ≡ []
    → AreBodiesOf goals choices bodies
    → IsAloneBody base branch b → EndIn goals branch base choices (bodies ++ b ∷ [])
alone_end goals branch base [] [] b e k h = h
alone_end goals branch base [] (d ∷ bodies) b e k h = elim k [ ]
alone_end goals branch base (c ∷ choices) bodies b e k h = absurd cc
