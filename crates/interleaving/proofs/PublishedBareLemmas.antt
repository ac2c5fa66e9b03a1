-- The lists before and after an alternative becomes nodes, and the second without empty credits.
use Rattle.std.proofs.Common.{◌≡◌, ℕ, suc, ◌+◌, Bool, true, List, [], ◌∷◌, ◌++◌, length, refl, sym, ◌∙◌, subst}
use Rattle.run_model.specs.Programs.Clauses.{Clause}
use Rattle.run_model.specs.Machine.Items.{Continuation}
use Rattle.run_model.specs.Machine.Entries.{Entry}
use Rattle.tree_model.specs.Elements.{Name, Element, Credit, Plain, EndOf}
use Rattle.interleaving.specs.Laws.{MayBecome}
use Rattle.tree_model.specs.Levels.{Level}
use Rattle.tree_model.specs.Nodes.{Node, Status, Inner}
use Rattle.tree_model.specs.Shapes.{placed}
use Rattle.tree_model.specs.PendingLists.{way_of, named_continuation, list_in, list_among, list_below, front_of, back_of}
use Rattle.interleaving.proofs.AppendLemmas.{append-assoc}
use Rattle.interleaving.proofs.RootLemmas.{are_distinguished}
use Rattle.interleaving.proofs.NamingLemmas.{same-itself}
use Rattle.interleaving.proofs.PlacedNameLemmas.{bare}
use Rattle.interleaving.proofs.PlacedRunLemmas.{placed_list}
use Rattle.interleaving.proofs.BaredLemmas.{bare_becomes, made_at, made_grown}
use Rattle.au_model.proofs.ApplyLemmas.{or_left}

-- what is right of an alternative's end
abbrev pub right_of : List Level → List Element
right_of [] = []
right_of (v ∷ up) = list_among (way_of up) v.number v.kind (suc (length v.left)) v.right ++ back_of up

-- the segment of an alternative
abbrev pub own_name : Level → Name
own_name v = length v.left ∷ v.number ∷ []

abbrev pub own_plain : Level → List Level → Continuation ℕ → Element
own_plain v up f = Plain (0 ∷ length v.left ∷ v.number ∷ []) (named_continuation (way_of (v ∷ up)) f)

abbrev pub own_inside : Level → ℕ → Name → Bool
own_inside v next = made_at (own_name v) next

-- the list before, with so many inferences spent on the alternative, and the list after
abbrev pub list_before : Level → List Level → ℕ → Continuation ℕ → List Element
list_before v up spent f = front_of (v ∷ up) ++ (Credit spent [] ∷ own_plain v up f ∷ EndOf (own_name v) ∷ right_of (v ∷ up))

abbrev pub list_after : Level → List Level → ℕ → Status → List Element
list_after v up spent status = front_of (v ∷ up) ++ (list_below (way_of (v ∷ up)) spent status ++ (EndOf (own_name v) ∷ right_of (v ∷ up)))

own_end : (v : Level) (next : ℕ) → own_inside v next (own_name v) ≡ true
own_end v next = or_left _ _ (are_distinguished.by_length (own_name v) (own_name v) [] refl ∙ same-itself (own_name v))

pub own_entry : (v : Level) (next : ℕ) → own_inside v next (0 ∷ own_name v) ≡ true
own_entry v next = made_grown (own_name v) next 0 (own_name v) (own_end v next)

module _ (clauses : List Clause) (v : Level) (up : List Level) (next size : ℕ) (sizes : List ℕ) (es : List Entry) (k : ℕ) where
  -- empty credits go
  pub bared : (spent : ℕ) (node : Node) → placed next (size ∷ sizes) (v ∷ up) es ≡ Inner node →
      MayBecome clauses (list_after v up (spent + k) (placed next (size ∷ sizes) (v ∷ up) es))
      (front_of (v ∷ up) ++ (Credit (spent + k) []
      ∷ (placed_list (v ∷ up) next (size ∷ sizes) es ++ (EndOf (own_name v) ∷ right_of (v ∷ up)))))
  bared spent node e =
      let front = front_of (v ∷ up) in
      let back = EndOf (own_name v) ∷ right_of (v ∷ up) in
      let one = bare_becomes clauses (front ++ (Credit (spent + k) [] ∷ [])) (list_in (way_of (v ∷ up)) node) back in
      let first = append-assoc front (Credit (spent + k) [] ∷ []) (list_in (way_of (v ∷ up)) node ++ back) in
      let then = append-assoc front (Credit (spent + k) [] ∷ []) (bare (list_in (way_of (v ∷ up)) node) ++ back) in
      let moved : MayBecome clauses (front ++ (Credit (spent + k) [] ∷ (list_in (way_of (v ∷ up)) node ++ back)))
      (front ++ (Credit (spent + k) [] ∷ (bare (list_in (way_of (v ∷ up)) node) ++ back))) =
      subst (λ l. MayBecome clauses l (front ++ (Credit (spent + k) [] ∷ (bare (list_in (way_of (v ∷ up)) node) ++ back)))) first
      (subst (λ l. MayBecome clauses ((front ++ (Credit (spent + k) [] ∷ [])) ++ (list_in (way_of (v ∷ up)) node ++ back)) l)
      then one) in
      subst (λ s. MayBecome clauses (list_after v up (spent + k) s)
      (front ++ (Credit (spent + k) [] ∷ (bare (list_below (way_of (v ∷ up)) 0 s) ++ back)))) (sym e) moved
