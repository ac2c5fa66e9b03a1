-- The pending list round a place.
use Rattle.std.proofs.Common.{◌≡◌, ℕ, suc, List, [], ◌∷◌, ◌++◌, length, refl, sym, ap, ◌∙◌}
use Rattle.tree_model.specs.Nodes.{Kind, Alternatives, alternative, Status, Inner}
use Rattle.tree_model.specs.Levels.{Level, put_left, level_node, plug}
use Rattle.tree_model.specs.Elements.{Element, Credit as CreditElement, EndOf}
use Rattle.tree_model.specs.PendingLists.{Way, way_of, list_in, list_among, list_below, pending_list, list_left, list_right, spent_at}
use Rattle.tree_model.specs.PendingLists.{front_of, back_of}
use Rattle.interleaving.proofs.AppendLemmas.{append-assoc}

level : (way : Way) (n : ℕ) (kind : Kind) (left : List (ℕ × Status)) (others : Alternatives)
    → list_among way n kind 0 (put_left left others) ≡ list_left way n kind left ++ list_among way n kind (length left) others
level way n kind [] others = refl
level way n kind (a ∷ left) others =
    let mine = list_below (record { node = n; index = length left; kind = kind } ∷ way) a.0 a.1 in
    level way n kind left (alternative a.0 a.1 others)
    ∙ (ap (λ l. list_left way n kind left ++ l)
    (sym (append-assoc mine (EndOf (length left ∷ n ∷ []) ∷ []) (list_among way n kind (suc (length left)) others)))
    ∙ sym (append-assoc (list_left way n kind left) (mine ++ EndOf (length left ∷ n ∷ []) ∷ [])
    (list_among way n kind (suc (length left)) others)))

-- the list of a tree is what is left of a place, what the place stands for, and what is right of it
pub around : (levels : List Level) (status : Status) → pending_list (plug levels status)
    ≡ front_of levels ++ (list_below (way_of levels) (spent_at levels) status ++ back_of levels)
around [] status = sym (nil (list_below [] 0 status))
  where
    nil : (xs : List Element) → xs ++ [] ≡ xs
    nil [] = refl
    nil (x ∷ xs) = ap (λ l. x ∷ l) (nil xs)
around (v ∷ up) status =
    let way = way_of up in
    let mine = list_below (way_of (v ∷ up)) v.spent status in
    let here = list_left way v.number v.kind v.left in
    let credit = CreditElement (spent_at up) [] in
    let inside : list_in way (level_node v status) ≡ here ++ (mine ++ list_right way v) = level way v.number v.kind v.left
    (alternative v.spent status v.right) in
    around up (Inner (level_node v status))
    ∙ (ap (λ l. front_of up ++ (credit ∷ (l ++ back_of up))) inside
    ∙ (ap (λ l. front_of up ++ (credit ∷ l))
    (append-assoc here (mine ++ list_right way v) (back_of up)
    ∙ ap (λ l. here ++ l) (append-assoc mine (list_right way v) (back_of up)))
    ∙ sym (append-assoc (front_of up) (credit ∷ here) (mine ++ (list_right way v ++ back_of up)))))
