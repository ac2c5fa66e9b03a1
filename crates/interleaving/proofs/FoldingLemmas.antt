-- A node all of whose alternatives have closed folds into the alternative above.
use Rattle.std.proofs.Common.{◌≡◌, ℕ, suc, ◌+◌, ◌==◌, true, false, cond, List, [], ◌∷◌, ◌++◌, map, length, Option, Some, None, refl, sym}
use Rattle.std.proofs.Common.{ap}
use Rattle.std.proofs.Common.{◌∙◌, subst, arith}
use Rattle.std.specs.Prelude.{min}
use Rattle.au_model.specs.Terms.Each.{Each}
use Rattle.run_model.specs.Programs.Clauses.{Clause}
use Rattle.tree_model.specs.Credits.{Credit as TreeCredit, greatest}
use Rattle.tree_model.specs.Nodes.{Kind, Alternatives, none, alternative, Status, Pending, Inner, Closed}
use Rattle.tree_model.specs.Levels.{Level, plug}
use Rattle.tree_model.specs.Closing.{and_then, all_right, all_left, all_closed}
use Rattle.tree_model.specs.Elements.{Record, Element, Credit}
use Rattle.tree_model.specs.PendingLists.{Way, way_of, findall_on, balance_on, list_among, list_left, list_right, pending_list, spent_at}
use Rattle.tree_model.specs.PendingLists.{front_of, back_of}
use Rattle.tree_model.specs.SoundTrees.{IsOpen}
use Rattle.tree_model.specs.CaughtTrees.{is_side}
use Rattle.tree_model.proofs.CountLemmas.{count_around}
use Rattle.interleaving.specs.Segments.{outer}
use Rattle.interleaving.specs.Laws.{is_inner_record, IsSegment}
use Rattle.interleaving.specs.Quiet.{inferences, records}
use Rattle.interleaving.specs.Views.{IsInner, IsRecordApart}
use Rattle.interleaving.specs.Follows.{lead}
use Rattle.interleaving.proofs.ContextLemmas.{IsAround}
use Rattle.interleaving.proofs.AppendLemmas.{each-append}
use Rattle.interleaving.proofs.RootLemmas.{are_distinguished}
use Rattle.interleaving.proofs.ListChangeLemmas.{quiet_early}
use Rattle.interleaving.proofs.LeadLemmas.{lead-quiet, lead-grows}
use Rattle.interleaving.proofs.EndLemmas.{has_end}
use Rattle.interleaving.proofs.BlindLemmas.{of_node, front_blind, back_under, records_apart, off_levels}
use Rattle.interleaving.proofs.FoldLemmas.{Passes, passes_becoming, passes_then, credit_counted, LeftSides, node_list, node_totals}
use Rattle.interleaving.proofs.FoldLemmas.{closed_round}
use Rattle.au_term.proofs.LogicLemmas.{number_same}

inner-append : (n : ℕ) (xs ys : List Element) → Each (IsInner (of_node n)) xs → Each (IsInner (of_node n)) ys
    → Each (IsInner (of_node n)) (xs ++ ys)
inner-append n xs ys h k = each-append (IsInner (of_node n)) xs ys h k

left_inner : (way : Way) (n : ℕ) (kind : Kind) (left : List (ℕ × Status)) (d : TreeCredit) → all_left left ≡ Some d
    → Each (IsInner (of_node n)) (list_left way n kind left)
left_inner way n kind [] d e = tt
left_inner way n kind ((spent, Pending hold x) ∷ left) d e = absurd (nothing (all_left left) e)
  where
    nothing : (o : Option TreeCredit) → and_then o None ≡ Some d → ⊥
    nothing None e = cc
    nothing (Some b) e = cc
left_inner way n kind ((spent, Inner node) ∷ left) d e = absurd (nothing (all_left left) e)
  where
    nothing : (o : Option TreeCredit) → and_then o None ≡ Some d → ⊥
    nothing None e = cc
    nothing (Some b) e = cc
left_inner way n kind ((spent, Closed c) ∷ left) d e = go (all_left left) refl e (λ b q. left_inner way n kind left b q)
  where
    go : (o : Option TreeCredit) → all_left left ≡ o → and_then o (Some c) ≡ Some d
        → ((b : TreeCredit) → all_left left ≡ Some b → Each (IsInner (of_node n)) (list_left way n kind left))
        → Each (IsInner (of_node n)) (list_left way n kind ((spent, Closed c) ∷ left))
    go None q e f = let no_way : ⊥ = cc in absurd no_way
    go (Some b) q e f = inner-append n (list_left way n kind left) _ (f b q) (tt, (number_same n, tt))

right_inner : (way : Way) (n : ℕ) (kind : Kind) (i : ℕ) (others : Alternatives) (d : TreeCredit) → all_right others ≡ Some d
    → Each (IsInner (of_node n)) (list_among way n kind i others)
right_inner way n kind i none d e = tt
right_inner way n kind i (alternative spent (Pending hold x) others) d e = let no_way : ⊥ = cc in absurd no_way
right_inner way n kind i (alternative spent (Inner node) others) d e = let no_way : ⊥ = cc in absurd no_way
right_inner way n kind i (alternative spent (Closed c) others) d e = go (all_right others) refl e
    (λ b q. right_inner way n kind (suc i) others b q)
  where
    go : (o : Option TreeCredit) → all_right others ≡ o → and_then (Some c) o ≡ Some d
        → ((b : TreeCredit) → all_right others ≡ Some b → Each (IsInner (of_node n)) (list_among way n kind (suc i) others))
        → Each (IsInner (of_node n)) (list_among way n kind i (alternative spent (Closed c) others))
    go None q e f = let no_way : ⊥ = cc in absurd no_way
    go (Some b) q e f = (tt, (number_same n, f b q))

outer_apart : (n : ℕ) (rs : List Record) → Each (IsRecordApart (of_node n)) rs → outer (is_inner_record (of_node n)) rs ≡ rs
outer_apart n [] h = refl
outer_apart n (r ∷ rs) h = ap (λ b. cond b (outer (is_inner_record (of_node n)) rs) (r ∷ outer (is_inner_record (of_node n)) rs)) h.0
    ∙ ap (λ l. r ∷ l) (outer_apart n rs h.1)

-- a node all of whose alternatives have closed folds
pub fold_passes : (clauses : List Clause) (v : Level) (up : List Level) (c total : TreeCredit) → LeftSides v.kind v.left
    → is_side v.kind (length v.left) ≡ false → all_closed v c ≡ Some total → count_around v.number up ≡ 0 → IsAround up IsOpen
    → has_end (back_of up) ≡ true → Passes clauses (pending_list (plug (v ∷ up) (Closed c)))
    (front_of up ++ (Credit (min greatest (spent_at up + total.inferences)) (map (λ t. (findall_on (way_of up), t)) total.records)
    ∷ back_of up))
fold_passes clauses v up c total sides off e none_above a end =
    let n = v.number in
    let t = node_totals up v c total sides off e in
    let xs = node_list up v c in
    let sum = t.sum in
    let inferences_of : inferences xs
    ≡ spent_at up + inferences (list_left (way_of up) v.number v.kind v.left
    ++ (balance_on (way_of (v ∷ up)) c ∷ list_right (way_of up) v)) = refl in
    let segment : IsSegment (of_node n) (front_of up) xs (back_of up) = record {
      grown = are_distinguished.root (λ m. m == n);
      front = front_blind n up none_above a;
      own =
          (tt, inner_parts (all_left v.left) refl (all_right v.right) refl e);
      under = back_under n up none_above a;
      some = omega arith;
    } in
    let becomes = quiet_early clauses (of_node n) (front_of up) xs (back_of up) t.quiet segment in
    let kept : outer (is_inner_record (of_node n)) (records xs) ≡ map (λ t. (findall_on (way_of up), t)) total.records = ap
    (outer (is_inner_record (of_node n))) t.rows
    ∙ outer_apart n _ (records_apart n (way_of up) total.records (off_levels n up none_above)) in
    let counts : min greatest (inferences xs) ≡ min greatest (spent_at up + total.inferences) = omega (arith, sum, inferences_of) in
    let quiet_lead : lead (xs ++ back_of up) ≡ inferences xs + lead (back_of up) = lead-quiet xs (back_of up) t.quiet in
    let one = passes_becoming clauses (front_of up ++ (xs ++ back_of up))
    (front_of up ++ (Credit (inferences xs) (outer (is_inner_record (of_node n)) (records xs)) ∷ back_of up)) becomes
    (lead-grows (front_of up) (xs ++ back_of up)
    (Credit (inferences xs) (outer (is_inner_record (of_node n)) (records xs)) ∷ back_of up) (omega (arith, quiet_lead))) in
    let two = credit_counted clauses (front_of up) (back_of up) (inferences xs) (outer (is_inner_record (of_node n)) (records xs))
    end in
    let last : front_of up ++ (Credit (min greatest (inferences xs)) (outer (is_inner_record (of_node n)) (records xs)) ∷ back_of up)
    ≡ front_of up ++ (Credit (min greatest (spent_at up + total.inferences)) (map (λ t. (findall_on (way_of up), t)) total.records)
    ∷ back_of up) = ap (λ k. front_of up ++ (Credit k (outer (is_inner_record (of_node n)) (records xs)) ∷ back_of up)) counts
    ∙ ap (λ rs. front_of up ++ (Credit (min greatest (spent_at up + total.inferences)) rs ∷ back_of up)) kept in
    subst (λ l. Passes clauses l (front_of up
    ++ (Credit (min greatest (spent_at up + total.inferences)) (map (λ t. (findall_on (way_of up), t)) total.records) ∷ back_of
    up))) (sym (closed_round v up c))
    (subst (Passes clauses (front_of up ++ (xs ++ back_of up))) last (passes_then clauses _ _ _ one two))
  where
    inner_parts : (l : Option TreeCredit) → all_left v.left ≡ l → (r : Option TreeCredit) → all_right v.right ≡ r
        → and_then (and_then l (Some c)) r ≡ Some total
        → Each (IsInner (of_node v.number))
        (list_left (way_of up) v.number v.kind v.left ++ (balance_on (way_of (v ∷ up)) c ∷ list_right (way_of up) v))
    inner_parts None p r q e = let no_way : ⊥ = cc in absurd no_way
    inner_parts (Some x) p None q e = let no_way : ⊥ = cc in absurd no_way
    inner_parts (Some x) p (Some y) q e = inner-append v.number (list_left (way_of up) v.number v.kind v.left) _
        (left_inner (way_of up) v.number v.kind v.left x p)
        (tt, (number_same v.number, right_inner (way_of up) v.number v.kind (suc (length v.left)) v.right y q))
