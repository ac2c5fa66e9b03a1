-- The list of a branch where all to the right has been cut away below a node: ends of scopes alone are left there.
use Rattle.std.proofs.Common.{◌≡◌, ℕ, suc, ◌+◌, ◌≤◌, ◌==◌, Bool, true, false, cond, List, [], ◌∷◌, ◌++◌, map, length, refl, sym, ap, ◌∙◌}
use Rattle.std.proofs.Common.{subst, arith}
use Rattle.au_model.specs.Terms.Each.{Each}
use Rattle.run_model.specs.Programs.Clauses.{Clause}
use Rattle.tree_model.specs.Nodes.{Kind, Alternatives, none, alternative}
use Rattle.tree_model.specs.Levels.{Level}
use Rattle.tree_model.specs.Pruning.{emptied, pruned}
use Rattle.tree_model.specs.PendingLists.{Way, way_of, list_among, list_left, list_right, spent_at, front_of, level_front, back_of}
use Rattle.tree_model.specs.SoundTrees.{one_if, count_among}
use Rattle.tree_model.specs.Elements.{Name, Record, Element, Credit, Plain, EndOf, Catch, Findall, End}
use Rattle.tree_model.proofs.CountLemmas.{count_left}
use Rattle.interleaving.specs.Machine.{gives}
use Rattle.interleaving.specs.Scopes.{scoped}
use Rattle.interleaving.specs.Roots.{rooted}
use Rattle.interleaving.specs.Views.{IsInner}
use Rattle.interleaving.specs.Erased.{erased}
use Rattle.interleaving.proofs.QuietCreditLemmas.{gives-fixed}
use Rattle.interleaving.proofs.AppendLemmas.{append-assoc}
use Rattle.interleaving.proofs.ListEndLemmas.{levels_down}
use Rattle.interleaving.proofs.PlacedNameLemmas.{bare, bare-append}
use Rattle.interleaving.proofs.LowerListLemmas.{count_lower}
use Rattle.interleaving.proofs.GrowingLemmas.{pruned_way}
use Rattle.au_term.proofs.LogicLemmas.{number_same}

-- what a cut leaves of a level
abbrev emptied_level : Level → Level
emptied_level v = record v { right = emptied v.right }

pruned_spent : (s : ℕ) (levels : List Level) → spent_at (pruned s levels) ≡ spent_at levels
pruned_spent s [] = refl
pruned_spent s (v ∷ up) = go (v.number == s)
  where
    go : (b : Bool) → spent_at (cond b (v ∷ up) (emptied_level v ∷ pruned s up)) ≡ v.spent
    go true = refl
    go false = refl

pub pruned_front : (s : ℕ) (levels : List Level) → (front_of (pruned s levels) ≡ front_of levels)
    × (spent_at (pruned s levels) ≡ spent_at levels)
pruned_front s [] = (refl, refl)
pruned_front s (v ∷ up) = (go (v.number == s) (pruned_front s up), pruned_spent s (v ∷ up))
  where
    go : (b : Bool) → (front_of (pruned s up) ≡ front_of up) × (spent_at (pruned s up) ≡ spent_at up)
        → front_of (cond b (v ∷ up) (emptied_level v ∷ pruned s up)) ≡ front_of (v ∷ up)
    go true h = refl
    go false h =
        let way = pruned_way s up in
        ap (λ l. l ++ level_front (pruned s up) (emptied_level v)) h.0
        ∙ (ap (λ k. front_of up ++ (Credit k [] ∷ list_left (way_of (pruned s up)) v.number v.kind v.left)) h.1
        ∙ ap (λ x. front_of up ++ (Credit (spent_at up) [] ∷ list_left x v.number v.kind v.left)) way)

-- what is left of the list below the node
abbrev pub lower_pruned : ℕ → List Level → List Element
lower_pruned s [] = []
lower_pruned s (v ∷ up) = cond (v.number == s) [] (list_right (way_of up) (emptied_level v) ++ lower_pruned s up)

pub pruned_back : (s : ℕ) (levels : List Level) → back_of (pruned s levels) ≡ lower_pruned s levels ++ back_of (levels_down levels s)
pruned_back s [] = refl
pruned_back s (v ∷ up) = go (v.number == s) (pruned_back s up)
  where
    go : (b : Bool) → back_of (pruned s up) ≡ lower_pruned s up ++ back_of (levels_down up s)
        → back_of (cond b (v ∷ up) (emptied_level v ∷ pruned s up))
        ≡ cond b [] (list_right (way_of up) (emptied_level v) ++ lower_pruned s up) ++ back_of (cond b (v ∷ up) (levels_down up s))
    go true h = refl
    go false h =
        ap (λ way. list_right way (emptied_level v) ++ back_of (pruned s up)) (pruned_way s up)
        ∙ (ap (λ l. list_right (way_of up) (emptied_level v) ++ l) h
        ∙ sym (append-assoc (list_right (way_of up) (emptied_level v)) (lower_pruned s up) (back_of (levels_down up s))))

-- ends of scopes of such nodes
abbrev pub EndsOf : (ℕ → Bool) → List Element → Type 0
EndsOf ok [] = Unit {0}
EndsOf ok (EndOf s ∷ xs) = (rooted ok s ≡ true) × EndsOf ok xs
EndsOf ok (Credit k rs ∷ xs) = ⊥
EndsOf ok (Plain p f ∷ xs) = ⊥
EndsOf ok (Catch s u c r p f ∷ xs) = ⊥
EndsOf ok (Findall s u results list p f ∷ xs) = ⊥
EndsOf ok (End p b ∷ xs) = ⊥

ends_joined : (ok : ℕ → Bool) (xs ys : List Element) → EndsOf ok xs → EndsOf ok ys → EndsOf ok (xs ++ ys)
ends_joined ok [] ys h k = k
ends_joined ok (EndOf s ∷ xs) ys h k = (h.0, ends_joined ok xs ys h.1 k)
ends_joined ok (Credit j rs ∷ xs) ys h k = absurd h
ends_joined ok (Plain p f ∷ xs) ys h k = absurd h
ends_joined ok (Catch s u c r p f ∷ xs) ys h k = absurd h
ends_joined ok (Findall s u results list p f ∷ xs) ys h k = absurd h
ends_joined ok (End p b ∷ xs) ys h k = absurd h

pub ends_inner : (ok : ℕ → Bool) (inside : Name → Bool) → ((s : Name) → rooted ok s ≡ true → inside s ≡ true) → (xs : List Element)
    → EndsOf ok xs → Each (IsInner inside) xs
ends_inner ok inside f [] h = tt
ends_inner ok inside f (EndOf s ∷ xs) h = (f s h.0, ends_inner ok inside f xs h.1)
ends_inner ok inside f (Credit j rs ∷ xs) h = absurd h
ends_inner ok inside f (Plain p g ∷ xs) h = absurd h
ends_inner ok inside f (Catch s u c r p g ∷ xs) h = absurd h
ends_inner ok inside f (Findall s u results list p g ∷ xs) h = absurd h
ends_inner ok inside f (End p b ∷ xs) h = absurd h

pub ends_fixed : (clauses : List Clause) (rs : List Record) (ok : ℕ → Bool) (xs ys : List Element) → EndsOf ok xs
    → map (gives (scoped clauses) rs) (xs ++ ys) ≡ xs ++ map (gives (scoped clauses) rs) ys
ends_fixed clauses rs ok [] ys h = refl
ends_fixed clauses rs ok (EndOf s ∷ xs) ys h = let head = gives-fixed clauses rs (EndOf s) tt in let tail = ends_fixed clauses rs ok xs
    ys h.1 in cc
ends_fixed clauses rs ok (Credit j qs ∷ xs) ys h = absurd h
ends_fixed clauses rs ok (Plain p g ∷ xs) ys h = absurd h
ends_fixed clauses rs ok (Catch s u c r p g ∷ xs) ys h = absurd h
ends_fixed clauses rs ok (Findall s u results list p g ∷ xs) ys h = absurd h
ends_fixed clauses rs ok (End p b ∷ xs) ys h = absurd h

pub ends_gone : (ok : ℕ → Bool) (xs ys : List Element) → EndsOf ok xs → erased (xs ++ ys) ≡ erased ys
ends_gone ok [] ys h = refl
ends_gone ok (EndOf s ∷ xs) ys h = ends_gone ok xs ys h.1
ends_gone ok (Credit j qs ∷ xs) ys h = absurd h
ends_gone ok (Plain p g ∷ xs) ys h = absurd h
ends_gone ok (Catch s u c r p g ∷ xs) ys h = absurd h
ends_gone ok (Findall s u results list p g ∷ xs) ys h = absurd h
ends_gone ok (End p b ∷ xs) ys h = absurd h

-- what was cut away
emptied_ends : (ok : ℕ → Bool) (way : Way) (n : ℕ) (kind : Kind) (i : ℕ) (others : Alternatives) → ok n ≡ true
    → EndsOf ok (bare (list_among way n kind i (emptied others)))
emptied_ends ok way n kind i none h = tt
emptied_ends ok way n kind i (alternative spent status others) h = (h, emptied_ends ok way n kind (suc i) others h)

pub lower_ends : (ok : ℕ → Bool) (s : ℕ) (levels : List Level) → ((m : ℕ) → 1 ≤ count_lower m s levels → ok m ≡ true)
    → EndsOf ok (bare (lower_pruned s levels))
lower_ends ok s [] h = tt
lower_ends ok s (v ∷ up) h = go (v.number == s) h (λ f. lower_ends ok s up f)
  where
    go : (b : Bool) → ((m : ℕ) → 1 ≤ cond b 0
        (count_lower m s up + (one_if (v.number == m) + (count_left m v.left + count_among m v.right))) → ok m ≡ true)
        → (((m : ℕ) → 1 ≤ count_lower m s up → ok m ≡ true) → EndsOf ok (bare (lower_pruned s up)))
        → EndsOf ok (bare (cond b [] (list_right (way_of up) (emptied_level v) ++ lower_pruned s up)))
    go true f more = tt
    go false f more =
        let own : ok v.number ≡ true = f v.number
        (let z : one_if (v.number == v.number) ≡ 1 = ap one_if (number_same v.number) in omega (arith, z)) in
        let right = list_right (way_of up) (emptied_level v) in
        subst (EndsOf ok) (sym (bare-append right (lower_pruned s up)))
        (ends_joined ok (bare right) (bare (lower_pruned s up))
        (own, emptied_ends ok (way_of up) v.number v.kind (suc (length v.left)) v.right own) (more (λ m l. f m (omega (arith, l)))))
