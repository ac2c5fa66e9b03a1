-- A gate at the front that leaves nothing in its place: an answer, or a removal of what is gone.
use Rattle.std.proofs.Common.{◌≡◌, ℕ, suc, ◌+◌, List, [], ◌∷◌, ◌++◌, map, refl, sym, ap, ◌∙◌, subst, arith}
use Rattle.run_model.specs.Programs.Clauses.{Clause}
use Rattle.run_model.specs.Machine.Items.{Item, GoalItem, CatchMark, CollectMark, RemovalItem, Continuation, with_items, without_marks}
use Rattle.tree_model.specs.Nodes.{Alternatives, alternative, Status, Inner}
use Rattle.tree_model.specs.Levels.{Level, put_left, level_node, plug}
use Rattle.tree_model.specs.CaughtTrees.{IsUnspent, AreUnspent}
use Rattle.tree_model.specs.Elements.{Name, Record, Element, Credit, Plain}
use Rattle.interleaving.specs.Machine.{Machine, AsksWorld, Drops, Put, gives, freed, placed, free_steps, run, seen}
use Rattle.interleaving.specs.Scopes.{Shared, Sought, ElementReplacement, Does, act, unmarked, scoped}
use Rattle.interleaving.specs.Quiet.{IsQuiet, inferences, records}
use Rattle.interleaving.proofs.QuietCreditLemmas.{gives-fixed}
use Rattle.interleaving.proofs.CreditLawLemmas.{further}
use Rattle.interleaving.proofs.PassingLemmas.{credits_pass}
use Rattle.interleaving.proofs.FrontLawLemmas.{front_gate}
use Rattle.interleaving.proofs.ListChangeLemmas.{records_given}
use Rattle.interleaving.proofs.AppendLemmas.{append-assoc}
use Rattle.interleaving.proofs.ClockLemmas.{quiet-append, inferences-append}
use Rattle.interleaving.proofs.FoldLemmas.{records-append}

module _ (clauses : List Clause) where
  abbrev m : Machine Shared Element Sought Record
  m = scoped clauses

  -- catch marks in front go by themselves
  abbrev pub bare : Name → Continuation Name → Element
  bare p f = Plain p (with_items (without_marks f.items) f)

  marked : (items : List (Item Name)) (p : Name) (f : Continuation Name) (g : Shared → Shared × ElementReplacement) (x : Element)
      (go : List Record → List Element) (zs : List Element) → act clauses (Plain p (with_items items f)) ≡ AsksWorld g
      → freed m (unmarked items p f) x go zs ≡ Plain p (with_items items f) ∷ zs
  marked [] p f g x go zs h = refl
  marked (GoalItem t s ∷ items) p f g x go zs h = refl
  marked (CatchMark s ∷ items) p f g x go zs h = refl
  marked (RemovalItem k ∷ items) p f g x go zs h = refl
  marked (CollectMark t s ∷ items) p f g x go zs h = absurd (no_way h)
    where
      no_way : ◌≡◌ {A = Does} (Drops ((s, t) ∷ [])) (AsksWorld g) → ⊥
      no_way h = cc

  stands_up : (x : Element) (g : Shared → Shared × ElementReplacement) (zs : List Element) → act clauses x ≡ AsksWorld g
      → free_steps m [] (x ∷ zs)
      ≡ x ∷ map (gives m []) zs
  stands_up x g zs h = ap (λ a. freed m a x (λ new. free_steps m new zs) (map (gives m []) zs)) h

  pub unmark : (items : List (Item Name)) (p : Name) (f : Continuation Name) (g : Shared → Shared × ElementReplacement) (zs : List Element)
      → act clauses (Plain p (with_items (without_marks items) f)) ≡ AsksWorld g → free_steps m [] (Plain p (with_items items f) ∷ zs)
      ≡ free_steps m [] (Plain p (with_items (without_marks items) f) ∷ zs)
  unmark [] p f g zs h = refl
  unmark (GoalItem t s ∷ items) p f g zs h = refl
  unmark (CollectMark t s ∷ items) p f g zs h = refl
  unmark (RemovalItem k ∷ items) p f g zs h = refl
  unmark (CatchMark s ∷ items) p f g zs h = marked (without_marks items) p (with_items (CatchMark s ∷ items) f) g
      (Plain p (with_items (CatchMark s ∷ items) f)) (λ new. free_steps m new zs) (map (gives m []) zs) h
      ∙ sym (stands_up (Plain p (with_items (without_marks items) f)) g zs h)

  pub passed_at : (xs zs : List Element) (x : Element) (w : Shared) (n : ℕ) → IsQuiet xs → gives m (records xs) x ≡ x
      → run m (inferences xs + n) w (free_steps m [] (xs ++ (x ∷ zs))) ≡ run m n w (free_steps m [] (x ∷ map (gives m (records xs)) zs))
  passed_at xs zs x w n q e =
      further clauses (inferences xs) n w (free_steps m [] (xs ++ (x ∷ zs)))
      ∙ (ap (λ s. run m n s.0 s.1) (credits_pass clauses xs (x ∷ zs) w q).passed
      ∙ ap (λ y. run m n w (free_steps m [] (y ∷ map (gives m (records xs)) zs))) e)

  -- the front of the list after the gate
  pub front_closes : (front zs : List Element) (sp : ℕ) (p : Name) (f : Continuation Name) (g : Shared → Shared × ElementReplacement)
      (w : Shared)
      (n : ℕ) → IsQuiet front → sp ≡ 0 → act clauses (bare p f) ≡ AsksWorld g → (g w).1 ≡ Put []
      → seen (run m (inferences front + suc n) w (free_steps m [] (front ++ (Credit sp [] ∷ (Plain p f ∷ zs)))))
      ≡ seen (run m (inferences front + suc n) (g w).0 (free_steps m [] (front ++ (Credit 1 [] ∷ zs))))
  front_closes front zs sp p f g w n q unspent h e =
      let xs = front ++ (Credit sp [] ∷ []) in
      let ys = front ++ (Credit 1 [] ∷ []) in
      let quiet = quiet-append front (Credit sp [] ∷ []) q tt in
      let quiet_y = quiet-append front (Credit 1 [] ∷ []) q tt in
      let count : inferences xs ≡ inferences front =
      (let z : inferences xs ≡ inferences front + (sp + 0) = inferences-append front (Credit sp [] ∷ []) in omega
      (arith, z, unspent)) in
      let count_y : inferences ys ≡ inferences xs + 1 =
      (let z : inferences ys ≡ inferences front + (1 + 0) = inferences-append front (Credit 1 [] ∷ []) in omega
      (arith, z, count)) in
      let rows : records ys ≡ records xs = records-append front (Credit 1 [] ∷ []) ∙ sym (records-append front (Credit sp [] ∷ [])) in
      let rest = map (gives m (records xs)) zs in
      let one : run m (inferences xs + suc n) w (free_steps m [] (xs ++ (Plain p f ∷ zs)))
      ≡ run m (inferences xs + suc n) w (free_steps m [] (xs ++ (bare p f ∷ zs))) = passed_at xs zs (Plain p f) w (suc n) quiet
      (gives-fixed clauses (records xs) (Plain p f) tt)
      ∙ (ap (run m (suc n) w) (unmark f.items p f g rest h)
      ∙ sym (passed_at xs zs (bare p f) w (suc n) quiet (gives-fixed clauses (records xs) (bare p f) tt))) in
      let two : run m (inferences xs + suc n) w (free_steps m [] (xs ++ (bare p f ∷ zs)))
      ≡ run m (inferences xs + suc n) (g w).0 (free_steps m [] (Credit (inferences xs + 1) [] ∷ rest)) = front_gate clauses xs
      (bare p f) g zs w n quiet h ∙ ap
      (λ l. run m (inferences xs + suc n) (g w).0 (free_steps m [] (Credit (inferences xs + 1) [] ∷ placed m l rest))) e in
      let given = (records_given clauses ys [] zs tt quiet_y).alike (inferences xs + suc n) (g w).0 in
      let same : Credit (inferences ys) [] ∷ map (gives m (records ys)) zs
      ≡ Credit (inferences xs + 1) [] ∷ rest = ap (λ k. Credit k [] ∷ map (gives m (records ys)) zs) count_y
      ∙ ap (λ rs. Credit (inferences xs + 1) [] ∷ map (gives m rs) zs) rows in
      let three : seen (run m (inferences xs + suc n) (g w).0 (free_steps m [] (Credit (inferences xs + 1) [] ∷ rest)))
      ≡ seen (run m (inferences xs + suc n) (g w).0 (free_steps m [] (ys ++ zs))) = sym
      (given ∙ ap (λ l. seen (run m (inferences xs + suc n) (g w).0 (free_steps m [] l))) same) in
      let all : seen (run m (inferences xs + suc n) w (free_steps m [] (xs ++ (Plain p f ∷ zs))))
      ≡ seen (run m (inferences xs + suc n) (g w).0 (free_steps m [] (ys ++ zs))) = ap seen (one ∙ two) ∙ three in
      ap (λ l. seen (run m (inferences front + suc n) w (free_steps m [] l)))
      (sym (append-assoc front (Credit sp [] ∷ []) (Plain p f ∷ zs)))
      ∙ (subst (λ k. seen (run m (k + suc n) w (free_steps m [] (xs ++ (Plain p f ∷ zs))))
      ≡ seen (run m (k + suc n) (g w).0 (free_steps m [] (ys ++ zs)))) count all
      ∙ ap (λ l. seen (run m (inferences front + suc n) (g w).0 (free_steps m [] l))) (append-assoc front (Credit 1 [] ∷ []) zs))

-- nothing was spent on an entry that is
unspent_put : (left : List (ℕ × Status)) (others : Alternatives) → AreUnspent (put_left left others) → AreUnspent others
unspent_put [] others h = h
unspent_put (a ∷ left) others h = (unspent_put left (alternative a.0 a.1 others) h).1

pub unspent_out : (v : Level) (up : List Level) (status : Status) → IsUnspent 0 (plug (v ∷ up) status) → IsUnspent v.spent status
unspent_out v [] status h = (unspent_put v.left (alternative v.spent status v.right) h).0
unspent_out v (u ∷ up) status h =
    (unspent_put v.left (alternative v.spent status v.right) (unspent_out u up (Inner (level_node v status)) h)).0
