-- What the list does where the gate of its first entry is taken.
use Rattle.std.proofs.Common.{◌≡◌, ℕ, suc, ◌+◌, ◌-◌, ◌≤◌, List, [], ◌∷◌, ◌++◌, map, Some, None, sym, ap, ◌∙◌, subst, arith}
use Rattle.run_model.specs.Programs.Clauses.{Clause}
use Rattle.run_model.specs.Machine.Items.{Item, GoalItem, CatchMark, CollectMark, RemovalItem, Continuation, without_marks}
use Rattle.tree_model.specs.Nodes.{Pending}
use Rattle.tree_model.specs.Levels.{Spot, levels_of}
use Rattle.tree_model.specs.TreeStates.{TreeState, leftmost}
use Rattle.tree_model.specs.PendingLists.{pending_list, front_of, back_of}
use Rattle.tree_model.specs.SoundTrees.{IsSoundTree}
use Rattle.tree_model.specs.CaughtTrees.{IsUnspent, IsCaughtTree}
use Rattle.tree_model.specs.Elements.{Name, Element, Credit, Plain}
use Rattle.interleaving.specs.Machine.{Machine, AsksWorld, gives, placed, free_steps, run, seen}
use Rattle.interleaving.specs.Scopes.{Shared, Sought, ElementReplacement, act, scoped}
use Rattle.tree_model.specs.Elements.{Record}
use Rattle.interleaving.specs.Quiet.{IsQuiet, inferences, records}
use Rattle.interleaving.specs.Sound.{names, IsEntrySound, IsSound}
use Rattle.interleaving.specs.Follows.{lead}
use Rattle.interleaving.specs.HistoryInvariants.{shared_of, AnswerMoves}
use Rattle.interleaving.proofs.AppendLemmas.{append-assoc, append-nil}
use Rattle.interleaving.proofs.QuietCreditLemmas.{gives-fixed}
use Rattle.interleaving.proofs.CreditLawLemmas.{further}
use Rattle.interleaving.proofs.PassingLemmas.{credits_pass}
use Rattle.interleaving.proofs.FrontLawLemmas.{gate_taken}
use Rattle.interleaving.proofs.FrontCloseLemmas.{bare, unmark, passed_at, unspent_out}
use Rattle.interleaving.proofs.FoldLemmas.{records-append}
use Rattle.interleaving.proofs.LeadLemmas.{lead-quiet, FollowsFrom}
use Rattle.interleaving.proofs.ClockLemmas.{IsFirst, quiet-append, inferences-append, front_quiet}
use Rattle.interleaving.proofs.EndLemmas.{not_over, first_end}
use Rattle.interleaving.proofs.GoingLemmas.{not_halted}

-- catch marks in front are no loss to names
pub bare_sound : (clauses : List Clause) (p : Name) (f : Continuation Name) (xs : List Element) → IsSound (Plain p f ∷ xs)
    → IsSound (bare clauses p f ∷ xs)
bare_sound clauses p f xs h = (dropped f.items h.0, h.1)
  where
    dropped : (items : List (Item Name)) → IsEntrySound p xs (names items) items → IsEntrySound p xs (names (without_marks items))
        (without_marks items)
    dropped [] k = k
    dropped (GoalItem t s ∷ items) k = k
    dropped (CollectMark t s ∷ items) k = k
    dropped (RemovalItem n ∷ items) k = k
    dropped (CatchMark s ∷ items) k = dropped items
        (record {
          carried = record { older = k.carried.older.1; present = k.carried.present.1; chain = k.carried.chain.1 };
          marks =
              k.marks.1;
          findalls = k.findalls;
        })

module _ (clauses : List Clause) where
  abbrev m : Machine Shared Element Sought Record
  m = scoped clauses

  -- the gate of the first entry
  pub front_taken : (front zs : List Element) (sp : ℕ) (p : Name) (f : Continuation Name) (g : Shared → Shared × ElementReplacement)
      (w : Shared)
      (n : ℕ) → IsQuiet front → sp ≡ 0 → act clauses (bare clauses p f) ≡ AsksWorld g
      → run m (inferences front + suc n) w (free_steps m [] (front ++ (Credit sp [] ∷ (Plain p f ∷ zs))))
      ≡ run m n (g w).0 (free_steps m [] (placed m (g w).1 (map (gives m (records front)) zs)))
  front_taken front zs sp p f g w n q unspent h =
      let xs = front ++ (Credit sp [] ∷ []) in
      let quiet = quiet-append front (Credit sp [] ∷ []) q tt in
      let count : inferences xs ≡ inferences front =
      (let z : inferences xs ≡ inferences front + (sp + 0) = inferences-append front (Credit sp [] ∷ []) in omega
      (arith, z, unspent)) in
      let rows : records xs ≡ records front = records-append front (Credit sp [] ∷ []) ∙ append-nil (records front) in
      let rest = map (gives m (records xs)) zs in
      let one : run m (inferences xs + suc n) w (free_steps m [] (xs ++ (Plain p f ∷ zs)))
      ≡ run m (inferences xs + suc n) w (free_steps m [] (xs ++ (bare clauses p f ∷ zs))) = passed_at clauses xs zs (Plain p f) w
      (suc n) quiet (gives-fixed clauses (records xs) (Plain p f) tt)
      ∙ (ap (run m (suc n) w) (unmark clauses f.items p f g rest h)
      ∙ sym (passed_at clauses xs zs (bare clauses p f) w (suc n) quiet
      (gives-fixed clauses (records xs) (bare clauses p f) tt))) in
      let two = gate_taken clauses xs (bare clauses p f) g zs w n quiet h in
      ap (λ l. run m (inferences front + suc n) w (free_steps m [] l)) (sym (append-assoc front (Credit sp [] ∷ []) (Plain p f ∷ zs)))
      ∙ (ap (λ k. run m (k + suc n) w (free_steps m [] (xs ++ (Plain p f ∷ zs)))) (sym count)
      ∙ (one ∙ (two ∙ ap (λ rs. run m n (g w).0 (free_steps m [] (placed m (g w).1 (map (gives m rs) zs)))) rows)))

  -- an end of a query at the front
  pub front_asked : (front zs : List Element) (sp : ℕ) (x : Element) (g : Shared → Shared × ElementReplacement) (w : Shared) (n : ℕ)
      → IsQuiet front
      → sp ≡ 0 → act clauses x ≡ AsksWorld g
      → run m (inferences front + suc n) w (free_steps m [] (front ++ (Credit sp [] ∷ (x ∷ zs))))
      ≡ run m n (g w).0 (free_steps m [] (placed m (g w).1 (map (gives m (records front)) zs)))
  front_asked front zs sp x g w n q unspent h =
      let xs = front ++ (Credit sp [] ∷ []) in
      let quiet = quiet-append front (Credit sp [] ∷ []) q tt in
      let count : inferences xs ≡ inferences front =
      (let z : inferences xs ≡ inferences front + (sp + 0) = inferences-append front (Credit sp [] ∷ []) in omega
      (arith, z, unspent)) in
      let rows : records xs ≡ records front = records-append front (Credit sp [] ∷ []) ∙ append-nil (records front) in
      ap (λ l. run m (inferences front + suc n) w (free_steps m [] l)) (sym (append-assoc front (Credit sp [] ∷ []) (x ∷ zs)))
      ∙ (ap (λ k. run m (k + suc n) w (free_steps m [] (xs ++ (x ∷ zs)))) (sym count)
      ∙ (gate_taken clauses xs x g zs w n quiet h
      ∙ ap (λ rs. run m n (g w).0 (free_steps m [] (placed m (g w).1 (map (gives m rs) zs)))) rows))

  -- credits and one more inference are over
  pub front_passed : (front ws : List Element) (k : ℕ) (v : Shared) (n : ℕ) → IsQuiet front → k ≡ 1
      → run m (inferences front + suc n) v (free_steps m [] (front ++ (Credit k [] ∷ ws)))
      ≡ run m n v (free_steps m [] (map (gives m (records front)) ws))
  front_passed front ws k v n q one =
      let ys = front ++ (Credit k [] ∷ []) in
      let quiet = quiet-append front (Credit k [] ∷ []) q tt in
      let count : inferences ys + n ≡ inferences front + suc n =
      (let z : inferences ys ≡ inferences front + (k + 0) = inferences-append front (Credit k [] ∷ []) in omega (arith, z, one)) in
      let rows : records ys ≡ records front = records-append front (Credit k [] ∷ []) ∙ append-nil (records front) in
      ap (λ l. run m (inferences front + suc n) v (free_steps m [] l)) (sym (append-assoc front (Credit k [] ∷ []) ws))
      ∙ (ap (λ j. run m j v (free_steps m [] (ys ++ ws))) (sym count)
      ∙ (further clauses (inferences ys) n v (free_steps m [] (ys ++ ws))
      ∙ (ap (λ s. run m n s.0 s.1) (credits_pass clauses ys ws v quiet).passed
      ∙ ap (λ rs. run m n v (free_steps m [] (map (gives m rs) ws))) rows)))

-- an answer event whose gate leaves this list
pub record IsGateTaken (t new : TreeState) (s : Spot) (answers : ℕ) : Type 0 where
  -- the list, and what is taken
  pub element : Element
  pub list : pending_list t.root ≡ front_of (levels_of s) ++ (Credit s.level.spent [] ∷ (element ∷ back_of (levels_of s)))
  pub left : List Element
  pub taken : (n : ℕ) → run (scoped t.job.clauses) (inferences (front_of (levels_of s)) + suc n) (shared_of answers t)
      (free_steps (scoped t.job.clauses) [] (front_of (levels_of s) ++ (Credit s.level.spent [] ∷ (element ∷ back_of (levels_of s)))))
      ≡ run (scoped t.job.clauses) n (shared_of answers new) (free_steps (scoped t.job.clauses) [] left)
  -- the new tree's list
  pub credit : ℕ
  pub one : credit ≡ s.level.spent + 1
  pub rest : List Element
  pub follows : FollowsFrom (suc (lead (pending_list t.root))) t.job.clauses (front_of (levels_of s) ++ (Credit credit [] ∷ rest))
      (pending_list new.root)
  pub alike : (n : ℕ) → seen (run (scoped t.job.clauses) n (shared_of answers new) (free_steps (scoped t.job.clauses) [] left))
      ≡ seen (run (scoped t.job.clauses) n (shared_of answers new)
      (free_steps (scoped t.job.clauses) [] (map (gives (scoped t.job.clauses) (records (front_of (levels_of s)))) rest)))
  pub running : new.halted ≡ None

pub gate_moves : (t new : TreeState) (s : Spot) (answers : ℕ) → IsSoundTree t → IsCaughtTree t → t.halted ≡ None → IsFirst t s
    → (g : IsGateTaken t new s answers) → (leftmost new ≡ None → lead (pending_list new.root) ≤ suc (lead (pending_list t.root)))
    → AnswerMoves t new answers answers
gate_moves t new s answers i k running first g finished =
    let levels = levels_of s in
    let clauses = t.job.clauses in
    let front = front_of levels in
    let unspent : s.level.spent ≡ 0 = unspent_out s.level s.above (Pending s.hold s.entry)
    (subst (IsUnspent 0) (sym first.inside) (k.unspent running)) in
    let quiet = front_quiet levels first.clear in
    let count : lead (pending_list t.root) ≡ inferences front = (let z = first.leads in omega (arith, z, unspent)) in
    let total : lead (front ++ (Credit g.credit [] ∷ g.rest)) ≡ inferences front + (g.credit + lead g.rest) = lead-quiet front
    (Credit g.credit [] ∷ g.rest) quiet in
    let credit : g.credit ≡ 1 = (let z = g.one in omega (arith, z, unspent)) in
    record {
      seen = λ n a b.
          let d : ℕ = n - suc (inferences front) in
          let n_is : inferences front + suc d ≡ n = omega (arith, a, count) in
          let old : run (scoped clauses) (inferences front + suc d) (shared_of answers t)
          (free_steps (scoped clauses) [] (pending_list t.root)) ≡ run (scoped clauses) d (shared_of answers new)
          (free_steps (scoped clauses) [] g.left) = ap
          (λ l. run (scoped clauses) (inferences front + suc d) (shared_of answers t) (free_steps (scoped clauses) [] l)) g.list
          ∙ g.taken d in
          let mid = front ++ (Credit g.credit [] ∷ g.rest) in
          let later : run (scoped clauses) (inferences front + suc d) (shared_of answers new) (free_steps (scoped clauses) [] mid)
          ≡ run (scoped clauses) d (shared_of answers new)
          (free_steps (scoped clauses) [] (map (gives (scoped clauses) (records front)) g.rest)) = front_passed clauses front g.rest
          g.credit (shared_of answers new) d quiet credit in
          let both : seen (run (scoped clauses) (inferences front + suc d) (shared_of answers t)
          (free_steps (scoped clauses) [] (pending_list t.root)))
          ≡ seen (run (scoped clauses) (inferences front + suc d) (shared_of answers new) (free_steps (scoped clauses) [] mid)) = ap
          seen old ∙ (g.alike d ∙ ap seen (sym later)) in
          subst (λ x. seen (run (scoped clauses) x (shared_of answers t) (free_steps (scoped clauses) [] (pending_list t.root)))
          ≡ seen (run (scoped clauses) x (shared_of answers new) (free_steps (scoped clauses) [] mid))) n_is both
          ∙ (g.follows.alike n (shared_of answers new) a b
          ∙ ap (λ l. seen (run (scoped clauses) n (shared_of answers new) (free_steps (scoped clauses) [] l)))
          (sym (not_halted new g.running)));
      ahead = λ z m b l. g.follows.lead m b (omega (arith, l, total, count, credit));
      finished = λ z l. finished l;
      stopped = λ n z. let both : None ≡ Some n = sym g.running ∙ z in let no_way : ⊥ = cc in absurd no_way;
      going = not_over clauses (pending_list t.root) (lead (pending_list t.root)) (shared_of answers t) (first_end t s i first)
          (omega arith);
    }
