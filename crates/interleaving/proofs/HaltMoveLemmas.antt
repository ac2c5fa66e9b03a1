-- A halt at the front.
use Rattle.std.proofs.Common.{◌≡◌, ℕ, zero, suc, ◌+◌, ◌-◌, true, List, [], ◌∷◌, ◌++◌, map, length, Some, None, refl, sym, ap, ◌∙◌, subst}
use Rattle.std.proofs.Common.{arith}
use Rattle.au_term.specs.Term.{Term}
use Rattle.run_model.specs.Programs.Clauses.{Clause}
use Rattle.run_model.specs.Goals.Worlds.{World, world_step}
use Rattle.run_model.specs.Goals.Outcomes.{HaltNumber, Outcome, Replies, Controls, AskWorld}
use Rattle.run_model.specs.Goals.GoalOutcomes.{outcome_of}
use Rattle.run_model.specs.Machine.Items.{Item, GoalItem, CatchMark, CollectMark, RemovalItem, Continuation, with_items, without_marks}
use Rattle.run_model.specs.Machine.Entries.{Entry, PlainEntry}
use Rattle.tree_model.specs.Halting.{HaltsBy}
use Rattle.tree_model.specs.Nodes.{Pending}
use Rattle.tree_model.specs.Levels.{Spot, levels_of}
use Rattle.tree_model.specs.Floors.{renamed_item}
use Rattle.tree_model.specs.FrontGates.{Halts, goal_at_front, reply_taken}
use Rattle.tree_model.specs.Events.{Event}
use Rattle.tree_model.specs.TreeStates.{TreeState}
use Rattle.tree_model.specs.Effects.{front_taken}
use Rattle.tree_model.specs.PendingLists.{way_of, scope_on, named_continuation, element_on, pending_list, front_of, back_of}
use Rattle.tree_model.specs.SoundTrees.{IsSoundTree}
use Rattle.tree_model.specs.CaughtTrees.{IsUnspent, IsCaughtTree}
use Rattle.tree_model.specs.Elements.{Name, Element, Credit, Plain, EndOf, Catch, Findall, End}
use Rattle.interleaving.specs.Machine.{AsksWorld, Only, gives, free_steps, run, seen, placed}
use Rattle.interleaving.specs.Scopes.{Shared, ElementReplacement, act, item_act, goal_act, world_replied, scoped}
use Rattle.interleaving.specs.Quiet.{IsQuiet, inferences, records}
use Rattle.interleaving.specs.Follows.{lead}
use Rattle.interleaving.specs.HistoryInvariants.{shared_of, tree_list, AnswerMoves}
use Rattle.interleaving.proofs.AppendLemmas.{append-assoc}
use Rattle.interleaving.proofs.QuietCreditLemmas.{gives-fixed}
use Rattle.interleaving.proofs.PassingLemmas.{credits_end}
use Rattle.interleaving.proofs.FrontLawLemmas.{front_gate}
use Rattle.interleaving.proofs.ClockLemmas.{IsFirst, list_round, front_quiet, awake_stops, quiet-append, inferences-append}
use Rattle.interleaving.proofs.LeadLemmas.{lead-quiet}
use Rattle.interleaving.proofs.EndLemmas.{has_end, not_over, first_end, end_pending}
use Rattle.interleaving.proofs.FrontCloseLemmas.{bare, unmark, passed_at, unspent_out}

-- marks are dropped, and then items named; or the other way round
pub dropped_names : {M : Type 0} → (scope mark : ℕ → M) (items : List (Item ℕ)) → without_marks (map (renamed_item scope mark) items)
    ≡ map (renamed_item scope mark) (without_marks items)
dropped_names scope mark [] = refl
dropped_names scope mark (CatchMark s ∷ items) = dropped_names scope mark items
dropped_names scope mark (GoalItem t s ∷ items) = refl
dropped_names scope mark (CollectMark t s ∷ items) = refl
dropped_names scope mark (RemovalItem k ∷ items) = refl

pub halts_tree : (clauses : List Clause) (o : Outcome) (f : Continuation ℕ) (es : List Entry) (w after : World) (k : ℕ)
    → HaltsBy clauses o f.next w k after → goal_at_front clauses o f es w ≡ (after, Halts k)
halts_tree clauses (Replies r) f es w after k h = ap (λ q. (w, reply_taken q f es)) h.0 ∙ ap (λ x. (x, Halts k)) h.1
halts_tree clauses (AskWorld goal) f es w after k h = ap (λ q. (q.0, reply_taken q.1 f es)) h
halts_tree clauses (Controls form) f es w after k h = absurd h

record HaltsNamed (clauses : List Clause) (o : Outcome) (p h : Name) (f : Continuation Name) (w : Shared) (after : World) (k : ℕ) : Type
    0 where
  pub gate : Shared → Shared × ElementReplacement
  pub asks : goal_act clauses o p h f ≡ AsksWorld gate
  pub place : (gate w).1 ≡ Only []
  pub world : (gate w).0 ≡ record w { world = after; halted = Some k }

halts_named : (clauses : List Clause) (o : Outcome) (p h : Name) (f : Continuation Name) (w : Shared) (after : World) (k : ℕ)
    → HaltsBy clauses o f.next w.world k after → HaltsNamed clauses o p h f w after k
halts_named clauses (Replies r) p h f w after k z = subst (λ q. HaltsNamed clauses (Replies q) p h f w after k) (sym z.0)
    (record {
      gate = λ v. world_replied (v.world, HaltNumber k) p f v;
      asks = refl;
      place = refl;
      world = ap
          (λ x. record w { world = x; halted = Some k }) z.1;
    })
halts_named clauses (AskWorld goal) p h f w after k z = record {
  gate = λ v. world_replied (world_step clauses goal f.next v.world) p f v;
  asks = refl;
  place = ap (λ r. (world_replied r p f w).1) z;
  world =
      ap (λ r. (world_replied r p f w).0) z;
}
halts_named clauses (Controls form) p h f w after k z = absurd z

-- a gate that leaves nothing at all
front_only : (clauses : List Clause) (front zs : List Element) (sp : ℕ) (p : Name) (f : Continuation Name)
    (g : Shared → Shared × ElementReplacement)
    (w : Shared) (n : ℕ) → IsQuiet front → sp ≡ 0 → act clauses (bare clauses p f) ≡ AsksWorld g → (g w).1 ≡ Only []
    → run (scoped clauses) (inferences front + suc n) w (free_steps (scoped clauses) [] (front ++ (Credit sp [] ∷ (Plain p f ∷ zs))))
    ≡ ((g w).0, [])
front_only clauses front zs sp p f g w n q unspent h e =
    let m = scoped clauses in
    let xs = front ++ (Credit sp [] ∷ []) in
    let quiet = quiet-append front (Credit sp [] ∷ []) q tt in
    let count : inferences xs ≡ inferences front =
    (let z : inferences xs ≡ inferences front + (sp + 0) = inferences-append front (Credit sp [] ∷ []) in omega
    (arith, z, unspent)) in
    let rest = map (gives m (records xs)) zs in
    let one : run m (inferences xs + suc n) w (free_steps m [] (xs ++ (Plain p f ∷ zs)))
    ≡ run m (inferences xs + suc n) w (free_steps m [] (xs ++ (bare clauses p f ∷ zs))) = passed_at clauses xs zs (Plain p f) w
    (suc n) quiet (gives-fixed clauses (records xs) (Plain p f) tt)
    ∙ (ap (run m (suc n) w) (unmark clauses f.items p f g rest h)
    ∙ sym (passed_at clauses xs zs (bare clauses p f) w (suc n) quiet (gives-fixed clauses (records xs) (bare clauses p f) tt))) in
    let two : run m (inferences xs + suc n) w (free_steps m [] (xs ++ (bare clauses p f ∷ zs)))
    ≡ run m (inferences xs + suc n) (g w).0 (free_steps m [] (Credit (inferences xs + 1) [] ∷ [])) = front_gate clauses xs
    (bare clauses p f) g zs w n quiet h
    ∙ ap (λ l. run m (inferences xs + suc n) (g w).0 (free_steps m [] (Credit (inferences xs + 1) [] ∷ placed m l rest))) e in
    let last : run m ((inferences xs + 1) + 0 + n) (g w).0 (free_steps m [] (Credit (inferences xs + 1) [] ∷ []))
    ≡ ((g w).0, []) = credits_end clauses (Credit (inferences xs + 1) [] ∷ []) (g w).0 n tt in
    let same : (inferences xs + 1) + 0 + n ≡ inferences xs + suc n = omega arith in
    let all : run m (inferences xs + suc n) w (free_steps m [] (xs ++ (Plain p f ∷ zs))) ≡ ((g w).0, []) = one
    ∙ (two ∙ subst (λ k. run m k (g w).0 (free_steps m [] (Credit (inferences xs + 1) [] ∷ [])) ≡ ((g w).0, [])) same last) in
    ap (λ l. run m (inferences front + suc n) w (free_steps m [] l)) (sym (append-assoc front (Credit sp [] ∷ []) (Plain p f ∷ zs)))
    ∙ subst (λ k. run m (k + suc n) w (free_steps m [] (xs ++ (Plain p f ∷ zs))) ≡ ((g w).0, [])) count all

run_none : (clauses : List Clause) (n : ℕ) (w : Shared) → run (scoped clauses) n w [] ≡ (w, [])
run_none clauses zero w = refl
run_none clauses (suc n) w = run_none clauses n w

-- another credit leaves the end of the query where it is
still_end : (front : List Element) (a b : ℕ) (zs : List Element) → has_end (front ++ (Credit a [] ∷ zs)) ≡ true
    → has_end (front ++ (Credit b [] ∷ zs)) ≡ true
still_end [] a b zs h = h
still_end (End p x ∷ front) a b zs h = refl
still_end (Credit k rs ∷ front) a b zs h = still_end front a b zs h
still_end (Plain p f ∷ front) a b zs h = still_end front a b zs h
still_end (EndOf s ∷ front) a b zs h = still_end front a b zs h
still_end (Catch s u c r p f ∷ front) a b zs h = still_end front a b zs h
still_end (Findall s u results list p f ∷ front) a b zs h = still_end front a b zs h

-- the tree after the halt
abbrev pub halted_tree : TreeState → Spot → World → ℕ → Event → TreeState
halted_tree t s after k e = record (front_taken s (Halts k) (record t { world = after })) { history = t.history ++ e ∷ [] }

pub halted_moves : (t : TreeState) (s : Spot) (f : Continuation ℕ) (goal : Term) (scope : ℕ) (items : List (Item ℕ)) (after : World)
    (k : ℕ) (e : Event) (answers : ℕ) → IsSoundTree t → IsCaughtTree t → t.halted ≡ None → IsFirst t s → s.entry ≡ PlainEntry f
    → without_marks f.items ≡ GoalItem goal scope ∷ items
    → HaltsBy t.job.clauses (outcome_of t.job.clauses goal f.next) f.next t.world k after → IsSoundTree (halted_tree t s after k e)
    → AnswerMoves t (halted_tree t s after k e) answers answers
halted_moves t s f goal scope items after k e answers i q running first entry bare_is halts j =
    let levels = levels_of s in
    let new = halted_tree t s after k e in
    let clauses = t.job.clauses in
    let front = front_of levels in
    let back = back_of levels in
    let way = way_of levels in
    let unspent : s.level.spent ≡ 0 = unspent_out s.level s.above (Pending s.hold s.entry)
    (subst (IsUnspent 0) (sym first.inside) (q.unspent running)) in
    let named = named_continuation way f in
    let p : Name = 0 ∷ length s.level.left ∷ s.level.number ∷ [] in
    let old : pending_list t.root ≡ front ++ (Credit s.level.spent [] ∷ (Plain p named ∷ back)) = first.list
    ∙ ap (λ x. front ++ (Credit s.level.spent [] ∷ (element_on way x ∷ back))) entry in
    let quiet = front_quiet levels first.clear in
    let count : lead (pending_list t.root) ≡ inferences front = (let z = first.leads in omega (arith, z, unspent)) in
    let ws : without_marks named.items ≡ GoalItem goal (scope_on way scope) ∷ map (renamed_item (scope_on way) (scope_on way)) items =
    dropped_names (scope_on way) (scope_on way) f.items ∙ ap (map (renamed_item (scope_on way) (scope_on way))) bare_is in
    let w = shared_of answers t in
    let rest = map (renamed_item (scope_on way) (scope_on way)) items in
    let h = halts_named clauses (outcome_of clauses goal f.next) p (scope_on way scope)
    (with_items rest (with_items (without_marks named.items) named)) w after k halts in
    let asks : act clauses (Plain p (with_items (without_marks named.items) named))
    ≡ AsksWorld h.gate = ap (λ is. item_act clauses is p (with_items (without_marks named.items) named)) ws ∙ h.asks in
    let nothing : tree_list new ≡ [] = refl in
    -- the list of the halted tree
    let halted_list : pending_list new.root ≡ front ++ (Credit (s.level.spent + 1) [] ∷ (element_on way s.entry ∷ back)) = list_round
    new.root (record { level = record s.level { spent = s.level.spent + 1 }; above = s.above; hold = s.hold; entry = s.entry }) refl
    first.opened in
    let halted_lead : lead (pending_list new.root) ≡ inferences front + ((s.level.spent + 1) + 0) = ap lead halted_list
    ∙ (lead-quiet front _ quiet ∙ ap (λ x. inferences front + ((s.level.spent + 1) + x))
    (awake_stops way s.entry back first.awake)) in
    let still : has_end (pending_list new.root) ≡ true = ap has_end halted_list ∙ still_end front s.level.spent (s.level.spent + 1)
    (element_on way s.entry ∷ back) (ap has_end (sym first.list) ∙ first_end t s i first) in
    record {
      seen = λ n a b.
          let d : ℕ = n - suc (inferences front) in
          let n_is : inferences front + suc d ≡ n = omega (arith, a, count) in
          let step = front_only clauses front back s.level.spent p named h.gate w d quiet unspent asks h.place in
          let here : run (scoped clauses) n w
          (free_steps (scoped clauses) [] (front ++ (Credit s.level.spent [] ∷ (Plain p named ∷ back))))
          ≡ ((h.gate w).0, []) = subst (λ x. run (scoped clauses) x w
          (free_steps (scoped clauses) [] (front ++ (Credit s.level.spent [] ∷ (Plain p named ∷ back)))) ≡ ((h.gate w).0, [])) n_is
          step in
          ap (λ l. seen (run (scoped clauses) n w (free_steps (scoped clauses) [] l))) old
          ∙ (ap seen here ∙ (ap (λ (x : Shared). (x, true)) h.world ∙ sym (ap seen (run_none clauses n (shared_of answers new)))));
      ahead = λ z. let no_way : ⊥ = cc in absurd no_way;
      finished = λ z. let no_way : ⊥ = cc in absurd no_way;
      stopped = λ m z. (omega (arith, halted_lead, count, unspent), λ l. end_pending new j still l);
      going = not_over clauses (pending_list t.root) (lead (pending_list t.root)) (shared_of answers t) (first_end t s i first)
          (omega arith);
    }
