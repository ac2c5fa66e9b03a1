-- An answer at the front.
use Rattle.std.proofs.Common.{◌≡◌, ℕ, suc, ◌+◌, ◌-◌, ◌≤◌, true, false, List, [], ◌∷◌, ◌++◌, map, length, Some, None, refl, sym, ap, ◌∙◌}
use Rattle.std.proofs.Common.{subst, arith}
use Rattle.run_model.specs.Machine.Items.{Item, GoalItem, CatchMark, CollectMark, RemovalItem, Continuation, with_items, without_marks}
use Rattle.run_model.specs.Machine.Entries.{PlainEntry}
use Rattle.au_model.specs.Writing.Lines.{answer_line}
use Rattle.run_model.specs.Goals.Worlds.{writes}
use Rattle.tree_model.specs.Credits.{Credit as TreeCredit}
use Rattle.tree_model.specs.Nodes.{Pending, Closed}
use Rattle.tree_model.specs.Levels.{plug, Spot, levels_of}
use Rattle.tree_model.specs.Floors.{renamed_item}
use Rattle.tree_model.specs.Events.{Event}
use Rattle.tree_model.specs.TreeStates.{TreeState}
use Rattle.tree_model.specs.Effects.{closed_with}
use Rattle.tree_model.specs.PendingLists.{way_of, scope_on, named_continuation, element_on, pending_list, front_of, back_of}
use Rattle.tree_model.specs.Ways.{under_query}
use Rattle.tree_model.specs.SoundTrees.{IsSoundTree}
use Rattle.tree_model.specs.CaughtTrees.{IsCaught, IsUnspent, IsCaughtTree}
use Rattle.tree_model.specs.Elements.{Name, Credit, Plain}
use Rattle.tree_model.proofs.CountLemmas.{count_around}
use Rattle.interleaving.specs.Machine.{AsksWorld, free_steps, run, seen}
use Rattle.interleaving.specs.Scopes.{act, item_act, answer_taken, scoped}
use Rattle.interleaving.specs.Quiet.{inferences}
use Rattle.interleaving.specs.Sound.{IsSound}
use Rattle.interleaving.specs.Follows.{lead, Follows}
use Rattle.interleaving.specs.HistoryInvariants.{shared_of, AnswerMoves}
use Rattle.interleaving.proofs.OpenSpotLemmas.{IsOpenSpot, placed_at, count_at}
use Rattle.interleaving.proofs.ClockLemmas.{IsFirst, front_quiet}
use Rattle.interleaving.proofs.LeadLemmas.{lead-quiet}
use Rattle.interleaving.proofs.EndLemmas.{not_over, first_end, end_pending}
use Rattle.interleaving.proofs.ClosingEndLemmas.{closes_end}
use Rattle.interleaving.proofs.ListScopeLemmas.{IsDistinct}
use Rattle.interleaving.proofs.ListsSoundLemmas.{lists_are_sound}
use Rattle.interleaving.proofs.FoldLemmas.{caught_out}
use Rattle.interleaving.proofs.ClosingListLemmas.{closed_list, closes_follow}
use Rattle.interleaving.proofs.WakeLemmas.{end_wakes}
use Rattle.interleaving.proofs.FindallWakeLemmas.{findall_wakes}
use Rattle.interleaving.proofs.FrontCloseLemmas.{front_closes, unspent_out}
use Rattle.interleaving.proofs.FrontSoundLemmas.{closed_sound}
use Rattle.interleaving.proofs.GoingLemmas.{not_halted}

-- marks are dropped whatever the names
pub unmarked_names : {M : Type 0} → (scope mark : ℕ → M) (items : List (Item ℕ)) → without_marks items ≡ []
    → without_marks (map (renamed_item scope mark) items) ≡ []
unmarked_names scope mark [] h = refl
unmarked_names scope mark (CatchMark s ∷ items) h = unmarked_names scope mark items h
unmarked_names scope mark (GoalItem t s ∷ items) h = let no_way : ⊥ = cc in absurd no_way
unmarked_names scope mark (CollectMark t s ∷ items) h = let no_way : ⊥ = cc in absurd no_way
unmarked_names scope mark (RemovalItem k ∷ items) h = let no_way : ⊥ = cc in absurd no_way

abbrev one_answer : TreeCredit
one_answer = record { inferences = 1; answers = 1; records = [] }

-- the tree after the answer
abbrev pub answered_tree : TreeState → Spot → Continuation ℕ → Event → TreeState
answered_tree t s f e = record (closed_with s one_answer (record t { world = writes (answer_line t.world.operators f.named) t.world }))
    { history = t.history ++ e ∷ [] }

pub answered_moves : (t : TreeState) (s : Spot) (f : Continuation ℕ) (e : Event) (answers : ℕ) → IsSoundTree t → IsCaughtTree t
    → t.halted ≡ None → IsFirst t s → s.entry ≡ PlainEntry f → without_marks f.items ≡ [] → under_query (way_of (levels_of s)) ≡ true
    → IsSoundTree (answered_tree t s f e) → IsCaughtTree (answered_tree t s f e) → AnswerMoves t (answered_tree t s f e) answers
    (answers + 1)
answered_moves t s f e answers i k running first entry bare asked j r =
    let levels = levels_of s in
    let new = answered_tree t s f e in
    let clauses = t.job.clauses in
    let front = front_of levels in
    let back = back_of levels in
    let way = way_of levels in
    let o : IsOpenSpot t.root s = record { inside = first.inside; opened = first.opened } in
    let placed = placed_at t s i o in
    let distinct : IsDistinct levels = λ m. subst (λ x. x ≤ 1) (count_at t s o m) (i.distinct m) in
    let fresh : count_around t.next levels ≡ 0 = sym (count_at t s o t.next) ∙ i.fresh t.next (omega arith) in
    let caught = caught_out levels (Pending s.hold s.entry)
    (subst (λ root. IsCaught (λ m. false) false false root) (sym o.inside) k.caught) in
    let unspent : s.level.spent ≡ 0 = unspent_out s.level s.above (Pending s.hold s.entry)
    (subst (IsUnspent 0) (sym o.inside) (k.unspent running)) in
    let named = named_continuation way f in
    let p : Name = 0 ∷ length s.level.left ∷ s.level.number ∷ [] in
    let old : pending_list t.root ≡ front ++ (Credit s.level.spent [] ∷ (Plain p named ∷ back)) = first.list
    ∙ ap (λ x. front ++ (Credit s.level.spent [] ∷ (element_on way x ∷ back))) entry in
    let base : pending_list (plug levels (Closed one_answer)) ≡ front ++ (Credit 1 [] ∷ back) = closed_list levels one_answer in
    let sound_base : IsSound (pending_list (plug levels (Closed one_answer))) = subst IsSound (sym base)
    (closed_sound (length s.level.left) s.level.number clauses levels s.level.spent 1 named back first.clear
    (subst IsSound old (lists_are_sound t i k))) in
    let follows : Follows clauses (pending_list (plug levels (Closed one_answer))) (pending_list new.root) = closes_follow clauses
    (end_wakes clauses) (findall_wakes clauses) t.next levels one_answer placed.around distinct fresh caught.0 asked sound_base
    (lists_are_sound new j r) in
    let count : lead (pending_list t.root) ≡ inferences front = (let z = first.leads in omega (arith, z, unspent)) in
    let gone = unmarked_names (scopes s) (scopes s) f.items bare in
    let g = answer_taken (with_items (without_marks named.items) named) in
    let asks : act clauses (Plain p (with_items (without_marks named.items) named))
    ≡ AsksWorld g = ap (λ is. item_act clauses is p (with_items (without_marks named.items) named)) gone in
    let quiet = front_quiet levels first.clear in
    record {
      seen = λ n a b.
          let d : ℕ = n - suc (inferences front) in
          let n_is : inferences front + suc d ≡ n = omega (arith, a, count) in
          let step = front_closes clauses front back s.level.spent p named g (shared_of answers t) d quiet unspent asks refl in
          let here : seen (run (scoped clauses) n (shared_of answers t)
          (free_steps (scoped clauses) [] (front ++ (Credit s.level.spent [] ∷ (Plain p named ∷ back)))))
          ≡ seen (run (scoped clauses) n (shared_of (answers + 1) new)
          (free_steps (scoped clauses) [] (front ++ (Credit 1 [] ∷ back)))) = subst
          (λ x. seen (run (scoped clauses) x (shared_of answers t)
          (free_steps (scoped clauses) [] (front ++ (Credit s.level.spent [] ∷ (Plain p named ∷ back)))))
          ≡ seen (run (scoped clauses) x (shared_of (answers + 1) new)
          (free_steps (scoped clauses) [] (front ++ (Credit 1 [] ∷ back))))) n_is step in
          ap (λ l. seen (run (scoped clauses) n (shared_of answers t) (free_steps (scoped clauses) [] l))) old
          ∙ (here ∙ (ap (λ l. seen (run (scoped clauses) n (shared_of (answers + 1) new) (free_steps (scoped clauses) [] l))) (sym base)
          ∙ (follows.alike n (shared_of (answers + 1) new) b
          ∙ ap (λ l. seen (run (scoped clauses) n (shared_of (answers + 1) new) (free_steps (scoped clauses) [] l)))
          (sym (not_halted new running)))));
      ahead = λ z m b l.
          let whole : lead (front ++ (Credit 1 [] ∷ back)) ≡ inferences front + (1 + lead back) = lead-quiet front (Credit 1 [] ∷ back)
          quiet in
          let same : lead (pending_list (plug levels (Closed one_answer))) ≡ lead (front ++ (Credit 1 [] ∷ back)) = ap lead base in
          follows.lead m b (omega (arith, whole, same, count, l));
      finished = λ z l. absurd (end_pending new j (closes_end t.next levels one_answer placed.around asked) l);
      stopped = λ n z. let both : None ≡ Some n = sym running ∙ z in let no_way : ⊥ = cc in absurd no_way;
      going = not_over clauses (pending_list t.root) (lead (pending_list t.root)) (shared_of answers t) (first_end t s i first)
          (omega arith);
    }
  where
    scopes : Spot → ℕ → Name
    scopes s = scope_on (way_of (levels_of s))
