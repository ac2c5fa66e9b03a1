-- A gate at the front that leaves entries: a world goal's solutions, or what follows a removal.
use Rattle.std.proofs.Common.{◌≡◌, ℕ, suc, ◌+◌, ◌≤◌, true, false, List, [], ◌∷◌, ◌++◌, map, length, None, refl, sym, ap, ◌∙◌, subst}
use Rattle.std.proofs.Common.{arith}
use Rattle.au_model.specs.Terms.Each.{Each}
use Rattle.run_model.specs.Programs.Clauses.{Clause}
use Rattle.run_model.specs.Goals.Worlds.{World}
use Rattle.run_model.specs.Machine.Items.{Continuation}
use Rattle.run_model.specs.Machine.Entries.{Entry, PlainEntry, CatchEntry, FindallEntry, EndEntry}
use Rattle.tree_model.specs.Credits.{credit_of}
use Rattle.tree_model.specs.Nodes.{ChoiceNode, Ready, Numbered, Pending, Inner, Closed, entry_alternatives}
use Rattle.tree_model.specs.Levels.{plug, Spot, levels_of}
use Rattle.tree_model.specs.Floors.{node_of, with_nodes}
use Rattle.tree_model.specs.Events.{Event}
use Rattle.tree_model.specs.TreeStates.{TreeState}
use Rattle.tree_model.specs.Effects.{spending, left_at}
use Rattle.tree_model.specs.PendingLists.{Way, way_of, named_continuation, element_on, list_among, pending_list, front_of, back_of}
use Rattle.tree_model.specs.Ways.{under_query}
use Rattle.tree_model.specs.SoundTrees.{IsSoundTree}
use Rattle.tree_model.specs.CaughtTrees.{IsCaught, IsUnspent, IsCaughtTree}
use Rattle.tree_model.specs.Elements.{Name, Record, Element, Credit, Plain}
use Rattle.tree_model.proofs.CountLemmas.{count_around}
use Rattle.interleaving.specs.Machine.{Machine, AsksWorld, Put, gives, placed, free_steps, run, seen}
use Rattle.interleaving.specs.Scopes.{Shared, Sought, ElementReplacement, act, scoped}
use Rattle.interleaving.specs.Quiet.{IsFixed, inferences, records}
use Rattle.interleaving.specs.Erased.{erased}
use Rattle.interleaving.specs.Sound.{IsSound}
use Rattle.interleaving.specs.Follows.{Follows}
use Rattle.interleaving.specs.HistoryInvariants.{shared_of, AnswerMoves}
use Rattle.interleaving.proofs.ListRoundLemmas.{around}
use Rattle.interleaving.proofs.StackLemmas.{ArePlain}
use Rattle.interleaving.proofs.OpenSpotLemmas.{IsOpenSpot, placed_at, count_at}
use Rattle.interleaving.proofs.SoundClosingLemmas.{free_at}
use Rattle.interleaving.proofs.QuietCreditLemmas.{gives-fixed, map-fixed}
use Rattle.interleaving.proofs.GivenHeightLemmas.{sound-gives}
use Rattle.interleaving.proofs.SoundStepLemmas.{asks-sound}
use Rattle.interleaving.proofs.SoundEarlyLemmas.{sound-after}
use Rattle.interleaving.proofs.RunHeightLemmas.{names_are_free}
use Rattle.interleaving.proofs.LeadLemmas.{follows_same, follows_from}
use Rattle.interleaving.proofs.ClockLemmas.{IsFirst, front_quiet}
use Rattle.interleaving.proofs.EndLemmas.{end_pending, back_end, round_end}
use Rattle.interleaving.proofs.ClosingEndLemmas.{closes_end}
use Rattle.interleaving.proofs.ListScopeLemmas.{IsDistinct}
use Rattle.interleaving.proofs.ListsSoundLemmas.{lists_are_sound}
use Rattle.interleaving.proofs.FoldLemmas.{caught_out}
use Rattle.interleaving.proofs.ClosingListLemmas.{closed_list, closes_follow}
use Rattle.interleaving.proofs.WakeLemmas.{end_wakes}
use Rattle.interleaving.proofs.FindallWakeLemmas.{findall_wakes}
use Rattle.interleaving.proofs.FrontCloseLemmas.{bare, unspent_out}
use Rattle.interleaving.proofs.FrontSoundLemmas.{closed_sound}
use Rattle.interleaving.proofs.BaredLemmas.{bare_becomes}
use Rattle.interleaving.proofs.PlacedNameLemmas.{bare as bare_list, olders, bare_olders}
use Rattle.interleaving.proofs.FrontStepLemmas.{bare_sound, front_taken, gate_moves}

-- records change no entry that is ready
among_fixed : (way : Way) (n : ℕ) (i : ℕ) (node : ℕ → ℕ) (es : List Entry) → ArePlain es
    → Each IsFixed (list_among way n ChoiceNode i (entry_alternatives Ready (map (with_nodes node) es)))
among_fixed way n i node [] h = tt
among_fixed way n i node (PlainEntry f ∷ es) h = (tt, (tt, (tt, among_fixed way n (suc i) node es h)))
among_fixed way n i node (CatchEntry c r f ∷ es) h = absurd h
among_fixed way n i node (FindallEntry results l f ∷ es) h = absurd h
among_fixed way n i node (EndEntry b ∷ es) h = absurd h

pub map-parts : (clauses : List Clause) (rs : List Record) (xs zs : List Element) → map (gives (scoped clauses) rs) (xs ++ zs)
    ≡ map (gives (scoped clauses) rs) xs ++ map (gives (scoped clauses) rs) zs
map-parts clauses rs [] zs = refl
map-parts clauses rs (x ∷ xs) zs = ap (λ l. gives (scoped clauses) rs x ∷ l) (map-parts clauses rs xs zs)

-- the tree after the gate
abbrev pub left_tree : TreeState → Spot → List Entry → World → Event → TreeState
left_tree t s es after e = record (left_at s es (record t { world = after })) { history = t.history ++ e ∷ [] }

module _ (t : TreeState) (s : Spot) (f : Continuation ℕ) (after : World) (e : Event) (answers : ℕ) (i : IsSoundTree t)
    (k : IsCaughtTree t) (running : t.halted ≡ None) (first : IsFirst t s) (entry : s.entry ≡ PlainEntry f)
    (asked : under_query (way_of (levels_of s)) ≡ true)
    (g : Shared → Shared × ElementReplacement) where
  abbrev way : Way
  way = way_of (levels_of s)

  abbrev own : Name
  own = 0 ∷ length s.level.left ∷ s.level.number ∷ []

  abbrev given : List Element
  given = map (gives (scoped t.job.clauses) (records (front_of (levels_of s)))) (back_of (levels_of s))

  abbrev m : Machine Shared Element Sought Record
  m = scoped t.job.clauses

  -- what is known of the gate
  pub record IsLeft (new : TreeState) (ys : List Element) : Type 0 where
    pub asks : act t.job.clauses (bare t.job.clauses own (named_continuation way f)) ≡ AsksWorld g
    pub place : (g (shared_of answers t)).1 ≡ Put ys
    pub world : (g (shared_of answers t)).0 ≡ shared_of answers new

  open_spot : IsOpenSpot t.root s
  open_spot = record { inside = first.inside; opened = first.opened }

  old_list : pending_list t.root ≡ front_of (levels_of s)
      ++ (Credit s.level.spent [] ∷ (Plain own (named_continuation way f) ∷ back_of (levels_of s)))
  old_list = first.list ∙ ap (λ x. front_of (levels_of s) ++ (Credit s.level.spent [] ∷ (element_on way x ∷ back_of (levels_of s)))) entry

  unspent : s.level.spent ≡ 0
  unspent = unspent_out s.level s.above (Pending s.hold s.entry) (subst (IsUnspent 0) (sym first.inside) (k.unspent running))

  taken : (new : TreeState) (ys : List Element) → IsLeft new ys → (n : ℕ) → run m (inferences (front_of (levels_of s)) + suc n)
      (shared_of answers t) (free_steps m []
      (front_of (levels_of s) ++ (Credit s.level.spent [] ∷ (Plain own (named_continuation way f) ∷ back_of (levels_of s)))))
      ≡ run m n (shared_of answers new) (free_steps m [] (ys ++ given))
  taken new ys h n =
      front_taken t.job.clauses (front_of (levels_of s)) (back_of (levels_of s)) s.level.spent own (named_continuation way f) g
      (shared_of answers t) n (front_quiet (levels_of s) first.clear) unspent h.asks
      ∙ (ap (λ v. run m n v (free_steps m [] (placed m (g (shared_of answers t)).1 given))) h.world
      ∙ ap (λ p. run m n (shared_of answers new) (free_steps m [] (placed m p given))) h.place)

  -- the entry over what is after it
  entry_sound : IsSound (bare t.job.clauses own (named_continuation way f) ∷ given)
  entry_sound =
      let rs = records (front_of (levels_of s)) in
      let x = Plain own (named_continuation way f) in
      let behind = sound-after (front_of (levels_of s)) _ (subst IsSound old_list (lists_are_sound t i k)) in
      bare_sound t.job.clauses own (named_continuation way f) given
      (subst (λ y. IsSound (y ∷ given)) (gives-fixed t.job.clauses rs x tt)
      (sound-gives t.job.clauses rs (x ∷ back_of (levels_of s)) behind.1))

  left_sound : (new : TreeState) (ys : List Element) → IsLeft new ys → IsSound (ys ++ given)
  left_sound new ys h = subst (λ p. IsSound (placed m p given)) h.place
      (asks-sound t.job.clauses (bare t.job.clauses own (named_continuation way f)) g given h.asks entry_sound (shared_of answers t))

  -- some entries are left
  pub entries_move : (x : Entry) (es : List Entry) (ys : List Element) → ArePlain (x ∷ es) → IsLeft (left_tree t s (x ∷ es) after e) ys
      → erased (ys ++ given) ≡ erased (olders way t.next ChoiceNode 0 (map (with_nodes (node_of (levels_of s))) (x ∷ es)) ++ given)
      → IsSoundTree (left_tree t s (x ∷ es) after e) → IsCaughtTree (left_tree t s (x ∷ es) after e)
      → AnswerMoves t (left_tree t s (x ∷ es) after e) answers answers
  entries_move x es ys plain h same j r =
      let new = left_tree t s (x ∷ es) after e in
      let levels = levels_of s in
      let clauses = t.job.clauses in
      let rs = records (front_of levels) in
      let inner = list_among way t.next ChoiceNode 0 (entry_alternatives Ready (map (with_nodes (node_of levels)) (x ∷ es))) in
      let list : pending_list new.root ≡ front_of levels ++ (Credit (s.level.spent + 1) [] ∷ (inner ++ back_of levels)) = around
      (spending 1 levels) (Inner (Numbered t.next ChoiceNode (entry_alternatives Ready (map (with_nodes (node_of levels)) (x ∷ es))))) in
      let fixed : map (gives (scoped clauses) rs) (inner ++ back_of levels) ≡ inner ++ given = map-parts clauses rs inner
      (back_of levels) ∙ ap (λ l. l ++ given)
      (map-fixed clauses rs inner (among_fixed way t.next 0 (node_of levels) (x ∷ es) plain)) in
      let behind : IsSound (inner ++ back_of levels) =
      (sound-after (front_of levels) (Credit (s.level.spent + 1) [] ∷ (inner ++ back_of levels))
      (subst IsSound list (lists_are_sound new j r))).1 in
      let sound : IsSound (inner ++ given) = subst IsSound fixed (sound-gives clauses rs (inner ++ back_of levels) behind) in
      let bares = bare_becomes clauses [] inner given in
      let names : bare_list inner ≡ olders way t.next ChoiceNode 0 (map (with_nodes (node_of levels)) (x ∷ es)) = bare_olders way t.next
      ChoiceNode 0 Ready (map (with_nodes (node_of levels)) (x ∷ es)) in
      let free = names_are_free clauses (ys ++ given) (bare_list inner ++ given) (left_sound new ys h) (bares.sound sound)
      (same ∙ ap (λ l. erased (l ++ given)) (sym names)) in
      let p = placed_at t s i open_spot in
      let still = round_end (spending 1 levels)
      (Inner (Numbered t.next ChoiceNode (entry_alternatives Ready (map (with_nodes (node_of levels)) (x ∷ es)))))
      (back_end levels p.around asked) in
      gate_moves t new s answers i k running first (record {
        element = Plain own (named_continuation way f);
        list = old_list;
        left = ys ++ given;
        taken = taken new ys h;
        credit = s.level.spent + 1;
        one = refl;
        rest = inner ++ back_of levels;
        follows = follows_from _ clauses _ _ (follows_same clauses _ _ (sym list));
        alike = λ n. free n (shared_of answers new)
            ∙ (sym (bares.alike n (shared_of answers new)) ∙ ap (λ l. seen (run m n (shared_of answers new) (free_steps m [] l)))
            (sym fixed));
        running = running;
      }) (λ l. absurd (end_pending new j still l))

  -- none is left: the place closes
  pub none_moves : (ys : List Element) → IsLeft (left_tree t s [] after e) ys
      → ((w : Shared) (n : ℕ) → run m n w (free_steps m [] (ys ++ given)) ≡ run m n w (free_steps m [] given))
      → IsSoundTree (left_tree t s [] after e) → IsCaughtTree (left_tree t s [] after e)
      → AnswerMoves t (left_tree t s [] after e) answers answers
  none_moves ys h same j r =
      let new = left_tree t s [] after e in
      let levels = levels_of s in
      let clauses = t.job.clauses in
      let front = front_of levels in
      let back = back_of levels in
      let one = credit_of 1 in
      let p = placed_at t s i open_spot in
      let free = free_at t s i open_spot in
      let distinct : IsDistinct levels = λ n. subst (λ x. x ≤ 1) (count_at t s open_spot n) (i.distinct n) in
      let fresh : count_around t.next levels ≡ 0 = free.fresh t.next (omega arith) in
      let caught = caught_out levels (Pending s.hold s.entry)
      (subst (λ root. IsCaught (λ n. false) false false root) (sym open_spot.inside) k.caught) in
      let base : pending_list (plug levels (Closed one)) ≡ front ++ (Credit 1 [] ∷ back) = closed_list levels one in
      let sound_base : IsSound (pending_list (plug levels (Closed one))) = subst IsSound (sym base)
      (closed_sound (length s.level.left) s.level.number clauses levels s.level.spent 1 (named_continuation way f) back first.clear
      (subst IsSound old_list (lists_are_sound t i k))) in
      let follows : Follows clauses (pending_list (plug levels (Closed one))) (pending_list new.root) = closes_follow clauses
      (end_wakes clauses) (findall_wakes clauses) t.next levels one p.around distinct fresh caught.0 asked sound_base
      (lists_are_sound new j r) in
      gate_moves t new s answers i k running first (record {
        element = Plain own (named_continuation way f);
        list = old_list;
        left = ys ++ given;
        taken = taken new ys h;
        credit = 1;
        one = (let u = unspent in omega (arith, u));
        rest = back;
        follows = follows_from _ clauses _ _ (subst (λ l. Follows clauses l (pending_list new.root)) base follows);
        alike = λ n. ap seen (same (shared_of answers new) n);
        running = running;
      }) (λ l. absurd (end_pending new j (closes_end t.next levels one p.around asked) l))
