-- What is on top of own entries, and what is deferred there.
use Rattle.std.proofs.Common.{◌≡◌, ℕ, zero, suc, ◌+◌, ◌-◌, ◌<◌, true, cond, List, [], ◌∷◌, ◌++◌, map, length, drop, Some, None, refl, sym, ap, ◌∙◌, subst, arith}
use Rattle.std.proofs.lemmas.List.{append-nil, append_assoc}
use Rattle.std.specs.Prelude.{nat_lt}
use Rattle.au_term.specs.Term.{Term}
use Rattle.au_term.proofs.LogicLemmas.{less}
use Rattle.run_model.specs.Programs.Clauses.{Clause}
use Rattle.run_model.specs.Machine.Items.{Item, GoalItem, CatchMark, CollectMark, RemovalItem, Continuation, with_items, without_marks, goals_at, before}
use Rattle.run_model.specs.Machine.Entries.{Entry, PlainEntry, collected}
use Rattle.tree_model.specs.Nodes.{CutGate}
use Rattle.tree_model.specs.Levels.{Level}
use Rattle.tree_model.specs.Floors.{floor_of, node_of}
use Rattle.tree_model.specs.Gates.{goal_gate, item_gate, gate_on}
use Rattle.tree_model.specs.Legality.{gives_result}
use Rattle.tree_model.specs.PrivateRuns.{own_free_step, own_free_steps, one_more}
use Rattle.region_floor.specs.Deferred.{Deferred, deferred_now, joined_items, joined_continuation, joined_entry}
use Rattle.region_floor.specs.BareFloors.{AreOwnItems, true_stack, true_rest, bare_stack, RestsPrivately}
use Rattle.region_floor.specs.GateLaws.{WorldGoalsAreGates, HaltsAreGates, CutsAreGates, deferred_entries, HasDeferred, AnswersAreGates, RemovalsAreGates, GoalsLoad, CatchMarksSkip, GivesResult, ResultsAreGiven}
use Rattle.region_floor.proofs.FloorSizeLemmas.{floor-size}
use Rattle.region_floor.proofs.JoinedLemmas.{goals-joined}
use Rattle.region_floor.proofs.OwnGoalLemmas.{goals-own}

-- goals
pub world_goals_are_gates : WorldGoalsAreGates
world_goals_are_gates clauses d levels t goal e =
    ap (λ o. goal_gate levels o t.height (joined_continuation d t.after) (true_stack d levels t.below)) e

pub halts_are_gates : HaltsAreGates
halts_are_gates clauses d levels t k e = ap (λ o. goal_gate levels o t.height (joined_continuation d t.after) (true_stack d levels t.below)) e

pub cuts_are_gates : CutsAreGates
cuts_are_gates clauses d levels t e l =
    ap (λ o. goal_gate levels o t.height (joined_continuation d t.after) (true_stack d levels t.below)) e
    ∙ ap (λ b. cond b (Some (CutGate (node_of levels t.height))) None) (less t.height (length levels) l)

-- what is deferred
dropped : {A : Type 0} (k : ℕ) (xs : List A) (x : A) (ys : List A) → drop k xs ≡ x ∷ ys → drop (suc k) xs ≡ ys
dropped zero [] x ys e = absurd cc
dropped zero (y ∷ xs) x ys e = cc
dropped (suc k) [] x ys e = absurd cc
dropped (suc k) (y ∷ xs) x ys e = dropped k xs x ys e

past-goals : (h : ℕ) (goals : List Term) (k : ℕ) (xs l : List (Item ℕ)) → drop k xs ≡ goals_at h goals ++ l → drop (k + length goals) xs ≡ l
past-goals h [] k xs l e = ap (λ n. drop n xs) (omega arith) ∙ e
past-goals h (g ∷ goals) k xs l e =
    ap (λ n. drop n xs) (omega arith) ∙ past-goals h goals (suc k) xs l (dropped k xs (GoalItem g h) (goals_at h goals ++ l) e)

-- the items of a top entry, whose named terms and number are these
skipped : (js l m : List (Item ℕ)) (g : Continuation ℕ) (es floor : List Entry) (go : List Entry → List Entry)
    → own_free_step js (with_items l g) es floor go ≡ own_free_step js (with_items m g) es floor go
skipped [] l m g es floor go = refl
skipped (GoalItem t h ∷ js) l m g es floor go = refl
skipped (CatchMark h ∷ js) l m g es floor go = refl
skipped (CollectMark t h ∷ js) l m g es floor go = refl
skipped (RemovalItem n ∷ js) l m g es floor go = refl

module _ (d : Deferred) (levels : List Level) (k : ℕ) (f : Continuation ℕ) (es : List Entry) (items : List (Item ℕ))
    (h : HasDeferred d levels k f es items) where
  abbrev now : List (Item ℕ)
  now = deferred_now d f

  abbrev rest : List Entry
  rest = map (joined_entry d) es

  abbrev floor : List Entry
  floor = floor_of levels

  abbrev stepped : List (Item ℕ) → List Entry
  stepped l = own_free_step (without_marks l) (with_items l (joined_continuation d f)) rest floor (own_free_steps floor (length rest))

  items-are : joined_items now (RemovalItem k ∷ f.items) ≡ items
  items-are = ap (λ l. drop k now ++ joined_items now l) h.are_own.0 ∙ append-nil (drop k now) ∙ h.deferred

  -- and of what is deferred from the next number on
  items-after : (i : Item ℕ) (l : List (Item ℕ)) → items ≡ i ∷ l → joined_items now (RemovalItem (suc k) ∷ f.items) ≡ l
  items-after i l e =
      ap (λ j. drop (suc k) now ++ joined_items now j) h.are_own.0 ∙ append-nil (drop (suc k) now) ∙ dropped k now i l (h.deferred ∙ e)

  gate-is : (clauses : List Clause) → gate_on clauses levels (true_stack d levels (deferred_entries k f es))
      ≡ item_gate clauses levels (without_marks items) (joined_continuation d (before (RemovalItem k ∷ []) f)) (true_stack d levels es)
  gate-is clauses =
      ap (λ l. item_gate clauses levels (without_marks l) (joined_continuation d (before (RemovalItem k ∷ []) f)) (true_stack d levels es)) items-are

  -- goals in one scope, before what is deferred after them
  abbrev loaded : ℕ → List Term → List (Item ℕ)
  loaded n goals = goals_at n goals ++ RemovalItem (k + length goals) ∷ []

  loaded-before : (n : ℕ) (goals : List Term) → loaded n goals ++ f.items ≡ goals_at n goals ++ RemovalItem (k + length goals) ∷ f.items
  loaded-before n goals = append_assoc (goals_at n goals) (RemovalItem (k + length goals) ∷ []) f.items

  items-past : (n : ℕ) (goals : List Term) (l : List (Item ℕ)) → items ≡ goals_at n goals ++ l
      → joined_items now (RemovalItem (k + length goals) ∷ f.items) ≡ l
  items-past n goals l e =
      ap (λ j. drop (k + length goals) now ++ joined_items now j) h.are_own.0
      ∙ append-nil (drop (k + length goals) now) ∙ past-goals n goals k now l (h.deferred ∙ e)

  goals-load : (n : ℕ) (goals : List Term) (l : List (Item ℕ)) → items ≡ goals_at n goals ++ l
      → RestsPrivately d levels (deferred_entries k f es) (bare_stack levels (PlainEntry (before (loaded n goals) f) ∷ es))
  goals-load n goals l e = record {
    left = PlainEntry (before (loaded n goals) f) ∷ es;
    entries = refl;
    are_own = (
      subst (AreOwnItems (length levels)) (sym (loaded-before n goals))
          (goals-own (length levels) n goals (RemovalItem (k + length goals) ∷ f.items) h.are_own.0),
      h.are_own.1,
    );
    rest = ap stepped (items-are ∙ e ∙ ap (λ j. goals_at n goals ++ j) (sym (items-past n goals l e))
        ∙ sym (goals-joined now n goals (RemovalItem (k + length goals) ∷ f.items)) ∙ ap (joined_items now) (sym (loaded-before n goals)));
  }

  mark-skips : (n : ℕ) (l : List (Item ℕ)) → items ≡ CatchMark n ∷ l
      → RestsPrivately d levels (deferred_entries k f es) (bare_stack levels (deferred_entries (suc k) f es))
  mark-skips n l e = record {
    left = deferred_entries (suc k) f es;
    entries = refl;
    are_own = h.are_own;
    rest = ap stepped (items-are ∙ e)
        ∙ skipped (without_marks l) (CatchMark n ∷ l) l (joined_continuation d f) rest floor (own_free_steps floor (length rest))
        ∙ ap stepped (sym (items-after (CatchMark n) l e));
  }

  -- where no free step is left
  abbrev is_rest : List (Item ℕ) → Type 0
  is_rest l = stepped l ≡ PlainEntry (with_items l (joined_continuation d f)) ∷ rest

  at-rest : is_rest items → true_rest d levels (deferred_entries k f es) ≡ map (joined_entry d) (deferred_entries k f es)
  at-rest e = ap stepped items-are ∙ e ∙ sym (ap (λ j. PlainEntry (with_items j (joined_continuation d f)) ∷ rest) items-are)

  result-gives : (clauses : List Clause) (t : Term) (n : ℕ) (l : List (Item ℕ)) → items ≡ CollectMark t n ∷ l → n < length levels
      → GivesResult clauses d levels k f es
  result-gives clauses t n l e low =
      let here : joined_items now (RemovalItem k ∷ f.items) ≡ CollectMark t n ∷ l = items-are ∙ e in
      let under : nat_lt n (length floor) ≡ true = ap (nat_lt n) (floor-size levels) ∙ less n (length levels) low in
      let stays : true_rest d levels (deferred_entries k f es) ≡ map (joined_entry d) (deferred_entries k f es) =
      at-rest (subst is_rest (sym e)
      (ap (λ b. cond b (PlainEntry (with_items (CollectMark t n ∷ l) (joined_continuation d f)) ∷ rest)
      (own_free_steps floor (length rest) (collected (n - length floor) t rest))) under)) in
      record {
        rest = stays;
        last = ap (λ j. one_more clauses levels (PlainEntry (with_items j (joined_continuation d f)) ∷ rest)) here;
        gives = λ none. ap gives_result stays
            ∙ ap (λ j. gives_result (PlainEntry (joined_continuation d (before (RemovalItem k ∷ []) f)) ∷ map (joined_entry d) j)) none
            ∙ ap (λ j. gives_result (PlainEntry (with_items j (joined_continuation d f)) ∷ [])) here;
      }

pub answers_are_gates : AnswersAreGates
answers_are_gates clauses d levels k f es h = gate-is d levels k f es [] h clauses

pub answers_rest : (d : Deferred) (levels : List Level) (k : ℕ) (f : Continuation ℕ) (es : List Entry) → HasDeferred d levels k f es []
    → true_rest d levels (deferred_entries k f es) ≡ map (joined_entry d) (deferred_entries k f es)
answers_rest d levels k f es h = at-rest d levels k f es [] h refl

pub removals_rest : (d : Deferred) (levels : List Level) (k number : ℕ) (f : Continuation ℕ) (es : List Entry) (items : List (Item ℕ))
    → HasDeferred d levels k f es (RemovalItem number ∷ items)
    → true_rest d levels (deferred_entries k f es) ≡ map (joined_entry d) (deferred_entries k f es)
removals_rest d levels k number f es items h = at-rest d levels k f es (RemovalItem number ∷ items) h refl

pub removals_are_gates : RemovalsAreGates
removals_are_gates clauses d levels k number f es items h = gate-is d levels k f es (RemovalItem number ∷ items) h clauses

pub goals_load : GoalsLoad
goals_load d levels k n goals f es items h = goals-load d levels k f es (goals_at n goals ++ items) h n goals items refl

pub catch_marks_skip : CatchMarksSkip
catch_marks_skip d levels k n f es items h = mark-skips d levels k f es (CatchMark n ∷ items) h n items refl

pub results_are_given : ResultsAreGiven
results_are_given clauses d levels k n t f es items h low = result-gives d levels k f es (CollectMark t n ∷ items) h clauses t n items refl low
