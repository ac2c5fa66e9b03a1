-- What a call has done to a job's tree.
use Rattle.std.proofs.Common.{◌≡◌, ◌≢◌, ℕ, ◌+◌, ◌<◌, ◌≤◌, ◌==◌, Bool, true, false, cond, List, [], ◌∷◌, ◌++◌, length, Option, Some, None, inl, inr, refl, sym, ap, ◌∙◌, subst, arith}
use Rattle.std.specs.Prelude.{◌&&◌, not, is_none}
use Rattle.au_term.proofs.LogicLemmas.{both}
use Rattle.run_model.specs.Programs.Jobs.{Job}
use Rattle.tree_model.specs.Credits.{greatest}
use Rattle.tree_model.specs.Events.{Event, Nodes, Suspend, Lost, Prune, Answer, Stop}
use Rattle.tree_model.specs.HandOuts.{Handed, Never, Out, Away, Over, given_back, if_here, and_so_on, handed_after}
use Rattle.tree_model.specs.Levels.{Place}
use Rattle.tree_model.specs.Promises.{Once}
use Rattle.tree_model.specs.TreeStates.{TreeState, opening_tree, ended}
use Rattle.tree_model.specs.Legality.{is_allowed, is_legal}
use Rattle.interleaving.proofs.UnchangedPlaceLemmas.{place_self}
use Rattle.branch_reading.specs.Readings.{reading}
use Rattle.public_tree.specs.PublicTrees.{PublicView, Notes, NotesIn, IsSameTree, Stops, is_going}
use Rattle.public_tree.specs.Following.{tree_of}
use Rattle.public_tree.specs.declared.closing.TaskEnd.{TaskEnd}
use Rattle.public_tree.specs.declared.closing.TaskEnd.TheVariants.{Nothing, Result}
use Rattle.public_tree.specs.PublicClosing.{closing_event}
use Rattle.public_tree.proofs.FollowingLemmas.{one_more_legal, known_follow, nothing_follows}
use Rattle.tree_core.specs.TasksOut.{without_place, out_by, out_after}
use Rattle.tree_core.specs.Histories.{History, with_event, while_going, history_of, IsTreeOf}
use Rattle.tree_core.proofs.TasksOutLemmas.{is_among, one_less, out_is_among, out_more, after_more}

-- it stands for the job's tree after this history
pub record Moves (job : Job) (new : PublicView) (h : History) : Type 0 where
  pub kept : IsTreeOf job new
  pub history : history_of job new ≡ h

-- what is legal is allowed, while the tree goes on
pub legal_parts : (t : TreeState) (e : Event) → is_legal t e ≡ true → (is_going t ≡ true) × (is_allowed t e ≡ true)
unfolding is_legal
legal_parts t e l =
    let parts = both (not t.stopped) (is_none (ended t) && is_allowed t e) l in
    let allowed = both (is_none (ended t)) (is_allowed t e) parts.1 in
    (ap (λ (b : Bool). b && is_none (ended t)) parts.0 ∙ allowed.0, allowed.1)

pub same_history : (job : Job) (b c v w : ℕ) (es ds : List Event) → b ≡ c → v ≡ w → es ≡ ds
    → ◌≡◌ {A = History} (record { job = job; budget = b; window = v; events = es }) (record { job = job; budget = c; window = w; events = ds })
same_history job b c v w es ds e f g = cc

module _ (job : Job) (old new : PublicView) (h : IsTreeOf job old) where
  abbrev tree : TreeState
  tree = tree_of job old

  abbrev was : History
  was = history_of job old

  countable : new.budget ≡ old.budget → new.budget ≤ greatest
  countable e = subst (λ (b : ℕ). b ≤ greatest) (sym e) h.countable

  pub noted : (e : Event) → NotesIn old new e (reading job) tree → length (out_by e (out_after old.log.events [])) ≤ new.log.promised
      → Moves job new (with_event e was)
  noted e n l = record {
    kept = record {
      follows = known_follow job (reading job) old new e h.follows n;
      countable = countable n.budget;
      room = subst (λ (es : List Event). length (out_after es []) ≤ new.log.promised) (sym n.noted)
          (subst (λ (places : List Place). length places ≤ new.log.promised) (sym (out_more old.log.events e [])) l);
    };
    history = same_history job new.budget old.budget new.window old.window new.log.events (old.log.events ++ e ∷ []) n.budget n.window n.noted;
  }

  pub nothing : IsSameTree old new → new.log.promised ≡ old.log.promised → Moves job new was
  nothing n p = record {
    kept = record {
      follows = nothing_follows job (reading job) old new h.follows n;
      countable = countable n.budget;
      room = subst (λ (es : List Event). length (out_after es []) ≤ new.log.promised) (sym n.noted)
          (subst (λ (k : ℕ). length (out_after old.log.events []) ≤ k) (sym p) h.room);
    };
    history = same_history job new.budget old.budget new.window old.window new.log.events old.log.events n.budget n.window n.noted;
  }

  -- an event that is noted of each tree is noted of this one
  pub here : (e : Event) → Notes old new e → NotesIn old new e (reading job) tree
  here e n = record {
    noted = n.noted;
    budget = n.budget;
    window = n.window;
    legal = n.legal (reading job) tree h.follows.stands;
    stands = n.stands (reading job) tree h.follows.stands;
  }

  -- the tree goes on, and an event has been noted
  pub happened : (e : Event) → is_going tree ≡ true → NotesIn old new e (reading job) tree
      → length (out_by e (out_after old.log.events [])) ≤ new.log.promised → Moves job new (while_going e was)
  happened e g n l = subst (Moves job new) (sym (ap (λ (b : Bool). cond b (with_event e was) was) g)) (noted e n l)

  -- it has ended or was stopped, and nothing has happened
  pub over : (e : Event) → is_going tree ≡ false → IsSameTree old new → new.log.promised ≡ old.log.promised → Moves job new (while_going e was)
  over e g n p = subst (Moves job new) (sym (ap (λ (b : Bool). cond b (with_event e was) was) g)) (nothing n p)

  -- a stop
  pub stopped : (w : ℕ) → Stops old new w → new.log.promised ≡ old.log.promised → Moves job new (while_going (Stop w) was)
  stopped w (inl n) p =
      let k = here (Stop w) n in
      let r = h.room in
      happened (Stop w) (legal_parts tree (Stop w) k.legal).0 k (omega (arith, r, p))
  stopped w (inr n) p = over (Stop w) (n.1 (reading job) tree h.follows.stands) n.0 p

-- an event by which a task of a worker comes back
pub record TakesBack (e : Event) (w : ℕ) (a : Place) : Type 0 where
  pub drops : (places : List Place) → out_by e places ≡ without_place a places
  pub returns : (x : Handed) → handed_after a (e ∷ []) x ≢ None → x ≡ Out w

was_out : (new : Handed) (w : ℕ) (a : Place) (x : Handed) → and_so_on (if_here a a (given_back new w x) x) (λ h. Some h) ≢ None → x ≡ Out w
was_out new w a x d = by_handed x (λ e. d (ap (λ (b : Bool). and_so_on (cond b (given_back new w x) (Some x)) (λ h. Some h)) (place_self a) ∙ ap (λ (o : Option Handed). and_so_on o (λ h. Some h)) e))
  where
    by_handed : (x : Handed) → given_back new w x ≢ None → x ≡ Out w
    by_handed Never n = absurd (n refl)
    by_handed Away n = absurd (n refl)
    by_handed Over n = absurd (n refl)
    by_handed (Out v) n = by_worker (w == v) refl n
      where
        by_worker : (b : Bool) → (w == v) ≡ b → cond b (Some new) None ≢ None → Out v ≡ Out w
        by_worker true e n = ap (λ (k : ℕ). Out k) (let same : v ≡ w = grind arith in same)
        by_worker false e n = absurd (n refl)

pub suspend_back : (w : ℕ) (a : Place) (frozen : Bool) → TakesBack (Suspend w a frozen) w a
suspend_back w a frozen = record { drops = λ places. refl; returns = was_out Away w a }

pub lost_back : (w : ℕ) (a : Place) → TakesBack (Lost w a) w a
lost_back w a = record { drops = λ places. refl; returns = was_out Over w a }

pub nodes_back : (w : ℕ) (a : Place) (k : ℕ) (sizes : List ℕ) → TakesBack (Nodes w a k sizes) w a
nodes_back w a k sizes = record { drops = λ places. refl; returns = was_out Over w a }

pub closing_back : (end : TaskEnd) (w : ℕ) (a : Place) (k : ℕ) → TakesBack (closing_event end w a k) w a
closing_back Nothing w a k = record { drops = λ places. refl; returns = was_out Over w a }
closing_back Result w a k = record { drops = λ places. refl; returns = was_out Over w a }

pub prune_back : (w : ℕ) (a : Place) → TakesBack (Prune w a) w a
prune_back w a = record { drops = λ places. refl; returns = was_out Over w a }

pub answer_back : (w : ℕ) (a : Place) → TakesBack (Answer w a false) w a
answer_back w a = record { drops = λ places. refl; returns = was_out Over w a }

module _ (once : Once) (job : Job) (p : PublicView) (h : IsTreeOf job p) (e : Event) (w : ℕ) (a : Place) (back : TakesBack e w a)
    (legal : is_legal (tree_of job p) e ≡ true) where
  -- what may come back is out
  is_out : is_among a (out_after p.log.events []) ≡ true
  is_out = by_handed (handed_after a p.log.events Never) refl (λ z. defined (after_more a p.log.events e Never ∙ z))
    where
      defined : handed_after a (p.log.events ++ e ∷ []) Never ≢ None
      defined = once job p.budget p.window (p.log.events ++ e ∷ []) a
          (one_more_legal (opening_tree job p.budget p.window) p.log.events e h.follows.legal legal)

      by_handed : (o : Option Handed) → handed_after a p.log.events Never ≡ o → and_so_on o (handed_after a (e ∷ [])) ≢ None
          → is_among a (out_after p.log.events []) ≡ true
      by_handed None f d = absurd (d refl)
      by_handed (Some x) f d = out_is_among a p.log.events w (f ∙ ap (λ (y : Handed). Some y) (back.returns x d))

  pub fewer : length (out_by e (out_after p.log.events [])) + 1 ≡ length (out_after p.log.events [])
  fewer = ap (λ (places : List Place). length places + 1) (back.drops (out_after p.log.events [])) ∙ one_less a (out_after p.log.events []) is_out

  pub room_to_come_back : 0 < p.log.promised
  room_to_come_back = let f = fewer in let r = h.room in omega (arith, f, r)

  room_after : (n : ℕ) → p.log.promised ≤ n + 1 → length (out_by e (out_after p.log.events [])) ≤ n
  room_after n l = let f = fewer in let r = h.room in omega (arith, f, r, l)

  -- and then there is room for the others
  pub came_back : (new : PublicView) → NotesIn p new e (reading job) (tree_of job p) → p.log.promised ≤ new.log.promised + 1
      → Moves job new (with_event e (history_of job p))
  came_back new n l = noted job p new h e n (room_after new.log.promised l)

  pub comes_back : (new : PublicView) → is_going (tree_of job p) ≡ true → NotesIn p new e (reading job) (tree_of job p)
      → p.log.promised ≤ new.log.promised + 1 → Moves job new (while_going e (history_of job p))
  comes_back new g n l = happened job p new h e g n (room_after new.log.promised l)
