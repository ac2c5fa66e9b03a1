-- What a ball leaves of a stack, node by node of the branch.
use Rattle.std.proofs.Common.{◌≡◌, ◌⊎◌, inl, inr, ℕ, suc, ◌+◌, ◌≤◌, ◌==◌, Bool, true, false, cond, List, [], ◌∷◌, map, length, Option}
use Rattle.std.proofs.Common.{Some, None, refl, sym, ap, ◌∙◌, subst, arith}
use Rattle.au_term.specs.Term.{Term}
use Rattle.au_model.specs.Terms.Substitutions.{Substitution}
use Rattle.au_model.specs.Terms.Copies.{copied, copy_takes}
use Rattle.run_model.specs.Programs.Bodies.{call_of}
use Rattle.run_model.specs.Machine.Items.{GoalItem, Continuation, first_mark, resolve_item, resolve_continuation, before, with_next}
use Rattle.run_model.specs.Machine.Entries.{Entry, PlainEntry, CatchEntry, FindallEntry, EndEntry}
use Rattle.run_model.specs.Machine.Balls.{is_height, taken_by, next_mark, recovered, unwound}
use Rattle.tree_model.specs.Credits.{Credit}
use Rattle.tree_model.specs.Nodes.{Kind, ChoiceNode, CatchNode, FindallNode, QueryNode, Ready, TakenBy, Waiting, Dormant, Alternatives}
use Rattle.tree_model.specs.Nodes.{none, alternative, Status, Pending, Inner, Closed}
use Rattle.tree_model.specs.Levels.{Level}
use Rattle.tree_model.specs.Floors.{node_of, floor_of}
use Rattle.tree_model.specs.Pruning.{left_after}
use Rattle.tree_model.specs.PendingLists.{way_of}
use Rattle.tree_model.specs.Ways.{is_on, is_query, IsAsked}
use Rattle.tree_model.specs.SoundTrees.{one_if, count_among, Profile, IsOpen, IsDormant, profile, profiles, is_shape}
use Rattle.tree_model.proofs.CountLemmas.{count_around}
use Rattle.interleaving.proofs.ContextLemmas.{put_profiles}
use Rattle.interleaving.proofs.WayLemmas.{cond-true, cond-false, one_if-zero, off_way, other_number}
use Rattle.interleaving.proofs.ShapeLemmas.{catch_kind}
use Rattle.interleaving.proofs.RoundtripLemmas.{by_nodes, by_heights}
use Rattle.interleaving.proofs.ClosingSoundLemmas.{IsSoundGrown, woken_sound}
use Rattle.interleaving.proofs.GrowingLemmas.{no_three, none_dormant-of}
use Rattle.interleaving.proofs.MarkLemmas.{no_query_to, IsMarkOn, first_mark_on}
use Rattle.au_model.specs.Terms.Unifier.{unifier}
use Rattle.interleaving.proofs.EntryLemmas.{own_height, length-floor}
use Rattle.interleaving.proofs.BallLemmas.{NamesFloor, names-above, node_on, IsLow, ball_scope_low, fallen, IsFalling, falls-above}
use Rattle.interleaving.proofs.BallLemmas.{stops_here, ends_sound, passes, recovery_on}
use Rattle.au_term.proofs.LogicLemmas.{number_same}

-- where nothing can take a ball
pub nothing_infers : (ball : Term) (es : List Entry) → unwound ball None es ≡ EndEntry (Some (copied ball 0)) ∷ []
nothing_infers ball [] = refl
nothing_infers ball (CatchEntry c r f ∷ es) = nothing_infers ball es
nothing_infers ball (PlainEntry f ∷ es) = nothing_infers ball es
nothing_infers ball (FindallEntry results l f ∷ es) = nothing_infers ball es
nothing_infers ball (EndEntry b ∷ es) = nothing_infers ball es

below_floor : (ball : Term) (m : ℕ) (es : List Entry) → length es ≤ m → unwound ball (Some m) es ≡ EndEntry (Some (copied ball 0)) ∷ []
below_floor ball m [] h = refl
below_floor ball m (CatchEntry c r f ∷ es) h = go (m == length es) refl (below_floor ball m es (omega arith))
  where
    go : (b : Bool) → (m == length es) ≡ b → unwound ball (Some m) es ≡ EndEntry (Some (copied ball 0)) ∷ [] →
        recovered (cond b (unifier ((c, copied ball f.next) ∷ [])) None) ball r f es
        (unwound ball (cond b (first_mark f.items) (Some m)) es) ≡ EndEntry (Some (copied ball 0)) ∷ []
    go true e k = let same : m ≡ length es = grind arith in let no_way : ⊥ = omega arith in absurd no_way
    go false e k = k
below_floor ball m (PlainEntry f ∷ es) h = below_floor ball m es (omega arith)
below_floor ball m (FindallEntry results l f ∷ es) h = below_floor ball m es (omega arith)
below_floor ball m (EndEntry b ∷ es) h = below_floor ball m es (omega arith)

-- a mark, one level up
mark_above : (node : ℕ → ℕ) (v : Level) (up : List Level) (mark : Option ℕ) → is_query v.kind ≡ false → NamesFloor node up
    → is_on (way_of up) v.number ≡ false → IsMarkOn node (v ∷ up) mark → IsMarkOn node up mark
mark_above node v up None n a o h = tt
mark_above node v up (Some m) n a o (inl l) = inl (omega arith)
mark_above node v up (Some m) n a o (inr h) = go (m == length up) refl
  where
    bound : suc m ≤ suc (length up)
    bound = h.0

    go : (b : Bool) → (m == length up) ≡ b → (length up ≤ m) ⊎ ((suc m ≤ length up) × (no_query_to (way_of up) (node (suc m)) ≡ true))
    go true e = let same : m ≡ length up = grind arith in inl (omega arith)
    go false e =
        let low : suc m ≤ length up = grind (arith, bound) in
        let on : is_on (way_of up) (node (suc m)) ≡ true = subst (λ k. is_on (way_of up) k ≡ true) (sym (a (suc m) low))
        (node_on up (suc m) (omega arith) low) in
        let off : (v.number == node (suc m)) ≡ false = other_number (way_of up) v.number (node (suc m)) o on (v.number == node (suc m))
        refl in
        inr (
          low,
          sym (cond-false (is_query v.kind) false _ n
              ∙ cond-false (v.number == node (suc m)) true (no_query_to (way_of up) (node (suc m))) off) ∙ h.1,
        )

mark_named : (node : ℕ → ℕ) (levels : List Level) (mark : Option ℕ) → NamesFloor node levels → IsMarkOn (node_of levels) levels mark
    → IsMarkOn node levels mark
mark_named node levels None a h = tt
mark_named node levels (Some m) a (inl l) = inl l
mark_named node levels (Some m) a (inr h) = inr (h.0, subst (λ k. no_query_to (way_of levels) k ≡ true) (sym (a (suc m) h.0)) h.1)

-- the first alternative of a node is open where something sleeps after it
pub dormant_first : (kind : Kind) (left : List (ℕ × Status)) (k : Kind) (ps : List Profile)
    → is_shape kind (put_profiles left (IsOpen ∷ IsDormant k ∷ ps)) ≡ true → length left ≡ 0
dormant_first kind [] k ps h = refl
dormant_first ChoiceNode (a ∷ left) k ps h = let no_way : ⊥ = none_true (none_dormant-of (a ∷ left) (IsOpen ∷ IsDormant k ∷ ps) h) in absurd
    no_way
  where
    none_true : false ≡ true → ⊥
    none_true e = cc
dormant_first CatchNode (a ∷ left) k ps h = absurd (no_three CatchNode left (profile a.1) IsOpen (IsDormant k) ps h)
dormant_first FindallNode (a ∷ left) k ps h = absurd (no_three FindallNode left (profile a.1) IsOpen (IsDormant k) ps h)
dormant_first QueryNode (a ∷ left) k ps h = absurd (no_three QueryNode left (profile a.1) IsOpen (IsDormant k) ps h)

low_up : (up : List Level) (es : List Entry) → IsLow (length (floor_of up)) es → IsLow (length up) es
low_up up es h = subst (λ n. IsLow n es) (length-floor up) h

-- what a ball finds above a level
abbrev GoesOn : (ℕ → ℕ) → ℕ → ℕ → Term → List Level → Type 0
GoesOn node q next ball up = (mark : Option ℕ) → IsMarkOn node up mark → (d : Credit)
    → IsSoundGrown (fallen node q next up d (unwound ball mark (floor_of up)))

-- a catch takes it
caught_here : (node : ℕ → ℕ) (q next n : ℕ) (kind : Kind) (left : List (ℕ × Status)) (spent s : ℕ) (x r : Term) (f : Continuation ℕ)
    (others : Alternatives) (up : List Level) (c : Credit) (o : Substitution) (ball : Term) →
    let v : Level = record {
      number = n;
      kind = kind;
      left = left;
      spent = spent;
      right = alternative s
          (Pending Dormant (CatchEntry x r f)) others;
    } in
    IsFalling node q next (v ∷ up) → length left ≡ 0 → (g : Continuation ℕ) → g.items ≡ by_heights up f.items →
    IsSoundGrown (fallen node q next (v ∷ up) c
    (PlainEntry (resolve_continuation o
    (with_next (g.next + copy_takes ball) (before (GoalItem (call_of r) (length (floor_of up)) ∷ []) g))) ∷ floor_of up))
caught_here node q next n kind (a ∷ left) spent s x r f others up c o ball h l g i = let no_way : ⊥ = omega (arith, l) in absurd no_way
caught_here node q next n kind [] spent s x r f others up c o ball h l g i =
    let v : Level = record {
      number = n;
      kind = kind;
      left = [];
      spent = spent;
      right = alternative s
          (Pending Dormant (CatchEntry x r f)) others;
    } in
    let scope : node (suc (length (floor_of up))) ≡ n = ap (λ m. node (suc m)) (length-floor up)
    ∙ (h.names (suc (length up)) (omega arith) ∙ own_height v up) in
    let zero_here : count_around next up + (one_if (n == next) + (0 + (0 + count_among next others)))
    ≡ 0 = h.free.fresh next (omega arith) in
    let not_here : one_if (n == next) ≡ 0 = omega (arith, zero_here) in
    let not_above : count_around next up ≡ 0 = omega (arith, zero_here) in
    let asked : IsAsked (way_of up) f.items = h.around.0.right.0.0 in
    let on : IsAsked (record { node = next; index = 0; kind = ChoiceNode } ∷ record { node = n; index = 1; kind = kind } ∷ way_of up)
    (by_nodes node (map (resolve_item o) (GoalItem (call_of r) (length (floor_of up)) ∷ by_heights up f.items))) =
    recovery_on node next n kind up (length (floor_of up)) (length-floor up) (call_of r) o f.items (names-above node v up h.names)
    (catch_kind kind (profiles others) h.around.0.shape) (one_if-zero (n == next) not_here) h.around.0.new
    (off_way next up not_above) asked in
    stops_here next (node (suc (length (floor_of up)))) v up c _ (ap (λ m. n == m) scope ∙ number_same n)
    (woken_sound next n kind spent (alternative s (Pending Dormant (CatchEntry x r f)) others) up (left_after v c) _ h.around.0
    h.around.1 h.free
    (subst (λ items. IsAsked (record { node = next; index = 0; kind = ChoiceNode } ∷ record { node = n; index = 1; kind = kind }
    ∷ way_of up) (by_nodes node (map (resolve_item o) (GoalItem (call_of r) (length (floor_of up)) ∷ items)))) (sym i) on) tt)

catch_level : (node : ℕ → ℕ) (q next n : ℕ) (kind : Kind) (left : List (ℕ × Status)) (spent s : ℕ) (x r : Term) (f : Continuation ℕ)
    (others : Alternatives) (up : List Level) (c : Credit) (mark : Option ℕ) (ball : Term) →
    let v : Level = record {
      number = n;
      kind = kind;
      left = left;
      spent = spent;
      right = alternative s
          (Pending Dormant (CatchEntry x r f)) others;
    } in
    is_query kind ≡ false → IsFalling node q next (v ∷ up) → IsMarkOn node (v ∷ up) mark → GoesOn node q next ball up →
    IsSoundGrown (fallen node q next (v ∷ up) c (unwound ball mark (floor_of (v ∷ up))))
catch_level node q next n kind left spent s x r f others up c mark ball k h m go_on = go (taken_by mark (length (floor_of up)) ball x g)
  where
    v : Level
    v = record { number = n; kind = kind; left = left; spent = spent; right = alternative s (Pending Dormant (CatchEntry x r f)) others }

    g : Continuation ℕ
    g = record { items = by_heights up f.items; named = f.named; next = f.next }

    behind : IsMarkOn node up (next_mark mark (length (floor_of up)) g)
    behind = pick (is_height mark (length (floor_of up)))
      where
        asked : IsAsked (way_of up) f.items
        asked = h.around.0.right.0.0

        pick : (b : Bool) → IsMarkOn node up (cond b (first_mark (by_heights up f.items)) mark)
        pick true = mark_named node up (first_mark (by_heights up f.items)) (names-above node v up h.names)
            (first_mark_on up (way_of up) f.items (λ e j. j) asked.asked (λ e j. j) asked.scoped)
        pick false = mark_above node v up mark k (names-above node v up h.names) h.around.0.new m

    go : (o : Option Substitution) → IsSoundGrown
        (fallen node q next (v ∷ up) c (recovered o ball r g (floor_of up)
        (unwound ball (next_mark mark (length (floor_of up)) g) (floor_of up))))
    go None = passes node q next v up c (unwound ball (next_mark mark (length (floor_of up)) g) (floor_of up)) k h
        (low_up up _ (ball_scope_low ball (next_mark mark (length (floor_of up)) g) (floor_of up)))
        (go_on (next_mark mark (length (floor_of up)) g) behind)
    go (Some o) = caught_here node q next n kind left spent s x r f others up c o ball h
        (dormant_first kind left CatchNode (profiles others) h.around.0.shape) g refl

-- a level at which nothing is caught
plain_level : (node : ℕ → ℕ) (q next : ℕ) (v : Level) (up : List Level) (c : Credit) (mark : Option ℕ) (ball : Term) → is_query v.kind
    ≡ false → IsFalling node q next (v ∷ up) → IsMarkOn node (v ∷ up) mark → GoesOn node q next ball up →
    IsSoundGrown (fallen node q next (v ∷ up) c (unwound ball mark (floor_of up)))
plain_level node q next v up c mark ball k h m go_on =
    passes node q next v up c (unwound ball mark (floor_of up)) k h (low_up up _ (ball_scope_low ball mark (floor_of up)))
    (go_on mark (mark_above node v up mark k (names-above node v up h.names) h.around.0.new m))

ball_level : (node : ℕ → ℕ) (q next n : ℕ) (kind : Kind) (left : List (ℕ × Status)) (spent : ℕ) (right : Alternatives) (up : List Level)
    (c : Credit) (mark : Option ℕ) (ball : Term) →
    let v : Level = record { number = n; kind = kind; left = left; spent = spent; right = right } in
    is_query kind ≡ false → IsFalling node q next (v ∷ up) → IsMarkOn node (v ∷ up) mark → GoesOn node q next ball up →
    IsSoundGrown (fallen node q next (v ∷ up) c (unwound ball mark (floor_of (v ∷ up))))
ball_level node q next n kind left spent none up c mark ball k h m go_on = plain_level node q next _ up c mark ball k h m go_on
ball_level node q next n kind left spent (alternative s (Inner x) others) up c mark ball k h m go_on = plain_level node q next _ up c
    mark ball k h m go_on
ball_level node q next n kind left spent (alternative s (Closed x) others) up c mark ball k h m go_on = plain_level node q next _ up c
    mark ball k h m go_on
ball_level node q next n kind left spent (alternative s (Pending Ready e) others) up c mark ball k h m go_on = plain_level node q next _
    up c mark ball k h m go_on
ball_level node q next n kind left spent (alternative s (Pending (TakenBy w) e) others) up c mark ball k h m go_on = plain_level node q
    next _ up c mark ball k h m go_on
ball_level node q next n kind left spent (alternative s (Pending (Waiting x) e) others) up c mark ball k h m go_on = plain_level node q
    next _ up c mark ball k h m go_on
ball_level node q next n kind left spent (alternative s (Pending Dormant (PlainEntry f)) others) up c mark ball k h m go_on =
    plain_level node q next _ up c mark ball k h m go_on
ball_level node q next n kind left spent (alternative s (Pending Dormant (FindallEntry results l f)) others) up c mark ball k h m go_on
    = plain_level node q next _ up c mark ball k h m go_on
ball_level node q next n kind left spent (alternative s (Pending Dormant (EndEntry b)) others) up c mark ball k h m go_on = plain_level
    node q next _ up c mark ball k h m go_on
ball_level node q next n kind left spent (alternative s (Pending Dormant (CatchEntry x r f)) others) up c mark ball k h m go_on =
    catch_level node q next n kind left spent s x r f others up c mark ball k h m go_on

-- at a query's node nothing is caught
query_level : (node : ℕ → ℕ) (q next : ℕ) (v : Level) (up : List Level) (c : Credit) (mark : Option ℕ) (ball : Term) → is_query v.kind
    ≡ true → IsFalling node q next (v ∷ up) → IsMarkOn node (v ∷ up) mark
    → IsSoundGrown (fallen node q next (v ∷ up) c (unwound ball mark (floor_of (v ∷ up))))
query_level node q next v up c None ball k h m = subst (λ es. IsSoundGrown (fallen node q next (v ∷ up) c es))
    (sym (nothing_infers ball (floor_of (v ∷ up)))) (ends_sound node q next (v ∷ up) c (Some (copied ball 0)) h)
query_level node q next v up c (Some m) ball k h (inl l) = subst (λ es. IsSoundGrown (fallen node q next (v ∷ up) c es))
    (sym (below_floor ball m (floor_of (v ∷ up)) (omega (arith, l, length-floor (v ∷ up)))))
    (ends_sound node q next (v ∷ up) c (Some (copied ball 0)) h)
query_level node q next v up c (Some m) ball k h (inr l) = let no_way : ⊥ = no_end
    (sym (cond-true (is_query v.kind) false _ k) ∙ l.1) in absurd no_way
  where
    no_end : false ≡ true → ⊥
    no_end e = cc

pub ball_sound : (node : ℕ → ℕ) (q next : ℕ) (ball : Term) (levels : List Level) (mark : Option ℕ) → IsFalling node q next levels
    → IsMarkOn node levels mark → (c : Credit) → IsSoundGrown (fallen node q next levels c (unwound ball mark (floor_of levels)))
ball_sound node q next ball [] mark h m c = record { distinct = λ n. omega arith; fresh = λ n l. refl; sound = tt }
ball_sound node q next ball (v ∷ up) mark h m c = go (is_query v.kind) refl (λ n. ball_sound node q next ball up)
  where
    go : (b : Bool) → is_query v.kind ≡ b
        → (is_query v.kind ≡ false → (mark : Option ℕ) → IsFalling node q next up → IsMarkOn node up mark → (d : Credit)
        → IsSoundGrown (fallen node q next up d (unwound ball mark (floor_of up))))
        → IsSoundGrown (fallen node q next (v ∷ up) c (unwound ball mark (floor_of (v ∷ up))))
    go true e f = query_level node q next v up c mark ball e h m
    go false e f = ball_level node q next v.number v.kind v.left v.spent v.right up c mark ball e h m
        (λ new j d. f e new (falls-above node q next v up e h) j d)
