-- Where a ball lands at a node of its branch: what wakes there, and what is left of all below it.
use Rattle.std.proofs.Common.{◌≡◌, ◌⊎◌, inl, inr, ℕ, suc, ◌==◌, Bool, true, false, cond, List, [], ◌∷◌, ◌++◌, length, Some, refl, sym, ap}
use Rattle.std.proofs.Common.{◌∙◌, subst, arith}
use Rattle.std.specs.Prelude.{◌||◌, ◌&&◌}
use Rattle.run_model.specs.Machine.Entries.{Entry}
use Rattle.tree_model.specs.Credits.{Credit, without_records}
use Rattle.tree_model.specs.Nodes.{Kind, Alternatives, alternative, Status, Pending, Inner, Closed}
use Rattle.tree_model.specs.Levels.{Level, put_left, level_node, plug}
use Rattle.tree_model.specs.Orders.{credits_left, levels_below, first_open, is_cleared}
use Rattle.tree_model.specs.Closing.{Grown, wakes}
use Rattle.tree_model.specs.Pruning.{is_findall, remaining_records, left_after, ball_closes}
use Rattle.tree_model.specs.CaughtTrees.{catch_right, is_side, AreCaught}
use Rattle.interleaving.proofs.ClearedLemmas.{no_place}
use Rattle.interleaving.proofs.ClockLemmas.{AreShut, AreClear, clear_all}
use Rattle.interleaving.proofs.ListEndLemmas.{levels_down}
use Rattle.interleaving.proofs.ListScopeLemmas.{dormant_on}
use Rattle.interleaving.proofs.ListsSoundLemmas.{under_of}
use Rattle.interleaving.proofs.CaughtContextLemmas.{RootCaught, caught_after, node_caught}
use Rattle.interleaving.proofs.CaughtClosingLemmas.{RecordsUnder}
use Rattle.au_term.proofs.LogicLemmas.{false_true, number_turned}

-- what is left of the levels below a node
abbrev pub ball_credit : ℕ → List Level → Credit → Credit
ball_credit s [] c = c
ball_credit s (v ∷ up) c = cond (v.number == s) (left_after v c) (ball_credit s up (left_after v c))

abbrev pub wakes_in : ℕ → List Level → Credit → Entry → Grown
wakes_in next [] c e = record { root = Closed c; next = next }
wakes_in next (v ∷ up) c e = wakes next v up c e

pub record BallClosesAt (next s : ℕ) (levels : List Level) (status : Status) (c : Credit) (e : Entry) : Type 0 where
  pub below : Status
  pub inside : plug levels status ≡ plug (levels_down levels s) below
  pub ball_closes : ball_closes next s levels c e ≡ wakes_in next (levels_down levels s) (ball_credit s levels c) e
  pub first : ((sp : ℕ) (others : Alternatives) → catch_right (alternative sp status others) ≡ false) → (sp : ℕ) (others : Alternatives)
      → catch_right (alternative sp below others) ≡ false

pub ball_closes_at : (next s : ℕ) (levels : List Level) (status : Status) (c : Credit) (e : Entry) → BallClosesAt next s levels status c e
ball_closes_at next s [] status c e = record { below = status; inside = refl; ball_closes = refl; first = λ f. f }
ball_closes_at next s (v ∷ up) status c e = let h = go (v.number == s)
    (ball_closes_at next s up (Inner (level_node v status)) (left_after v c) e) in record
    { below = h.0; inside = h.1; ball_closes = h.2; first = h.3 }
  where
    go : (b : Bool) → BallClosesAt next s up (Inner (level_node v status)) (left_after v c) e
        → (x : Status) × (plug (v ∷ up) status ≡ plug (cond b (v ∷ up) (levels_down up s)) x)
        × (cond b (wakes next v up (left_after v c) e) (ball_closes next s up (left_after v c) e)
        ≡ wakes_in next (cond b (v ∷ up) (levels_down up s)) (cond b (left_after v c) (ball_credit s up (left_after v c))) e)
        × (((sp : ℕ) (others : Alternatives) → catch_right (alternative sp status others) ≡ false) → (sp : ℕ) (others : Alternatives)
        → catch_right (alternative sp x others) ≡ false)
    go true h = (status, refl, refl, λ f. f)
    go false h = (h.below, h.inside, h.ball_closes, λ f. h.first (λ sp others. refl))

-- to the left of a place that is cleared there are credits alone
credits_none : (sleeps : ℕ → Bool) (n : ℕ) (kind : Kind) (left : List (ℕ × Status)) (others : Alternatives)
    → AreCaught sleeps false n kind 0 (put_left left others) → AreShut left → (credits_left left).records ≡ []
credits_none sleeps n kind [] others h k = refl
credits_none sleeps n kind ((sp, Pending hold e) ∷ left) others h k = false_true k.0
credits_none sleeps n kind ((sp, Inner node) ∷ left) others h k = false_true k.0
credits_none sleeps n kind ((sp, Closed c) ∷ left) others h k =
    ap (λ l. l ++ c.records) (credits_none sleeps n kind left (alternative sp (Closed c) others) h k.1)
    ∙ mine (caught_after sleeps false n kind left (alternative sp (Closed c) others) h).0
  where
    mine : ((c.records ≡ []) ⊎ ((is_side kind (length left) ≡ false) × (false ≡ true))) → c.records ≡ []
    mine (inl e) = e
    mine (inr e) = false_true e.1

remaining_none : (v : Level) (c : Credit) → c.records ≡ [] → (remaining_records v c).records ≡ []
remaining_none v c h = go v.left (is_findall v.kind)
  where
    go : (left : List (ℕ × Status)) (b : Bool)
        → (elim left as (λ l. Credit) [ [] ↦ cond b (without_records c) c | a ∷ rest ↦ c ]).records ≡ []
    go [] true = refl
    go [] false = h
    go (a ∷ rest) b = h

remaining_side : (v : Level) (c : Credit) → is_side v.kind (length v.left) ≡ true → (remaining_records v c).records ≡ []
remaining_side v c h = go v.left refl (is_findall v.kind) refl
  where
    go : (left : List (ℕ × Status)) → v.left ≡ left → (b : Bool) → is_findall v.kind ≡ b
        → (elim left as (λ l. Credit) [ [] ↦ cond b (without_records c) c | a ∷ rest ↦ c ]).records ≡ []
    go [] q true e = refl
    go [] q false e = false_true (sym (ap (λ b. b && (length v.left == 0)) e) ∙ h)
    go (a ∷ rest) q b e = let no_way : ⊥ = not_first (length rest)
        (sym (ap (λ l. length l == 0) q) ∙ second (is_findall v.kind) (length v.left == 0) h) in absurd no_way
      where
        not_first : (n : ℕ) → (suc n == 0) ≡ true → ⊥
        not_first n z = grind arith

        second : (x y : Bool) → (x && y) ≡ true → y ≡ true
        second true y z = z
        second false y z = false_true z

left_under : (v : Level) (up : List Level) (status : Status) (c : Credit) → AreShut v.left → RootCaught (plug (v ∷ up) status)
    → RecordsUnder (v ∷ up) c → RecordsUnder up (left_after v c)
left_under v up status c k h r = go (under_of up) refl (is_side v.kind (length v.left)) refl (node_caught up v status h) r
  where
    all : (credits_left v.left).records ≡ [] → (remaining_records v c).records ≡ [] → (left_after v c).records ≡ []
    all a b = ap (λ l. l ++ ([] ++ (remaining_records v c).records)) a ∙ b

    go : (b : Bool) → under_of up ≡ b → (d : Bool) → is_side v.kind (length v.left) ≡ d
        → AreCaught (dormant_on up) (under_of up) v.number v.kind 0 (put_left v.left (alternative v.spent status v.right))
        → RecordsUnder (v ∷ up) c → RecordsUnder up (left_after v c)
    go true e d q n r = inr e
    go false e true q n r = inl (all
        (credits_none (dormant_on up) v.number v.kind v.left (alternative v.spent status v.right)
        (subst (λ b. AreCaught (dormant_on up) b v.number v.kind 0 (put_left v.left (alternative v.spent status v.right))) e n) k)
        (remaining_side v c q))
    go false e false q n (inl z) = inl
        (all (credits_none (dormant_on up) v.number v.kind v.left (alternative v.spent status v.right)
        (subst (λ b. AreCaught (dormant_on up) b v.number v.kind 0 (put_left v.left (alternative v.spent status v.right))) e n) k)
        (remaining_none v c z))
    go false e false q n (inr z) = false_true (sym (ap (λ b. b || under_of up) q ∙ e) ∙ z)

-- cleared below a node
pub clear_below : (s : ℕ) (levels : List Level) → is_cleared (Some s) levels ≡ true → AreClear (levels_below (Some s) levels)
clear_below s levels h = clear_all (levels_below (Some s) levels) (no_place (first_open (levels_below (Some s) levels)) h)

pub clear_step : (s : ℕ) (v : Level) (up : List Level) → (v.number == s) ≡ false → AreClear (levels_below (Some s) (v ∷ up))
    → AreShut v.left × AreClear (levels_below (Some s) up)
clear_step s v up e h = subst (λ b. AreClear (cond b [] (v ∷ levels_below (Some s) up))) (number_turned s v.number ∙ e) h

abbrev pub FirstShut : List Level → Type 0
FirstShut [] = Unit {0}
FirstShut (v ∷ up) = v.left ≡ []

abbrev pub under_top : List Level → Bool
under_top [] = false
under_top (v ∷ up) = under_of up

pub ball_credit_under : (s : ℕ) (levels : List Level) (status : Status) (c : Credit) → AreClear (levels_below (Some s) levels)
    → FirstShut (levels_down levels s) → RootCaught (plug levels status) → RecordsUnder levels c
    → ((ball_credit s levels c).records ≡ []) ⊎ (under_top (levels_down levels s) ≡ true)
ball_credit_under s [] status c k f h r = r
ball_credit_under s (v ∷ up) status c k f h r = go (v.number == s) refl f
    (λ a b. ball_credit_under s up (Inner (level_node v status)) (left_after v c) a b h)
  where
    go : (b : Bool) → (v.number == s) ≡ b → FirstShut (cond b (v ∷ up) (levels_down up s))
        → (AreClear (levels_below (Some s) up) → FirstShut (levels_down up s) → RecordsUnder up (left_after v c)
        → ((ball_credit s up (left_after v c)).records ≡ []) ⊎ (under_top (levels_down up s) ≡ true))
        → ((cond b (left_after v c) (ball_credit s up (left_after v c))).records ≡ []) ⊎
        (under_top (cond b (v ∷ up) (levels_down up s)) ≡ true)
    go true e z more = left_under v up status c (subst AreShut (sym z) tt) h r
    go false e z more = let below = clear_step s v up e k in more below.1 z (left_under v up status c below.0 h r)
