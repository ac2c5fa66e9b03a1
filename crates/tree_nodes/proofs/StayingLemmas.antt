-- Rows stay below what they are below, and made from what they were made from, however often one of them is changed.
use Rattle.std.proofs.Common.{◌≡◌, ◌≢◌, ℕ, ◌<◌, ◌≤◌, [], ◌∷◌, ◌++◌, length, Option, Some, None}
use Rattle.std.proofs.Common.{refl, sym, ap, ◌∙◌, subst, arith, inl, inr}
use Rattle.std.proofs.lemmas.Bool.{cases_eq}
use Rattle.std.proofs.lemmas.List.{length-append}
use Rattle.tree_model.specs.Levels.{Place}
use Rattle.tree_nodes.specs.declared.row.Shortened.{Shortened}
use Rattle.tree_nodes.specs.declared.row.Shortened.TheVariants as shortened
use Rattle.tree_nodes.specs.Rows.{AlternativeCell, StoredNode, Rows, row_of_node}
use Rattle.tree_nodes.specs.RowViews.{with_state, IsShortened}
use Rattle.tree_nodes.specs.Drops.{IsShortenedAt}
use Rattle.tree_nodes.specs.Puts.{IsReplaced, IsLinked}
use Rattle.tree_nodes.specs.Skipping.{no_rows}
use Rattle.tree_nodes.specs.Staying.{WasMadeAs, StayMade, AreAllSame, IsMadeAs}
use Rattle.tree_nodes.proofs.AddLemmas.{row_at-more}
use Rattle.tree_nodes.proofs.SkipLemmas.{row_at-skipped, length-skipped}

-- nothing has changed
pub made_same : (rows : Rows) → StayMade rows rows
made_same rows = record { longer = omega arith; stay = λ n row l e. record { was = row; there = e; parent = refl; body = refl } }

pub made_unchanged : (old new : Rows) → new ≡ old → StayMade old new
made_unchanged old new e = subst (StayMade old) (sym e) (made_same old)

-- one change after another
pub made_then : (old middle new : Rows) → StayMade old middle → StayMade middle new → StayMade old new
made_then old middle new h k =
    let first = h.longer in
    let second = k.longer in
    record {
      longer = omega (arith, first, second);
      stay = λ n row l e. (let between = k.stay n row (omega (arith, l, first)) e in
          let before = h.stay n between.was l between.there in record {
            was = before.was;
            there = before.there;
            parent = before.parent ∙ between.parent;
            body = before.body ∙ between.body;
          });
    }

-- the numbers from some on are given back that were drawn since, and none of which names a row
pub made_back : (old middle new : Rows) → StayMade old middle → AreAllSame middle new → length old ≤ length new → StayMade old new
made_back old middle new h same longer = record { longer = longer; stay = λ n row l e. h.stay n row l (sym (same n) ∙ e) }

-- each number names the same row
pub made_alike : (old new : Rows) → length old ≤ length new → AreAllSame old new → StayMade old new
made_alike old new longer same = made_back old old new (made_same old) same longer

made_as : (o p : Option StoredNode) (rows : Rows) (n : ℕ) (row : StoredNode) → row_of_node rows n ≡ o → p ≡ Some row → IsMadeAs o p
    → WasMadeAs rows n row
made_as None None rows n row here e h = absurd (cc e)
made_as (Some q) None rows n row here e h = absurd (cc e)
made_as None (Some r) rows n row here e h = absurd h
made_as (Some q) (Some r) rows n row here e h =
    let same : r ≡ row = cc e in
    record { was = q; there = here; parent = h.0 ∙ ap (λ (s : StoredNode). s.parent) same; body = h.1 ∙ ap (λ (s : StoredNode). s.body) same }

-- one row is another, or gone
pub made_at : (old new : Rows) (i : ℕ) → length old ≤ length new → ((m : ℕ) → m ≢ i → row_of_node new m ≡ row_of_node old m)
    → IsMadeAs (row_of_node old i) (row_of_node new i) → StayMade old new
made_at old new i longer others here = record {
  longer = longer;
  stay = λ n row l e. elim (cases_eq n i) [
    | inl same ↦ made_as (row_of_node old n) (row_of_node new n) old n row refl e
        (subst (λ (k : ℕ). IsMadeAs (row_of_node old k) (row_of_node new k)) (sym same) here)
    | inr other ↦ record { was = row; there = sym (others n other) ∙ e; parent = refl; body = refl }
  ];
}

-- one more row, or numbers that name none
pub made_more : (rows : Rows) (r : Option StoredNode) → StayMade rows (rows ++ r ∷ [])
made_more rows r = record {
  longer = (let many = length-append rows (r ∷ []) in omega (arith, many));
  stay = λ n row l e. record { was = row; there = sym (row_at-more rows r n (λ s. absurd (omega (arith, s, l)))) ∙ e; parent = refl; body = refl };
}

pub made_skipped : (rows : Rows) (n : ℕ) → StayMade rows (rows ++ no_rows n)
made_skipped rows n = made_alike rows (rows ++ no_rows n) (let many = length-skipped rows n in omega (arith, many)) (λ m. row_at-skipped rows n m)

-- another cell is at a place
with_state_made : (i : ℕ) (cell : ℕ × AlternativeCell) (o : Option StoredNode) → IsMadeAs o (with_state i cell o)
with_state_made i cell None = tt
with_state_made i cell (Some r) = (refl, refl)

pub made_replaced : (rows new : Rows) (a : Place) (cell : ℕ × AlternativeCell) (below : Option ℕ) → IsReplaced rows new a cell below → StayMade rows new
made_replaced rows new a cell below h =
    let many = h.length in
    made_at rows new a.node (omega (arith, many)) h.same
    (subst (IsMadeAs (row_of_node rows a.node)) (sym h.row) (with_state_made a.index cell (row_of_node rows a.node)))

pub made_linked : (rows new : Rows) (parent : Option Place) (n : ℕ) → IsLinked rows new parent n → StayMade rows new
made_linked rows new None n h = made_unchanged rows new h
made_linked rows new (Some a) n h = made_replaced rows new a _ h.below h.replaced

-- the last alternative of a row goes, or the row
shortened_made : (o p : Option StoredNode) (s : Shortened) → IsShortened o p s → IsMadeAs o p
shortened_made None p (shortened.Alternative inner) h = absurd h
shortened_made None p (shortened.Row parent) h = absurd h
shortened_made None p shortened.Nothing h = subst (IsMadeAs None) (sym h) tt
shortened_made (Some r) p (shortened.Alternative inner) h = subst (IsMadeAs (Some r)) (sym h.are) (refl, refl)
shortened_made (Some r) p (shortened.Row parent) h = subst (IsMadeAs (Some r)) (sym h.are) tt
shortened_made (Some r) p shortened.Nothing h = absurd h

pub made_shortened : (rows new : Rows) (n : ℕ) (s : Shortened) → IsShortenedAt rows new n s → StayMade rows new
made_shortened rows new n s h =
    let many = h.length in
    made_at rows new n (omega (arith, many)) h.same (shortened_made (row_of_node rows n) (row_of_node new n) s h.here)
