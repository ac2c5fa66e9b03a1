-- Credits beside an alternative, in the table and in the tree.
use Rattle.std.proofs.Common.{◌≡◌, ◌⊎◌, ℕ, Bool, true, false, List, [], ◌∷◌, ◌++◌, Option, Some, None}
use Rattle.std.proofs.Common.{refl, sym, ap, ◌∙◌, arith, inl, inr, append_assoc}
use Rattle.std.specs.Prelude.{◌&&◌}
use Rattle.std.proofs.lemmas.List.{append-nil}
use Rattle.au_term.specs.Term.{Term}
use Rattle.au_term.proofs.LogicLemmas.{and-false}
use Rattle.tree_model.specs.Credits.{Credit, no_credit, counted, added}
use Rattle.tree_model.specs.Nodes.{Alternatives, none, alternative, Status, Pending, Inner, Closed}
use Rattle.tree_model.specs.Closing.{and_then, closed_credit, all_left, all_right, all_closed}
use Rattle.tree_model.specs.Levels.{Level}
use Rattle.tree_nodes.specs.Rows.{AlternativeCell}
use Rattle.tree_nodes.specs.TreeTables.{cell_of, cells_of}
use Rattle.tree_nodes.specs.Gathering.{closed_in, is_shut, are_shut, add_left, with_left, with_right_credits}
use Rattle.tree_nodes.proofs.PlaceLemmas.{left_cells}

pub same_credit : (i j a b : ℕ) (rs ts : List Term) → i ≡ j → a ≡ b → rs ≡ ts
    → ◌≡◌ {A = Credit} (record { inferences = i; answers = a; records = rs }) (record { inferences = j; answers = b; records = ts })
same_credit i j a b rs ts e f g =
    ap (λ (k : ℕ). record { inferences = k; answers = a; records = rs }) e
    ∙ (ap (λ (k : ℕ). record { inferences = j; answers = k; records = rs }) f
    ∙ ap (λ (k : List Term). record { inferences = j; answers = b; records = k }) g)

pub counted-assoc : (a b c : ℕ) → counted (counted a b) c ≡ counted a (counted b c)
counted-assoc a b c = omega arith

pub added-assoc : (a b c : Credit) → added (added a b) c ≡ added a (added b c)
added-assoc a b c = same_credit _ _ _ _ _ _ (counted-assoc a.inferences b.inferences c.inferences) (counted-assoc a.answers b.answers c.answers)
    (append_assoc a.records b.records c.records)

counted-nothing : (a c : ℕ) → counted a (counted 0 c) ≡ counted a c
counted-nothing a c = omega arith

counted-none : (a c : ℕ) → counted a (counted c 0) ≡ counted a c
counted-none a c = omega arith

nothing_left : (d c : Credit) → added d (added no_credit c) ≡ added d c
nothing_left d c = same_credit _ _ _ _ _ _ (counted-nothing d.inferences c.inferences) (counted-nothing d.answers c.answers) refl

nothing_right : (d c : Credit) → added d (added c no_credit) ≡ added d c
nothing_right d c = same_credit _ _ _ _ _ _ (counted-none d.inferences c.inferences) (counted-none d.answers c.answers)
    (ap (λ (rs : List Term). d.records ++ rs) (append-nil c.records))

are_shut-snoc : (cells : List (ℕ × AlternativeCell)) (x : ℕ × AlternativeCell) → are_shut (cells ++ x ∷ []) ≡ (are_shut cells && is_shut x.1)
are_shut-snoc [] x = grind arith
are_shut-snoc (y ∷ cells) x = ap (λ (b : Bool). is_shut y.1 && b) (are_shut-snoc cells x) ∙ and-assoc (is_shut y.1) (are_shut cells) (is_shut x.1)
  where
    and-assoc : (a b c : Bool) → (a && (b && c)) ≡ ((a && b) && c)
    and-assoc true b c = refl
    and-assoc false b c = refl

pub with_left-snoc : (cells : List (ℕ × AlternativeCell)) (x : ℕ × AlternativeCell) (c : Credit) → with_left (cells ++ x ∷ []) c ≡ with_left cells (add_left (closed_in x.1) c)
with_left-snoc [] x c = refl
with_left-snoc (y ∷ cells) x c = ap (add_left (closed_in y.1)) (with_left-snoc cells x c)

-- the sum on the left of an alternative, where all are closed
pub record IsLeftSum (left : List (ℕ × Status)) (total : Credit) : Type 0 where
  pub shut : are_shut (left_cells left) ≡ true
  pub all : all_left left ≡ Some total
  pub sum : (d c : Credit) → added d (added total c) ≡ added d (with_left (left_cells left) c)

pub record IsLeftOpen (left : List (ℕ × Status)) : Type 0 where
  pub shut : are_shut (left_cells left) ≡ false
  pub all : all_left left ≡ None

none_after : (o : Option Credit) → and_then o None ≡ None
none_after None = refl
none_after (Some c) = refl

pub left_sums : (left : List (ℕ × Status)) → ((total : Credit) × IsLeftSum left total) ⊎ IsLeftOpen left
left_sums [] = inl (no_credit, record { shut = refl; all = refl; sum = nothing_left })
left_sums (a ∷ left) = by_status (left_sums left) a.1 refl
  where
    not_shut : (is_shut (cell_of a.1) ≡ false) → (closed_credit a.1 ≡ None) → IsLeftOpen (a ∷ left)
    not_shut s e = record {
      shut = are_shut-snoc (left_cells left) (a.0, cell_of a.1) ∙ (ap (λ (b : Bool). are_shut (left_cells left) && b) s ∙ and-false (are_shut (left_cells left)));
      all = ap (and_then (all_left left)) e ∙ none_after (all_left left);
    }

    closed : (e : Credit) → a.1 ≡ Closed e → (((total : Credit) × IsLeftSum left total) ⊎ IsLeftOpen left) → ((total : Credit) × IsLeftSum (a ∷ left) total) ⊎ IsLeftOpen (a ∷ left)
    closed e is (inr o) = inr (record {
      shut = are_shut-snoc (left_cells left) (a.0, cell_of a.1) ∙ ap (λ (b : Bool). b && is_shut (cell_of a.1)) o.shut;
      all = ap (λ (o : Option Credit). and_then o (closed_credit a.1)) o.all;
    })
    closed e is (inl h) = inl (
      added h.0 e,
      record {
        shut = are_shut-snoc (left_cells left) (a.0, cell_of a.1)
            ∙ (ap (λ (b : Bool). b && is_shut (cell_of a.1)) h.1.shut ∙ ap (λ (s : Status). is_shut (cell_of s)) is);
        all = ap (λ (o : Option Credit). and_then o (closed_credit a.1)) h.1.all ∙ ap (λ (s : Status). and_then (Some h.0) (closed_credit s)) is;
        sum = λ d c. ap (added d) (added-assoc h.0 e c) ∙ (h.1.sum d (added e c)
            ∙ ap (added d) (ap (λ (s : Status). with_left (left_cells left) (add_left (closed_in (cell_of s)) c)) (sym is)
            ∙ sym (with_left-snoc (left_cells left) (a.0, cell_of a.1) c)));
      },
    )

    by_status : (((total : Credit) × IsLeftSum left total) ⊎ IsLeftOpen left) → (s : Status) → a.1 ≡ s
        → ((total : Credit) × IsLeftSum (a ∷ left) total) ⊎ IsLeftOpen (a ∷ left)
    by_status h (Pending hold entry) is = inr (not_shut (ap (λ (s : Status). is_shut (cell_of s)) is) (ap closed_credit is))
    by_status h (Inner node) is = inr (not_shut (ap (λ (s : Status). is_shut (cell_of s)) is) (ap closed_credit is))
    by_status h (Closed e) is = closed e is h

pub record IsRightSum (right : Alternatives) (total : Credit) : Type 0 where
  pub shut : are_shut (cells_of right) ≡ true
  pub all : all_right right ≡ Some total
  pub sum : (d c : Credit) → added d (added c total) ≡ added d (with_right_credits c (cells_of right))

pub record IsRightOpen (right : Alternatives) : Type 0 where
  pub shut : are_shut (cells_of right) ≡ false
  pub all : all_right right ≡ None

pub right_sums : (right : Alternatives) → ((total : Credit) × IsRightSum right total) ⊎ IsRightOpen right
right_sums none = inl (no_credit, record { shut = refl; all = refl; sum = nothing_right })
right_sums (alternative spent (Pending hold entry) others) = inr (record { shut = refl; all = refl })
right_sums (alternative spent (Inner node) others) = inr (record { shut = refl; all = refl })
right_sums (alternative spent (Closed e) others) = closed (right_sums others)
  where
    closed : (((total : Credit) × IsRightSum others total) ⊎ IsRightOpen others)
        → ((total : Credit) × IsRightSum (alternative spent (Closed e) others) total) ⊎ IsRightOpen (alternative spent (Closed e) others)
    closed (inr o) = inr (record { shut = o.shut; all = ap (and_then (Some e)) o.all })
    closed (inl h) = inl (
      added e h.0,
      record {
        shut = h.1.shut;
        all = ap (and_then (Some e)) h.1.all;
        sum = λ d c. ap (added d) (sym (added-assoc c e h.0)) ∙ h.1.sum d (added c e);
      },
    )

-- sums that are the same behind any credit
with_left_same : (cells : List (ℕ × AlternativeCell)) (a b : Credit) → ((d : Credit) → added d a ≡ added d b) → (d : Credit)
    → added d (with_left cells a) ≡ added d (with_left cells b)
with_left_same [] a b h d = h d
with_left_same (x ∷ cells) a b h d = by_cell (closed_in x.1) (λ e. with_left_same cells a b h e)
  where
    by_cell : (o : Option Credit) → ((e : Credit) → added e (with_left cells a) ≡ added e (with_left cells b))
        → added d (add_left o (with_left cells a)) ≡ added d (add_left o (with_left cells b))
    by_cell None same = same d
    by_cell (Some e) same = sym (added-assoc d e (with_left cells a)) ∙ (same (added d e) ∙ added-assoc d e (with_left cells b))

-- a node folds exactly where all beside an alternative are closed
pub record IsBesideSum (v : Level) (c : Credit) (left right : List (ℕ × AlternativeCell)) (total : Credit) : Type 0 where
  pub all : all_closed v c ≡ Some total
  pub sum : (d : Credit) → added d total ≡ added d (with_left left (with_right_credits c right))

pub beside_sum : (v : Level) (c : Credit) → (are_shut (left_cells v.left) && are_shut (cells_of v.right)) ≡ true
    → (total : Credit) × IsBesideSum v c (left_cells v.left) (cells_of v.right) total
beside_sum v c s = by_parts (left_sums v.left) (right_sums v.right)
  where
    by_parts : (((total : Credit) × IsLeftSum v.left total) ⊎ IsLeftOpen v.left) → (((total : Credit) × IsRightSum v.right total) ⊎ IsRightOpen v.right)
        → (total : Credit) × IsBesideSum v c (left_cells v.left) (cells_of v.right) total
    by_parts (inr o) r = absurd (let z : (false && are_shut (cells_of v.right)) ≡ true = ap (λ (b : Bool). b && are_shut (cells_of v.right)) (sym o.shut) ∙ s in cc z)
    by_parts (inl l) (inr o) = absurd (let z : (are_shut (left_cells v.left) && false) ≡ true = ap (λ (b : Bool). are_shut (left_cells v.left) && b) (sym o.shut) ∙ s in
        let y : false ≡ true = sym (and-false (are_shut (left_cells v.left))) ∙ z in cc y)
    by_parts (inl l) (inl r) = (
      added (added l.0 c) r.0,
      record {
        all = ap (λ (o : Option Credit). and_then (and_then o (Some c)) (all_right v.right)) l.1.all ∙ ap (and_then (Some (added l.0 c))) r.1.all;
        sum = λ d. ap (added d) (added-assoc l.0 c r.0) ∙ (l.1.sum d (added c r.0)
            ∙ with_left_same (left_cells v.left) (added c r.0) (with_right_credits c (cells_of v.right)) (λ e. r.1.sum e c) d);
      },
    )

pub beside_open : (v : Level) (c : Credit) → (are_shut (left_cells v.left) && are_shut (cells_of v.right)) ≡ false → all_closed v c ≡ None
beside_open v c s = by_parts (left_sums v.left) (right_sums v.right)
  where
    by_parts : (((total : Credit) × IsLeftSum v.left total) ⊎ IsLeftOpen v.left) → (((total : Credit) × IsRightSum v.right total) ⊎ IsRightOpen v.right)
        → all_closed v c ≡ None
    by_parts (inr o) r = ap (λ (p : Option Credit). and_then (and_then p (Some c)) (all_right v.right)) o.all
    by_parts (inl l) (inr o) = ap (λ (p : Option Credit). and_then (and_then (all_left v.left) (Some c)) p) o.all ∙ none_after (and_then (all_left v.left) (Some c))
    by_parts (inl l) (inl r) = absurd (let z : (true && true) ≡ false = ap (λ (b : Bool). true && b) (sym r.1.shut)
        ∙ (ap (λ (b : Bool). b && are_shut (cells_of v.right)) (sym l.1.shut) ∙ s) in cc z)
