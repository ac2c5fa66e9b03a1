-- Cells after their arguments, taken from the end, are turned.
use Rattle.std.proofs.Common.{◌≡◌, ◌∙◌, ℕ, suc, ◌+◌, ◌-◌, ◌≤◌, ◌<◌, List, [], ◌∷◌, ◌++◌, length, reverse, refl, sym, ap, arith, append_assoc, append-nil}
use Rattle.std.proofs.lemmas.List.{reverse-append}
use Rattle.au_term.specs.Term.{Term, VarTerm, IntTerm, AtomTerm, Compound, Terms, end, more, count}
use Rattle.au_term.specs.PrefixOrder.{cells_of, all_cells, arity}
use Rattle.au_term.specs.declared.cell.Cell.{Cell}
use Rattle.au_term.specs.declared.cell.Cell.TheVariants.{Var as VarCell, Int as IntCell, Atom as AtomCell, Functor}
use Rattle.term_reader.specs.declared.order.Pending.{Pending}
use Rattle.term_reader.specs.PostorderLevels.{IsReordering, IsCompleting}
use Rattle.term_reader.specs.Postorder.{postorder, all_postorder, back_post, back_pre, Levels, base, level, posts, finals, pending_compound, lower_levels_pending, levels_pending, IsBusy}

-- lists that end with one item
pub snoc-front : {A : Type 0} (xs ys : List A) (x y : A) → xs ++ x ∷ [] ≡ ys ++ y ∷ [] → xs ≡ ys
snoc-front [] [] x y e = refl
snoc-front [] (z ∷ []) x y e = let f : ⊥ = cc in absurd f
snoc-front [] (z ∷ w ∷ zs) x y e = let f : ⊥ = cc in absurd f
snoc-front (z ∷ []) [] x y e = let f : ⊥ = cc in absurd f
snoc-front (z ∷ w ∷ zs) [] x y e = let f : ⊥ = cc in absurd f
snoc-front (z ∷ xs) (w ∷ ys) x y e =
    let head : z ≡ w = cc in
    let tail : xs ++ x ∷ [] ≡ ys ++ y ∷ [] = cc in
    let rest = snoc-front xs ys x y tail in cc

pub snoc-last : {A : Type 0} (xs ys : List A) (x y : A) → xs ++ x ∷ [] ≡ ys ++ y ∷ [] → x ≡ y
snoc-last [] [] x y e = cc
snoc-last [] (z ∷ []) x y e = let f : ⊥ = cc in absurd f
snoc-last [] (z ∷ w ∷ zs) x y e = let f : ⊥ = cc in absurd f
snoc-last (z ∷ []) [] x y e = let f : ⊥ = cc in absurd f
snoc-last (z ∷ w ∷ zs) [] x y e = let f : ⊥ = cc in absurd f
snoc-last (z ∷ xs) (w ∷ ys) x y e = let tail : xs ++ x ∷ [] ≡ ys ++ y ∷ [] = cc in snoc-last xs ys x y tail

pub snoc-none : {A : Type 0} (xs : List A) (x : A) → xs ++ x ∷ [] ≡ [] → ⊥
snoc-none [] x e = cc
snoc-none (y ∷ xs) x e = cc

-- terms, the last first
abbrev back_terms : Terms → List Term → List Term
back_terms end ts = ts
back_terms (more t us) ts = back_terms us (t ∷ ts)

back_terms-length : (us : Terms) (ts : List Term) → length (back_terms us ts) ≡ count us + length ts
back_terms-length end ts = omega arith
back_terms-length (more t us) ts = omega (arith, back_terms-length us (t ∷ ts))

back_terms-post : (us : Terms) (ts : List Term) → back_post (back_terms us ts) ≡ back_post ts ++ all_postorder us
back_terms-post end ts = sym (append-nil (back_post ts))
back_terms-post (more t us) ts = back_terms-post us (t ∷ ts) ∙ append_assoc (back_post ts) (postorder t) (all_postorder us)

back_terms-pre : (us : Terms) (ts : List Term) → back_pre (back_terms us ts) ≡ back_pre ts ++ all_cells us
back_terms-pre end ts = sym (append-nil (back_pre ts))
back_terms-pre (more t us) ts = back_terms-pre us (t ∷ ts) ∙ append_assoc (back_pre ts) (cells_of t) (all_cells us)

-- the last cell of a term
pub record LastCell (t : Term) (c : Cell) : Type 0 where
  pub front : List Cell
  pub is : postorder t ≡ front ++ c ∷ []

some_last : (t : Term) → (c : Cell) × LastCell t c
some_last (VarTerm n) = (VarCell n, record { front = []; is = refl })
some_last (IntTerm z) = (IntCell z, record { front = []; is = refl })
some_last (AtomTerm a) = (AtomCell a, record { front = []; is = refl })
some_last (Compound f ts) = (Functor f (count ts), record { front = all_postorder ts; is = refl })

-- the term whose last cell comes next, and what is to come without it
pub record Taken (ls : Levels) (rest : List Cell) (c : Cell) : Type 0 where
  pub term : Term
  pub levels : Levels
  pub waiting : levels_pending ls ≡ lower_levels_pending levels
  pub cells : rest ++ c ∷ [] ≡ posts levels ++ postorder term
  pub all : (cs : List Cell) → finals ls cs ≡ finals levels (cells_of term ++ cs)

pub taken : (ls : Levels) (rest : List Cell) (c : Cell) → IsBusy ls → posts ls ≡ rest ++ c ∷ [] → Taken ls rest c
taken (base []) rest c b e = absurd (snoc-none rest c (sym e))
taken (base (t ∷ ts)) rest c b e = record { term = t; levels = base ts; waiting = refl; cells = sym e; all = λ cs. append_assoc (back_pre ts) (cells_of t) cs }
taken (level [] f ls) rest c b e = absurd (omega arith)
taken (level (t ∷ ts) f ls) rest c b e = record {
  term = t;
  levels = level ts f ls;
  waiting = refl;
  cells = sym e ∙ sym (append_assoc (posts ls) (back_post ts) (postorder t));
  all = λ cs. ap (λ ds. finals ls (f ∷ ds)) (append_assoc (back_pre ts) (cells_of t) cs);
}

-- it has no arguments
pub record IsSingle (t : Term) (levels : Levels) (rest : List Cell) (c : Cell) : Type 0 where
  pub rest_is : rest ≡ posts levels
  pub cells_are : cells_of t ≡ c ∷ []

pub single : (t : Term) (levels : Levels) (rest : List Cell) (c : Cell) → rest ++ c ∷ [] ≡ posts levels ++ postorder t → arity c ≡ 0 → IsSingle t levels rest c
single (VarTerm n) levels rest c e a = record { rest_is = snoc-front _ _ _ _ e; cells_are = ap (λ d. d ∷ []) (sym (snoc-last _ _ _ _ e)) }
single (IntTerm n) levels rest c e a = record { rest_is = snoc-front _ _ _ _ e; cells_are = ap (λ d. d ∷ []) (sym (snoc-last _ _ _ _ e)) }
single (AtomTerm n) levels rest c e a = record { rest_is = snoc-front _ _ _ _ e; cells_are = ap (λ d. d ∷ []) (sym (snoc-last _ _ _ _ e)) }
single (Compound f end) levels rest c e a = record { rest_is = snoc-front _ _ _ _ e; cells_are = ap (λ d. d ∷ []) (sym (snoc-last _ _ _ _ e)) }
single (Compound f (more t ts)) levels rest c e a =
    let k : rest ++ c ∷ [] ≡ (posts levels ++ all_postorder (more t ts)) ++ Functor f (suc (count ts)) ∷ [] = e ∙ sym (append_assoc (posts levels) (all_postorder (more t ts)) (Functor f (suc (count ts)) ∷ [])) in
    let same = snoc-last _ _ _ _ k in
    let n : arity c ≡ suc (count ts) = ap arity same in absurd (omega arith)

-- it has some
pub record HasMore (t : Term) (levels : Levels) (rest : List Cell) (c : Cell) : Type 0 where
  pub terms : List Term
  pub number : length terms ≡ arity c
  pub rest_is : rest ≡ posts levels ++ back_post terms
  pub cells_are : cells_of t ≡ c ∷ back_pre terms

no_arguments : {A : Type 0} (c d : Cell) → c ≡ d → arity d ≡ 0 → 0 < arity c → A
no_arguments c d e a lt = let n : arity c ≡ arity d = ap arity e in absurd (omega arith)

pub has_more : (t : Term) (levels : Levels) (rest : List Cell) (c : Cell) → rest ++ c ∷ [] ≡ posts levels ++ postorder t → 0 < arity c → HasMore t levels rest c
has_more (VarTerm n) levels rest c e lt = no_arguments c (VarCell n) (snoc-last _ _ _ _ e) refl lt
has_more (IntTerm n) levels rest c e lt = no_arguments c (IntCell n) (snoc-last _ _ _ _ e) refl lt
has_more (AtomTerm n) levels rest c e lt = no_arguments c (AtomCell n) (snoc-last _ _ _ _ e) refl lt
has_more (Compound f ts) levels rest c e lt =
    let k : rest ++ c ∷ [] ≡ (posts levels ++ all_postorder ts) ++ Functor f (count ts) ∷ [] = e ∙ sym (append_assoc (posts levels) (all_postorder ts) (Functor f (count ts) ∷ [])) in
    let same : c ≡ Functor f (count ts) = snoc-last _ _ _ _ k in
    let n : arity c ≡ count ts = ap arity same in
    record {
      terms = back_terms ts [];
      number = omega (arith, back_terms-length ts [], n);
      rest_is = snoc-front _ _ _ _ k ∙ ap (λ cs. posts levels ++ cs) (sym (back_terms-post ts []));
      cells_are = ap (λ d. d ∷ all_cells ts) (sym same) ∙ ap (λ cs. c ∷ cs) (sym (back_terms-pre ts []));
    }

-- nothing is to come any more
pub none_left : (ls : Levels) → IsBusy ls → posts ls ≡ [] → (cs : List Cell) → finals ls cs ≡ cs
none_left (base []) b e cs = refl
none_left (base (t ∷ ts)) b e cs =
    let l = some_last t in
    let k : (back_post ts ++ l.1.front) ++ l.0 ∷ [] ≡ [] = append_assoc (back_post ts) l.1.front (l.0 ∷ []) ∙ (ap (λ ds. back_post ts ++ ds) (sym l.1.is) ∙ e) in
    absurd (snoc-none _ _ k)
none_left (level [] f ls) b e cs = absurd (omega arith)
none_left (level (t ∷ ts) f ls) b e cs =
    let l = some_last t in
    let k : (posts ls ++ (back_post ts ++ l.1.front)) ++ l.0 ∷ [] ≡ [] =
    append_assoc (posts ls) (back_post ts ++ l.1.front) (l.0 ∷ []) ∙ (ap (λ ds. posts ls ++ ds) (append_assoc (back_post ts) l.1.front (l.0 ∷ []) ∙ ap (λ ds. back_post ts ++ ds) (sym l.1.is)) ∙ e) in
    absurd (snoc-none _ _ k)

pub turns-start : (t : Term) → IsReordering (postorder t) [] [] (cells_of t)
turns-start t = record { levels = base (t ∷ []); opened = refl; busy = tt; left = refl; come = append-nil (cells_of t) }

pub turns-single : (rest : List Cell) (c : Cell) (stack : List Pending) (out whole : List Cell) → IsReordering (rest ++ c ∷ []) stack out whole → arity c ≡ 0 → IsCompleting rest stack (out ++ c ∷ []) whole
turns-single rest c stack out whole h a =
    let k = taken h.levels rest c h.busy (sym h.left) in
    let m = single k.term k.levels rest c k.cells a in
    record {
      levels = k.levels;
      opened = h.opened ∙ k.waiting;
      left = m.rest_is;
      come = ap (finals k.levels) (reverse-append out (c ∷ []) ∙ ap (λ ds. ds ++ reverse out) (sym m.cells_are)) ∙ (sym (k.all (reverse out)) ∙ h.come);
    }

pub turns-more : (rest : List Cell) (c : Cell) (stack : List Pending) (out whole : List Cell) → IsReordering (rest ++ c ∷ []) stack out whole → 0 < arity c → IsReordering rest (stack ++ pending_compound c (arity c) ∷ []) out whole
turns-more rest c stack out whole h lt =
    let k = taken h.levels rest c h.busy (sym h.left) in
    let m = has_more k.term k.levels rest c k.cells lt in
    record {
      levels = level m.terms c k.levels;
      opened = ap (λ ps. ps ++ pending_compound c (arity c) ∷ []) (h.opened ∙ k.waiting) ∙ ap (λ n. lower_levels_pending k.levels ++ pending_compound c n ∷ []) (sym m.number);
      busy = omega (arith, m.number);
      left = m.rest_is;
      come = ap (λ ds. finals k.levels (ds ++ reverse out)) (sym m.cells_are) ∙ (sym (k.all (reverse out)) ∙ h.come);
    }

pub turns-over : (stack : List Pending) (out whole : List Cell) → IsReordering [] stack out whole → reverse out ≡ whole
turns-over stack out whole h = sym (none_left h.levels h.busy (sym h.left) (reverse out)) ∙ h.come

no_under : (ls : Levels) → lower_levels_pending ls ≡ [] → (ts : List Term) × (ls ≡ base ts)
no_under (base ts) e = (ts, refl)
no_under (level ts c ls) e = absurd (snoc-none (lower_levels_pending ls) (pending_compound c (suc (length ts))) e)

-- no compound is open
pub completes-over : (cells : List Cell) (stack : List Pending) (out whole : List Cell) → IsCompleting cells stack out whole → stack ≡ [] → IsReordering cells stack out whole
completes-over cells stack out whole h e =
    let k = no_under h.levels (sym h.opened ∙ e) in
    record {
      levels = base k.0;
      opened = e;
      busy = tt;
      left = h.left ∙ ap posts k.1;
      come = ap (λ ls. finals ls (reverse out)) (sym k.1) ∙ h.come;
    }

-- the last compound that is open
pub record Inner (ls : Levels) (below : List Pending) (p : Pending) : Type 0 where
  pub terms : List Term
  pub cell : Cell
  pub outer : Levels
  pub is : ls ≡ level terms cell outer
  pub pending_is : p ≡ pending_compound cell (suc (length terms))
  pub below_is : below ≡ lower_levels_pending outer

pub inner : (ls : Levels) (below : List Pending) (p : Pending) → lower_levels_pending ls ≡ below ++ p ∷ [] → Inner ls below p
inner (base ts) below p e = absurd (snoc-none below p (sym e))
inner (level ts c ls) below p e = record { terms = ts; cell = c; outer = ls; is = refl; pending_is = sym (snoc-last _ _ _ _ e); below_is = sym (snoc-front _ _ _ _ e) }

-- it waits for more
pub completes-waits : (cells : List Cell) (below : List Pending) (c : Cell) (n : ℕ) (out whole : List Cell) → IsCompleting cells (below ++ pending_compound c n ∷ []) out whole → 1 < n
    → IsReordering cells (below ++ pending_compound c (n - 1) ∷ []) out whole
completes-waits cells below c n out whole h lt =
    let k = inner h.levels below (pending_compound c n) (sym h.opened) in
    let number : n ≡ suc (length k.terms) = ap (λ p. p.left) k.pending_is in
    let same : c ≡ k.cell = ap (λ p. p.cell) k.pending_is in
    let less : n - 1 ≡ length k.terms = omega arith in
    record {
      levels = level k.terms k.cell k.outer;
      opened = ap (λ ps. ps ++ pending_compound c (n - 1) ∷ []) k.below_is ∙ (ap (λ d. lower_levels_pending k.outer ++ pending_compound d (n - 1) ∷ []) same ∙ ap (λ m. lower_levels_pending k.outer ++ pending_compound k.cell m ∷ []) less);
      busy = omega arith;
      left = h.left ∙ ap posts k.is;
      come = ap (λ ls. finals ls (reverse out)) (sym k.is) ∙ h.come;
    }

pub no_items : {A : Type 0} (xs : List A) → length xs ≡ 0 → xs ≡ []
no_items [] e = refl
no_items (x ∷ xs) e = absurd (omega arith)

-- it is complete too
pub completes-more : (cells : List Cell) (below : List Pending) (c : Cell) (n : ℕ) (out whole : List Cell) → IsCompleting cells (below ++ pending_compound c n ∷ []) out whole → n ≤ 1
    → IsCompleting cells below (out ++ c ∷ []) whole
completes-more cells below c n out whole h le =
    let k = inner h.levels below (pending_compound c n) (sym h.opened) in
    let number : n ≡ suc (length k.terms) = ap (λ p. p.left) k.pending_is in
    let same : c ≡ k.cell = ap (λ p. p.cell) k.pending_is in
    let none : k.terms ≡ [] = no_items k.terms (omega arith) in
    let shape : h.levels ≡ level [] k.cell k.outer = k.is ∙ ap (λ ts. level ts k.cell k.outer) none in
    record {
      levels = k.outer;
      opened = k.below_is;
      left = h.left ∙ (ap posts shape ∙ append-nil (posts k.outer));
      come = ap (finals k.outer) (reverse-append out (c ∷ []) ∙ ap (λ d. d ∷ reverse out) same) ∙ (ap (λ ls. finals ls (reverse out)) (sym shape) ∙ h.come);
    }
