-- Sizes filled in from the last cell to the first, and the places of arguments that they give.
use Rattle.std.proofs.Common.{◌≡◌, ℕ, suc, ◌+◌, ◌-◌, ◌<◌, List, ◌∷◌, length, drop, set, sym, ap, ap₂, ◌∙◌, arith, subst, get_or, length-drop}
use Rattle.std.proofs.lemmas.List.{drop_more, drop-set, drop-drop}
use Rattle.au_term.specs.Term.{count, take_terms, argument, argument_count}
use Rattle.au_term.specs.PrefixOrder.{all_cells, arity, terms_of, term_of, IsForest}
use Rattle.au_term.specs.SubtermSizes.{all_sizes, HasSizes}
use Rattle.au_term.specs.declared.cell.Cell.{Cell}
use Rattle.au_term.specs.declared.cell.Cell.TheVariants.{Var as VarCell}
use Rattle.au_term.proofs.SubtermLemmas.{Opens, opens, forest_from, inside}
use Rattle.au_term.proofs.SubtermSizeLemmas.{sizes-with_cell, sizes_from}

-- the cells from a place on
pub opened : (cells : List Cell) (k : ℕ) (c : Cell) → k < length cells → c ≡ get_or cells k c → drop k cells ≡ c ∷ drop (k + 1) cells
opened cells k c lt is = drop_more cells k c lt ∙ ap (λ d. d ∷ drop (k + 1) cells) (sym is)

pub opens_at : (cells : List Cell) (k : ℕ) (c : Cell) → IsForest cells → k < length cells → c ≡ get_or cells k c → Opens c (drop (k + 1) cells)
opens_at cells k c f lt is = opens c (drop (k + 1) cells) (subst IsForest (opened cells k c lt is) (forest_from cells k f))

pub has_next : (cells : List Cell) (sizes : List ℕ) (at k number : ℕ) (c : Cell) → IsForest cells → at ≡ k + 1 → k < length cells → c ≡ get_or cells k c → number ≡ arity c
    → drop at sizes ≡ all_sizes (terms_of (drop at cells)) → HasSizes sizes at number (terms_of (drop at cells))
has_next cells sizes at k number c f e lt is n h =
    let o = opens_at cells k c f lt is in
    record { from = h; enough = omega (arith, o.enough, ap (λ i. count (terms_of (drop i cells))) e) }

fills_next : (cells : List Cell) (sizes : List ℕ) (k number stop : ℕ) (c : Cell) → k < length cells → k < length sizes → c ≡ get_or cells k c → number ≡ arity c
    → drop (k + 1) sizes ≡ all_sizes (terms_of (drop (k + 1) cells)) → stop ≡ k + 1 + length (all_cells (take_terms number (terms_of (drop (k + 1) cells))))
    → drop k (set sizes k (stop - k)) ≡ all_sizes (terms_of (drop k cells))
fills_next cells sizes k number stop c lt few is n h e =
    let ts = terms_of (drop (k + 1) cells) in
    let size : stop - k ≡ suc (length (all_cells (take_terms (arity c) ts))) = omega (arith, e, ap (λ m. length (all_cells (take_terms m ts))) n) in
    drop-set sizes k (stop - k) few ∙ (ap₂ (λ s ss. s ∷ ss) size h ∙ (sym (sizes-with_cell c ts) ∙ ap (λ cs. all_sizes (terms_of cs)) (sym (opened cells k c lt is))))

pub fills : (cells : List Cell) (sizes : List ℕ) (at k number stop : ℕ) (c : Cell) → at ≡ k + 1 → k < length cells → k < length sizes → c ≡ get_or cells k c → number ≡ arity c
    → drop at sizes ≡ all_sizes (terms_of (drop at cells)) → stop ≡ at + length (all_cells (take_terms number (terms_of (drop at cells))))
    → drop k (set sizes k (stop - k)) ≡ all_sizes (terms_of (drop k cells))
fills cells sizes at k number stop c e lt few is n h s =
    subst
    (λ i. drop i sizes ≡ all_sizes (terms_of (drop i cells)) → stop ≡ i + length (all_cells (take_terms number (terms_of (drop i cells)))) → drop k (set sizes k (stop - k)) ≡ all_sizes (terms_of (drop k cells)))
    (sym e)
    (fills_next cells sizes k number stop c lt few is n)
    h
    s

-- where an argument of the subterm at a place begins
pub record Argument (cells : List Cell) (sizes : List ℕ) (at i : ℕ) : Type 0 where
  pub has : HasSizes sizes (at + 1) i (terms_of (drop (at + 1) cells))
  pub within : at + 1 + length (all_cells (take_terms i (terms_of (drop (at + 1) cells)))) < length cells
  pub is : term_of (drop (at + 1 + length (all_cells (take_terms i (terms_of (drop (at + 1) cells))))) cells) ≡ argument i (term_of (drop at cells))

argument_of : (cells : List Cell) (sizes : List ℕ) (at i : ℕ) (c : Cell) → IsForest cells → sizes ≡ all_sizes (terms_of cells) → drop at cells ≡ c ∷ drop (at + 1) cells → i < argument_count (term_of (drop at cells)) → Argument cells sizes at i
argument_of cells sizes at i c f s e few =
    let n = inside c (drop (at + 1) cells) i (subst IsForest e (forest_from cells at f)) (subst (λ cs. i < argument_count (term_of cs)) e few) in
    let k = length (all_cells (take_terms i (terms_of (drop (at + 1) cells)))) in
    record {
      has = record { from = ap (drop (at + 1)) s ∙ sizes_from cells (at + 1); enough = omega (arith, n.enough) };
      within = omega (arith, n.within, length-drop (at + 1) cells);
      is = ap term_of (sym (drop-drop k (at + 1) cells)) ∙ (n.is ∙ ap (λ cs. argument i (term_of cs)) (sym e));
    }

pub argument_at : (cells : List Cell) (sizes : List ℕ) (at i : ℕ) → IsForest cells → sizes ≡ all_sizes (terms_of cells) → at < length cells → i < argument_count (term_of (drop at cells)) → Argument cells sizes at i
argument_at cells sizes at i f s lt few = argument_of cells sizes at i (get_or cells at (VarCell 0)) f s (drop_more cells at (VarCell 0) lt) few
