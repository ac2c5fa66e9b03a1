-- Records in batches.
use Rattle.std.specs.Prelude.{◌≡◌, ◌<◌, ◌++◌, List, [], ◌∷◌, Option, Some, None, length}
use Rattle.au_term.specs.Term.{Term}

-- the records of all batches, in order
abbrev pub batched_terms : List (List Term) → List Term
batched_terms [] = []
batched_terms (p ∷ ps) = p ++ batched_terms ps

-- with another in place of a last batch there are the same records, in fewer batches
pub record AreMerged (old new : List (List Term)) (last next : List Term) : Type 0 where
  pub same : batched_terms new ++ next ≡ batched_terms old ++ last
  pub fewer : length new < length old

abbrev pub IsMergeStep : List (List Term) → List (List Term) → List Term → Option (List Term) → Type 0
IsMergeStep old new last None = new ≡ old
IsMergeStep old new last (Some next) = AreMerged old new last next
