-- What is open can always be completed.
use Rattle.std.proofs.Common.{◌≡◌, ℕ, ◌≤◌, true, false, List, [], ◌∷◌, refl, arith}
use Rattle.au_model.specs.Syntax.Tokens.{Token, token, Variable, Close, CloseList, CloseCurly, End}
use Rattle.au_model.specs.Syntax.Trees.{Tree, VarTree, AtomTree, CompoundTree, no_trees, one, two}
use Rattle.au_model.specs.Terms.Forms.{nil_name, braces_name}
use Rattle.au_model.specs.Syntax.Primaries.{Setting}
use Rattle.term_reader.specs.LeftToRight.{Stop, next_operator}
use Rattle.term_reader.specs.Completion.{OpenFrame, Round, Braces, ItemOf, TailOf, ArgumentOf, PrefixOf, InfixOf, bound_of, list_tree, trees_of, CompletesAfter, CompletesFrame, over, round, braced, last, tail, final, prefix, infixes}
use Rattle.term_reader.specs.FrameShapes.{IsWithinBounds}
use Rattle.term_reader.specs.Positions.{Position, ExpectsOperand, AfterOperand, Completes, open_frames, IsWithinBound}
use Rattle.term_reader.proofs.CompletionStepLemmas.{went_stop, took_leaf}

abbrev pub closing : List OpenFrame → List Token
closing [] = token true End ∷ []
closing (Round ∷ k) = token false Close ∷ closing k
closing (Braces ∷ k) = token false CloseCurly ∷ closing k
closing (ItemOf ts ∷ k) = token false CloseList ∷ closing k
closing (TailOf ts ∷ k) = token false CloseList ∷ closing k
closing (ArgumentOf n w ts ∷ k) = token false Close ∷ closing k
closing (PrefixOf n o ∷ k) = closing k
closing (InfixOf n o l ∷ k) = closing k

-- the tokens that complete what is read at a position
abbrev pub completion : Position → List Token
completion (ExpectsOperand k) = token true (Variable []) ∷ closing k
completion (AfterOperand k l p) = closing k

module _ (s : Setting) where
  next-closing : (b p : ℕ) (k : List OpenFrame) → next_operator s.ops b p (closing k) ≡ Stop
  next-closing b p [] = refl
  next-closing b p (Round ∷ k) = refl
  next-closing b p (Braces ∷ k) = refl
  next-closing b p (ItemOf ts ∷ k) = refl
  next-closing b p (TailOf ts ∷ k) = refl
  next-closing b p (ArgumentOf n w ts ∷ k) = refl
  next-closing b p (PrefixOf n o ∷ k) = next-closing b p k
  next-closing b p (InfixOf n o l ∷ k) = next-closing b p k

  pub plugged : (k : List OpenFrame) (l goal : Tree) (p : ℕ) → p ≤ bound_of k → CompletesFrame s k (closing k) l goal → CompletesAfter s k (closing k) l p goal
  plugged k l goal p le q = went_stop s (closing k) l p (next-closing (bound_of k) p k) le q

  unfoldable pub closes : (k : List OpenFrame) → IsWithinBounds k → (l : Tree) (p : ℕ) → p ≤ bound_of k → (goal : Tree) × CompletesAfter s k (closing k) l p goal
  closes [] h l p le = (l, plugged [] l l p le over)
  closes (Round ∷ k) h l p le = let r = closes k h l 0 (omega arith) in (r.0, plugged (Round ∷ k) l r.0 p le (round r.1))
  closes (Braces ∷ k) h l p le = let r = closes k h (one braces_name l) 0 (omega arith) in (r.0, plugged (Braces ∷ k) l r.0 p le (braced r.1))
  closes (ItemOf ts ∷ k) h l p le = let r = closes k h (list_tree (l ∷ ts) (AtomTree nil_name)) 0 (omega arith) in (r.0, plugged (ItemOf ts ∷ k) l r.0 p le (last r.1))
  closes (TailOf ts ∷ k) h l p le = let r = closes k h (list_tree ts l) 0 (omega arith) in (r.0, plugged (TailOf ts ∷ k) l r.0 p le (tail r.1))
  closes (ArgumentOf n w ts ∷ k) h l p le = let r = closes k h.1 (CompoundTree n (trees_of (l ∷ ts) no_trees)) 0 (omega arith) in (r.0, plugged (ArgumentOf n w ts ∷ k) l r.0 p le (final r.1))
  closes (PrefixOf n o ∷ k) h l p le = let r = closes k h.1 (one n l) o.priority h.0 in (r.0, plugged (PrefixOf n o ∷ k) l r.0 p le (prefix r.1))
  closes (InfixOf n o m ∷ k) h l p le = let r = closes k h.1 (two n m l) o.priority h.0 in (r.0, plugged (InfixOf n o m ∷ k) l r.0 p le (infixes r.1))

  pub completes : (x : Position) → IsWithinBounds (open_frames x) → IsWithinBound x → (goal : Tree) × Completes s x (completion x) goal
  completes (ExpectsOperand k) h le = let r = closes k h (VarTree []) 0 (omega arith) in (r.0, took_leaf s (token true (Variable []) ∷ closing k) (closing k) (VarTree []) refl r.1)
  completes (AfterOperand k l p) h le = closes k h l p le
