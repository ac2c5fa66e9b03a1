-- Frames that are taken off and put on, and operators put over their operands.
use Rattle.std.proofs.Common.{◌≡◌, ◌∙◌, ℕ, suc, ◌-◌, ◌≤◌, false, List, [], ◌∷◌, ◌++◌, length, map, slice_get, Option, Some, None, option_map, refl, sym, ap, subst, arith}
use Rattle.std.proofs.lemmas.List.{map-append}
use Rattle.au_model.specs.Syntax.Operators.{Operator, OperatorTable}
use Rattle.au_model.specs.Syntax.Tokens.{Token}
use Rattle.au_model.specs.Syntax.Trees.{Tree, one, two}
use Rattle.au_model.specs.Syntax.PostOperators.{PostOperator, Nothing, right_bound, post_operator_fits}
use Rattle.au_model.specs.Syntax.Primaries.{Setting}
use Rattle.au_term.specs.declared.cell.Cell.TheVariants.{Functor}
use Rattle.term_reader.specs.Completion as stack
use Rattle.term_reader.specs.Completion.{bound_of, prefix, infixes}
use Rattle.term_reader.specs.LeftToRight.{Stop, next_operator}
use Rattle.term_reader.specs.FrameShapes.{Shape, PrefixShape, InfixShape, frame_meant, shape_of, shapes_up, shape_bound, emitted_stack, HasNoOperatorOnTop}
use Rattle.term_reader.specs.TermOutput.{emit_tree, emit_cell}
use Rattle.term_reader.specs.OutputView.{IsOutputOf}
use Rattle.term_reader.specs.Positions.{IsAtPosition, AfterOperand}
use Rattle.term_reader.specs.OperatorReductions.{first_post_operator, ReadSame, IsReducedOnce}
use Rattle.term_reader.specs.declared.state.State.{State}
use Rattle.term_reader.specs.declared.state.Frame.{Frame}
use Rattle.term_reader.specs.declared.state.Frame.TheVariants as frame
use Rattle.op_table.specs.declared.operator.Operator.{Operator as DeclaredOperator}
use Rattle.term_reader.proofs.PostorderLemmas.{snoc-front, snoc-last, snoc-none}
use Rattle.term_reader.proofs.SpellingIsReadingLemmas.{next-stop}
use Rattle.term_reader.proofs.CompletionStepLemmas.{goes_stop, went_stop, out_prefix, out_infix}

-- a frame that is put on
pub shapes-push : (xs : List Frame) (x : Frame) (k : List stack.OpenFrame) (f : stack.OpenFrame) → map frame_meant xs ≡ shapes_up k → frame_meant x ≡ shape_of f
    → map frame_meant (xs ++ x ∷ []) ≡ shapes_up (f ∷ k)
shapes-push xs x k f e h = map-append frame_meant xs (x ∷ []) ∙ (ap (λ ys. ys ++ frame_meant x ∷ []) e ∙ ap (λ y. shapes_up k ++ y ∷ []) h)

-- a frame that is taken off
pub record Popped (k : List stack.OpenFrame) (xs : List Frame) (x : Frame) : Type 0 where
  pub top : stack.OpenFrame
  pub below : List stack.OpenFrame
  pub is : k ≡ top ∷ below
  pub shape : shape_of top ≡ frame_meant x
  pub rest : map frame_meant xs ≡ shapes_up below

pub popped : (k : List stack.OpenFrame) (xs : List Frame) (x : Frame) → map frame_meant (xs ++ x ∷ []) ≡ shapes_up k → Popped k xs x
popped [] xs x e = absurd (snoc-none (map frame_meant xs) (frame_meant x) (sym (map-append frame_meant xs (x ∷ [])) ∙ e))
popped (f ∷ k) xs x e =
    let h = sym (map-append frame_meant xs (x ∷ [])) ∙ e in
    record { top = f; below = k; is = refl; shape = sym (snoc-last _ _ _ _ h); rest = snoc-front _ _ _ _ h }

pub no_frames : (k : List stack.OpenFrame) → [] ≡ shapes_up k → k ≡ []
no_frames [] e = refl
no_frames (f ∷ k) e = absurd (snoc-none (shapes_up k) (shape_of f) (sym e))

pub top-bound : (f : stack.OpenFrame) (k : List stack.OpenFrame) → bound_of (f ∷ k) ≡ shape_bound (shape_of f)
top-bound stack.Round k = refl
top-bound stack.Braces k = refl
top-bound (stack.ItemOf ts) k = refl
top-bound (stack.TailOf ts) k = refl
top-bound (stack.ArgumentOf n w ts) k = refl
top-bound (stack.PrefixOf n o) k = refl
top-bound (stack.InfixOf n o l) k = refl

-- the last frame
last_of : {A : Type 0} → List A → Option A
last_of [] = None
last_of (x ∷ []) = Some x
last_of (x ∷ y ∷ ys) = last_of (y ∷ ys)

last-get : {A : Type 0} (xs : List A) → slice_get xs (length xs - 1) ≡ last_of xs
unfolding last_of
last-get [] = refl
last-get (x ∷ []) = refl
last-get (x ∷ y ∷ ys) = let e : length (x ∷ y ∷ ys) - 1 ≡ suc (length (y ∷ ys) - 1) = omega arith in rw e (last-get (y ∷ ys))

last-map : {A B : Type 0} (f : A → B) (xs : List A) → option_map f (last_of xs) ≡ last_of (map f xs)
unfolding last_of
last-map f [] = refl
last-map f (x ∷ []) = refl
last-map f (x ∷ y ∷ ys) = last-map f (y ∷ ys)

last-snoc : {A : Type 0} (xs : List A) (x : A) → last_of (xs ++ x ∷ []) ≡ Some x
unfolding last_of
last-snoc [] x = refl
last-snoc (y ∷ []) x = refl
last-snoc (y ∷ z ∷ zs) x = last-snoc (z ∷ zs) x

abbrev top_shape : List stack.OpenFrame → Option Shape
top_shape [] = None
top_shape (f ∷ k) = Some (shape_of f)

last-shape : (xs : List Frame) (k : List stack.OpenFrame) → map frame_meant xs ≡ shapes_up k → option_map frame_meant (slice_get xs (length xs - 1)) ≡ top_shape k
unfolding last_of
last-shape xs [] e = ap (option_map frame_meant) (last-get xs) ∙ (last-map frame_meant xs ∙ ap last_of e)
last-shape xs (f ∷ k) e = ap (option_map frame_meant) (last-get xs) ∙ (last-map frame_meant xs ∙ (ap last_of e ∙ last-snoc (shapes_up k) (shape_of f)))

some_none : {A : Type 0} (s : Shape) → Some s ≡ None → A
some_none s e = let f : ⊥ = cc in absurd f

none_some : {A : Type 0} (s : Shape) → None ≡ Some s → A
none_some s e = let f : ⊥ = cc in absurd f

pub bound-some : (xs : List Frame) (k : List stack.OpenFrame) (x : Frame) → map frame_meant xs ≡ shapes_up k → slice_get xs (length xs - 1) ≡ Some x → shape_bound (frame_meant x) ≡ bound_of k
bound-some xs [] x e h = some_none (frame_meant x) (ap (option_map frame_meant) (sym h) ∙ last-shape xs [] e)
bound-some xs (f ∷ k) x e h =
    let same : Some (frame_meant x) ≡ Some (shape_of f) = ap (option_map frame_meant) (sym h) ∙ last-shape xs (f ∷ k) e in
    let s : frame_meant x ≡ shape_of f = cc in
    ap shape_bound s ∙ sym (top-bound f k)

pub bound-none : (xs : List Frame) (k : List stack.OpenFrame) → map frame_meant xs ≡ shapes_up k → slice_get xs (length xs - 1) ≡ None → 1200 ≡ bound_of k
bound-none xs [] e h = refl
bound-none xs (f ∷ k) e h = none_some (shape_of f) (ap (option_map frame_meant) (sym h) ∙ last-shape xs (f ∷ k) e)

-- an operand stops in front of a post-operator that does not fit
pub stops-at : (ops : OperatorTable) (bound p : ℕ) (ts : List Token) (j : PostOperator) → first_post_operator ops ts ≡ j → post_operator_fits bound p j ≡ false → next_operator ops bound p ts ≡ Stop
stops-at ops bound p [] j e h = refl
stops-at ops bound p (t ∷ ts) j e h = next-stop ops bound p (t ∷ ts) (ap (post_operator_fits bound p) e ∙ h)

pub over-prefix : (s : Setting) (j : PostOperator) (k : List stack.OpenFrame) (n : List ℕ) (o : Operator) (l : Tree) (p : ℕ) → p ≤ right_bound o → post_operator_fits (right_bound o) p j ≡ false
    → ReadSame s j (stack.PrefixOf n o ∷ k) l p k (one n l) o.priority
over-prefix s j k n o l p le h = record {
  to = λ ts goal e g. out_prefix s (goes_stop s ts l p (stops-at s.ops (right_bound o) p ts j e h) g);
  back = λ ts goal e g. went_stop s ts l p (stops-at s.ops (right_bound o) p ts j e h) le (prefix g);
}

pub over-infix : (s : Setting) (j : PostOperator) (k : List stack.OpenFrame) (n : List ℕ) (o : Operator) (m l : Tree) (p : ℕ) → p ≤ right_bound o → post_operator_fits (right_bound o) p j ≡ false
    → ReadSame s j (stack.InfixOf n o m ∷ k) l p k (two n m l) o.priority
over-infix s j k n o m l p le h = record {
  to = λ ts goal e g. out_infix s (goes_stop s ts l p (stops-at s.ops (right_bound o) p ts j e h) g);
  back = λ ts goal e g. went_stop s ts l p (stops-at s.ops (right_bound o) p ts j e h) le (infixes g);
}

pub prefix-top : (f : stack.OpenFrame) (n : List ℕ) (o : Operator) → shape_of f ≡ PrefixShape n o → f ≡ stack.PrefixOf n o
prefix-top stack.Round n o e = let z : ⊥ = cc in absurd z
prefix-top stack.Braces n o e = let z : ⊥ = cc in absurd z
prefix-top (stack.ItemOf ts) n o e = let z : ⊥ = cc in absurd z
prefix-top (stack.TailOf ts) n o e = let z : ⊥ = cc in absurd z
prefix-top (stack.ArgumentOf m w ts) n o e = let z : ⊥ = cc in absurd z
prefix-top (stack.PrefixOf m q) n o e = cc
prefix-top (stack.InfixOf m q l) n o e = let z : ⊥ = cc in absurd z

pub infix-top : (f : stack.OpenFrame) (n : List ℕ) (o : Operator) → shape_of f ≡ InfixShape n o → (l : Tree) × (f ≡ stack.InfixOf n o l)
infix-top stack.Round n o e = let z : ⊥ = cc in absurd z
infix-top stack.Braces n o e = let z : ⊥ = cc in absurd z
infix-top (stack.ItemOf ts) n o e = let z : ⊥ = cc in absurd z
infix-top (stack.TailOf ts) n o e = let z : ⊥ = cc in absurd z
infix-top (stack.ArgumentOf m w ts) n o e = let z : ⊥ = cc in absurd z
infix-top (stack.PrefixOf m q) n o e = let z : ⊥ = cc in absurd z
infix-top (stack.InfixOf m q l) n o e = (l, cc)

pub popped-bound : (k : List stack.OpenFrame) (xs : List Frame) (f : Frame) → map frame_meant (xs ++ f ∷ []) ≡ shapes_up k → shape_bound (frame_meant f) ≡ bound_of k
popped-bound k xs f e =
    let r = popped k xs f e in
    ap shape_bound (sym r.shape) ∙ (sym (top-bound r.top r.below) ∙ ap bound_of (sym r.is))

over-prefix-at : (s : Setting) (j : PostOperator) (below : List stack.OpenFrame) (l : Tree) (p : ℕ) (old new : State) (n : List ℕ) (o : Operator) → IsAtPosition old (AfterOperand (stack.PrefixOf n o ∷ below) l p)
    → map frame_meant new.frames.items ≡ shapes_up below → IsOutputOf new.output (emit_cell (emit_tree (emitted_stack below) l) (Functor n 1)) → post_operator_fits (right_bound o) p j ≡ false
    → IsReducedOnce s (stack.PrefixOf n o ∷ below) l p j new o.priority
over-prefix-at s j below l p old new n o h e output fails = record {
  below = below;
  tree = one n l;
  at_position = record { shapes = e; output = output; bounds = h.bounds.1; low = h.bounds.0 };
  same = over-prefix s j below n o l p h.low fails;
  apart = over-prefix s Nothing below n o l p h.low refl;
  nests = λ text start read n. n;
}

over-infix-at : (s : Setting) (j : PostOperator) (below : List stack.OpenFrame) (l m : Tree) (p : ℕ) (old new : State) (n : List ℕ) (o : Operator) → IsAtPosition old (AfterOperand (stack.InfixOf n o m ∷ below) l p)
    → map frame_meant new.frames.items ≡ shapes_up below → IsOutputOf new.output (emit_cell (emit_tree (emit_tree (emitted_stack below) m) l) (Functor n 2)) → post_operator_fits (right_bound o) p j ≡ false
    → IsReducedOnce s (stack.InfixOf n o m ∷ below) l p j new o.priority
over-infix-at s j below l m p old new n o h e output fails = record {
  below = below;
  tree = two n m l;
  at_position = record { shapes = e; output = output; bounds = h.bounds.1; low = h.bounds.0 };
  same = over-infix s j below n o m l p h.low fails;
  apart = over-infix s Nothing below n o m l p h.low refl;
  nests = λ text start read n. n;
}

-- a prefix or infix operator is put over its operand
pub reduce_top-prefix : (s : Setting) (j : PostOperator) (k : List stack.OpenFrame) (l : Tree) (p : ℕ) (old new : State) (xs : List Frame) (f : Frame) (n : List ℕ) (o : Operator)
    → IsAtPosition old (AfterOperand k l p) → old.frames.items ≡ xs ++ f ∷ [] → frame_meant f ≡ PrefixShape n o → new.frames.items ≡ xs
    → IsOutputOf new.output (emit_cell (emit_tree (emitted_stack k) l) (Functor n 1)) → post_operator_fits (bound_of k) p j ≡ false → IsReducedOnce s k l p j new o.priority
reduce_top-prefix s j k l p old new xs f n o h e q same output fails =
    let r = popped k xs f (sym (ap (map frame_meant) e) ∙ h.shapes) in
    let is : k ≡ stack.PrefixOf n o ∷ r.below = r.is ∙ ap (λ x. x ∷ r.below) (prefix-top r.top n o (r.shape ∙ q)) in
    subst (λ m. IsReducedOnce s m l p j new o.priority) (sym is)
    (over-prefix-at s j r.below l p old new n o (subst (λ m. IsAtPosition old (AfterOperand m l p)) is h) (ap (map frame_meant) same ∙ r.rest)
    (subst (λ m. IsOutputOf new.output (emit_cell (emit_tree (emitted_stack m) l) (Functor n 1))) is output) (subst (λ m. post_operator_fits (bound_of m) p j ≡ false) is fails))

pub reduce_top-infix : (s : Setting) (j : PostOperator) (k : List stack.OpenFrame) (l : Tree) (p : ℕ) (old new : State) (xs : List Frame) (f : Frame) (n : List ℕ) (o : Operator)
    → IsAtPosition old (AfterOperand k l p) → old.frames.items ≡ xs ++ f ∷ [] → frame_meant f ≡ InfixShape n o → new.frames.items ≡ xs
    → IsOutputOf new.output (emit_cell (emit_tree (emitted_stack k) l) (Functor n 2)) → post_operator_fits (bound_of k) p j ≡ false → IsReducedOnce s k l p j new o.priority
reduce_top-infix s j k l p old new xs f n o h e q same output fails =
    let r = popped k xs f (sym (ap (map frame_meant) e) ∙ h.shapes) in
    let t = infix-top r.top n o (r.shape ∙ q) in
    let is : k ≡ stack.InfixOf n o t.0 ∷ r.below = r.is ∙ ap (λ x. x ∷ r.below) t.1 in
    subst (λ m. IsReducedOnce s m l p j new o.priority) (sym is)
    (over-infix-at s j r.below l t.0 p old new n o (subst (λ m. IsAtPosition old (AfterOperand m l p)) is h) (ap (map frame_meant) same ∙ r.rest)
    (subst (λ m. IsOutputOf new.output (emit_cell (emit_tree (emitted_stack m) l) (Functor n 2))) is output) (subst (λ m. post_operator_fits (bound_of m) p j ≡ false) is fails))

-- the same frames again
pub at_position-again : (k : List stack.OpenFrame) (l : Tree) (p : ℕ) (old new : State) → IsAtPosition old (AfterOperand k l p) → new.frames.items ≡ old.frames.items → new.output ≡ old.output → IsAtPosition new (AfterOperand k l p)
at_position-again k l p old new h e f = record { shapes = ap (map frame_meant) e ∙ h.shapes; output = subst (λ d. IsOutputOf d (emit_tree (emitted_stack k) l)) (sym f) h.output; bounds = h.bounds; low = h.low }

shut-top : (f : stack.OpenFrame) (x : Frame) → shape_of f ≡ frame_meant x → ((n : List ℕ) (o : DeclaredOperator) → x ≡ frame.Prefix n o → ⊥) → ((n : List ℕ) (o : DeclaredOperator) → x ≡ frame.Infix n o → ⊥)
    → (k : List stack.OpenFrame) → HasNoOperatorOnTop (f ∷ k)
shut-top stack.Round x e a b k = tt
shut-top stack.Braces x e a b k = tt
shut-top (stack.ItemOf ts) x e a b k = tt
shut-top (stack.TailOf ts) x e a b k = tt
shut-top (stack.ArgumentOf m w ts) x e a b k = tt
shut-top (stack.PrefixOf n o) (frame.Prefix m d) e a b k = a m d refl
shut-top (stack.PrefixOf n o) x e a b k = cc
shut-top (stack.InfixOf n o l) (frame.Infix m d) e a b k = b m d refl
shut-top (stack.InfixOf n o l) x e a b k = cc

pub shut : (k : List stack.OpenFrame) (xs : List Frame) (x : Frame) → map frame_meant (xs ++ x ∷ []) ≡ shapes_up k → ((n : List ℕ) (o : DeclaredOperator) → x ≡ frame.Prefix n o → ⊥) → ((n : List ℕ) (o : DeclaredOperator) → x ≡ frame.Infix n o → ⊥)
    → HasNoOperatorOnTop k
shut k xs x e a b =
    let r = popped k xs x e in subst HasNoOperatorOnTop (sym r.is) (shut-top r.top x r.shape a b r.below)

-- one operator after another
pub same-start : (s : Setting) (j : PostOperator) (k : List stack.OpenFrame) (l : Tree) (p : ℕ) → ReadSame s j k l p k l p
same-start s j k l p = record { to = λ ts goal e g. g; back = λ ts goal e g. g }

pub same-then : (s : Setting) (j : PostOperator) (k m r : List stack.OpenFrame) (l t u : Tree) (p q v : ℕ) → ReadSame s j k l p m t q → ReadSame s j m t q r u v → ReadSame s j k l p r u v
same-then s j k m r l t u p q v a b = record { to = λ ts goal e g. b.to ts goal e (a.to ts goal e g); back = λ ts goal e g. a.back ts goal e (b.back ts goal e g) }
