-- Tokens that end an operand.
use Rattle.std.proofs.Common.{◌≡◌, ◌∙◌, ℕ, zero, suc, ◌+◌, ◌≤◌, Bool, false, List, [], ◌∷◌, ◌++◌, length, map, refl, sym, ap, subst, arith}
use Rattle.au_model.specs.Syntax.Characters.{chars_from}
use Rattle.au_model.specs.Syntax.Tokens as words
use Rattle.au_model.specs.Syntax.Tokens.{Lexeme, Token, token, ScannedTo, is_end}
use Rattle.au_model.specs.Syntax.Trees.{Tree, Trees, CompoundTree, no_trees, more_trees, tree_count, cell, list_name}
use Rattle.au_model.specs.Syntax.PostOperators.{lexeme_post_operator}
use Rattle.au_model.specs.Syntax.Primaries.{Setting}
use Rattle.au_term.specs.declared.cell.Cell.TheVariants.{Functor}
use Rattle.term_reader.specs.PrimaryView.{setting_of, tokens_at}
use Rattle.term_reader.specs.FollowingToken.{closer_of}
use Rattle.term_reader.specs.LeftToRight.{Stop, next_operator}
use Rattle.term_reader.specs.Lookahead.{Free, none, onto}
use Rattle.term_reader.specs.Completion as stack
use Rattle.term_reader.specs.Completion.{bound_of, list_tree, trees_of, CompletesAfter, CompletesFrame, over, round, braced, item, bar, last, tail, argument, final}
use Rattle.term_reader.specs.FrameShapes.{RoundShape, CurlyShape, ItemShape, TailShape, ArgumentShape, frame_meant, shape_of, shapes_up, emitted_stack, emitted_before, IsWithinBounds}
use Rattle.term_reader.specs.TermOutput.{TermOutput, emit_tree, emit_trees, emit_cell, emit_lists}
use Rattle.term_reader.specs.OutputView.{IsOutputOf}
use Rattle.term_reader.specs.Positions.{Position, AfterOperand, Completes, open_frames, NestsAfterToken, LeadsTo, IsStepOutcome}
use Rattle.term_reader.specs.ReaderSteps.{IsFrameClosing}
use Rattle.term_reader.specs.declared.lexeme.Closer.{Closer}
use Rattle.term_reader.specs.declared.lexeme.Closer.TheVariants as closer
use Rattle.term_reader.specs.declared.primary.Source.{Source}
use Rattle.term_reader.specs.declared.state.State.{State}
use Rattle.term_reader.specs.declared.state.Frame.{Frame}
use Rattle.term_reader.specs.declared.state.Frame.TheVariants as frame
use Rattle.term_reader.proofs.ReaderStepLemmas.{after_bracket}
use Rattle.term_reader.specs.declared.steps.Step.TheVariants.{Continue}
use Rattle.term_reader.proofs.FirstTokenLemmas.{tokens-first}
use Rattle.term_reader.specs.Refusals.{HasAllArguments}
use Rattle.term_reader.proofs.TooManyArgumentsLemmas.{IsFullStack}
use Rattle.term_reader.proofs.OperatorReductionLemmas.{popped, stops-at}
use Rattle.term_reader.proofs.CompletionStepLemmas as turns

-- which token it was
pub is-close : (x : Lexeme) → closer_of x ≡ closer.Close → x ≡ words.Close
is-close words.Close e = refl
is-close x e = let z : ⊥ = cc in absurd z

pub is-close_list : (x : Lexeme) → closer_of x ≡ closer.CloseList → x ≡ words.CloseList
is-close_list words.CloseList e = refl
is-close_list x e = let z : ⊥ = cc in absurd z

pub is-close_curly : (x : Lexeme) → closer_of x ≡ closer.CloseCurly → x ≡ words.CloseCurly
is-close_curly words.CloseCurly e = refl
is-close_curly x e = let z : ⊥ = cc in absurd z

pub is-comma : (x : Lexeme) → closer_of x ≡ closer.Comma → x ≡ words.Comma
is-comma words.Comma e = refl
is-comma x e = let z : ⊥ = cc in absurd z

pub is-bar : (x : Lexeme) → closer_of x ≡ closer.Bar → x ≡ words.Bar
is-bar words.Bar e = refl
is-bar x e = let z : ⊥ = cc in absurd z

pub is-end_token : (x : Lexeme) → closer_of x ≡ closer.End → x ≡ words.End
is-end_token words.End e = refl
is-end_token x e = let z : ⊥ = cc in absurd z

-- what the whole operand is plugged into
module _ (source : Source) (st : State) (f : Frame) (k : List stack.OpenFrame) (l : Tree) (p : ℕ) (c : Closer) (end : ℕ) (h : IsFrameClosing source st f k l p c end) where
  abbrev set : Setting
  set = setting_of source

  abbrev here : List ℕ
  here = source.text.now

  -- a bracket or comma is taken: what is read on
  stop-at : (x : Lexeme) → h.lexeme ≡ x → (vs : List Token) → next_operator set.ops (bound_of k) p (token h.apart x ∷ vs) ≡ Stop
  stop-at x e vs = stops-at set.ops (bound_of k) p (token h.apart x ∷ vs) (lexeme_post_operator set.ops h.lexeme) (ap (lexeme_post_operator set.ops) (sym e)) h.stops

  pub leads : (x : Lexeme) → h.lexeme ≡ x → is_end x ≡ false → (new : Position)
      → ((vs : List Token) (goal : Tree) → CompletesFrame set k (token h.apart x ∷ vs) l goal → Completes set new vs goal)
      → ((vs : List Token) (goal : Tree) → Completes set new vs goal → CompletesFrame set k (token h.apart x ∷ vs) l goal)
      → NestsAfterToken set here k (token h.apart x) (open_frames new) → LeadsTo set here (AfterOperand k l p) st.at new end false
  leads x e n new to back nests = record {
    first = token h.apart x;
    over = [];
    scans = onto (h.found ∙ ap (λ y. ScannedTo (token h.apart y) (chars_from here end)) e) n none;
    look = Free;
    fits = refl;
    to = λ vs goal f g. to vs goal (turns.goes_stop set (token h.apart x ∷ vs) l p (stop-at x e vs) g);
    back = λ vs goal f g. turns.went_stop set (token h.apart x ∷ vs) l p (stop-at x e vs) h.low (back vs goal g);
    step = (refl, refl, refl, nests);
  }

  -- it is not taken, whatever comes after it
  pub never : ((goal : Tree) (us : List Token) → CompletesFrame set k (token h.apart h.lexeme ∷ us) l goal → ⊥) → (more : List Token) (goal : Tree) → CompletesAfter set k (token h.apart h.lexeme ∷ more) l p goal → ⊥
  never not more goal g = not goal more (turns.goes_stop set (token h.apart h.lexeme ∷ more) l p (stop-at h.lexeme refl more) g)

  pub refuses : ((more : List Token) (goal : Tree) → CompletesAfter set k (token h.apart h.lexeme ∷ more) l p goal → ⊥) → (goal : Tree) → CompletesAfter set k (tokens_at source st.at) l p goal → ⊥
  refuses not goal g =
      let first = tokens-first _ _ h.apart h.lexeme h.found in
      not first.more goal (subst (λ us. CompletesAfter set k us l p goal) first.is g)

-- a bracket is closed
pub closed : (source : Source) (old new : State) (f : Frame) (k below : List stack.OpenFrame) (l tree : Tree) (p : ℕ) (c : Closer) (end : ℕ) → map frame_meant new.frames.items ≡ shapes_up below
    → IsOutputOf new.output (emit_tree (emitted_stack below) tree) → IsWithinBounds below → new.at ≡ end
    → LeadsTo (setting_of source) source.text.now (AfterOperand k l p) old.at (AfterOperand below tree 0) end false → IsStepOutcome (setting_of source) source.text.now (AfterOperand k l p) old.at new (Continue after_bracket)
closed source old new f k below l tree p c end shapes output bounds at leads = record {
  new = AfterOperand below tree 0;
  at_position = record { shapes = shapes; output = output; bounds = bounds; low = omega arith };
  expected_is = refl;
  leads = subst (λ n. LeadsTo (setting_of source) source.text.now (AfterOperand k l p) old.at (AfterOperand below tree 0) n false) (sym at) leads;
}

-- ---- the frames

round-top : (g : stack.OpenFrame) → shape_of g ≡ RoundShape → g ≡ stack.Round
round-top stack.Round e = refl
round-top g e = let z : ⊥ = cc in absurd z

curly-top : (g : stack.OpenFrame) → shape_of g ≡ CurlyShape → g ≡ stack.Braces
curly-top stack.Braces e = refl
curly-top g e = let z : ⊥ = cc in absurd z

item-top : (g : stack.OpenFrame) (n : ℕ) → shape_of g ≡ ItemShape n → (ts : List Tree) × (g ≡ stack.ItemOf ts) × (length ts ≡ n)
item-top (stack.ItemOf ts) n e = (ts, refl, cc)
item-top g n e = let z : ⊥ = cc in absurd z

tail-top : (g : stack.OpenFrame) (n : ℕ) → shape_of g ≡ TailShape n → (ts : List Tree) × (g ≡ stack.TailOf ts) × (length ts ≡ n)
tail-top (stack.TailOf ts) n e = (ts, refl, cc)
tail-top g n e = let z : ⊥ = cc in absurd z

argument-top : (g : stack.OpenFrame) (m : List ℕ) (w n : ℕ) → shape_of g ≡ ArgumentShape m w n → (ts : List Tree) × (g ≡ stack.ArgumentOf m w ts) × (length ts ≡ n)
argument-top (stack.ArgumentOf q v ts) m w n e = (ts, cc, cc)
argument-top g m w n e = let z : ⊥ = cc in absurd z

-- the stack of which the frame is the top
pub record Top (xs : List Frame) (k : List stack.OpenFrame) (g : stack.OpenFrame) : Type 0 where
  pub below : List stack.OpenFrame
  pub is : k ≡ g ∷ below
  pub rest : map frame_meant xs ≡ shapes_up below

pub round-frame : (xs : List Frame) (k : List stack.OpenFrame) → map frame_meant (xs ++ frame.Round ∷ []) ≡ shapes_up k → Top xs k stack.Round
round-frame xs k e = let r = popped k xs frame.Round e in record { below = r.below; is = r.is ∙ ap (λ g. g ∷ r.below) (round-top r.top r.shape); rest = r.rest }

pub curly-frame : (xs : List Frame) (k : List stack.OpenFrame) → map frame_meant (xs ++ frame.Curly ∷ []) ≡ shapes_up k → Top xs k stack.Braces
curly-frame xs k e = let r = popped k xs frame.Curly e in record { below = r.below; is = r.is ∙ ap (λ g. g ∷ r.below) (curly-top r.top r.shape); rest = r.rest }

pub item-frame : (xs : List Frame) (k : List stack.OpenFrame) (n : ℕ) → map frame_meant (xs ++ frame.Item n ∷ []) ≡ shapes_up k → (ts : List Tree) × (length ts ≡ n) × Top xs k (stack.ItemOf ts)
item-frame xs k n e =
    let r = popped k xs (frame.Item n) e in
    let t = item-top r.top n r.shape in
    (t.0, t.2, record { below = r.below; is = r.is ∙ ap (λ g. g ∷ r.below) t.1; rest = r.rest })

pub tail-frame : (xs : List Frame) (k : List stack.OpenFrame) (n : ℕ) → map frame_meant (xs ++ frame.Tail n ∷ []) ≡ shapes_up k → (ts : List Tree) × (length ts ≡ n) × Top xs k (stack.TailOf ts)
tail-frame xs k n e =
    let r = popped k xs (frame.Tail n) e in
    let t = tail-top r.top n r.shape in
    (t.0, t.2, record { below = r.below; is = r.is ∙ ap (λ g. g ∷ r.below) t.1; rest = r.rest })

full-top : (g : stack.OpenFrame) (f : Frame) (k : List stack.OpenFrame) → shape_of g ≡ frame_meant f → IsFullStack (g ∷ k) → HasAllArguments f
full-top (stack.ArgumentOf m w ts) (frame.Argument n b v) k e h = let same : length ts ≡ b = cc in omega (arith, same, h)
full-top (stack.ArgumentOf m w ts) f k e h = let z : ⊥ = cc in absurd z
full-top g f k e h = absurd h

pub argument-frame : (xs : List Frame) (k : List stack.OpenFrame) (m : List ℕ) (n place : ℕ) → map frame_meant (xs ++ frame.Argument m n place ∷ []) ≡ shapes_up k → (ts : List Tree) × (length ts ≡ n) × Top xs k (stack.ArgumentOf m place ts)
argument-frame xs k m n place e =
    let r = popped k xs (frame.Argument m n place) e in
    let t = argument-top r.top m place n r.shape in
    (t.0, t.2, record { below = r.below; is = r.is ∙ ap (λ g. g ∷ r.below) t.1; rest = r.rest })

-- a compound with so many arguments is one in the stack
pub full-frame : (xs : List Frame) (f : Frame) (k : List stack.OpenFrame) → map frame_meant (xs ++ f ∷ []) ≡ shapes_up k → IsFullStack k → HasAllArguments f
full-frame xs f k e h = let r = popped k xs f e in full-top r.top f r.below r.shape (subst IsFullStack r.is h)

-- ---- what no frame takes

pub not-round : (s : Setting) (k : List stack.OpenFrame) (a : Bool) (x : Lexeme) (us : List Token) (l goal : Tree) → (closer_of x ≡ closer.Close → ⊥) → CompletesFrame s (stack.Round ∷ k) (token a x ∷ us) l goal → ⊥
not-round s k a x us l goal n (round g) = n refl

pub not-curly : (s : Setting) (k : List stack.OpenFrame) (a : Bool) (x : Lexeme) (us : List Token) (l goal : Tree) → (closer_of x ≡ closer.CloseCurly → ⊥) → CompletesFrame s (stack.Braces ∷ k) (token a x ∷ us) l goal → ⊥
not-curly s k a x us l goal n (braced g) = n refl

pub not-item : (s : Setting) (k : List stack.OpenFrame) (ts : List Tree) (a : Bool) (x : Lexeme) (us : List Token) (l goal : Tree)
    → (closer_of x ≡ closer.Comma → ⊥) → (closer_of x ≡ closer.Bar → ⊥) → (closer_of x ≡ closer.CloseList → ⊥) → CompletesFrame s (stack.ItemOf ts ∷ k) (token a x ∷ us) l goal → ⊥
not-item s k ts a x us l goal m n o (item g) = m refl
not-item s k ts a x us l goal m n o (bar g) = n refl
not-item s k ts a x us l goal m n o (last g) = o refl

pub not-tail : (s : Setting) (k : List stack.OpenFrame) (ts : List Tree) (a : Bool) (x : Lexeme) (us : List Token) (l goal : Tree) → (closer_of x ≡ closer.CloseList → ⊥) → CompletesFrame s (stack.TailOf ts ∷ k) (token a x ∷ us) l goal → ⊥
not-tail s k ts a x us l goal n (tail g) = n refl

pub not-argument : (s : Setting) (k : List stack.OpenFrame) (m : List ℕ) (w : ℕ) (ts : List Tree) (a : Bool) (x : Lexeme) (us : List Token) (l goal : Tree)
    → (closer_of x ≡ closer.Comma → ⊥) → (closer_of x ≡ closer.Close → ⊥) → CompletesFrame s (stack.ArgumentOf m w ts ∷ k) (token a x ∷ us) l goal → ⊥
not-argument s k m w ts a x us l goal n o (argument lt g) = n refl
not-argument s k m w ts a x us l goal n o (final g) = o refl

pub not-more : (s : Setting) (k : List stack.OpenFrame) (m : List ℕ) (w : ℕ) (ts : List Tree) (a : Bool) (x : Lexeme) (us : List Token) (l goal : Tree)
    → closer_of x ≡ closer.Comma → 65534 ≤ length ts → CompletesFrame s (stack.ArgumentOf m w ts ∷ k) (token a x ∷ us) l goal → ⊥
not-more s k m w ts a x us l goal e le (argument lt g) = omega arith
not-more s k m w ts a x us l goal e le (final g) = cc

pub not-over : (s : Setting) (a : Bool) (x : Lexeme) (us : List Token) (l goal : Tree) → (closer_of x ≡ closer.End → ⊥) → CompletesFrame s [] (token a x ∷ us) l goal → ⊥
not-over s a x us l goal n over = n refl

-- ---- what is put on the sheet

pub emit-list : (s : TermOutput) (ts : List Tree) (u : Tree) → emit_lists (length ts) (emit_tree (emitted_before s ts) u) ≡ emit_tree s (list_tree ts u)
emit-list s [] u = refl
emit-list s (t ∷ ts) u = emit-lists-in (length ts) (emit_tree (emit_tree (emitted_before s ts) t) u) ∙ emit-list s ts (cell t u)
  where
    emit-lists-in : (n : ℕ) (x : TermOutput) → emit_cell (emit_lists n x) (Functor list_name 2) ≡ emit_lists n (emit_cell x (Functor list_name 2))
    emit-lists-in zero x = refl
    emit-lists-in (suc n) x = ap (λ y. emit_cell y (Functor list_name 2)) (emit-lists-in n x)

emit-arguments : (s : TermOutput) (ts : List Tree) (us : Trees) → emit_trees (emitted_before s ts) us ≡ emit_trees s (trees_of ts us)
emit-arguments s [] us = refl
emit-arguments s (t ∷ ts) us = emit-arguments s ts (more_trees t us)

pub trees-count : (ts : List Tree) (us : Trees) → tree_count (trees_of ts us) ≡ length ts + tree_count us
trees-count [] us = omega arith
trees-count (t ∷ ts) us = omega (arith, trees-count ts (more_trees t us))

pub emit-compound : (s : TermOutput) (m : List ℕ) (ts : List Tree) (t : Tree) (n : ℕ) → n ≡ length ts → emit_cell (emit_tree (emitted_before s ts) t) (Functor m (n + 1)) ≡ emit_tree s (CompoundTree m (trees_of (t ∷ ts) no_trees))
emit-compound s m ts t n e =
    let number : n + 1 ≡ tree_count (trees_of (t ∷ ts) no_trees) = omega (arith, trees-count (t ∷ ts) no_trees) in
    ap (λ k. emit_cell (emit_tree (emitted_before s ts) t) (Functor m k)) number
    ∙ ap (λ x. emit_cell x (Functor m (tree_count (trees_of (t ∷ ts) no_trees)))) (emit-arguments s (t ∷ ts) no_trees)
