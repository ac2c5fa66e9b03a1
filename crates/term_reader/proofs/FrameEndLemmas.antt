-- What each frame comes to where its operand ends.
use Rattle.std.proofs.Common.{◌≡◌, ◌∙◌, ℕ, ◌+◌, ◌≤◌, ◌<◌, Bool, false, List, [], ◌∷◌, length, map, refl, sym, ap, subst, arith}
use Rattle.au_model.specs.Syntax.Tokens as words
use Rattle.au_model.specs.Syntax.Characters.{chars_from}
use Rattle.au_model.specs.Syntax.PostOperators.{post_operator_fits, lexeme_post_operator}
use Rattle.au_model.specs.Syntax.Tokens.{Lexeme, Token, token, scanned, ScannedTo}
use Rattle.op_table.specs.OperatorView.{operator_meant}
use Rattle.op_table.specs.declared.operator.Operator.{Operator as DeclaredOperator}
use Rattle.term_reader.specs.FollowingToken.{closer_of}
use Rattle.term_reader.specs.LeftToRight.{Stop, next_operator}
use Rattle.term_reader.proofs.FirstTokenLemmas.{front-end, tokens-end, tokens-first}
use Rattle.term_reader.proofs.OperatorReductionLemmas.{popped, prefix-top, infix-top, stops-at}
use Rattle.au_model.specs.Syntax.Trees.{Tree, AtomTree, CompoundTree, no_trees, one}
use Rattle.au_model.specs.Terms.Forms.{nil_name, braces_name}
use Rattle.au_term.specs.declared.cell.Cell.TheVariants.{Functor}
use Rattle.term_reader.specs.PrimaryView.{setting_of, tokens_at}
use Rattle.term_reader.specs.Completion as stack
use Rattle.term_reader.specs.Completion.{bound_of, list_tree, trees_of, CompletesAfter, CompletesFrame, over, round, braced, item, bar, last, tail, argument, final}
use Rattle.term_reader.specs.FrameShapes.{ItemShape, TailShape, ArgumentShape, frame_meant, shapes_up, emitted_stack, emitted_before, HasNoOperatorOnTop}
use Rattle.term_reader.specs.TermOutput.{emit_tree, emit_cell, emit_lists}
use Rattle.term_reader.specs.OutputView.{IsOutputOf}
use Rattle.term_reader.specs.Positions.{ExpectsOperand, AfterOperand, IsStepOutcome, rest_at}
use Rattle.term_reader.specs.ReaderSteps.{IsFrameClosing, IsFramePushed}
use Rattle.term_reader.specs.declared.lexeme.Closer.{Closer}
use Rattle.term_reader.specs.declared.lexeme.Closer.TheVariants as closer
use Rattle.term_reader.specs.declared.primary.Source.{Source}
use Rattle.term_reader.specs.declared.state.State.{State}
use Rattle.term_reader.specs.declared.state.Frame.{Frame}
use Rattle.term_reader.specs.declared.state.Frame.TheVariants as frame
use Rattle.term_reader.specs.declared.steps.Step.{Step}
use Rattle.term_reader.proofs.ReaderStepLemmas.{after_bracket}
use Rattle.term_reader.specs.declared.steps.Step.TheVariants.{Continue, Accept}
use Rattle.term_reader.proofs.ClosingTokenLemmas.{Top, closed, leads, never, round-frame, curly-frame, item-frame, tail-frame, argument-frame, not-round, not-curly, not-item, not-tail, not-argument, not-more, is-close, is-close_list, is-close_curly, is-comma, is-bar, not-over, emit-list, emit-compound}
use Rattle.term_reader.proofs.ReaderStepLemmas.{pushed, first-post_operator}
use Rattle.term_reader.proofs.NestingLemmas.{nests-closed, level-after}
use Rattle.term_reader.proofs.CompletionStepLemmas.{goes_stop, went_stop, out_round, out_braces, out_item, out_bar, out_last, out_tail, out_argument, out_final}

by-top : (P : List stack.OpenFrame → Type 0) (xs : List Frame) (k : List stack.OpenFrame) (g : stack.OpenFrame) → Top xs k g → ((below : List stack.OpenFrame) → map frame_meant xs ≡ shapes_up below → P (g ∷ below)) → P k
by-top P xs k g t f = subst P (sym t.is) (f t.below t.rest)

module _ (source : Source) (st new : State) (k : List stack.OpenFrame) (l : Tree) (p : ℕ) (c : Closer) (end : ℕ) where
  abbrev Comes : List stack.OpenFrame → Step → Type 0
  Comes m t = IsStepOutcome (setting_of source) source.text.now (AfterOperand m l p) st.at new t

  -- no token list that begins with this one is read
  abbrev Never : (f : Frame) (m : List stack.OpenFrame) → IsFrameClosing source st f m l p c end → Type 0
  Never f m h = (more : List Token) (goal : Tree) → CompletesAfter (setting_of source) m (token h.apart h.lexeme ∷ more) l p goal → ⊥

  -- ---- round and curly brackets

  pub round-closes : IsFrameClosing source st frame.Round k l p c end → c ≡ closer.Close → new.frames.items ≡ st.frames.items → new.at ≡ end → IsOutputOf new.output (emit_tree (emitted_stack k) l) → Comes k (Continue after_bracket)
  round-closes h e fr at output =
      by-top (λ m. IsFrameClosing source st frame.Round m l p c end → IsOutputOf new.output (emit_tree (emitted_stack m) l) → Comes m (Continue after_bracket)) st.frames.items k stack.Round (round-frame st.frames.items k h.shapes)
      (λ below rest i s. closed source st new frame.Round (stack.Round ∷ below) below l l p c end (ap (map frame_meant) fr ∙ rest) s i.bounds at
      (leads source st frame.Round (stack.Round ∷ below) l p c end i words.Close (is-close i.lexeme (sym i.closer ∙ e)) refl (AfterOperand below l 0) (λ vs goal q. out_round (setting_of source) q) (λ vs goal g. round g) (λ start read n. nests-closed (setting_of source) source.text.now start below words.Open words.Close i.apart read tt tt n.0 n.2))) h output

  pub round-refuses : (h : IsFrameClosing source st frame.Round k l p c end) → (c ≡ closer.Close → ⊥) → Never frame.Round k h
  round-refuses h n =
      by-top (λ m. (i : IsFrameClosing source st frame.Round m l p c end) → Never frame.Round m i) st.frames.items k stack.Round (round-frame st.frames.items k h.shapes)
      (λ below rest i. never source st frame.Round (stack.Round ∷ below) l p c end i (λ goal us. not-round (setting_of source) below i.apart i.lexeme us l goal (λ e. n (i.closer ∙ e)))) h

  pub curly-closes : (name : List ℕ) → name ≡ braces_name → IsFrameClosing source st frame.Curly k l p c end → c ≡ closer.CloseCurly → new.frames.items ≡ st.frames.items → new.at ≡ end
      → IsOutputOf new.output (emit_cell (emit_tree (emitted_stack k) l) (Functor name 1)) → Comes k (Continue after_bracket)
  curly-closes name same h e fr at output =
      by-top (λ m. IsFrameClosing source st frame.Curly m l p c end → IsOutputOf new.output (emit_cell (emit_tree (emitted_stack m) l) (Functor name 1)) → Comes m (Continue after_bracket)) st.frames.items k stack.Braces (curly-frame st.frames.items k h.shapes)
      (λ below rest i s. closed source st new frame.Curly (stack.Braces ∷ below) below l (one braces_name l) p c end (ap (map frame_meant) fr ∙ rest) (subst (λ n. IsOutputOf new.output (emit_cell (emit_tree (emitted_stack below) l) (Functor n 1))) same s) i.bounds at
      (leads source st frame.Curly (stack.Braces ∷ below) l p c end i words.CloseCurly (is-close_curly i.lexeme (sym i.closer ∙ e)) refl (AfterOperand below (one braces_name l) 0) (λ vs goal q. out_braces (setting_of source) q) (λ vs goal g. braced g) (λ start read n. nests-closed (setting_of source) source.text.now start below words.OpenCurly words.CloseCurly i.apart read tt tt n.0 n.1))) h output

  pub curly-refuses : (h : IsFrameClosing source st frame.Curly k l p c end) → (c ≡ closer.CloseCurly → ⊥) → Never frame.Curly k h
  curly-refuses h n =
      by-top (λ m. (i : IsFrameClosing source st frame.Curly m l p c end) → Never frame.Curly m i) st.frames.items k stack.Braces (curly-frame st.frames.items k h.shapes)
      (λ below rest i. never source st frame.Curly (stack.Braces ∷ below) l p c end i (λ goal us. not-curly (setting_of source) below i.apart i.lexeme us l goal (λ e. n (i.closer ∙ e)))) h

  -- ---- lists

  pub list-closes : (n : ℕ) → IsFrameClosing source st (frame.Item n) k l p c end → c ≡ closer.CloseList → new.frames.items ≡ st.frames.items → new.at ≡ end
      → IsOutputOf new.output (emit_lists (n + 1) (emit_tree (emit_tree (emitted_stack k) l) (AtomTree nil_name))) → Comes k (Continue after_bracket)
  list-closes n h e fr at output =
      let t = item-frame st.frames.items k n h.shapes in
      let ts = t.0 in
      by-top (λ m. IsFrameClosing source st (frame.Item n) m l p c end → IsOutputOf new.output (emit_lists (n + 1) (emit_tree (emit_tree (emitted_stack m) l) (AtomTree nil_name))) → Comes m (Continue after_bracket)) st.frames.items k (stack.ItemOf ts) t.2
      (λ below rest i s.
      let number : n + 1 ≡ length (l ∷ ts) = omega (arith, t.1) in
      let sheets = ap (λ q. emit_lists q (emit_tree (emit_tree (emitted_before (emitted_stack below) ts) l) (AtomTree nil_name))) number ∙ emit-list (emitted_stack below) (l ∷ ts) (AtomTree nil_name) in
      closed source st new (frame.Item n) (stack.ItemOf ts ∷ below) below l (list_tree (l ∷ ts) (AtomTree nil_name)) p c end (ap (map frame_meant) fr ∙ rest) (subst (λ x. IsOutputOf new.output x) sheets s) i.bounds at
      (leads source st (frame.Item n) (stack.ItemOf ts ∷ below) l p c end i words.CloseList (is-close_list i.lexeme (sym i.closer ∙ e)) refl (AfterOperand below (list_tree (l ∷ ts) (AtomTree nil_name)) 0) (λ vs goal q. out_last (setting_of source) q) (λ vs goal g. last g) (λ start read n. nests-closed (setting_of source) source.text.now start below words.OpenList words.CloseList i.apart read tt tt n.0 n.1))) h output

  pub tail-closes : (n : ℕ) → IsFrameClosing source st (frame.Tail n) k l p c end → c ≡ closer.CloseList → new.frames.items ≡ st.frames.items → new.at ≡ end
      → IsOutputOf new.output (emit_lists n (emit_tree (emitted_stack k) l)) → Comes k (Continue after_bracket)
  tail-closes n h e fr at output =
      let t = tail-frame st.frames.items k n h.shapes in
      let ts = t.0 in
      by-top (λ m. IsFrameClosing source st (frame.Tail n) m l p c end → IsOutputOf new.output (emit_lists n (emit_tree (emitted_stack m) l)) → Comes m (Continue after_bracket)) st.frames.items k (stack.TailOf ts) t.2
      (λ below rest i s.
      let sheets = ap (λ q. emit_lists q (emit_tree (emitted_before (emitted_stack below) ts) l)) (sym t.1) ∙ emit-list (emitted_stack below) ts l in
      closed source st new (frame.Tail n) (stack.TailOf ts ∷ below) below l (list_tree ts l) p c end (ap (map frame_meant) fr ∙ rest) (subst (λ x. IsOutputOf new.output x) sheets s) i.bounds at
      (leads source st (frame.Tail n) (stack.TailOf ts ∷ below) l p c end i words.CloseList (is-close_list i.lexeme (sym i.closer ∙ e)) refl (AfterOperand below (list_tree ts l) 0) (λ vs goal q. out_tail (setting_of source) q) (λ vs goal g. tail g) (λ start read n. nests-closed (setting_of source) source.text.now start below words.OpenList words.CloseList i.apart read tt tt n.0 n.1))) h output

  pub item-goes_on : (n place : ℕ) (t : Step) → IsFrameClosing source st (frame.Item n) k l p c end → c ≡ closer.Comma → IsFramePushed st (frame.Item (n + 1)) end new t → Comes k t
  item-goes_on n place t h e push =
      let f = item-frame st.frames.items k n h.shapes in
      let ts = f.0 in
      by-top (λ m. IsFrameClosing source st (frame.Item n) m l p c end → Comes m t) st.frames.items k (stack.ItemOf ts) f.2
      (λ below rest i.
      let number : n + 1 ≡ length (l ∷ ts) = omega (arith, f.1) in
      pushed (setting_of source) source.text.now (AfterOperand (stack.ItemOf ts ∷ below) l p) st.at st new (frame.Item (n + 1)) (stack.ItemOf (l ∷ ts)) below end t push rest (ap ItemShape number) i.output i.bounds
      (leads source st (frame.Item n) (stack.ItemOf ts ∷ below) l p c end i words.Comma (is-comma i.lexeme (sym i.closer ∙ e)) refl (ExpectsOperand (stack.ItemOf (l ∷ ts) ∷ below)) (λ vs goal q. out_item (setting_of source) q) (λ vs goal w. item w) (level-after (setting_of source) source.text.now (stack.ItemOf ts ∷ below) i.apart words.Comma (stack.ItemOf (l ∷ ts) ∷ below) (λ d. refl) (λ start read n. n)))) h

  pub tail-goes_on : (n place : ℕ) (t : Step) → IsFrameClosing source st (frame.Item n) k l p c end → c ≡ closer.Bar → IsFramePushed st (frame.Tail (n + 1)) end new t → Comes k t
  tail-goes_on n place t h e push =
      let f = item-frame st.frames.items k n h.shapes in
      let ts = f.0 in
      by-top (λ m. IsFrameClosing source st (frame.Item n) m l p c end → Comes m t) st.frames.items k (stack.ItemOf ts) f.2
      (λ below rest i.
      let number : n + 1 ≡ length (l ∷ ts) = omega (arith, f.1) in
      pushed (setting_of source) source.text.now (AfterOperand (stack.ItemOf ts ∷ below) l p) st.at st new (frame.Tail (n + 1)) (stack.TailOf (l ∷ ts)) below end t push rest (ap TailShape number) i.output i.bounds
      (leads source st (frame.Item n) (stack.ItemOf ts ∷ below) l p c end i words.Bar (is-bar i.lexeme (sym i.closer ∙ e)) refl (ExpectsOperand (stack.TailOf (l ∷ ts) ∷ below)) (λ vs goal q. out_bar (setting_of source) q) (λ vs goal w. bar w) (level-after (setting_of source) source.text.now (stack.ItemOf ts ∷ below) i.apart words.Bar (stack.TailOf (l ∷ ts) ∷ below) (λ d. refl) (λ start read n. n)))) h

  pub item-refuses : (n : ℕ) → (h : IsFrameClosing source st (frame.Item n) k l p c end) → (c ≡ closer.Comma → ⊥) → (c ≡ closer.Bar → ⊥) → (c ≡ closer.CloseList → ⊥) → Never (frame.Item n) k h
  item-refuses n h x y z =
      let f = item-frame st.frames.items k n h.shapes in
      by-top (λ m. (i : IsFrameClosing source st (frame.Item n) m l p c end) → Never (frame.Item n) m i) st.frames.items k (stack.ItemOf f.0) f.2
      (λ below rest i. never source st (frame.Item n) (stack.ItemOf f.0 ∷ below) l p c end i
      (λ goal us. not-item (setting_of source) below f.0 i.apart i.lexeme us l goal (λ e. x (i.closer ∙ e)) (λ e. y (i.closer ∙ e)) (λ e. z (i.closer ∙ e)))) h

  pub tail-refuses : (n : ℕ) → (h : IsFrameClosing source st (frame.Tail n) k l p c end) → (c ≡ closer.CloseList → ⊥) → Never (frame.Tail n) k h
  tail-refuses n h z =
      let f = tail-frame st.frames.items k n h.shapes in
      by-top (λ m. (i : IsFrameClosing source st (frame.Tail n) m l p c end) → Never (frame.Tail n) m i) st.frames.items k (stack.TailOf f.0) f.2
      (λ below rest i. never source st (frame.Tail n) (stack.TailOf f.0 ∷ below) l p c end i (λ goal us. not-tail (setting_of source) below f.0 i.apart i.lexeme us l goal (λ e. z (i.closer ∙ e)))) h

  -- ---- arguments

  pub compound-closes : (m : List ℕ) (n place : ℕ) → IsFrameClosing source st (frame.Argument m n place) k l p c end → c ≡ closer.Close → new.frames.items ≡ st.frames.items → new.at ≡ end
      → IsOutputOf new.output (emit_cell (emit_tree (emitted_stack k) l) (Functor m (n + 1))) → Comes k (Continue after_bracket)
  compound-closes m n place h e fr at output =
      let t = argument-frame st.frames.items k m n place h.shapes in
      let ts = t.0 in
      by-top (λ q. IsFrameClosing source st (frame.Argument m n place) q l p c end → IsOutputOf new.output (emit_cell (emit_tree (emitted_stack q) l) (Functor m (n + 1))) → Comes q (Continue after_bracket)) st.frames.items k (stack.ArgumentOf m place ts) t.2
      (λ below rest i s.
      closed source st new (frame.Argument m n place) (stack.ArgumentOf m place ts ∷ below) below l (CompoundTree m (trees_of (l ∷ ts) no_trees)) p c end (ap (map frame_meant) fr ∙ rest)
      (subst (λ x. IsOutputOf new.output x) (emit-compound (emitted_stack below) m ts l n (sym t.1)) s) i.bounds.1 at
      (leads source st (frame.Argument m n place) (stack.ArgumentOf m place ts ∷ below) l p c end i words.Close (is-close i.lexeme (sym i.closer ∙ e)) refl (AfterOperand below (CompoundTree m (trees_of (l ∷ ts) no_trees)) 0) (λ vs goal q. out_final (setting_of source) q) (λ vs goal g. final g) (λ start read n. nests-closed (setting_of source) source.text.now start below words.Open words.Close i.apart read tt tt n.0 n.3))) h output

  pub argument-goes_on : (m : List ℕ) (n place : ℕ) (t : Step) → IsFrameClosing source st (frame.Argument m n place) k l p c end → c ≡ closer.Comma → n < 65534 → IsFramePushed st (frame.Argument m (n + 1) place) end new t → Comes k t
  argument-goes_on m n place t h e lt push =
      let f = argument-frame st.frames.items k m n place h.shapes in
      let ts = f.0 in
      by-top (λ q. IsFrameClosing source st (frame.Argument m n place) q l p c end → Comes q t) st.frames.items k (stack.ArgumentOf m place ts) f.2
      (λ below rest i.
      let number : n + 1 ≡ length (l ∷ ts) = omega (arith, f.1) in
      let few : length ts < 65534 = omega (arith, f.1, lt) in
      let more : length (l ∷ ts) ≤ 65534 = omega (arith, f.1, lt) in
      pushed (setting_of source) source.text.now (AfterOperand (stack.ArgumentOf m place ts ∷ below) l p) st.at st new (frame.Argument m (n + 1) place) (stack.ArgumentOf m place (l ∷ ts)) below end t push rest (ap (ArgumentShape m place) number) i.output (more, i.bounds.1)
      (leads source st (frame.Argument m n place) (stack.ArgumentOf m place ts ∷ below) l p c end i words.Comma (is-comma i.lexeme (sym i.closer ∙ e)) refl (ExpectsOperand (stack.ArgumentOf m place (l ∷ ts) ∷ below)) (λ vs goal q. (out_argument (setting_of source) q).1) (λ vs goal w. argument few w) (level-after (setting_of source) source.text.now (stack.ArgumentOf m place ts ∷ below) i.apart words.Comma (stack.ArgumentOf m place (l ∷ ts) ∷ below) (λ d. refl) (λ start read n. n)))) h

  pub argument-refuses : (m : List ℕ) (n place : ℕ) → (h : IsFrameClosing source st (frame.Argument m n place) k l p c end) → (c ≡ closer.Comma → ⊥) → (c ≡ closer.Close → ⊥) → Never (frame.Argument m n place) k h
  argument-refuses m n place h x y =
      let f = argument-frame st.frames.items k m n place h.shapes in
      by-top (λ q. (i : IsFrameClosing source st (frame.Argument m n place) q l p c end) → Never (frame.Argument m n place) q i) st.frames.items k (stack.ArgumentOf m place f.0) f.2
      (λ below rest i. never source st (frame.Argument m n place) (stack.ArgumentOf m place f.0 ∷ below) l p c end i (λ goal us. not-argument (setting_of source) below m place f.0 i.apart i.lexeme us l goal (λ e. x (i.closer ∙ e)) (λ e. y (i.closer ∙ e)))) h

  pub too_many : (m : List ℕ) (n place : ℕ) → (h : IsFrameClosing source st (frame.Argument m n place) k l p c end) → c ≡ closer.Comma → 65534 ≤ n → Never (frame.Argument m n place) k h
  too_many m n place h e le =
      let f = argument-frame st.frames.items k m n place h.shapes in
      by-top (λ q. (i : IsFrameClosing source st (frame.Argument m n place) q l p c end) → Never (frame.Argument m n place) q i) st.frames.items k (stack.ArgumentOf m place f.0) f.2
      (λ below rest i. never source st (frame.Argument m n place) (stack.ArgumentOf m place f.0 ∷ below) l p c end i (λ goal us. not-more (setting_of source) below m place f.0 i.apart i.lexeme us l goal (sym i.closer ∙ e) (omega (arith, f.1, le)))) h

  pub few_arguments : (m : List ℕ) (n place : ℕ) → IsFrameClosing source st (frame.Argument m n place) k l p c end → 65534 < n → ⊥
  few_arguments m n place h lt =
      let f = argument-frame st.frames.items k m n place h.shapes in
      by-top (λ q. IsFrameClosing source st (frame.Argument m n place) q l p c end → ⊥) st.frames.items k (stack.ArgumentOf m place f.0) f.2 (λ below rest i. let few = i.bounds.0 in omega (arith, f.1, lt)) h

  -- ---- operators, of which none is left

  pub prefix-shut : (m : List ℕ) (o : DeclaredOperator) → IsFrameClosing source st (frame.Prefix m o) k l p c end → ⊥
  prefix-shut m o h =
      let r = popped k st.frames.items (frame.Prefix m o) h.shapes in
      subst HasNoOperatorOnTop (r.is ∙ ap (λ g. g ∷ r.below) (prefix-top r.top m (operator_meant o) r.shape)) h.shut

  pub infix-shut : (m : List ℕ) (o : DeclaredOperator) → IsFrameClosing source st (frame.Infix m o) k l p c end → ⊥
  infix-shut m o h =
      let r = popped k st.frames.items (frame.Infix m o) h.shapes in
      subst HasNoOperatorOnTop (r.is ∙ ap (λ g. g ∷ r.below) (infix-top r.top m (operator_meant o) r.shape).1) h.shut

-- ---- nothing is open

module _ (source : Source) (at end p : ℕ) (l : Tree) (a : Bool) (x : Lexeme) (found : scanned (chars_from source.text.now at) ≡ ScannedTo (token a x) (chars_from source.text.now end)) (low : p ≤ 1200) (stops : post_operator_fits 1200 p (lexeme_post_operator source.ops.now x) ≡ false) where
  halt : next_operator source.ops.now 1200 p (tokens_at source at) ≡ Stop
  halt = stops-at source.ops.now 1200 p (tokens_at source at) (lexeme_post_operator source.ops.now x) (first-post_operator source.ops.now _ _ a x found) stops

  whole : x ≡ words.End → CompletesAfter (setting_of source) [] (tokens_at source at) l p l
  whole e =
      let f = found ∙ ap (λ y. ScannedTo (token a y) (chars_from source.text.now end)) e in
      went_stop (setting_of source) (tokens_at source at) l p halt low (subst (λ ts. CompletesFrame (setting_of source) [] ts l l) (sym (tokens-end _ _ a f)) over)

  rest : x ≡ words.End → rest_at source.text.now at ≡ chars_from source.text.now end
  rest e =
      let f = found ∙ ap (λ y. ScannedTo (token a y) (chars_from source.text.now end)) e in
      ap (λ y. y.rest) (front-end _ _ a f)

  open_end : (closer_of x ≡ closer.End → ⊥) → (more : List Token) (goal : Tree) → CompletesAfter (setting_of source) [] (token a x ∷ more) l p goal → ⊥
  open_end n more goal g = not-over (setting_of source) a x more l goal n (goes_stop (setting_of source) (token a x ∷ more) l p (stops-at source.ops.now 1200 p (token a x ∷ more) (lexeme_post_operator source.ops.now x) refl stops) g)

-- the end is there
pub over-ends : (source : Source) (at end p : ℕ) (l : Tree) (a : Bool) (x : Lexeme) (st : State) (k : List stack.OpenFrame) → k ≡ [] → scanned (chars_from source.text.now at) ≡ ScannedTo (token a x) (chars_from source.text.now end)
    → p ≤ bound_of k → post_operator_fits (bound_of k) p (lexeme_post_operator source.ops.now x) ≡ false → IsOutputOf st.output (emit_tree (emitted_stack k) l) → x ≡ words.End → IsStepOutcome (setting_of source) source.text.now (AfterOperand k l p) at st (Accept end)
over-ends source at end p l a x st k none found low stops output e =
    let P : List stack.OpenFrame → Type 0 = λ m. p ≤ bound_of m → post_operator_fits (bound_of m) p (lexeme_post_operator source.ops.now x) ≡ false → IsOutputOf st.output (emit_tree (emitted_stack m) l) → IsStepOutcome (setting_of source) source.text.now (AfterOperand m l p) at st (Accept end) in
    let here : P [] = λ b f d. record { tree = l; output = d; reads = whole source at end p l a x found b f e; rest = rest source at end p l a x found b f e } in
    subst P (sym none) here low stops output

-- or it does not
pub over-never : (source : Source) (at end p : ℕ) (l : Tree) (a : Bool) (x : Lexeme) (k : List stack.OpenFrame) → k ≡ [] → scanned (chars_from source.text.now at) ≡ ScannedTo (token a x) (chars_from source.text.now end)
    → p ≤ bound_of k → post_operator_fits (bound_of k) p (lexeme_post_operator source.ops.now x) ≡ false → (closer_of x ≡ closer.End → ⊥) → (more : List Token) (goal : Tree) → CompletesAfter (setting_of source) k (token a x ∷ more) l p goal → ⊥
over-never source at end p l a x k none found low stops n =
    let P : List stack.OpenFrame → Type 0 = λ m. p ≤ bound_of m → post_operator_fits (bound_of m) p (lexeme_post_operator source.ops.now x) ≡ false → (more : List Token) (goal : Tree) → CompletesAfter (setting_of source) m (token a x ∷ more) l p goal → ⊥ in
    let here : P [] = λ b f more goal g. open_end source at end p l a x found b f n more goal g in
    subst P (sym none) here low stops

pub over-refuses : (source : Source) (at end p : ℕ) (l : Tree) (a : Bool) (x : Lexeme) (k : List stack.OpenFrame) → k ≡ [] → scanned (chars_from source.text.now at) ≡ ScannedTo (token a x) (chars_from source.text.now end)
    → p ≤ bound_of k → post_operator_fits (bound_of k) p (lexeme_post_operator source.ops.now x) ≡ false → (closer_of x ≡ closer.End → ⊥) → (goal : Tree) → CompletesAfter (setting_of source) k (tokens_at source at) l p goal → ⊥
over-refuses source at end p l a x k none found low stops n goal g =
    let first = tokens-first _ _ a x found in
    over-never source at end p l a x k none found low stops n first.more goal (subst (λ us. CompletesAfter (setting_of source) k us l p goal) first.is g)
