-- What calls come to.
use Rattle.std.proofs.Common.{◌≡◌, ℕ, zero, suc, ◌+◌, ◌-◌, ◌<◌, ◌≤◌, Bool, true, false, cond, List, length, Option, Some, None, refl, sym, ap, ap₂, ◌∙◌, subst, arith}
use Rattle.std.specs.Prelude.{codes, nat_lt}
use Rattle.std.specs.Option.{option_map}
use Rattle.au_term.proofs.LogicLemmas.{less, not_less}
use Rattle.au_term.specs.Term.{Term, VarTerm, IntTerm, AtomTerm, Compound, Terms, end, more, count, argument_count, var_bound, all_bound, term_at, drop_terms}
use Rattle.au_term.specs.PrefixOrder.{append_terms}
use Rattle.au_model.specs.Terms.ErrorTerms.{error_term, type_error, representation_error}
use Rattle.au_model.specs.Terms.Faults.{error_term_of}
use Rattle.au_model.specs.declared.fault.Fault.{Fault}
use Rattle.au_model.specs.Terms.Forms.{is_callable, binary}
use Rattle.au_model.specs.Terms.Lists.{terms_from}
use Rattle.au_model.specs.Terms.Named.{NamedTerm}
use Rattle.au_model.specs.Terms.Substitutions.{apply, apply_all, value_of, resolve}
use Rattle.au_model.proofs.ApplyLemmas.{apply-apply, apply-same}
use Rattle.au_model.proofs.VariableBoundLemmas.{apply-below}
use Rattle.run_model.specs.Goals.Control.{with_arguments, call_outcome, called, raises}
use Rattle.run_model.specs.Goals.Outcomes.{Ball, GoesOnWith}
use Rattle.run_model.specs.Machine.Entries.{Entry}
use Rattle.run_model.specs.Machine.Heights.{after_reply, after_control}
use Rattle.run_model.specs.Programs.Bodies.{body_of, called_goals, goals_of, is_junction, junction}
use Rattle.run_model.proofs.OutcomeBoundLemmas.{append-below}
use Rattle.binding_array.specs.declared.cell.BindingCell.{BindingCell}
use Rattle.cell_store.specs.Arguments.{arguments_from, AreArguments, HasFunctor}
use Rattle.cell_store.specs.StoreView.{StoreView, IsValidStore, IsValueIn, AddsText, substitution, text_in, value_term, meaning}
use Rattle.cell_store.specs.declared.arguments.Arguments.{Arguments}
use Rattle.cell_store.proofs.CellMeaningLemmas.{term_below}
use Rattle.cell_store.proofs.WritingLemmas.{how_many}
use Rattle.region_split.specs.ChoicePoints.{Standing, height_of_cut}
use Rattle.region_split.specs.Regions.{RegionView, entries_of, heights_of, continuation_here}
use Rattle.region_split.specs.declared.frame.Position.{Position}
use Rattle.region_control.specs.Controls.{IsGoalPlace, Controls as TakesPlace}
use Rattle.region_control.specs.Replies.{Leaves, LeavesOutcome}
use Rattle.region_control.specs.declared.control.GoalPlace.{GoalPlace}
use Rattle.region_control.specs.declared.replies.AfterGoal.{AfterGoal}
use Rattle.region_control.specs.declared.replies.AfterGoal.TheVariants.{At}
use Rattle.region_control.proofs.ControlLemmas.{place_in}
use Rattle.region_control.proofs.ReplyLemmas.{leaves_same}
use Rattle.region_control.specs.GoalForms.{argument_terms, AreArgumentsIn}
use Rattle.region_control.proofs.FindallEndLemmas.{meaning_below, resolved_stays}
use Rattle.meta_call.specs.CalledTerms.{further_terms}
use Rattle.meta_call.specs.Calls.{CanTake, IsCallRefused, MakesTerms}
use Rattle.meta_call.proofs.CalledTermLemmas.{count_from, count-append}

-- a term with further arguments, resolved
resolved_append : (f : ℕ → Term) (ts us : Terms) → apply_all f (append_terms ts us) ≡ append_terms (apply_all f ts) (apply_all f us)
resolved_append f end us = refl
resolved_append f (more t ts) us = ap (more (apply f t)) (resolved_append f ts us)

pub added_resolved : (f : ℕ → Term) (t : Term) (us : Terms) → is_callable t ≡ true → apply f (with_arguments t us) ≡ with_arguments (apply f t) (apply_all f us)
added_resolved f (VarTerm n) us h = absurd cc
added_resolved f (IntTerm z) us h = absurd cc
added_resolved f (AtomTerm a) end h = refl
added_resolved f (AtomTerm a) (more u us) h = refl
added_resolved f (Compound g ts) end h = refl
added_resolved f (Compound g ts) (more u us) h = ap (Compound g) (resolved_append f ts (more u us))

added_below : (b : ℕ) (t : Term) (us : Terms) → var_bound t ≤ b → all_bound us ≤ b → var_bound (with_arguments t us) ≤ b
added_below b (VarTerm n) end h k = h
added_below b (VarTerm n) (more u us) h k = h
added_below b (IntTerm z) end h k = h
added_below b (IntTerm z) (more u us) h k = h
added_below b (AtomTerm a) end h k = h
added_below b (AtomTerm a) (more u us) h k = k
added_below b (Compound f ts) end h k = h
added_below b (Compound f ts) (more u us) h k = append-below b ts (more u us) h k

listed_below : (st : StoreView) (base n at : ℕ) → AreArguments (text_in st) st.now.next base n at → all_bound (terms_from (arguments_from (text_in st) base n at)) ≤ st.now.next
listed_below st base zero at h = omega arith
listed_below st base (suc n) at h = omega (arith, h.0.below, listed_below st base n (at + 1) h.1)

pub goal_below : (st : StoreView) (callee : BindingCell) (further : Arguments) → IsValueIn st callee → AreArgumentsIn st further → var_bound (with_arguments (value_term st callee) (further_terms st further)) ≤ st.now.next
goal_below st callee further v h = added_below st.now.next (value_term st callee) (further_terms st further) (term_below (text_in st) st.now.next callee v) (listed_below st further.base further.count further.at h.there)

-- errors before the goal is made
pub resolved_callable : (f : ℕ → Term) (t : Term) → is_callable t ≡ true → (is_callable (apply f t) ≡ true) × (argument_count (apply f t) ≡ argument_count t)
resolved_callable f (VarTerm n) h = absurd cc
resolved_callable f (IntTerm z) h = absurd cc
resolved_callable f (AtomTerm a) h = (refl, refl)
resolved_callable f (Compound g ts) h = (refl, counted ts)
  where
    counted : (us : Terms) → count (apply_all f us) ≡ count us
    counted end = refl
    counted (more u us) = ap suc (counted us)

added_count : (t : Term) (us : Terms) → is_callable t ≡ true → argument_count (with_arguments t us) ≡ argument_count t + count us
added_count (VarTerm n) us h = absurd cc
added_count (IntTerm z) us h = absurd cc
added_count (AtomTerm a) end h = refl
added_count (AtomTerm a) (more u us) h = omega arith
added_count (Compound f ts) end h = omega arith
added_count (Compound f ts) (more u us) h = count-append ts (more u us)

call_form : (arity : ℕ) (t : Term) (us : Terms) → is_callable t ≡ true
    → call_outcome arity t us ≡ cond (nat_lt 65535 (argument_count (with_arguments t us))) (raises (representation_error (codes "max_arity")) (codes "call") arity) (called arity (with_arguments t us) (called_goals (with_arguments t us)))
call_form arity (VarTerm n) us h = absurd cc
call_form arity (IntTerm z) us h = absurd cc
call_form arity (AtomTerm a) us h = refl
call_form arity (Compound f ts) us h = refl

pub too_many : (arity : ℕ) (t : Term) (us : Terms) → is_callable t ≡ true → 65535 < argument_count t + count us → call_outcome arity t us ≡ raises (representation_error (codes "max_arity")) (codes "call") arity
too_many arity t us h lt =
    let over : nat_lt 65535 (argument_count (with_arguments t us)) ≡ true = less 65535 (argument_count (with_arguments t us)) (omega (arith, lt, added_count t us h)) in
    call_form arity t us h ∙ rw over refl

pub not_too_many : (arity : ℕ) (t : Term) (us : Terms) → is_callable t ≡ true → argument_count t + count us ≤ 65535 → call_outcome arity t us ≡ called arity (with_arguments t us) (called_goals (with_arguments t us))
not_too_many arity t us h le =
    let within : nat_lt 65535 (argument_count (with_arguments t us)) ≡ false = not_less 65535 (argument_count (with_arguments t us)) (omega (arith, le, added_count t us h)) in
    call_form arity t us h ∙ rw within refl

-- terms were made, and then a call took the place of its goal
module _ (old mid : RegionView) (g : GoalPlace) (m : MakesTerms old mid) (i : IsGoalPlace old g) where
  same_entries : (named : List NamedTerm) → entries_of named mid ≡ entries_of named old
  same_entries named = ap (λ (s : Standing). s.entries) (m.stays.stands named)

  same_height : (named : List NamedTerm) → height_of_cut (heights_of named mid) g.cut ≡ height_of_cut (heights_of named old) g.cut
  same_height named = ap (λ (s : Standing). height_of_cut s.heights g.cut) (m.stays.stands named)

  same_after : (named : List NamedTerm) → continuation_here named mid g.after ≡ continuation_here named old g.after
  same_after named = let same = m.keeps.same named g.after i.after.frame (place_in old g i) in cc

  pub place_stays : IsGoalPlace mid g
  place_stays = record {
    scope = let many = ap (λ (r : RegionView). length r.choices) m.stays.others in let s = i.scope in omega (arith, s, many);
    after = m.stays.position g.cut g.after i.after;
  }

  pub comes_after : (new : RegionView) (arity : ℕ) (t : Term) (goals : Option (List Term)) (after : AfterGoal) → LeavesOutcome mid new (called arity t goals) g after → LeavesOutcome old new (called arity t goals) g after
  comes_after new arity t (Some gs) after h =
      leaves_same (λ named. after_control (GoesOnWith gs) (height_of_cut (heights_of named mid) g.cut) (continuation_here named mid g.after) (entries_of named mid)) (λ named. after_control (GoesOnWith gs) (height_of_cut (heights_of named old) g.cut) (continuation_here named old g.after) (entries_of named old)) new after
      (λ named. ap₂ (λ k es. after_control (GoesOnWith gs) (height_of_cut (heights_of named old) g.cut) k es) (sym (same_after named)) (sym (same_entries named)) ∙ ap (λ k. after_control (GoesOnWith gs) k (continuation_here named mid g.after) (entries_of named mid)) (sym (same_height named))) h
  comes_after new arity t None after h =
      leaves_same (λ named. after_reply (Ball (error_term (type_error (codes "callable") t) (codes "call") arity)) (continuation_here named mid g.after) (entries_of named mid)) (λ named. after_reply (Ball (error_term (type_error (codes "callable") t) (codes "call") arity)) (continuation_here named old g.after) (entries_of named old)) new after
      (λ named. ap₂ (after_reply (Ball (error_term (type_error (codes "callable") t) (codes "call") arity))) (sym (same_after named)) (sym (same_entries named))) h

-- a body that is called
pub body_called : (old new : RegionView) (g : GoalPlace) (p : Position) (arity : ℕ) (t u : Term) → body_of t ≡ Some u → TakesPlace old new (GoesOnWith (goals_of u)) g p → LeavesOutcome old new (called arity t (called_goals t)) g (At p)
body_called old new g p arity t u b k =
    subst (λ o. LeavesOutcome old new (called arity t (option_map goals_of o)) g (At p)) (sym b) ((λ named. sym (k.entries named)), k.position)

pub none_called : (old new : RegionView) (g : GoalPlace) (arity : ℕ) (t : Term) (after : AfterGoal) → body_of t ≡ None → LeavesOutcome old new (raises (type_error (codes "callable") t) (codes "call") arity) g after → LeavesOutcome old new (called arity t (called_goals t)) g after
none_called old new g arity t after b h = subst (λ o. LeavesOutcome old new (called arity t (option_map goals_of o)) g after) (sym b) h

-- the body of a term that no binding changes is not changed either, and has no other variables
abbrev KeptBelow : ℕ → Option Term → Type 0
KeptBelow b None = Unit {0}
KeptBelow b (Some u) = var_bound u ≤ b

pub body_below : (b : ℕ) (t : Term) → var_bound t ≤ b → KeptBelow b (body_of t)
body_below b (VarTerm n) h = omega arith
body_below b (IntTerm z) h = tt
body_below b (AtomTerm a) h = h
body_below b (Compound f end) h = h
body_below b (Compound f (more x end)) h = h
body_below b (Compound f (more x (more y end))) h = by_name (is_junction f) (body_of x) (body_of y) (body_below b x (omega (arith, h))) (body_below b y (omega (arith, h)))
  where
    by_name : (k : Bool) (o p : Option Term) → KeptBelow b o → KeptBelow b p → KeptBelow b (cond k (junction f o p) (Some (binary f x y)))
    by_name true (Some u) (Some v) i j = omega (arith, i, j)
    by_name true (Some u) None i j = tt
    by_name true None p i j = tt
    by_name false o p i j = h
body_below b (Compound f (more x (more y (more z ts)))) h = h

abbrev StaysKept : (ℕ → Term) → Option Term → Type 0
StaysKept f None = Unit {0}
StaysKept f (Some u) = apply f u ≡ u

pub body_stays : (f : ℕ → Term) (t : Term) → apply f t ≡ t → StaysKept f (body_of t)
body_stays f (VarTerm n) h = ap (λ u. Compound (codes "call") (more u end)) h
body_stays f (IntTerm z) h = tt
body_stays f (AtomTerm a) h = refl
body_stays f (Compound g end) h = h
body_stays f (Compound g (more x end)) h = h
body_stays f (Compound g (more x (more y end))) h =
    let left : apply f x ≡ x = cc in
    let right : apply f y ≡ y = cc in
    by_name (is_junction g) (body_of x) (body_of y) (body_stays f x left) (body_stays f y right)
  where
    by_name : (k : Bool) (o p : Option Term) → StaysKept f o → StaysKept f p → StaysKept f (cond k (junction g o p) (Some (binary g x y)))
    by_name true (Some u) (Some v) i j = ap₂ (binary g) i j
    by_name true (Some u) None i j = tt
    by_name true None p i j = tt
    by_name false o p i j = h
body_stays f (Compound g (more x (more y (more z ts)))) h = h

-- what a value stands for
meaning_stays : (st : StoreView) (value : BindingCell) → IsValidStore st → resolve (substitution st) (meaning st value) ≡ meaning st value
meaning_stays st value k = resolved_stays st (value_term st value) k

pub kept_below : (st : StoreView) (value : BindingCell) (u : Term) → IsValidStore st → IsValueIn st value → Some u ≡ body_of (meaning st value) → var_bound u ≤ st.now.next
kept_below st value u k v e = subst (KeptBelow st.now.next) (sym e) (body_below st.now.next (meaning st value) (meaning_below st value k v))

pub kept_means : (st new : StoreView) (value body : BindingCell) (u : Term) → IsValidStore st → Some u ≡ body_of (meaning st value) → AddsText st new → value_term new body ≡ u → meaning new body ≡ u
kept_means st new value body u k e adds t = ap₂ resolve adds.bound t ∙ subst (StaysKept (value_of (substitution st))) (sym e) (body_stays (value_of (substitution st)) (meaning st value) (meaning_stays st value k))

-- a compound's room
pub compound_room : (st : StoreView) (callee : BindingCell) (at base f n : ℕ) → callee ≡ BindingCell.Compound at base → HasFunctor (text_in st) st.now.next at base f n → (is_callable (value_term st callee) ≡ true) × (argument_count (value_term st callee) ≡ n)
compound_room st callee at base f n is h =
    let term = ap (value_term st) is ∙ h.term in
    (ap is_callable term, ap argument_count term ∙ count_from (text_in st) base n (at + 1))

pub refused_above : (st : StoreView) (callee : BindingCell) (further : ℕ) → is_callable (value_term st callee) ≡ true → 65535 < argument_count (value_term st callee) + further → (us : Terms) → count us ≡ further
    → call_outcome (further + 1) (meaning st callee) us ≡ raises (representation_error (codes "max_arity")) (codes "call") (further + 1)
refused_above st callee further h lt us e =
    let r = resolved_callable (value_of (substitution st)) (value_term st callee) h in
    too_many (further + 1) (meaning st callee) us r.0 (omega (arith, lt, e, r.1))

-- the goal with further arguments
pub goal_means : (st new : StoreView) (callee goal : BindingCell) (further : Arguments) (term : Term) → is_callable (value_term st callee) ≡ true → substitution new ≡ substitution st → value_term new goal ≡ term → term ≡ with_arguments (value_term st callee) (further_terms st further)
    → meaning new goal ≡ with_arguments (meaning st callee) (argument_terms st further)
goal_means st new callee goal further term h s t e = ap₂ resolve s (t ∙ e) ∙ added_resolved (value_of (substitution st)) (value_term st callee) (further_terms st further) h

pub call_refused : (st : StoreView) (callee reached : BindingCell) (further : Arguments) (fault : Fault) → meaning st reached ≡ meaning st callee → IsCallRefused st reached further.count fault
    → call_outcome (further.count + 1) (meaning st callee) (argument_terms st further) ≡ raises (error_term_of fault) (codes "call") (further.count + 1)
call_refused st callee reached further fault same r =
    ap (λ t. call_outcome (further.count + 1) t (argument_terms st further)) (sym same) ∙ r (argument_terms st further) (how_many (substitution st) (text_in st) further.base further.count further.at)

pub call_taken : (st : StoreView) (callee reached : BindingCell) (further : Arguments) (t : Term) → meaning st reached ≡ meaning st callee → CanTake st reached further.count → t ≡ with_arguments (meaning st reached) (argument_terms st further)
    → call_outcome (further.count + 1) (meaning st callee) (argument_terms st further) ≡ called (further.count + 1) t (called_goals t)
call_taken st callee reached further t same k e =
    let us = argument_terms st further in
    let r = resolved_callable (value_of (substitution st)) (value_term st reached) k.callable in
    let many = how_many (substitution st) (text_in st) further.base further.count further.at in
    let most = k.most in
    ap (λ u. call_outcome (further.count + 1) u us) (sym same)
    ∙ (not_too_many (further.count + 1) (meaning st reached) us r.0 (omega (arith, most, many, r.1)) ∙ ap (λ u. called (further.count + 1) u (called_goals u)) (sym e))

-- all arguments but the first
pub further_dropped : (st : StoreView) (a : Arguments) → 0 < a.count → argument_terms st (record { at = a.at + 1; base = a.base; count = a.count - 1 }) ≡ drop_terms 1 (argument_terms st a)
further_dropped st a some = by_count a.count refl
  where
    by_count : (n : ℕ) → a.count ≡ n → argument_terms st (record { at = a.at + 1; base = a.base; count = a.count - 1 }) ≡ drop_terms 1 (argument_terms st a)
    by_count zero e = absurd (omega (arith, some, e))
    by_count (suc n) e =
        let fewer : a.count - 1 ≡ n = omega (arith, e) in
        ap (λ m. apply_all (value_of (substitution st)) (terms_from (arguments_from (text_in st) a.base m (a.at + 1)))) fewer ∙ sym (ap (λ m. drop_terms 1 (apply_all (value_of (substitution st)) (terms_from (arguments_from (text_in st) a.base m a.at)))) e)

pub call_by_arguments : (st : StoreView) (a rest : Arguments) (callee : BindingCell) → 0 < a.count → rest ≡ record { at = a.at + 1; base = a.base; count = a.count - 1 } → meaning st callee ≡ term_at 0 (argument_terms st a)
    → call_outcome (rest.count + 1) (meaning st callee) (argument_terms st rest) ≡ call_outcome a.count (term_at 0 (argument_terms st a)) (drop_terms 1 (argument_terms st a))
call_by_arguments st a rest callee some r e =
    let number : rest.count + 1 ≡ a.count = omega (arith, ap (λ (b : Arguments). b.count) r, some) in
    ap (λ n. call_outcome n (meaning st callee) (argument_terms st rest)) number
    ∙ ap₂ (call_outcome a.count) e (ap (argument_terms st) r ∙ further_dropped st a some)
