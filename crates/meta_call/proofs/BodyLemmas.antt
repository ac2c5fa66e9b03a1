-- Bodies of values, part by part.
use Rattle.std.proofs.Common.{◌≡◌, ℕ, zero, suc, ◌+◌, ◌<◌, true, false, cond, List, [], ◌∷◌, ◌++◌, length, map, reverse, Option, Some, None, refl, sym, ap, ◌∙◌, subst, arith, append_assoc, append-nil, length-append}
use Rattle.std.specs.Option.{option_map}
use Rattle.au_term.specs.Term.{Term, Terms, Compound, end, more}
use Rattle.au_term.specs.PrefixOrder.{cells_of, due_after}
use Rattle.au_term.specs.declared.cell.Cell.{Cell}
use Rattle.au_term.specs.declared.cell.Cell.TheVariants.{Functor}
use Rattle.au_term.proofs.WholeTermLemmas.{due_after-append}
use Rattle.au_model.specs.Terms.Each.{Each}
use Rattle.au_model.specs.Terms.Forms.{binary}
use Rattle.au_model.specs.Terms.Lists.{terms_from}
use Rattle.au_model.specs.Terms.Unifier.{size}
use Rattle.au_model.proofs.EachLemmas.{each-append}
use Rattle.au_model.proofs.UnifierMeasureLemmas.{size_pos}
use Rattle.run_model.specs.Programs.Bodies.{body_of, is_junction, junction}
use Rattle.clause_compile.specs.AtomNumbers.{name_at}
use Rattle.clause_compile.specs.NormalBodies.{joined_cells, bodies_cells}
use Rattle.clause_compile.proofs.NormalBodyLemmas.{junction_body, junction-cells, joined-end, joined-start, joined-twice, due_after_term, same_body, no_cells}
use Rattle.binding_array.specs.declared.cell.BindingCell.{BindingCell}
use Rattle.cell_store.specs.Arguments.{sizes, arguments_from, HasFunctor, resolved_terms}
use Rattle.cell_store.specs.StoreView.{StoreView, IsValueIn, meaning, substitution, text_in}
use Rattle.cell_store.proofs.WalkLemmas.{opened_term, turned}
use Rattle.region_control.proofs.GoalLemmas.{last_there}
use Rattle.meta_call.specs.OwnBodies.{IsOwnBody, IsJunctionOf, pending_meanings, pending_bodies, KeepsPart}

-- the parts of a body that are its own are those of a junction
junction_own : (f : List ℕ) (a b : Term) (x y : Option Term) → junction f x y ≡ Some (binary f a b) → (x ≡ Some a) × (y ≡ Some b)
junction_own f a b (Some x) (Some y) e =
    let whole : binary f x y ≡ binary f a b = cc in
    let left : x ≡ a = cc in
    let right : y ≡ b = cc in
    (ap Some left, ap Some right)
junction_own f a b (Some x) None e = absurd cc
junction_own f a b None y e = absurd cc

pub both_own : (f : List ℕ) (a b : Term) → is_junction f ≡ true → IsOwnBody (binary f a b) → IsOwnBody a × IsOwnBody b
both_own f a b j e = junction_own f a b (body_of a) (body_of b) (sym (junction_body f a b j) ∙ e)

pub own_both : (f : List ℕ) (a b : Term) → is_junction f ≡ true → IsOwnBody a → IsOwnBody b → IsOwnBody (binary f a b)
own_both f a b j x y = junction_body f a b j ∙ rw x (rw y refl)

-- what is no junction
pub other_count_own : (f : List ℕ) (ts : List Term) → (length ts ≡ 2 → ⊥) → IsOwnBody (Compound f (terms_from ts))
other_count_own f [] ne = refl
other_count_own f (t ∷ []) ne = refl
other_count_own f (t ∷ u ∷ []) ne = absurd (ne refl)
other_count_own f (t ∷ u ∷ v ∷ ts) ne = refl

pub other_name_own : (f : List ℕ) (ts : Terms) → is_junction f ≡ false → IsOwnBody (Compound f ts)
other_name_own f end h = refl
other_name_own f (more a end) h = refl
other_name_own f (more a (more b end)) h = ap (λ k. cond k (junction f (body_of a) (body_of b)) (Some (binary f a b))) h
other_name_own f (more a (more b (more c ts))) h = refl

module _ (st : StoreView) (value reached : BindingCell) (at base f n : ℕ) (same : meaning st reached ≡ meaning st value) (is : reached ≡ BindingCell.Compound at base) (h : HasFunctor (text_in st) st.now.next at base f n) where
  abbrev parts : List Term
  parts = resolved_terms (substitution st) (arguments_from (text_in st) base n (at + 1))

  many : (k i : ℕ) → length (resolved_terms (substitution st) (arguments_from (text_in st) base k i)) ≡ k
  many zero i = refl
  many (suc k) i = let rest = many k (i + 1) in omega (arith, rest)

  term : meaning st value ≡ Compound (name_at (text_in st).names f) (terms_from parts)
  term = sym same ∙ (ap (meaning st) is ∙ opened_term (substitution st) (name_at (text_in st).names f) (arguments_from (text_in st) base n (at + 1)) _ h.term)

  pub not_two : (n ≡ 2 → ⊥) → IsOwnBody (meaning st value)
  not_two ne = subst IsOwnBody (sym term) (other_count_own (name_at (text_in st).names f) parts (λ two. let k = many n (at + 1) in ne (omega (arith, two, k))))

  pub no_junction : is_junction (name_at (text_in st).names f) ≡ false → IsOwnBody (meaning st value)
  no_junction differs = subst IsOwnBody (sym term) (other_name_own (name_at (text_in st).names f) (terms_from parts) differs)

-- the value that comes next and those that are pending
abbrev pub left_terms : StoreView → Option BindingCell → List BindingCell → List Term
left_terms st None pending = []
left_terms st (Some value) pending = meaning st value ∷ pending_meanings st pending

abbrev pub AreLeftIn : StoreView → Option BindingCell → List BindingCell → Type 0
AreLeftIn st None pending = Unit {0}
AreLeftIn st (Some value) pending = IsValueIn st value × Each (IsValueIn st) (reverse pending)

-- a term is its own body where what is left of it is
pub record IsOwnWith (st : StoreView) (t : Term) (next : Option BindingCell) (pending : List BindingCell) : Type 0 where
  pub all : Each IsOwnBody (left_terms st next pending) → IsOwnBody t
  pub each : IsOwnBody t → Each IsOwnBody (left_terms st next pending)
  pub there : AreLeftIn st next pending

pub own_begun : (st : StoreView) (value : BindingCell) (pending : List BindingCell) → pending ≡ [] → IsValueIn st value → IsOwnWith st (meaning st value) (Some value) pending
own_begun st value pending e v = subst (IsOwnWith st (meaning st value) (Some value)) (sym e) (record { all = λ h. h.0; each = λ h. (h, tt); there = (v, tt) })

-- both sides of a junction
module _ (st : StoreView) (t : Term) (value : BindingCell) (pending more : List BindingCell) (name : ℕ) (left right : BindingCell) (w : IsOwnWith st t (Some value) pending) (j : IsJunctionOf st value name left right) (pushed : more ≡ pending ++ right ∷ []) where
  waiting : left_terms st (Some left) more ≡ meaning st left ∷ meaning st right ∷ pending_meanings st pending
  waiting = ap (λ vs. meaning st left ∷ map (meaning st) vs) (ap reverse pushed ∙ turned pending right)

  pub own_sides : IsOwnWith st t (Some left) more
  own_sides =
      let f = name_at (text_in st).names name in
      record {
        all = λ h. let k = subst (Each IsOwnBody) waiting h in w.all (subst IsOwnBody (sym j.term) (own_both f (meaning st left) (meaning st right) j.joins k.0 k.1.0), k.1.1);
        each = λ h. let k = w.each h in let both = both_own f (meaning st left) (meaning st right) j.joins (subst IsOwnBody j.term k.0) in subst (Each IsOwnBody) (sym waiting) (both.0, (both.1, k.1));
        there = (j.there.0, subst (Each (IsValueIn st)) (sym (ap reverse pushed ∙ turned pending right)) (j.there.1, w.there.1));
      }

  pub sides_smaller : sizes (left_terms st (Some left) more) < sizes (left_terms st (Some value) pending)
  sides_smaller = omega (arith, ap sizes waiting, ap size j.term)

-- what is built and the bodies of what is pending are the cells of the whole body
pub record AreKept (st : StoreView) (t : Term) (built : List Cell) (pending : List BindingCell) : Type 0 where
  pub due : due_after 1 built ≡ length pending
  pub all : joined_cells (Some built) (pending_bodies st pending) ≡ option_map cells_of (body_of t)
  pub there : Each (IsValueIn st) pending

pub kept_begun : (st : StoreView) (value : BindingCell) (built : List Cell) (pending : List BindingCell) → built ≡ [] → pending ≡ value ∷ [] → IsValueIn st value → AreKept st (meaning st value) built pending
kept_begun st value built pending b p v =
    subst (λ cs. AreKept st (meaning st value) cs pending) (sym b) (subst (AreKept st (meaning st value) []) (sym p) (record {
      due = refl;
      all = joined-start (bodies_cells (more (meaning st value) end)) ∙ joined-end (body_of (meaning st value));
      there = (v, tt);
    }))

-- the last of what is pending is taken
module _ (st : StoreView) (t : Term) (built : List Cell) (pending rest : List BindingCell) (value : BindingCell) (popped : pending ≡ rest ++ value ∷ []) (k : AreKept st t built pending) where
  taken_there : Each (IsValueIn st) rest × IsValueIn st value
  taken_there = last_there st rest value (subst (Each (IsValueIn st)) popped k.there)

  pub value_there : IsValueIn st value
  value_there = taken_there.1

  top_first : pending_meanings st pending ≡ meaning st value ∷ pending_meanings st rest
  top_first = ap (λ vs. map (meaning st) (reverse vs)) popped ∙ ap (map (meaning st)) (turned rest value)

  pub one_due : due_after 1 built ≡ suc (length rest)
  one_due = k.due ∙ (ap length popped ∙ (length-append rest (value ∷ []) ∙ omega arith))

  here : joined_cells (Some built) (joined_cells (option_map cells_of (body_of (meaning st value))) (pending_bodies st rest)) ≡ option_map cells_of (body_of t)
  here = ap (λ ts. joined_cells (Some built) (bodies_cells (terms_from ts))) (sym top_first) ∙ k.all

  pub kept_on : (now : List Cell) (new : List BindingCell) → KeepsPart st value built now rest new → AreKept st t now new
  kept_on now new s = record { due = s.due one_due; all = s.same ∙ here; there = s.there taken_there.0 }

  pub kept_smaller : (now : List Cell) (new : List BindingCell) → KeepsPart st value built now rest new → sizes (pending_meanings st new) < sizes (pending_meanings st pending)
  kept_smaller now new s = omega (arith, s.fewer, ap sizes top_first)

  pub no_whole : body_of (meaning st value) ≡ None → None ≡ body_of t
  no_whole e = no_cells (body_of t) (sym (ap (λ o. joined_cells (Some built) (joined_cells (option_map cells_of o) (pending_bodies st rest))) e) ∙ here)

pub all_kept : (st : StoreView) (t u : Term) (built : List Cell) (pending : List BindingCell) → AreKept st t built pending → pending ≡ [] → cells_of u ≡ built → Some u ≡ body_of t
all_kept st t u built pending k none e =
    same_body u (body_of t) (ap Some (e ∙ sym (append-nil built)) ∙ (ap (λ vs. joined_cells (Some built) (pending_bodies st vs)) (sym none) ∙ k.all))

-- a goal is kept, as it is or as a call
pub keeps_one : (st : StoreView) (value : BindingCell) (kept : Term) (built now : List Cell) (old new : List BindingCell) → body_of (meaning st value) ≡ Some kept → now ≡ built ++ cells_of kept → new ≡ old → KeepsPart st value built now old new
keeps_one st value kept built now old new b n e = subst (KeepsPart st value built now old) (sym e) (record {
  same = ap (λ cs. joined_cells (Some cs) (pending_bodies st old)) n ∙ (joined-twice built (cells_of kept) (pending_bodies st old) ∙ ap (λ o. joined_cells (Some built) (joined_cells (option_map cells_of o) (pending_bodies st old))) (sym b));
  due = λ d. ap (due_after 1) n ∙ (due_after-append 1 built (cells_of kept) ∙ (ap (λ k. due_after k (cells_of kept)) d ∙ due_after_term kept (length old)));
  fewer = omega (arith, size_pos (meaning st value));
  there = λ h. h;
})

pub keeps_sides : (st : StoreView) (value : BindingCell) (name : ℕ) (left right : BindingCell) (built now : List Cell) (old new : List BindingCell) → IsJunctionOf st value name left right → now ≡ built ++ Functor (name_at (text_in st).names name) 2 ∷ [] → new ≡ (old ++ right ∷ []) ++ left ∷ []
    → KeepsPart st value built now old new
keeps_sides st value name left right built now old new j n p =
    let f = name_at (text_in st).names name in
    let listed : new ≡ old ++ right ∷ left ∷ [] = p ∙ append_assoc old (right ∷ []) (left ∷ []) in
    let waiting : pending_meanings st new ≡ meaning st left ∷ meaning st right ∷ pending_meanings st old = ap (λ vs. map (meaning st) vs) (ap reverse p ∙ (turned (old ++ right ∷ []) left ∙ ap (λ vs. left ∷ vs) (turned old right))) in
    let both = joined_cells (option_map cells_of (body_of (meaning st left))) (joined_cells (option_map cells_of (body_of (meaning st right))) (pending_bodies st old)) in
    let step : due_after (suc (length old)) (Functor f 2 ∷ []) ≡ suc (suc (length old)) = omega arith in
    record {
      same = ap (λ ts. joined_cells (Some now) (bodies_cells (terms_from ts))) waiting ∙ (ap (λ cs. joined_cells (Some cs) both) n ∙ (joined-twice built (Functor f 2 ∷ []) both
          ∙ ap (joined_cells (Some built)) (sym (junction-cells f (body_of (meaning st left)) (body_of (meaning st right)) (pending_bodies st old)) ∙ ap (λ o. joined_cells (option_map cells_of o) (pending_bodies st old)) (sym (ap body_of j.term ∙ junction_body f (meaning st left) (meaning st right) j.joins)))));
      due = λ d. ap (due_after 1) n ∙ (due_after-append 1 built (Functor f 2 ∷ []) ∙ (ap (λ k. due_after k (Functor f 2 ∷ [])) d ∙ (step ∙ sym (ap length listed ∙ (length-append old (right ∷ left ∷ []) ∙ omega arith)))));
      fewer = omega (arith, ap sizes waiting, ap size j.term);
      there = λ h. subst (Each (IsValueIn st)) (sym listed) (each-append (IsValueIn st) old (right ∷ left ∷ []) h (j.there.1, (j.there.0, tt)));
    }
