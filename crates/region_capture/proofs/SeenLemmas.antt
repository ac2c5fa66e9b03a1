-- Variables that were seen, one after another.
use Rattle.std.proofs.Common.{◌≡◌, ◌⊎◌, inl, inr, ℕ, zero, suc, ◌+◌, ◌<◌, ◌≤◌, Bool, true, false, List, [], ◌∷◌, ◌++◌, append_assoc, append-nil, get_or, set, length, length-append, length-set, get_or-set_same, refl, sym, ap, ◌∙◌, subst, arith}
use Rattle.std.specs.List.{Contains}
use Rattle.std.proofs.lemmas.List.{map-append}
use Rattle.std.proofs.lemmas.List.Elements.{Contains-append_left, Contains-push, Contains-push_cases}
use Rattle.au_term.specs.Term.{Term, VarTerm}
use Rattle.au_term.specs.declared.segment.Binding.{Binding}
use Rattle.au_model.specs.Terms.Each.{Each}
use Rattle.au_model.specs.Terms.Substitutions.{value_of}
use Rattle.au_model.proofs.EachLemmas.{each-append, each-more}
use Rattle.clause_compile.specs.Places.{CodeView}
use Rattle.binding_array.specs.Represented.{cell_term, IsFalling}
use Rattle.binding_array.specs.declared.cell.BindingCell.{BindingCell}
use Rattle.binding_array.specs.declared.cell.BindingCell.TheVariants.{Free, Var, Int, Atom, Compound as BoundCompound}
use Rattle.cell_store.specs.StoreView.{StoreView}
use Rattle.cell_store.specs.Values.{IsValue}
use Rattle.cell_store.proofs.CellMeaningLemmas.{means_compound}
use Rattle.cell_store.proofs.SubstitutionLemmas.{no_variable}
use Rattle.branch_bindings.specs.Extensions.{IsBoundAmong, BindOnce}
use Rattle.region_capture.specs.CapturedMeanings.{captured_bindings}
use Rattle.region_capture.specs.CapturedChoices.{BoundThen}
use Rattle.region_capture.specs.CapturedRegions.{bound_at}
use Rattle.region_capture.specs.KeptLevels.{IsSeen, SeesBelow, IsKeptBinding, KeepsSeen}
use Rattle.region_capture.specs.NeededBindings.{AddsBound, AddsBinding, unseen, SeesMore}
use Rattle.region_capture.specs.declared.needed.Needed.{Needed}

-- a flag that is set
pub seen_set : (seen : List Bool) (i v : ℕ) → get_or seen v false ≡ true → get_or (set seen i true) v false ≡ true
seen_set [] i v h = h
seen_set (b ∷ seen) zero zero h = refl
seen_set (b ∷ seen) zero (suc v) h = h
seen_set (b ∷ seen) (suc i) zero h = h
seen_set (b ∷ seen) (suc i) (suc v) h = seen_set seen i v h

pub set_only : (seen : List Bool) (i v : ℕ) → get_or (set seen i true) v false ≡ true → (get_or seen v false ≡ true) ⊎ (v ≡ i)
set_only [] i v h = inl h
set_only (b ∷ seen) zero zero h = inr refl
set_only (b ∷ seen) zero (suc v) h = inl h
set_only (b ∷ seen) (suc i) zero h = inl h
set_only (b ∷ seen) (suc i) (suc v) h = elim (set_only seen i v h) [ inl k ↦ inl k | inr e ↦ inr (ap suc e) ]

set_fewer : (seen : List Bool) (i : ℕ) → i < length seen → get_or seen i false ≡ false → unseen (set seen i true) + 1 ≡ unseen seen
set_fewer [] i lt h = absurd (omega (arith, lt))
set_fewer (true ∷ seen) zero lt h = absurd cc
set_fewer (false ∷ seen) zero lt h = omega arith
set_fewer (b ∷ seen) (suc i) lt h = let e = set_fewer seen i (omega (arith, lt)) h in omega (arith, e)

pub seen_within : (seen : List Bool) (v : ℕ) → get_or seen v false ≡ true → v < length seen
seen_within [] v h = absurd cc
seen_within (b ∷ seen) zero h = omega arith
seen_within (b ∷ seen) (suc v) h = let lt = seen_within seen v h in omega (arith, lt)

-- bindings of which one comes last
pub written_append : (xs ys : List Binding) → captured_bindings (xs ++ ys) ≡ captured_bindings xs ++ captured_bindings ys
written_append xs ys = map-append (λ (b : Binding). (b.var, b.value)) xs ys

pub once_push : (xs : List Binding) (b : Binding) → BindOnce (captured_bindings xs) → Each (λ x. x.var ≡ b.var → ⊥) xs → BindOnce (captured_bindings (xs ++ b ∷ []))
once_push [] b o n = (λ value c. let lt = c.1 in absurd (omega (arith, lt)), tt)
once_push (x ∷ xs) b o n = (
  λ value c. elim (Contains-push_cases (captured_bindings xs) (b.var, b.value) (x.var, value) (subst (λ bs. Contains bs (x.var, value)) (written_append xs (b ∷ [])) c)) [
    | inl k ↦ o.0 value k
    | inr e ↦ n.0 (sym (ap (λ (p : ℕ × Term). p.0) e))
  ],
  once_push xs b o.1 n.1,
)

-- what is free or bound among bindings is so with one more
abbrev IsFreeOrBound : StoreView → List Binding → ℕ → Type 0
IsFreeOrBound st bs v = (value_of st.now.bound v ≡ VarTerm v) ⊎ IsBoundAmong (captured_bindings bs) v

pub among_still : (st : StoreView) (bs : List Binding) (b : Binding) (v : ℕ) → IsFreeOrBound st bs v → IsFreeOrBound st (bs ++ b ∷ []) v
among_still st bs b v (inl f) = inl f
among_still st bs b v (inr k) =
    inr (record {
      value = k.value;
      is = subst (λ xs. Contains xs (v, k.value)) (sym (written_append bs (b ∷ []))) (Contains-append_left (captured_bindings bs) ((b.var, b.value) ∷ []) (v, k.value) k.is);
    })

pub among_last : (bs : List Binding) (b : Binding) (v : ℕ) → b.var ≡ v → IsBoundAmong (captured_bindings (bs ++ b ∷ [])) v
among_last bs b v is = record {
  value = b.value;
  is = subst (λ xs. Contains xs (v, b.value)) (sym (written_append bs (b ∷ []))) (subst (λ x. Contains (captured_bindings bs ++ (b.var, b.value) ∷ []) (x, b.value)) is (Contains-push (captured_bindings bs) (b.var, b.value)));
}

-- as much is kept where further variables were seen
pub keeps_with : (under now : BoundThen) (old new : List Bool) (bs cs : List Binding) → KeepsSeen under now old bs → ((v : ℕ) → IsSeen old v → IsSeen new v) → Each (IsKeptBinding under now new) cs → BindOnce (captured_bindings cs)
    → ((v : ℕ) → value_of under.bound v ≡ VarTerm v → IsSeen new v → (value_of now.bound v ≡ VarTerm v) ⊎ IsBoundAmong (captured_bindings cs) v) → KeepsSeen under now new cs
keeps_with under now old new bs cs k kept each once all = record {
  later = k.later;
  unbound = k.unbound;
  below = k.below;
  further = k.further;
  new = k.new;
  each = each;
  once = once;
  all = all;
  older = λ v lt free. elim (k.older v lt free) [ inl f ↦ inl f | inr h ↦ inr (kept v h) ];
}

pub kept_still : (under now : BoundThen) (old new : List Bool) → ((v : ℕ) → IsSeen old v → IsSeen new v) → (bs : List Binding) → Each (IsKeptBinding under now old) bs → Each (IsKeptBinding under now new) bs
kept_still under now old new kept bs k =
    each-more (IsKeptBinding under now old) (IsKeptBinding under now new) (λ b h. record { is_seen = kept b.var h.is_seen; there = h.there; free = h.free; stands = h.stands; older = h.older; below = h.below }) bs k

-- a variable is seen
module _ (st : StoreView) (first : ℕ) (old new : Needed) (v : ℕ) (there : v < st.now.next) (long : st.now.next ≤ length old.seen) (not_yet : get_or old.seen v false ≡ false)
    (set_is : new.seen ≡ set old.seen v true) where
  within : v < length old.seen
  within = omega (arith, long, there)

  same_long : length new.seen ≡ length old.seen
  same_long = ap length set_is ∙ length-set old.seen v true

  still : (w : ℕ) → IsSeen old.seen w → IsSeen new.seen w
  still w h = subst (λ xs. get_or xs w false ≡ true) (sym set_is) (seen_set old.seen v w h)

  alone : (w : ℕ) → IsSeen new.seen w → IsSeen old.seen w ⊎ (w ≡ v)
  alone w h = set_only old.seen v w (subst (λ xs. get_or xs w false ≡ true) set_is h)

  pub now_seen : IsSeen new.seen v
  now_seen = subst (λ xs. get_or xs v false ≡ true) (sym set_is) (get_or-set_same old.seen v true false within)

  less : unseen new.seen + 1 ≡ unseen old.seen
  less = ap (λ xs. unseen xs + 1) set_is ∙ set_fewer old.seen v within not_yet

  sees_below : SeesBelow st.now.next old.seen new.seen
  sees_below = record { kept = still; only = λ w h. elim (alone w h) [ inl k ↦ inl k | inr e ↦ inr (omega (arith, e, there)) ] }

  unlike : (w : ℕ) → IsSeen old.seen w → w ≡ v → ⊥
  unlike w h e = let seen : get_or old.seen v false ≡ true = subst (λ x. get_or old.seen x false ≡ true) e h in let no : false ≡ true = sym not_yet ∙ seen in absurd cc

  -- without a further binding
  sees_same : new.bindings ≡ old.bindings → ((under : BoundThen) → first ≡ under.next → KeepsSeen under (bound_at st.now) old.seen old.bindings → value_of under.bound v ≡ VarTerm v → value_of st.now.bound v ≡ VarTerm v)
      → SeesMore st first old new
  sees_same same free = record {
    below = sees_below;
    long = same_long;
    keeps = λ under e k.
        keeps_with under (bound_at st.now) old.seen new.seen old.bindings new.bindings k still
        (subst (Each (IsKeptBinding under (bound_at st.now) new.seen)) (sym same) (kept_still under (bound_at st.now) old.seen new.seen still old.bindings k.each))
        (subst (λ bs. BindOnce (captured_bindings bs)) (sym same) k.once)
        (λ w f h. elim (alone w h) [
          | inl o ↦ subst (λ bs. IsFreeOrBound st bs w) (sym same) (k.all w f o)
          | inr i ↦ inl (subst (λ x. value_of st.now.bound x ≡ VarTerm x) (sym i) (free under e k (subst (λ x. value_of under.bound x ≡ VarTerm x) i f)))
        ]);
    more = [];
    added = same ∙ sym (append-nil old.bindings);
    fewer = let l = less in let n : length new.bindings ≡ length old.bindings = ap (λ (bs : List Binding). length bs) same in omega (arith, l, n);
  }

  pub sees_older : new.bindings ≡ old.bindings → v < first → SeesMore st first old new
  sees_older same lt = sees_same same (λ under e k free. elim (k.older v (omega (arith, lt, e)) free) [ inl f ↦ f | inr h ↦ absurd (unlike v h refl) ])

  -- with its binding
  sees_bound : first ≤ v → AddsBound st v old.bindings new.bindings → SeesMore st first old new
  sees_bound le a = record {
    below = sees_below;
    long = same_long;
    keeps = λ under e k.
        let b = a.binding in
        let w = a.written in
        let own : IsKeptBinding under (bound_at st.now) new.seen b
        = record {
          is_seen = subst (IsSeen new.seen) (sym w.is) now_seen;
          there = let i = w.is in omega (arith, i, there);
          free = k.unbound b.var (let i = w.is in omega (arith, i, le, e));
          stands = ap (value_of st.now.bound) w.is ∙ w.stands;
          older = λ u is. let lt = w.older u is in let i = w.is in omega (arith, lt, i);
          below = w.below;
        } in
        keeps_with under (bound_at st.now) old.seen new.seen old.bindings new.bindings k still
        (subst (Each (IsKeptBinding under (bound_at st.now) new.seen)) (sym a.added) (each-append (IsKeptBinding under (bound_at st.now) new.seen) old.bindings (b ∷ []) (kept_still under (bound_at st.now) old.seen new.seen still old.bindings k.each) (own, tt)))
        (subst (λ bs. BindOnce (captured_bindings bs)) (sym a.added) (once_push old.bindings b k.once (each-more (IsKeptBinding under (bound_at st.now) old.seen) (λ x. x.var ≡ b.var → ⊥) (λ x h i. unlike x.var h.is_seen (i ∙ w.is)) old.bindings k.each)))
        (λ u f h. subst (λ bs. IsFreeOrBound st bs u) (sym a.added) (elim (alone u h) [
          | inl o ↦ among_still st old.bindings b u (k.all u f o)
          | inr i ↦ inr (among_last old.bindings b u (w.is ∙ sym i))
        ]));
    more = a.binding ∷ [];
    added = a.added;
    fewer = let l = less in let n : length new.bindings ≡ length old.bindings + 1 = ap (λ (bs : List Binding). length bs) a.added ∙ length-append old.bindings (a.binding ∷ []) in omega (arith, l, n);
  }

  pub sees_written : first ≤ v → AddsBinding st v old.bindings new.bindings → SeesMore st first old new
  sees_written le (inl h) = sees_same h.1 (λ under e k free. h.0)
  sees_written le (inr a) = sees_bound le a

-- one after another
pub below_nothing : (next : ℕ) (a : List Bool) → SeesBelow next a a
below_nothing next a = record { kept = λ v h. h; only = λ v h. inl h }

pub below_twice : (next : ℕ) (a b c : List Bool) → SeesBelow next a b → SeesBelow next b c → SeesBelow next a c
below_twice next a b c p q = record { kept = λ v h. q.kept v (p.kept v h); only = λ v h. elim (q.only v h) [ inl k ↦ p.only v k | inr lt ↦ inr lt ] }

pub sees_nothing : (st : StoreView) (first : ℕ) (n : Needed) → SeesMore st first n n
sees_nothing st first n = record {
  below = below_nothing st.now.next n.seen;
  long = refl;
  keeps = λ under e k. k;
  more = [];
  added = sym (append-nil n.bindings);
  fewer = omega arith;
}

pub sees_twice : (st : StoreView) (first : ℕ) (a b c : Needed) → SeesMore st first a b → SeesMore st first b c → SeesMore st first a c
sees_twice st first a b c p q = record {
  below = below_twice st.now.next a.seen b.seen c.seen p.below q.below;
  long = q.long ∙ p.long;
  keeps = λ under e k. q.keeps under e (p.keeps under e k);
  more = p.more ++ q.more;
  added = q.added ∙ (ap (λ xs. xs ++ q.more) p.added ∙ append_assoc a.bindings p.more q.more);
  fewer = let f = p.fewer in let g = q.fewer in omega (arith, f, g);
}

-- a value that is a variable is an older one
pub older_value : (code : CodeView) (n v w : ℕ) (c : BindingCell) → IsValue code n c → IsFalling v c → cell_term code c ≡ VarTerm w → w < v
older_value code n v w Free h falls e = absurd h
older_value code n v w (Var u) h falls e = let same : u ≡ w = cc in omega (arith, falls, same)
older_value code n v w (Int z) h falls e = absurd cc
older_value code n v w (Atom a) h falls e = absurd cc
older_value code n v w (BoundCompound at base) h falls e = absurd (no_variable (cell_term code (BoundCompound at base)) w (means_compound code at base h.0) e)
