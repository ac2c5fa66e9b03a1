-- What compounds' places hold.
use Rattle.std.proofs.Common.{◌≡◌, ℕ, zero, suc, ◌+◌, ◌<◌, ◌≤◌, true, List, [], ◌∷◌, length, take, drop, get_or, map, refl, sym, ap, ap₂, ◌∙◌, subst, arith}
use Rattle.std.proofs.lemmas.List.{length-drop}
use Rattle.au_term.specs.Term.{Term, Compound as CompoundTerm, more, var_bound, all_bound}
use Rattle.au_term.specs.Shifted.{shifted, all_shifted}
use Rattle.au_model.specs.Terms.Each.{Each}
use Rattle.au_model.specs.Terms.Lists.{terms_from}
use Rattle.clause_compile.specs.AtomNumbers.{name_at}
use Rattle.clause_compile.specs.Places.{CodeView, AreSound, StandBefore, BeginsCompound, IsPlaceBefore, IsPlaceOf, place_meaning, compound_to, compound_here, meaning_in, is_ground_place}
use Rattle.clause_compile.specs.declared.place.Place.{Place}
use Rattle.clause_compile.specs.declared.place.Place.TheVariants.{Functor, Var as VarPlace, Int as IntPlace, Atom as AtomPlace, Sub, Ground}
use Rattle.clause_compile.proofs.PlaceMeaningLemmas.{deep_same}
use Rattle.clause_compile.proofs.GroundPlaceLemmas.{ground_bound, ground_shifted}
use Rattle.binding_array.specs.Represented.{cell_term}
use Rattle.binding_array.specs.declared.cell.BindingCell.TheVariants.{Compound}
use Rattle.cell_store.specs.Values.{IsValue}
use Rattle.cell_store.specs.Arguments.{code_place, argument_at, arguments_from, AreArguments, HasFunctor}

-- a place that was read
pub place_read : (code : CodeView) (at : ℕ) (p : Place) → drop at code.places ≡ p ∷ drop (at + 1) code.places → code_place code at ≡ p
place_read code at p e = go code.places at e
  where
    go : (ps : List Place) (i : ℕ) → drop i ps ≡ p ∷ drop (i + 1) ps → get_or ps i (VarPlace 0) ≡ p
    go [] zero e = absurd cc
    go [] (suc i) e = absurd cc
    go (q ∷ qs) zero e = cc
    go (q ∷ qs) (suc i) e = let k : suc i + 1 ≡ suc (i + 1) = omega arith in go qs i (e ∙ ap (λ j. p ∷ drop j (q ∷ qs)) k)

-- arguments by the places that follow
taken_from : (code : CodeView) (base n at : ℕ) → at + n ≤ length code.places → arguments_from code base n at ≡ map (λ p. shifted base (meaning_in code p)) (take n (drop at code.places))
taken_from code base zero at le = refl
taken_from code base (suc n) at le =
    ap₂ (λ t ts. t ∷ ts) refl (taken_from code base n (at + 1) (omega arith)) ∙ ap (λ ps. map (λ p. shifted base (meaning_in code p)) ps) (sym (front code.places at (omega arith)))
  where
    front : (ps : List Place) (i : ℕ) → i < length ps → take (suc n) (drop i ps) ≡ get_or ps i (VarPlace 0) ∷ take n (drop (i + 1) ps)
    front [] i lt = absurd (omega arith)
    front (p ∷ ps) zero lt = refl
    front (p ∷ ps) (suc i) lt = let k : suc i + 1 ≡ suc (i + 1) = omega arith in rw k (front ps i (omega arith))

shifted_list : (base : ℕ) (f : Place → Term) (ps : List Place) → all_shifted base (terms_from (map f ps)) ≡ terms_from (map (λ p. shifted base (f p)) ps)
shifted_list base f [] = refl
shifted_list base f (p ∷ ps) = ap (more (shifted base (f p))) (shifted_list base f ps)

place_of : (code : CodeView) (at : ℕ) (p : Place) → at ≤ length code.places → IsPlaceBefore (length code.names) code.places at p → IsPlaceOf code p
place_of code at (Functor f n) le b = b
place_of code at (VarPlace v) le b = tt
place_of code at (IntPlace z) le b = tt
place_of code at (AtomPlace a) le b = b
place_of code at (Sub i) le b = (omega (arith, b.0), b.1)
place_of code at (Ground i) le b = (omega (arith, b.0), b.1, b.2)

-- deeper is the same
deeper : (code : CodeView) (m at : ℕ) (p : Place) → AreSound (length code.names) code.places → at ≤ m → IsPlaceBefore (length code.names) code.places at p → place_meaning code.names (compound_to m code.names code.places) p ≡ place_meaning code.names (compound_to (suc m) code.names code.places) p
deeper code m at (Functor f n) s le b = absurd b
deeper code m at (VarPlace v) s le b = refl
deeper code m at (IntPlace z) s le b = refl
deeper code m at (AtomPlace a) s le b = refl
deeper code m at (Sub i) s le b = deep_same (length code.names) code.names code.places s m (suc m) i (omega (arith, b.0)) (omega (arith, b.0)) b.1
deeper code m at (Ground i) s le b = deep_same (length code.names) code.names code.places s m (suc m) i (omega (arith, b.0)) (omega (arith, b.0)) b.1

all_deeper : (code : CodeView) (m at : ℕ) (ps : List Place) → AreSound (length code.names) code.places → at ≤ m → Each (IsPlaceBefore (length code.names) code.places at) ps
    → map (place_meaning code.names (compound_to m code.names code.places)) ps ≡ map (place_meaning code.names (compound_to (suc m) code.names code.places)) ps
all_deeper code m at [] s le b = refl
all_deeper code m at (p ∷ ps) s le b = ap₂ (λ t ts. t ∷ ts) (deeper code m at p s le b.0) (all_deeper code m at ps s le b.1)

argument_bounds : (next base : ℕ) (code : CodeView) (n at : ℕ) → AreSound (length code.names) code.places → at + n ≤ length code.places → Each (IsPlaceOf code) (take n (drop at code.places)) → all_bound (terms_from (arguments_from code base n at)) ≤ next → AreArguments code next base n at
argument_bounds next base code zero at s le b h = tt
argument_bounds next base code (suc n) at s le b h =
    let split = front code.places at (omega arith) in
    let both = subst (Each (IsPlaceOf code)) split b in
    (record { within = omega arith; place = both.0; below = omega arith }, argument_bounds next base code n (at + 1) s (omega arith) both.1 (omega arith))
  where
    front : (ps : List Place) (i : ℕ) → i < length ps → take (suc n) (drop i ps) ≡ get_or ps i (VarPlace 0) ∷ take n (drop (i + 1) ps)
    front [] i lt = absurd (omega arith)
    front (p ∷ ps) zero lt = refl
    front (p ∷ ps) (suc i) lt = let k : suc i + 1 ≡ suc (i + 1) = omega arith in rw k (front ps i (omega arith))

-- a compound whose functor was read
pub opened : (code : CodeView) (next at f n : ℕ) → AreSound (length code.names) code.places → drop at code.places ≡ Functor f n ∷ drop (at + 1) code.places → (base : ℕ) → IsValue code next (Compound at base) → HasFunctor code next at base f n
opened code next at f n s e base v =
    let begins = subst (BeginsCompound (length code.names)) e v.0.1 in
    let within : at < length code.places = v.0.0 in
    let enough : (at + 1) + n ≤ length code.places = omega (arith, begins.1, length-drop (at + 1) code.places) in
    let stand = subst (StandBefore (length code.names) code.places at) e (s at) in
    let args = take n (drop (at + 1) code.places) in
    let places : Each (IsPlaceOf code) args = all_of args stand.1 in
    let term : cell_term code (Compound at base) ≡ CompoundTerm (name_at code.names f) (terms_from (arguments_from code base n (at + 1))) =
    ap (shifted base) (deep (length code.places) within (omega arith) stand.1)
    ∙ (ap (CompoundTerm (name_at code.names f)) (shifted_list base (meaning_in code) args) ∙ ap (λ ts. CompoundTerm (name_at code.names f) (terms_from ts)) (sym (taken_from code base n (at + 1) enough))) in
    record { named = begins.0; arity = stand.2; arguments = argument_bounds next base code n (at + 1) s enough places (subst (λ t. var_bound t ≤ next) term v.1); term = term }
  where
    all_of : (ps : List Place) → Each (IsPlaceBefore (length code.names) code.places at) ps → Each (IsPlaceOf code) ps
    all_of [] b = tt
    all_of (p ∷ ps) b = (place_of code at p (let lt = v.0.0 in omega arith) b.0, all_of ps b.1)

    deep : (m : ℕ) → at < m → m ≤ length code.places → Each (IsPlaceBefore (length code.names) code.places at) (take n (drop (at + 1) code.places))
        → compound_to m code.names code.places at ≡ CompoundTerm (name_at code.names f) (terms_from (map (place_meaning code.names (compound_to m code.names code.places)) (take n (drop (at + 1) code.places))))
    deep zero lt le b = absurd (omega arith)
    deep (suc m) lt le b =
        ap (compound_here code.names (compound_to m code.names code.places)) e
        ∙ ap (λ ts. CompoundTerm (name_at code.names f) (terms_from ts)) (all_deeper code m at (take n (drop (at + 1) code.places)) s (omega arith) b)

pub not_functor : (code : CodeView) (at : ℕ) (p : Place) → BeginsCompound (length code.names) (drop at code.places) → drop at code.places ≡ p ∷ drop (at + 1) code.places → ((f n : ℕ) → p ≡ Functor f n → ⊥) → ⊥
not_functor code at (Functor f n) b e h = h f n refl
not_functor code at (VarPlace v) b e h = subst (BeginsCompound (length code.names)) e b
not_functor code at (IntPlace z) b e h = subst (BeginsCompound (length code.names)) e b
not_functor code at (AtomPlace a) b e h = subst (BeginsCompound (length code.names)) e b
not_functor code at (Sub i) b e h = subst (BeginsCompound (length code.names)) e b
not_functor code at (Ground i) b e h = subst (BeginsCompound (length code.names)) e b

-- a compound without variables is the same value whatever is added to them
pub ground_term : (code : CodeView) (at base : ℕ) → AreSound (length code.names) code.places → IsPlaceOf code (Ground at) → cell_term code (Compound at 0) ≡ shifted base (meaning_in code (Ground at))
ground_term code at base s b = ground_shifted code (Ground at) 0 s b refl ∙ sym (ground_shifted code (Ground at) base s b refl)

pub ground_there : (code : CodeView) (next at : ℕ) → AreSound (length code.names) code.places → IsPlaceOf code (Ground at) → IsValue code next (Compound at 0)
ground_there code next at s b =
    let bound : var_bound (shifted 0 (meaning_in code (Ground at))) ≡ 0 = ap var_bound (ground_shifted code (Ground at) 0 s b refl) ∙ ground_bound code (Ground at) s b refl in
    ((b.0, b.1), omega (arith, bound))

pub other_ground : (code : CodeView) (p : Place) → IsPlaceOf code p → ((v : ℕ) → p ≡ VarPlace v → ⊥) → ((i : ℕ) → p ≡ Sub i → ⊥) → is_ground_place p ≡ true
other_ground code (Functor f n) b v s = absurd b
other_ground code (VarPlace w) b v s = absurd (v w refl)
other_ground code (IntPlace z) b v s = refl
other_ground code (AtomPlace a) b v s = refl
other_ground code (Sub i) b v s = absurd (s i refl)
other_ground code (Ground i) b v s = refl

-- nothing occurs in an argument without variables
pub ground_argument : (code : CodeView) (base at : ℕ) → AreSound (length code.names) code.places → IsPlaceOf code (code_place code at) → is_ground_place (code_place code at) ≡ true → var_bound (argument_at code base at) ≡ 0
ground_argument code base at s b e = ap var_bound (ground_shifted code (code_place code at) base s b e) ∙ ground_bound code (code_place code at) s b e

pub compound_within : (code : CodeView) (at : ℕ) → IsPlaceOf code (Sub at) → at < length code.places
compound_within code at p = p.0

-- its arguments are within the text
pub arguments_within : (code : CodeView) (at f n : ℕ) → IsPlaceOf code (Sub at) → drop at code.places ≡ Functor f n ∷ drop (at + 1) code.places → at + n < length code.places
arguments_within code at f n p e = let begins = subst (BeginsCompound (length code.names)) e p.1 in let within = p.0 in omega (arith, begins.1, length-drop (at + 1) code.places)
