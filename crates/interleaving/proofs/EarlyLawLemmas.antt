-- The laws of the list.
use Rattle.std.proofs.Common.{◌≡◌, ℕ, zero, suc, Bool, true, false, ◌&&◌, cond, List, [], ◌∷◌, ◌++◌, map, Option, Some, None, refl, sym}
use Rattle.std.proofs.Common.{ap, ◌∙◌, subst}
use Rattle.std.proofs.lemmas.Bool.{false≢true}
use Rattle.std.specs.Option.{option_map}
use Rattle.au_model.specs.Terms.Each.{Each}
use Rattle.run_model.specs.Programs.Clauses.{Clause}
use Rattle.interleaving.specs.Machine.{Machine, Act, Drops, Becomes, Infers, AsksWorld, gives, Alike}
use Rattle.tree_model.specs.Elements.{Name, Record, Element, Credit}
use Rattle.interleaving.specs.Scopes.{Shared, Sought, scoped}
use Rattle.interleaving.specs.Segments.{all_inner, outer, placed_in, freed_alone, free_steps_alone, go_on, taken_alone, front_alone}
use Rattle.interleaving.specs.Segments.{run_alone, Private}
use Rattle.interleaving.specs.Views.{IsGrown, IsRecordApart, IsBlind, IsInner, IsUnder}
use Rattle.interleaving.specs.Laws.{is_inner_record, alone, run_off, IsSegment, SameAlone}
use Rattle.interleaving.proofs.RunFrontLemmas.{some-same, none-some}
use Rattle.interleaving.proofs.EarlyLemmas.{Ground, Early, early}
use Rattle.interleaving.proofs.AloneLemmas.{private_of_alone, private_runs, private-ok}
use Rattle.interleaving.proofs.ApartLemmas.{IsSoughtApart, blind_closed, inner_unseen, inner-preserves}
use Rattle.interleaving.proofs.InsideLemmas.{IsSoughtInner, IsAnyRecord, inner_closed, under_ground, preserved_inside}
use Rattle.interleaving.proofs.InsideStepLemmas.{become_active, still_drops, inner_stands}
use Rattle.interleaving.proofs.QuietCreditLemmas.{private-outer}
use Rattle.interleaving.proofs.AppendLemmas.{append-nil}

module _ (clauses : List Clause) where
  abbrev m : Machine Shared Element Sought Record
  m = scoped clauses

  abbrev AloneRun : (Name → Bool) → ℕ → List Record → List Element → List Element → Type 0
  AloneRun inside k rs a b = Private (scoped clauses) (is_inner_record inside) k rs a b

  gives-apart : (inside : Name → Bool) (rs : List Record) (x : Element) → Each (IsRecordApart inside) rs → IsInner inside x
      → gives m rs x ≡ x
  gives-apart inside [] x h i = refl
  gives-apart inside (r ∷ rs) x h i = ap (gives m rs) (inner-preserves clauses inside r x i h.0) ∙ gives-apart inside rs x h.1 i

  map-apart : (inside : Name → Bool) (rs : List Record) (xs : List Element) → Each (IsRecordApart inside) rs → Each (IsInner inside) xs
      → map (gives m rs) xs ≡ xs
  map-apart inside rs [] h i = refl
  map-apart inside rs (x ∷ xs) h i = let head = gives-apart inside rs x h i.0 in let tail = map-apart inside rs xs h i.1 in cc

  pub private_inner : (inside : Name → Bool) (k : ℕ) (rs : List Record) (a b : List Element) → IsGrown inside → Each (IsInner inside) a
      → AloneRun inside k rs a b → Each (IsInner inside) b
  private_inner inside k rs a b grown i r = private-ok m (is_inner_record inside) (IsInner inside) (IsSoughtInner clauses inside)
      (IsAnyRecord clauses inside) (inner_closed clauses inside grown) (inner_stands inside) k rs a b r i

  -- a segment as the proofs take it
  pub record Pending (inside : Name → Bool) (pre a zs : List Element) : Type 0 where
    pub grown : IsGrown inside
    pub front : Each (IsBlind inside) pre
    pub own : Each (IsInner inside) a
    pub under : Each (IsUnder inside) zs

  pub segment_pending : (inside : Name → Bool) (pre a zs : List Element) → IsSegment inside pre a zs → Pending inside pre a zs
  segment_pending inside pre a zs s = record { grown = s.grown; front = s.front; own = s.own; under = s.under }

  -- what is done privately may be done early
  pub private_early : (inside : Name → Bool) (k : ℕ) (rs : List Record) (pre a b zs : List Element) → Pending inside pre a zs
      → AloneRun inside k rs a b → Alike m (pre ++ (a ++ zs)) (pre ++ (Credit k rs ∷ (b ++ zs)))
  private_early inside k rs pre a b zs s r =
      let g : Ground m = under_ground clauses inside in
      let inner = private_inner inside k rs a b s.grown s.own r in
      let e : Early m g (IsBlind inside) (IsSoughtApart clauses inside) (IsRecordApart inside) (blind_closed clauses inside) k rs a b =
      record {
        runs = private_runs m (is_inner_record inside) g (λ o. preserved_inside clauses inside o) (become_active clauses) k rs a b r;
        own = map-apart inside rs b (private-outer m (is_inner_record inside) k rs a b r) inner;
        old = inner_unseen clauses inside a s.own;
        new = inner_unseen clauses inside b inner;
      } in
      early m g (IsBlind inside) (IsSoughtApart clauses inside) (IsRecordApart inside) (blind_closed clauses inside) k rs a b e pre zs
      s.front s.under

  pub done_alike : (inside : Name → Bool) (k : ℕ) (rs : List Record) (pre a b zs : List Element) → Pending inside pre a zs
      → run_off clauses inside k a ≡ Some (rs, b) → Alike m (pre ++ (a ++ zs)) (pre ++ (Credit k rs ∷ (b ++ zs)))
  done_alike inside k rs pre a b zs s e = private_early inside k rs pre a b zs s
      (private_of_alone m (is_inner_record inside) (λ new. true) (still_drops clauses) k a b rs e)

  pub same_alone : SameAlone clauses
  same_alone inside k rs pre a c b zs s i e f n w =
      done_alike inside k rs pre a b zs (segment_pending inside pre a zs s) e n w
      ∙ sym (done_alike inside k rs pre c b zs (segment_pending inside pre c zs i) f n w)

  -- where collect marks are left standing no record leaves
  all-append : (inner : Record → Bool) (rs qs : List Record) → all_inner inner rs ≡ true → all_inner inner qs ≡ true
      → all_inner inner (rs ++ qs) ≡ true
  all-append inner [] qs h k = k
  all-append inner (r ∷ rs) qs h k = go (inner r) h (λ e. all-append inner rs qs e k)
    where
      go : (t : Bool) → (t && all_inner inner rs) ≡ true → (all_inner inner rs ≡ true → all_inner inner (rs ++ qs) ≡ true)
          → (t && all_inner inner (rs ++ qs)) ≡ true
      go true e next = next e
      go false e next = e

  outer-none : (inner : Record → Bool) (rs : List Record) → all_inner inner rs ≡ true → outer inner rs ≡ []
  outer-none inner [] h = refl
  outer-none inner (r ∷ rs) h = go (inner r) h (λ e. outer-none inner rs e)
    where
      go : (t : Bool) → (t && all_inner inner rs) ≡ true → (all_inner inner rs ≡ true → outer inner rs ≡ [])
          → cond t (outer inner rs) (r ∷ outer inner rs) ≡ []
      go true e next = next e
      go false e next = absurd (false≢true e)

  takes_free-none : (inner : Record → Bool) (rs : List Record) (xs : List Element) → all_inner inner rs ≡ true
      → (free_steps_alone m inner (all_inner inner) rs xs).0 ≡ []
  takes_free-none inner rs [] h = outer-none inner rs h
  takes_free-none inner rs (x ∷ xs) h = go (m.act (gives m rs x)) (λ new k. takes_free-none inner (rs ++ new) xs (all-append inner rs new h k))
    where
      pick : (new : List Record) (t : Bool) → all_inner inner new ≡ t
          → (all_inner inner new ≡ true → (free_steps_alone m inner (all_inner inner) (rs ++ new) xs).0 ≡ [])
          → (cond t (free_steps_alone m inner (all_inner inner) (rs ++ new) xs)
          (outer inner rs, m.stands (gives m rs x) ∷ map (gives m rs) xs)).0 ≡ []
      pick new true e next = next e
      pick new false e next = outer-none inner rs h

      go : (a : Act Shared Element Sought Record)
          → ((new : List Record) → all_inner inner new ≡ true → (free_steps_alone m inner (all_inner inner) (rs ++ new) xs).0 ≡ [])
          → (freed_alone m inner (all_inner inner) a (gives m rs x) rs
          (λ new. free_steps_alone m inner (all_inner inner) (rs ++ new) xs) (map (gives m rs) xs)).0 ≡ []
      go (Drops new) next = pick new (all_inner inner new) refl (next new)
      go (Becomes y) next = outer-none inner rs h
      go (Infers p) next = outer-none inner rs h
      go (AsksWorld p) next = outer-none inner rs h

  abbrev ahead : List Record → List Record × List Element → List Record × List Element
  ahead first t = (first ++ t.0, t.1)

  none-leave : (inner : Record → Bool) (k : ℕ) (a b : List Element) (rs : List Record) → run_alone m inner (all_inner inner) k a
      ≡ Some (rs, b) → rs ≡ []
  none-leave inner zero a b rs e =
      let whole = some-same (free_steps_alone m inner (all_inner inner) [] a) (rs, b) e in
      sym (ap (λ s. s.0) whole) ∙ takes_free-none inner [] a refl
  none-leave inner (suc k) a b rs e = front (free_steps_alone m inner (all_inner inner) [] a).1 e
      (λ ys t f. none-leave inner k ys t.1 t.0 f)
    where
      first : List Record
      first = (free_steps_alone m inner (all_inner inner) [] a).0

      Later : Type 0
      Later = (ys : List Element) (t : List Record × List Element) → run_alone m inner (all_inner inner) k ys ≡ Some (t.0, t.1) → t.0 ≡ []

      taken : (o : Option (List Record × List Element)) → ((t : List Record × List Element) → o ≡ Some (t.0, t.1) → t.0 ≡ [])
          → option_map (ahead first) o ≡ Some (rs, b) → rs ≡ []
      taken None next h = none-some (rs, b) h
      taken (Some t) next h =
          let whole = some-same (ahead first t) (rs, b) h in
          let none : t.0 ≡ [] = next t refl in
          sym (ap (λ s. s.0) whole) ∙ ap (λ l. first ++ l) none ∙ append-nil first ∙ takes_free-none inner [] a refl

      place : (o : Option (List Element))
          → option_map (ahead first) (go_on m inner (all_inner inner) o (run_alone m inner (all_inner inner) k)) ≡ Some (rs, b) → Later
          → rs ≡ []
      place None h next = none-some (rs, b) h
      place (Some ys) h next = taken (run_alone m inner (all_inner inner) k ys) (λ t f. next ys t f) h

      act-of : (o : Act Shared Element Sought Record) (xs : List Element)
          → option_map (ahead first) (taken_alone m inner (all_inner inner) o (run_alone m inner (all_inner inner) k) xs) ≡ Some (rs, b)
          → Later → rs ≡ []
      act-of (Drops new) xs h next = none-some (rs, b) h
      act-of (Becomes y) xs h next = none-some (rs, b) h
      act-of (AsksWorld p) xs h next = none-some (rs, b) h
      act-of (Infers p) xs h next = place (placed_in m p xs) h next

      front : (ys : List Element) → option_map (ahead first)
          (front_alone m inner (all_inner inner) ys (run_alone m inner (all_inner inner) k)) ≡ Some (rs, b) → Later → rs ≡ []
      front [] h next = none-some (rs, b) h
      front (x ∷ xs) h next = act-of (m.act x) xs h next

  -- the private run as a function is one
  pub private_alone : (inside : Name → Bool) (k : ℕ) (a b : List Element) → alone clauses inside k a ≡ Some b → AloneRun inside k [] a b
  private_alone inside k a b e = go (run_alone m inner (all_inner inner) k a) refl e
    where
      inner : Record → Bool
      inner r = inside r.0

      go : (o : Option (List Record × List Element)) → run_alone m inner (all_inner inner) k a ≡ o → option_map (λ s. s.1) o ≡ Some b
          → Private m inner k [] a b
      go None f h = none-some b h
      go (Some t) f h =
          let none : t.0 ≡ [] = none-leave inner k a t.1 t.0 f in
          subst (λ l. Private m inner k l a b) none
          (subst (Private m inner k t.0 a) (some-same t.1 b h)
          (private_of_alone m inner (all_inner inner) (still_drops clauses) k a t.1 t.0 f))
