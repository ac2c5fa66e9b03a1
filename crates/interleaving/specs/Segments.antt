-- What a segment of the list does by itself.
use Rattle.std.specs.Prelude.{ℕ, zero, suc, Bool, true, ◌&&◌, cond, List, [], ◌∷◌, ◌++◌, map, ◌≡◌, Option, Some, None}
use Rattle.std.specs.Option.{option_map}
use Rattle.interleaving.specs.Machine.{Machine, Act, Drops, Becomes, Infers, AsksWorld, Look, On, Here, Replacement, Put, Only, Seek, gives}

-- an element that stays where it is until its inference is taken
abbrev pub IsActive : {W X Q R : Type 0} → Act W X Q R → Type 0
IsActive (Drops rs) = ⊥
IsActive (Becomes y) = ⊥
IsActive (Infers p) = Unit {0}
IsActive (AsksWorld g) = Unit {0}

abbrev pub all_inner : {R : Type 0} → (R → Bool) → List R → Bool
all_inner inner [] = true
all_inner inner (r ∷ rs) = inner r && all_inner inner rs

-- the records that leave the segment
abbrev pub outer : {R : Type 0} → (R → Bool) → List R → List R
outer inner [] = []
outer inner (r ∷ rs) = cond (inner r) (outer inner rs) (r ∷ outer inner rs)

module _ {W X Q R : Type 0} (m : Machine W X Q R) where
  -- a search that ends in the segment
  abbrev pub found_in : Look X Q → (Q → Option (List X)) → List X → Option (List X)
  found_in (On q) go xs = go q
  found_in (Here ys) go xs = Some (ys ++ xs)

  abbrev pub search_in : Q → List X → Option (List X)
  search_in q [] = None
  search_in q (x ∷ xs) = found_in (m.look q x) (λ p. search_in p xs) xs

  abbrev pub placed_in : Replacement X Q → List X → Option (List X)
  placed_in (Put ys) xs = Some (ys ++ xs)
  placed_in (Only ys) xs = None
  placed_in (Seek q) xs = search_in q xs

  -- inner: whether a record's findall entry belongs to the segment; passes: whether records may leave an element
  module _ (inner : R → Bool) (passes : List R → Bool) where
    abbrev pub freed_alone : Act W X Q R → X → List R → (List R → List R × List X) → List X → List R × List X
    freed_alone (Drops new) y rs go xs = cond (passes new) (go new) (outer inner rs, m.stands y ∷ xs)
    freed_alone (Becomes z) y rs go xs = (outer inner rs, z ∷ xs)
    freed_alone (Infers p) y rs go xs = (outer inner rs, y ∷ xs)
    freed_alone (AsksWorld g) y rs go xs = (outer inner rs, y ∷ xs)

    -- the free steps, with records under way: the records that leave the segment, and what is left of it
    abbrev pub free_steps_alone : List R → List X → List R × List X
    free_steps_alone rs [] = (outer inner rs, [])
    free_steps_alone rs (x ∷ xs) = freed_alone (m.act (gives m rs x)) (gives m rs x) rs (λ new. free_steps_alone (rs ++ new) xs)
        (map (gives m rs) xs)

    abbrev pub go_on : Option (List X) → (List X → Option (List R × List X)) → Option (List R × List X)
    go_on None go = None
    go_on (Some ys) go = go ys

    abbrev pub taken_alone : Act W X Q R → (List X → Option (List R × List X)) → List X → Option (List R × List X)
    taken_alone (Drops new) go xs = None
    taken_alone (Becomes y) go xs = None
    taken_alone (AsksWorld g) go xs = None
    taken_alone (Infers p) go xs = go_on (placed_in p xs) go

    abbrev pub front_alone : List X → (List X → Option (List R × List X)) → Option (List R × List X)
    front_alone [] go = None
    front_alone (x ∷ xs) go = taken_alone (m.act x) go xs

    -- so many inferences that stay in the segment, and the free steps after them; none where one would leave it
    abbrev pub run_alone : ℕ → List X → Option (List R × List X)
    run_alone zero a = Some (free_steps_alone [] a)
    run_alone (suc k) a =
        let s = free_steps_alone [] a in
        option_map (λ t. (s.0 ++ t.0, t.1)) (front_alone s.1 (run_alone k))

  -- the same as a relation
  pub data Private (inner : R → Bool) : ℕ → List R → List X → List X → Type 0 where
    private_none : (a : List X) → Private inner zero [] a a
    private_drops : (k : ℕ) (x : X) (new rs : List R) (xs b : List X) → m.act x ≡ Drops new
        → Private inner k rs (map (gives m new) xs) b → Private inner k (outer inner new ++ rs) (x ∷ xs) b
    private_remains : (k : ℕ) (x : X) (new rs : List R) (xs b : List X) → m.act x ≡ Drops new → m.act (m.stands x) ≡ Drops new
        → Private inner k rs (m.stands x ∷ xs) b → Private inner k rs (x ∷ xs) b
    private_changes : (k : ℕ) (x y : X) (rs : List R) (xs b : List X) → m.act x ≡ Becomes y → Private inner k rs (y ∷ xs) b
        → Private inner k rs (x ∷ xs) b
    private_infers : (k : ℕ) (x : X) (p : Replacement X Q) (rs : List R) (xs s b : List X) → m.act x ≡ Infers p → placed_in p xs ≡ Some s
        → Private inner k rs s b → Private inner (suc k) rs (x ∷ xs) b
