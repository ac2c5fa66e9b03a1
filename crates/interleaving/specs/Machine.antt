-- A machine that looks at the first element of a list alone, and what it means that two lists run alike.
use Rattle.std.specs.Prelude.{ℕ, zero, suc, Bool, true, false, List, [], ◌∷◌, ◌++◌, map, ◌≡◌}

-- what a search does at an element: it goes on, or it ends with these in the element's place
pub data Look (X Q : Type 0) : Type 0 where
  On : Q → Look X Q
  Here : List X → Look X Q

-- what takes an element's place: elements; elements in place of the whole list; what a cut or a ball leaves
pub data Replacement (X Q : Type 0) : Type 0 where
  Put : List X → Replacement X Q
  Only : List X → Replacement X Q
  Seek : Q → Replacement X Q

-- what an element does when it comes to the front
pub data Act (W X Q R : Type 0) : Type 0 where
  -- free: it goes, and its records go to what lies under it
  Drops : List R → Act W X Q R
  -- free: it becomes an element to be taken
  Becomes : X → Act W X Q R
  -- one inference
  Infers : Replacement X Q → Act W X Q R
  -- one inference on the world
  AsksWorld : (W → W × Replacement X Q) → Act W X Q R

pub record Machine (W X Q R : Type 0) : Type 0 where
  pub act : X → Act W X Q R
  pub look : Q → X → Look X Q
  -- what a search leaves that finds nothing
  pub lost : Q → List X
  pub give : R → X → X
  -- what is left of an element that is to go and is left standing
  pub stands : X → X

abbrev pub is_finished : {A : Type 0} → List A → Bool
is_finished [] = true
is_finished (x ∷ xs) = false

module _ {W X Q R : Type 0} (m : Machine W X Q R) where
  abbrev pub gives : List R → X → X
  gives [] x = x
  gives (r ∷ rs) x = gives rs (m.give r x)

  abbrev pub looked : Look X Q → (Q → List X) → List X → List X
  looked (On q) go xs = go q
  looked (Here ys) go xs = ys ++ xs

  abbrev pub search_for : Q → List X → List X
  search_for q [] = m.lost q
  search_for q (x ∷ xs) = looked (m.look q x) (λ p. search_for p xs) xs

  abbrev pub placed : Replacement X Q → List X → List X
  placed (Put ys) xs = ys ++ xs
  placed (Only ys) xs = ys
  placed (Seek q) xs = search_for q xs

  abbrev pub freed : Act W X Q R → X → (List R → List X) → List X → List X
  freed (Drops rs) x go xs = go rs
  freed (Becomes y) x go xs = y ∷ xs
  freed (Infers p) x go xs = x ∷ xs
  freed (AsksWorld g) x go xs = x ∷ xs

  -- the free steps, with records under way
  abbrev pub free_steps : List R → List X → List X
  free_steps rs [] = []
  free_steps rs (x ∷ xs) = freed (m.act (gives rs x)) (gives rs x) (λ new. free_steps (rs ++ new) xs) (map (gives rs) xs)

  abbrev pub acted : Act W X Q R → W → X → List X → W × List X
  acted (Drops rs) w x xs = (w, free_steps [] xs)
  acted (Becomes y) w x xs = (w, free_steps [] (y ∷ xs))
  acted (Infers p) w x xs = (w, free_steps [] (placed p xs))
  acted (AsksWorld g) w x xs = ((g w).0, free_steps [] (placed (g w).1 xs))

  -- one inference and the free steps after it
  abbrev pub step : W → List X → W × List X
  step w [] = (w, [])
  step w (x ∷ xs) = acted (m.act x) w x xs

  abbrev pub run : ℕ → W → List X → W × List X
  run zero w xs = (w, xs)
  run (suc n) w xs = let s = step w xs in run n s.0 s.1

-- what is seen of a state: the world, and whether the run has ended
abbrev pub seen : {W X : Type 0} → W × List X → W × Bool
seen s = (s.0, is_finished s.1)

-- two lists run alike
abbrev pub Alike : {W X Q R : Type 0} → Machine W X Q R → List X → List X → Type 0
Alike {W = W} m xs ys = (n : ℕ) (w : W) → seen (run m n w (free_steps m [] xs)) ≡ seen (run m n w (free_steps m [] ys))
