-- Credits pass without a change of the world.
use Rattle.std.proofs.Common.{◌≡◌, ℕ, zero, suc, ◌≤◌, ◌<◌, false, List, [], ◌++◌, map, refl, sym, ap, ◌∙◌, arith}
use Rattle.au_model.specs.Terms.Each.{Each}
use Rattle.run_model.specs.Programs.Clauses.{Clause}
use Rattle.interleaving.specs.Machine.{Machine, gives, free_steps, run, is_finished}
use Rattle.tree_model.specs.Elements.{Record, Element}
use Rattle.interleaving.specs.Scopes.{Shared, Sought, scoped}
use Rattle.interleaving.specs.Quiet.{IsQuiet, inferences, records}
use Rattle.interleaving.specs.Laws.{CreditsPass, CreditsEnd}
use Rattle.interleaving.proofs.EarlyLemmas.{Ground, Runs, z-map}
use Rattle.interleaving.proofs.JoinedLemmas.{reached}
use Rattle.interleaving.proofs.InsideStepLemmas.{any_ground}
use Rattle.interleaving.proofs.CreditLawLemmas.{any-all, quiet_alone, further}
use Rattle.interleaving.proofs.AppendLemmas.{append-nil}

module _ {W X Q R : Type 0} (m : Machine W X Q R) (g : Ground m) where
  world_preserved : (k n : ℕ) (rs : List R) (a b : List X) → Runs m g k rs a b → n ≤ k → (w : W) (zs : List X) → Each g.Under zs
      → (run m n w (free_steps m [] (a ++ zs))).0 ≡ w
  world_preserved k zero rs a b h l w zs z = refl
  world_preserved zero (suc n) rs a b h l w zs z = absurd (omega arith)
  world_preserved (suc k) (suc n) rs a b h l w zs z = ap (λ s. (run m n s.0 s.1).0) (h.5 w zs z)
      ∙ world_preserved k n h.2 h.0 b h.6 (omega arith) w (map (gives m h.1) zs) (z-map m g h.1 zs z)

  goes_on : (k n : ℕ) (rs : List R) (a b : List X) → Runs m g k rs a b → n < k → (w : W) (zs : List X) → Each g.Under zs
      → is_finished (run m n w (free_steps m [] (a ++ zs))).1 ≡ false
  goes_on zero n rs a b h l w zs z = absurd (omega arith)
  goes_on (suc k) zero rs a b h l w zs z = h.4 zs z
  goes_on (suc k) (suc n) rs a b h l w zs z = ap (λ s. is_finished (run m n s.0 s.1).1) (h.5 w zs z)
      ∙ goes_on k n h.2 h.0 b h.6 (omega arith) w (map (gives m h.1) zs) (z-map m g h.1 zs z)

module _ (clauses : List Clause) where
  abbrev m : Machine Shared Element Sought Record
  m = scoped clauses

  pub credits_pass : (xs zs : List Element) (w : Shared) → IsQuiet xs → CreditsPass clauses xs zs w
  credits_pass xs zs w q =
      let r = quiet_alone clauses xs q in
      record {
        passed = reached m (any_ground clauses) (inferences xs) (records xs) xs [] r w zs (any-all zs);
        world = λ n l. world_preserved m (any_ground clauses) (inferences xs) n (records xs) xs [] r l w zs (any-all zs);
        going = λ n l. goes_on m (any_ground clauses) (inferences xs) n (records xs) xs [] r l w zs (any-all zs);
      }

  ended : (n : ℕ) (w : Shared) → run m n w [] ≡ (w, [])
  ended zero w = refl
  ended (suc n) w = ended n w

  pub credits_end : CreditsEnd clauses
  credits_end xs w n q =
      let all : run m (inferences xs) w (free_steps m [] xs) ≡ (w, []) = ap (λ l. run m (inferences xs) w (free_steps m [] l))
      (sym (append-nil xs)) ∙ (credits_pass xs [] w q).passed in
      further clauses (inferences xs) n w (free_steps m [] xs) ∙ ap (λ s. run m n s.0 s.1) all ∙ ended n w
