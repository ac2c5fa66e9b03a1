-- A ball finds the recovery of the catch that takes it, or nothing.
use Rattle.std.proofs.Common.{◌≡◌, ℕ, ◌==◌, Bool, true, false, cond, List, [], ◌∷◌, ◌++◌, map, length, Option, Some, None, refl, sym, ap}
use Rattle.std.proofs.Common.{◌∙◌, subst}
use Rattle.au_term.specs.Term.{Term}
use Rattle.run_model.specs.Programs.Clauses.{Clause}
use Rattle.au_model.specs.Terms.Substitutions.{Substitution}
use Rattle.au_model.specs.Terms.Unifier.{unifier}
use Rattle.au_model.specs.Terms.Copies.{copied}
use Rattle.run_model.specs.Machine.Items.{Continuation, first_mark}
use Rattle.run_model.specs.Machine.Entries.{CatchEntry}
use Rattle.tree_model.specs.Nodes.{Dormant, Status, Pending, Inner}
use Rattle.tree_model.specs.Levels.{Level, level_node, plug}
use Rattle.tree_model.specs.PendingLists.{way_of, scope_on, named_continuation, list_right, back_of}
use Rattle.tree_model.specs.SoundTrees.{IsOpen}
use Rattle.tree_model.specs.CaughtTrees.{catch_right}
use Rattle.tree_model.specs.Elements.{Name, same, Record, Element, Credit, Plain, EndOf, Catch, Findall, End}
use Rattle.interleaving.specs.Machine.{Machine, Look, On, Here, gives, looked, search_for}
use Rattle.interleaving.specs.Scopes.{Shared, Sought, Scope, Thrown, Caught, look, recovery_look, scoped}
use Rattle.interleaving.specs.Segments.{found_in, search_in}
use Rattle.interleaving.proofs.ContextLemmas.{IsAround}
use Rattle.interleaving.proofs.WayLemmas.{cond-true, cond-false}
use Rattle.interleaving.proofs.ListScopeLemmas.{IsDistinct, distinct-up, dormant_on}
use Rattle.interleaving.proofs.ListMarkLemmas.{catch_dormant}
use Rattle.interleaving.proofs.ClosingListLemmas.{Guards}
use Rattle.interleaving.proofs.WakeLemmas.{second_right}
use Rattle.interleaving.proofs.CaughtContextLemmas.{RootCaught}
use Rattle.interleaving.proofs.LowerListLemmas.{lower_back}
use Rattle.interleaving.proofs.CatchingLemmas.{Catching, Uncaught, CaughtBy, caught_or, right_falls, catching, MarkIsDormant, first_dormant}
use Rattle.interleaving.proofs.CatchingLemmas.{dormant_way}
use Rattle.interleaving.proofs.CatchingLemmas.{dormant_marks, dormant_guards}
use Rattle.interleaving.proofs.BallSearchLemmas.{mark_name, second_step, catch_element, named_recovery, next_in, thrown_pass, to_catch}
use Rattle.interleaving.proofs.BallSearchLemmas.{end_pass, right_passes, mark_up, mark_apart, to_side, Finds, passes_level, off_catcher}
use Rattle.au_term.proofs.LogicLemmas.{number_same}

module _ (clauses : List Clause) where
  abbrev m : Machine Shared Element Sought Record
  m = scoped clauses

  -- a catch takes the ball, or lets it go on
  at_catch : (ball : Term) (o : Name) (rs : List Record) (v : Level) (rest : List Level) (status : Status) (s : ℕ) (y t : Term)
      (g : Continuation ℕ) → IsAround (v ∷ rest) IsOpen → IsDistinct (v ∷ rest) → RootCaught (plug (v ∷ rest) status)
      → Guards v (CatchEntry y t g) → (v.number == s) ≡ true
      → ((k : Option ℕ) → MarkIsDormant rest k → Finds clauses ball o rs rest k) → (b : Option Substitution)
      → unifier ((y, copied ball g.next) ∷ []) ≡ b
      → (w : Level) (up : List Level) (r : Term) (f : Continuation ℕ) (u : Substitution)
      → caught_or b v rest t g (catching ball rest (first_mark g.items)) ≡ CaughtBy w up r f u → (x : Term)
      → unifier ((x, copied ball f.next) ∷ []) ≡ Some u → (zs : List Element)
      → search_in m (Thrown ball (mark_name (way_of (v ∷ rest)) (Some s)) o)
      (map (gives m rs) (lower_back w.number (v ∷ rest) ++ to_side clauses w up x r f zs))
      ≡ Some (named_recovery ball w up r f u ∷ map (gives m rs) zs)
  at_catch ball o rs v rest status s y t g a d h q e more (Some z) n w up r f u k x un zs = (subst Found k here) x un
    where
      itself : scope_on (way_of (v ∷ rest)) s ≡ 0 ∷ v.number ∷ []
      itself = cond-true (v.number == s) _ (scope_on (way_of rest) s) e ∙ ap (λ l. length l ∷ v.number ∷ []) q.left

      Found : Catching → Type 0
      Found Uncaught = Unit {0}
      Found (CaughtBy w2 up2 r2 f2 u2) = (x2 : Term) → unifier ((x2, copied ball f2.next) ∷ []) ≡ Some u2
          → search_in m (Thrown ball (mark_name (way_of (v ∷ rest)) (Some s)) o)
          (map (gives m rs) (lower_back w2.number (v ∷ rest) ++ to_side clauses w2 up2 x2 r2 f2 zs))
          ≡ Some (named_recovery ball w2 up2 r2 f2 u2 ∷ map (gives m rs) zs)

      here : Found (CaughtBy v rest t g z)
      here x2 un2 =
          ap (λ n. search_in m (Thrown ball (Some n) o)
          (map (gives m rs) (lower_back v.number (v ∷ rest) ++ to_side clauses v rest x2 t g zs)))
          itself
          ∙ (ap (λ l. search_in m (Thrown ball (Some (0 ∷ v.number ∷ [])) o) (map (gives m rs) (l ++ to_side clauses v rest x2 t g zs)))
          (cond-true (v.number == v.number) [] _ (number_same v.number))
          ∙ (to_catch clauses ball x2 t o rs v rest g zs
          ∙ ap (λ c. found_in m (recovery_look c ball t (1 ∷ v.number ∷ []) (0 ∷ 1 ∷ v.number ∷ [])
          (named_continuation (second_step v ∷ way_of rest) g)
          (Thrown ball (mark_name (second_step v ∷ way_of rest) (first_mark g.items)) o)) (λ p. search_in m p (map (gives m rs) zs))
          (map (gives m rs) zs)) un2))
  at_catch ball o rs v rest status s y t g a d h q e more None n w up r f u k x un zs =
      let mark = first_mark g.items in
      let sleeps = first_dormant rest g.items (dormant_marks v rest status y t g q.spent h q.right) in
      let off = off_catcher clauses ball v rest status mark a h sleeps w up r f u k in
      let tail = lower_back w.number rest ++ to_side clauses w up x r f zs in
      let itself : scope_on (way_of (v ∷ rest)) s ≡ 0 ∷ v.number ∷ [] = cond-true (v.number == s) _ (scope_on (way_of rest) s) e
      ∙ ap (λ l. length l ∷ v.number ∷ []) q.left in
      let list : lower_back w.number (v ∷ rest) ++ to_side clauses w up x r f zs
      ≡ EndOf (0 ∷ v.number ∷ []) ∷ (catch_element v rest y t g ∷ (EndOf (1 ∷ v.number ∷ []) ∷ tail)) =
      ap (λ l. l ++ to_side clauses w up x r f zs)
      (cond-false (v.number == w.number) [] (list_right (way_of rest) v ++ lower_back w.number rest) off
      ∙ ap (λ l. l ++ lower_back w.number rest)
      (second_right v rest q.spent (Pending Dormant (CatchEntry y t g)) q.left q.right)) in
      ap (λ n. search_in m (Thrown ball (Some n) o)
      (map (gives m rs) (lower_back w.number (v ∷ rest) ++ to_side clauses w up x r f zs))) itself
      ∙ (ap (λ l. search_in m (Thrown ball (Some (0 ∷ v.number ∷ [])) o) (map (gives m rs) l)) list
      ∙ (to_catch clauses ball y t o rs v rest g (EndOf (1 ∷ v.number ∷ []) ∷ tail)
      ∙ (ap (λ c. found_in m (recovery_look c ball t (1 ∷ v.number ∷ []) (0 ∷ 1 ∷ v.number ∷ [])
      (named_continuation (second_step v ∷ way_of rest) g) (Thrown ball (mark_name (second_step v ∷ way_of rest) mark) o))
      (λ p. search_in m p (map (gives m rs) (EndOf (1 ∷ v.number ∷ []) ∷ tail)))
      (map (gives m rs) (EndOf (1 ∷ v.number ∷ []) ∷ tail))) n
      ∙ (ap (λ c. search_in m (Thrown ball c o) (map (gives m rs) (EndOf (1 ∷ v.number ∷ []) ∷ tail)))
      (mark_up clauses v rest mark a.0.new sleeps)
      ∙ (end_pass clauses ball (mark_name (way_of rest) mark) o rs v.number tail (mark_apart clauses v rest mark a.0.new sleeps)
      ∙ more mark sleeps w up r f u k x un zs)))))

  pub finds : (ball : Term) (o : Name) (rs : List Record) (levels : List Level) (status : Status) (mark : Option ℕ)
      → IsAround levels IsOpen → IsDistinct levels → RootCaught (plug levels status) → MarkIsDormant levels mark
      → Finds clauses ball o rs levels mark
  finds ball o rs [] status mark a d h k w up r f u e x un zs = let no_way : ⊥ = cc in absurd no_way
  finds ball o rs (v ∷ rest) status None a d h k w up r f u e x un zs = let no_way : ⊥ = cc in absurd no_way
  finds ball o rs (v ∷ rest) status (Some s) a d h k w up r f u e x un zs = go (v.number == s) refl k e
      (λ j l. finds ball o rs rest (Inner (level_node v status)) j a.1 (distinct-up v rest d) h l)
    where
      go : (b : Bool) → (v.number == s) ≡ b → cond b (catch_right v.right) (dormant_on rest s) ≡ true
          → cond b (right_falls ball v rest v.right (catching ball rest)) (catching ball rest (Some s)) ≡ CaughtBy w up r f u
          → ((j : Option ℕ) → MarkIsDormant rest j → Finds clauses ball o rs rest j)
          → search_in m (Thrown ball (mark_name (way_of (v ∷ rest)) (Some s)) o)
          (map (gives m rs) (lower_back w.number (v ∷ rest) ++ to_side clauses w up x r f zs))
          ≡ Some (named_recovery ball w up r f u ∷ map (gives m rs) zs)
      go false q l z more =
          passes_level clauses ball o rs v rest s d a.0.new (dormant_way rest s l) q w
          (off_catcher clauses ball v rest status (Some s) a h l w up r f u z) (to_side clauses w up x r f zs)
          ∙ more (Some s) l w up r f u z x un zs
      go true q l z more =
          let c = catch_dormant v l in
          let g = dormant_guards v rest (CatchEntry c.0 c.1 c.2) a.0 c.3 in
          at_catch ball o rs v rest status s c.0 c.1 c.2 a d h g q more (unifier ((c.0, copied ball c.2.next) ∷ [])) refl w up r f u
          (subst (λ right. right_falls ball v rest right (catching ball rest) ≡ CaughtBy w up r f u) g.right z) x un zs

  -- what is found within a list is what is found
  pub search_found : (q : Sought) (xs ys : List Element) → search_in m q xs ≡ Some ys → search_for m q xs ≡ ys
  search_found q [] ys e = let no_way : ⊥ = cc in absurd no_way
  search_found q (x ∷ xs) ys e = go (look q x) e (λ p z. search_found p xs ys z)
    where
      go : (l : Look Element Sought) → found_in m l (λ p. search_in m p xs) xs ≡ Some ys
          → ((p : Sought) → search_in m p xs ≡ Some ys → search_for m p xs ≡ ys) → looked m l (λ p. search_for m p xs) xs ≡ ys
      go (On p) z f = f p z
      go (Here zs) z f = some_is z
        where
          some_is : {xs ys : List Element} → Some xs ≡ Some ys → xs ≡ ys
          some_is z = cc

  -- a ball that finds nothing
  abbrev IsBallOf : Term → Name → Sought → Type 0
  IsBallOf b o (Scope h x) = ⊥
  IsBallOf b o (Thrown c k p) = (b ≡ c) × (o ≡ p)
  IsBallOf b o (Caught c h p) = (b ≡ c) × (o ≡ p)

  abbrev LooksOf : Term → Name → Look Element Sought → Type 0
  LooksOf b o (On q) = IsBallOf b o q
  LooksOf b o (Here ys) = Unit {0}

  either_look : (b : Term) (o : Name) (t : Bool) (x y : Look Element Sought) → LooksOf b o x → LooksOf b o y → LooksOf b o (cond t x y)
  either_look b o true x y h k = h
  either_look b o false x y h k = k

  recovered_look : (b : Term) (o : Name) (s : Option Substitution) (c r : Term) (u p : Name) (f : Continuation Name) (q : Sought)
      → IsBallOf b o q → LooksOf b o (recovery_look s c r u p f q)
  recovered_look b o None c r u p f q h = h
  recovered_look b o (Some s) c r u p f q h = tt

  look_of : (b : Term) (o : Name) (q : Sought) (x : Element) → IsBallOf b o q → LooksOf b o (look q x)
  look_of b o (Scope h y) x k = absurd k
  look_of b o (Thrown c None p) (Credit n rs) k = k
  look_of b o (Thrown c None p) (Plain n f) k = k
  look_of b o (Thrown c None p) (EndOf s) k = k
  look_of b o (Thrown c None p) (Catch s u y r n f) k = k
  look_of b o (Thrown c None p) (Findall s u rs l n f) k = k
  look_of b o (Thrown c None p) (End n a) k = k
  look_of b o (Thrown c (Some h) p) (Credit n rs) k = k
  look_of b o (Thrown c (Some h) p) (Plain n f) k = k
  look_of b o (Thrown c (Some h) p) (EndOf s) k = either_look b o (same h s) (On (Caught c h p)) (On (Thrown c (Some h) p)) k k
  look_of b o (Thrown c (Some h) p) (Catch s u y r n f) k = k
  look_of b o (Thrown c (Some h) p) (Findall s u rs l n f) k = k
  look_of b o (Thrown c (Some h) p) (End n a) k = k
  look_of b o (Caught c h p) (Credit n rs) k = k
  look_of b o (Caught c h p) (Plain n f) k = k
  look_of b o (Caught c h p) (EndOf s) k = k
  look_of b o (Caught c h p) (Catch s u y r n f) k =
      either_look b o (same h s) (recovery_look (unifier ((y, copied c f.next) ∷ [])) c r u n f (Thrown c (first_mark f.items) p))
      (On (Caught c h p)) (recovered_look b o (unifier ((y, copied c f.next) ∷ [])) c r u n f (Thrown c (first_mark f.items) p) k) k
  look_of b o (Caught c h p) (Findall s u rs l n f) k = k
  look_of b o (Caught c h p) (End n a) k = k

  lost_of : (b : Term) (o : Name) (q : Sought) → IsBallOf b o q → m.lost q ≡ End o (Some (copied b 0)) ∷ []
  lost_of b o (Scope h x) k = absurd k
  lost_of b o (Thrown c h p) k = ap (λ (n : Name). End n (Some (copied c 0)) ∷ []) (sym k.1)
      ∙ ap (λ t. End o (Some (copied t 0)) ∷ []) (sym k.0)
  lost_of b o (Caught c h p) k = ap (λ (n : Name). End n (Some (copied c 0)) ∷ []) (sym k.1)
      ∙ ap (λ t. End o (Some (copied t 0)) ∷ []) (sym k.0)

  pub none_lost : (b : Term) (o : Name) (q : Sought) (xs : List Element) → IsBallOf b o q → search_in m q xs ≡ None → search_for m q xs
      ≡ End o (Some (copied b 0)) ∷ []
  none_lost b o q [] k e = lost_of b o q k
  none_lost b o q (x ∷ xs) k e = go (look q x) (look_of b o q x k) e (λ p l z. none_lost b o p xs l z)
    where
      go : (l : Look Element Sought) → LooksOf b o l → found_in m l (λ p. search_in m p xs) xs ≡ None
          → ((p : Sought) → IsBallOf b o p → search_in m p xs ≡ None → search_for m p xs ≡ End o (Some (copied b 0)) ∷ [])
          → looked m l (λ p. search_for m p xs) xs ≡ End o (Some (copied b 0)) ∷ []
      go (On p) l z f = f p l z
      go (Here ys) l z f = let no_way : ⊥ = cc in absurd no_way

  unmarked_loses : (b : Term) (o : Name) (rs : List Record) (xs : List Element) → search_in m (Thrown b None o) (map (gives m rs) xs) ≡ None
  unmarked_loses b o rs [] = refl
  unmarked_loses b o rs (x ∷ xs) = next_in clauses (Thrown b None o) rs x xs
      ∙ (ap (λ l. found_in m l (λ p. search_in m p (map (gives m rs) xs)) (map (gives m rs) xs)) (goes_on x) ∙ unmarked_loses b o rs xs)
    where
      goes_on : (x : Element) → look (Thrown b None o) x ≡ On (Thrown b None o)
      goes_on (Credit n qs) = refl
      goes_on (Plain n f) = refl
      goes_on (EndOf s) = refl
      goes_on (Catch s u y r n f) = refl
      goes_on (Findall s u qs l n f) = refl
      goes_on (End n a) = refl

  pub loses : (ball : Term) (o : Name) (rs : List Record) (levels : List Level) (status : Status) (mark : Option ℕ)
      → IsAround levels IsOpen → IsDistinct levels → RootCaught (plug levels status) → MarkIsDormant levels mark → catching ball levels mark
      ≡ Uncaught
      → search_in m (Thrown ball (mark_name (way_of levels) mark) o) (map (gives m rs) (back_of levels)) ≡ None
  loses ball o rs [] status mark a d h k e = refl
  loses ball o rs (v ∷ rest) status None a d h k e = unmarked_loses ball o rs (back_of (v ∷ rest))
  loses ball o rs (v ∷ rest) status (Some s) a d h k e = go (v.number == s) refl k e
      (λ j l. loses ball o rs rest (Inner (level_node v status)) j a.1 (distinct-up v rest d) h l)
    where
      catches : (y t : Term) (g : Continuation ℕ) → Guards v (CatchEntry y t g) → (v.number == s) ≡ true → (b : Option Substitution)
          → unifier ((y, copied ball g.next) ∷ []) ≡ b → caught_or b v rest t g (catching ball rest (first_mark g.items)) ≡ Uncaught
          → ((j : Option ℕ) → MarkIsDormant rest j → catching ball rest j ≡ Uncaught
          → search_in m (Thrown ball (mark_name (way_of rest) j) o)
          (map (gives m rs) (back_of rest)) ≡ None)
          → search_in m (Thrown ball (mark_name (way_of (v ∷ rest)) (Some s)) o) (map (gives m rs) (back_of (v ∷ rest))) ≡ None
      catches y t g q i (Some z) n c more = let no_way : ⊥ = cc in absurd no_way
      catches y t g q i None n c more =
          let mark = first_mark g.items in
          let sleeps = first_dormant rest g.items (dormant_marks v rest status y t g q.spent h q.right) in
          let itself : scope_on (way_of (v ∷ rest)) s ≡ 0 ∷ v.number ∷ [] = cond-true (v.number == s) _ (scope_on (way_of rest) s) i
          ∙ ap (λ l. length l ∷ v.number ∷ []) q.left in
          let list : back_of (v ∷ rest) ≡ EndOf (0 ∷ v.number ∷ [])
          ∷ (catch_element v rest y t g ∷ (EndOf (1 ∷ v.number ∷ []) ∷ back_of rest)) = ap (λ l. l ++ back_of rest)
          (second_right v rest q.spent (Pending Dormant (CatchEntry y t g)) q.left q.right) in
          ap (λ j. search_in m (Thrown ball (Some j) o) (map (gives m rs) (back_of (v ∷ rest)))) itself
          ∙ (ap (λ l. search_in m (Thrown ball (Some (0 ∷ v.number ∷ [])) o) (map (gives m rs) l)) list
          ∙ (to_catch clauses ball y t o rs v rest g (EndOf (1 ∷ v.number ∷ []) ∷ back_of rest)
          ∙ (ap (λ x. found_in m (recovery_look x ball t (1 ∷ v.number ∷ []) (0 ∷ 1 ∷ v.number ∷ [])
          (named_continuation (second_step v ∷ way_of rest) g) (Thrown ball (mark_name (second_step v ∷ way_of rest) mark) o))
          (λ p. search_in m p (map (gives m rs) (EndOf (1 ∷ v.number ∷ []) ∷ back_of rest)))
          (map (gives m rs) (EndOf (1 ∷ v.number ∷ []) ∷ back_of rest))) n
          ∙ (ap (λ x. search_in m (Thrown ball x o) (map (gives m rs) (EndOf (1 ∷ v.number ∷ []) ∷ back_of rest)))
          (mark_up clauses v rest mark a.0.new sleeps)
          ∙ (end_pass clauses ball (mark_name (way_of rest) mark) o rs v.number (back_of rest)
          (mark_apart clauses v rest mark a.0.new sleeps)
          ∙ more mark sleeps c)))))

      go : (b : Bool) → (v.number == s) ≡ b → cond b (catch_right v.right) (dormant_on rest s) ≡ true
          → cond b (right_falls ball v rest v.right (catching ball rest)) (catching ball rest (Some s)) ≡ Uncaught
          → ((j : Option ℕ) → MarkIsDormant rest j → catching ball rest j ≡ Uncaught
          → search_in m (Thrown ball (mark_name (way_of rest) j) o)
          (map (gives m rs) (back_of rest)) ≡ None)
          → search_in m (Thrown ball (mark_name (way_of (v ∷ rest)) (Some s)) o) (map (gives m rs) (back_of (v ∷ rest))) ≡ None
      go false q l z more =
          ap (λ n. search_in m (Thrown ball (Some n) o) (map (gives m rs) (back_of (v ∷ rest))))
          (cond-false (v.number == s) _ (scope_on (way_of rest) s) q)
          ∙ (thrown_pass clauses ball (scope_on (way_of rest) s) o rs (list_right (way_of rest) v) (back_of rest)
          (right_passes clauses v rest s d a.0.new (dormant_way rest s l)) ∙ more (Some s) l z)
      go true q l z more =
          let c = catch_dormant v l in
          let g = dormant_guards v rest (CatchEntry c.0 c.1 c.2) a.0 c.3 in
          catches c.0 c.1 c.2 g q (unifier ((c.0, copied ball c.2.next) ∷ [])) refl
          (subst (λ right. right_falls ball v rest right (catching ball rest) ≡ Uncaught) g.right z) more
