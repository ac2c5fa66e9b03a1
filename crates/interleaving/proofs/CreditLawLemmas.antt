-- The laws of credits, and of what is taken after them.
use Rattle.std.proofs.Common.{◌≡◌, ℕ, zero, suc, ◌+◌, ◌≤◌, Bool, false, List, [], ◌∷◌, ◌++◌, map, refl, sym, ap, ◌∙◌, subst, arith}
use Rattle.std.proofs.lemmas.Bool.{false≢true}
use Rattle.au_model.specs.Terms.Each.{Each}
use Rattle.run_model.specs.Programs.Clauses.{Clause}
use Rattle.run_model.specs.Machine.Items.{Item, GoalItem, CatchMark, CollectMark, RemovalItem}
use Rattle.interleaving.specs.Machine.{Machine, gives, free_steps, step, run, is_finished, seen, Alike}
use Rattle.tree_model.specs.Elements.{Name, Record, Element, Credit, Plain, EndOf, Catch, Findall, End}
use Rattle.interleaving.specs.Scopes.{Shared, Sought, scoped}
use Rattle.interleaving.specs.Segments.{Private}
use Rattle.interleaving.specs.Views.{IsItemApart, IsRecordApart, IsBlind}
use Rattle.interleaving.specs.Quiet.{IsQuiet, inferences, records}
use Rattle.interleaving.specs.Laws.{OneCredit, EnoughCredit}
use Rattle.interleaving.proofs.RunFrontLemmas.{map-none}
use Rattle.interleaving.proofs.EarlyLemmas.{Ground, Runs, Early, early, both_early}
use Rattle.interleaving.proofs.AloneLemmas.{private_runs}
use Rattle.interleaving.proofs.ApartLemmas.{IsSoughtApart, blind_closed, inner_unseen}
use Rattle.interleaving.proofs.InsideStepLemmas.{any_ground, become_active}
use Rattle.interleaving.proofs.QuietCreditLemmas.{outer-all, quiet-private}
use Rattle.interleaving.proofs.LongCreditLemmas.{enough, as_many}
use Rattle.interleaving.proofs.AppendLemmas.{append-nil}

abbrev pub none_inner : Record → Bool
none_inner r = false

pub any-all : (xs : List Element) → Each (λ x. Unit {0}) xs
any-all [] = tt
any-all (x ∷ xs) = (tt, any-all xs)

module _ (clauses : List Clause) where
  abbrev m : Machine Shared Element Sought Record
  m = scoped clauses

  -- what records do under no premise
  pub runs_any : (k : ℕ) (rs : List Record) (a b : List Element) → Private m none_inner k rs a b → Runs m (any_ground clauses) k rs a b
  runs_any k rs a b r = private_runs m none_inner (any_ground clauses) (λ o e. absurd (false≢true e)) (become_active clauses) k rs a b r

  pub quiet_any : (xs c : List Element) → IsQuiet xs → Runs m (any_ground clauses) (inferences xs) (records xs) (xs ++ c)
      (map (gives m (records xs)) c)
  quiet_any xs c h = runs_any (inferences xs) (records xs) (xs ++ c) (map (gives m (records xs)) c)
      (subst (λ l. Private m none_inner (inferences xs) l (xs ++ c) (map (gives m (records xs)) c)) (outer-all (records xs))
      (quiet-private clauses none_inner xs c h))

  pub quiet_alone : (xs : List Element) → IsQuiet xs → Runs m (any_ground clauses) (inferences xs) (records xs) xs []
  quiet_alone xs h = subst (λ l. Runs m (any_ground clauses) (inferences xs) (records xs) l []) (append-nil xs) (quiet_any xs [] h)

  pub one_credit : OneCredit clauses
  one_credit inside pre xs zs h i f =
      early m (any_ground clauses) (IsBlind inside) (IsSoughtApart clauses inside) (IsRecordApart inside) (blind_closed clauses inside)
      (inferences xs) (records xs) xs []
      (record { runs = quiet_alone xs h; own = refl; old = inner_unseen clauses inside xs i; new = tt }) pre zs f (any-all zs)

  -- nothing sees what has no name
  items_none : (items : List (Item Name)) → Each (IsItemApart (λ s. false)) items
  items_none [] = tt
  items_none (GoalItem g h ∷ items) = (refl, items_none items)
  items_none (CatchMark h ∷ items) = (refl, items_none items)
  items_none (CollectMark t h ∷ items) = (refl, items_none items)
  items_none (RemovalItem h ∷ items) = (tt, items_none items)

  records_none : (rs : List Record) → Each (IsRecordApart (λ s. false)) rs
  records_none [] = tt
  records_none (r ∷ rs) = (refl, records_none rs)

  pub blind_none : (xs : List Element) → Each (IsBlind (λ s. false)) xs
  blind_none [] = tt
  blind_none (Credit k rs ∷ xs) = (records_none rs, blind_none xs)
  blind_none (Plain p f ∷ xs) = ((λ more. refl, items_none f.items), blind_none xs)
  blind_none (EndOf s ∷ xs) = (tt, blind_none xs)
  blind_none (Catch s u c r p f ∷ xs) = ((refl, refl, λ more. refl, items_none f.items), blind_none xs)
  blind_none (Findall s u results list p f ∷ xs) = ((refl, refl, λ more. refl, items_none f.items), blind_none xs)
  blind_none (End p b ∷ xs) = (λ more. refl, blind_none xs)

  pub credits_alike : (j k : ℕ) (rs qs : List Record) (pre zs : List Element) → Alike m (pre ++ (Credit j rs ∷ Credit k qs ∷ zs))
      (pre ++ (Credit (j + k) (rs ++ qs) ∷ zs))
  credits_alike j k rs qs pre zs n w =
      let sum : j + (k + 0) ≡ j + k = omega arith in
      let whole = one_credit (λ s. false) pre (Credit j rs ∷ Credit k qs ∷ []) zs tt (tt, (tt, tt)) (blind_none pre) n w in
      whole ∙ ap (λ i. seen (run m n w (free_steps m [] (pre ++ (Credit i (rs ++ (qs ++ [])) ∷ zs))))) sum
      ∙ ap (λ l. seen (run m n w (free_steps m [] (pre ++ (Credit (j + k) (rs ++ l) ∷ zs))))) (append-nil qs)

  pub none_alike : (pre zs : List Element) → Alike m (pre ++ (Credit 0 [] ∷ zs)) (pre ++ zs)
  none_alike pre zs =
      let g : Ground m = any_ground clauses in
      let first : Early m g (IsBlind (λ s. false)) (IsSoughtApart clauses (λ s. false)) (IsRecordApart (λ s. false))
      (blind_closed clauses (λ s. false)) 0 [] (Credit 0 [] ∷ []) [] = record {
        runs = λ ys y. ap (free_steps m []) (sym (map-none m ys));
        own = refl;
        old = inner_unseen clauses (λ s. false)
            (Credit 0 [] ∷ []) (tt, tt);
        new = tt;
      } in
      let second : Early m g (IsBlind (λ s. false)) (IsSoughtApart clauses (λ s. false)) (IsRecordApart (λ s. false))
      (blind_closed clauses (λ s. false)) 0 [] [] [] = record
      { runs = λ ys y. ap (free_steps m []) (sym (map-none m ys)); own = refl; old = tt; new = tt } in
      both_early m g (IsBlind (λ s. false)) (IsSoughtApart clauses (λ s. false)) (IsRecordApart (λ s. false))
      (blind_closed clauses (λ s. false)) 0 [] (Credit 0 [] ∷ []) [] [] first second pre zs (blind_none pre) (any-all zs)

  pub enough_credit : EnoughCredit clauses
  enough_credit j k os rs n w pre zs hj hk = enough m (any_ground clauses) (IsBlind (λ s. false)) (IsSoughtApart clauses (λ s. false))
      (IsRecordApart (λ s. false)) (blind_closed clauses (λ s. false)) j k os rs n hj hk w pre zs (blind_none pre)

  -- and credits of as many, where what is under them does not go
  pub as_many_credit : (j k : ℕ) (os rs : List Record) (n : ℕ) (w : Shared) (pre zs : List Element) → n ≤ j → n ≤ k
      → ((us : List Record) → is_finished (free_steps m us zs) ≡ false)
      → seen (run m n w (free_steps m [] (pre ++ (Credit j os ∷ zs)))) ≡ seen (run m n w (free_steps m [] (pre ++ (Credit k rs ∷ zs))))
  as_many_credit j k os rs n w pre zs hj hk stays = as_many m (any_ground clauses) (IsBlind (λ s. false))
      (IsSoughtApart clauses (λ s. false)) (IsRecordApart (λ s. false)) (blind_closed clauses (λ s. false)) j k os rs n hj hk w pre zs
      (blind_none pre) stays

  pub further : (k n : ℕ) (w : Shared) (xs : List Element) → run m (k + n) w xs ≡ run m n (run m k w xs).0 (run m k w xs).1
  further zero n w xs = let same : 0 + n ≡ n = omega arith in ap (λ i. run m i w xs) same
  further (suc k) n w xs = (let same : suc k + n ≡ suc (k + n) = omega arith in ap (λ i. run m i w xs) same)
      ∙ further k n (step m w xs).0 (step m w xs).1
