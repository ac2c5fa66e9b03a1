-- A private run that leaves a result takes its place in the list to a credit with that record.
use Rattle.std.proofs.Common.{◌≡◌, ℕ, suc, ◌+◌, ◌≤◌, ◌⊎◌, inl, inr, Bool, true, false, List, [], ◌∷◌, ◌++◌, length, Option, Some, None}
use Rattle.std.proofs.Common.{refl, sym, ap, ◌∙◌, subst, arith}
use Rattle.std.specs.Prelude.{◌||◌}
use Rattle.au_term.specs.Term.{Term}
use Rattle.run_model.specs.Machine.Items.{Item, GoalItem, CatchMark, CollectMark, RemovalItem, Continuation}
use Rattle.run_model.specs.Machine.Entries.{Entry, PlainEntry, CatchEntry, FindallEntry, EndEntry}
use Rattle.tree_model.specs.Floors.{with_heights}
use Rattle.tree_model.specs.PrivateRuns.{private_run}
use Rattle.tree_model.specs.Ways.{is_on, AreScoped, IsOnWay, IsAwake}
use Rattle.interleaving.proofs.OpenSpotLemmas.{IsOpenSpot, IsPlaced, placed_at, count_at}
use Rattle.interleaving.proofs.SoundClosingLemmas.{free_at}
use Rattle.interleaving.proofs.LegalLemmas.{awake_entry}
use Rattle.interleaving.proofs.WayLemmas.{off_way}
use Rattle.interleaving.proofs.ListRoundLemmas.{around}
use Rattle.interleaving.proofs.GrowingLemmas.{around_path}
use Rattle.interleaving.proofs.LeadLemmas.{lead-grows}
use Rattle.interleaving.proofs.ClockLemmas.{list_round}
use Rattle.interleaving.proofs.FrontCloseLemmas.{unspent_out}
use Rattle.interleaving.proofs.RunEventLemmas.{end_stays}
use Rattle.interleaving.proofs.SoundEarlyLemmas.{sound_exchange, sound-after}
use Rattle.interleaving.proofs.PublishedBareLemmas.{list_before}
use Rattle.interleaving.proofs.PublishedEndLemmas.{closed_sound}
use Rattle.interleaving.proofs.PublishCloseLemmas.{IsClosing, collected_closes}
use Rattle.interleaving.proofs.CollapseLemmas.{as_scopes}
use Rattle.interleaving.proofs.ResultMarkLemmas.{findall_here}
use Rattle.interleaving.proofs.RunSoundLemmas.{height_way, run_sound}
use Rattle.tree_model.specs.Nodes.{Pending, Closed}
use Rattle.tree_model.specs.Levels.{Level, plug, Spot, levels_of}
use Rattle.tree_model.specs.TreeStates.{TreeState}
use Rattle.tree_model.specs.Legality.{run_of, run_gives_result}
use Rattle.tree_model.specs.Effects.{result_of, results_of}
use Rattle.tree_model.specs.PendingLists.{way_of, scope_on, findall_on, balance_on, element_on, pending_list, front_of, back_of}
use Rattle.tree_model.specs.SoundTrees.{IsOpen, IsSoundTree}
use Rattle.tree_model.specs.CaughtTrees.{is_side, IsUnspent}
use Rattle.tree_model.specs.Elements.{Name, Credit}
use Rattle.interleaving.specs.Erased.{from}
use Rattle.interleaving.specs.Sound.{IsGathered, IsSound}
use Rattle.interleaving.specs.Follows.{lead}
use Rattle.interleaving.specs.RunLaws.{Reaches, CollectedReaches}
use Rattle.interleaving.proofs.ContextLemmas.{IsAround}
use Rattle.interleaving.proofs.ListEndLemmas.{from_back}
use Rattle.interleaving.proofs.ListScopeLemmas.{IsDistinct}
use Rattle.interleaving.proofs.ListMarkLemmas.{gathered_side}
use Rattle.interleaving.proofs.ListsSoundLemmas.{under_of, side_level}
use Rattle.interleaving.proofs.FoldLemmas.{side_name}
use Rattle.interleaving.proofs.CreditLawLemmas.{blind_none}
use Rattle.au_term.proofs.LogicLemmas.{false_true}

-- where a findall's goal side is named, one is on the branch
none_named : (levels : List Level) → under_of levels ≡ false → findall_on (way_of levels) ≡ []
none_named [] h = refl
none_named (v ∷ up) h = go (is_side v.kind (length v.left)) refl h (none_named up)
  where
    go : (b : Bool) → is_side v.kind (length v.left) ≡ b → (b || under_of up) ≡ false
        → (under_of up ≡ false → findall_on (way_of up) ≡ []) → findall_on (way_of (v ∷ up)) ≡ []
    go true e h f = let no_way : ⊥ = cc in absurd no_way
    go false e h f = side_name (way_of up) v.number (length v.left) v.kind e ∙ f h

pub named_under : (levels : List Level) (a : ℕ) (name : Name) → findall_on (way_of levels) ≡ a ∷ name → under_of levels ≡ true
named_under levels a name e = go (under_of levels) refl
  where
    go : (b : Bool) → under_of levels ≡ b → b ≡ true
    go true h = refl
    go false h = let both : ◌≡◌ {A = Name} [] (a ∷ name) = sym (none_named levels h) ∙ e in let no_way : ⊥ = cc in absurd no_way

-- so its findall is right after the goal side's end
pub gathered_on : (levels : List Level) (a : ℕ) (name : Name) → IsAround levels IsOpen → IsDistinct levels → findall_on (way_of levels)
    ≡ a ∷ name → IsGathered (back_of levels) (findall_on (way_of levels))
gathered_on levels a name around d e =
    let side = side_level levels around (named_under levels a name e) in
    let scope : findall_on (way_of levels) ≡ scope_on (way_of levels) side.number = side.name
    ∙ sym (side.at.scope ∙ (ap (λ l. length l ∷ side.at.level.number ∷ []) side.left ∙ ap (λ n. 0 ∷ n ∷ []) side.at.number)) in
    let found : from (back_of levels) (findall_on (way_of levels)) ≡ back_of (side.at.level ∷ side.at.above) = ap
    (from (back_of levels)) scope ∙ (from_back levels side.number d side.on ∙ ap back_of side.at.down) in
    gathered_side levels (findall_on (way_of levels)) side.at.level side.at.above found (scope ∙ side.at.scope) side.at.keeps side.left
    side.kind

pub run_is : (t : TreeState) (s : Spot) (k : ℕ) (f : Continuation ℕ) → s.entry ≡ PlainEntry f
    → private_run t.job.clauses (levels_of s) (with_heights (levels_of s) (PlainEntry f)) k ≡ run_of t s k
unfolding run_of
run_is t s k f e = ap (λ x. private_run t.job.clauses (levels_of s) (with_heights (levels_of s) x) k) (sym e)

-- a result
pub record IsResult (o : Option (List Entry)) : Type 0 where
  pub rest : Continuation ℕ
  pub term : Term
  pub height : ℕ
  pub items : List (Item ℕ)
  pub is : o ≡ Some (PlainEntry rest ∷ [])
  pub first : rest.items ≡ CollectMark term height ∷ items

pub result : (o : Option (List Entry)) → run_gives_result o ≡ true → IsResult o
result None h = false_true h
result (Some []) h = false_true h
result (Some (CatchEntry y r f ∷ es)) h = false_true h
result (Some (FindallEntry rs y f ∷ es)) h = false_true h
result (Some (EndEntry b ∷ es)) h = false_true h
result (Some (PlainEntry g ∷ x ∷ es)) h = false_true h
result (Some (PlainEntry g ∷ [])) h = by_items g.items refl h
  where
    by_items : (items : List (Item ℕ)) → g.items ≡ items → elim items [ CollectMark u h ∷ rest ↦ true | i ↦ false ] ≡ true
        → IsResult (Some (PlainEntry g ∷ []))
    by_items [] i l = false_true l
    by_items (GoalItem u h ∷ items) i l = false_true l
    by_items (CatchMark h ∷ items) i l = false_true l
    by_items (RemovalItem n ∷ items) i l = false_true l
    by_items (CollectMark u h ∷ items) i l = record { rest = g; term = u; height = h; items = items; is = refl; first = i }

pub collected_reaches : CollectedReaches
collected_reaches t s k i q z place running x = go s.entry refl p.entry.0 (awake_entry s.hold s.entry o.opened p.entry.1)
  where
    o : IsOpenSpot t.root s
    o = record { inside = place.inside; opened = place.opened }

    p : IsPlaced s
    p = placed_at t s i o

    go : (e : Entry) → s.entry ≡ e → IsOnWay (way_of (levels_of s)) e → IsAwake e → Reaches t.job.clauses (pending_list t.root)
        (pending_list (plug (levels_of s) (Closed (record { inferences = k; answers = 0; records = results_of (run_of t s k) }))))
    go (CatchEntry c r f) e h a = absurd a
    go (FindallEntry rs l f) e h a = absurd a
    go (EndEntry b) e h a = stays (end_stays t s b k e)
      where
        stays : (run_of t s k ≡ None) ⊎ (run_of t s k ≡ Some (EndEntry b ∷ [])) → Reaches t.job.clauses (pending_list t.root)
            (pending_list (plug (levels_of s) (Closed (record { inferences = k; answers = 0; records = results_of (run_of t s k) }))))
        stays (inl y) = false_true (sym (ap run_gives_result y) ∙ x)
        stays (inr y) = false_true (sym (ap run_gives_result y) ∙ x)
    go (PlainEntry f) e h a =
        let v = s.level in
        let up = s.above in
        let levels = v ∷ up in
        let free = free_at t s i o in
        let distinct : IsDistinct levels = λ m. subst (λ c. c ≤ 1) (count_at t s o m) (i.distinct m) in
        let off : is_on (way_of levels) t.next ≡ false = off_way t.next levels (free.fresh t.next (omega arith)) in
        let r = result (run_of t s k) x in
        let run = run_is t s k f e ∙ r.is in
        let unspent : v.spent ≡ 0 = unspent_out v up (Pending s.hold s.entry) (subst (IsUnspent 0) (sym o.inside) (q.unspent running)) in
        let before : pending_list t.root ≡ list_before v up v.spent f = list_round t.root s o.inside o.opened
        ∙ ap (λ y. front_of levels ++ (Credit v.spent [] ∷ (element_on (way_of levels) y ∷ back_of levels))) e in
        let path = around_path levels IsOpen p.around in
        let over = (run_sound t.job.clauses levels (PlainEntry f) k (PlainEntry r.rest ∷ []) path tt h run).over.0 in
        let scoped = subst (λ is. AreScoped (height_way levels) (as_scopes is)) r.first over.scoped in
        let here = findall_here levels path (suc r.height) scoped.0 in
        let gathered = gathered_on levels 0 (here.node ∷ []) p.around distinct here.same in
        let rows : results_of (run_of t s k) ≡ r.term ∷ [] = ap results_of r.is ∙ ap result_of r.first in
        let emptied : IsSound (front_of levels ++ (Credit (v.spent + k) [] ∷ back_of levels)) = closed_sound t.job.clauses v up t.next f
        free p.around h off k v.spent (subst IsSound before z) in
        let mine : IsSound (front_of levels ++ (Credit (v.spent + k) ((findall_on (way_of levels), r.term) ∷ []) ∷ back_of levels)) =
        sound_exchange t.job.clauses (λ s. false) (front_of levels) (Credit (v.spent + k) [] ∷ [])
        (Credit (v.spent + k) ((findall_on (way_of levels), r.term) ∷ []) ∷ []) (back_of levels)
        (blind_none t.job.clauses (front_of levels))
        (tt, tt) (tt, tt) (omega arith) emptied ((gathered, tt), (sound-after (front_of levels) _ emptied).1) in
        let same : v.spent + k ≡ k = omega (arith, unspent) in
        let new : pending_list (plug levels (Closed (record { inferences = k; answers = 0; records = r.term ∷ [] })))
        ≡ front_of levels ++ (Credit k ((findall_on (way_of levels), r.term) ∷ []) ∷ back_of levels) = around levels
        (Closed (record { inferences = k; answers = 0; records = r.term ∷ [] })) in
        let sound_one : IsSound (pending_list (plug levels (Closed (record { inferences = k; answers = 0; records = r.term ∷ [] })))) =
        subst IsSound (sym new) (subst (λ n.
        IsSound (front_of levels ++ (Credit n ((findall_on (way_of levels), r.term) ∷ []) ∷ back_of levels))) same mine) in
        let sound : IsSound (pending_list
        (plug levels (Closed (record { inferences = k; answers = 0; records = results_of (run_of t s k) })))) = subst
        (λ ts. IsSound (pending_list (plug levels (Closed (record { inferences = k; answers = 0; records = ts }))))) (sym rows)
        sound_one in
        let closing : IsClosing t s = record
        { at = record { sound = i; opened = o.opened; placed = p; free = free }; inside = o.inside; unspent = unspent } in
        let alike = collected_closes t s k closing x z sound in
        let leads : lead (pending_list t.root) ≤ lead
        (pending_list (plug levels (Closed (record { inferences = k; answers = 0; records = results_of (run_of t s k) })))) = subst
        (λ l. l ≤ lead (pending_list (plug levels
        (Closed (record { inferences = k; answers = 0; records = results_of (run_of t s k) }))))) (sym (ap lead before))
        (subst (λ l. lead (list_before v up v.spent f) ≤ l)
        (sym (ap lead (around levels (Closed (record { inferences = k; answers = 0; records = results_of (run_of t s k) })))))
        (lead-grows (front_of levels) _
        (balance_on (way_of levels) (record { inferences = k; answers = 0; records = results_of (run_of t s k) }) ∷ back_of levels)
        (omega (arith, unspent)))) in
        record { follows = record { alike = λ n w b. alike n w; lead = λ m b l. omega (arith, leads, l) }; sound = sound }

-- a result is gathered: its place is below the goal side of a findall
pub result_under : (t : TreeState) (s : Spot) (k : ℕ) → IsSoundTree t → IsOpenSpot t.root s → run_gives_result (run_of t s k) ≡ true
    → under_of (levels_of s) ≡ true
result_under t s k i o x = go s.entry refl p.entry.0 (awake_entry s.hold s.entry o.opened p.entry.1)
  where
    p : IsPlaced s
    p = placed_at t s i o

    go : (e : Entry) → s.entry ≡ e → IsOnWay (way_of (levels_of s)) e → IsAwake e → under_of (levels_of s) ≡ true
    go (CatchEntry c r f) e h a = absurd a
    go (FindallEntry rs l f) e h a = absurd a
    go (EndEntry b) e h a = stays (end_stays t s b k e)
      where
        stays : (run_of t s k ≡ None) ⊎ (run_of t s k ≡ Some (EndEntry b ∷ [])) → under_of (levels_of s) ≡ true
        stays (inl y) = false_true (sym (ap run_gives_result y) ∙ x)
        stays (inr y) = false_true (sym (ap run_gives_result y) ∙ x)
    go (PlainEntry f) e h a =
        let levels = levels_of s in
        let r = result (run_of t s k) x in
        let run = run_is t s k f e ∙ r.is in
        let path = around_path levels IsOpen p.around in
        let over = (run_sound t.job.clauses levels (PlainEntry f) k (PlainEntry r.rest ∷ []) path tt h run).over.0 in
        let scoped = subst (λ is. AreScoped (height_way levels) (as_scopes is)) r.first over.scoped in
        let here = findall_here levels path (suc r.height) scoped.0 in
        named_under levels 0 (here.node ∷ []) here.same
