-- The shapes of nodes, where an alternative closes or what sleeps wakes.
use Rattle.std.proofs.Common.{◌≡◌, ℕ, Bool, true, false, List, [], ◌∷◌, Option, None, refl, sym, ◌∙◌}
use Rattle.run_model.specs.Machine.Entries.{Entry}
use Rattle.tree_model.specs.Nodes.{Kind, ChoiceNode, CatchNode, FindallNode, QueryNode, Ready, TakenBy, Waiting, Dormant, Alternatives}
use Rattle.tree_model.specs.Nodes.{none, alternative, Status, Pending, Inner, Closed}
use Rattle.tree_model.specs.Closing.{dormant_right}
use Rattle.tree_model.specs.Ways.{is_query}
use Rattle.tree_model.specs.SoundTrees.{Profile, IsOpen, IsDormant, IsShut, profile, profiles, none_dormant, is_pair, are_pair, is_shape}
use Rattle.interleaving.proofs.ContextLemmas.{put_profiles}

none_dormant-after : (p : Profile) (ps qs : List Profile) → none_dormant ps ≡ none_dormant qs → none_dormant (p ∷ ps)
    ≡ none_dormant (p ∷ qs)
none_dormant-after IsOpen ps qs h = h
none_dormant-after IsShut ps qs h = h
none_dormant-after (IsDormant k) ps qs h = refl

pub none_dormant-put : (left : List (ℕ × Status)) (ps qs : List Profile) → none_dormant ps ≡ none_dormant qs
    → none_dormant (put_profiles left ps) ≡ none_dormant (put_profiles left qs)
none_dormant-put [] ps qs h = h
none_dormant-put (a ∷ left) ps qs h = none_dormant-put left (profile a.1 ∷ ps) (profile a.1 ∷ qs) (none_dormant-after (profile a.1) ps qs h)

three_no_pair : (k : Kind) (left : List (ℕ × Status)) (x y z : Profile) (ps : List Profile)
    → are_pair k (put_profiles left (x ∷ y ∷ z ∷ ps)) ≡ false
three_no_pair k [] x y z ps = refl
three_no_pair k (a ∷ left) x y z ps = three_no_pair k left (profile a.1) x y (z ∷ ps)

true_false : (b : Bool) → b ≡ true → b ≡ false → ⊥
true_false true h k = cc
true_false false h k = cc

-- what is dormant to the right of a first alternative
abbrev pub sleeping : List (ℕ × Status) → Alternatives → Option Entry
sleeping left right = elim left [ [] ↦ dormant_right right | a ∷ rest ↦ None ]

first_shut : (k : Kind) (status : Status) → dormant_right (alternative 0 status none) ≡ None → is_pair k IsOpen (profile status) ≡ true
    → is_pair k IsShut (profile status) ≡ true
first_shut k (Closed credit) d h = refl
first_shut k (Inner node) d h = absurd (true_false false h refl)
first_shut k (Pending Ready e) d h = absurd (true_false false h refl)
first_shut k (Pending (TakenBy w) e) d h = absurd (true_false false h refl)
first_shut k (Pending (Waiting g) e) d h = absurd (true_false false h refl)
first_shut k (Pending Dormant e) d h = let no_way : ⊥ = cc in absurd no_way

same_right : (spent : ℕ) (status : Status) (others : Alternatives) → dormant_right (alternative spent status others)
    ≡ dormant_right (alternative 0 status none)
same_right spent (Closed credit) others = refl
same_right spent (Inner node) others = refl
same_right spent (Pending hold e) others = refl

second_shut : (k : Kind) (p : Profile) → is_pair k p IsOpen ≡ true → is_pair k p IsShut ≡ true
second_shut k IsShut h = refl
second_shut k IsOpen h = absurd (true_false false h refl)
second_shut k (IsDormant j) h = absurd (true_false false h refl)

pair_shut : (k : Kind) (left : List (ℕ × Status)) (right : Alternatives) → sleeping left right ≡ None
    → are_pair k (put_profiles left (IsOpen ∷ profiles right)) ≡ true → are_pair k (put_profiles left (IsShut ∷ profiles right)) ≡ true
pair_shut k [] none d h = absurd (true_false false h refl)
pair_shut k [] (alternative spent status none) d h = first_shut k status (sym (same_right spent status none) ∙ d) h
pair_shut k [] (alternative spent status (alternative more_spent other others)) d h = absurd (true_false false h refl)
pair_shut k (a ∷ []) none d h = second_shut k (profile a.1) h
pair_shut k (a ∷ []) (alternative spent status others) d h = absurd (true_false false h refl)
pair_shut k (a ∷ b ∷ left) right d h = absurd (true_false _ h (three_no_pair k left (profile b.1) (profile a.1) IsOpen (profiles right)))

-- an open alternative closes
pub shape_shut : (kind : Kind) (left : List (ℕ × Status)) (right : Alternatives) → sleeping left right ≡ None
    → is_shape kind (put_profiles left (IsOpen ∷ profiles right)) ≡ true → is_shape kind (put_profiles left (IsShut ∷ profiles right))
    ≡ true
shape_shut ChoiceNode left right d h = none_dormant-put left (IsShut ∷ profiles right) (IsOpen ∷ profiles right) refl ∙ h
shape_shut CatchNode left right d h = pair_shut CatchNode left right d h
shape_shut FindallNode left right d h = pair_shut FindallNode left right d h
shape_shut QueryNode left right d h = pair_shut QueryNode left right d h

-- a first alternative has closed, and what slept has woken or gone
pub shape_woken : (kind : Kind) → is_shape kind (IsShut ∷ IsOpen ∷ []) ≡ true
shape_woken ChoiceNode = refl
shape_woken CatchNode = refl
shape_woken FindallNode = refl
shape_woken QueryNode = refl

pub shape_gone : (kind : Kind) → is_shape kind (IsShut ∷ IsShut ∷ []) ≡ true
shape_gone ChoiceNode = refl
shape_gone CatchNode = refl
shape_gone FindallNode = refl
shape_gone QueryNode = refl

-- no plain entry sleeps
pub plain_awake : (kind : Kind) (ps : List Profile) → is_shape kind (IsOpen ∷ IsDormant ChoiceNode ∷ ps) ≡ true → ⊥
plain_awake ChoiceNode ps h = true_false false h refl
plain_awake CatchNode [] h = true_false false h refl
plain_awake CatchNode (p ∷ ps) h = true_false false h refl
plain_awake FindallNode [] h = true_false false h refl
plain_awake FindallNode (p ∷ ps) h = true_false false h refl
plain_awake QueryNode [] h = true_false false h refl
plain_awake QueryNode (p ∷ ps) h = true_false false h refl

-- where a findall entry sleeps, its node is no query's
pub findall_kind : (kind : Kind) (ps : List Profile) → is_shape kind (IsOpen ∷ IsDormant FindallNode ∷ ps) ≡ true → is_query kind ≡ false
findall_kind ChoiceNode ps h = refl
findall_kind CatchNode ps h = refl
findall_kind FindallNode ps h = refl
findall_kind QueryNode [] h = absurd (true_false false h refl)
findall_kind QueryNode (p ∷ ps) h = absurd (true_false false h refl)

pub catch_kind : (kind : Kind) (ps : List Profile) → is_shape kind (IsOpen ∷ IsDormant CatchNode ∷ ps) ≡ true → is_query kind ≡ false
catch_kind ChoiceNode ps h = refl
catch_kind CatchNode ps h = refl
catch_kind FindallNode ps h = refl
catch_kind QueryNode [] h = absurd (true_false false h refl)
catch_kind QueryNode (p ∷ ps) h = absurd (true_false false h refl)
