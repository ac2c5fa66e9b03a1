-- Clauses that are tried and undone one after another.
use Rattle.std.proofs.Common.{◌≡◌, ℕ, ◌<◌, List, [], ◌∷◌, ◌++◌, length, Option, sym, ap, ◌∙◌, subst, arith}
use Rattle.std.specs.Option.{option_to_list}
use Rattle.au_model.specs.Terms.Named.{NamedTerm}
use Rattle.run_model.specs.Machine.Entries.{Entry}
use Rattle.cell_store.specs.StoreView.{IsValueIn}
use Rattle.clause_index.specs.Cursors.{IsCursorOf, numbers_left, TakesLeast}
use Rattle.clause_index.specs.declared.cursor.Cursor.{Cursor}
use Rattle.clause_index.specs.declared.key.HeadKey.{HeadKey}
use Rattle.region_split.specs.Regions.{RegionView, IsPositionIn}
use Rattle.region_split.specs.Texts.{TextView}
use Rattle.region_split.specs.declared.choice.Trial.{Trial}
use Rattle.region_capture.specs.CapturedItems.{ItemLists}
use Rattle.region_capture.specs.CaptureSteps.{CapturesUpTo, CapturesClause, clause_entries_here, no_entries}
use Rattle.region_capture.specs.declared.captured.CapturedAlternative.{CapturedAlternative}
use Rattle.region_capture.specs.declared.captured.CapturedKind.TheVariants.{Choice}
use Rattle.region_capture.proofs.MeantLemmas.{captures_on, left_otherwise}

-- a clause is next, and those that a cursor has left come after it
pub record AreNext (r : RegionView) (t : Trial) (left : Cursor) : Type 0 where
  pub clause : t.clause < length r.text.clauses
  pub goal : IsValueIn r.store t.goal
  pub after : IsPositionIn r t.after
  pub cursor : IsCursorOf r.text.heads left

abbrev pub next_entries : RegionView → Trial → Cursor → List NamedTerm → List Entry
next_entries r t left = clause_entries_here r t.goal t.after (t.clause ∷ numbers_left r.text.heads left)

module _ (start r new : RegionView) (first lists more : ItemLists) (all : List NamedTerm → List Entry) (t : Trial) (left : Cursor) (taken now : List CapturedAlternative) (o : Option CapturedAlternative)
    (before : CapturesUpTo Choice start r first lists all (next_entries r t left) taken) (own : CapturesClause r new lists more t o) (pushed : now ≡ taken ++ option_to_list o) where
  joined : CapturesUpTo Choice start new first more all (clause_entries_here new t.goal t.after (numbers_left r.text.heads left)) now
  joined =
      subst (CapturesUpTo Choice start new first more all (clause_entries_here new t.goal t.after (numbers_left r.text.heads left))) (sym pushed)
      (captures_on Choice start r new first lists more all (next_entries r t left) (clause_entries_here new t.goal t.after (numbers_left r.text.heads left)) taken (option_to_list o) before (own.captures (numbers_left r.text.heads left)))

  pub same_text : new.text ≡ r.text
  same_text = (own.captures []).back.text

  same_heads : r.text.heads ≡ new.text.heads
  same_heads = ap (λ (x : TextView). x.heads) (sym same_text)

  pub clauses_end : numbers_left new.text.heads left ≡ [] → CapturesUpTo Choice start new first more all no_entries now
  clauses_end none =
      left_otherwise Choice start new first more all (clause_entries_here new t.goal t.after (numbers_left r.text.heads left)) no_entries now
      (λ named. ap (λ ns. clause_entries_here new t.goal t.after ns named) (ap (λ (hs : List HeadKey). numbers_left hs left) same_heads ∙ none)) joined

  module _ (n : ℕ) (rest : Cursor) (takes : TakesLeast new.text.heads left rest n) (many : length new.text.heads ≡ length new.text.clauses) where
    abbrev next : Trial
    next = record { goal = t.goal; clause = n; after = t.after }

    pub clauses_on : CapturesUpTo Choice start new first more all (next_entries new next rest) now
    clauses_on =
        left_otherwise Choice start new first more all (clause_entries_here new t.goal t.after (numbers_left r.text.heads left)) (next_entries new next rest) now
        (λ named. ap (λ ns. clause_entries_here new t.goal t.after ns named) (ap (λ (hs : List HeadKey). numbers_left hs left) same_heads ∙ takes.taken)) joined

    pub next_is : AreNext new next rest
    next_is = record { clause = let lt = takes.there in omega (arith, lt, many); goal = own.goal; after = own.after; cursor = takes.cursor }

    pub fewer : length (numbers_left new.text.heads rest) < length (numbers_left r.text.heads left)
    fewer = let e = ap (λ (ns : List ℕ). length ns) (ap (λ (hs : List HeadKey). numbers_left hs left) same_heads ∙ takes.taken) in omega (arith, e)
