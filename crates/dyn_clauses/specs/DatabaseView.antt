-- The dynamic procedures as they are kept, and what callers see of them.
use Rattle.std.specs.Prelude.{◌≡◌, ◌<◌, ◌&&◌, ◌==◌, ℕ, Bool, true, false, cond, List, [], ◌∷◌, map, filter, Option, Some, None, IsSome, Result, Ok, Err, Vec}
use Rattle.std.specs.declared.cmp.Ordering.{Ordering}
use Rattle.std.specs.declared.cmp.Ordering.TheVariants.{Less, Equal, Greater}
use Rattle.std.specs.Ordering.{nat_cmp}
use Rattle.std.specs.List.{list_any}
use Rattle.std.specs.Map.{lookup}
use Rattle.std.specs.BTreeMap.{BTreeMap, get, IsOrdered, is_at}
use Rattle.au_model.specs.Terms.Forms.{same_name}
use Rattle.run_model.specs.Programs.Clauses.{Clause as ClauseTerms}
use Rattle.run_model.specs.Programs.Databases.{NumberedClause, DynamicProcedure, Database}
use Rattle.proc_index.specs.declared.key.Key.{Key}
use Rattle.proc_index.specs.Keys.{may_match}
use Rattle.dyn_clauses.specs.PositionIndex.{Placed, position_number, numbered_clauses, without_position}
use Rattle.std.specs.Global.{Global}
use Rattle.std.specs.declared.sync.Arc.{Arc}
use Rattle.clause_compile.specs.CompiledClauses.{shown}
use Rattle.clause_compile.specs.declared.clause.Clause.{Clause}
use Rattle.clause_compile.specs.declared.item.ClauseId.{ClauseId}
use Rattle.dyn_clauses.specs.declared.indicator.Indicator.{Indicator}
use Rattle.dyn_clauses.specs.contracts.indicator.IndicatorOrd.TheImpl as indicator_ord
use Rattle.dyn_clauses.specs.declared.place.Place.{Place}
use Rattle.dyn_clauses.specs.declared.database.DataRefusal.{DataRefusal}
use Rattle.dyn_clauses.specs.declared.database.DataRefusal.TheVariants.{Static as StaticRefusal, NoMemory}
use Rattle.dyn_clauses.specs.declared.database.Static.{Static}
use Rattle.dyn_clauses.specs.declared.database.Gone.{Gone}
use Rattle.dyn_clauses.specs.declared.database.Snapshot.{Snapshot}
use Rattle.dyn_clauses.specs.declared.database.Snapshot.TheVariants as snapshot

-- what callers see: which procedures are static, and the dynamic ones
pub record KnownDatabase : Type 0 where
  pub statics : List Indicator
  pub kept : Database

abbrev pub indicator_cmp : Indicator → Indicator → Ordering
indicator_cmp = (indicator_ord.ghosts).cmp

abbrev pub is_static : List Indicator → Indicator → Bool
is_static statics i = list_any (λ s. same_name i.name s.name && i.arity == s.arity) statics

-- procedures by name and number of arguments
abbrev pub Entries : Type 0
Entries = List (Indicator × Placed)

abbrev pub procedure_meant : Indicator × Placed → DynamicProcedure
procedure_meant e = record { name = e.0.name; arity = e.0.arity; clauses = numbered_clauses e.1 }

abbrev pub procedures_meant : Entries → List DynamicProcedure
procedures_meant es = map procedure_meant es

abbrev pub clause_in : Option Placed → ℕ → Option ClauseTerms
clause_in None q = None
clause_in (Some ps) q = lookup (is_at (nat_cmp q)) ps

-- the clause of a procedure at a position
abbrev pub clause_at : Entries → Indicator → ℕ → Option ClauseTerms
clause_at es i q = clause_in (lookup (is_at (indicator_cmp i)) es) q

abbrev pub is_spot : Indicator → ℕ → Indicator → ℕ → Bool
is_spot i q j p = is_at (indicator_cmp i) j && is_at (nat_cmp q) p

-- a procedure has this clause at a position, or none, and all else is as it was
abbrev pub ChangesSpot : Entries → Entries → Indicator → ℕ → Option ClauseTerms → Type 0
ChangesSpot old new procedure position clause = (i : Indicator) (q : ℕ) → clause_at new i q ≡ cond (is_spot procedure position i q) clause (clause_at old i q)

-- each clause has its place under its number, and each place has a clause
pub record HavePlaces (procedures : BTreeMap Indicator Placed) (places : BTreeMap ℕ Place) : Type 0 where
  pub ordered : IsOrdered indicator_cmp procedures
  pub placed : (i : Indicator) (q : ℕ) → IsSome (clause_at procedures.entries i q) → get nat_cmp places (position_number q) ≡ Some (record { procedure = i; position = q })
  pub there : (n : ℕ) (p : Place) → get nat_cmp places n ≡ Some p → IsSome (clause_at procedures.entries p.procedure p.position) × (position_number p.position ≡ n)

-- the numbers are below the next one
pub record IsDatabase (procedures : BTreeMap Indicator Placed) (places : BTreeMap ℕ Place) (next : ℕ) : Type 0 where
  pub kept : HavePlaces procedures places
  pub below : (n : ℕ) → IsSome (get nat_cmp places n) → n < next

-- a procedure changed, where it has a place in the order: before this one, in its stead, or further on
abbrev pub entry_placed : Ordering → (Placed → Placed) → Indicator → Indicator × Placed → Entries → Entries → Entries
entry_placed Less change i e es further = (i, change []) ∷ e ∷ es
entry_placed Equal change i e es further = (e.0, change e.1) ∷ es
entry_placed Greater change i e es further = e ∷ further

abbrev pub with_entry : (Placed → Placed) → Indicator → Entries → Entries
with_entry change i [] = (i, change []) ∷ []
with_entry change i (e ∷ es) = entry_placed (indicator_cmp i e.0) change i e es (with_entry change i es)

-- the procedures without the clause at a position of one of them
abbrev pub without_spot : Indicator → ℕ → Entries → Entries
without_spot i q es = map (λ e. (e.0, cond (is_at (indicator_cmp i) e.0) (without_position q e.1) e.1)) es

abbrev pub matching_numbered : Key → List NumberedClause → List NumberedClause
matching_numbered key cs = filter (λ c. may_match key c.clause.head) cs

-- clauses as they are handed out
abbrev pub shown_clauses : Vec (ClauseId × Arc Clause Global) Global → List NumberedClause
shown_clauses found = map shown found.items

-- a change is refused exactly where the procedure is static
abbrev pub IsCause : {X : Type 0} → Bool → Result X DataRefusal → Type 0
IsCause b (Ok x) = b ≡ false
IsCause b (Err StaticRefusal) = b ≡ true
IsCause b (Err NoMemory) = Unit {0}

abbrev pub IsStaticCause : Bool → Result (Unit {0}) Static → Type 0
IsStaticCause b (Ok u) = b ≡ false
IsStaticCause b (Err e) = b ≡ true

-- the clauses of a procedure at this moment, where it is dynamic
abbrev pub IsSnapshot : Bool → Option (List NumberedClause) → Snapshot → Type 0
IsSnapshot b cs snapshot.Unknown = (b ≡ false) × (cs ≡ None)
IsSnapshot b cs snapshot.Static = b ≡ true
IsSnapshot b cs (snapshot.Clauses found) = (b ≡ false) × (cs ≡ Some (map shown found.items))

-- the clause with the number goes, or there is none
abbrev pub IsRemoved : Option Database → KnownDatabase → KnownDatabase → Result (Unit {0}) Gone → Type 0
IsRemoved without old now (Ok u) = (without ≡ Some now.kept) × (now.statics ≡ old.statics)
IsRemoved without old now (Err e) = (without ≡ None) × (now ≡ old)
