-- Removals of clauses by their numbers.
use Rattle.std.proofs.Common.{◌≡◌, true, false, [], Option, Some, None, refl, subst}
use Rattle.run_model.specs.Goals.Outcomes.{Solutions}
use Rattle.run_model.specs.Goals.WorldConstructs.{World as WorldTerms, holds_once}
use Rattle.run_model.specs.Programs.Databases.{Database, without_clause}
use Rattle.clause_compile.specs.declared.event.Effect.TheVariants.{Remove}
use Rattle.clause_compile.specs.declared.item.ClauseId.{ClauseId}
use Rattle.effect_gate.specs.Effects.{IsEffectApplied, IsReplied, clause_removed, world_meant}
use Rattle.effect_gate.specs.declared.world.World.{World}
use Rattle.effect_gate.specs.declared.world.Applied.{Applied}
use Rattle.effect_gate.specs.declared.world.Applied.TheVariants.{Went, Raise, Clauses, Fails, Rows, Halt}
use Rattle.region_world.specs.WorldGoals.{RemovesClause}

there_by : (o : Option Database) (w new : WorldTerms) → new ≡ (clause_removed o w).0 → (clause_removed o w).1 ≡ holds_once → (db : Database) × (o ≡ Some db) × (new ≡ record w { database = db })
there_by (Some db) w new e h = (db, refl, e)
there_by None w new e h = absurd cc

gone_by : (o : Option Database) (w new : WorldTerms) → new ≡ (clause_removed o w).0 → (clause_removed o w).1 ≡ Solutions [] → (o ≡ None) × (new ≡ w)
gone_by (Some db) w new e h = absurd cc
gone_by None w new e h = (refl, e)

never_by : (o : Option Database) (w : WorldTerms) (id : ClauseId) (applied : Applied) → IsReplied (Remove id) 0 (clause_removed o w).1 applied → (applied ≡ Went → ⊥) → (applied ≡ Fails → ⊥) → ⊥
never_by o w id Went h went fails = went refl
never_by o w id Fails h went fails = fails refl
never_by (Some db) w id (Raise fault) h went fails = cc
never_by None w id (Raise fault) h went fails = cc
never_by o w id (Clauses found) h went fails = h
never_by o w id (Rows rows) h went fails = h
never_by (Some db) w id (Halt k) h went fails = cc
never_by None w id (Halt k) h went fails = cc

module _ (id : ClauseId) (old new : World) where
  pub was_there : (applied : Applied) → applied ≡ Went → IsEffectApplied (Remove id) old new applied → RemovesClause id.0 (world_meant old) (world_meant new) true
  was_there applied e h = let k = subst (IsEffectApplied (Remove id) old new) e h 0 in there_by (without_clause id.0 (world_meant old).database) (world_meant old) (world_meant new) k.0 k.1

  pub was_gone : (applied : Applied) → applied ≡ Fails → IsEffectApplied (Remove id) old new applied → RemovesClause id.0 (world_meant old) (world_meant new) false
  was_gone applied e h = let k = subst (IsEffectApplied (Remove id) old new) e h 0 in gone_by (without_clause id.0 (world_meant old).database) (world_meant old) (world_meant new) k.0 k.1

  pub never_other : (applied : Applied) → IsEffectApplied (Remove id) old new applied → (applied ≡ Went → ⊥) → (applied ≡ Fails → ⊥) → ⊥
  never_other applied h went fails = never_by (without_clause id.0 (world_meant old).database) (world_meant old) id applied (h 0).1 went fails
