-- Procedures that become unknown.
use Rattle.std.proofs.Common.{◌≡◌, ℕ, Bool, true, false, not, ◌&&◌, ◌||◌, nat_lt, List, [], ◌∷◌, ◌++◌, Option, None, sym, ap, ap₂, ◌∙◌, codes}
use Rattle.au_term.specs.Term.{Term}
use Rattle.au_term.proofs.LogicLemmas.{or-right}
use Rattle.au_model.specs.Terms.Forms.{name_of}
use Rattle.au_model.specs.Terms.ErrorTerms.{error_term, instantiation_error, type_error, domain_error, representation_error}
use Rattle.au_model.specs.Terms.TermTypes.{is_variable, is_integer, is_atom}
use Rattle.au_model.specs.Syntax.OperatorChanges.{error_if, first_error}
use Rattle.run_model.specs.Programs.DatabaseChanges.{without_procedure}
use Rattle.run_model.specs.Goals.Outcomes.{Ball}
use Rattle.run_model.specs.Goals.DatabaseGoals.{abolished, indicator_error, is_below_zero, is_indicator, modify_error, number_in}
use Rattle.run_model.specs.Goals.WorldConstructs.{holds_once}
use Rattle.run_model.specs.Goals.Worlds.{is_reserved}
use Rattle.clause_compile.specs.declared.event.Effect.TheVariants as effect
use Rattle.dyn_clauses.specs.DatabaseView.{KnownDatabase, is_static}
use Rattle.dyn_clauses.specs.declared.indicator.Indicator.{Indicator}
use Rattle.effect_gate.specs.Effects.{IsEffectApplied, statics_of, world_meant}
use Rattle.effect_gate.specs.Indicators.{AreParts, IsProcedureOf, arity_part, name_part, parts_error, shape_error}
use Rattle.effect_gate.specs.declared.world.World.{World}
use Rattle.effect_gate.specs.declared.world.Applied.TheVariants.{Went}
use Rattle.effect_gate.proofs.RefusalLemmas.{Raises, front_none, front_some, one_error, passed_by, raised_by}

-- the errors of Name/Arity: those of its shape, those of its parts, and that of a static procedure
abbrev pub shape_tests : Term → List (Option Term)
shape_tests t =
    error_if (is_variable t || (is_indicator t && (is_variable (name_part t) || is_variable (arity_part t)))) instantiation_error
    ∷ error_if (not (is_indicator t)) (type_error (codes "predicate_indicator") t)
    ∷ []

abbrev pub part_tests : Term → Term → List (Option Term)
part_tests name arity =
    error_if (not (is_atom name)) (type_error (codes "atom") name)
    ∷ error_if (not (is_integer arity)) (type_error (codes "integer") arity)
    ∷ error_if (is_below_zero arity) (domain_error (codes "not_less_than_zero") arity)
    ∷ error_if (nat_lt 65535 (number_in arity)) (representation_error (codes "max_arity"))
    ∷ []

abbrev pub static_test : World → Term → Option Term
static_test old t = error_if (statics_of old (name_of (name_part t)) (number_in (arity_part t))) (modify_error t)

module _ (old : World) (t : Term) where
  abbrev pub all_errors : Option Term
  all_errors = indicator_error (statics_of old) t (name_part t) (arity_part t)

  pub abolition_raises : Raises (effect.Abolish t) old all_errors
  abolition_raises fault e = λ next. raised_by (codes "abolish") 1 (world_meant old) all_errors _ _ e

  pub shape_raises : Raises (effect.Abolish t) old (shape_error t)
  shape_raises fault e = abolition_raises fault (front_some (shape_tests t) (part_tests (name_part t) (arity_part t) ++ static_test old t ∷ []) _ e)

  module _ (name arity : Term) (shape : shape_error t ≡ None) (parts : AreParts t (name, arity)) where
    part_errors : all_errors ≡ first_error (part_tests (name_part t) (arity_part t) ++ static_test old t ∷ [])
    part_errors = front_none (shape_tests t) (part_tests (name_part t) (arity_part t) ++ static_test old t ∷ []) shape

    pub parts_raise : Raises (effect.Abolish t) old (parts_error name arity)
    parts_raise fault e =
        abolition_raises fault (part_errors ∙ front_some (part_tests (name_part t) (arity_part t)) (static_test old t ∷ []) _ (ap₂ parts_error (sym parts.0) (sym parts.1) ∙ e))

    module _ (p : Indicator) (no_error : parts_error name arity ≡ None) (of : IsProcedureOf name arity p) where
      static_error : all_errors ≡ static_test old t
      static_error = part_errors ∙ (front_none (part_tests (name_part t) (arity_part t)) (static_test old t ∷ []) (ap₂ parts_error (sym parts.0) (sym parts.1) ∙ no_error) ∙ one_error (static_test old t))

      same_name_as : p.name ≡ name_of (name_part t)
      same_name_as = of.0 ∙ ap name_of parts.0

      same_arity_as : p.arity ≡ number_in (arity_part t)
      same_arity_as = of.1 ∙ ap number_in parts.1

      static_as : (b : Bool) → statics_of old p.name p.arity ≡ b → all_errors ≡ error_if b (modify_error t)
      static_as b h = static_error ∙ ap (λ x. error_if x (modify_error t)) (sym (ap₂ (statics_of old) same_name_as same_arity_as) ∙ h)

      pub static_raises : statics_of old p.name p.arity ≡ true → (next : ℕ) → (world_meant old ≡ (abolished (statics_of old) t (world_meant old)).0) × ((abolished (statics_of old) t (world_meant old)).1 ≡ Ball (error_term (modify_error t) (codes "abolish") 1))
      static_raises h next = raised_by (codes "abolish") 1 (world_meant old) all_errors _ _ (static_as true h)

      pub abolition_done : (database : KnownDatabase) → statics_of old p.name p.arity ≡ false → database ≡ record old.database { kept = without_procedure old.database.kept p.name p.arity }
          → IsEffectApplied (effect.Abolish t) old (record old { database = database }) Went
      abolition_done database h d = λ next.
          let same = passed_by (codes "abolish") 1 (world_meant old) all_errors (record (world_meant old) { database = without_procedure old.database.kept (name_of (name_part t)) (number_in (arity_part t)) }, holds_once) (static_as false h) in (
            ap (λ (k : KnownDatabase). record (world_meant old) { database = k.kept }) d
                ∙ (ap₂ (λ name arity. record (world_meant old) { database = without_procedure old.database.kept name arity }) same_name_as same_arity_as ∙ sym (ap (λ p. p.0) same)),
            ap (λ p. p.1) same,
          )

pub not_static : (old : World) (p : Indicator) → statics_of old p.name p.arity ≡ false → is_static old.database.statics p ≡ true → ⊥
not_static old p h k = let free = or-right (is_reserved p.name p.arity) (is_static old.database.statics p) h in cc
