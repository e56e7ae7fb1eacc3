use Rattle.std.proofs.Common.{Some, None, Result, Ok, Err, Vec, Global, inr, refl, sym, subst}
use Rattle.std.specs.Prelude.{IfOk, option_map}
use Rattle.goal_terms.specs.TreeOf.{tree_of_ty, trees_of}
use Rattle.goal_terms.specs.declared.answers.Certainty.TheVariants as certainty
use Rattle.goal_terms.specs.declared.terms.GenericArg.{GenericArg}
use Rattle.goal_terms.specs.declared.terms.Term.{Term}
use Rattle.goal_solver.specs.HiddenTypes.{NormalizesArgs}
use Rattle.goal_solver.specs.OpenRuns.{Defines, DefinesUnder}
use Rattle.goal_solver.specs.Refusals.{WhenRefused, RefusesHidden, RefusesUnder}
use Rattle.goal_solver.proofs.GoingBackLemmas.{goes_back-same, goes_back-through}
use Rattle.goal_solver.proofs.RefusalLemmas.{refused-map}
use Rattle.goal_solver.proofs.context.EvalCtxt.define_hidden_type.Goals as goal

-- what is so of an answer
on_value : {T E : Type 0} (r : Result T E) (P Q : T → Type 0) → ((x : T) → P x → Q x) → IfOk r P → IfOk r Q
on_value (Ok x) P Q f h = f x h
on_value (Err e) P Q f h = tt

pub returns-in-Const-clause-goes_back : goal.returns-in-Const-clause-goes_back
returns-in-Const-clause-goes_back c = goes_back-same c.args.self.now

pub returns-in_default-clause-defines : goal.returns-in_default-clause-defines
returns-in_default-clause-defines c =
    subst (λ (e : Term). Defines c.args.environment.now e c.args.key.now c.args.first c.args.self.now certainty.Maybe c.normalized_args.new.self) (sym c.in-Ty.is) (
      None,
      c.normalized_args.new.self,
      subst (λ xs. NormalizesArgs c.args.environment.now xs c.args.self.now None c.normalized_args.new.self) c.deref.ensures.value
          (subst (λ o. NormalizesArgs c.args.environment.now c.deref.result.now c.args.self.now (option_map (λ (made : Vec GenericArg Global). trees_of made.items) o) c.normalized_args.new.self) c.in_default.is
          c.in_ok-args-in-Ty.ensures.normalized),
      (refl, refl),
    )

pub returns-in-Some-clause-defines : goal.returns-in-Some-clause-defines
returns-in-Some-clause-defines c =
    subst (λ (e : Term). IfOk c.define_under.result (λ k. Defines c.args.environment.now e c.args.key.now c.args.first c.args.self.now k c.define_under.new.self)) (sym c.in-Ty.is)
    (on_value c.define_under.result _ _
    (λ k under. (
      Some (trees_of c.in-Some.args.items),
      c.normalized_args.new.self,
      subst (λ xs. NormalizesArgs c.args.environment.now xs c.args.self.now (Some (trees_of c.in-Some.args.items)) c.normalized_args.new.self) c.deref.ensures.value
          (subst (λ o. NormalizesArgs c.args.environment.now c.deref.result.now c.args.self.now (option_map (λ (made : Vec GenericArg Global). trees_of made.items) o) c.normalized_args.new.self) c.in-Some.is
          c.in_ok-args-in-Ty.ensures.normalized),
      subst (λ xs. DefinesUnder c.args.environment.now (tree_of_ty c.in-Ty.ty) c.args.key.now c.args.first (Some (trees_of xs)) c.normalized_args.new.self k c.define_under.new.self) c.deref-in-Ty.ensures.value under,
    ))
    c.define_under.ensures.defines)

pub returns-in-Some-clause-refused : goal.returns-in-Some-clause-refused
returns-in-Some-clause-refused c =
    subst (λ (e : Term). WhenRefused c.define_under.result (RefusesHidden c.args.environment.now e c.args.key.now c.args.first c.args.self.now c.define_under.new.self)) (sym c.in-Ty.is)
    (refused-map c.define_under.result (λ under. inr (
      trees_of c.in-Some.args.items,
      c.normalized_args.new.self,
      subst (λ xs. NormalizesArgs c.args.environment.now xs c.args.self.now (Some (trees_of c.in-Some.args.items)) c.normalized_args.new.self) c.deref.ensures.value
          (subst (λ o. NormalizesArgs c.args.environment.now c.deref.result.now c.args.self.now (option_map (λ (made : Vec GenericArg Global). trees_of made.items) o) c.normalized_args.new.self) c.in-Some.is
          c.in_ok-args-in-Ty.ensures.normalized),
      subst (λ xs. RefusesUnder c.args.environment.now (tree_of_ty c.in-Ty.ty) c.args.key.now c.args.first (trees_of xs) c.normalized_args.new.self c.define_under.new.self) c.deref-in-Ty.ensures.value
          under,
    )) c.define_under.ensures.refused)

pub returns-in-Some-clause-goes_back : goal.returns-in-Some-clause-goes_back
returns-in-Some-clause-goes_back c =
    goes_back-through c.args.self.now c.normalized_args.new.self c.define_under.new.self c.normalized_args.ensures.goes_back c.define_under.ensures.goes_back
