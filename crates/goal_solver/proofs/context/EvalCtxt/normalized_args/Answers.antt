use Rattle.std.proofs.Common.{rules, ◌≡◌, ◌∙◌, List, [], Option, Some, Result, Vec, Global, arith, refl, sym, subst}
use Rattle.goal_terms.specs.TreeOf.{trees_of}
use Rattle.goal_terms.specs.declared.terms.GenericArg.{GenericArg}
use Rattle.goal_kinds.specs.declared.faults.Fault.{Fault}
use Rattle.goal_solver.specs.HiddenTypes.{NormalizesArgs, RefusesArgs}
use Rattle.goal_solver.specs.Refusals.{WhenRefused}
use Rattle.goal_solver.proofs.GoingBackLemmas.{goes_back-same, goes_back-through}
use Rattle.goal_solver.proofs.HiddenTypeLemmas.{normalized-none, normalized-next, normalized-refused}
use Rattle.goal_solver.proofs.RoundLemmas.{handed-on}
use Rattle.goal_solver.proofs.context.EvalCtxt.normalized_args.Goals as goal

pub loop-arg-init : goal.loop-arg-init
loop-arg-init c =
    let empty : c.new.result.items ≡ [] = search rules in
    record {
      normalized = subst (λ (xs : List GenericArg). NormalizesArgs c.args.environment.now [] c.args.self.now (Some (trees_of xs)) c.args.self.now) (sym empty) (normalized-none c.args.environment.now c.args.self.now);
      faults = refl;
      back = goes_back-same c.args.self.now;
    }

pub returns-in_err-normalized-clause-refused : goal.returns-in_err-normalized-clause-refused
returns-in_err-normalized-clause-refused c =
    handed-on c.from_residual.result c.in_err-normalized.field-0.0 (λ (r : Result (Option (Vec GenericArg Global)) Fault). WhenRefused r (RefusesArgs c.args.environment.now c.args.args.now c.args.self.now c.normalized_arg.new.self))
    c.from_residual.ensures.1
    (λ is. normalized-refused c.args.environment.now c.args.args.now c.loop-arg.arg-index c.arg-item.result c.args.self.now c.loop-arg.self c.normalized_arg.new.self _ (omega arith) c.arg-item.is
    c.loop-arg.invariant.normalized (c.in_err-normalized.ensures.refused is))

pub loop-arg-preserved : goal.loop-arg-preserved
loop-arg-preserved c = record {
  normalized = normalized-next c.args.environment.now c.args.args.now c.loop-arg.arg-index c.arg-item.result c.args.self.now c.loop-arg.self c.normalized_arg.new.self _ _ _ (omega arith) c.arg-item.is
      c.in_ok-made.ensures.behind c.loop-arg.invariant.normalized c.in_ok-normalized.ensures.normalized;
  faults = c.normalized_arg.ensures.faults ∙ c.loop-arg.invariant.faults;
  back = goes_back-through c.args.self.now c.loop-arg.self c.normalized_arg.new.self c.loop-arg.invariant.back c.normalized_arg.ensures.goes_back;
}

pub returns-in_err-normalized-clause-goes_back : goal.returns-in_err-normalized-clause-goes_back
returns-in_err-normalized-clause-goes_back c =
    goes_back-through c.args.self.now c.loop-arg.self c.normalized_arg.new.self c.loop-arg.invariant.back c.normalized_arg.ensures.goes_back
