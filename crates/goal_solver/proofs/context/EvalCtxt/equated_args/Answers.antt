use Rattle.std.proofs.Common.{[], List, length, map, Result, Ok, Err, Vec, refl, sym, ap, ◌∙◌}
use Rattle.std.proofs.lemmas.List.{length-map}
use Rattle.std.specs.Global.{Global}
use Rattle.goal_terms.specs.Folding.{instance}
use Rattle.goal_terms.specs.Tree.{Tree}
use Rattle.goal_terms.specs.TreeOf.{tree_of_arg, trees_of}
use Rattle.goal_terms.specs.declared.answers.Certainty.{Certainty}
use Rattle.goal_terms.specs.declared.answers.ParamKind.{ParamKind}
use Rattle.goal_terms.specs.declared.heads.Variable.{Variable}
use Rattle.goal_terms.specs.declared.terms.GenericArg.{GenericArg}
use Rattle.goal_infer.specs.Replacement.{OfKinds}
use Rattle.goal_lists.specs.Headers.{under}
use Rattle.goal_lists.specs.TraitGoals.{header_of}
use Rattle.goal_kinds.specs.declared.faults.Fault.{Fault}
use Rattle.goal_eval.specs.ErasedArgs.{erased_args}
use Rattle.goal_solver.specs.Relating.{AgreesWith, Identifies, Refuses}
use Rattle.goal_solver.specs.State.{kinds_of}
use Rattle.goal_solver.specs.TranslatedArgs.{certainty_in}
use Rattle.goal_solver.specs.Variables.{with_variables, kind_for, fresh_args}
use Rattle.goal_solver.proofs.GoingBackLemmas.{goes_back-through}
use Rattle.goal_solver.proofs.RoundLemmas.{handed-on}
use Rattle.goal_solver.proofs.TranslatedLemmas.{fresh-count}
use Rattle.goal_solver.proofs.TranslatedAnswers.{made-equal, never-made, equal-under}
use Rattle.goal_solver.proofs.context.EvalCtxt.equated_args.Goals as goal

pub returns-in_err-certainty-clause-never : goal.returns-in_err-certainty-clause-never
returns-in_err-certainty-clause-never c =
    handed-on c.from_residual-in_err-certainty.result c.in_err-certainty.field-0.0
    (λ (x : Result (Vec GenericArg Global × Certainty) Fault). Refuses (certainty_in x) → (ρ : Variable → Tree) → OfKinds ρ → AgreesWith c.args.self.now ρ →
    Identifies ρ (erased_args c.args.trait_ref.now.args.items) (map (under (fresh_args c.args.other.now.params.items (length (kinds_of c.args.self.now)))) (header_of c.args.other.now)) → ⊥)
    c.from_residual-in_err-certainty.ensures.1
    (never-made c.args.self.now c.fresh_args_for_item.new.self c.eq_args.new.self c.args.environment.now c.args.other.now c.args.trait_ref.now c.deref-4.result.now c.deref-5.result.now c.in_ok-args.args.items
    (c.in_ok-args.ensures.made ∙ ap (λ (ps : List ParamKind). with_variables (map kind_for ps) c.args.self.now) c.deref.ensures.value)
    (c.in_ok-args.ensures.fresh ∙ ap (λ (ps : List ParamKind). fresh_args ps (length (kinds_of c.args.self.now))) c.deref.ensures.value)
    c.deref-4.ensures.value
    (ap trees_of c.deref-5.ensures.value ∙ c.in-Ok.ensures ∙ ap (λ (xs : List GenericArg). map (instance (trees_of xs)) (trees_of c.deref-2.result.now)) c.deref-3.ensures.value
    ∙ ap (λ (xs : List GenericArg). map (instance (trees_of c.in_ok-args.args.items)) (trees_of xs)) c.deref-2.ensures.value)
    (Err c.in_err-certainty.field-0.0) c.in_err-certainty.ensures.equated.never)

pub returns-clause-made_equal : goal.returns-clause-made_equal
returns-clause-made_equal c =
    made-equal c.args.self.now c.fresh_args_for_item.new.self c.eq_args.new.self c.args.environment.now c.args.other.now c.args.trait_ref.now c.deref-4.result.now c.deref-5.result.now c.in_ok-args.args.items
    (c.in_ok-args.ensures.made ∙ ap (λ (ps : List ParamKind). with_variables (map kind_for ps) c.args.self.now) c.deref.ensures.value)
    (c.in_ok-args.ensures.fresh ∙ ap (λ (ps : List ParamKind). fresh_args ps (length (kinds_of c.args.self.now))) c.deref.ensures.value)
    c.deref-4.ensures.value
    (ap trees_of c.deref-5.ensures.value ∙ c.in-Ok.ensures ∙ ap (λ (xs : List GenericArg). map (instance (trees_of xs)) (trees_of c.deref-2.result.now)) c.deref-3.ensures.value
    ∙ ap (λ (xs : List GenericArg). map (instance (trees_of c.in_ok-args.args.items)) (trees_of xs)) c.deref-2.ensures.value)
    c.in_ok-certainty.certainty c.in_ok-args.args refl c.in_ok-certainty.ensures.equated

pub returns-clause-equal : goal.returns-clause-equal
returns-clause-equal c =
    equal-under c.args.self.now c.eq_args.new.self c.args.environment.now c.args.other.now (trees_of c.args.trait_ref.now.args.items) [] (Ok (c.in_ok-args.args, c.in_ok-certainty.certainty))
    (returns-clause-made_equal c)

pub returns-clause-count : goal.returns-clause-count
returns-clause-count c =
    sym (length-map c.in_ok-args.args.items tree_of_arg) ∙ ap length c.in_ok-args.ensures.fresh ∙ fresh-count c.deref.result.now _ ∙ ap length c.deref.ensures.value

pub returns-clause-goes_back : goal.returns-clause-goes_back
returns-clause-goes_back c =
    goes_back-through c.args.self.now c.fresh_args_for_item.new.self c.eq_args.new.self c.fresh_args_for_item.ensures.goes_back c.eq_args.ensures.goes_back
