use Rattle.std.proofs.Common.{◌≡◌, ◌+◌, ℕ, List, refl, sym, ap, ◌∙◌, subst, take, get_or}
use Rattle.std.specs.List.{AllZip}
use Rattle.goal_terms.specs.Erased.{erased}
use Rattle.goal_interner.specs.TableMeaning.{Keeps}
use Rattle.goal_terms.specs.Tree.{Tree}
use Rattle.goal_terms.specs.TreeOf.{tree_of_term}
use Rattle.goal_terms.specs.declared.heads.Variable.{Variable}
use Rattle.goal_terms.specs.declared.terms.Term.{Term}
use Rattle.goal_interner.proofs.InternLemmas.{keeps-chain}
use Rattle.goal_infer.specs.Resolution.{resolution}
use Rattle.goal_infer.proofs.SolvedLemmas.{solved-kept}
use Rattle.goal_solver.specs.Responses.{IsValueOf, variables_at}
use Rattle.goal_solver.proofs.SinceMarkLemmas.{resolution-kept, values-more, values-skipped, none-when}
use Rattle.goal_solver.proofs.context.respond.values_of.Goals as goal
use Rattle.goal_solver.proofs.context.respond.values_of.Goals.{in-Some+in_ok-value+in_ok-push, in_default}

pub value_of-requires : goal.value_of-requires
value_of-requires c = record { solved = solved-kept c.args.terms.now c.loop-number.terms c.args.inference.now c.loop-number.invariant.kept c.requires.solved }

pub loop-number-preserved : goal.loop-number-preserved
loop-number-preserved c =
    let i : ℕ = c.loop-number.number-index in
    let ρ : Variable → Tree = resolution c.args.terms.now c.args.inference.now in
    let ns = c.args.numbers.now in
    elim c.match-variable_at.branch [
      | in-Some+in_ok-value+in_ok-push w ↦ record {
        kept = subst (Keeps c.args.terms.now) (sym w.terms-is) (keeps-chain _ _ _ c.loop-number.invariant.kept w.in_ok-value.ensures.kept);
        listed = subst (λ (ps : List (ℕ × Term)). AllZip (IsValueOf ρ) (variables_at c.args.inference.now (take (i + 1) ns)) ps) (sym (ap (λ v. v.items) w.values-is))
            (values-more ρ c.args.inference.now ns i (get_or ns i 0) w.in-Some.variable c.loop-number.values.items w.push.new.self.items w.in_ok-value.value
            c.loop-number-test.true refl (sym c.variable_at.ensures ∙ w.in-Some.is)
            (subst (λ (σ : Variable → Tree). erased (tree_of_term w.in_ok-value.value) ≡ σ w.in-Some.variable)
            (resolution-kept c.args.terms.now c.loop-number.terms c.args.inference.now c.loop-number.invariant.kept c.requires.solved) w.in_ok-value.ensures.value)
            w.in_ok-push.ensures.items c.loop-number.invariant.listed);
      }
      | in_default w ↦ record {
        kept = subst (Keeps c.args.terms.now) (sym w.terms-is) c.loop-number.invariant.kept;
        listed = subst (λ (ps : List (ℕ × Term)). AllZip (IsValueOf ρ) (variables_at c.args.inference.now (take (i + 1) ns)) ps) (sym (ap (λ v. v.items) w.values-is))
            (values-skipped ρ c.args.inference.now ns i (get_or ns i 0) c.loop-number.values.items
            c.loop-number-test.true refl (sym c.variable_at.ensures ∙ none-when c.variable_at.result w.in_default.not-Some) c.loop-number.invariant.listed);
      }
    ]
