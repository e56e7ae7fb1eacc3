use Rattle.goal_infer.proofs.SolvedLemmas.{solved-kept}
use Rattle.std.proofs.Common.{◌≡◌}
use Rattle.goal_terms.specs.Erased.{erased}
use Rattle.goal_interner.specs.TableMeaning.{tree_at}
use Rattle.goal_terms.specs.TreeOf.{tree_of_term}
use Rattle.goal_infer.specs.Resolution.{resolution}
use Rattle.goal_lists.proofs.ResultLemmas.{ok-map}
use Rattle.goal_solver.proofs.SinceMarkLemmas.{value-here}
use Rattle.goal_solver.proofs.context.respond.value_of.Goals as goal

pub follow-requires-clause-solved : goal.follow-requires-clause-solved
follow-requires-clause-solved c = solved-kept c.args.terms.now c.intern_node.new.self c.args.inference.now c.in_ok-id.ensures.kept c.requires.solved

pub returns-clause-value : goal.returns-clause-value
returns-clause-value c =
    ok-map (λ x. tree_of_term x ≡ tree_at c.follow.new.table c.in_ok-value.value)
    (λ x. erased (tree_of_term x) ≡ resolution c.args.terms.now c.args.inference.now c.args.variable) c.to_term.result
    (λ x e. value-here c.args.terms.now c.intern_node.new.self c.follow.new.table c.args.inference.now c.args.variable c.in_ok-id.id c.in_ok-value.value x
    c.in_ok-id.ensures.kept c.requires.solved c.in_ok-id.ensures.tree c.in_ok-value.ensures.tree e)
    c.to_term.ensures
