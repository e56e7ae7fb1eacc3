use Rattle.std.proofs.Common.{rules, ◌≡◌}
use Rattle.goal_terms.specs.Tree.{node_of}
use Rattle.goal_terms.specs.TreeOf.{tree_of_term}
use Rattle.goal_terms.specs.declared.heads.Node.TheVariants as nodes
use Rattle.goal_solver.proofs.BoundAliasLemmas.{head-stands}
use Rattle.goal_solver.proofs.context.EvalCtxt.resolved_alias.Goals as goal

pub returns-in-Head-clause-none : goal.returns-in-Head-clause-none
returns-in-Head-clause-none c =
    let top : node_of (tree_of_term c.args.term.now) ≡ nodes.Head c.in-Head.field-0 = search rules in
    λ e. head-stands c.args.self.now (tree_of_term c.args.term.now) c.in-Head.field-0 top
