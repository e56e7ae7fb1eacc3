use Rattle.goal_infer.proofs.BindingLemmas.{binding-own, bindings-others}
use Rattle.goal_infer.proofs.laws.one_binding_changes_one_variable.Goals as goal

pub returns-clause-own : goal.returns-clause-own
returns-clause-own c = binding-own

pub returns-clause-others : goal.returns-clause-others
returns-clause-others c = bindings-others
