use Rattle.std.proofs.Common.{ap, sym, ◌∙◌}
use Rattle.goal_kinds.specs.RuleLists.{arguments_of}
use Rattle.goal_solver.proofs.eval.run_rule.interned.interned_arguments.Goals as goal

pub returns-in-OtherImpl-clause-within : goal.returns-in-OtherImpl-clause-within
returns-in-OtherImpl-clause-within c = c.other_header.ensures.within c.args.terms.now

pub returns-in-OtherImpl-clause-arguments : goal.returns-in-OtherImpl-clause-arguments
returns-in-OtherImpl-clause-arguments c = c.other_header.ensures.arguments c.args.terms.now ∙ sym (ap (arguments_of c.args.setting.now.rows.now) c.in-OtherImpl.is)
