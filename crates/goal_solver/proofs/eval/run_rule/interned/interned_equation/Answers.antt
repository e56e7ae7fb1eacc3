use Rattle.std.proofs.Common.{ap, ◌∙◌}
use Rattle.goal_lists.specs.Entries.{equal_terms}
use Rattle.goal_lists.specs.Interned.{erased_all}
use Rattle.goal_lists.proofs.InternedLemmas.{all_same-grown}
use Rattle.goal_eval.specs.Outcomes.{header_terms}
use Rattle.goal_solver.proofs.eval.run_rule.interned.interned_equation.Goals as goal

pub returns-clause-entry : goal.returns-clause-entry
returns-clause-entry c =
    ap (λ xs. equal_terms xs (erased_all c.intern_args-2.new.terms c.in_ok-second.second.items))
    (all_same-grown c.intern_args.new.terms c.intern_args-2.new.terms c.intern_args-2.ensures.kept c.in_ok-first.first.items c.in_ok-first.ensures.within ∙ c.in_ok-first.ensures.trees)
    ∙ ap (equal_terms (header_terms c.args.left.now)) c.in_ok-second.ensures.trees
