use Rattle.goal_eval.proofs.InterningLemmas.{equation-interned}
use Rattle.goal_eval.proofs.eval.interning.intern_equation.Goals as goal

pub returns-clause-within : goal.returns-clause-within
returns-clause-within c =
    equation-interned c.intern_part.new.self c.intern.new.self c.in_ok-first.first c.in_ok-second.second c.args.alias.now c.args.term.now
    c.in_ok-first.ensures.within c.in_ok-first.ensures.tree c.in_ok-second.ensures.kept c.in_ok-second.ensures.within c.in_ok-second.ensures.tree
