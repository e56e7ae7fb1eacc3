use Rattle.goal_eval.proofs.InterningLemmas.{pair-interned}
use Rattle.goal_eval.proofs.eval.interning.intern_pair.Goals as goal

pub returns-clause-within : goal.returns-clause-within
returns-clause-within c =
    (pair-interned c.intern.new.self c.intern-2.new.self c.in_ok-first.first c.in_ok-second.second c.args.left.now c.args.right.now
    c.in_ok-first.ensures.within c.in_ok-first.ensures.tree c.in_ok-second.ensures.kept c.in_ok-second.ensures.within c.in_ok-second.ensures.tree).0

pub returns-clause-exact : goal.returns-clause-exact
returns-clause-exact c = (
  (pair-interned c.intern.new.self c.intern-2.new.self c.in_ok-first.first c.in_ok-second.second c.args.left.now c.args.right.now
      c.in_ok-first.ensures.within c.in_ok-first.ensures.tree c.in_ok-second.ensures.kept c.in_ok-second.ensures.within c.in_ok-second.ensures.tree).1,
  c.in_ok-second.ensures.tree,
)
