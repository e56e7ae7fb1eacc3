use Rattle.std.proofs.Common.{sym, subst}
use Rattle.goal_solver.specs.GoingBack.{GoesBack}
use Rattle.goal_solver.proofs.GoingBackLemmas.{goes_back-same, goes_back-restored}
use Rattle.goal_solver.proofs.RelatedLemmas.{agreed-back}
use Rattle.goal_solver.proofs.context.EvalCtxt.args_of_other.Goals as goal

pub returns-in_err-own-clause-goes_back : goal.returns-in_err-own-clause-goes_back
returns-in_err-own-clause-goes_back c = goes_back-same c.args.self.now

pub returns-in_default-clause-goes_back : goal.returns-in_default-clause-goes_back
returns-in_default-clause-goes_back c = goes_back-same c.args.self.now

pub returns-then-is_err-clause-goes_back : goal.returns-then-is_err-clause-goes_back
returns-then-is_err-clause-goes_back c =
    subst (GoesBack c.args.self.now) (sym (c.rollback.ensures.undone c.args.self.now c.snapshot-before.ensures c.translated_to-translated.ensures.goes_back))
    (goes_back-restored c.args.self.now c.translated_to-translated.new.self c.translated_to-translated.ensures.goes_back)

pub returns-then-is_err-clause-agreed : goal.returns-then-is_err-clause-agreed
returns-then-is_err-clause-agreed c = agreed-back c.args.self.now c.rollback.new.self c.holds_together.ensures (returns-then-is_err-clause-goes_back c)

pub returns-else-is_err-clause-agreed : goal.returns-else-is_err-clause-agreed
returns-else-is_err-clause-agreed c = agreed-back c.args.self.now c.translated_to-translated.new.self c.holds_together.ensures c.translated_to-translated.ensures.goes_back
