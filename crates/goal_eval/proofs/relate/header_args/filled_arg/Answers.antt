use Rattle.std.proofs.Common.{sym, subst}
use Rattle.std.specs.Prelude.{IfOk}
use Rattle.goal_eval.specs.HeaderWords.{IsFilled}
use Rattle.goal_eval.proofs.CacheLemmas.{aside-refl}
use Rattle.goal_eval.proofs.HeaderArgLemmas.{ok-with, lifetime-erased}
use Rattle.goal_eval.proofs.relate.header_args.filled_arg.Goals as goal

pub returns-in-Some-clause-aside : goal.returns-in-Some-clause-aside
returns-in-Some-clause-aside c = aside-refl c.args.effects.now

pub returns-in_ok-lifetime-in-None-clause-filled : goal.returns-in_ok-lifetime-in-None-clause-filled
returns-in_ok-lifetime-in-None-clause-filled c =
    subst (λ o. IfOk c.intern_part.result (IsFilled c.intern_part.new.self o)) (sym c.in-None.is)
    (ok-with c.intern_part.result c.intern_part.ensures.tree c.intern_part.ensures.tree (λ id e f. lifetime-erased c.intern_part.new.self id c.in_ok-lifetime-in-None.lifetime e))
