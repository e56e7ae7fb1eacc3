use Rattle.std.proofs.Common.{[], sym, subst, arith}
use Rattle.std.proofs.lemmas.List.Elements.{All-push, All-nil, All-same}
use Rattle.goal_interner.proofs.InternLemmas.{keeps-chain, keeps-refl}
use Rattle.goal_lists.specs.Interned.{IsIn, AreIn}
use Rattle.goal_lists.proofs.InternedLemmas.{are_in-grown}
use Rattle.goal_eval.specs.HeaderWords.{AreFilled}
use Rattle.goal_eval.proofs.CacheLemmas.{aside-chain, aside-refl}
use Rattle.goal_eval.proofs.HeaderArgLemmas.{filled-more}
use Rattle.goal_eval.proofs.relate.header_args.filled_args.Goals as goal

pub returns-in_err-args-clause-aside : goal.returns-in_err-args-clause-aside
returns-in_err-args-clause-aside c = aside-refl c.args.effects.now

pub loop-one-init : goal.loop-one-init
loop-one-init c = record {
  kept = keeps-refl c.args.terms.now;
  within = All-same (IsIn c.args.terms.now) _ [] c.in_ok-args.ensures.items (All-nil (IsIn c.args.terms.now));
  filled = subst (AreFilled c.args.terms.now []) (sym c.in_ok-args.ensures.items) tt;
  aside = aside-refl c.args.effects.now;
}

pub returns-in_err-argument-clause-aside : goal.returns-in_err-argument-clause-aside
returns-in_err-argument-clause-aside c = aside-chain _ _ _ c.loop-one.invariant.aside c.filled_arg.ensures.aside

pub returns-in_err-push-clause-aside : goal.returns-in_err-push-clause-aside
returns-in_err-push-clause-aside c = aside-chain _ _ _ c.loop-one.invariant.aside c.in_ok-argument.ensures.aside

pub loop-one-preserved : goal.loop-one-preserved
loop-one-preserved c = record {
  kept = keeps-chain _ _ _ c.loop-one.invariant.kept c.in_ok-argument.ensures.kept;
  within =
      subst (AreIn c.filled_arg.new.terms) (sym c.in_ok-push.ensures.items)
      (All-push (IsIn c.filled_arg.new.terms) c.loop-one.args.items c.in_ok-argument.argument
      (are_in-grown c.loop-one.terms c.filled_arg.new.terms c.in_ok-argument.ensures.kept c.loop-one.args.items c.loop-one.invariant.within) c.in_ok-argument.ensures.within);
  filled =
      subst (AreFilled c.filled_arg.new.terms _) (sym c.in_ok-push.ensures.items)
      (filled-more c.loop-one.terms c.filled_arg.new.terms c.args.known.now c.loop-one.args.items c.loop-one.one-index _ c.in_ok-argument.argument
      c.in_ok-argument.ensures.kept c.loop-one.invariant.within (omega arith) c.loop-one.invariant.filled c.in_ok-argument.ensures.filled);
  aside = aside-chain _ _ _ c.loop-one.invariant.aside c.in_ok-argument.ensures.aside;
}
