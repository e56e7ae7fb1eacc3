use Rattle.std.proofs.Common.{◌<◌, length, refl, arith}
use Rattle.std.proofs.lemmas.List.Elements.{All-get_or}
use Rattle.goal_interner.specs.declared.term_nodes.TermId.{TermId}
use Rattle.goal_interner.proofs.InternLemmas.{keeps-chain}
use Rattle.goal_infer.proofs.RegionStateLemmas.{adds-same, adds-through, adds-go_back}
use Rattle.goal_solver.proofs.LifetimeLemmas.{lifetimes-more, lifetimes-done, past-shorter, changes-through}
use Rattle.goal_solver.proofs.GoingBackLemmas.{goes_back-inferred}
use Rattle.goal_solver.proofs.context.EvalCtxt.equate_lifetimes.Goals as goal

pub loop-i-init : goal.loop-i-init
loop-i-init c = record {
  kept = record { longer = omega arith; same = λ id e. refl };
  alone = refl;
  adds = adds-same c.args.self.now.inference c.args.self.now.inference refl;
  listed = λ e. refl;
}

pub equate_pair-requires-clause-first : goal.equate_pair-requires-clause-first
equate_pair-requires-clause-first c =
    let p : c.loop-i.i < length c.args.left.now = omega arith in
    let l = All-get_or (λ (id : TermId). id.0 < length c.args.self.now.terms) c.args.left.now c.loop-i.i (record { 0 = 0 }) p c.requires.first in
    omega (arith, l, c.loop-i.invariant.kept.longer)

pub equate_pair-requires-clause-second : goal.equate_pair-requires-clause-second
equate_pair-requires-clause-second c =
    let p : c.loop-i.i < length c.args.right.now = omega arith in
    let l = All-get_or (λ (id : TermId). id.0 < length c.args.self.now.terms) c.args.right.now c.loop-i.i (record { 0 = 0 }) p c.requires.second in
    omega (arith, l, c.loop-i.invariant.kept.longer)

pub returns-in_err-equate_pair-clause-kept : goal.returns-in_err-equate_pair-clause-kept
returns-in_err-equate_pair-clause-kept c = keeps-chain _ _ _ c.loop-i.invariant.kept c.in_err-equate_pair.ensures.kept

pub returns-in_err-equate_pair-clause-alone : goal.returns-in_err-equate_pair-clause-alone
returns-in_err-equate_pair-clause-alone c = changes-through c.args.self.now c.loop-i.self c.equate_pair.new.self c.loop-i.invariant.alone c.in_err-equate_pair.ensures.alone

pub returns-in_err-equate_pair-clause-adds : goal.returns-in_err-equate_pair-clause-adds
returns-in_err-equate_pair-clause-adds c = adds-through _ _ _ c.loop-i.invariant.adds c.in_err-equate_pair.ensures.adds

pub returns-in_err-equate_pair-clause-goes_back : goal.returns-in_err-equate_pair-clause-goes_back
returns-in_err-equate_pair-clause-goes_back c =
    goes_back-inferred c.args.self.now c.equate_pair.new.self (returns-in_err-equate_pair-clause-alone c) (returns-in_err-equate_pair-clause-kept c)
    (adds-go_back _ _ (returns-in_err-equate_pair-clause-adds c))

pub loop-i-preserved : goal.loop-i-preserved
loop-i-preserved c =
    let p : c.loop-i.i < length c.args.left.now = omega arith in
    let q : c.loop-i.i < length c.args.right.now = omega arith in
    record {
      kept = keeps-chain _ _ _ c.loop-i.invariant.kept c.in_ok-equate_pair.ensures.kept;
      alone = changes-through c.args.self.now c.loop-i.self c.equate_pair.new.self c.loop-i.invariant.alone c.in_ok-equate_pair.ensures.alone;
      adds = adds-through _ _ _ c.loop-i.invariant.adds c.in_ok-equate_pair.ensures.adds;
      listed = λ e. lifetimes-more c.args.self.now.terms c.loop-i.self.terms c.args.left.now c.args.right.now c.loop-i.i (record { 0 = 0 }) (record { 0 = 0 })
          c.loop-i.self.inference c.equate_pair.new.self.inference _ c.loop-i.invariant.kept c.requires.first c.requires.second p q e c.in_ok-equate_pair.ensures.identical
          (c.loop-i.invariant.listed e);
    }

pub returns-clause-identical : goal.returns-clause-identical
returns-clause-identical c = λ e.
    lifetimes-done c.args.self.now.terms c.args.left.now c.args.right.now c.loop-i.i c.loop-i.self.inference _
    (past-shorter (length c.args.left.now) (length c.args.right.now) c.loop-i.i c.min-count.result c.min-count.ensures c.loop-i-test.false) e (c.loop-i.invariant.listed e)

pub returns-clause-goes_back : goal.returns-clause-goes_back
returns-clause-goes_back c = goes_back-inferred c.args.self.now c.loop-i.self c.loop-i.invariant.alone c.loop-i.invariant.kept (adds-go_back _ _ c.loop-i.invariant.adds)
