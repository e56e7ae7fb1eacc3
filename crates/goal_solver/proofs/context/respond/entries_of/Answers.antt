use Rattle.std.proofs.Common.{subst}
use Rattle.goal_terms.specs.Tree.{Tree}
use Rattle.goal_terms.specs.TreeOf.{tree_of_ty}
use Rattle.goal_terms.specs.declared.heads.Variable.{Variable}
use Rattle.goal_interner.proofs.InternLemmas.{keeps-chain}
use Rattle.goal_infer.specs.Resolution.{resolution}
use Rattle.goal_infer.proofs.SolvedLemmas.{solved-kept}
use Rattle.goal_solver.specs.Responses.{IsWithBindings}
use Rattle.goal_solver.proofs.SinceMarkLemmas.{resolution-kept, entries-more}
use Rattle.goal_solver.proofs.context.respond.entries_of.Goals as goal

pub followed_ty-requires : goal.followed_ty-requires
followed_ty-requires c = record { solved = solved-kept c.args.terms.now c.loop-entry.terms c.args.inference.now c.loop-entry.invariant.kept c.requires.solved }

pub loop-entry-preserved : goal.loop-entry-preserved
loop-entry-preserved c = record {
  kept = keeps-chain _ _ _ c.loop-entry.invariant.kept c.in_ok-hidden.ensures.kept;
  listed =
      entries-more (resolution c.args.terms.now c.args.inference.now) c.args.entries.now c.loop-entry.entry-index c.entry-item.result (c.in_ok-key.key, c.in_ok-hidden.hidden)
      c.loop-entry.listed.items c.push.new.self.items c.loop-entry-test.true c.entry-item.is (
        c.in_ok-key.ensures,
        subst (λ (ρ : Variable → Tree). IsWithBindings ρ (tree_of_ty c.entry-item.result.1) (tree_of_ty c.in_ok-hidden.hidden))
            (resolution-kept c.args.terms.now c.loop-entry.terms c.args.inference.now c.loop-entry.invariant.kept c.requires.solved) c.in_ok-hidden.ensures.followed,
      )
      c.in_ok-push.ensures.items c.loop-entry.invariant.listed;
}
