use Rattle.std.proofs.Common.{◌∙◌, sym, ap}
use Rattle.goal_terms.specs.View.{tree_of_ref, trees_seen}
use Rattle.goal_checks.specs.Params.{params_seen}
use Rattle.goal_terms.specs.Kinds.{kind_of}
use Rattle.goal_checks.proofs.ParamLemmas.{differs_from-start, differs_from-more, differs_from-found}
use Rattle.goal_checks.proofs.params.Params.differs_in_kind.Goals as goal

pub returns-then-differs_at : goal.returns-then-differs_at
returns-then-differs_at c =
    sym
    (differs_from-start (params_seen c.args.self) (trees_seen c.args.parts)
    ∙ differs_from-found (params_seen c.args.self) (trees_seen c.args.parts) c.loop-i.i (tree_of_ref c.at.result) c.kind_of-kind.result _ c.at.ensures (c.kind_of-kind.ensures ∙ ap kind_of c.node.ensures) (sym c.differs_at.ensures ∙ c.if-differs_at.true) c.loop-i.invariant)

pub loop-i-preserved : goal.loop-i-preserved
loop-i-preserved c =
    differs_from-more (params_seen c.args.self) (trees_seen c.args.parts) c.loop-i.i (tree_of_ref c.at.result) c.kind_of-kind.result _ c.at.ensures (c.kind_of-kind.ensures ∙ ap kind_of c.node.ensures) (sym c.differs_at.ensures ∙ c.if-differs_at.false) c.loop-i.invariant
