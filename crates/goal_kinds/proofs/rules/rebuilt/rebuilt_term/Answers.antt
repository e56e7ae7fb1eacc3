use Rattle.goal_interner.specs.TableMeaning.{tree_at}
use Rattle.goal_kinds.proofs.RebuiltLemmas.{term-of_erased}
use Rattle.goal_kinds.proofs.rules.rebuilt.rebuilt_term.Goals as goal

pub to_term-requires : goal.to_term-requires
to_term-requires c = (c.requires.within.0, term-of_erased (tree_at c.args.terms.now c.args.id) c.requires.sort)
