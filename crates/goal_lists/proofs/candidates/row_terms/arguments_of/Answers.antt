use Rattle.std.proofs.Common.{arith}
use Rattle.goal_lists.proofs.RowTermLemmas.{copied-in, copied-trees, parts-erased}
use Rattle.goal_lists.proofs.candidates.row_terms.arguments_of.Goals as goal

pub returns-clause-within : goal.returns-clause-within
returns-clause-within c =
    copied-in c.args.terms.now c.args.id c.loop-part.numbers.items c.parts-parts.result.now c.loop-part.part-index c.requires.within c.requires.arguments
    c.parts-parts.ensures.trees c.parts-parts.ensures.earlier (omega arith) c.loop-part.invariant

pub returns-clause-trees : goal.returns-clause-trees
returns-clause-trees c =
    copied-trees c.args.terms.now c.args.id c.loop-part.numbers.items c.parts-parts.result.now c.loop-part.part-index
    c.parts-parts.ensures.trees (omega arith) c.loop-part.invariant

pub returns-clause-terms : goal.returns-clause-terms
returns-clause-terms c =
    parts-erased c.args.terms.now c.args.id c.loop-part.numbers.items
    (copied-trees c.args.terms.now c.args.id c.loop-part.numbers.items c.parts-parts.result.now c.loop-part.part-index
    c.parts-parts.ensures.trees (omega arith) c.loop-part.invariant)
