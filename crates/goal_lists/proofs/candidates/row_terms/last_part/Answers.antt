use Rattle.std.proofs.Common.{◌-◌, length, arith}
use Rattle.goal_lists.proofs.RowTermLemmas.{last-none, last-some, part-in}
use Rattle.goal_lists.proofs.candidates.row_terms.last_part.Goals as goal

pub returns-then-count-eq0-clause-term : goal.returns-then-count-eq0-clause-term
returns-then-count-eq0-clause-term c = last-none c.args.terms.now c.args.id c.parts-parts.result.now c.parts-parts.ensures.trees (omega arith)

pub returns-clause-within : goal.returns-clause-within
returns-clause-within c =
    part-in c.args.terms.now c.args.id _ c.parts-parts.result.now (length c.parts-parts.result.now - 1) c.requires.within c.requires.arguments
    c.parts-parts.ensures.trees c.parts-parts.ensures.earlier (omega arith)

pub returns-clause-term : goal.returns-clause-term
returns-clause-term c =
    last-some c.args.terms.now c.args.id _ c.parts-parts.result.now (length c.parts-parts.result.now - 1) c.parts-parts.ensures.trees (omega arith)
