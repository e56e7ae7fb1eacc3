use Rattle.goal_lists.proofs.RowTermLemmas.{type-is_argument}
use Rattle.goal_lists.proofs.candidates.row_terms.type_under.Goals as goal

pub term_under-requires-clause-argument : goal.term_under-requires-clause-argument
term_under-requires-clause-argument c = type-is_argument c.args.ty.now
