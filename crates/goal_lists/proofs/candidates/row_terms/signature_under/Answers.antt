use Rattle.goal_lists.proofs.RowTermLemmas.{signature-is_argument}
use Rattle.goal_lists.proofs.candidates.row_terms.signature_under.Goals as goal

pub term_under-requires-clause-argument : goal.term_under-requires-clause-argument
term_under-requires-clause-argument c = signature-is_argument c.args.sig.now
