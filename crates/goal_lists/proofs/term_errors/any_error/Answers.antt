use Rattle.std.proofs.Common.{sym, ◌∙◌, arith}
use Rattle.goal_terms.specs.Occurrences.{has_error}
use Rattle.goal_lists.specs.Interned.{erased_at}
use Rattle.goal_lists.proofs.TermErrorLemmas.{error-erased, none-more, some-passes}
use Rattle.goal_lists.proofs.term_errors.any_error.Goals as goal

pub returns-then-has_error : goal.returns-then-has_error
returns-then-has_error c =
    sym (some-passes (erased_at c.args.terms.now) has_error c.args.ids.now c.loop-i.i _ (omega arith) (error-erased _ ∙ sym c.has_error.ensures ∙ c.if-has_error.true))

pub loop-i-preserved : goal.loop-i-preserved
loop-i-preserved c =
    none-more (erased_at c.args.terms.now) has_error c.args.ids.now c.loop-i.i _ (omega arith) c.loop-i.invariant (error-erased _ ∙ sym c.has_error.ensures ∙ c.if-has_error.false)
