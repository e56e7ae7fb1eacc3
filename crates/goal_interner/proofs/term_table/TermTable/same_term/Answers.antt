use Rattle.std.proofs.Common.{ap, ◌∙◌, sym, subst, eq-eqb}
use Rattle.std.proofs.lemmas.Bool.{eqb-true}
use Rattle.goal_interner.specs.TableMeaning.{tree_at, AreDistinct}
use Rattle.goal_interner.proofs.TableLemmas.{same_id, same_number}
use Rattle.goal_interner.proofs.term_table.TermTable.same_term.Goals as goal

pub returns-clause-equal : goal.returns-clause-equal
returns-clause-equal c = (
  λ h. same_id c.args.a c.args.b (eqb-true c.args.a.0 c.args.b.0 (sym c.eq.ensures ∙ h)),
  λ e. c.eq.ensures ∙ eq-eqb c.args.a.0 c.args.b.0 (ap (λ i. i.0) e),
)

pub returns-clause-identical : goal.returns-clause-identical
returns-clause-identical c = (
  λ h. ap (tree_at c.args.self.now) ((returns-clause-equal c).0 h),
  λ e. (returns-clause-equal c).1
      (same_number c.args.self.now (subst AreDistinct c.self.view_is c.self.invariant.table.distinct) c.args.a c.args.b c.requires.first c.requires.second e),
)
