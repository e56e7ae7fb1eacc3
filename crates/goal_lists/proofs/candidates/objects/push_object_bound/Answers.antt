use Rattle.std.proofs.Common.{map, sym, ap, ◌∙◌}
use Rattle.goal_interner.specs.TableMeaning.{tree_at}
use Rattle.goal_lists.specs.CandidateTops.{clause_trait, clause_item}
use Rattle.goal_lists.specs.Interned.{candidate_at, erased_at}
use Rattle.goal_lists.proofs.CandidateTerms.{object_bound-none, nothing-more}
use Rattle.goal_lists.proofs.candidates.objects.push_object_bound.Goals as goal

pub returns-clause-pushed : goal.returns-clause-pushed
returns-clause-pushed c =
    nothing-more (map (candidate_at c.args.terms.now) c.args.found.now.items) _
    (object_bound-none (erased_at c.args.terms.now c.args.self_ty) (tree_at c.args.terms.now c.args.clause)
    (ap clause_trait (sym c.node-node.ensures.top) ∙ sym c.clause_trait.ensures ∙ c.in_default.is)
    (ap clause_item (sym c.node-node.ensures.top) ∙ sym c.clause_item.ensures ∙ c.in_default-clause_item.is))
