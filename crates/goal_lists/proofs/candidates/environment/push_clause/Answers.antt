use Rattle.std.proofs.Common.{◌∷◌, [], ◌++◌, cond, map, sym, ap, ◌∙◌, subst}
use Rattle.std.specs.List.{All}
use Rattle.goal_terms.specs.PredicateTrees.{tree_of_kind}
use Rattle.goal_lists.specs.Answers.{erased_predicate}
use Rattle.goal_lists.specs.Candidates.{assumption}
use Rattle.goal_lists.specs.Interned.{CandidateIn, candidate_at}
use Rattle.goal_lists.specs.declared.candidates.interned.InternedCandidate.TheVariants as candidates
use Rattle.goal_lists.proofs.GrowingLists.{in-pushed, at-pushed}
use Rattle.goal_lists.proofs.InternedLemmas.{candidate_in-grown, candidate_same-grown}
use Rattle.goal_lists.proofs.candidates.environment.push_clause.Goals as goal

pub returns-in_ok-push-clause-within : goal.returns-in_ok-push-clause-within
returns-in_ok-push-clause-within c =
    subst (All (CandidateIn c.predicate_given.new.terms)) (sym c.in_ok-push.ensures.items)
    (in-pushed CandidateIn candidate_at candidate_in-grown candidate_same-grown c.args.terms.now c.predicate_given.new.terms
    c.in_ok-predicate.ensures.kept c.args.found.now.items (candidates.Assumption c.in_ok-predicate.predicate) c.requires.within
    c.in_ok-predicate.ensures.within)

pub returns-in_ok-push-clause-pushed : goal.returns-in_ok-push-clause-pushed
returns-in_ok-push-clause-pushed c =
    ap (map (candidate_at c.predicate_given.new.terms)) c.in_ok-push.ensures.items
    ∙ at-pushed CandidateIn candidate_at candidate_in-grown candidate_same-grown c.args.terms.now c.predicate_given.new.terms
    c.in_ok-predicate.ensures.kept c.args.found.now.items (candidates.Assumption c.in_ok-predicate.predicate) c.requires.within
    ∙ ap (λ p. map (candidate_at c.args.terms.now) c.args.found.now.items ++ assumption p ∷ []) c.in_ok-predicate.ensures.tree
    ∙ ap (λ b. map (candidate_at c.args.terms.now) c.args.found.now.items ++ cond b (assumption (erased_predicate (tree_of_kind c.args.clause.now)) ∷ []) [])
    (sym c.if-clause_may_fit.true ∙ c.clause_may_fit.ensures)
