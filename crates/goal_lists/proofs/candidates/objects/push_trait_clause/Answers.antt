use Rattle.std.proofs.Common.{◌≡◌, ◌++◌, length, map, ap, ◌∙◌, arith}
use Rattle.std.proofs.lemmas.List.{map_push}
use Rattle.goal_interner.specs.TableMeaning.{tree_at}
use Rattle.goal_terms.specs.Tree.{parts_of}
use Rattle.goal_lists.specs.Interned.{candidate_at, erased_at, erased_all}
use Rattle.goal_lists.specs.declared.candidates.interned.InternedCandidate.TheVariants as candidates
use Rattle.goal_lists.specs.declared.candidates.interned.InternedPredicate.TheVariants as predicates
use Rattle.goal_lists.proofs.CandidateTerms.{trait_clause-arguments, trait_clause-count, object_bound-trait}
use Rattle.goal_lists.proofs.candidates.objects.push_trait_clause.Goals as goal

pub self_and_first-requires-clause-arguments : goal.self_and_first-requires-clause-arguments
self_and_first-requires-clause-arguments c = trait_clause-arguments (tree_at c.args.terms.now c.args.clause) c.args.top c.requires.top c.requires.fits

pub self_and_first-requires-clause-count : goal.self_and_first-requires-clause-count
self_and_first-requires-clause-count c =
    let same : c.args.top.1 ≡ length (parts_of (tree_at c.args.terms.now c.args.clause)) =
    trait_clause-count (tree_at c.args.terms.now c.args.clause) c.args.top c.requires.top c.requires.fits in
    omega arith

pub returns-clause-pushed : goal.returns-clause-pushed
returns-clause-pushed c =
    ap (map (candidate_at c.args.terms.now)) c.in_ok-push.ensures.items
    ∙ map_push (candidate_at c.args.terms.now) c.args.found.now.items
    (candidates.Assumption (predicates.Trait (record { def_id = c.args.top.0; args = c.in_ok-args.args })))
    ∙ ap (λ cs. map (candidate_at c.args.terms.now) c.args.found.now.items ++ cs)
    (object_bound-trait (erased_at c.args.terms.now c.args.self_ty) (tree_at c.args.terms.now c.args.clause) c.args.top
    (erased_all c.args.terms.now c.in_ok-args.args.items) c.requires.top c.requires.fits c.in_ok-args.ensures.trees)
