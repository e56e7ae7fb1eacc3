use Rattle.std.proofs.Common.{◌≡◌, ◌++◌, suc, length, map, refl, sym, ap, ◌∙◌, subst, arith}
use Rattle.std.specs.List.{All}
use Rattle.std.proofs.lemmas.Simd.{map-map}
use Rattle.goal_terms.specs.Erased.{erased}
use Rattle.goal_terms.specs.Sorts.{IsArgument}
use Rattle.goal_interner.specs.TableMeaning.{tree_at}
use Rattle.goal_terms.specs.Tree.{alias, forest, parts_of}
use Rattle.goal_terms.specs.declared.terms.AliasTermKind.TheVariants.{ProjectionTy}
use Rattle.goal_lists.specs.Interned.{IsIn, CandidateIn, candidate_at, erased_at, erased_all}
use Rattle.goal_lists.specs.declared.candidates.interned.InternedCandidate.TheVariants as candidates
use Rattle.goal_lists.specs.declared.candidates.interned.InternedPredicate.TheVariants as predicates
use Rattle.goal_lists.proofs.CandidateTerms.{item_clause-arguments, item_clause-count, object_bound-item, alias-erased}
use Rattle.goal_lists.proofs.GrowingLists.{in-pushed, at-pushed}
use Rattle.goal_lists.proofs.InternedLemmas.{in-grown, candidate_in-grown, candidate_same-grown}
use Rattle.goal_lists.proofs.UnderLemmas.{are_in-arguments}
use Rattle.goal_lists.proofs.candidates.objects.push_item_clause.Goals as goal

pub part-term-requires-clause-place : goal.part-term-requires-clause-place
part-term-requires-clause-place c =
    let count : length (parts_of (tree_at c.args.terms.now c.args.clause)) ≡ suc c.args.top.1 =
    item_clause-count (tree_at c.args.terms.now c.args.clause) c.args.top c.requires.top c.requires.fits in
    omega arith

pub self_and_first-requires-clause-arguments : goal.self_and_first-requires-clause-arguments
self_and_first-requires-clause-arguments c = item_clause-arguments (tree_at c.args.terms.now c.args.clause) c.args.top c.requires.top c.requires.fits

pub self_and_first-requires-clause-count : goal.self_and_first-requires-clause-count
self_and_first-requires-clause-count c =
    let count : length (parts_of (tree_at c.args.terms.now c.args.clause)) ≡ suc c.args.top.1 =
    item_clause-count (tree_at c.args.terms.now c.args.clause) c.args.top c.requires.top c.requires.fits in
    omega arith

pub intern_node-requires-clause-fits : goal.intern_node-requires-clause-fits
intern_node-requires-clause-fits c = are_in-arguments c.args.terms.now c.in_ok-args.args.items c.in_ok-args.ensures.within

pub returns-clause-within : goal.returns-clause-within
returns-clause-within c =
    let count : length (parts_of (tree_at c.args.terms.now c.args.clause)) ≡ suc c.args.top.1 =
    item_clause-count (tree_at c.args.terms.now c.args.clause) c.args.top c.requires.top c.requires.fits in
    let term_in : IsIn c.args.terms.now c.part-term.result = (
      omega (arith, c.part-term.ensures.earlier, c.requires.clause),
      subst IsArgument (sym c.part-term.ensures.tree)
          (item_clause-arguments (tree_at c.args.terms.now c.args.clause) c.args.top c.requires.top c.requires.fits c.args.top.1 _ (omega arith)),
    ) in
    subst (All (CandidateIn c.intern_node.new.self)) (sym c.in_ok-push.ensures.items)
    (in-pushed CandidateIn candidate_at candidate_in-grown candidate_same-grown c.args.terms.now c.intern_node.new.self c.in_ok-alias.ensures.kept
    c.args.found.now.items (candidates.Assumption (predicates.Projection c.in_ok-alias.alias c.part-term.result)) c.requires.within (
      (c.in_ok-alias.ensures.within, subst IsArgument (sym c.in_ok-alias.ensures.tree) refl),
      in-grown c.args.terms.now c.intern_node.new.self c.in_ok-alias.ensures.kept c.part-term.result term_in,
    ))

pub returns-clause-pushed : goal.returns-clause-pushed
returns-clause-pushed c =
    ap (map (candidate_at c.intern_node.new.self)) c.in_ok-push.ensures.items
    ∙ at-pushed CandidateIn candidate_at candidate_in-grown candidate_same-grown c.args.terms.now c.intern_node.new.self c.in_ok-alias.ensures.kept
    c.args.found.now.items (candidates.Assumption (predicates.Projection c.in_ok-alias.alias c.part-term.result)) c.requires.within
    ∙ ap (λ cs. map (candidate_at c.args.terms.now) c.args.found.now.items ++ cs)
    (object_bound-item (erased_at c.args.terms.now c.args.self_ty) (tree_at c.args.terms.now c.args.clause)
    (erased_at c.intern_node.new.self c.in_ok-alias.alias) (tree_at c.intern_node.new.self c.part-term.result) c.args.top
    (erased_all c.args.terms.now c.in_ok-args.args.items) c.requires.top c.requires.fits c.in_ok-args.ensures.trees
    (ap erased c.in_ok-alias.ensures.tree ∙ alias-erased (ProjectionTy c.args.top.0) (map (tree_at c.args.terms.now) c.in_ok-args.args.items)
    ∙ ap (λ ts. alias (ProjectionTy c.args.top.0) (forest ts)) (map-map erased (tree_at c.args.terms.now) c.in_ok-args.args.items))
    (c.in_ok-alias.ensures.kept.same c.part-term.result (omega (arith, c.part-term.ensures.earlier, c.requires.clause)) ∙ c.part-term.ensures.tree))
