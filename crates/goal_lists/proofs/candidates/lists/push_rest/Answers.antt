use Rattle.std.proofs.Common.{map, sym, ap, ◌∙◌, subst}
use Rattle.std.specs.List.{All}
use Rattle.std.proofs.lemmas.List.{map_push}
use Rattle.std.proofs.lemmas.List.Elements.{All-push}
use Rattle.goal_lists.specs.Answers.{setting_of}
use Rattle.goal_lists.specs.Fitting.{trees_at}
use Rattle.goal_lists.specs.Interned.{CandidateIn, candidate_at, erased_at}
use Rattle.goal_lists.specs.declared.candidates.interned.InternedCandidate.TheVariants as candidates
use Rattle.goal_lists.proofs.CandidateClasses.{rest-made}
use Rattle.goal_lists.proofs.candidates.lists.push_rest.Goals as goal

pub push_object_bounds-requires-clause-within : goal.push_object_bounds-requires-clause-within
push_object_bounds-requires-clause-within c =
    subst (All (CandidateIn c.args.terms.now)) (sym c.in_ok-push.ensures.items)
    (All-push (CandidateIn c.args.terms.now) c.push_impls.new.found.items candidates.BuiltIn (c.in_ok-push_impls.ensures.within c.args.terms.now c.requires.within) tt)

pub returns-clause-pushed : goal.returns-clause-pushed
returns-clause-pushed c m env =
    rest-made (trees_at c.args.terms.now c.args.sought.now.args.now) (setting_of c.args.rows.now m env) c.args.sought.now.trait_id (erased_at c.args.terms.now c.args.sought.now.self_ty)
    (map (candidate_at c.args.terms.now) c.args.found.now.items) (map (candidate_at c.args.terms.now) c.push_impls.new.found.items)
    (map (candidate_at c.args.terms.now) c.push.new.self.items) (map (candidate_at c.push_object_bounds.new.terms) c.push_object_bounds.new.found.items) _
    (c.in_ok-push_impls.ensures.pushed c.args.terms.now)
    (ap (map (candidate_at c.args.terms.now)) c.in_ok-push.ensures.items
    ∙ map_push (candidate_at c.args.terms.now) c.push_impls.new.found.items candidates.BuiltIn)
    c.in_ok-push_object_bounds.ensures.pushed
    (ap (map (candidate_at c.push_object_bounds.new.terms)) c.in_ok-push-2.ensures.items
    ∙ map_push (candidate_at c.push_object_bounds.new.terms) c.push_object_bounds.new.found.items candidates.Error)
