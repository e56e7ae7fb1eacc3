use Rattle.std.proofs.Common.{◌≡◌, [], ◌∷◌, ◌++◌, map, take, sym, ap, ◌∙◌, subst, arith}
use Rattle.std.proofs.lemmas.List.{take-map}
use Rattle.std.proofs.lemmas.List.Elements.{All-cons, All-take}
use Rattle.std.proofs.lemmas.Simd.{map-map}
use Rattle.goal_terms.specs.Erased.{erased}
use Rattle.goal_interner.specs.TableMeaning.{tree_at}
use Rattle.goal_lists.specs.Interned.{IsIn, AreIn, erased_at, erased_all}
use Rattle.goal_lists.proofs.CandidateTerms.{parts_in}
use Rattle.goal_lists.proofs.candidates.objects.self_and_first.Goals as goal

pub returns-clause-within : goal.returns-clause-within
returns-clause-within c =
    let made : c.extend_from_slice.new.self.items ≡ c.args.self_ty ∷ take c.args.count c.parts.result.now =
    c.in_ok-extend_from_slice.ensures.items
    ∙ ap (λ xs. xs ++ take c.args.count c.parts.result.now) (c.in_ok-push.ensures.items ∙ ap (λ xs. xs ++ c.args.self_ty ∷ []) c.new-ids.ensures.items) in
    subst (AreIn c.args.terms.now) (sym made)
    (All-cons (IsIn c.args.terms.now) c.args.self_ty (take c.args.count c.parts.result.now) c.requires.known
    (All-take (IsIn c.args.terms.now) c.args.count c.parts.result.now
    (parts_in c.args.terms.now c.args.clause.0 c.parts.result.now _ (omega (arith, c.requires.clause)) c.parts.ensures.earlier c.parts.ensures.trees
    c.requires.arguments)))

pub returns-clause-trees : goal.returns-clause-trees
returns-clause-trees c =
    let made : c.extend_from_slice.new.self.items ≡ c.args.self_ty ∷ take c.args.count c.parts.result.now =
    c.in_ok-extend_from_slice.ensures.items
    ∙ ap (λ xs. xs ++ take c.args.count c.parts.result.now) (c.in_ok-push.ensures.items ∙ ap (λ xs. xs ++ c.args.self_ty ∷ []) c.new-ids.ensures.items) in
    ap (erased_all c.args.terms.now) made
    ∙ ap (λ ts. erased_at c.args.terms.now c.args.self_ty ∷ ts)
    (sym (map-map erased (tree_at c.args.terms.now) (take c.args.count c.parts.result.now))
    ∙ ap (map erased) (sym (take-map (tree_at c.args.terms.now) c.args.count c.parts.result.now) ∙ ap (take c.args.count) c.parts.ensures.trees))
