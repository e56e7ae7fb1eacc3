use Rattle.std.proofs.Common.{◌≡◌, [], ◌∷◌, ◌++◌, map, sym, ap, ◌∙◌, subst, arith}
use Rattle.std.proofs.lemmas.List.{map_push}
use Rattle.std.proofs.lemmas.List.Elements.{All-push}
use Rattle.std.proofs.lemmas.Simd.{map-map}
use Rattle.goal_terms.specs.Erased.{erased}
use Rattle.goal_interner.specs.TableMeaning.{tree_at}
use Rattle.goal_lists.specs.Interned.{IsIn, AreIn, erased_at, erased_all}
use Rattle.goal_lists.proofs.CandidateTerms.{parts_in}
use Rattle.goal_lists.proofs.candidates.bounds.args_and_self.Goals as goal

pub returns-clause-within : goal.returns-clause-within
returns-clause-within c =
    let made : c.push.new.self.items ≡ c.parts.result.now ++ c.args.alias ∷ [] =
    c.in_ok-push.ensures.items
    ∙ ap (λ xs. xs ++ c.args.alias ∷ []) (c.in_ok-extend_from_slice.ensures.items ∙ ap (λ xs. xs ++ c.parts.result.now) c.new-ids.ensures.items) in
    subst (AreIn c.args.terms.now) (sym made)
    (All-push (IsIn c.args.terms.now) c.parts.result.now c.args.alias
    (parts_in c.args.terms.now c.args.alias.0 c.parts.result.now _ (omega (arith, c.requires.alias.0)) c.parts.ensures.earlier c.parts.ensures.trees c.requires.arguments)
    c.requires.alias)

pub returns-clause-trees : goal.returns-clause-trees
returns-clause-trees c =
    let made : c.push.new.self.items ≡ c.parts.result.now ++ c.args.alias ∷ [] =
    c.in_ok-push.ensures.items
    ∙ ap (λ xs. xs ++ c.args.alias ∷ []) (c.in_ok-extend_from_slice.ensures.items ∙ ap (λ xs. xs ++ c.parts.result.now) c.new-ids.ensures.items) in
    ap (erased_all c.args.terms.now) made ∙ map_push (erased_at c.args.terms.now) c.parts.result.now c.args.alias
    ∙ ap (λ ts. ts ++ erased_at c.args.terms.now c.args.alias ∷ []) (sym (map-map erased (tree_at c.args.terms.now) c.parts.result.now) ∙ ap (map erased) c.parts.ensures.trees)
