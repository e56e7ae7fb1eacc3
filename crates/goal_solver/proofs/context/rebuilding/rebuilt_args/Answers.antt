use Rattle.std.proofs.Common.{◌≡◌, ℕ, ◌<◌, ◌+◌, ◌++◌, ◌∷◌, List, [], length, get_or, take, map, ap, sym, arith, ◌∙◌}
use Rattle.std.proofs.lemmas.List.{map-append, take_more, take_all}
use Rattle.goal_interner.specs.TableMeaning.{tree_at}
use Rattle.goal_terms.specs.Tree.{Tree}
use Rattle.goal_terms.specs.TreeOf.{tree_of_arg, trees_of}
use Rattle.goal_interner.specs.declared.term_nodes.TermId.{TermId}
use Rattle.goal_terms.specs.declared.terms.GenericArg.{GenericArg}
use Rattle.goal_solver.proofs.context.rebuilding.rebuilt_args.Goals as goal

-- one more argument
rebuilt-more : (T : List Tree) (ids : List TermId) (i : ℕ) (d : TermId) (args after : List GenericArg) (a : GenericArg) → i < length ids →
    trees_of args ≡ map (tree_at T) (take i ids) → tree_of_arg a ≡ tree_at T (get_or ids i d) → after ≡ args ++ a ∷ [] → trees_of after ≡ map (tree_at T) (take (i + 1) ids)
rebuilt-more T ids i d args after a l so_far here e =
    ap trees_of e ∙ map-append tree_of_arg args (a ∷ []) ∙ ap (λ ts. ts ++ tree_of_arg a ∷ []) so_far ∙ ap (λ t. map (tree_at T) (take i ids) ++ t ∷ []) here
    ∙ sym (map-append (tree_at T) (take i ids) (get_or ids i d ∷ [])) ∙ ap (map (tree_at T)) (sym (take_more ids i d l))

pub loop-id-preserved : goal.loop-id-preserved
loop-id-preserved c =
    rebuilt-more c.args.terms.now c.args.ids.now c.loop-id.id-index _ c.loop-id.args.items c.push.new.self.items c.in_ok-arg.arg c.loop-id-test.true
    c.loop-id.invariant c.in_ok-arg.ensures c.in_ok-push.ensures.items

pub returns : goal.returns
returns c = c.loop-id.invariant ∙ ap (map (tree_at c.args.terms.now)) (take_all c.loop-id.id-index c.args.ids.now (omega arith))
