use Rattle.std.proofs.Common.{[], ◌∷◌, sym, subst}
use Rattle.std.specs.Prelude.{IfOk}
use Rattle.goal_terms.specs.TreeOf.{tree_of_term, tree_of_ty}
use Rattle.goal_terms.proofs.TreeLemmas.{tree_of_term-Ty}
use Rattle.goal_solver.specs.OpenRuns.{Equates, MeetsHidden}
use Rattle.goal_solver.specs.Refusals.{WhenRefused, RefusesEqual, RefusesMeeting}
use Rattle.goal_solver.proofs.GoingBackLemmas.{goes_back-same}
use Rattle.goal_solver.proofs.context.EvalCtxt.meet_hidden.Goals as goal

pub returns-in_default-clause-goes_back : goal.returns-in_default-clause-goes_back
returns-in_default-clause-goes_back c = goes_back-same c.args.self.now

pub returns-in-Some-clause-meets : goal.returns-in-Some-clause-meets
returns-in-Some-clause-meets c =
    subst (λ o. IfOk c.equate_terms.result (λ k. MeetsHidden c.args.environment.now (tree_of_ty c.args.ty.now) c.args.first c.args.key.now o c.args.self.now k c.equate_terms.new.self)) (sym c.in-Some.is)
    (subst (λ t. IfOk c.equate_terms.result (Equates c.args.environment.now (t ∷ []) (tree_of_ty c.in-Some.earlier ∷ []) c.args.self.now c.equate_terms.new.self)) c.in-Ok.ensures
    (subst (λ u. IfOk c.equate_terms.result (Equates c.args.environment.now (tree_of_term c.in-Ok.expected ∷ []) (u ∷ []) c.args.self.now c.equate_terms.new.self)) (tree_of_term-Ty c.in-Some.earlier)
    c.equate_terms.ensures.equates))

pub returns-in-Some-clause-refused : goal.returns-in-Some-clause-refused
returns-in-Some-clause-refused c =
    subst (λ o. WhenRefused c.equate_terms.result (RefusesMeeting c.args.environment.now (tree_of_ty c.args.ty.now) c.args.first c.args.key.now o c.args.self.now c.equate_terms.new.self)) (sym c.in-Some.is)
    (subst (λ t. WhenRefused c.equate_terms.result (RefusesEqual c.args.environment.now (t ∷ []) (tree_of_ty c.in-Some.earlier ∷ []) c.args.self.now c.equate_terms.new.self)) c.in-Ok.ensures
    (subst (λ u. WhenRefused c.equate_terms.result (RefusesEqual c.args.environment.now (tree_of_term c.in-Ok.expected ∷ []) (u ∷ []) c.args.self.now c.equate_terms.new.self)) (tree_of_term-Ty c.in-Some.earlier)
    c.equate_terms.ensures.refused))
