use Rattle.std.proofs.Common.{rules, ◌≡◌, [], ◌∷◌, refl, ap}
use Rattle.goal_interner.specs.TableMeaning.{tree_at}
use Rattle.goal_terms.specs.Tree.{Tree}
use Rattle.goal_terms.specs.TreeOf.{tree_of_term}
use Rattle.goal_solver.specs.Equating.{IsEquated, equation}
use Rattle.goal_solver.proofs.GoingBackLemmas.{goes_back-interned, solved-grown}
use Rattle.goal_solver.proofs.EquatedLemmas.{agreed-interned, equated-unanswered, equated-interned, alone-interned, unchanged-interned, back-interned, fault-interned, faults-interned}
use Rattle.goal_solver.proofs.context.EvalCtxt.eq.Goals as goal

pub invariant_of-self : goal.invariant_of-self
invariant_of-self c = (
  c.self.invariant.0,
  c.self.invariant.1,
  c.self.invariant.2,
  c.self.invariant.3,
  c.self.invariant.4,
  solved-grown c.self.inside.terms c.intern_pair.new.terms c.self.inside.inference c.intern_pair.ensures.kept c.self.invariant.5,
  c.self.invariant.6,
)

pub returns-in_default-clause-equated : goal.returns-in_default-clause-equated
returns-in_default-clause-equated c =
    equated-unanswered c.args.self.now _ c.args.environment.now _ _ (agreed-interned _ c.args.self.now c.intern_pair.new.terms c.self.view_is c.intern_pair.ensures.kept c.self.invariant.5)

pub returns-in_default-clause-goes_back : goal.returns-in_default-clause-goes_back
returns-in_default-clause-goes_back c = goes_back-interned _ c.args.self.now _ c.intern_pair.new.terms c.self.view_is refl c.intern_pair.ensures.kept

pub invariant_of-self-2 : goal.invariant_of-self-2
invariant_of-self-2 c = (
  c.self.invariant.0,
  c.self.invariant.1,
  c.self.invariant.2,
  c.self.invariant.3,
  c.self.invariant.4,
  solved-grown c.self.inside.terms c.intern_pair.new.terms c.self.inside.inference c.intern_pair.ensures.kept c.self.invariant.5,
  c.self.invariant.6,
)

pub returns : goal.returns
returns c =
    let first : tree_at c.intern_pair.new.terms c.in-Ok.first ≡ tree_of_term c.args.left.now = search rules in
    let second : tree_at c.intern_pair.new.terms c.in-Ok.second ≡ tree_of_term c.args.right.now = search rules in
    let all : IsEquated c.args.self.now c.equate.new.self (equation c.args.environment.now (tree_of_term c.args.left.now ∷ []) (tree_of_term c.args.right.now ∷ [])) c.equate.result =
    equated-interned _ c.args.self.now c.equate.new.self c.intern_pair.new.terms c.args.environment.now _ _ (tree_of_term c.args.left.now ∷ []) (tree_of_term c.args.right.now ∷ []) c.equate.result
    c.self.view_is c.intern_pair.ensures.kept c.self.invariant.5 (ap (λ (t : Tree). t ∷ []) first) (ap (λ (t : Tree). t ∷ []) second) c.equate.ensures.equated in
    record {
      equated = all;
      alone = alone-interned _ c.args.self.now c.equate.new.self c.intern_pair.new.terms c.self.view_is c.equate.ensures.alone;
      unchanged = unchanged-interned _ c.args.self.now c.equate.new.self c.intern_pair.new.terms c.equate.result c.self.view_is c.equate.ensures.unchanged;
      faults = faults-interned _ c.args.self.now c.equate.new.self c.intern_pair.new.terms c.self.view_is c.equate.ensures.faults;
      goes_back = back-interned _ c.args.self.now c.equate.new.self c.intern_pair.new.terms c.self.view_is c.intern_pair.ensures.kept c.equate.ensures.goes_back;
      fault = fault-interned _ c.args.self.now c.equate.new.self c.intern_pair.new.terms c.equate.result c.self.view_is c.equate.ensures.fault;
    }
