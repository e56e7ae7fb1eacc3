use Rattle.std.proofs.Common.{◌≡◌, map, refl, ap, ◌∙◌}
use Rattle.goal_interner.specs.TableMeaning.{tree_at, Keeps}
use Rattle.goal_terms.specs.TreeOf.{trees_of}
use Rattle.goal_interner.proofs.InternLemmas.{keeps-chain}
use Rattle.goal_lists.proofs.UnderLemmas.{are_in-below}
use Rattle.goal_solver.specs.Equating.{IsEquated, equation}
use Rattle.goal_solver.proofs.GoingBackLemmas.{goes_back-interned, solved-grown, solved-grown_twice}
use Rattle.goal_solver.proofs.EquatedLemmas.{trees-kept, agreed-interned, equated-unanswered, equated-interned, alone-interned, unchanged-interned, back-interned, fault-interned, faults-interned}
use Rattle.goal_solver.proofs.context.EvalCtxt.eq_args.Goals as goal

pub invariant_of-self : goal.invariant_of-self
invariant_of-self c = (
  c.self.invariant.0,
  c.self.invariant.1,
  c.self.invariant.2,
  c.self.invariant.3,
  c.self.invariant.4,
  solved-grown c.self.inside.terms c.intern_args.new.terms c.self.inside.inference c.intern_args.ensures.kept c.self.invariant.5,
  c.self.invariant.6,
)

pub returns-in_default-clause-equated : goal.returns-in_default-clause-equated
returns-in_default-clause-equated c =
    equated-unanswered c.args.self.now _ c.args.environment.now _ _ (agreed-interned _ c.args.self.now c.intern_args.new.terms c.self.view_is c.intern_args.ensures.kept c.self.invariant.5)

pub returns-in_default-clause-goes_back : goal.returns-in_default-clause-goes_back
returns-in_default-clause-goes_back c = goes_back-interned _ c.args.self.now _ c.intern_args.new.terms c.self.view_is refl c.intern_args.ensures.kept

pub invariant_of-self-in_default-intern_args : goal.invariant_of-self-in_default-intern_args
invariant_of-self-in_default-intern_args c = (
  c.self.invariant.0,
  c.self.invariant.1,
  c.self.invariant.2,
  c.self.invariant.3,
  c.self.invariant.4,
  solved-grown_twice c.self.inside.terms c.intern_args.new.terms c.intern_args-2.new.terms c.self.inside.inference c.intern_args.ensures.kept c.intern_args-2.ensures.kept c.self.invariant.5,
  c.self.invariant.6,
)

pub returns-in_default-intern_args-clause-equated : goal.returns-in_default-intern_args-clause-equated
returns-in_default-intern_args-clause-equated c =
    equated-unanswered c.args.self.now _ c.args.environment.now _ _ (agreed-interned _ c.args.self.now c.intern_args-2.new.terms c.self.view_is (keeps-chain c.self.inside.terms c.intern_args.new.terms c.intern_args-2.new.terms c.intern_args.ensures.kept c.intern_args-2.ensures.kept) c.self.invariant.5)

pub returns-in_default-intern_args-clause-goes_back : goal.returns-in_default-intern_args-clause-goes_back
returns-in_default-intern_args-clause-goes_back c = goes_back-interned _ c.args.self.now _ c.intern_args-2.new.terms c.self.view_is refl (keeps-chain c.self.inside.terms c.intern_args.new.terms c.intern_args-2.new.terms c.intern_args.ensures.kept c.intern_args-2.ensures.kept)

pub invariant_of-self-2 : goal.invariant_of-self-2
invariant_of-self-2 c = (
  c.self.invariant.0,
  c.self.invariant.1,
  c.self.invariant.2,
  c.self.invariant.3,
  c.self.invariant.4,
  solved-grown_twice c.self.inside.terms c.intern_args.new.terms c.intern_args-2.new.terms c.self.inside.inference c.intern_args.ensures.kept c.intern_args-2.ensures.kept c.self.invariant.5,
  c.self.invariant.6,
)

pub returns : goal.returns
returns c =
    let kept : Keeps c.self.inside.terms c.intern_args-2.new.terms = keeps-chain c.self.inside.terms c.intern_args.new.terms c.intern_args-2.new.terms c.intern_args.ensures.kept c.intern_args-2.ensures.kept in
    let first : map (tree_at c.intern_args-2.new.terms) c.deref.result.now ≡ trees_of c.args.left.now =
    ap (map (tree_at c.intern_args-2.new.terms)) c.deref.ensures.value
    ∙ trees-kept c.intern_args.new.terms c.intern_args-2.new.terms c.intern_args-2.ensures.kept c.in-Ok.first.items (are_in-below c.intern_args.new.terms c.in-Ok.first.items c.in-Ok.ensures.within)
    ∙ c.in-Ok.ensures.exact in
    let second : map (tree_at c.intern_args-2.new.terms) c.deref-2.result.now ≡ trees_of c.args.right.now =
    ap (map (tree_at c.intern_args-2.new.terms)) c.deref-2.ensures.value ∙ c.in-Ok-intern_args.ensures.exact in
    let all : IsEquated c.args.self.now c.equate.new.self (equation c.args.environment.now (trees_of c.args.left.now) (trees_of c.args.right.now)) c.equate.result =
    equated-interned _ c.args.self.now c.equate.new.self c.intern_args-2.new.terms c.args.environment.now _ _ (trees_of c.args.left.now) (trees_of c.args.right.now) c.equate.result
    c.self.view_is kept c.self.invariant.5 first second c.equate.ensures.equated in
    record {
      equated = all;
      alone = alone-interned _ c.args.self.now c.equate.new.self c.intern_args-2.new.terms c.self.view_is c.equate.ensures.alone;
      unchanged = unchanged-interned _ c.args.self.now c.equate.new.self c.intern_args-2.new.terms c.equate.result c.self.view_is c.equate.ensures.unchanged;
      faults = faults-interned _ c.args.self.now c.equate.new.self c.intern_args-2.new.terms c.self.view_is c.equate.ensures.faults;
      goes_back = back-interned _ c.args.self.now c.equate.new.self c.intern_args-2.new.terms c.self.view_is kept c.equate.ensures.goes_back;
      fault = fault-interned _ c.args.self.now c.equate.new.self c.intern_args-2.new.terms c.equate.result c.self.view_is c.equate.ensures.fault;
    }
