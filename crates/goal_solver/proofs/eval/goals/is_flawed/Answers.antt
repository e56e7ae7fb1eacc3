use Rattle.std.proofs.Common.{◌≡◌, false, sym, ap, ◌∙◌, rules}
use Rattle.std.specs.Prelude.{◌||◌}
use Rattle.goal_terms.specs.NodeTests.{is_unmade}
use Rattle.goal_terms.specs.declared.predicates.Goal.{Goal}
use Rattle.goal_tables.specs.Flaws.{is_flawed as flawed, flaw_lies_in_env as in_env}
use Rattle.goal_tables.specs.declared.rows.Tables.{Tables}
use Rattle.goal_checks.proofs.FlawLemmas.{goal-joined}
use Rattle.goal_solver.specs.Goals.{PredicateWords, is_flawed_goal, words_of}
use Rattle.goal_solver.specs.State.{State, kinds_of}
use Rattle.goal_solver.proofs.eval.goals.is_flawed.Goals as goal

-- where no flaw lies in a goal's predicate, the environment decides
by-env : {P : Type 0} (W : PredicateWords P) (t : Tables) (s : State) (g : Goal P) → flawed (W.has_fault g.predicate t) (W.has_passing g.predicate (is_unmade (kinds_of s))) ≡ false →
    is_flawed_goal W t s g ≡ in_env t (is_unmade (kinds_of s)) g.param_env.items
by-env W t s g none =
    goal-joined t (is_unmade (kinds_of s)) g.param_env.items (W.has_fault g.predicate t) (W.has_passing g.predicate (is_unmade (kinds_of s)))
    ∙ ap (λ b. b || in_env t (is_unmade (kinds_of s)) g.param_env.items) none

pub returns-else-is_flawed : goal.returns-else-is_flawed
returns-else-is_flawed g c =
    let W = words_of g.P.PredicateTerms.has_fault g.P.PredicateTerms.has_passing g.P.PredicateTerms.normalization in
    let t : Tables = c.args.tables.now in
    let s : State = c.args.context.now in
    let none : flawed (g.P.PredicateTerms.has_fault c.args.goal.now.predicate t) (g.P.PredicateTerms.has_passing c.args.goal.now.predicate (is_unmade (kinds_of s))) ≡ false = search rules in
    let left : c.flaw_lies_in_env.result ≡ in_env t (is_unmade (kinds_of s)) c.args.goal.now.param_env.items = search rules in
    left ∙ sym (by-env W t s c.args.goal.now none)
