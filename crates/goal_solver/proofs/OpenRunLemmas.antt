-- Chains of steps through lists of entries with inference variables.
use Rattle.std.proofs.Common.{◌≡◌, ℕ, ◌+◌, ◌<◌, ◌≤◌, List, [], ◌∷◌, ◌++◌, length, take, get_or, refl, sym, ap, ◌∙◌, subst}
use Rattle.std.proofs.lemmas.List.{take_all}
use Rattle.goal_terms.specs.declared.predicates.Clause.{Clause}
use Rattle.goal_kinds.specs.declared.rules.RuleEntry.{RuleEntry}
use Rattle.goal_solver.specs.OpenRuns.{OpenProgress, Steps, RunsThrough}
use Rattle.goal_solver.specs.State.{State}
use Rattle.goal_kinds.proofs.ClassRuleLemmas.{take-more}

-- no entry, no step
pub through-none : (env : List Clause) (s : State) (p q : OpenProgress) → q ≡ p → RunsThrough env [] s p s q
unfolding RunsThrough
through-none env s p q e = (refl, e)

-- the step of one more entry
through-more : (env : List Clause) (es : List RuleEntry) (e : RuleEntry) (s : State) (p : OpenProgress) (u : State) (q : OpenProgress) (z : State) (r : OpenProgress) →
    RunsThrough env es s p u q → Steps env e u q z r → RunsThrough env (es ++ e ∷ []) s p z r
unfolding RunsThrough
through-more env [] e s p u q z r h step =
    (z, r, subst (λ (x : State). Steps env e x p z r) h.0 (subst (λ (y : OpenProgress). Steps env e u y z r) h.1 step), (refl, refl))
through-more env (x ∷ es) e s p u q z r h step = (h.0, h.1, h.2, through-more env es e h.0 h.1 u q z r h.3 step)

pub through-next : (env : List Clause) (es : List RuleEntry) (i : ℕ) (e : RuleEntry) (s : State) (p : OpenProgress) (u : State) (q : OpenProgress) (z : State) (r : OpenProgress) →
    i < length es → e ≡ get_or es i e → RunsThrough env (take i es) s p u q → Steps env e u q z r → RunsThrough env (take (i + 1) es) s p z r
through-next env es i e s p u q z r l at h step =
    subst (λ xs. RunsThrough env xs s p z r) (sym (take-more es i e l ∙ ap (λ x. take i es ++ x ∷ []) (sym at))) (through-more env (take i es) e s p u q z r h step)

-- after the last entry
pub through-all : (env : List Clause) (es : List RuleEntry) (i : ℕ) (s : State) (p : OpenProgress) (u : State) (q : OpenProgress) → length es ≤ i →
    RunsThrough env (take i es) s p u q → RunsThrough env es s p u q
through-all env es i s p u q l h = subst (λ xs. RunsThrough env xs s p u q) (take_all i es l) h
