-- Merging responses one after the other.
use Rattle.std.proofs.Common.{◌≡◌, ℕ, ◌+◌, ◌<◌, List, [], ◌∷◌, ◌++◌, length, take, get_or, Option, Some, None, inl, inr, refl, sym, ap, ◌∙◌, subst}
use Rattle.std.proofs.lemmas.List.Elements.{All-nil, All-push}
use Rattle.goal_terms.specs.declared.answers.Response.{Response}
use Rattle.goal_terms.specs.declared.predicates.Clause.{Clause}
use Rattle.goal_kinds.specs.declared.rules.Rule.{Rule}
use Rattle.goal_solver.specs.MergedRules.{RunsTo, with_answer, RunsEach, AreSame, IsOther, MergesTo, JoinsTo, MergesRules}
use Rattle.goal_solver.specs.State.{State}
use Rattle.goal_solver.specs.declared.assembly.merged_rules.Merged.{Merged}
use Rattle.goal_solver.specs.declared.assembly.merged_rules.Merged.TheVariants as merged
use Rattle.goal_eval.proofs.OutcomeLists.{Exists-front, Exists-last}
use Rattle.goal_kinds.proofs.ClassRuleLemmas.{take-more}

-- the response in a merged answer
abbrev first_or : Response → Merged → Response
first_or d merged.Refuted = d
first_or d (merged.Answered r) = r
first_or d merged.Split = d

-- a first response
pub merges-one : (rs : List Response) (r : Response) → MergesTo rs merged.Refuted → MergesTo (rs ++ r ∷ []) (merged.Answered r)
unfolding MergesTo
merges-one [] r h = inl (All-nil (AreSame r), refl)
merges-one (q ∷ qs) r h = elim h [
  | inl p ↦ let e : merged.Refuted ≡ merged.Answered q = p.1 in absurd (cc)
  | inr p ↦ let e : merged.Refuted ≡ merged.Split = p.1 in absurd (cc)
]

-- one that says the same as the first one
pub merges-same : (rs : List Response) (first r : Response) → MergesTo rs (merged.Answered first) → AreSame first r → MergesTo (rs ++ r ∷ []) (merged.Answered first)
unfolding MergesTo
merges-same [] first r h same = let e : merged.Answered first ≡ merged.Refuted = h in absurd (cc)
merges-same (q ∷ qs) first r h same = elim h [
  | inl p ↦ inl (All-push (AreSame q) qs r p.0 (subst (λ x. AreSame x r) (ap (first_or first) p.1) same), p.1)
  | inr p ↦ let e : merged.Answered first ≡ merged.Split = p.1 in absurd (cc)
]

-- one that says another thing
pub merges-other : (rs : List Response) (first r : Response) → MergesTo rs (merged.Answered first) → IsOther first r → MergesTo (rs ++ r ∷ []) merged.Split
unfolding MergesTo
merges-other [] first r h other = let e : merged.Answered first ≡ merged.Refuted = h in absurd (cc)
merges-other (q ∷ qs) first r h other = elim h [
  | inl p ↦ inr (Exists-last (IsOther q) qs r (subst (λ x. IsOther x r) (ap (first_or first) p.1) other), refl)
  | inr p ↦ let e : merged.Answered first ≡ merged.Split = p.1 in absurd (cc)
]

-- one more where two differ
pub merges-split : (rs : List Response) (r : Response) → MergesTo rs merged.Split → MergesTo (rs ++ r ∷ []) merged.Split
unfolding MergesTo
merges-split [] r h = let e : merged.Split ≡ merged.Refuted = h in absurd (cc)
merges-split (q ∷ qs) r h = elim h [
  | inl p ↦ let e : merged.Split ≡ merged.Answered q = p.1 in absurd (cc)
  | inr p ↦ inr (Exists-front (IsOther q) qs (r ∷ []) p.0, refl)
]

-- no rule is run
pub runs-none : (env : List Clause) (s : State) → MergesRules env [] s merged.Refuted s
unfolding RunsEach MergesTo
runs-none env s = ([], (refl, refl), refl)

-- responses behind others
answer-behind : (b : Option Response) (xs ys : List Response) → with_answer b xs ++ ys ≡ with_answer b (xs ++ ys)
answer-behind None xs ys = refl
answer-behind (Some x) xs ys = refl

none-behind : (xs : List Response) → xs ++ [] ≡ xs
none-behind [] = refl
none-behind (x ∷ xs) = ap (λ ys. x ∷ ys) (none-behind xs)

-- one more rule is run
pub runs-more : (env : List Clause) (qs : List Rule) (q : Rule) (s : State) (rs : List Response) (z : State) (a : Option Response) (u : State) →
    RunsEach env qs s rs z → RunsTo env q z a u → RunsEach env (qs ++ q ∷ []) s (rs ++ with_answer a []) u
unfolding RunsEach
runs-more env [] q s rs z a u h step =
    (u, a, [], subst (λ (x : State). RunsTo env q x a u) h.0 step, (refl, refl), ap (λ xs. xs ++ with_answer a []) h.1)
runs-more env (p ∷ qs) q s rs z a u h step =
    let rest = runs-more env qs q h.0 h.2 z a u h.4 step in
    (h.0, h.1, h.2 ++ with_answer a [], h.3, rest, ap (λ xs. xs ++ with_answer a []) h.5 ∙ answer-behind h.1 h.2 (with_answer a []))

-- one more rule is run and merged
pub merged-next : (env : List Clause) (rules : List Rule) (i : ℕ) (q : Rule) (s z u : State) (m n : Merged) (a : Option Response) →
    i < length rules → q ≡ get_or rules i q → MergesRules env (take i rules) s m z → RunsTo env q z a u → JoinsTo a m n → MergesRules env (take (i + 1) rules) s n u
merged-next env rules i q s z u m n a l at h step joins =
    subst (λ xs. MergesRules env xs s n u) (sym (take-more rules i q l ∙ ap (λ x. take i rules ++ x ∷ []) (sym at)))
    (h.0 ++ with_answer a [], runs-more env (take i rules) q s h.0 z a u h.1 step, joins h.0 h.2)
