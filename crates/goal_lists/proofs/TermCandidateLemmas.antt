-- Candidates for a projection's term over a consistent level: each gives one term, and then it isn't refuted.
use Rattle.std.proofs.Common.{◌≡◌, ◌⊎◌, sym, ◌∙◌, ⊎_elim}
use Rattle.goal_terms.specs.PredicateTrees.{PredicateTree, holds, equals, holds_const}
use Rattle.goal_terms.specs.Tree.{Tree, node, alias, variable, list_of}
use Rattle.goal_lists.specs.Builtins.{Listed, nothing_listed, listed, listed_rigid, listed_by_size, term_rule}
use Rattle.goal_lists.specs.Candidates.{Candidate, assumption, implied_bound, by_impl, built_in, error}
use Rattle.goal_lists.specs.ImplTerms.{Projection, own_clauses, trait_args}
use Rattle.goal_lists.specs.Laws.{IsConsistent}
use Rattle.goal_lists.specs.Level.{Level}
use Rattle.goal_lists.specs.Premises.{ClauseHolds}
use Rattle.goal_lists.specs.Projections.{EquationGives, EquationRefuted, AssumptionGives, AssumptionTermRefuted, self_of, ListedGives, ListedRefuted, CandidateGives, TermRefuted, TermDecides, TermRuledOut}
use Rattle.goal_lists.specs.Settings.{Setting}
use Rattle.goal_lists.proofs.CandidateLemmas.{no_pair_unequal, not_passed_over}
use Rattle.goal_lists.proofs.EqualLemmas.{one_head_form, no_head_form_refuted}
use Rattle.goal_lists.proofs.ImplTermLemmas.{one_impl_term, no_impl_term_refuted}
use Rattle.goal_lists.proofs.PremiseLemmas.{no_premises_refuted}

-- a clause that an alias and a term are equal gives one term
one_equation_term : (L : Level) → IsConsistent L → (p : Projection) (a v t u : Tree) → EquationGives L p a v t → EquationGives L p a v u → t ≡ u
unfolding EquationGives
one_equation_term L c p (alias k bs) v t u h l = one_head_form L c.one_term v t u h.3 l.3
one_equation_term L c p (node h bs) v t u g l = absurd g
one_equation_term L c p (variable x) v t u g l = absurd g

-- so does each clause
one_assumption_term : (L : Level) → IsConsistent L → (p : Projection) (q : PredicateTree) (t u : Tree) → AssumptionGives L p q t → AssumptionGives L p q u → t ≡ u
unfolding AssumptionGives
one_assumption_term L c p (equals a v) t u h k = one_equation_term L c p a v t u h k
one_assumption_term L c p (holds i ts) t u h k = absurd h
one_assumption_term L c p (holds_const b i ts) t u h k = absurd h

-- a clause that an alias and a term are equal isn't refuted if it gives a term
no_equation_term_refuted : (L : Level) → IsConsistent L → (p : Projection) (a v u : Tree) → EquationGives L p a v u → EquationRefuted L p a v → ⊥
unfolding EquationGives EquationRefuted
no_equation_term_refuted L c p (alias k bs) v u h l =
    ⊎_elim
    (λ n. n h.0)
    (⊎_elim
    (λ x. no_pair_unequal L c (list_of bs) p.args h.1 x)
    (⊎_elim (λ x. no_premises_refuted L c (own_clauses p) h.2 x) (λ x. no_head_form_refuted L c.no_term_refuted v u h.3 x)))
    l
no_equation_term_refuted L c p (node h bs) v u g l = g
no_equation_term_refuted L c p (variable x) v u g l = g

-- nor is any other clause
no_assumption_term_refuted : (L : Level) → IsConsistent L → (p : Projection) (q : PredicateTree) (u : Tree) →
    AssumptionGives L p q u → AssumptionTermRefuted L p q → ⊥
unfolding AssumptionGives AssumptionTermRefuted
no_assumption_term_refuted L c p (equals a v) u h k = no_equation_term_refuted L c p a v u h k
no_assumption_term_refuted L c p (holds i ts) u h k = h
no_assumption_term_refuted L c p (holds_const b i ts) u h k = h

-- what a built-in rule lists gives one term
one_listed_term : (L : Level) → IsConsistent L → (p : Projection) (itself : Tree) (x : Listed) (t u : Tree) →
    ListedGives L p itself x t → ListedGives L p itself x u → t ≡ u
unfolding ListedGives ClauseHolds
one_listed_term L c p itself nothing_listed t u h k = absurd h
one_listed_term L c p itself (listed ps v) t u h k = one_head_form L c.one_term v t u h.1 k.1
one_listed_term L c p itself listed_rigid t u h k = h ∙ sym k
one_listed_term L c p itself (listed_by_size i) t u h k =
    ⊎_elim
    (λ x. ⊎_elim (λ y. x.1 ∙ sym y.1) (λ y. absurd (c.no_trait_refuted x.0.0 i (self_of p.args) x.0.1 y.0)) k)
    (λ x. ⊎_elim (λ y. absurd (c.no_trait_refuted y.0.0 i (self_of p.args) y.0.1 x.0)) (λ y. x.1 ∙ sym y.1) k)
    h

-- then it isn't refuted
no_listed_refuted : (L : Level) → IsConsistent L → (p : Projection) (itself : Tree) (x : Listed) (u : Tree) →
    ListedGives L p itself x u → ListedRefuted L x → ⊥
unfolding ListedGives ListedRefuted
no_listed_refuted L c p itself nothing_listed u h k = h
no_listed_refuted L c p itself (listed ps v) u h k =
    ⊎_elim (λ x. no_premises_refuted L c ps h.0 x) (λ x. no_head_form_refuted L c.no_term_refuted v u h.1 x) k
no_listed_refuted L c p itself listed_rigid u h k = k
no_listed_refuted L c p itself (listed_by_size i) u h k = k

-- a candidate gives one term
pub one_candidate_term : (S : Setting) (L : Level) → IsConsistent L → (p : Projection) (itself t u : Tree) (x : Candidate) →
    CandidateGives S L p itself t x → CandidateGives S L p itself u x → t ≡ u
unfolding CandidateGives
one_candidate_term S L c p itself t u (assumption q) h k = one_assumption_term L c p q t u h k
one_candidate_term S L c p itself t u (implied_bound b cs) h k = absurd h
one_candidate_term S L c p itself t u (by_impl r) h k = one_impl_term S L c p itself r t u h k
one_candidate_term S L c p itself t u built_in h k = one_listed_term L c p itself (term_rule S.tables p.item.id p.args) t u h k
one_candidate_term S L c p itself t u error h k = absurd h

-- a candidate that gives a term isn't refuted
pub no_candidate_term_refuted : (S : Setting) (L : Level) → IsConsistent L → (p : Projection) (itself u : Tree) (x : Candidate) →
    CandidateGives S L p itself u x → TermRefuted S L p x → ⊥
unfolding CandidateGives TermRefuted
no_candidate_term_refuted S L c p itself u (assumption q) h k = no_assumption_term_refuted L c p q u h k
no_candidate_term_refuted S L c p itself u (implied_bound b cs) h k = h
no_candidate_term_refuted S L c p itself u (by_impl r) h k = no_impl_term_refuted S L c p itself r u h k
no_candidate_term_refuted S L c p itself u built_in h k = no_listed_refuted L c p itself (term_rule S.tables p.item.id p.args) u h k
no_candidate_term_refuted S L c p itself u error h k = h

-- one that decides isn't ruled out; so what it gives, if it isn't, is its term
pub no_term_ruled_out : (S : Setting) (L : Level) → IsConsistent L → (p : Projection) (itself u : Tree) (x : Candidate) →
    TermDecides S L p itself u x → TermRuledOut S L p x → ⊥
no_term_ruled_out S L c p itself u x h k =
    ⊎_elim (λ q. no_candidate_term_refuted S L c p itself u x h.0 q) (λ q. not_passed_over S L c (trait_args p) x h.1 q) k

pub one_decided_term : (S : Setting) (L : Level) → IsConsistent L → (p : Projection) (itself t u : Tree) (x : Candidate) →
    TermDecides S L p itself t x → CandidateGives S L p itself u x ⊎ TermRuledOut S L p x → t ≡ u
one_decided_term S L c p itself t u x h k =
    ⊎_elim (λ q. one_candidate_term S L c p itself t u x h.0 q) (λ q. absurd (no_term_ruled_out S L c p itself t x h q)) k
