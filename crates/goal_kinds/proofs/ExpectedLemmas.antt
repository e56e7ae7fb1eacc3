-- Each term of a rule's list is for the goal's expected term.
use Rattle.std.proofs.Common.{◌≡◌, List, [], ◌∷◌, ◌++◌, sym, subst}
use Rattle.goal_terms.specs.Tree.{Tree}
use Rattle.goal_terms.specs.declared.answers.Certainty.{Certainty}
use Rattle.goal_terms.specs.declared.answers.Certainty.TheVariants as certainty
use Rattle.goal_terms.specs.declared.answers.GoalSource.{GoalSource}
use Rattle.goal_terms.specs.declared.predicates.ClauseKind.{ClauseKind}
use Rattle.goal_kinds.specs.CandidateRules.{after, entries_for}
use Rattle.goal_kinds.specs.RuleWords.{TermsAreFor}
use Rattle.goal_kinds.specs.declared.rules.RuleEntry.{RuleEntry}
use Rattle.goal_kinds.specs.declared.rules.RuleEntry.TheVariants as entry

module _ (P : Tree → Type 0) where
  -- a list that is another one
  pub made-for : (es made : List RuleEntry) → es ≡ made → TermsAreFor P made → TermsAreFor P es
  made-for es made all h = subst (TermsAreFor P) (sym all) h

  -- lists with more behind them
  both-for : (xs ys : List RuleEntry) → TermsAreFor P xs → TermsAreFor P ys → TermsAreFor P (xs ++ ys)
  unfolding TermsAreFor
  both-for [] ys h k = k
  both-for (x ∷ xs) ys h k = (h.0, both-for xs ys h.1 k)

  pub after-for : (es made : List RuleEntry) (c : Certainty) → es ≡ made ++ after c → TermsAreFor P made → TermsAreFor P es
  unfolding TermsAreFor
  after-for es made certainty.Yes all h = made-for es (made ++ []) all (both-for made [] h tt)
  after-for es made certainty.Maybe all h = made-for es (made ++ entry.Undecided ∷ []) all (both-for made (entry.Undecided ∷ []) h (tt, tt))

  clauses-for : (ks : List (GoalSource × ClauseKind)) → TermsAreFor P (entries_for ks)
  unfolding TermsAreFor
  clauses-for [] = tt
  clauses-for (k ∷ ks) = (tt, clauses-for ks)

  pub requirements-for : (es made : List RuleEntry) (ks : List (GoalSource × ClauseKind)) → es ≡ made ++ entries_for ks → TermsAreFor P made → TermsAreFor P es
  requirements-for es made ks all h = made-for es (made ++ entries_for ks) all (both-for made (entries_for ks) h (clauses-for ks))
