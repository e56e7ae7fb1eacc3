-- Goals whose self type is a constructor, asked without an environment: only the rest of the candidates can decide them.
use Rattle.std.proofs.Common.{◌≡◌, ◌⊎◌, inl, inr, ℕ, List, [], ◌∷◌, refl, subst, length, take}
use Rattle.goal_terms.specs.Tree.{Tree, Trees, node, alias, forest}
use Rattle.goal_terms.specs.declared.answers.TraitGoalProvenVia.{TraitGoalProvenVia}
use Rattle.goal_terms.specs.declared.answers.TraitGoalProvenVia.TheVariants as class
use Rattle.goal_terms.specs.declared.heads.Head.{Head}
use Rattle.goal_terms.specs.declared.ids.TraitId.{TraitId}
use Rattle.goal_terms.specs.declared.modes.TypingMode.{TypingMode}
use Rattle.goal_terms.specs.declared.terms.AliasTermKind.{AliasTermKind}
use Rattle.goal_tables.specs.declared.rows.ItemRow.{ItemRow}
use Rattle.goal_tables.specs.declared.rows.Tables.{Tables}
use Rattle.goal_tables.specs.declared.rows.TraitRow.{TraitRow}
use Rattle.goal_lists.specs.Candidates.{rest, class_of, all_candidates, second_group}
use Rattle.goal_lists.specs.Level.{Level, HasHeadForm}
use Rattle.goal_lists.specs.Levels.{level}
use Rattle.goal_lists.specs.Projections.{GroupGives, GroupRefuted, GroupsGive, GroupsRefuted, ItemGives, ItemRefuted, asked}
use Rattle.goal_lists.specs.Settings.{Setting}
use Rattle.goal_lists.specs.TraitGoals.{CandidateDecides, CandidateRuledOut, TraitHolds, TraitRefuted}
use Rattle.goal_lists.specs.Words.{Each, Exists}
use Rattle.goal_kinds.proofs.ExampleLemmas.{opened}

-- tables and a mode without an environment
abbrev pub bare : Tables → TypingMode → Setting
bare t m = record { tables = t; mode = m; env = [] }

-- what holds of a constructor's head form holds of it
pub at_node : (L : Level) (h : Head) (ts : Trees) (P : Tree → Type 0) (s : Tree) → HasHeadForm L (node h ts) s → P s → P (node h ts)
unfolding HasHeadForm
at_node L h ts P s e p = subst P e p

-- a trait goal holds through a candidate of the rest, which decides
pub through_rest :
    (t : Tables) (m : TypingMode) (L : Level) (c : TraitGoalProvenVia) (i : TraitId) (h : Head) (ts : Trees) (args : List Tree)
    → TraitHolds (bare t m) L c i (node h ts ∷ args)
    → (c ≡ class.Misc) × Exists (CandidateDecides (bare t m) L i (node h ts ∷ args)) (rest (bare t m) i (node h ts))
unfolding opened
through_rest t m L class.ParamEnv i h ts args p = absurd p.2
through_rest t m L class.AliasBound i h ts args p =
    absurd (at_node L h ts (λ s. Exists (CandidateDecides (bare t m) L i (s ∷ args)) (class_of (bare t m) i s class.AliasBound)) p.0 p.1 p.2)
through_rest t m L class.Misc i h ts args p =
    (refl, at_node L h ts (λ s. Exists (CandidateDecides (bare t m) L i (s ∷ args)) (rest (bare t m) i s)) p.0 p.1 p.2)

-- a trait goal is refuted by that all of the rest are ruled out
pub rest_refuted :
    (t : Tables) (m : TypingMode) (L : Level) (i : TraitId) (h : Head) (ts : Trees) (args : List Tree)
    → TraitRefuted (bare t m) L i (node h ts ∷ args) → Each (CandidateRuledOut (bare t m) L i (node h ts ∷ args)) (rest (bare t m) i (node h ts))
unfolding opened
rest_refuted t m L i h ts args (inl p) = absurd p
rest_refuted t m L i h ts args (inr p) =
    at_node L h ts (λ s. Each (CandidateRuledOut (bare t m) L i (s ∷ args)) (all_candidates (bare t m) i s)) p.0 p.1 p.2

module _ (t : Tables) (m : TypingMode) (n : ℕ) (k : AliasTermKind) (h : Head) (ts : Trees) (args : List Tree) (q : ItemRow) (r : TraitRow) where
  -- the groups of candidates, once the class is known
  rest_of_groups :
      (u : Tree) (c : TraitGoalProvenVia) → c ≡ class.Misc
      → GroupsGive (bare t m) (level (bare t m) n) c (asked q r (node h ts ∷ args)) (alias k (forest (node h ts ∷ args))) (alias k (forest (node h ts ∷ args)))
      (second_group (bare t m) q.trait_id (node h ts) c) u
      → GroupGives (bare t m) (level (bare t m) n) (asked q r (node h ts ∷ args)) (alias k (forest (node h ts ∷ args))) (rest (bare t m) q.trait_id (node h ts)) u
  unfolding opened
  rest_of_groups u class.ParamEnv e g = absurd (cc e)
  rest_of_groups u class.AliasBound e g = absurd (cc e)
  rest_of_groups u class.Misc e (inl g) = absurd g.0.0
  rest_of_groups u class.Misc e (inr (inl g)) = g.1
  rest_of_groups u class.Misc e (inr (inr g)) = absurd (g.2 refl)

  -- a projection has a term that the rest gives
  pub rest_gives :
      ((c : TraitGoalProvenVia) → (level (bare t m) n).through c q.trait_id (take (length r.params.items) (node h ts ∷ args)) → c ≡ class.Misc)
      → (u : Tree)
      → ItemGives (bare t m) (level (bare t m) n) k (node h ts ∷ args) u q r
      → GroupGives (bare t m) (level (bare t m) n) (asked q r (node h ts ∷ args)) (alias k (forest (node h ts ∷ args))) (rest (bare t m) q.trait_id (node h ts)) u
  unfolding ItemGives
  rest_gives only u p =
      rest_of_groups u p.0 (only p.0 p.2)
      (at_node (level (bare t m) n) h ts
      (λ s. GroupsGive (bare t m) (level (bare t m) n) p.0 (asked q r (s ∷ args)) (alias k (forest (s ∷ args))) (alias k (forest (node h ts ∷ args)))
      (second_group (bare t m) q.trait_id s p.0) u)
      p.1 p.3 p.4)

  -- the groups of candidates give none, once the class is known
  rest_of_refuted :
      (c : TraitGoalProvenVia) → c ≡ class.Misc
      → GroupsRefuted (bare t m) (level (bare t m) n) c (asked q r (node h ts ∷ args)) (alias k (forest (node h ts ∷ args)))
      (second_group (bare t m) q.trait_id (node h ts) c)
      → GroupRefuted (bare t m) (level (bare t m) n) (asked q r (node h ts ∷ args)) (rest (bare t m) q.trait_id (node h ts))
  unfolding opened
  rest_of_refuted class.ParamEnv e g = absurd (cc e)
  rest_of_refuted class.AliasBound e g = absurd (cc e)
  rest_of_refuted class.Misc e (inl g) = g.1
  rest_of_refuted class.Misc e (inr (inl g)) = absurd g.0.1.0
  rest_of_refuted class.Misc e (inr (inr g)) = absurd (g.2 refl)

  -- a projection has no term: its trait goal is refuted, or the rest gives none
  pub rest_gives_none :
      ((c : TraitGoalProvenVia) → (level (bare t m) n).through c q.trait_id (take (length r.params.items) (node h ts ∷ args)) → c ≡ class.Misc)
      → ItemRefuted (bare t m) (level (bare t m) n) k (node h ts ∷ args) q r
      → (level (bare t m) n).trait_refuted q.trait_id (take (length r.params.items) (node h ts ∷ args))
      ⊎ GroupRefuted (bare t m) (level (bare t m) n) (asked q r (node h ts ∷ args)) (rest (bare t m) q.trait_id (node h ts))
  unfolding ItemRefuted
  rest_gives_none only (inl p) = inl p
  rest_gives_none only (inr p) =
      inr
      (rest_of_refuted p.0 (only p.0 p.2)
      (at_node (level (bare t m) n) h ts
      (λ s. GroupsRefuted (bare t m) (level (bare t m) n) p.0 (asked q r (s ∷ args)) (alias k (forest (s ∷ args))) (second_group (bare t m) q.trait_id s p.0))
      p.1 p.3 p.4))
