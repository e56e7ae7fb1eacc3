-- Over accepted tables and an environment without inference variables a level gives terms without any, of aliases without any.
use Rattle.std.proofs.Common.{◌≡◌, ℕ, zero, suc, Bool, false, true, ◌&&◌, not, List, map, sym, ap, ◌∙◌, refl}
use Rattle.std.proofs.lemmas.Bool.{false≢true, not-true}
use Rattle.goal_terms.specs.Closed.{is_closed}
use Rattle.goal_terms.specs.Erased.{erased}
use Rattle.goal_terms.specs.NodeTests.{is_any_infer, some_node}
use Rattle.goal_terms.specs.Tree.{Tree, alias, forest}
use Rattle.goal_terms.specs.TreeOf.{tree_of_arg, tree_of_alias}
use Rattle.goal_terms.specs.declared.modes.TypingMode.{TypingMode}
use Rattle.goal_terms.specs.declared.predicates.Clause.{Clause}
use Rattle.goal_terms.specs.declared.terms.AliasTerm.{AliasTerm}
use Rattle.goal_terms.specs.declared.terms.AliasTermKind.{AliasTermKind}
use Rattle.goal_terms.proofs.TreeLemmas.{tree_of_alias-record}
use Rattle.goal_tables.specs.Faults.{IsChecked}
use Rattle.goal_tables.specs.Predicates.{some_in_env}
use Rattle.goal_tables.specs.declared.rows.Tables.{Tables}
use Rattle.goal_lists.specs.Answers.{setting_of}
use Rattle.goal_lists.specs.Level.{nothing}
use Rattle.goal_lists.specs.Levels.{ground_level, level}
use Rattle.goal_lists.specs.Settings.{Setting}
use Rattle.goal_lists.proofs.CandidateTerms.{alias-erased}
use Rattle.goal_kinds.proofs.ClosedAliases.{closed-alias_gives}
use Rattle.goal_kinds.proofs.ClosedCandidates.{IsClosedSetting, closed-setting}
use Rattle.goal_kinds.proofs.ClosedHeaders.{KeepsClosed, closed-part}
use Rattle.goal_kinds.proofs.ClosedTerms.{closed-arguments, closed-erased}

-- where nothing is proved
closed-nothing : KeepsClosed nothing
closed-nothing = record { gives = λ k ts u all h. absurd h; part = λ n h g p e q. absurd q }

-- the lowest level
closed-ground : KeepsClosed ground_level
closed-ground = record { gives = λ k ts u all h. absurd h; part = closed-part closed-nothing }

-- each level
closed-level : (S : Setting) → IsClosedSetting S → (n : ℕ) → KeepsClosed (level S n)
unfolding level
closed-level S s zero = closed-ground
closed-level S s (suc n) = record { gives = closed-alias_gives (closed-level S s n) S s; part = closed-part (closed-level S s n) }

-- the term of an alias over tables and an environment
pub closed-given : (t : Tables) (m : TypingMode) (clauses : List Clause) (n : ℕ) (k : AliasTermKind) (ts : List Tree) (u : Tree) →
    IsChecked t → some_in_env is_any_infer clauses ≡ false → some_node is_any_infer (alias k (forest ts)) ≡ false →
    (level (setting_of t m clauses) n).gives k ts u → some_node is_any_infer u ≡ false
closed-given t m clauses n k ts u ok env e h =
    (closed-level (setting_of t m clauses) (closed-setting t m clauses ok env) n).gives k ts u (closed-arguments k ts e) h

-- tests that both pass
both_pass : (a b : Bool) → a && b ≡ true → (a ≡ true) × (b ≡ true)
both_pass true b e = (refl, e)
both_pass false b e = absurd (false≢true e)

-- a public alias that the test finds closed, lifetimes aside
closed-public : (a : AliasTerm) → is_closed (tree_of_alias a) ≡ true → some_node is_any_infer (alias a.kind (forest (map erased (map tree_of_arg a.args.items)))) ≡ false
unfolding is_closed
closed-public a e =
    ap (some_node is_any_infer) (sym (ap erased (tree_of_alias-record a) ∙ alias-erased a.kind (map tree_of_arg a.args.items)))
    ∙ closed-erased (tree_of_alias a) (not-true (some_node is_any_infer (tree_of_alias a)) e)

-- the term of a public alias, where the tests find it and the environment closed
pub closed-public_given : (t : Tables) (m : TypingMode) (clauses : List Clause) (n : ℕ) (a : AliasTerm) (u : Tree) → IsChecked t →
    is_closed (tree_of_alias a) && not (some_in_env is_any_infer clauses) ≡ true →
    (level (setting_of t m clauses) n).gives a.kind (map erased (map tree_of_arg a.args.items)) u → some_node is_any_infer u ≡ false
closed-public_given t m clauses n a u ok e h =
    let tests : (is_closed (tree_of_alias a) ≡ true) × (not (some_in_env is_any_infer clauses) ≡ true) =
    both_pass (is_closed (tree_of_alias a)) (not (some_in_env is_any_infer clauses)) e in
    closed-given t m clauses n a.kind (map erased (map tree_of_arg a.args.items)) u ok
    (not-true (some_in_env is_any_infer clauses) tests.1) (closed-public a tests.0) h
