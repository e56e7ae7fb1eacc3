-- Over accepted tables and an environment without faults of kinds a level gives terms of their aliases' sorts.
use Rattle.std.proofs.Common.{◌≡◌, ℕ, zero, suc, List, [], map, ap, ◌∙◌, subst}
use Rattle.goal_terms.specs.Erased.{erased}
use Rattle.goal_terms.specs.Sorts.{sort_of, is_argument_sort}
use Rattle.goal_terms.specs.Tree.{Tree, alias, forest, node_of}
use Rattle.goal_terms.specs.TreeOf.{tree_of_arg, tree_of_alias}
use Rattle.goal_terms.specs.declared.heads.Node.TheVariants as nodes
use Rattle.goal_terms.specs.declared.modes.TypingMode.{TypingMode}
use Rattle.goal_terms.specs.declared.predicates.Clause.{Clause}
use Rattle.goal_terms.specs.declared.terms.AliasTerm.{AliasTerm}
use Rattle.goal_terms.specs.declared.terms.AliasTermKind.{AliasTermKind}
use Rattle.goal_terms.proofs.TreeLemmas.{tree_of_alias-record, list_of-forest}
use Rattle.goal_tables.specs.Faults.{IsChecked}
use Rattle.goal_tables.specs.declared.rows.Tables.{Tables}
use Rattle.goal_lists.specs.Answers.{setting_of}
use Rattle.goal_lists.specs.KindedTerms.{NoKindFault, NoKindFaultInEnv}
use Rattle.goal_lists.specs.Level.{nothing}
use Rattle.goal_lists.specs.Levels.{ground_level, level}
use Rattle.goal_lists.specs.Settings.{Setting}
use Rattle.goal_lists.specs.Words.{Each}
use Rattle.goal_lists.proofs.AcceptedLemmas.{traits_of_items}
use Rattle.goal_lists.proofs.CandidateTerms.{alias-erased}
use Rattle.goal_kinds.proofs.PlacedAliases.{placed-alias_gives}
use Rattle.goal_kinds.proofs.PlacedCandidates.{IsPlacedSetting, placed-setting}
use Rattle.goal_kinds.proofs.PlacedHeaders.{KeepsPlaced, placed-part}
use Rattle.goal_kinds.proofs.PlacedRows.{placed-accepted}
use Rattle.goal_kinds.proofs.PlacedTerms.{AliasIsPlaced, IsPlaced, ArePlaced, IsPlacedIn, placed-list, placed-erased}
use Rattle.goal_lists.proofs.PublicTermLemmas.{alias_through}

-- where nothing is proved
placed-nothing : (t : Tables) → KeepsPlaced t nothing
placed-nothing t = record { gives = λ k ts u own all h. absurd h; part = λ n h g p e f same q. absurd q }

-- the lowest level
placed-ground : (t : Tables) → KeepsPlaced t ground_level
placed-ground t = record { gives = λ k ts u own all h. absurd h; part = placed-part t (placed-nothing t) }

-- each level
placed-level : (S : Setting) → IsPlacedSetting S → (n : ℕ) → KeepsPlaced S.tables (level S n)
unfolding level
placed-level S s zero = placed-ground S.tables
placed-level S s (suc n) = record { gives = placed-alias_gives S s (placed-level S s n); part = placed-part S.tables (placed-level S s n) }

-- a public alias in which no fault of kinds lies, lifetimes aside
placed-public : (t : Tables) → IsChecked t → (a : AliasTerm) → NoKindFault t [] (tree_of_alias a) → IsPlaced t (alias a.kind (forest (map erased (map tree_of_arg a.args.items))))
placed-public t ok a e =
    subst (IsPlaced t) (ap erased (tree_of_alias-record a) ∙ alias-erased a.kind (map tree_of_arg a.args.items))
    (placed-erased t (tree_of_alias a) (placed-accepted t [] (traits_of_items t ok) (tree_of_alias a) (alias_through a) e))

placed-parts : (t : Tables) (k : AliasTermKind) (ts : List Tree) → IsPlaced t (alias k (forest ts)) → AliasIsPlaced t k × ArePlaced t ts
unfolding IsPlaced
placed-parts t k ts e = (e.0, subst (Each (IsPlacedIn t is_argument_sort)) (list_of-forest ts) (placed-list t is_argument_sort (forest ts) e.1))

-- the term of a public alias over tables and an environment
pub placed-given : (t : Tables) (m : TypingMode) (clauses : List Clause) (n : ℕ) (a : AliasTerm) (u : Tree) → IsChecked t → NoKindFault t [] (tree_of_alias a) →
    NoKindFaultInEnv t clauses → (level (setting_of t m clauses) n).gives a.kind (map erased (map tree_of_arg a.args.items)) u →
    sort_of (node_of u) ≡ sort_of (nodes.Alias a.kind)
placed-given t m clauses n a u ok e env h =
    let ts : List Tree = map erased (map tree_of_arg a.args.items) in
    let parts : AliasIsPlaced t a.kind × ArePlaced t ts = placed-parts t a.kind ts (placed-public t ok a e) in
    ((placed-level (setting_of t m clauses) (placed-setting t m clauses ok env) n).gives a.kind ts u parts.0 parts.1 h).0
