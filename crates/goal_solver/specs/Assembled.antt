-- What the candidates of a goal answer, one height above the depth that is left.
use Rattle.std.specs.Prelude.{suc, List, length, take}
use Rattle.goal_terms.specs.Tree.{Tree}
use Rattle.goal_terms.specs.declared.answers.TraitGoalProvenVia.{TraitGoalProvenVia}
use Rattle.goal_terms.specs.declared.modes.TypingMode.{TypingMode}
use Rattle.goal_terms.specs.declared.predicates.Clause.{Clause}
use Rattle.goal_terms.specs.declared.terms.AliasTermKind.{AliasTermKind}
use Rattle.goal_tables.specs.Rows.{item_of, trait_of}
use Rattle.goal_tables.specs.declared.rows.ItemRow.{ItemRow}
use Rattle.goal_tables.specs.declared.rows.TraitRow.{TraitRow}
use Rattle.goal_lists.specs.Answers.{setting_of}
use Rattle.goal_lists.specs.Level.{Level, nothing}
use Rattle.goal_lists.specs.Levels.{level}
use Rattle.goal_lists.specs.Projections.{projected_item}
use Rattle.goal_lists.specs.Settings.{Setting}
use Rattle.goal_lists.specs.Words.{OfRow}
use Rattle.goal_eval.specs.ProjectionParts.{ThroughGives, ThroughRefuted}
use Rattle.goal_solver.specs.State.{State}

-- what trees one higher than the depth that is left prove: there a goal is what its candidates make it at that depth
abbrev pub level_above : State → TypingMode → List Clause → Level
level_above s m clauses = level (setting_of s.tables m clauses) (suc s.remaining_depth)

-- the rows of the item that an alias projects and of its trait
abbrev pub OfItem : Setting → AliasTermKind → (ItemRow → TraitRow → Type 0) → Type 0
OfItem S k P = OfRow (projected_item k) (λ i. OfRow (item_of S.tables i) (λ q. OfRow (trait_of S.tables q.trait_id) (P q)))

-- the trait goal of a projection holds through a class
abbrev pub HoldsThrough : Setting → Level → TraitGoalProvenVia → AliasTermKind → List Tree → Type 0
HoldsThrough S L c k args = OfItem S k (λ q r. L.through c q.trait_id (take (length r.params.items) args))

-- what terms projections have one height above a level, if their trait goals hold through a class
abbrev pub level_through : Setting → Level → TraitGoalProvenVia → Level
level_through S L c = record nothing {
  gives = λ k args u. OfItem S k (λ q r. ThroughGives S L k q (length r.params.items) c args u);
  gives_refuted = λ k args. OfItem S k (λ q r. ThroughRefuted S L k q (length r.params.items) c args);
}
