-- What it means that a list says what its candidate, or its alias, does by the derivation rules, and that a list of the erased mode stands for a headline mode.
use Rattle.std.specs.Prelude.{◌≡◌, ◌↔◌, ℕ, true, List, [], Option, Some, None, suc}
use Rattle.std.specs.List.{All}
use Rattle.goal_terms.specs.Tree.{Tree}
use Rattle.goal_terms.specs.declared.ids.TraitId.{TraitId}
use Rattle.goal_terms.specs.declared.modes.TypingMode.{TypingMode}
use Rattle.goal_terms.specs.declared.predicates.BoundConstness.{BoundConstness}
use Rattle.goal_terms.specs.declared.terms.AliasTermKind.{AliasTermKind}
use Rattle.goal_tables.specs.declared.rows.Tables.{Tables}
use Rattle.goal_lists.specs.Aliases.{AliasGives, AliasRefuted}
use Rattle.goal_lists.specs.AliasLists.{alias_list}
use Rattle.goal_lists.specs.Candidates.{Candidate}
use Rattle.goal_lists.specs.Causes.{IsCaused}
use Rattle.goal_lists.specs.ConstGoals.{ConstCandidateHolds, ConstCandidateRefuted}
use Rattle.goal_lists.specs.EffectLists.{effect_list}
use Rattle.goal_lists.specs.Entries.{Entry, ListHolds, ListGives, ListRefuted}
use Rattle.goal_lists.specs.ImplTerms.{Projection}
use Rattle.goal_lists.specs.Level.{Level}
use Rattle.goal_lists.specs.Levels.{level}
use Rattle.goal_lists.specs.ListModes.{accesses_in, list_accesses, in_mode, erased_setting, StandsIn, ListStandsIn}
use Rattle.goal_lists.specs.ProjectionLists.{projection_list, equation_list}
use Rattle.goal_lists.specs.Projections.{projected_item, CandidateGives, TermRefuted}
use Rattle.goal_lists.specs.Settings.{Setting, is_headline}
use Rattle.goal_lists.specs.TraitGoals.{CandidateHolds, CandidateRefuted}
use Rattle.goal_lists.specs.TraitLists.{trait_list}

-- of a candidate for a trait goal
abbrev pub TraitListHolds : Setting → Level → TraitId → List Tree → Candidate → Type 0
TraitListHolds S L i args c = ListHolds L (trait_list S i args c) ↔ CandidateHolds S L i args c

abbrev pub TraitListRefuted : Setting → Level → TraitId → List Tree → Candidate → Type 0
TraitListRefuted S L i args c = ListRefuted L (trait_list S i args c) ↔ CandidateRefuted S L i args c

-- of each candidate for a host effect goal
abbrev pub EffectListHolds : Setting → Level → BoundConstness → TraitId → List Tree → Type 0
EffectListHolds S L b i args = (c : Candidate) → ListHolds L (effect_list S b i args c) ↔ ConstCandidateHolds S L b i args c

abbrev pub EffectListRefuted : Setting → Level → BoundConstness → TraitId → List Tree → Type 0
EffectListRefuted S L b i args = (c : Candidate) → ListRefuted L (effect_list S b i args c) ↔ ConstCandidateRefuted S L b i args c

-- of a candidate for the term of a projection: it gives each term that the candidate gives, and no other
abbrev pub ProjectionListGives : Setting → Level → Projection → Tree → Candidate → Type 0
ProjectionListGives S L p itself c = (t : Tree) → ListGives L (projection_list S p itself c) t ↔ CandidateGives S L p itself t c

abbrev pub ProjectionListRefuted : Setting → Level → Projection → Tree → Candidate → Type 0
ProjectionListRefuted S L p itself c = ListRefuted L (projection_list S p itself c) ↔ TermRefuted S L p c

-- of an alias that is no projection
abbrev pub AliasListGives : Setting → Level → AliasTermKind → List Tree → Tree → Type 0
AliasListGives S L k args t = projected_item k ≡ None → ListGives L (Some (alias_list S k args)) t ↔ AliasGives S L k args t

abbrev pub AliasListRefuted : Setting → Level → AliasTermKind → List Tree → Type 0
AliasListRefuted S L k args = projected_item k ≡ None → ListRefuted L (Some (alias_list S k args)) ↔ AliasRefuted S L k args

-- of a projection goal, which is decided one height above its list
abbrev pub EquationListHolds : Setting → ℕ → Tree → Tree → Type 0
EquationListHolds S n a t = ListHolds (level S n) (Some (equation_list a t)) ↔ (level S (suc n)).equation_holds a t

abbrev pub EquationListRefuted : Setting → ℕ → Tree → Tree → Type 0
EquationListRefuted S n a t = ListRefuted (level S n) (Some (equation_list a t)) ↔ (level S (suc n)).equation_refuted a t

-- the list of the erased mode is that of a headline mode; where the mode is read, if it records no access
abbrev pub TraitListStands : Setting → TypingMode → TraitId → List Tree → Candidate → Type 0
TraitListStands S m i args c = is_headline m ≡ true → trait_list (in_mode S m) i args c ≡ trait_list (erased_setting S) i args c

abbrev pub EffectListStands : Setting → TypingMode → BoundConstness → TraitId → List Tree → Type 0
EffectListStands S m b i args = (c : Candidate) → is_headline m ≡ true → effect_list (in_mode S m) b i args c ≡ effect_list (erased_setting S) b i args c

abbrev pub ProjectionListStands : Setting → TypingMode → Projection → Tree → Candidate → Type 0
ProjectionListStands S m p itself c =
    is_headline m ≡ true → list_accesses (projection_list (erased_setting S) p itself c) ≡ [] → projection_list (in_mode S m) p itself c ≡ projection_list (erased_setting S) p itself c

abbrev pub AliasListStands : Setting → TypingMode → AliasTermKind → List Tree → Type 0
AliasListStands S m k args = is_headline m ≡ true → accesses_in (alias_list (erased_setting S) k args) ≡ [] → alias_list (in_mode S m) k args ≡ alias_list (erased_setting S) k args

-- as far as a list of the erased mode records no access, it is that of each headline mode
abbrev pub ProjectionListStandsIn : Setting → TypingMode → Projection → Tree → Candidate → Type 0
ProjectionListStandsIn S m p itself c = is_headline m ≡ true → ListStandsIn (projection_list (erased_setting S) p itself c) (projection_list (in_mode S m) p itself c)

abbrev pub AliasListStandsIn : Setting → TypingMode → AliasTermKind → List Tree → Type 0
AliasListStandsIn S m k args = is_headline m ≡ true → StandsIn (alias_list (erased_setting S) k args) (alias_list (in_mode S m) k args)

-- each access that a list records has its cause in the tables
abbrev pub ListIsCaused : Tables → Option (List Entry) → Type 0
ListIsCaused t l = All (IsCaused t) (list_accesses l)
