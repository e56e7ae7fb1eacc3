-- Words on what the functions that make rules answer.
use Rattle.std.specs.Prelude.{◌≡◌, ◌++◌, ◌∷◌, [], ℕ, suc, Bool, List, Option, Some, None, Result, Vec, IfOk, IfErr}
use Rattle.std.specs.Global.{Global}
use Rattle.goal_terms.specs.Erased.{erased}
use Rattle.goal_terms.specs.Tree.{Tree}
use Rattle.goal_terms.specs.TreeOf.{tree_of_alias, tree_of_term}
use Rattle.goal_terms.specs.declared.answers.Certainty.{Certainty}
use Rattle.goal_terms.specs.declared.ids.ImplId.{ImplId}
use Rattle.goal_terms.specs.declared.ids.OpaqueId.{OpaqueId}
use Rattle.goal_terms.specs.declared.modes.TypingMode.{TypingMode}
use Rattle.goal_terms.specs.declared.modes.TypingMode.TheVariants as mode
use Rattle.goal_terms.specs.declared.predicates.Clause.{Clause}
use Rattle.goal_terms.specs.declared.predicates.HostEffectPredicate.{HostEffectPredicate}
use Rattle.goal_terms.specs.declared.predicates.NormalizesTo.{NormalizesTo}
use Rattle.goal_terms.specs.declared.predicates.ProjectionPredicate.{ProjectionPredicate}
use Rattle.goal_terms.specs.declared.predicates.TraitRef.{TraitRef}
use Rattle.goal_terms.specs.declared.terms.AliasTerm.{AliasTerm}
use Rattle.goal_terms.specs.declared.terms.AliasTermKind.TheVariants.{OpaqueTy}
use Rattle.goal_tables.specs.Rows.{impl_of}
use Rattle.goal_tables.specs.declared.rows.ImplRow.{ImplRow}
use Rattle.goal_lists.specs.AliasLists.{alias_list}
use Rattle.goal_kinds.specs.CandidateRules.{IsRefusal}
use Rattle.goal_lists.specs.Candidates.{Candidate, by_impl, bounds_of}
use Rattle.goal_kinds.specs.EffectKind.{AreImplied}
use Rattle.goal_lists.specs.Entries.{Entry}
use Rattle.goal_lists.specs.InternedEntries.{setting_at}
use Rattle.goal_lists.specs.Level.{Level}
use Rattle.goal_lists.specs.Levels.{level}
use Rattle.goal_kinds.specs.ProjectionKind.{refuses_term}
use Rattle.goal_lists.specs.ProjectionLists.{equation_list}
use Rattle.goal_kinds.specs.RuleLists.{IsListed, list_then}
use Rattle.goal_kinds.specs.RuleWords.{RuleMeans, DefinesHidden, projection_in}
use Rattle.goal_kinds.specs.Rules.{RuleGives}
use Rattle.goal_lists.specs.RowWords.{given}
use Rattle.goal_lists.specs.Settings.{Setting}
use Rattle.goal_lists.specs.TraitLists.{trait_list}
use Rattle.goal_kinds.specs.declared.faults.Fault.{Fault}
use Rattle.goal_lists.specs.declared.lists.ListSetting.{ListSetting}
use Rattle.goal_lists.specs.declared.lists.FirstUse.{FirstUse}
use Rattle.goal_kinds.specs.declared.rules.Rule.{Rule}

-- a rule stands for the list that a setting with any environment has
abbrev pub IsListedAs : ListSetting → Result Rule Fault → (Setting → Option (List Entry)) → Type 0
IsListedAs S result f = (env : List Clause) → IfOk result (λ r. IsListed S.rows.now r (f (setting_at S env)))

-- so it does with nothing decided behind it by a certainty
abbrev pub IsListedThen : ListSetting → Certainty → Result Rule Fault → (Setting → Option (List Entry)) → Type 0
IsListedThen S c result f = (env : List Clause) → IfOk result (λ r. IsListed S.rows.now r (list_then c (f (setting_at S env))))

-- so it does for the list of the impl of an id, if the tables have one
abbrev pub IsImplListedThen : ListSetting → ImplId → Certainty → Result Rule Fault → (Setting → Candidate → Option (List Entry)) → Type 0
IsImplListedThen S id c result f =
    (env : List Clause) (row : ImplRow) → impl_of S.rows.now id ≡ Some row
    → IfOk result (λ r. IsListed S.rows.now r (list_then c (f (setting_at S env) (by_impl row))))

-- a rule is refused only where a setting with any environment refuses its list, or for want of memory
abbrev pub IsRefusedAs : ListSetting → Result Rule Fault → (Setting → Option (List Entry)) → Type 0
IsRefusedAs S result f = (env : List Clause) → IfErr result (IsRefusal (f (setting_at S env) ≡ None))

-- the list of a candidate for a trait goal, by its trait reference
abbrev pub asked_trait_list : TraitRef → Setting → Candidate → Option (List Entry)
asked_trait_list a S c = trait_list S a.def_id (given a.args) c

-- the list of an alias that is no projection
abbrev pub asked_alias_list : AliasTerm → Setting → Option (List Entry)
asked_alias_list a S = Some (alias_list S a.kind (given a.args))

-- the list of a projection goal
abbrev pub asked_equation_list : ProjectionPredicate → Option (List Entry)
asked_equation_list p = Some (equation_list (erased (tree_of_alias p.projection_term)) (erased (tree_of_term p.term)))

-- a projection goal holds at a level
abbrev pub EquationHolds : Level → ProjectionPredicate → Type 0
EquationHolds L p = L.equation_holds (erased (tree_of_alias p.projection_term)) (erased (tree_of_term p.term))

-- it is refuted there
abbrev pub EquationRefuted : Level → ProjectionPredicate → Type 0
EquationRefuted L p = L.equation_refuted (erased (tree_of_alias p.projection_term)) (erased (tree_of_term p.term))

-- a rule says what an alias does one height above
abbrev pub MeansAlias : Setting → ℕ → AliasTerm → Rule → Type 0
MeansAlias S n a r = RuleMeans S (level S n) r ((level S (suc n)).gives a.kind (given a.args)) ((level S (suc n)).gives_refuted a.kind (given a.args))

-- a rule doesn't give a term at a height
abbrev pub GivesNot : Setting → ℕ → Tree → Rule → Type 0
GivesNot S n u = λ r. RuleGives S (level S n) r u → ⊥

-- a mode is that of coherence
abbrev pub IsCoherence : TypingMode → Type 0
IsCoherence m = m ≡ mode.Coherence

-- a goal asks for the term of an opaque type
abbrev pub AsksOpaque : NormalizesTo → OpaqueId → Type 0
AsksOpaque p i = p.alias.kind ≡ OpaqueTy i

-- a rule has the one entry that a goal's term is the hidden type of the opaque type that its alias is
abbrev pub DefinesAsked : NormalizesTo → FirstUse → Rule → Type 0
DefinesAsked p f = λ r. DefinesHidden (tree_of_term p.term) p.alias f r.entries.items

-- rules are those of the implied const bounds among some candidates, with an environment
abbrev pub AreImpliedIn : ListSetting → HostEffectPredicate → List Clause → List Candidate → List Rule → Type 0
AreImpliedIn S p env cs rs = AreImplied S.rows.now p (setting_at S env) cs rs

-- what rules were for some candidates, those that have grown are for one more
abbrev pub AreForOneMore : {A E : Type 0} → (List Candidate → List Rule → Type 0) → Vec Rule Global → Candidate → Result A E → Vec Rule Global → Type 0
AreForOneMore P old c result new = (cs : List Candidate) → P cs old.items → IfOk result (λ _. P (cs ++ c ∷ []) new.items)

-- the bounds of an alias
abbrev pub bounds_in : ListSetting → AliasTerm → List Candidate
bounds_in S a = bounds_of S.rows.now (erased (tree_of_alias a))

-- whether the impl of an id is refused for the projection that an alias asks for
abbrev pub refuses_asked_term : ListSetting → AliasTerm → ImplId → Bool
refuses_asked_term S a id = refuses_term S.mode.now a (projection_in S.rows.now a) (impl_of S.rows.now id)
