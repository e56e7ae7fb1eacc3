pub mod GoingBackLemmas
pub mod VariableLemmas
pub mod StoredLemmas
pub mod PredicateLemmas
pub mod AnswerLemmas
pub mod AssembledAnswers
pub mod AccessLemmas
pub mod FaultLemmas
mod EqualResponses
mod MergedLemmas
pub mod MoreSpecialLemmas
pub mod RecordedLemmas
pub mod FoundAnswers
pub mod FormAnswerLemmas
pub mod BindingLemmas
pub mod BoundAliasLemmas
pub mod AliasShapeLemmas
pub mod CloneLemmas
pub mod ResponseLemmas
pub mod SettledLemmas
pub mod RelatedLemmas
pub mod EquatedLemmas
pub mod LifetimeLemmas
pub mod FreeVariableLemmas
pub mod RegionLemmas
pub mod ApplicableLemmas
pub mod PlaceLemmas
pub mod AddedGoalLemmas
pub mod NormalizingLemmas
pub mod RoundLemmas
pub mod AsideLemmas
pub mod GoalOutcomeLemmas
pub mod EvaluationLemmas
pub mod SinceMarkLemmas
pub mod RuleEntryLemmas
pub mod RuleAnswerLemmas
pub mod OpenStepLemmas
pub mod OpenTraitLemmas
pub mod KeptFaultLemmas
pub mod OpenRecordLemmas
pub mod OpenRunLemmas
pub mod ClosingLemmas
pub mod TrailLemmas
pub mod ListedLemmas
mod LaterLemmas
mod OpenGoalLemmas
mod OpenClassLemmas
mod BelowLemmas
pub mod RefusalLemmas
mod AssembledLemmas
pub mod WhereGoalLemmas
pub mod TranslatedLemmas
pub mod TranslatedAnswers
mod OpenProjectionLemmas
mod OpenHostLemmas
pub mod PromiseLemmas
pub mod RerunLemmas
pub mod ComparisonLemmas
pub mod HostGoalLemmas
pub mod OpenFormLemmas
pub mod OpenedSelfLemmas
pub mod AskedGoalLemmas
pub mod HiddenTypeLemmas
pub mod DefinedGoalLemmas
mod AmbiguousLemmas
pub mod ChosenLemmas
pub mod PutLemmas
pub mod OpenHeaderLemmas
