-- Outcomes of several questions, joined.
use Rattle.std.specs.Prelude.{Option, Some, None}
use Rattle.goal_terms.specs.declared.answers.TraitGoalProvenVia.{TraitGoalProvenVia}
use Rattle.goal_lists.specs.declared.outcomes.Outcome.{Outcome}
use Rattle.goal_lists.specs.declared.outcomes.Outcome.TheVariants as outcome
use Rattle.goal_lists.specs.declared.outcomes.TraitOutcome.{TraitOutcome}
use Rattle.goal_lists.specs.declared.outcomes.TraitOutcome.TheVariants as trait_outcome

-- two questions together: refuted where one is, else undecided where one is
abbrev pub both : Outcome → Outcome → Outcome
both outcome.Refuted o = outcome.Refuted
both outcome.Holds o = o
both outcome.Undecided outcome.Refuted = outcome.Refuted
both outcome.Undecided outcome.Holds = outcome.Undecided
both outcome.Undecided outcome.Undecided = outcome.Undecided

-- one of two questions: it holds where one does, else it is undecided where one is
abbrev pub one_of : Outcome → Outcome → Outcome
one_of outcome.Holds o = outcome.Holds
one_of outcome.Refuted o = o
one_of outcome.Undecided outcome.Holds = outcome.Holds
one_of outcome.Undecided outcome.Refuted = outcome.Undecided
one_of outcome.Undecided outcome.Undecided = outcome.Undecided

-- a candidate beside the impls that are more special: ruled out where one of them holds, undecided until each is refuted, if it isn't refuted itself
abbrev pub beside : Outcome → Outcome → Outcome
beside outcome.Refuted o = outcome.Refuted
beside outcome.Holds outcome.Holds = outcome.Refuted
beside outcome.Holds outcome.Refuted = outcome.Holds
beside outcome.Holds outcome.Undecided = outcome.Undecided
beside outcome.Undecided outcome.Holds = outcome.Refuted
beside outcome.Undecided outcome.Refuted = outcome.Undecided
beside outcome.Undecided outcome.Undecided = outcome.Undecided

-- a trait goal by the candidates of a class, those of the classes before being refuted; nothing where these are refuted, too
abbrev pub through : Outcome → TraitGoalProvenVia → Option TraitOutcome
through outcome.Holds c = Some (trait_outcome.Holds c)
through outcome.Refuted c = None
through outcome.Undecided c = Some trait_outcome.Undecided

-- a trait goal by whichever class
abbrev pub held : TraitOutcome → Outcome
held (trait_outcome.Holds c) = outcome.Holds
held trait_outcome.Refuted = outcome.Refuted
held trait_outcome.Undecided = outcome.Undecided
