-- Impls that are more special than a candidate: what is said of them, and of what the candidate gives beside them.
use Rattle.std.specs.Prelude.{◌≡◌, Bool, true, false, List, Option, Some}
use Rattle.goal_terms.specs.Tree.{Tree}
use Rattle.goal_tables.specs.Faults.{IsChecked}
use Rattle.goal_tables.specs.Rows.{impl_of}
use Rattle.goal_tables.specs.declared.rows.ImplRow.{ImplRow}
use Rattle.goal_tables.specs.declared.rows.Tables.{Tables}
use Rattle.goal_lists.specs.Candidates.{Candidate, by_impl}
use Rattle.goal_lists.specs.Entries.{Entry}
use Rattle.goal_lists.specs.ImplTerms.{Projection, trait_args}
use Rattle.goal_lists.specs.Level.{Level}
use Rattle.goal_lists.specs.NamedRows.{CandidateIsOf}
use Rattle.goal_lists.specs.Projections.{CandidateGives, TermDecides, TermRuledOut}
use Rattle.goal_lists.specs.Settings.{Setting}
use Rattle.goal_lists.specs.TraitGoals.{ImplHolds, ImplRefuted, PassedOver, Decides}
use Rattle.goal_lists.specs.TraitLists.{trait_list}
use Rattle.goal_lists.specs.declared.candidates.interned.InternedCandidate.{InternedCandidate}
use Rattle.goal_eval.specs.Outcomes.{Says, SaysWhich}
use Rattle.goal_eval.specs.declared.eval.outcomes.Found.{Found}
use Rattle.goal_eval.specs.declared.eval.outcomes.Found.TheVariants as found
use Rattle.goal_lists.specs.declared.outcomes.Outcome.{Outcome}
use Rattle.goal_lists.specs.declared.outcomes.Outcome.TheVariants as outcome
use Rattle.goal_eval.specs.declared.normalizes_to.projection_candidates.GivenTerm.{GivenTerm}

-- over accepted tables an impl is the one that they have under its id
abbrev pub IsOwnRow : Tables → ImplRow → Type 0
IsOwnRow t r = IsChecked t → impl_of t r.id ≡ Some r

-- so is that of a candidate
abbrev pub IsOfRows : Tables → InternedCandidate → Type 0
IsOfRows t c = IsChecked t → CandidateIsOf t c

-- what an outcome says of the impls that are more special than a candidate: one of them holds, or each is refuted
abbrev pub SaysMoreSpecial : Setting → Level → List Tree → Candidate → Outcome → Type 0
SaysMoreSpecial S L args x o = Says (PassedOver S L args x) (Decides S L args x) o

-- whether an impl holds for arguments of its trait
abbrev pub SaysImpl : Setting → Level → List Tree → ImplRow → Outcome → Type 0
SaysImpl S L args r = Says (ImplHolds L args r) (ImplRefuted S.mode L args r)

-- the list of an impl for arguments of its trait
abbrev pub list_of_impl : Setting → List Tree → ImplRow → Option (List Entry)
list_of_impl S args r = trait_list S r.trait_id args (by_impl r)

-- a candidate gives a term, and isn't passed over
abbrev pub GivesUnpassed : Setting → Level → Projection → Tree → Tree → Candidate → Type 0
GivesUnpassed S L p itself u x = CandidateGives S L p itself u x × (PassedOver S L (trait_args p) x → ⊥)

-- it gives some term, and decides
abbrev pub GivesDecided : Setting → Level → Projection → Tree → Candidate → Type 0
GivesDecided S L p itself x = (u : Tree) × TermDecides S L p itself u x

-- whether a claim holds
abbrev pub Tells : Type 0 → Bool → Type 0
Tells P true = P
Tells P false = P → ⊥

-- what is said of a candidate of a projection: which term it gives, if it isn't ruled out, and whether it decides
abbrev pub SaysGiven : Setting → Level → Projection → Tree → Candidate → List Tree → GivenTerm → Type 0
SaysGiven S L p itself x T g =
    SaysWhich (λ u. GivesUnpassed S L p itself u x) (TermRuledOut S L p x) T g.found × Tells (GivesDecided S L p itself x) g.decides

-- whether a term is found
abbrev pub is_term : Found → Bool
is_term (found.Is t) = true
is_term found.Refuted = false
is_term found.Undecided = false

-- what a candidate gives beside the impls that are more special
abbrev pub given_beside : Outcome → Found → GivenTerm
given_beside outcome.Holds f = record { found = found.Refuted; decides = false }
given_beside outcome.Refuted f = record { found = f; decides = is_term f }
given_beside outcome.Undecided f = record { found = f; decides = false }

-- what a group gives, if one of the candidates that give it decides
abbrev pub if_decided : Found → Bool → Found
if_decided (found.Is t) true = found.Is t
if_decided (found.Is t) false = found.Undecided
if_decided found.Refuted b = found.Refuted
if_decided found.Undecided b = found.Undecided
