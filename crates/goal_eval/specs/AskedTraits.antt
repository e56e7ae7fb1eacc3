-- A trait that is asked of a self type that is a head form, as it is or as a const trait: its lists, and what its candidates show.
use Rattle.std.specs.Prelude.{◌⊎◌, List, Option, Some, None}
use Rattle.goal_terms.specs.Tree.{Tree}
use Rattle.goal_terms.specs.declared.answers.TraitGoalProvenVia.{TraitGoalProvenVia}
use Rattle.goal_terms.specs.declared.ids.TraitId.{TraitId}
use Rattle.goal_terms.specs.declared.predicates.BoundConstness.{BoundConstness}
use Rattle.goal_lists.specs.Candidates.{Candidate, class_of, environment, second_group}
use Rattle.goal_lists.specs.ConstGoals.{ConstCandidateHolds, ConstCandidateRefuted}
use Rattle.goal_lists.specs.EffectLists.{effect_list}
use Rattle.goal_lists.specs.Entries.{Entry}
use Rattle.goal_lists.specs.Interned.{IsIn, AreIn, erased_at, erased_all}
use Rattle.goal_lists.specs.Level.{Level}
use Rattle.goal_lists.specs.Settings.{Setting}
use Rattle.goal_lists.specs.TraitGoals.{CandidateHolds, CandidateRefuted, PassedOver, Decides}
use Rattle.goal_lists.specs.TraitLists.{trait_list}
use Rattle.goal_lists.specs.Words.{Each, Exists}
use Rattle.goal_eval.specs.Outcomes.{Says}
use Rattle.goal_eval.specs.declared.assembly.candidates.AskedTrait.{AskedTrait}
use Rattle.goal_lists.specs.declared.outcomes.Outcome.{Outcome}

-- the list of a candidate for a trait, as a const trait where a constness is asked
abbrev pub asked_list : Setting → Option BoundConstness → TraitId → List Tree → Candidate → Option (List Entry)
asked_list S None = trait_list S
asked_list S (Some c) = effect_list S c

-- a candidate shows that the trait holds for arguments, as it is asked
abbrev pub AskedHolds : Setting → Level → Option BoundConstness → TraitId → List Tree → Candidate → Type 0
AskedHolds S L None = CandidateHolds S L
AskedHolds S L (Some c) = ConstCandidateHolds S L c

-- it cannot show it
abbrev pub AskedRefuted : Setting → Level → Option BoundConstness → TraitId → List Tree → Candidate → Type 0
AskedRefuted S L None = CandidateRefuted S L
AskedRefuted S L (Some c) = ConstCandidateRefuted S L c

-- a candidate shows it, and decides
abbrev pub AskedDecides : Setting → Level → Option BoundConstness → TraitId → List Tree → Candidate → Type 0
AskedDecides S L o i args x = AskedHolds S L o i args x × Decides S L args x

-- a candidate is ruled out: it cannot show it, or is passed over
abbrev pub AskedRuledOut : Setting → Level → Option BoundConstness → TraitId → List Tree → Candidate → Type 0
AskedRuledOut S L o i args x = AskedRefuted S L o i args x ⊎ PassedOver S L args x

-- a candidate of the environment decides; or all of these are ruled out, and one decides of those that go by a class
abbrev pub GroupsHold : Setting → Level → Option BoundConstness → TraitId → List Tree → Tree → TraitGoalProvenVia → Type 0
GroupsHold S L o i args s v =
    Exists (AskedDecides S L o i args) (environment S)
    ⊎ (Each (AskedRuledOut S L o i args) (environment S) × Exists (AskedDecides S L o i args) (second_group S i s v))

-- all candidates of both groups are ruled out
abbrev pub GroupsRefuted : Setting → Level → Option BoundConstness → TraitId → List Tree → Tree → TraitGoalProvenVia → Type 0
GroupsRefuted S L o i args s v = Each (AskedRuledOut S L o i args) (environment S) × Each (AskedRuledOut S L o i args) (second_group S i s v)

-- the terms of what is asked are in the table
abbrev pub AskedIn : List Tree → AskedTrait → Type 0
AskedIn T asked = IsIn T asked.self_ty × AreIn T asked.args.now

-- the candidates of a class for what is asked
abbrev pub asked_class : Setting → List Tree → AskedTrait → TraitGoalProvenVia → List Candidate
asked_class S T asked c = class_of S asked.trait_id (erased_at T asked.self_ty) c

-- the list of a candidate for what is asked
abbrev pub candidate_list : Setting → List Tree → AskedTrait → Candidate → Option (List Entry)
candidate_list S T asked x = asked_list S asked.constness asked.trait_id (erased_all T asked.args.now) x

-- what an outcome says of the list of a candidate for what is asked
abbrev pub SaysListed : Setting → Level → List Tree → AskedTrait → Candidate → Outcome → Type 0
SaysListed S L T asked x =
    Says (AskedHolds S L asked.constness asked.trait_id (erased_all T asked.args.now) x) (AskedRefuted S L asked.constness asked.trait_id (erased_all T asked.args.now) x)

-- of the candidate, beside the impls that are more special
abbrev pub SaysCandidate : Setting → Level → List Tree → AskedTrait → Candidate → Outcome → Type 0
SaysCandidate S L T asked x =
    Says (AskedDecides S L asked.constness asked.trait_id (erased_all T asked.args.now) x) (AskedRuledOut S L asked.constness asked.trait_id (erased_all T asked.args.now) x)

-- of some candidates: one of them decides, or each is ruled out
abbrev pub SaysCandidates : Setting → Level → List Tree → AskedTrait → List Candidate → Outcome → Type 0
SaysCandidates S L T asked xs =
    Says (Exists (AskedDecides S L asked.constness asked.trait_id (erased_all T asked.args.now)) xs)
    (Each (AskedRuledOut S L asked.constness asked.trait_id (erased_all T asked.args.now)) xs)

-- a trait as it is asked, and the class through which it holds
pub record AskedVia : Type 0 where
  pub asked : AskedTrait
  pub class : TraitGoalProvenVia

abbrev pub asked_via : AskedTrait → TraitGoalProvenVia → AskedVia
asked_via a v = record { asked = a; class = v }

-- and of both groups, by that class
abbrev pub SaysGroups : Setting → Level → List Tree → AskedVia → Outcome → Type 0
SaysGroups S L T a =
    Says (GroupsHold S L a.asked.constness a.asked.trait_id (erased_all T a.asked.args.now) (erased_at T a.asked.self_ty) a.class)
    (GroupsRefuted S L a.asked.constness a.asked.trait_id (erased_all T a.asked.args.now) (erased_at T a.asked.self_ty) a.class)
