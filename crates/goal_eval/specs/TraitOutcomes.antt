-- What is said of a trait goal whose self type is a head form.
use Rattle.std.specs.Prelude.{List}
use Rattle.goal_terms.specs.Tree.{Tree}
use Rattle.goal_terms.specs.declared.ids.TraitId.{TraitId}
use Rattle.goal_lists.specs.Candidates.{class_of, classes_before, all_candidates}
use Rattle.goal_lists.specs.Interned.{erased_at, erased_all}
use Rattle.goal_lists.specs.Level.{Level}
use Rattle.goal_lists.specs.Settings.{Setting}
use Rattle.goal_lists.specs.TraitGoals.{CandidateDecides, CandidateRuledOut}
use Rattle.goal_lists.specs.Words.{Each, Exists}
use Rattle.goal_eval.specs.Outcomes.{SaysThrough}
use Rattle.goal_eval.specs.declared.assembly.candidates.AskedTrait.{AskedTrait}
use Rattle.goal_lists.specs.declared.outcomes.TraitOutcome.{TraitOutcome}

-- through which class candidates for a self type show that a trait holds for arguments: all of the classes before are ruled out
abbrev pub SaysClasses : Setting → Level → TraitId → Tree → List Tree → TraitOutcome → Type 0
SaysClasses S L i s args o =
    SaysThrough (λ c. Exists (CandidateDecides S L i args) (class_of S i s c) × Each (CandidateRuledOut S L i args) (classes_before S i s c))
    (Each (CandidateRuledOut S L i args) (all_candidates S i s)) o

-- the same of a trait that is asked
abbrev pub SaysAskedClasses : Setting → Level → List Tree → AskedTrait → TraitOutcome → Type 0
SaysAskedClasses S L T asked = SaysClasses S L asked.trait_id (erased_at T asked.self_ty) (erased_all T asked.args.now)
