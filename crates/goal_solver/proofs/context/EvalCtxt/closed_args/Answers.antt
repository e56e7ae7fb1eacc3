use Rattle.std.proofs.Common.{length, map, ap, ◌∙◌, subst}
use Rattle.std.proofs.lemmas.List.{length-map}
use Rattle.goal_interner.specs.TableMeaning.{tree_at}
use Rattle.goal_terms.specs.declared.answers.Certainty.TheVariants as certainty
use Rattle.goal_lists.specs.Answers.{setting_of}
use Rattle.goal_lists.specs.Interned.{erased_all}
use Rattle.goal_lists.specs.TraitGoals.{header_of}
use Rattle.goal_lists.proofs.ConsistentLemmas.{each_level_is_consistent}
use Rattle.goal_solver.specs.Answers.{level_over}
use Rattle.goal_eval.specs.Outcomes.{SaysMatch}
use Rattle.goal_solver.specs.TranslatedArgs.{MatchCounts}
use Rattle.goal_solver.proofs.GoingBackLemmas.{goes_back-through}
use Rattle.goal_solver.proofs.TranslatedLemmas.{just-count, fits-answered, fits-known, known-answered, known-undecided, unknown-open, made-through, owed-made}
use Rattle.goal_solver.proofs.context.EvalCtxt.closed_args.Goals as goal

pub returns-in-Ok-Fits-clause-sound : goal.returns-in-Ok-Fits-clause-sound
returns-in-Ok-Fits-clause-sound c = λ m owed.
    fits-answered (level_over c.args.self.now m c.args.environment.now) c.args.other.now (erased_all c.args.self.now.terms c.args.given.now) c.header_outcome.new.self.terms
    c.in-Ok-Fits.field-0 c.in-Ok-Fits.found c.deref.result.now
    (c.in-Ok-Fits.ensures.says m owed.1)
    c.found_args.result c.in-Ok-Fits.field-0-is c.deref.ensures.value c.found_args.ensures

pub returns-in-Ok-Fits-clause-count : goal.returns-in-Ok-Fits-clause-count
returns-in-Ok-Fits-clause-count c =
    just-count (map (tree_at c.header_outcome.new.self.terms) c.deref.result.now) certainty.Yes (length c.args.other.now.params.items) c.found_args.result
    (length-map c.deref.result.now (tree_at c.header_outcome.new.self.terms) ∙ ap length c.deref.ensures.value
    ∙ subst (MatchCounts (length c.args.other.now.params.items)) c.in-Ok-Fits.field-0-is c.in-Ok-Fits.ensures.count)
    c.found_args.ensures

pub returns-in-Ok-Fits-clause-goes_back : goal.returns-in-Ok-Fits-clause-goes_back
returns-in-Ok-Fits-clause-goes_back c = c.header_outcome.ensures.goes_back

pub returns-in-Ok-Known-clause-sound : goal.returns-in-Ok-Known-clause-sound
returns-in-Ok-Known-clause-sound c = λ m owed.
    known-answered (level_over c.args.self.now m c.args.environment.now) c.args.other.now (erased_all c.args.self.now.terms c.args.given.now) c.header_outcome.new.self.terms
    c.in-Ok-Known.field-0 c.in-Ok-Known.found c.deref-in-Ok-Known.result.now
    (c.in-Ok-Known.ensures.says m owed.1)
    (each_level_is_consistent (setting_of c.args.self.now.tables m c.args.environment.now) c.args.self.now.remaining_depth)
    c.found_args-in-Ok-Known.result c.in-Ok-Known.field-0-is c.deref-in-Ok-Known.ensures.value c.found_args-in-Ok-Known.ensures

pub returns-in-Ok-Known-clause-decided : goal.returns-in-Ok-Known-clause-decided
returns-in-Ok-Known-clause-decided c = λ m owed left.
    known-undecided (level_over c.args.self.now m c.args.environment.now) c.args.other.now (erased_all c.args.self.now.terms c.args.given.now) c.header_outcome.new.self.terms
    c.in-Ok-Known.field-0 c.in-Ok-Known.found c.deref-in-Ok-Known.result.now
    (c.in-Ok-Known.ensures.says m owed.1)
    (each_level_is_consistent (setting_of c.args.self.now.tables m c.args.environment.now) c.args.self.now.remaining_depth)
    c.in-Ok-Known.field-0-is

pub returns-in-Ok-Known-clause-count : goal.returns-in-Ok-Known-clause-count
returns-in-Ok-Known-clause-count c =
    just-count (map (tree_at c.header_outcome.new.self.terms) c.deref-in-Ok-Known.result.now) certainty.Maybe (length c.args.other.now.params.items) c.found_args-in-Ok-Known.result
    (length-map c.deref-in-Ok-Known.result.now (tree_at c.header_outcome.new.self.terms) ∙ ap length c.deref-in-Ok-Known.ensures.value
    ∙ subst (MatchCounts (length c.args.other.now.params.items)) c.in-Ok-Known.field-0-is c.in-Ok-Known.ensures.count)
    c.found_args-in-Ok-Known.ensures

pub returns-in-Ok-Known-clause-goes_back : goal.returns-in-Ok-Known-clause-goes_back
returns-in-Ok-Known-clause-goes_back c = c.header_outcome.ensures.goes_back

pub returns-in-Ok-Clashes-clause-goes_back : goal.returns-in-Ok-Clashes-clause-goes_back
returns-in-Ok-Clashes-clause-goes_back c =
    made-through c.args.self.now c.header_outcome.new.self c.clashing_args.new.self c.header_outcome.ensures.goes_back c.clashing_args.ensures.made

pub returns-in-Ok-Unknown-clause-decided : goal.returns-in-Ok-Unknown-clause-decided
returns-in-Ok-Unknown-clause-decided c = λ m owed left.
    unknown-open (level_over c.args.self.now m c.args.environment.now) c.args.other.now (erased_all c.args.self.now.terms c.args.given.now) c.header_outcome.new.self.terms
    (subst (SaysMatch (level_over c.args.self.now m c.args.environment.now) c.args.other.now.params.items (header_of c.args.other.now) (erased_all c.args.self.now.terms c.args.given.now) c.header_outcome.new.self.terms)
    c.in-Ok-Unknown.field-0-is
    (c.in-Ok-Unknown.ensures.says m (owed-made c.header_outcome.new.self c.unknown_args.new.self m c.unknown_args.ensures.made owed.1)))

pub returns-in-Ok-Unknown-clause-goes_back : goal.returns-in-Ok-Unknown-clause-goes_back
returns-in-Ok-Unknown-clause-goes_back c =
    made-through c.args.self.now c.header_outcome.new.self c.unknown_args.new.self c.header_outcome.ensures.goes_back c.unknown_args.ensures.made

pub returns-in_ok-undecided_by-in-Err-clause-goes_back : goal.returns-in_ok-undecided_by-in-Err-clause-goes_back
returns-in_ok-undecided_by-in-Err-clause-goes_back c =
    made-through c.args.self.now c.undecided_by.new.self c.unknown_args-in-Err.new.self
    (goes_back-through c.args.self.now c.header_outcome.new.self c.undecided_by.new.self c.header_outcome.ensures.goes_back c.undecided_by.ensures.goes_back)
    c.unknown_args-in-Err.ensures.made

pub returns-in-Ok-Fits-clause-fresh : goal.returns-in-Ok-Fits-clause-fresh
returns-in-Ok-Fits-clause-fresh c = λ m owed none.
    absurd (fits-known (level_over c.args.self.now m c.args.environment.now) c.args.other.now (erased_all c.args.self.now.terms c.args.given.now) c.header_outcome.new.self.terms
    c.in-Ok-Fits.field-0 c.in-Ok-Fits.found c.deref.result.now
    (c.in-Ok-Fits.ensures.says m owed.1) c.in-Ok-Fits.field-0-is none)
