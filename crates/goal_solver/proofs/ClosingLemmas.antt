-- The closing evaluation of a list of entries with inference variables.
use Rattle.std.proofs.Common.{◌≡◌, List, refl, sym, ap, ◌∙◌, subst}
use Rattle.std.specs.Prelude.{Result, Ok, Err, IfOk}
use Rattle.goal_interner.specs.TableMeaning.{Keeps}
use Rattle.goal_terms.specs.Tree.{Tree}
use Rattle.goal_terms.specs.declared.answers.Certainty.{Certainty}
use Rattle.goal_terms.specs.declared.answers.Certainty.TheVariants as certainty
use Rattle.goal_terms.specs.declared.answers.Response.{Response}
use Rattle.goal_terms.specs.declared.predicates.Clause.{Clause}
use Rattle.goal_kinds.specs.declared.faults.Fault.{Fault}
use Rattle.goal_kinds.specs.declared.rules.RuleEntry.{RuleEntry}
use Rattle.goal_solver.specs.Answers.{level_over}
use Rattle.goal_solver.specs.GoingBack.{GoesBack}
use Rattle.goal_solver.specs.OpenRuns.{OpenProgress, open_start, Closes, Evaluates, RunsThrough}
use Rattle.goal_solver.specs.Responses.{both_certain, ListsSinceMark}
use Rattle.goal_solver.specs.RunRules.{AreRecorded, IsRecordedAnswer}
use Rattle.goal_solver.specs.State.{State}
use Rattle.goal_solver.proofs.GoingBackLemmas.{goes_back-grown, goes_back-through}
use Rattle.goal_solver.proofs.NormalizingLemmas.{its-later}
use Rattle.goal_solver.proofs.OpenRecordLemmas.{both-yes}
use Rattle.goal_solver.proofs.RecordedLemmas.{stays-recorded}
use Rattle.std.proofs.lemmas.List.Elements.{All-weaker}

-- what an evaluation left has more terms then
evaluates-more : (a s : State) (U : List Tree) (c : Certainty) → Keeps s.terms U → Evaluates a s c → Evaluates a (record s { terms = U }) c
evaluates-more a s U c keeps h = record {
  sound = h.sound;
  decided = h.decided;
  given = λ m owed ok says i p at.
      its-later (level_over a m p.1.param_env.items) p.1.predicate s (record s { terms = U }) (goes_back-grown s (record s { terms = U }) refl keeps) (h.given m owed ok says i p at);
  closed = h.closed;
  taken = h.taken;
  alone = ap (λ (x : State). record x { terms = U }) h.alone;
  back = goes_back-through a s (record s { terms = U }) h.back (goes_back-grown s (record s { terms = U }) refl keeps);
}

pub evaluates-grown : (a s z : State) (c : Certainty) → z ≡ record s { terms = z.terms } → Keeps s.terms z.terms → Evaluates a s c → Evaluates a z c
evaluates-grown a s z c e keeps h = subst (λ (y : State). Evaluates a y c) (sym e) (evaluates-more a s z.terms c keeps h)

-- a response that is sure was made by a sure run, so all is recorded, and stays so
pub closing-recorded : (c : Certainty) (a z : State) (es : List RuleEntry) (r : Response) → (d : Certainty) × Evaluates a z d × (r.certainty ≡ both_certain c d) →
    (c ≡ certainty.Yes → AreRecorded a es) → GoesBack a z → IsRecordedAnswer z es r
closing-recorded c a z es r h recorded g sure =
    All-weaker _ _ (λ x i. stays-recorded a z g.accesses g.delayed_faults x i) es (recorded (both-yes c h.0 (sym h.2 ∙ sure)).0)

-- the answer of a run and its closing evaluation
pub closing-answers : (env : List Clause) (es : List RuleEntry) (s u z : State) (c : Certainty) (x : Result Response Fault) →
    (p : OpenProgress) × RunsThrough env es s open_start u p × (p.certainty ≡ c) →
    IfOk x (λ r. ListsSinceMark z r.certainty r) → IfOk x (λ r. (d : Certainty) × Evaluates u z d × (r.certainty ≡ both_certain c d)) →
    IfOk x (λ r. (t : State) × (p : OpenProgress) × RunsThrough env es s open_start t p × Closes p.certainty t z r)
closing-answers env es s u z c (Err f) h lists evaluated = tt
closing-answers env es s u z c (Ok r) h lists evaluated = (
  u,
  h.0,
  h.1,
  record { answered = evaluated.0; evaluates = evaluated.1; certainty = evaluated.2 ∙ ap (λ d. both_certain d evaluated.0) (sym h.2); lists = lists },
)
