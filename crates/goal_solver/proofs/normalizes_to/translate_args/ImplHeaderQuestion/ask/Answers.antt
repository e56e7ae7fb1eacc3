use Rattle.std.proofs.Common.{rules, subst}
use Rattle.goal_lists.specs.Interned.{erased_all}
use Rattle.goal_lists.specs.TraitGoals.{header_of}
use Rattle.goal_eval.specs.Outcomes.{SaysMatch, header_terms, level_in}
use Rattle.goal_solver.proofs.TranslatedLemmas.{counted-says, says-counts}
use Rattle.goal_solver.proofs.normalizes_to.translate_args.ImplHeaderQuestion.ask.Goals as goal

pub returns-clause-says : goal.returns-clause-says
returns-clause-says c = λ m runs.
    let row = c.args.self.now.row.now in
    let given = erased_all c.args.terms.now c.args.self.now.given.now in
    let found : SaysMatch (level_in c.args.setting.now m c.args.depth) row.params.items (header_of row) given c.match_header.new.terms c.in_ok-found.found =
    subst (λ xs. SaysMatch (level_in c.args.setting.now m c.args.depth) row.params.items (header_terms xs) given c.match_header.new.terms c.in_ok-found.found) c.deref-2.ensures.value
    (subst (λ ps. SaysMatch (level_in c.args.setting.now m c.args.depth) ps (header_terms c.deref-2.result.now) given c.match_header.new.terms c.in_ok-found.found) c.deref.ensures.value (c.in_ok-found.ensures.says m runs)) in
    let told = counted-says (level_in c.args.setting.now m c.args.depth) row given c.match_header.new.terms c.in_ok-found.found c.counted.result
    (λ k. c.counted.ensures.same (search rules)) found in
    (says-counts (level_in c.args.setting.now m c.args.depth) row given c.match_header.new.terms c.counted.result told, told)

pub returns-clause-within : goal.returns-clause-within
returns-clause-within c = c.counted.ensures.within c.match_header.new.terms c.in_ok-found.ensures.within

pub returns-in_err-found-clause-memory : goal.returns-in_err-found-clause-memory
returns-in_err-found-clause-memory c = λ never. absurd never
