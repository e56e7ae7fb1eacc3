use Rattle.std.proofs.Common.{◌∙◌, ap}
use Rattle.goal_tables.specs.SpecialSearch.{unmarked}
use Rattle.goal_tables.proofs.SpecialLemmas.{search-start, unmarked-all}
use Rattle.goal_tables.proofs.specialized.Search.new.Goals as goal

pub returns-clause-valid : goal.returns-clause-valid
returns-clause-valid c = search-start c.args.rows.now _ c.in_ok-marks.ensures

pub returns-clause-clear : goal.returns-clause-clear
returns-clause-clear c = ap unmarked c.in_ok-marks.ensures ∙ unmarked-all c.args.rows.now
