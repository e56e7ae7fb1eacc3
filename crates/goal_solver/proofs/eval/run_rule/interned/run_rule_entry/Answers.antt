use Rattle.std.proofs.Common.{ap, sym, ◌∙◌}
use Rattle.std.specs.Option.{option_map}
use Rattle.goal_interner.proofs.InternLemmas.{keeps-refl}
use Rattle.goal_lists.specs.InternedEntries.{entry_at}
use Rattle.goal_eval.specs.Outcomes.{level_in}
use Rattle.goal_solver.proofs.RuleEntryLemmas.{found-runs, missing-names, missing-asks, recording-runs, run-caused}
use Rattle.goal_solver.proofs.eval.run_rule.interned.run_rule_entry.Goals as goal

pub returns-in_default : goal.returns-in_default
returns-in_default c = record {
  effects = c.requires.effects;
  kept = keeps-refl c.args.terms.now;
  within = c.requires.run;
  stops = tt;
  says = λ m s.
      recording-runs c.args.setting.now.rows.now (level_in c.args.setting.now m c.args.depth) c.args.terms.now c.args.run.now c.requires.run c.args.entry.now
      (λ h. c.in_default.not-Nothing (c.to_record.ensures ∙ sym h));
}

pub run_entry-requires-clause-caused : goal.run_entry-requires-clause-caused
run_entry-requires-clause-caused c =
    run-caused c.args.setting.now.rows.now c.interned_entry.new.terms c.args.entry.now c.in-Some.interned (sym c.in-Nothing.is ∙ c.to_record.ensures)
    (sym (ap (option_map (entry_at c.interned_entry.new.terms)) c.in-Some.is) ∙ c.in_ok-interned.ensures.entry)

pub returns-in-Some-clause-says : goal.returns-in-Some-clause-says
returns-in-Some-clause-says c = λ m s.
    found-runs c.args.setting.now.rows.now (level_in c.args.setting.now m c.args.depth) c.args.terms.now c.interned_entry.new.terms c.run_entry.new.terms c.interned_entry.ensures.kept
    c.args.run.now c.run_entry.new.run c.requires.run c.args.entry.now c.in-Some.interned c.run_entry.result
    (sym (ap (option_map (entry_at c.interned_entry.new.terms)) c.in-Some.is) ∙ c.in_ok-interned.ensures.entry) (c.run_entry.ensures.says m s)

pub returns-in-None-clause-says : goal.returns-in-None-clause-says
returns-in-None-clause-says c = λ m s.
    missing-names c.args.setting.now.rows.now (level_in c.args.setting.now m c.args.depth) c.args.terms.now c.interned_entry.new.terms c.interned_entry.ensures.kept c.args.run.now c.args.run.now
    c.requires.run c.args.entry.now (sym (ap (option_map (entry_at c.interned_entry.new.terms)) c.in-None.is) ∙ c.in_ok-interned.ensures.entry)
    (sym c.if-names_arguments.true ∙ c.names_arguments.ensures)

pub returns-in-None-2-clause-says : goal.returns-in-None-2-clause-says
returns-in-None-2-clause-says c = λ m s.
    missing-asks c.args.setting.now.rows.now (level_in c.args.setting.now m c.args.depth) c.args.terms.now c.interned_entry.new.terms c.interned_entry.ensures.kept c.args.run.now c.ask.new.self
    c.requires.run c.args.entry.now (sym (ap (option_map (entry_at c.interned_entry.new.terms)) c.in-None-2.is) ∙ c.in_ok-interned.ensures.entry)
    (sym c.if-names_arguments.false ∙ c.names_arguments.ensures) c.ask.ensures.run c.ask.result c.ask.ensures.reached
