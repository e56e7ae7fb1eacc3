use Rattle.goal_eval.proofs.EffectLemmas.{sound-read}
use Rattle.goal_eval.proofs.eval.lists.entries.reads_mode.Goals as goal

pub returns-in_err-read_mode-clause-effects : goal.returns-in_err-read_mode-clause-effects
returns-in_err-read_mode-clause-effects c = λ T s.
    sound-read c.args.setting.now T c.args.effects.now c.read_mode.new.self c.args.access c.requires.caused c.read_mode.ensures.listed c.read_mode.ensures.faults c.read_mode.ensures.cache s

pub returns-clause-effects : goal.returns-clause-effects
returns-clause-effects c = λ T s.
    sound-read c.args.setting.now T c.args.effects.now c.read_mode.new.self c.args.access c.requires.caused c.read_mode.ensures.listed c.read_mode.ensures.faults c.read_mode.ensures.cache s
