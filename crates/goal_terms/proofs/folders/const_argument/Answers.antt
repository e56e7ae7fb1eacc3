use Rattle.std.proofs.Common.{sym, arith}
use Rattle.goal_terms.specs.declared.answers.ParamKind.TheVariants as kind
use Rattle.goal_terms.proofs.ArgumentLemmas.{argument_of-const, argument_of-ty}
use Rattle.goal_terms.proofs.folders.const_argument.Goals as goal

pub returns-in-Const : goal.returns-in-Const
returns-in-Const c = sym (argument_of-const _ _ kind.Const c.index-args-index.result c.in-Const.value (omega arith) c.index-args-index.is c.in-Const.is)

pub returns-in-Ty : goal.returns-in-Ty
returns-in-Ty c = sym (argument_of-ty _ _ kind.Const c.index-args-index.result c.in-Ty.field-0 (omega arith) c.index-args-index.is c.in-Ty.is)
