use Rattle.std.proofs.Common.{sym, arith}
use Rattle.goal_terms.specs.declared.answers.ParamKind.TheVariants as kind
use Rattle.goal_terms.proofs.ArgumentLemmas.{argument_of-ty, argument_of-const}
use Rattle.goal_terms.proofs.folders.ty_argument.Goals as goal

pub returns-in-Ty : goal.returns-in-Ty
returns-in-Ty c = sym (argument_of-ty _ _ kind.Ty c.index-args-index.result c.in-Ty.ty (omega arith) c.index-args-index.is c.in-Ty.is)

pub returns-in-Const : goal.returns-in-Const
returns-in-Const c = sym (argument_of-const _ _ kind.Ty c.index-args-index.result c.in-Const.field-0 (omega arith) c.index-args-index.is c.in-Const.is)
