use Rattle.std.proofs.Common.{sym, ap, arith}
use Rattle.std.specs.Option.{option_and_then}
use Rattle.goal_terms.specs.Folding.{lifetime_of}
use Rattle.goal_terms.specs.declared.answers.ParamKind.TheVariants as kind
use Rattle.goal_terms.proofs.ArgumentLemmas.{argument_of-ty, argument_of-const}
use Rattle.goal_terms.proofs.folders.region_argument.Goals as goal

pub returns-in-Ty : goal.returns-in-Ty
returns-in-Ty c = sym (ap (option_and_then lifetime_of) (argument_of-ty _ _ kind.Lifetime c.index-args-index.result c.in-Ty.field-0 (omega arith) c.index-args-index.is c.in-Ty.is))

pub returns-in-Const : goal.returns-in-Const
returns-in-Const c = sym (ap (option_and_then lifetime_of) (argument_of-const _ _ kind.Lifetime c.index-args-index.result c.in-Const.field-0 (omega arith) c.index-args-index.is c.in-Const.is))
