use Rattle.std.proofs.Common.{◌≡◌, ◌<◌, ◌∙◌, sym, true, length, arith, ◌==◌}
use Rattle.goal_terms.specs.declared.answers.ParamKind.TheVariants as kind
use Rattle.goal_tables.specs.ParamKinds.{differs_in_kind}
use Rattle.goal_tables.proofs.KindLemmas.{kinds_from-more, kinds_from-found, kinds_from-start, found}
use Rattle.goal_tables.proofs.param_kinds.same_kinds.Goals as goal

pub returns-then-not-same_kind : goal.returns-then-not-same_kind
returns-then-not-same_kind c =
    let ps = c.args.params.now in
    let ks = c.args.kinds.now in
    let within : c.loop-i.i < length ps = omega arith in
    let there : c.loop-i.i < length ks = omega arith in
    let differ : differs_in_kind ps ks ≡ true =
    kinds_from-start ps ks ∙ kinds_from-found ps ks c.loop-i.i kind.Ty _ within there (sym c.same_kind.ensures ∙ c.if-not-same_kind.true) c.loop-i.invariant in
    found (length ps == length ks) (differs_in_kind ps ks) differ

pub loop-i-preserved : goal.loop-i-preserved
loop-i-preserved c =
    let ps = c.args.params.now in
    let ks = c.args.kinds.now in
    let within : c.loop-i.i < length ps = omega arith in
    let there : c.loop-i.i < length ks = omega arith in
    kinds_from-more ps ks c.loop-i.i kind.Ty _ within there (sym c.same_kind.ensures ∙ c.if-not-same_kind.false) c.loop-i.invariant
