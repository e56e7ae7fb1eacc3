use Rattle.std.proofs.Common.{◌∙◌, length, map, refl, arith}
use Rattle.std.proofs.lemmas.List.{length-map, take_all}
use Rattle.std.proofs.lemmas.Option.{slice_get_read}
use Rattle.goal_terms.specs.TreeOf.{tree_of_arg}
use Rattle.goal_eval.proofs.InterningLemmas.{interned-next, interned-all}
use Rattle.goal_eval.proofs.eval.interning.intern_args.Goals as goal

pub loop-arg-preserved : goal.loop-arg-preserved
loop-arg-preserved c =
    interned-next c.args.terms.now c.loop-arg.terms c.intern_part.new.self c.loop-arg.ids.items c.push.new.self.items c.in_ok-id.id c.args.args.now c.loop-arg.arg-index c.arg-item.result
    c.loop-arg.invariant c.in_ok-id.ensures.kept c.in_ok-id.ensures.within (c.in_ok-id.ensures.tree ∙ c.view.ensures) (slice_get_read c.args.args.now (length c.args.args.now) c.loop-arg.arg-index c.arg-item.result refl (omega arith) c.arg-item.is) c.in_ok-push.ensures.items

pub returns-clause-trees : goal.returns-clause-trees
returns-clause-trees c =
    interned-all c.args.terms.now c.loop-arg.terms c.loop-arg.ids.items c.args.args.now c.loop-arg.arg-index c.loop-arg.invariant
    (omega (arith, length-map c.args.args.now tree_of_arg))

pub returns-clause-exact : goal.returns-clause-exact
returns-clause-exact c =
    c.loop-arg.invariant.2 ∙ take_all c.loop-arg.arg-index (map tree_of_arg c.args.args.now) (omega (arith, length-map c.args.args.now tree_of_arg))
