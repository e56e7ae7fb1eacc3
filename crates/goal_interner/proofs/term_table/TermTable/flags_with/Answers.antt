use Rattle.std.proofs.Common.{◌∙◌, ap, map, arith}
use Rattle.std.proofs.lemmas.List.{length-map}
use Rattle.goal_interner.specs.TableMeaning.{tree_at}
use Rattle.goal_interner.specs.TermFlags.{union}
use Rattle.goal_interner.proofs.TermFlagLemmas.{flags_over-none, flags_over-part, flags_over-all}
use Rattle.goal_interner.proofs.term_table.TermTable.flags_with.Goals as goal

pub loop-i-init : goal.loop-i-init
loop-i-init c = c.of_node-flags.ensures ∙ flags_over-none c.args.node (map (tree_at c.args.self.now) c.args.parts.now)

pub loop-i-preserved : goal.loop-i-preserved
loop-i-preserved c =
    c.union-flags.ensures ∙ ap (λ f. union f c.flags.result) c.loop-i.invariant ∙ ap (union _) c.flags.ensures
    ∙ flags_over-part c.args.self.now c.args.node c.args.parts.now c.loop-i.i (record { 0 = 0 }) c.loop-i-test.true

pub returns : goal.returns
returns c =
    c.loop-i.invariant
    ∙ flags_over-all c.args.node (map (tree_at c.args.self.now) c.args.parts.now) c.loop-i.i (omega (arith, length-map c.args.parts.now (tree_at c.args.self.now))) c.requires.fits
