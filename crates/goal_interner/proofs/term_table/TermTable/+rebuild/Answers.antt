use Rattle.std.proofs.Common.{length, ap, ◌∙◌, sym}
use Rattle.std.proofs.lemmas.List.{length-map}
use Rattle.goal_terms.specs.Tree.{parts_of}
use Rattle.goal_interner.specs.TableMeaning.{tree_at}
use Rattle.goal_interner.proofs.RebuildLemmas.{rebuilt_alias}
use Rattle.goal_interner.proofs.term_table.TermTable.+rebuild.Goals as goal

pub alias-returns : goal.alias-returns
alias-returns t c =
    rebuilt_alias _ (parts_of (tree_at c.args.self.now c.args.id)) (length c.parts.result.now) c.in_ok-args.ensures
    (sym (length-map c.parts.result.now (tree_at c.args.self.now)) ∙ ap length c.parts.ensures.trees)
