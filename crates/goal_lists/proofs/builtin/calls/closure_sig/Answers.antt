use Rattle.std.proofs.Common.{◌∙◌, ap}
use Rattle.goal_lists.specs.Builtins.{is_fn_ptr}
use Rattle.goal_lists.specs.Interned.{erased_all}
use Rattle.goal_lists.proofs.CallRuleLemmas.{signature-pointer}
use Rattle.goal_lists.proofs.builtin.calls.closure_sig.Goals as goal

pub returns-clause-pointer : goal.returns-clause-pointer
returns-clause-pointer c = ap is_fn_ptr c.in_ok-sig.ensures.term ∙ signature-pointer (erased_all c.args.terms.now c.args.args.now) c.args.row.now.sig
