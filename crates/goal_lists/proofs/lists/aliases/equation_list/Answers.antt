use Rattle.std.proofs.Common.{[]}
use Rattle.std.proofs.lemmas.List.Elements.{All-cons, All-nil}
use Rattle.goal_lists.specs.Interned.{IsIn}
use Rattle.goal_lists.proofs.ListPartLemmas.{one-in}
use Rattle.goal_lists.proofs.NamedRowLemmas.{one-named}
use Rattle.goal_lists.proofs.lists.aliases.equation_list.Goals as goal

pub returns-clause-within : goal.returns-clause-within
returns-clause-within c T alias term =
    one-in T c.in_ok-vec.field-0.items c.in_ok-equal.equal c.in_ok-vec.ensures.items
    (c.in_ok-equal.ensures.within T (All-cons (IsIn T) c.args.alias [] alias (All-nil (IsIn T))) (All-cons (IsIn T) c.args.term [] term (All-nil (IsIn T))))

pub returns-clause-named : goal.returns-clause-named
returns-clause-named c t = one-named t _ _ c.in_ok-vec.ensures.items (c.in_ok-equal.ensures.named t)
