use Rattle.std.proofs.Common.{◌∙◌, sym, subst}
use Rattle.std.proofs.lemmas.List.Elements.{All-take}
use Rattle.goal_lists.specs.Interned.{IsIn, AreIn}
use Rattle.goal_lists.proofs.builtin.destruct.destruct_first.Goals as goal

pub returns-clause-within : goal.returns-clause-within
returns-clause-within c =
    c.in_ok-rule.ensures.within c.args.terms.now
    (subst (AreIn c.args.terms.now) (sym (c.as_slice.ensures.value ∙ c.truncate.ensures.items)) (All-take (IsIn c.args.terms.now) 1 c.in_ok-parts.parts.items c.in_ok-parts.ensures.within))
