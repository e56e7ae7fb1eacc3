use Rattle.goal_kinds.proofs.AliasTerms.{alias-in, alias-itself, alias-exact, alias-given, alias-args}
use Rattle.goal_kinds.proofs.rules.parts.alias_given.Goals as goal

pub returns-clause-id_in : goal.returns-clause-id_in
returns-clause-id_in c = alias-in c.intern_part.new.self c.args.asked.now c.in_ok-id.id c.in_ok-id.ensures.tree c.in_ok-id.ensures.within

pub returns-clause-args_in : goal.returns-clause-args_in
returns-clause-args_in c =
    alias-args c.intern_part.new.self c.args.asked.now c.in_ok-id.id c.in_ok-id.ensures.tree c.parts.result.now c.in_ok-args.args.items c.parts.ensures.trees c.in_ok-args.ensures
    c.parts.ensures.earlier c.in_ok-id.ensures.within

pub returns-clause-itself : goal.returns-clause-itself
returns-clause-itself c = alias-itself c.intern_part.new.self c.args.asked.now c.in_ok-id.id c.in_ok-id.ensures.tree

pub returns-clause-exact : goal.returns-clause-exact
returns-clause-exact c =
    alias-exact c.intern_part.new.self c.args.asked.now c.in_ok-id.id c.in_ok-id.ensures.tree c.parts.result.now c.in_ok-args.args.items c.parts.ensures.trees c.in_ok-args.ensures

pub returns-clause-trees : goal.returns-clause-trees
returns-clause-trees c =
    alias-given c.intern_part.new.self c.args.asked.now c.in_ok-id.id c.in_ok-id.ensures.tree c.parts.result.now c.in_ok-args.args.items c.parts.ensures.trees c.in_ok-args.ensures
