use Rattle.goal_solver.proofs.GoingBackLemmas.{goes_back-same}
use Rattle.std.proofs.Common.{rules, ◌≡◌, refl}
use Rattle.goal_terms.specs.TreeOf.{tree_of_ty, trees_of}
use Rattle.goal_solver.proofs.HiddenTypeLemmas.{enters-hidden}
use Rattle.goal_solver.proofs.context.EvalCtxt.enter_hidden.Goals as goal

pub returns-in_default-clause-goes_back : goal.returns-in_default-clause-goes_back
returns-in_default-clause-goes_back c = goes_back-same c.args.self.now

pub returns-in_default-clone-clause-goes_back : goal.returns-in_default-clone-clause-goes_back
returns-in_default-clone-clause-goes_back c = goes_back-same c.args.self.now

pub returns-clause-entered : goal.returns-clause-entered
returns-clause-entered c =
    let copied : tree_of_ty c.in-Ok-clone.hidden ≡ tree_of_ty c.args.ty.now = search rules in
    enters-hidden (record { def_id = c.args.id; args = c.in-Ok.args }) c.in-Ok-clone.hidden c.args.id (trees_of c.args.args.now) (tree_of_ty c.args.ty.now) c.args.self.now
    c.register_hidden_type_in_storage.new.self c.register_hidden_type_in_storage.result refl c.in-Ok.ensures copied c.register_hidden_type_in_storage.ensures.entered
