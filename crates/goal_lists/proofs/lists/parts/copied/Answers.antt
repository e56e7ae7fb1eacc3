use Rattle.std.proofs.Common.{◌++◌, ap, ◌∙◌}
use Rattle.goal_lists.proofs.lists.parts.copied.Goals as goal

pub returns : goal.returns
returns c = c.in_ok-extend_from_slice.ensures.items ∙ ap (λ xs. xs ++ c.args.ids.now) c.new-made.ensures.items
