use Rattle.std.proofs.Common.{map}
use Rattle.goal_interner.specs.TableMeaning.{tree_at}
use Rattle.goal_terms.specs.TreeOf.{trees_of}
use Rattle.goal_lists.specs.Levels.{level}
use Rattle.goal_lists.proofs.UnderLemmas.{are_in-arguments}
use Rattle.goal_eval.specs.HeaderWords.{ClashAt}
use Rattle.goal_eval.proofs.HeaderPlaceLemmas.{stand-arguments}
use Rattle.goal_eval.proofs.HeaderPartLemmas.{erased_all-map}
use Rattle.goal_eval.proofs.HeaderOutcomeLemmas.{nothing-asked}
use Rattle.goal_eval.proofs.relate.header_questions.questions_of_args.Goals as goal

pub ask_parts-requires-clause-stand : goal.ask_parts-requires-clause-stand
ask_parts-requires-clause-stand c = stand-arguments (trees_of c.args.header.now) (map (tree_at c.args.terms.now) c.args.given.now) (are_in-arguments c.args.terms.now c.args.given.now c.requires)

pub returns-clause-says : goal.returns-clause-says
returns-clause-says c =
    λ S k ks. rw (erased_all-map c.args.terms.now c.args.given.now)
    (nothing-asked (ClashAt (level S k) ks c.args.terms.now) _ _ _ c.new-questions.ensures.items (c.in_ok-ask_parts.ensures.says S k ks))
