use Rattle.std.proofs.Common.{◌≡◌, ◌∙◌, ap, sym, subst}
use Rattle.goal_kinds.specs.Collecting.{kind_of}
use Rattle.goal_solver.specs.GoingBack.{GoesBack, begun, restored}
use Rattle.goal_solver.specs.AskedGoals.{formed_by, merged_as}
use Rattle.goal_solver.specs.State.{State}
use Rattle.goal_solver.proofs.GoingBackLemmas.{goes_back-tried, valid-begun}
use Rattle.goal_solver.proofs.OpenRecordLemmas.{fault-tried}
use Rattle.goal_solver.proofs.OpenedSelfLemmas.{after-fault, opened-applies, opened-merges}
use Rattle.goal_solver.proofs.context.EvalCtxt.merge_opened_goal.Goals as goal

pub rollback-requires : goal.rollback-requires
rollback-requires g c =
    let back : GoesBack (begun c.args.self.now) c.answer_opened_goal-answer.new.self = subst (λ (z : State). GoesBack z c.answer_opened_goal-answer.new.self) c.begin-around.ensures.began c.answer_opened_goal-answer.ensures.goes_back in
    record { valid = (begun c.args.self.now, c.snapshot-before.ensures, back, valid-begun c.args.self.now c.holds_together.ensures) }

pub returns-clause-merges : goal.returns-clause-merges
returns-clause-merges g c =
    let back : GoesBack (begun c.args.self.now) c.answer_opened_goal-answer.new.self = subst (λ (z : State). GoesBack z c.answer_opened_goal-answer.new.self) c.begin-around.ensures.began c.answer_opened_goal-answer.ensures.goes_back in
    let undone : c.end.new.self ≡ restored c.args.self.now c.answer_opened_goal-answer.new.self =
    c.end.ensures ∙ ap (λ (z : State). record z { mark = c.begin-around.result }) (c.rollback.ensures.undone (begun c.args.self.now) c.snapshot-before.ensures back)
    ∙ ap (λ m. record (restored (begun c.args.self.now) c.answer_opened_goal-answer.new.self) { mark = m }) c.begin-around.ensures.around in
    opened-merges g.G.GoalKind.words.self_type (formed_by (merged_as c.args.by) (kind_of g.G.GoalKind.words g.G.PredicateTerms.has_fault) c.args.goal.now) c.args.goal.now c.args.alias c.args.self.now c.begin-around.new.self c.answer_opened_goal-answer.new.self c.end.new.self c.answer_opened_goal-answer.result c.or_undecided.result
    c.begin-around.ensures.began undone c.requires.opens c.answer_opened_goal-answer.ensures.by c.or_undecided.ensures.after

pub returns-clause-applies : goal.returns-clause-applies
returns-clause-applies g c =
    let back : GoesBack (begun c.args.self.now) c.answer_opened_goal-answer.new.self = subst (λ (z : State). GoesBack z c.answer_opened_goal-answer.new.self) c.begin-around.ensures.began c.answer_opened_goal-answer.ensures.goes_back in
    let undone : c.end.new.self ≡ restored c.args.self.now c.answer_opened_goal-answer.new.self =
    c.end.ensures ∙ ap (λ (z : State). record z { mark = c.begin-around.result }) (c.rollback.ensures.undone (begun c.args.self.now) c.snapshot-before.ensures back)
    ∙ ap (λ m. record (restored (begun c.args.self.now) c.answer_opened_goal-answer.new.self) { mark = m }) c.begin-around.ensures.around in
    opened-applies c.args.self.now c.answer_opened_goal-answer.new.self c.end.new.self c.answer_opened_goal-answer.result c.or_undecided.result back undone c.holds_together.ensures.solved c.holds_together-2.ensures.solved
    c.is_well_formed.ensures.storage c.is_well_formed-2.ensures.storage c.answer_opened_goal-answer.ensures.lists c.or_undecided.ensures.left c.or_undecided.ensures.after

pub returns-clause-unchanged : goal.returns-clause-unchanged
returns-clause-unchanged g c =
    let back : GoesBack (begun c.args.self.now) c.answer_opened_goal-answer.new.self = subst (λ (z : State). GoesBack z c.answer_opened_goal-answer.new.self) c.begin-around.ensures.began c.answer_opened_goal-answer.ensures.goes_back in
    let undone : c.end.new.self ≡ restored c.args.self.now c.answer_opened_goal-answer.new.self =
    c.end.ensures ∙ ap (λ (z : State). record z { mark = c.begin-around.result }) (c.rollback.ensures.undone (begun c.args.self.now) c.snapshot-before.ensures back)
    ∙ ap (λ m. record (restored (begun c.args.self.now) c.answer_opened_goal-answer.new.self) { mark = m }) c.begin-around.ensures.around in
    undone ∙ sym (ap (restored c.args.self.now) undone)

pub returns-clause-goes_back : goal.returns-clause-goes_back
returns-clause-goes_back g c =
    let back : GoesBack (begun c.args.self.now) c.answer_opened_goal-answer.new.self = subst (λ (z : State). GoesBack z c.answer_opened_goal-answer.new.self) c.begin-around.ensures.began c.answer_opened_goal-answer.ensures.goes_back in
    let undone : c.end.new.self ≡ restored c.args.self.now c.answer_opened_goal-answer.new.self =
    c.end.ensures ∙ ap (λ (z : State). record z { mark = c.begin-around.result }) (c.rollback.ensures.undone (begun c.args.self.now) c.snapshot-before.ensures back)
    ∙ ap (λ m. record (restored (begun c.args.self.now) c.answer_opened_goal-answer.new.self) { mark = m }) c.begin-around.ensures.around in
    subst (GoesBack c.args.self.now) (sym undone) (goes_back-tried c.args.self.now c.answer_opened_goal-answer.new.self back)

pub returns-clause-fault : goal.returns-clause-fault
returns-clause-fault g c =
    let back : GoesBack (begun c.args.self.now) c.answer_opened_goal-answer.new.self = subst (λ (z : State). GoesBack z c.answer_opened_goal-answer.new.self) c.begin-around.ensures.began c.answer_opened_goal-answer.ensures.goes_back in
    let undone : c.end.new.self ≡ restored c.args.self.now c.answer_opened_goal-answer.new.self =
    c.end.ensures ∙ ap (λ (z : State). record z { mark = c.begin-around.result }) (c.rollback.ensures.undone (begun c.args.self.now) c.snapshot-before.ensures back)
    ∙ ap (λ m. record (restored (begun c.args.self.now) c.answer_opened_goal-answer.new.self) { mark = m }) c.begin-around.ensures.around in
    after-fault c.args.self.now c.end.new.self c.answer_opened_goal-answer.result c.or_undecided.result
    (fault-tried c.args.self.now c.begin-around.new.self c.answer_opened_goal-answer.new.self c.end.new.self c.answer_opened_goal-answer.result c.begin-around.ensures.began undone c.answer_opened_goal-answer.ensures.fault) c.or_undecided.ensures.after
