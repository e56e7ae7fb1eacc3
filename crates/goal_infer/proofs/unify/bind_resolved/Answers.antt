use Rattle.std.proofs.Common.{rules, ◌∙◌, sym, ap, subst, refl, ◌≡◌}
use Rattle.std.specs.Prelude.{slice_get}
use Rattle.goal_infer.specs.Replacement.{number_of}
use Rattle.goal_infer.specs.Unification.{Becomes, IsUnified, Advances, KeepsDefinite, KeepsPlain}
use Rattle.goal_infer.specs.declared.unify.Unified.TheVariants.{Yes, No}
use Rattle.std.proofs.lemmas.Bool.{false≢true}
use Rattle.goal_infer.proofs.DecisionLemmas.{no-decides, yes-decides, never-in-aliases, keeps-binding}
use Rattle.goal_infer.proofs.PlainLemmas.{decision-same, plain-binding}
use Rattle.goal_infer.proofs.BindLemmas.{IsBindable, with_binding}
use Rattle.goal_infer.proofs.UnifyLemmas.{IsFree, advances-same, advances-binding, undecided-same, no-outside, free-variable, bindable, yes-bound, bound-as}
use Rattle.goal_infer.proofs.unify.bind_resolved.Goals as goal

pub returns-then-not-was_made-clause-advances : goal.returns-then-not-was_made-clause-advances
returns-then-not-was_made-clause-advances c = advances-same c.args.table.now c.args.state.now c.requires.solved

pub returns-then-not-was_made-clause-answer : goal.returns-then-not-was_made-clause-answer
returns-then-not-was_made-clause-answer c = undecided-same c.args.table.now c.args.state.now _

pub returns-in-Outside-clause-advances : goal.returns-in-Outside-clause-advances
returns-in-Outside-clause-advances c = advances-same c.args.table.now c.args.state.now c.requires.solved

pub returns-in-Outside-clause-answer : goal.returns-in-Outside-clause-answer
returns-in-Outside-clause-answer c =
    no-outside c.args.table.now c.args.state.now c.requires.solved c.args.variable c.args.id c.requires.ended c.requires.other (search rules)

pub returns-in-InAliasesAlone-clause-advances : goal.returns-in-InAliasesAlone-clause-advances
returns-in-InAliasesAlone-clause-advances c = advances-same c.args.table.now c.args.state.now c.requires.solved

pub returns-in-InAliasesAlone-clause-answer : goal.returns-in-InAliasesAlone-clause-answer
returns-in-InAliasesAlone-clause-answer c = undecided-same c.args.table.now c.args.state.now _

pub bind-requires : goal.bind-requires
bind-requires c =
    let x : IsFree c.args.state.now c.args.variable =
    free-variable c.args.state.now c.args.variable (sym c.was_made.ensures ∙ c.if-not-was_made.false) c.requires.unbound in
    record { unbound = (x.0, ap (slice_get c.args.state.now.variables) c.number.ensures ∙ x.1, x.3) }

pub returns-in_ok-bind-in-Nowhere-clause-advances : goal.returns-in_ok-bind-in-Nowhere-clause-advances
returns-in_ok-bind-in-Nowhere-clause-advances c =
    let x : IsFree c.args.state.now c.args.variable =
    free-variable c.args.state.now c.args.variable (sym c.was_made.ensures ∙ c.if-not-was_made.false) c.requires.unbound in
    let b : IsBindable c.args.table.now c.args.state.now c.args.variable x.0 c.args.id =
    bindable c.args.table.now c.args.state.now c.requires.solved c.args.variable c.args.id x c.requires.ended c.requires.within c.requires.takes (search rules) in
    subst (Advances c.args.table.now c.args.state.now)
    (sym (bound-as c.args.table.now c.args.state.now c.bind.new.self c.args.variable x.0 c.args.id c.number.result c.number.ensures
    (c.in_ok-bind-in-Nowhere.ensures.bound x.0 (ap (slice_get c.args.state.now.variables) c.number.ensures ∙ x.1))))
    (advances-binding c.args.table.now c.args.state.now c.args.variable x.0 c.args.id b)

pub returns-in_ok-bind-in-Nowhere-clause-answer : goal.returns-in_ok-bind-in-Nowhere-clause-answer
returns-in_ok-bind-in-Nowhere-clause-answer c =
    let x : IsFree c.args.state.now c.args.variable =
    free-variable c.args.state.now c.args.variable (sym c.was_made.ensures ∙ c.if-not-was_made.false) c.requires.unbound in
    let b : IsBindable c.args.table.now c.args.state.now c.args.variable x.0 c.args.id =
    bindable c.args.table.now c.args.state.now c.requires.solved c.args.variable c.args.id x c.requires.ended c.requires.within c.requires.takes (search rules) in
    subst (λ z. IsUnified c.args.table.now c.args.state.now z (Becomes c.args.table.now c.args.variable c.args.id) Yes)
    (sym (bound-as c.args.table.now c.args.state.now c.bind.new.self c.args.variable x.0 c.args.id c.number.result c.number.ensures
    (c.in_ok-bind-in-Nowhere.ensures.bound x.0 (ap (slice_get c.args.state.now.variables) c.number.ensures ∙ x.1))))
    (yes-bound c.args.table.now c.args.state.now c.args.variable x.0 c.args.id b)

pub returns-then-not-was_made-clause-decided : goal.returns-then-not-was_made-clause-decided
returns-then-not-was_made-clause-decided c d made = absurd (false≢true (sym c.if-not-was_made.true ∙ c.was_made.ensures ∙ made))

pub returns-in-Outside-clause-decided : goal.returns-in-Outside-clause-decided
returns-in-Outside-clause-decided c d made = decision-same c.args.table.now c.args.state.now c.args.state.now No refl no-decides

pub returns-in-InAliasesAlone-clause-decided : goal.returns-in-InAliasesAlone-clause-decided
returns-in-InAliasesAlone-clause-decided c d made =
    never-in-aliases c.args.table.now c.args.state.now c.args.variable c.args.id _ (search rules) d

pub returns-in_ok-bind-in-Nowhere-clause-decided : goal.returns-in_ok-bind-in-Nowhere-clause-decided
returns-in_ok-bind-in-Nowhere-clause-decided c d made =
    let x : IsFree c.args.state.now c.args.variable =
    free-variable c.args.state.now c.args.variable (sym c.was_made.ensures ∙ c.if-not-was_made.false) c.requires.unbound in
    let b : IsBindable c.args.table.now c.args.state.now c.args.variable x.0 c.args.id =
    bindable c.args.table.now c.args.state.now c.requires.solved c.args.variable c.args.id x c.requires.ended c.requires.within c.requires.takes (search rules) in
    let after : c.bind.new.self ≡ with_binding c.args.state.now (number_of c.args.variable) x.0 c.args.id =
    bound-as c.args.table.now c.args.state.now c.bind.new.self c.args.variable x.0 c.args.id c.number.result c.number.ensures
    (c.in_ok-bind-in-Nowhere.ensures.bound x.0 (ap (slice_get c.args.state.now.variables) c.number.ensures ∙ x.1)) in (
      yes-decides,
      subst (KeepsDefinite c.args.table.now c.args.state.now) (sym after) (keeps-binding c.args.table.now c.args.state.now c.args.variable x.0 c.args.id b d),
      subst (KeepsPlain c.args.table.now c.args.state.now) (sym after) (plain-binding c.args.table.now c.args.state.now c.args.variable x.0 c.args.id b d),
    )
