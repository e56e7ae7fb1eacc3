use Rattle.std.proofs.Common.{◌∙◌, sym, ap, ◌≡◌, refl}
use Rattle.std.specs.Prelude.{◌||◌}
use Rattle.std.proofs.lemmas.Bool.{false≢true}
use Rattle.goal_terms.specs.Tree.{node_of}
use Rattle.goal_interner.specs.TableMeaning.{tree_at}
use Rattle.goal_interner.proofs.SameTermLemmas.{tops-same, tops-differ}
use Rattle.goal_infer.specs.Replacement.{takes}
use Rattle.goal_infer.specs.Resolution.{resolved}
use Rattle.goal_infer.specs.Unification.{kinds_of, is_alias, IsDefinite, IsDecidedWherePlain}
use Rattle.goal_infer.specs.declared.unify.Unified.TheVariants.{Yes, Undecided, No}
use Rattle.goal_infer.proofs.ClashLemmas.{untouched-same, untouched-left, untouched-right, clash-never, clash-left, clash-right, clash-tops}
use Rattle.goal_infer.proofs.DecisionLemmas.{yes-decides, no-decides, definite-made}
use Rattle.goal_terms.specs.declared.heads.Node.TheVariants as nodes
use Rattle.goal_infer.proofs.IdentityLemmas.{yes-resolved, identified-yes, identified-never, other-resolved, tops-resolved}
use Rattle.goal_infer.proofs.PlainLemmas.{plain-decided, apart-left, apart-right, plain-alias}
use Rattle.goal_infer.proofs.UnifyLemmas.{advances-same, undecided-same, yes-one, other-term, becomes-left, becomes-right, taken-node, untaken, no-clash, one-head}
use Rattle.goal_infer.proofs.unify.unify_tops.Goals as goal

pub returns-then-same_term-clause-advances : goal.returns-then-same_term-clause-advances
returns-then-same_term-clause-advances c = advances-same c.args.table.now c.args.state.now c.requires.solved

pub returns-then-same_term-clause-answer : goal.returns-then-same_term-clause-answer
returns-then-same_term-clause-answer c =
    yes-one c.args.table.now c.args.state.now c.args.left c.args.right (c.same_term.ensures.identical.0 c.if-same_term.true)

pub bind_resolved-requires-clause-other : goal.bind_resolved-requires-clause-other
bind_resolved-requires-clause-other c =
    other-term c.args.table.now c.args.left c.args.right c.in-Some.variable
    (λ e. false≢true (sym c.if-same_term.false ∙ c.same_term.ensures.identical.1 e))
    (sym c.node-node.ensures.top ∙ taken-node c.node-node.result c.node-other.result c.in-Some.variable c.in-Some.ensures)

pub returns-in-Some-clause-answer : goal.returns-in-Some-clause-answer
returns-in-Some-clause-answer c =
    becomes-left c.args.table.now c.args.state.now c.bind_resolved.new.state c.args.left c.args.right c.in-Some.variable c.in_ok-bound.bound
    (sym c.node-node.ensures.top ∙ taken-node c.node-node.result c.node-other.result c.in-Some.variable c.in-Some.ensures)
    c.in_ok-bound.ensures.answer

pub bind_resolved-requires-in-Some-taking-clause-other : goal.bind_resolved-requires-in-Some-taking-clause-other
bind_resolved-requires-in-Some-taking-clause-other c =
    other-term c.args.table.now c.args.right c.args.left c.in-Some-taking.variable
    (λ e. false≢true (sym c.if-same_term.false ∙ c.same_term.ensures.identical.1 (sym e)))
    (sym c.node-other.ensures.top ∙ taken-node c.node-other.result c.node-node.result c.in-Some-taking.variable c.in-Some-taking.ensures)

pub returns-in-Some-taking-clause-answer : goal.returns-in-Some-taking-clause-answer
returns-in-Some-taking-clause-answer c =
    becomes-right c.args.table.now c.args.state.now c.bind_resolved-in-Some-taking.new.state c.args.left c.args.right c.in-Some-taking.variable c.in_ok-bound-2.bound
    (sym c.node-other.ensures.top ∙ taken-node c.node-other.result c.node-node.result c.in-Some-taking.variable c.in-Some-taking.ensures)
    c.in_ok-bound-2.ensures.answer

pub returns-then-same_resolved-clause-advances : goal.returns-then-same_resolved-clause-advances
returns-then-same_resolved-clause-advances c = advances-same c.args.table.now c.args.state.now c.requires.solved

pub returns-then-same_resolved-clause-answer : goal.returns-then-same_resolved-clause-answer
returns-then-same_resolved-clause-answer c =
    yes-resolved c.args.table.now c.args.state.now c.requires.solved c.args.left c.args.right (c.same_resolved.ensures.0 c.if-same_resolved.true)

pub returns-else-same_resolved-clause-advances : goal.returns-else-same_resolved-clause-advances
returns-else-same_resolved-clause-advances c = advances-same c.args.table.now c.args.state.now c.requires.solved

pub returns-else-same_resolved-clause-answer : goal.returns-else-same_resolved-clause-answer
returns-else-same_resolved-clause-answer c = undecided-same c.args.table.now c.args.state.now _

pub returns-then-is_same-clause-advances : goal.returns-then-is_same-clause-advances
returns-then-is_same-clause-advances c = advances-same c.args.table.now c.args.state.now c.requires.solved

pub returns-then-is_same-clause-answer : goal.returns-then-is_same-clause-answer
returns-then-is_same-clause-answer c =
    one-head c.args.table.now c.args.state.now c.args.left c.args.right
    (ap (λ n. is_alias n || is_alias (node_of (tree_at c.args.table.now c.args.right))) (sym c.node-node.ensures.top)
    ∙ ap (λ n. is_alias c.node-node.result || is_alias n) (sym c.node-other.ensures.top) ∙ sym c.either_alias.ensures ∙ c.if-either_alias.false)
    (λ e. false≢true (sym c.if-same_term.false ∙ c.same_term.ensures.identical.1 e))
    (tops-same _ _ _ _ c.is_same.result c.is_same.ensures c.node-node.ensures.top c.node-other.ensures.top c.if-is_same.true)

pub returns-else-is_same-clause-advances : goal.returns-else-is_same-clause-advances
returns-else-is_same-clause-advances c = advances-same c.args.table.now c.args.state.now c.requires.solved

pub returns-else-is_same-clause-answer : goal.returns-else-is_same-clause-answer
returns-else-is_same-clause-answer c =
    no-clash c.args.table.now c.args.state.now c.args.left c.args.right
    (ap (λ n. is_alias n || is_alias (node_of (tree_at c.args.table.now c.args.right))) (sym c.node-node.ensures.top)
    ∙ ap (λ n. is_alias c.node-node.result || is_alias n) (sym c.node-other.ensures.top) ∙ sym c.either_alias.ensures ∙ c.if-either_alias.false)
    (λ v p. ap (takes v) (sym c.node-other.ensures.top)
    ∙ untaken c.node-node.result c.node-other.result c.taking.result c.taking.ensures c.in_default.not-Some v (c.node-node.ensures.top ∙ p))
    (λ v p. ap (takes v) (sym c.node-node.ensures.top)
    ∙ untaken c.node-other.result c.node-node.result c.taking-2.result c.taking-2.ensures c.in_default-taking.not-Some v (c.node-other.ensures.top ∙ p))
    (tops-differ _ _ _ _ c.is_same.result c.is_same.ensures c.node-node.ensures.top c.node-other.ensures.top c.if-is_same.false)

pub returns-then-same_term-clause-plain : goal.returns-then-same_term-clause-plain
returns-then-same_term-clause-plain c = plain-decided c.args.table.now c.args.state.now c.args.state.now c.args.left c.args.right Yes refl yes-decides

pub returns-in-Some-clause-plain : goal.returns-in-Some-clause-plain
unfolding IsDecidedWherePlain
returns-in-Some-clause-plain c p =
    let v : node_of (tree_at c.args.table.now c.args.left) ≡ nodes.Variable c.in-Some.variable =
    sym c.node-node.ensures.top ∙ taken-node c.node-node.result c.node-other.result c.in-Some.variable c.in-Some.ensures in
    let both : IsDefinite (kinds_of c.args.state.now) (resolved c.args.table.now c.args.state.now c.args.left)
    × IsDefinite (kinds_of c.args.state.now) (resolved c.args.table.now c.args.state.now c.args.right) =
    apart-left c.args.table.now c.args.state.now c.requires.solved c.in-Some.variable c.args.left c.args.right v c.requires.first_ended
    (other-resolved c.args.table.now c.args.state.now c.requires.solved c.in-Some.variable c.args.left c.args.right v c.requires.first_ended c.requires.second_ended
    (other-term c.args.table.now c.args.left c.args.right c.in-Some.variable (λ e. false≢true (sym c.if-same_term.false ∙ c.same_term.ensures.identical.1 e)) v)) p in
    c.in_ok-bound.ensures.decided both.1
    (definite-made c.args.table.now c.args.state.now c.requires.solved c.in-Some.variable c.args.left v c.requires.first_ended both.0)

pub returns-in-Some-taking-clause-plain : goal.returns-in-Some-taking-clause-plain
unfolding IsDecidedWherePlain
returns-in-Some-taking-clause-plain c p =
    let v : node_of (tree_at c.args.table.now c.args.right) ≡ nodes.Variable c.in-Some-taking.variable =
    sym c.node-other.ensures.top ∙ taken-node c.node-other.result c.node-node.result c.in-Some-taking.variable c.in-Some-taking.ensures in
    let both : IsDefinite (kinds_of c.args.state.now) (resolved c.args.table.now c.args.state.now c.args.left)
    × IsDefinite (kinds_of c.args.state.now) (resolved c.args.table.now c.args.state.now c.args.right) =
    apart-right c.args.table.now c.args.state.now c.requires.solved c.in-Some-taking.variable c.args.left c.args.right v c.requires.second_ended
    (λ same. other-resolved c.args.table.now c.args.state.now c.requires.solved c.in-Some-taking.variable c.args.right c.args.left v c.requires.second_ended c.requires.first_ended
    (other-term c.args.table.now c.args.right c.args.left c.in-Some-taking.variable (λ e. false≢true (sym c.if-same_term.false ∙ c.same_term.ensures.identical.1 (sym e))) v)
    (sym same)) p in
    c.in_ok-bound-2.ensures.decided both.0
    (definite-made c.args.table.now c.args.state.now c.requires.solved c.in-Some-taking.variable c.args.right v c.requires.second_ended both.1)

pub returns-then-same_resolved-clause-plain : goal.returns-then-same_resolved-clause-plain
returns-then-same_resolved-clause-plain c = plain-decided c.args.table.now c.args.state.now c.args.state.now c.args.left c.args.right Yes refl yes-decides

pub returns-else-same_resolved-clause-plain : goal.returns-else-same_resolved-clause-plain
returns-else-same_resolved-clause-plain c =
    plain-alias c.args.table.now c.args.state.now c.args.left c.args.right
    (ap (λ n. is_alias n || is_alias (node_of (tree_at c.args.table.now c.args.right))) (sym c.node-node.ensures.top)
    ∙ ap (λ n. is_alias c.node-node.result || is_alias n) (sym c.node-other.ensures.top) ∙ sym c.either_alias.ensures ∙ c.if-either_alias.true)
    (λ same. false≢true (sym c.if-same_resolved.false ∙ c.same_resolved.ensures.1 same)) Undecided

pub returns-else-is_same-clause-plain : goal.returns-else-is_same-clause-plain
returns-else-is_same-clause-plain c = plain-decided c.args.table.now c.args.state.now c.args.state.now c.args.left c.args.right No refl no-decides

pub returns-then-same_term-clause-identified : goal.returns-then-same_term-clause-identified
returns-then-same_term-clause-identified c = identified-yes c.args.table.now c.args.state.now c.args.state.now c.args.left c.args.right refl

pub returns-in-Some-clause-identified : goal.returns-in-Some-clause-identified
returns-in-Some-clause-identified c =
    let v : node_of (tree_at c.args.table.now c.args.left) ≡ nodes.Variable c.in-Some.variable =
    sym c.node-node.ensures.top ∙ taken-node c.node-node.result c.node-other.result c.in-Some.variable c.in-Some.ensures in
    identified-never c.args.table.now c.args.state.now c.bind_resolved.new.state c.args.left c.args.right c.in_ok-bound.bound
    (other-resolved c.args.table.now c.args.state.now c.requires.solved c.in-Some.variable c.args.left c.args.right v c.requires.first_ended c.requires.second_ended
    (other-term c.args.table.now c.args.left c.args.right c.in-Some.variable (λ e. false≢true (sym c.if-same_term.false ∙ c.same_term.ensures.identical.1 e)) v))

pub returns-in-Some-taking-clause-identified : goal.returns-in-Some-taking-clause-identified
returns-in-Some-taking-clause-identified c =
    let v : node_of (tree_at c.args.table.now c.args.right) ≡ nodes.Variable c.in-Some-taking.variable =
    sym c.node-other.ensures.top ∙ taken-node c.node-other.result c.node-node.result c.in-Some-taking.variable c.in-Some-taking.ensures in
    identified-never c.args.table.now c.args.state.now c.bind_resolved-in-Some-taking.new.state c.args.left c.args.right c.in_ok-bound-2.bound
    (λ same. other-resolved c.args.table.now c.args.state.now c.requires.solved c.in-Some-taking.variable c.args.right c.args.left v c.requires.second_ended c.requires.first_ended
    (other-term c.args.table.now c.args.right c.args.left c.in-Some-taking.variable (λ e. false≢true (sym c.if-same_term.false ∙ c.same_term.ensures.identical.1 (sym e))) v)
    (sym same))

pub returns-then-same_resolved-clause-identified : goal.returns-then-same_resolved-clause-identified
returns-then-same_resolved-clause-identified c = identified-yes c.args.table.now c.args.state.now c.args.state.now c.args.left c.args.right refl

pub returns-else-same_resolved-clause-identified : goal.returns-else-same_resolved-clause-identified
returns-else-same_resolved-clause-identified c =
    identified-never c.args.table.now c.args.state.now c.args.state.now c.args.left c.args.right Undecided
    (λ same. false≢true (sym c.if-same_resolved.false ∙ c.same_resolved.ensures.1 same))

pub returns-else-is_same-clause-identified : goal.returns-else-is_same-clause-identified
returns-else-is_same-clause-identified c =
    identified-never c.args.table.now c.args.state.now c.args.state.now c.args.left c.args.right No
    (tops-resolved c.args.table.now c.args.state.now c.requires.solved c.args.left c.args.right c.requires.first_ended c.requires.second_ended
    (tops-differ _ _ _ _ c.is_same.result c.is_same.ensures c.node-node.ensures.top c.node-other.ensures.top c.if-is_same.false))

pub returns-then-same_term-clause-clash : goal.returns-then-same_term-clause-clash
returns-then-same_term-clause-clash c = clash-never c.args.table.now c.args.state.now c.args.left c.args.right Yes (λ e. absurd (cc))

pub returns-in-Some-clause-clash : goal.returns-in-Some-clause-clash
returns-in-Some-clause-clash c =
    clash-left c.args.table.now c.args.state.now c.requires.solved c.in-Some.variable c.args.left c.args.right
    (sym c.node-node.ensures.top ∙ taken-node c.node-node.result c.node-other.result c.in-Some.variable c.in-Some.ensures) c.requires.first_ended c.in_ok-bound.bound

pub returns-in-Some-taking-clause-clash : goal.returns-in-Some-taking-clause-clash
returns-in-Some-taking-clause-clash c =
    clash-right c.args.table.now c.args.state.now c.requires.solved c.in-Some-taking.variable c.args.left c.args.right
    (sym c.node-other.ensures.top ∙ taken-node c.node-other.result c.node-node.result c.in-Some-taking.variable c.in-Some-taking.ensures) c.requires.second_ended c.in_ok-bound-2.bound

pub returns-then-same_resolved-clause-clash : goal.returns-then-same_resolved-clause-clash
returns-then-same_resolved-clause-clash c = clash-never c.args.table.now c.args.state.now c.args.left c.args.right Yes (λ e. absurd (cc))

pub returns-else-same_resolved-clause-clash : goal.returns-else-same_resolved-clause-clash
returns-else-same_resolved-clause-clash c = clash-never c.args.table.now c.args.state.now c.args.left c.args.right Undecided (λ e. absurd (cc))

pub returns-else-is_same-clause-clash : goal.returns-else-is_same-clause-clash
returns-else-is_same-clause-clash c =
    clash-tops c.args.table.now c.args.state.now c.requires.solved c.args.left c.args.right c.requires.first_ended c.requires.second_ended
    (ap (λ n. is_alias n || is_alias (node_of (tree_at c.args.table.now c.args.right))) (sym c.node-node.ensures.top)
    ∙ ap (λ n. is_alias c.node-node.result || is_alias n) (sym c.node-other.ensures.top) ∙ sym c.either_alias.ensures ∙ c.if-either_alias.false)
    (tops-differ _ _ _ _ c.is_same.result c.is_same.ensures c.node-node.ensures.top c.node-other.ensures.top c.if-is_same.false) No

pub returns-then-same_term-clause-closed : goal.returns-then-same_term-clause-closed
returns-then-same_term-clause-closed c = untouched-same c.args.table.now c.args.state.now c.args.state.now c.args.left c.args.right refl

pub returns-then-same_resolved-clause-closed : goal.returns-then-same_resolved-clause-closed
returns-then-same_resolved-clause-closed c = untouched-same c.args.table.now c.args.state.now c.args.state.now c.args.left c.args.right refl

pub returns-else-same_resolved-clause-closed : goal.returns-else-same_resolved-clause-closed
returns-else-same_resolved-clause-closed c = untouched-same c.args.table.now c.args.state.now c.args.state.now c.args.left c.args.right refl

pub returns-then-is_same-clause-closed : goal.returns-then-is_same-clause-closed
returns-then-is_same-clause-closed c = untouched-same c.args.table.now c.args.state.now c.args.state.now c.args.left c.args.right refl

pub returns-else-is_same-clause-closed : goal.returns-else-is_same-clause-closed
returns-else-is_same-clause-closed c = untouched-same c.args.table.now c.args.state.now c.args.state.now c.args.left c.args.right refl

pub returns-in_err-bound-clause-closed : goal.returns-in_err-bound-clause-closed
returns-in_err-bound-clause-closed c =
    untouched-left c.args.table.now c.args.state.now c.bind_resolved.new.state c.requires.solved c.in-Some.variable c.args.left c.args.right
    (sym c.node-node.ensures.top ∙ taken-node c.node-node.result c.node-other.result c.in-Some.variable c.in-Some.ensures) c.requires.first_ended

pub returns-in-Some-clause-closed : goal.returns-in-Some-clause-closed
returns-in-Some-clause-closed c =
    untouched-left c.args.table.now c.args.state.now c.bind_resolved.new.state c.requires.solved c.in-Some.variable c.args.left c.args.right
    (sym c.node-node.ensures.top ∙ taken-node c.node-node.result c.node-other.result c.in-Some.variable c.in-Some.ensures) c.requires.first_ended

pub returns-in_err-bound-2-clause-closed : goal.returns-in_err-bound-2-clause-closed
returns-in_err-bound-2-clause-closed c =
    untouched-right c.args.table.now c.args.state.now c.bind_resolved-in-Some-taking.new.state c.requires.solved c.in-Some-taking.variable c.args.left c.args.right
    (sym c.node-other.ensures.top ∙ taken-node c.node-other.result c.node-node.result c.in-Some-taking.variable c.in-Some-taking.ensures) c.requires.second_ended

pub returns-in-Some-taking-clause-closed : goal.returns-in-Some-taking-clause-closed
returns-in-Some-taking-clause-closed c =
    untouched-right c.args.table.now c.args.state.now c.bind_resolved-in-Some-taking.new.state c.requires.solved c.in-Some-taking.variable c.args.left c.args.right
    (sym c.node-other.ensures.top ∙ taken-node c.node-other.result c.node-node.result c.in-Some-taking.variable c.in-Some-taking.ensures) c.requires.second_ended
