-- What the test of identity of nodes with parts says.
use Rattle.std.proofs.Common.{◌≡◌, Bool, true, false, ◌&&◌, nat_eq, refl, sym, ap, ◌∙◌, eq-eqb}
use Rattle.std.specs.Bool.{Decides}
use Rattle.std.proofs.lemmas.Bool.{false≢true}
use Rattle.std.proofs.lemmas.Bool.Decides.{Decides-eqb}
use Rattle.std.proofs.lemmas.Slice.Eq.{slice_eq-Decides}
use lib.Pointwise.{pointwise}
use Rattle.goal_terms.specs.SameTree.{same_node}
use Rattle.goal_terms.specs.SameLaws.{same_node-true, same_node-refl}
use Rattle.goal_interner.specs.declared.term_nodes.TermId.{TermId}
use Rattle.goal_interner.specs.declared.term_nodes.TermNode.{TermNode}
use Rattle.goal_interner.specs.contracts.term_nodes.TermNodePartialEq.TheImpl as derived

abbrev pub same_term_node : TermNode → TermNode → Bool
same_term_node n m = (derived.ghosts).eq n m

both_true : (a b : Bool) → a && b ≡ true → (a ≡ true) × (b ≡ true)
both_true true b e = (refl, e)
both_true false b e = absurd (false≢true e)

same_id : (a b : TermId) → a.0 ≡ b.0 → a ≡ b
same_id a b e = ap (λ n. record { 0 = n }) e

same_id-Decides : (a b : TermId) → Decides (nat_eq a.0 b.0) (a ≡ b)
same_id-Decides a b = (λ e. same_id a b ((Decides-eqb a.0 b.0).0 e), λ p. eq-eqb a.0 b.0 (ap (λ i. i.0) p))

pub same_term_node-true : (n m : TermNode) → same_term_node n m ≡ true → (n.node ≡ m.node) × (n.parts.items ≡ m.parts.items)
unfolding same_node
same_term_node-true n m e =
    let both : (same_node n.node m.node ≡ true) × (pointwise (λ a b. nat_eq a.0 b.0) n.parts.items m.parts.items ≡ true) = both_true _ _ e in
    (same_node-true n.node m.node both.0, (slice_eq-Decides same_id-Decides n.parts.items m.parts.items _ refl).0 both.1)

both_hold : (a b : Bool) → a ≡ true → b ≡ true → a && b ≡ true
both_hold a b p q = ap (λ x. x && b) p ∙ q

pub same_term_node-same : (n m : TermNode) → n.node ≡ m.node → n.parts.items ≡ m.parts.items → same_term_node n m ≡ true
unfolding same_node
same_term_node-same n m p q =
    both_hold (same_node n.node m.node) (pointwise (λ a b. nat_eq a.0 b.0) n.parts.items m.parts.items)
    (ap (same_node n.node) (sym p) ∙ same_node-refl n.node)
    ((slice_eq-Decides same_id-Decides n.parts.items m.parts.items _ refl).1 q)
