-- Signatures as pointers to functions.
use Rattle.std.proofs.Common.{◌≡◌, ℕ, Bool, true, false, List, Some, None, refl, sym, ap, ◌∙◌, subst}
use Rattle.goal_terms.specs.Erased.{erased, erased_row, erased_head}
use Rattle.goal_terms.specs.Folding.{folded, folded_node}
use Rattle.goal_terms.specs.Tree.{Tree, Trees, node, alias, variable, node_of, parts_of, forest}
use Rattle.goal_terms.specs.TreeCode.{forest-list_of}
use Rattle.goal_terms.specs.TreeOf.{tree_of_sig}
use Rattle.goal_terms.specs.declared.heads.Head.{Head}
use Rattle.goal_terms.specs.declared.heads.Head.TheVariants as head
use Rattle.goal_terms.specs.declared.heads.Node.TheVariants as nodes
use Rattle.goal_terms.specs.declared.terms.FnSig.{FnSig}
use Rattle.goal_terms.proofs.TreeLemmas.{tree_of_sig-record}
use Rattle.goal_lists.specs.Builtins.{callable_sig, is_fn_ptr}
use Rattle.goal_lists.specs.Headers.{under}

-- the top of a pointer
pointer-top : (P : Tree → Type 0) (u : Tree) (b n : ℕ) (q : Bool) → nodes.Head (head.FnPtr b n q) ≡ node_of u → ((ts : Trees) → P (node (head.FnPtr 0 n q) ts)) → P (erased u)
unfolding erased
pointer-top P (node k ts) b n q s h =
    let same : head.FnPtr b n q ≡ k = cc in subst (λ x. P (node (erased_head x) (erased_row ts))) same (h (erased_row ts))
pointer-top P (alias k ts) b n q s h = absurd (cc)
pointer-top P (variable v) b n q s h = absurd (cc)

-- a pointer is one
pub pointer-at : (u : Tree) (b n : ℕ) (q : Bool) → nodes.Head (head.FnPtr b n q) ≡ node_of u → is_fn_ptr (erased u) ≡ true
pointer-at u b n q s = pointer-top (λ t. is_fn_ptr t ≡ true) u b n q s (λ ts. refl)

-- it is callable where its functions have the traits `Fn`
pub callable-at : (u : Tree) (b n : ℕ) (q : Bool) → nodes.Head (head.FnPtr b n q) ≡ node_of u → q ≡ true → Some (erased u) ≡ callable_sig (erased u)
callable-at u b n true s e = pointer-top (λ t. Some t ≡ callable_sig t) u b n true s (λ ts. refl)
callable-at u b n false s e = absurd (cc)

pub uncallable-at : (u : Tree) (b n : ℕ) (q : Bool) → nodes.Head (head.FnPtr b n q) ≡ node_of u → q ≡ false → None ≡ callable_sig (erased u)
uncallable-at u b n true s e = absurd (cc)
uncallable-at u b n false s e = pointer-top (λ t. None ≡ callable_sig t) u b n false s (λ ts. refl)

-- nothing else is
other_head : (h : Head) (ts : Trees) → ((b n : ℕ) (q : Bool) → h ≡ head.FnPtr b n q → ⊥) → None ≡ callable_sig (node (erased_head h) ts)
other_head (head.FnPtr b n q) ts never = absurd (never b n q refl)
other_head h ts never = refl

pub other-at : (u : Tree) (h : Head) → nodes.Head h ≡ node_of u → ((b n : ℕ) (q : Bool) → h ≡ head.FnPtr b n q → ⊥) → None ≡ callable_sig (erased u)
unfolding erased
other-at (node k ts) h s never = let same : h ≡ k = cc in other_head k (erased_row ts) (λ b n q e. never b n q (same ∙ e))
other-at (alias k ts) h s never = absurd (cc)
other-at (variable v) h s never = absurd (cc)

-- a row's signature is a pointer under any arguments
pub signature-pointer : (s : List Tree) (sig : FnSig) → is_fn_ptr (under s (tree_of_sig sig)) ≡ true
unfolding folded folded_node erased
signature-pointer s sig = rw tree_of_sig-record refl

-- a pointer as it is called
pub pointer-signature : (u : Tree) (b n : ℕ) (q : Bool) → nodes.Head (head.FnPtr b n q) ≡ node_of u → erased u ≡ node (head.FnPtr 0 n q) (forest (parts_of (erased u)))
pointer-signature u b n q s = pointer-top (λ t. t ≡ node (head.FnPtr 0 n q) (forest (parts_of t))) u b n q s (λ ts. ap (node (head.FnPtr 0 n q)) (sym (forest-list_of ts)))
