-- The flags of terms, from those of their parts.
use Rattle.std.proofs.Common.{◌≡◌, ℕ, ◌+◌, ◌<◌, ◌≤◌, Bool, ◌||◌, List, [], ◌∷◌, ◌++◌, length, map, get_or, take, refl, sym, ap, ◌∙◌, arith}
use Rattle.std.specs.List.{list_any}
use Rattle.std.proofs.Math.Bool.{or-false, or_assoc}
use Rattle.std.proofs.lemmas.List.{take_all, length-map, get_or-map, map-append}
use Rattle.std.proofs.lemmas.List.Folds.{list_any_more}
use Rattle.goal_terms.specs.NodeTests.{some_node, some_in_row, is_error, is_alias, is_any_infer}
use Rattle.goal_terms.specs.Occurrences.{has_error}
use Rattle.goal_terms.specs.Sorts.{Fits}
use Rattle.goal_interner.specs.TableMeaning.{tree_at, trees_of_nodes}
use Rattle.goal_interner.specs.TermFlags.{flags_of, flags_of_node, union, AreFlagged}
use Rattle.goal_terms.specs.Tree.{Tree, forest}
use Rattle.goal_terms.specs.TreeOf.{leaf}
use Rattle.goal_terms.specs.TreeWith.{tree_with}
use Rattle.goal_terms.specs.declared.heads.Head.TheVariants as head
use Rattle.goal_terms.specs.declared.heads.Node.{Node}
use Rattle.goal_terms.specs.declared.heads.Node.TheVariants as nodes
use Rattle.goal_interner.specs.declared.term_flags.TermFlags.{TermFlags}
use Rattle.goal_interner.specs.declared.term_nodes.TermId.{TermId}
use Rattle.goal_interner.specs.declared.term_nodes.TermNode.{TermNode}

-- the flags that a node has, or one of some terms
abbrev pub flags_over : Node → List Tree → TermFlags
flags_over n ts = record {
  has_error = is_error n || list_any has_error ts;
  has_alias = is_alias n || list_any (some_node is_alias) ts;
  has_infer = is_any_infer n || list_any (some_node is_any_infer) ts;
}

same_flags : (a b c x y z : Bool) → a ≡ x → b ≡ y → c ≡ z →
    (let f : TermFlags = record { has_error = a; has_alias = b; has_infer = c } in f)
    ≡ record { has_error = x; has_alias = y; has_infer = z }
same_flags a b c x y z e f g = cc

row-passes : (p : Node → Bool) (ts : List Tree) → some_in_row p (forest ts) ≡ list_any (some_node p) ts
unfolding some_node
row-passes p [] = refl
row-passes p (t ∷ ts) = ap (λ b. some_node p t || b) (row-passes p ts)

-- a test passes in a term if it passes at its top, or in a part
some_node-tree_with : (p : Node → Bool) (n : Node) (ts : List Tree) → Fits n ts → some_node p (tree_with n ts) ≡ p n || list_any (some_node p) ts
unfolding some_node
some_node-tree_with p (nodes.Head h) ts fits = ap (λ b. p (nodes.Head h) || b) (row-passes p ts)
some_node-tree_with p (nodes.Alias k) ts fits = ap (λ b. p (nodes.Alias k) || b) (row-passes p ts)
some_node-tree_with p (nodes.Variable v) ts fits =
    sym (or-false (p (nodes.Variable v))) ∙ ap (λ us. p (nodes.Variable v) || list_any (some_node p) us) (sym fits)

flags_of-tree_with : (n : Node) (ts : List Tree) → Fits n ts → flags_over n ts ≡ flags_of (tree_with n ts)
unfolding has_error
flags_of-tree_with n ts fits =
    same_flags _ _ _ _ _ _ (sym (some_node-tree_with is_error n ts fits)) (sym (some_node-tree_with is_alias n ts fits))
    (sym (some_node-tree_with is_any_infer n ts fits))

-- a loop over the parts
pub flags_over-none : (n : Node) (ts : List Tree) → flags_of_node n ≡ flags_over n (take 0 ts)
flags_over-none n ts = same_flags _ _ _ _ _ _ (sym (or-false (is_error n))) (sym (or-false (is_alias n))) (sym (or-false (is_any_infer n)))

one_more : (b : Bool) (p : Tree → Bool) (ts : List Tree) (i : ℕ) (d : Tree) → i < length ts →
    (b || list_any p (take i ts)) || p (get_or ts i d) ≡ b || list_any p (take (i + 1) ts)
one_more b p ts i d l =
    or_assoc b (list_any p (take i ts)) (p (get_or ts i d)) ∙ ap (λ x. b || x) (sym (list_any_more p ts i d l))

flags_over-more : (n : Node) (ts : List Tree) (i : ℕ) (d : Tree) → i < length ts →
    union (flags_over n (take i ts)) (flags_of (get_or ts i d)) ≡ flags_over n (take (i + 1) ts)
flags_over-more n ts i d l =
    same_flags _ _ _ _ _ _ (one_more (is_error n) has_error ts i d l) (one_more (is_alias n) (some_node is_alias) ts i d l)
    (one_more (is_any_infer n) (some_node is_any_infer) ts i d l)

pub flags_over-part : (T : List Tree) (n : Node) (ids : List TermId) (i : ℕ) (d : TermId) → i < length ids →
    union (flags_over n (take i (map (tree_at T) ids))) (flags_of (tree_at T (get_or ids i d))) ≡ flags_over n (take (i + 1) (map (tree_at T) ids))
flags_over-part T n ids i d l =
    ap (λ t. union (flags_over n (take i (map (tree_at T) ids))) (flags_of t)) (sym (get_or-map (tree_at T) ids i d (tree_at T d) l))
    ∙ flags_over-more n (map (tree_at T) ids) i (tree_at T d) (omega (arith, length-map ids (tree_at T)))

pub flags_over-all : (n : Node) (ts : List Tree) (i : ℕ) → length ts ≤ i → Fits n ts → flags_over n (take i ts) ≡ flags_of (tree_with n ts)
flags_over-all n ts i l fits = ap (flags_over n) (take_all i ts l) ∙ flags_of-tree_with n ts fits

-- the flags of a table
pub flags_read : (ns : List TermNode) (fs : List TermFlags) (ts : List Tree) → AreFlagged ns fs → trees_of_nodes ns ≡ ts →
    (id : TermId) (d : TermFlags) → id.0 < length ts → get_or fs id.0 d ≡ flags_of (tree_at ts id)
unfolding tree_at
flags_read ns fs ts table e id d l =
    ap (λ gs. get_or gs id.0 d) (table.flags ∙ ap (map flags_of) e) ∙ get_or-map flags_of ts id.0 (leaf head.Bool) d l

pub flags-none : (ns : List TermNode) (fs : List TermFlags) → fs ≡ [] → trees_of_nodes ns ≡ [] → fs ≡ map flags_of (trees_of_nodes ns)
flags-none ns fs e f = e ∙ sym (ap (map flags_of) f)

pub flags-push : (ns ms : List TermNode) (fs gs : List TermFlags) (ts : List Tree) (t : Tree) (f : TermFlags) → AreFlagged ns fs → trees_of_nodes ns ≡ ts →
    trees_of_nodes ms ≡ ts ++ t ∷ [] → f ≡ flags_of t → gs ≡ fs ++ f ∷ [] → gs ≡ map flags_of (trees_of_nodes ms)
flags-push ns ms fs gs ts t f table e all here pushed =
    pushed ∙ ap (λ g. fs ++ g ∷ []) here ∙ ap (λ hs. hs ++ flags_of t ∷ []) (table.flags ∙ ap (map flags_of) e)
    ∙ sym (ap (map flags_of) all ∙ map-append flags_of ts (t ∷ []))
