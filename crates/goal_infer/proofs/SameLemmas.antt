-- Terms that are identical after the bindings of their variables.
use Rattle.std.proofs.Common.{◌≡◌, ℕ, ◌<◌, List, [], ◌∷◌, length, map, get_or, None, refl, sym, ap, ◌∙◌, arith}
use Rattle.goal_terms.specs.Tree.{Tree, Trees, node, alias, variable, none, more, node_of, parts_of, list_of}
use Rattle.goal_terms.specs.Erased.{erased, erased_row}
use Rattle.goal_terms.specs.SameHead.{top_of}
use Rattle.goal_interner.specs.TableMeaning.{tree_at}
use Rattle.goal_terms.specs.TreeWith.{tree_with}
use Rattle.goal_interner.specs.declared.term_nodes.TermId.{TermId}
use Rattle.goal_interner.proofs.InternLemmas.{tree_with-parts}
use Rattle.goal_infer.specs.Inference.{Inference}
use Rattle.goal_infer.specs.Replacement.{replaced, replaced_row}
use Rattle.goal_infer.specs.Resolution.{term_at, binding_at, resolution, resolved, IsSolved}
use Rattle.goal_infer.proofs.PartLemmas.{is_above, height-part}
use Rattle.goal_infer.proofs.ReplacementLemmas.{height}

-- a tree after the bindings of a state
unfoldable pub settled : List Tree → Inference → Tree → Tree
settled T s t = replaced (resolution T s) (erased t)

pub settled-is : (T : List Tree) (s : Inference) (id : TermId) → settled T s (tree_at T id) ≡ resolved T s id
unfolding settled resolved term_at
settled-is T s id = refl

row-settled : (T : List Tree) (s : Inference) (ts : Trees) → list_of (replaced_row (resolution T s) (erased_row ts)) ≡ map (settled T s) (list_of ts)
unfolding settled replaced erased
row-settled T s none = refl
row-settled T s (more t ts) = ap (λ us. replaced (resolution T s) (erased t) ∷ us) (row-settled T s ts)

-- by its top and its parts
pub settled-top : (T : List Tree) (s : Inference) → IsSolved T s → (t : Tree) → binding_at s (node_of t) ≡ None → node_of (settled T s t) ≡ top_of t
unfolding settled replaced erased
settled-top T s solved (node h ts) e = refl
settled-top T s solved (alias k ts) e = refl
settled-top T s solved (variable v) e = ap node_of (solved.free v e)

pub settled-parts : (T : List Tree) (s : Inference) → IsSolved T s → (t : Tree) → binding_at s (node_of t) ≡ None → parts_of (settled T s t) ≡ map (settled T s) (parts_of t)
unfolding settled replaced erased
settled-parts T s solved (node h ts) e = row-settled T s ts
settled-parts T s solved (alias k ts) e = row-settled T s ts
settled-parts T s solved (variable v) e = ap parts_of (solved.free v e)

module _ (T : List Tree) (s : Inference) (solved : IsSolved T s) (t u : Tree) (te : binding_at s (node_of t) ≡ None) (ue : binding_at s (node_of u) ≡ None) where
  pub settled-joined : top_of t ≡ top_of u → map (settled T s) (parts_of t) ≡ map (settled T s) (parts_of u) → settled T s t ≡ settled T s u
  settled-joined p q =
      sym (tree_with-parts (settled T s t))
      ∙ ap (λ n. tree_with n (parts_of (settled T s t))) (settled-top T s solved t te ∙ p ∙ sym (settled-top T s solved u ue))
      ∙ ap (tree_with (node_of (settled T s u))) (settled-parts T s solved t te ∙ q ∙ sym (settled-parts T s solved u ue))
      ∙ tree_with-parts (settled T s u)

  pub tops-if : settled T s t ≡ settled T s u → top_of t ≡ top_of u
  tops-if e = sym (settled-top T s solved t te) ∙ ap node_of e ∙ settled-top T s solved u ue

  pub parts-if : settled T s t ≡ settled T s u → map (settled T s) (parts_of t) ≡ map (settled T s) (parts_of u)
  parts-if e = sym (settled-parts T s solved t te) ∙ ap parts_of e ∙ settled-parts T s solved u ue

-- what has parts is no variable
above-parts : (T : List Tree) (t : Tree) (ids : List TermId) (i : ℕ) → map (tree_at T) ids ≡ parts_of t → i < length ids → is_above (node_of t)
above-parts T (node h ts) ids i e l = tt
above-parts T (alias k ts) ids i e l = tt
above-parts T (variable v) [] i e l = absurd (omega arith)
above-parts T (variable v) (id ∷ ids) i e l = absurd (cc)

pub lower-part : (T : List Tree) (s : Inference) (id : TermId) (ids : List TermId) (i : ℕ) (d : TermId) → map (tree_at T) ids ≡ parts_of (tree_at T id) →
    i < length ids → height (resolved T s (get_or ids i d)) < height (resolved T s id)
lower-part T s id ids i d e l = height-part T s id ids i d e (above-parts T (tree_at T id) ids i e l) l
