-- Parts of the same sorts fit the same node.
use Rattle.std.proofs.Common.{◌≡◌, ℕ, zero, suc, true, List, [], ◌∷◌, refl, sym, ap, ◌∙◌, subst}
use Rattle.std.specs.List.{All, AllZip}
use Rattle.std.proofs.lemmas.List.Elements.{All-head, All-tail, All-cons, All-nil, length_all_zip}
use Rattle.goal_terms.specs.Tree.{Tree, node_of}
use Rattle.goal_terms.specs.Sorts.{sort_of, is_argument_sort, is_term_sort, IsSort, IsArgument, Are, tree_in, HeadFits, Fits}
use Rattle.goal_terms.specs.declared.heads.Head.{Head}
use Rattle.goal_terms.specs.declared.heads.Head.TheVariants as head
use Rattle.goal_terms.specs.declared.heads.Node.{Node}
use Rattle.goal_terms.specs.declared.heads.Node.TheVariants as nodes
use Rattle.goal_terms.specs.declared.sorts.Sort.{Sort}
use Rattle.goal_terms.specs.declared.sorts.Sort.TheVariants as sorts

-- two terms are of one sort
abbrev pub HaveOneSort : Tree → Tree → Type 0
HaveOneSort t u = sort_of (node_of u) ≡ sort_of (node_of t)

zip-empty : (ts us : List Tree) → AllZip HaveOneSort ts us → ts ≡ [] → us ≡ []
zip-empty [] [] z e = refl
zip-empty [] (u ∷ us) z e = absurd z
zip-empty (t ∷ ts) us z e = absurd (cc)

zip-all : (P : Sort → Type 0) (ts us : List Tree) → AllZip HaveOneSort ts us → All (λ t. P (sort_of (node_of t))) ts → All (λ t. P (sort_of (node_of t))) us
zip-all P [] [] z all = All-nil (λ t. P (sort_of (node_of t)))
zip-all P [] (u ∷ us) z all = absurd z
zip-all P (t ∷ ts) [] z all = absurd z
zip-all P (t ∷ ts) (u ∷ us) z all =
    All-cons (λ x. P (sort_of (node_of x))) u us (subst P (sym z.0) (All-head (λ x. P (sort_of (node_of x))) t ts all))
    (zip-all P ts us z.1 (All-tail (λ x. P (sort_of (node_of x))) t ts all))

zip-place : (ts us : List Tree) → AllZip HaveOneSort ts us → (k : ℕ) → sort_of (node_of (tree_in us k)) ≡ sort_of (node_of (tree_in ts k))
zip-place [] [] z k = refl
zip-place [] (u ∷ us) z k = absurd z
zip-place (t ∷ ts) [] z k = absurd z
zip-place (t ∷ ts) (u ∷ us) z zero = z.0
zip-place (t ∷ ts) (u ∷ us) z (suc k) = zip-place ts us z.1 k

module _ (ts us : List Tree) (z : AllZip HaveOneSort ts us) where
  zip-sorts : (s : Sort) (n : ℕ) → Are (IsSort s) n ts → Are (IsSort s) n us
  zip-sorts s n are = (sym (length_all_zip HaveOneSort ts us z) ∙ are.0, zip-all (λ r. r ≡ s) ts us z are.1)

  zip-arguments : All IsArgument ts → All IsArgument us
  zip-arguments all = zip-all (λ r. is_argument_sort r ≡ true) ts us z all

  zip-argument_list : (n : ℕ) → Are IsArgument n ts → Are IsArgument n us
  zip-argument_list n are = (sym (length_all_zip HaveOneSort ts us z) ∙ are.0, zip-arguments are.1)

  head-fits : (h : Head) → HeadFits h ts → HeadFits h us
  head-fits (head.Adt i n) fits = zip-argument_list n fits
  head-fits head.Array fits =
      (sym (length_all_zip HaveOneSort ts us z) ∙ fits.0, zip-place ts us z 0 ∙ fits.1, zip-place ts us z 1 ∙ fits.2)
  head-fits head.Slice fits = zip-sorts sorts.Ty 1 fits
  head-fits (head.RawPtr m) fits = zip-sorts sorts.Ty 1 fits
  head-fits (head.Ref r m) fits = zip-sorts sorts.Ty 1 fits
  head-fits (head.FnDef i n) fits = zip-argument_list n fits
  head-fits (head.FnPtr b n c) fits = zip-sorts sorts.Ty _ fits
  head-fits (head.Closure i n) fits = zip-argument_list n fits
  head-fits (head.Dynamic n r) fits = zip-sorts sorts.Clause n fits
  head-fits (head.Tuple n) fits = zip-sorts sorts.Ty n fits
  head-fits (head.DynTrait i n) fits = zip-argument_list n fits
  head-fits (head.DynProjection i n) fits =
      (sym (length_all_zip HaveOneSort ts us z) ∙ fits.0, zip-arguments fits.1, ap is_term_sort (zip-place ts us z n) ∙ fits.2)
  head-fits (head.Misplaced k) fits = zip-arguments fits
  head-fits h fits = zip-empty ts us z fits

  pub fits-sorts : (n : Node) → Fits n ts → Fits n us
  fits-sorts (nodes.Head h) fits = head-fits h fits
  fits-sorts (nodes.Alias k) fits = zip-arguments fits
  fits-sorts (nodes.Variable v) fits = zip-empty ts us z fits
