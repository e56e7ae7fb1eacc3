-- What a response lists.
use Rattle.std.proofs.Common.{◌≡◌, ℕ, ◌+◌, ◌<◌, ◌≤◌, List, [], ◌∷◌, ◌++◌, length, map, take, drop, get_or, Option, Some, None, refl, sym, ap, ap₂, ◌∙◌, subst}
use Rattle.std.specs.List.{AllZip, cons_option}
use Rattle.std.specs.Prelude.{slice_get}
use Rattle.std.proofs.lemmas.Bool.{false≢true}
use Rattle.std.proofs.lemmas.List.{append-nil, take_all}
use Rattle.std.proofs.lemmas.List.Elements.{all_zip_more, filter_map-append}
use Rattle.std.proofs.lemmas.Slice.Zip.{all_zipped_more}
use Rattle.goal_terms.specs.Erased.{erased}
use Rattle.goal_terms.specs.Sorts.{sort_of, is_term_sort}
use Rattle.goal_interner.specs.TableMeaning.{tree_at, HasTerm, Keeps}
use Rattle.goal_terms.specs.Tree.{Tree, variable, node_of}
use Rattle.goal_terms.specs.TreeOf.{tree_of_term, tree_of_ty, tree_of_arg}
use Rattle.goal_terms.specs.declared.answers.Certainty.{Certainty}
use Rattle.goal_terms.specs.declared.answers.OpaqueTypeKey.{OpaqueTypeKey}
use Rattle.goal_terms.specs.declared.answers.Response.{Response}
use Rattle.goal_terms.specs.declared.answers.VarKind.{VarKind}
use Rattle.goal_terms.specs.declared.answers.VarKind.TheVariants as kind
use Rattle.goal_terms.specs.declared.heads.Variable.{Variable}
use Rattle.goal_terms.specs.declared.sorts.Sort.TheVariants as sorts
use Rattle.goal_interner.specs.declared.term_nodes.TermId.{TermId}
use Rattle.goal_terms.specs.declared.terms.Const.{Const}
use Rattle.goal_terms.specs.declared.terms.GenericArg.{GenericArg}
use Rattle.goal_terms.specs.declared.terms.Term.{Term}
use Rattle.goal_terms.specs.declared.terms.Term.TheVariants as term
use Rattle.goal_terms.specs.declared.terms.Ty.{Ty}
use Rattle.goal_terms.proofs.SortLemmas.{ty_sort, const_sort_of}
use Rattle.goal_terms.proofs.TreeLemmas.{tree_of_term-Ty, tree_of_term-Const}
use Rattle.goal_infer.specs.Following.{sort_at, StaysUnbound}
use Rattle.goal_infer.specs.Inference.{Inference}
use Rattle.goal_infer.specs.Replacement.{number_of, replaced, is_type_sort}
use Rattle.goal_infer.specs.Resolution.{term_at, resolution, resolved, IsSolved}
use Rattle.goal_infer.specs.declared.undo.InferVariable.{InferVariable}
use Rattle.goal_infer.proofs.SolvedLemmas.{resolution-as}
use Rattle.goal_solver.specs.Responses.{variable_of_kind, variable_made, variable_at, variables_at, bound_since_mark, bindings_of, IsValueOf, IsWithBindings, IsEntryOf, ListsSinceMark}
use Rattle.goal_solver.specs.State.{State}
use Rattle.goal_solver.proofs.StoredLemmas.{some-is}
use Rattle.goal_kinds.proofs.ClassRuleLemmas.{take-more}

-- over a table that grows the same stands for each variable
pub resolution-kept : (T U : List Tree) (s : Inference) → Keeps T U → IsSolved T s → resolution U s ≡ resolution T s
unfolding term_at
resolution-kept T U s keeps solved = resolution-as T U s s (λ v. refl) (λ v id f. ap erased (keeps.same id (solved.within v id f))) refl

-- what a number that a term got is after the bindings
resolved-here : (T U : List Tree) (s : Inference) (id : TermId) (t : Tree) → Keeps T U → IsSolved T s → tree_at U id ≡ t →
    resolved U s id ≡ replaced (resolution T s) (erased t)
unfolding term_at resolved
resolved-here T U s id t keeps solved here =
    ap (λ ρ. replaced ρ (erased (tree_at U id))) (resolution-kept T U s keeps solved) ∙ ap (λ x. replaced (resolution T s) (erased x)) here

-- the term of the number that follows it
pub bound-here : (T U V : List Tree) (s : Inference) (id r : TermId) (t u : Tree) → Keeps T U → IsSolved T s → tree_at U id ≡ t →
    term_at V r ≡ resolved U s id → u ≡ tree_at V r → erased u ≡ replaced (resolution T s) (erased t)
unfolding term_at
bound-here T U V s id r t u keeps solved here tree e = ap erased e ∙ tree ∙ resolved-here T U s id t keeps solved here

-- a variable's term is what stands for it
pub value-here : (T U V : List Tree) (s : Inference) (v : Variable) (id r : TermId) (x : Term) → Keeps T U → IsSolved T s → tree_at U id ≡ variable v →
    term_at V r ≡ resolved U s id → tree_of_term x ≡ tree_at V r → erased (tree_of_term x) ≡ resolution T s v
unfolding erased replaced
value-here T U V s v id r x keeps solved here tree e = bound-here T U V s id r (variable v) (tree_of_term x) keeps solved here tree e

-- a type has its bindings followed
pub type-here : (T U V : List Tree) (s : Inference) (id r : TermId) (t u : Ty) (x : Term) → Keeps T U → IsSolved T s → tree_at U id ≡ tree_of_ty t →
    term_at V r ≡ resolved U s id → StaysUnbound U s V id r → tree_of_term x ≡ tree_at V r → x ≡ term.Ty u →
    IsWithBindings (resolution T s) (tree_of_ty t) (tree_of_ty u)
unfolding term_at
type-here T U V s id r t u x keeps solved here tree same e is =
    let made : tree_of_ty u ≡ tree_at V r = sym (tree_of_term-Ty u) ∙ ap tree_of_term (sym is) ∙ e in (
      bound-here T U V s id r (tree_of_ty t) (tree_of_ty u) keeps solved here tree made,
      λ h. made ∙ same (resolved-here T U s id (tree_of_ty t) keeps solved here ∙ h ∙ ap erased (sym here)) ∙ here,
    )

-- its number is that of a type
type-sort : (T U : List Tree) (id r : TermId) (t : Ty) → tree_at T id ≡ tree_of_ty t → sort_at U r ≡ sort_at T id → sort_at U r ≡ sorts.Ty
type-sort T U id r t here sort = sort ∙ ap (λ x. sort_of (node_of x)) here ∙ ty_sort t

pub type-there : (T U : List Tree) (id r : TermId) (t : Ty) → r.0 < length U → tree_at T id ≡ tree_of_ty t → sort_at U r ≡ sort_at T id → HasTerm U r
type-there T U id r t l here sort = (l, ap is_term_sort (type-sort T U id r t here sort))

pub type-no_constant : (T U : List Tree) (id r : TermId) (t : Ty) (c : Const) (x : Term) → tree_at T id ≡ tree_of_ty t → sort_at U r ≡ sort_at T id →
    tree_of_term x ≡ tree_at U r → x ≡ term.Const c → ⊥
type-no_constant T U id r t c x here sort e is =
    false≢true
    (ap is_type_sort (sym (const_sort_of c) ∙ ap (λ z. sort_of (node_of z)) (sym (tree_of_term-Const c) ∙ ap tree_of_term (sym is) ∙ e) ∙ type-sort T U id r t here sort))

-- what isn't something is nothing
pub none-when : {A : Type 0} (o : Option A) → ((x : A) → o ≡ Some x → ⊥) → o ≡ None
none-when None f = refl
none-when (Some x) f = absurd (f x refl)

-- the variable of a number has it
kind-number : (k : VarKind) (n : ℕ) (v : Variable) → variable_of_kind k n ≡ Some v → n ≡ number_of v
kind-number kind.Ty n v e = ap number_of (some-is _ v e)
kind-number kind.Int n v e = ap number_of (some-is _ v e)
kind-number kind.Float n v e = ap number_of (some-is _ v e)
kind-number kind.Const n v e = ap number_of (some-is _ v e)
kind-number kind.Region n v e = absurd (cc)

made-number : (x : Option InferVariable) (n : ℕ) (v : Variable) → variable_made x n ≡ Some v → n ≡ number_of v
made-number None n v e = absurd (cc)
made-number (Some x) n v e = kind-number x.kind n v e

pub variable-number : (s : Inference) (n : ℕ) (v : Variable) → variable_at s n ≡ Some v → n ≡ number_of v
variable-number s n v e = made-number (slice_get s.variables n) n v e

-- the variables of one more number
variables-more : (s : Inference) (ns : List ℕ) (i n : ℕ) → i < length ns → n ≡ get_or ns i 0 →
    variables_at s (take (i + 1) ns) ≡ variables_at s (take i ns) ++ cons_option (variable_at s n) []
variables-more s ns i n l at =
    ap (variables_at s) (take-more ns i 0 l) ∙ ap (λ m. variables_at s (take i ns ++ m ∷ [])) (sym at) ∙ filter_map-append (variable_at s) (take i ns) (n ∷ [])

-- which got its value
pub values-more : (ρ : Variable → Tree) (s : Inference) (ns : List ℕ) (i n : ℕ) (v : Variable) (ps qs : List (ℕ × Term)) (x : Term) → i < length ns → n ≡ get_or ns i 0 →
    variable_at s n ≡ Some v → erased (tree_of_term x) ≡ ρ v → qs ≡ ps ++ (n, x) ∷ [] → AllZip (IsValueOf ρ) (variables_at s (take i ns)) ps →
    AllZip (IsValueOf ρ) (variables_at s (take (i + 1) ns)) qs
values-more ρ s ns i n v ps qs x l at is value e so_far =
    subst (λ (vs : List Variable). AllZip (IsValueOf ρ) vs qs) (sym (variables-more s ns i n l at ∙ ap (λ o. variables_at s (take i ns) ++ cons_option o []) is))
    (subst (λ (us : List (ℕ × Term)). AllZip (IsValueOf ρ) (variables_at s (take i ns) ++ v ∷ []) us) (sym e)
    (all_zipped_more (IsValueOf ρ) (variables_at s (take i ns)) ps v (n, x) so_far (variable-number s n v is, value)))

-- or which has none
pub values-skipped : (ρ : Variable → Tree) (s : Inference) (ns : List ℕ) (i n : ℕ) (ps : List (ℕ × Term)) → i < length ns → n ≡ get_or ns i 0 →
    variable_at s n ≡ None → AllZip (IsValueOf ρ) (variables_at s (take i ns)) ps → AllZip (IsValueOf ρ) (variables_at s (take (i + 1) ns)) ps
values-skipped ρ s ns i n ps l at is so_far =
    subst (λ (vs : List Variable). AllZip (IsValueOf ρ) vs ps)
    (sym (variables-more s ns i n l at ∙ ap (λ o. variables_at s (take i ns) ++ cons_option o []) is ∙ append-nil (variables_at s (take i ns)))) so_far

-- one more entry
pub entries-more : (ρ : Variable → Tree) (es : List (OpaqueTypeKey × Ty)) (i : ℕ) (e f : OpaqueTypeKey × Ty) (fs gs : List (OpaqueTypeKey × Ty)) → i < length es → e ≡ get_or es i e →
    IsEntryOf ρ e f → gs ≡ fs ++ f ∷ [] → AllZip (IsEntryOf ρ) (take i es) fs → AllZip (IsEntryOf ρ) (take (i + 1) es) gs
entries-more ρ es i e f fs gs l at is h so_far =
    subst (λ (ds : List (OpaqueTypeKey × Ty)). AllZip (IsEntryOf ρ) (take (i + 1) es) ds) (sym h) (all_zip_more (IsEntryOf ρ) es fs i e f l at so_far is)

pub entries-all : (ρ : Variable → Tree) (es : List (OpaqueTypeKey × Ty)) (i : ℕ) (fs : List (OpaqueTypeKey × Ty)) → length es ≤ i →
    AllZip (IsEntryOf ρ) (take i es) fs → AllZip (IsEntryOf ρ) es fs
entries-all ρ es i fs l so_far = subst (λ (ds : List (OpaqueTypeKey × Ty)). AllZip (IsEntryOf ρ) ds fs) (take_all i es l) so_far

-- clones of arguments have their trees
pub args-cloned : (xs ys : List GenericArg) → AllZip (λ (a b : GenericArg). tree_of_arg b ≡ tree_of_arg a) xs ys → map tree_of_arg ys ≡ map tree_of_arg xs
args-cloned [] [] z = refl
args-cloned [] (y ∷ ys) z = absurd z
args-cloned (x ∷ xs) [] z = absurd z
args-cloned (x ∷ xs) (y ∷ ys) z = ap₂ (λ t ts. t ∷ ts) z.0 (args-cloned xs ys z.1)

-- what was listed before there were more terms
pub entries-kept : (s z : State) (fs : List (OpaqueTypeKey × Ty)) → z ≡ record s { terms = z.terms } → Keeps s.terms z.terms → IsSolved s.terms s.inference →
    AllZip (IsEntryOf (bindings_of z)) (drop z.mark.storage z.storage) fs → AllZip (IsEntryOf (bindings_of s)) (drop s.mark.storage s.storage) fs
entries-kept s z fs e keeps solved listed =
    subst (λ (ρ : Variable → Tree). AllZip (IsEntryOf ρ) (drop s.mark.storage s.storage) fs) (resolution-kept s.terms z.terms s.inference keeps solved)
    (subst (λ (y : State). AllZip (IsEntryOf (bindings_of y)) (drop y.mark.storage y.storage) fs) e listed)

-- is listed after that, too
lists-more : (s : State) (U : List Tree) (c : Certainty) (r : Response) → Keeps s.terms U → IsSolved s.terms s.inference → ListsSinceMark s c r → ListsSinceMark (record s { terms = U }) c r
lists-more s U c r keeps solved listed = record {
  certainty = listed.certainty;
  proven_via = listed.proven_via;
  base = listed.base;
  vars = listed.vars;
  values = subst (λ (ρ : Variable → Tree). AllZip (IsValueOf ρ) (bound_since_mark s) r.var_values.items) (sym (resolution-kept s.terms U s.inference keeps solved)) listed.values;
  equations = listed.equations;
  entries =
      subst (λ (ρ : Variable → Tree). AllZip (IsEntryOf ρ) (drop s.mark.storage s.storage) r.opaque_entries.items) (sym (resolution-kept s.terms U s.inference keeps solved)) listed.entries;
}

pub lists-kept : (s z : State) (c : Certainty) (r : Response) → z ≡ record s { terms = z.terms } → Keeps s.terms z.terms → IsSolved s.terms s.inference →
    ListsSinceMark s c r → ListsSinceMark z r.certainty r
lists-kept s z c r e keeps solved listed =
    subst (λ (d : Certainty). ListsSinceMark z d r) (sym listed.certainty)
    (subst (λ (y : State). ListsSinceMark y c r) (sym e) (lists-more s z.terms c r keeps solved listed))
