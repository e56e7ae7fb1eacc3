-- Rewriting keeps the sorts of terms, so that a node fits its parts after it as before.
use Rattle.std.proofs.Common.{◌≡◌, ℕ, zero, suc, Bool, true, false, List, [], ◌∷◌, length, map, get_or, take, ◌<◌, ◌≤◌, Option, Some, None, refl, sym, ap, ◌∙◌, subst, arith}
use Rattle.std.specs.Prelude.{slice_get, if◌then◌else◌}
use Rattle.std.specs.List.{All}
use Rattle.std.specs.Option.{option_map, unwrap_or}
use Rattle.std.proofs.lemmas.List.{length-map, take_all}
use Rattle.std.proofs.lemmas.Option.{slice_get-map, slice_get-get_or}
use Rattle.std.proofs.lemmas.List.Elements.{All-head, All-tail, All-cons, All-nil, All-weaker}
use Rattle.goal_terms.specs.Folding.{Folding, depth_below, folded_head, folded_node, folded, folded_row, shifting, shifted, argument_of, instantiating}
use Rattle.goal_terms.specs.Kinds.{kind_of, kind_of_head, same_kind}
use Rattle.goal_terms.specs.Sorts.{sort_of, sort_of_head, is_argument_sort, is_term_sort, IsSort, IsArgument, Are, tree_in, part_at, HeadFits, Fits}
use Rattle.goal_interner.specs.TableMeaning.{tree_at, AreBelow, Keeps}
use Rattle.goal_terms.specs.Tops.{depth_of_parts, folded_top, argument_for}
use Rattle.goal_terms.specs.Tree.{Tree, Trees, node, alias, variable, forest, node_of, parts_of}
use Rattle.goal_terms.specs.TreeOf.{leaf, tree_of_ty}
use Rattle.goal_terms.specs.TreeWith.{tree_with}
use Rattle.goal_terms.specs.declared.answers.ParamKind.{ParamKind}
use Rattle.goal_terms.specs.declared.answers.ParamKind.TheVariants as kind
use Rattle.goal_terms.specs.declared.heads.Head.{Head}
use Rattle.goal_terms.specs.declared.heads.Head.TheVariants as head
use Rattle.goal_terms.specs.declared.heads.Node.{Node}
use Rattle.goal_terms.specs.declared.heads.Node.TheVariants as nodes
use Rattle.goal_terms.specs.declared.heads.Variable.TheVariants as variables
use Rattle.goal_terms.specs.declared.sorts.Sort.{Sort}
use Rattle.goal_terms.specs.declared.sorts.Sort.TheVariants as sorts
use Rattle.goal_interner.specs.declared.term_nodes.TermId.{TermId}
use Rattle.goal_terms.specs.declared.terms.AliasTermKind.{AliasTermKind}
use Rattle.goal_terms.specs.declared.terms.AliasTermKind.TheVariants.{ProjectionTy, ProjectionConst, InherentTy, InherentConst, OpaqueTy, FreeTy, FreeConst, UnevaluatedConst}
use Rattle.goal_terms.specs.declared.terms.Ty.{Ty}
use Rattle.goal_terms.proofs.FitLemmas.{IsFit}
use Rattle.goal_terms.proofs.FoldLemmas.{rewritten, folded-walk}
use Rattle.goal_terms.proofs.SortLemmas.{ty_sort}

abbrev sort_at : Tree → Sort
sort_at t = sort_of (node_of t)

-- a rewriting that makes of each term one of the same sort
abbrev pub KeepsSorts : Folding → Type 0
KeepsSorts f = (d : ℕ) (t : Tree) → sort_of (node_of (folded f d t)) ≡ sort_of (node_of t)

-- moving of lifetimes
shifted_sort : (by d : ℕ) (h : Head) (ts : Trees) → sort_at (folded_node (shifting by) d h ts) ≡ sort_of_head h
unfolding folded_node
shifted_sort by d (head.TyParam n) ts = refl
shifted_sort by d h ts = refl

pub shifting-sorts : (by : ℕ) → KeepsSorts (shifting by)
unfolding folded
shifting-sorts by d (node h ts) = shifted_sort by d h (folded_row (shifting by) (depth_below h d) ts)
shifting-sorts by d (alias k ts) = refl
shifting-sorts by d (variable v) = refl

-- what is of a kind, and no clause, is of the sort of that kind
abbrev sort_of_kind : ParamKind → Sort
sort_of_kind kind.Ty = sorts.Ty
sort_of_kind kind.Const = sorts.Const
sort_of_kind kind.Lifetime = sorts.Lifetime

misplaced_kind_sort : (k : AliasTermKind) → sort_of_head (head.Misplaced k) ≡ sort_of_kind (kind_of_head (head.Misplaced k))
unfolding kind_of_head
misplaced_kind_sort (ProjectionTy i) = refl
misplaced_kind_sort (ProjectionConst i) = refl
misplaced_kind_sort (InherentTy i) = refl
misplaced_kind_sort (InherentConst i) = refl
misplaced_kind_sort (OpaqueTy i) = refl
misplaced_kind_sort (FreeTy i) = refl
misplaced_kind_sort (FreeConst i) = refl
misplaced_kind_sort (UnevaluatedConst n) = refl

alias_kind_sort : (k : AliasTermKind) → sort_of (nodes.Alias k) ≡ sort_of_kind (kind_of (nodes.Alias k))
unfolding kind_of
alias_kind_sort (ProjectionTy i) = refl
alias_kind_sort (ProjectionConst i) = refl
alias_kind_sort (InherentTy i) = refl
alias_kind_sort (InherentConst i) = refl
alias_kind_sort (OpaqueTy i) = refl
alias_kind_sort (FreeTy i) = refl
alias_kind_sort (FreeConst i) = refl
alias_kind_sort (UnevaluatedConst n) = refl

head_kind_sort : (h : Head) → is_argument_sort (sort_of_head h) ≡ true → sort_of_head h ≡ sort_of_kind (kind_of_head h)
unfolding kind_of_head
head_kind_sort (head.DynTrait i n) a = absurd (cc)
head_kind_sort (head.DynProjection i n) a = absurd (cc)
head_kind_sort (head.Misplaced k) a = misplaced_kind_sort k
head_kind_sort h a = refl

kind_sort : (n : Node) → is_argument_sort (sort_of n) ≡ true → sort_of n ≡ sort_of_kind (kind_of n)
unfolding kind_of
kind_sort (nodes.Head h) a = head_kind_sort h a
kind_sort (nodes.Alias k) a = alias_kind_sort k
kind_sort (nodes.Variable (variables.Ty v)) a = refl
kind_sort (nodes.Variable (variables.Const v)) a = refl

same_kind-true : (k j : ParamKind) → same_kind k j ≡ true → k ≡ j
same_kind-true kind.Ty kind.Ty e = refl
same_kind-true kind.Const kind.Const e = refl
same_kind-true kind.Lifetime kind.Lifetime e = refl
same_kind-true kind.Ty kind.Const e = absurd (cc)
same_kind-true kind.Ty kind.Lifetime e = absurd (cc)
same_kind-true kind.Const kind.Ty e = absurd (cc)
same_kind-true kind.Const kind.Lifetime e = absurd (cc)
same_kind-true kind.Lifetime kind.Ty e = absurd (cc)
same_kind-true kind.Lifetime kind.Const e = absurd (cc)

-- putting arguments in place of parameters
chosen_sort : (b : Bool) (d : ℕ) (t u : Tree) (s : Sort) → (b ≡ true → sort_at t ≡ s) → sort_at u ≡ s →
    sort_at (unwrap_or (option_map (shifted d 0) (if b then Some t else None)) u) ≡ s
chosen_sort true d t u s f e = shifting-sorts d 0 t ∙ f refl
chosen_sort false d t u s f e = e

instance_sort : (args : List Tree) → All IsArgument args → (j : ParamKind) (h : Head) (d n : ℕ) → sort_of_head h ≡ sort_of_kind j →
    (k : ℕ) → sort_at (unwrap_or (option_map (shifted d 0) (argument_of args j k)) (leaf h)) ≡ sort_of_kind j
unfolding argument_of
instance_sort [] all j h d n e k = e
instance_sort (t ∷ args) all j h d n e zero =
    chosen_sort (same_kind (kind_of (node_of t)) j) d t (leaf h) (sort_of_kind j)
    (λ same. kind_sort (node_of t) (All-head IsArgument t args all) ∙ ap sort_of_kind (same_kind-true (kind_of (node_of t)) j same)) e
instance_sort (t ∷ args) all j h d n e (suc k) = instance_sort args (All-tail IsArgument t args all) j h d n e k

instantiated_sort : (args : List Tree) → All IsArgument args → (d : ℕ) (h : Head) (ts : Trees) →
    sort_at (folded_node (instantiating args) d h ts) ≡ sort_of_head h
unfolding folded_node
instantiated_sort args all d (head.TyParam n) ts = instance_sort args all kind.Ty (head.TyParam n) d n refl n
instantiated_sort args all d (head.ConstParam n) ts = instance_sort args all kind.Const (head.ConstParam n) d n refl n
instantiated_sort args all d h ts = refl

pub instantiating-sorts : (args : List Tree) → All IsArgument args → KeepsSorts (instantiating args)
unfolding folded
instantiating-sorts args all d (node h ts) = instantiated_sort args all d h (folded_row (instantiating args) (depth_below h d) ts)
instantiating-sorts args all d (alias k ts) = refl
instantiating-sorts args all d (variable v) = refl

-- the parts, rewritten
all_kept : (P : Sort → Type 0) (f : Folding) → KeepsSorts f → (d : ℕ) (ts : List Tree) → All (λ t. P (sort_of (node_of t))) ts →
    All (λ t. P (sort_of (node_of t))) (map (folded f d) ts)
all_kept P f keeps d [] all = All-nil (λ t. P (sort_of (node_of t)))
all_kept P f keeps d (t ∷ ts) all =
    All-cons (λ u. P (sort_of (node_of u))) (folded f d t) (map (folded f d) ts)
    (subst P (sym (keeps d t)) (All-head (λ u. P (sort_of (node_of u))) t ts all))
    (all_kept P f keeps d ts (All-tail (λ u. P (sort_of (node_of u))) t ts all))

sorts_kept : (s : Sort) (f : Folding) → KeepsSorts f → (d n : ℕ) (ts : List Tree) → Are (IsSort s) n ts → Are (IsSort s) n (map (folded f d) ts)
sorts_kept s f keeps d n ts are = (length-map ts (folded f d) ∙ are.0, all_kept (λ r. r ≡ s) f keeps d ts are.1)

all_arguments_kept : (f : Folding) → KeepsSorts f → (d : ℕ) (ts : List Tree) → All IsArgument ts → All IsArgument (map (folded f d) ts)
all_arguments_kept f keeps d ts all = all_kept (λ r. is_argument_sort r ≡ true) f keeps d ts all

arguments_kept : (f : Folding) → KeepsSorts f → (d n : ℕ) (ts : List Tree) → Are IsArgument n ts → Are IsArgument n (map (folded f d) ts)
arguments_kept f keeps d n ts are = (length-map ts (folded f d) ∙ are.0, all_arguments_kept f keeps d ts are.1)

place_kept : (f : Folding) → KeepsSorts f → (d : ℕ) (ts : List Tree) (k : ℕ) → sort_at (tree_in (map (folded f d) ts) k) ≡ sort_at (tree_in ts k)
place_kept f keeps d [] k = refl
place_kept f keeps d (t ∷ ts) zero = keeps d t
place_kept f keeps d (t ∷ ts) (suc k) = place_kept f keeps d ts k

head_fits : (f : Folding) → KeepsSorts f → (d e : ℕ) (h : Head) (ts : List Tree) → HeadFits h ts → HeadFits (folded_head f d h) (map (folded f e) ts)
head_fits f keeps d e (head.Adt i n) ts fits = arguments_kept f keeps e n ts fits
head_fits f keeps d e head.Array ts fits =
    (length-map ts (folded f e) ∙ fits.0, place_kept f keeps e ts 0 ∙ fits.1, place_kept f keeps e ts 1 ∙ fits.2)
head_fits f keeps d e head.Slice ts fits = sorts_kept sorts.Ty f keeps e 1 ts fits
head_fits f keeps d e (head.RawPtr m) ts fits = sorts_kept sorts.Ty f keeps e 1 ts fits
head_fits f keeps d e (head.Ref r m) ts fits = sorts_kept sorts.Ty f keeps e 1 ts fits
head_fits f keeps d e (head.FnDef i n) ts fits = arguments_kept f keeps e n ts fits
head_fits f keeps d e (head.FnPtr b n c) ts fits = sorts_kept sorts.Ty f keeps e _ ts fits
head_fits f keeps d e (head.Closure i n) ts fits = arguments_kept f keeps e n ts fits
head_fits f keeps d e (head.Dynamic n r) ts fits = sorts_kept sorts.Clause f keeps e n ts fits
head_fits f keeps d e (head.Tuple n) ts fits = sorts_kept sorts.Ty f keeps e n ts fits
head_fits f keeps d e (head.DynTrait i n) ts fits = arguments_kept f keeps e n ts fits
head_fits f keeps d e (head.DynProjection i n) ts fits =
    (length-map ts (folded f e) ∙ fits.0, all_arguments_kept f keeps e ts fits.1, ap is_term_sort (place_kept f keeps e ts n) ∙ fits.2)
head_fits f keeps d e (head.Misplaced k) ts fits = all_arguments_kept f keeps e ts fits
head_fits f keeps d e h ts fits = ap (map (folded f e)) fits

pub folded-fits : (f : Folding) → KeepsSorts f → (d e : ℕ) (n : Node) (ts : List Tree) → Fits n ts → Fits (folded_top f d n) (map (folded f e) ts)
unfolding folded_top
folded-fits f keeps d e (nodes.Head h) ts fits = head_fits f keeps d e h ts fits
folded-fits f keeps d e (nodes.Alias k) ts fits = all_arguments_kept f keeps e ts fits
folded-fits f keeps d e (nodes.Variable v) ts fits = ap (map (folded f e)) fits

-- what rewriting makes of a node whose parts are rewritten already
shifting-top : (by d : ℕ) (n : Node) (us : List Tree) → Fits (folded_top (shifting by) d n) us →
    rewritten (shifting by) d n us ≡ tree_with (folded_top (shifting by) d n) us
unfolding folded_top folded_node
shifting-top by d (nodes.Head (head.TyParam n)) us fits = ap (λ vs. node (head.TyParam n) (forest vs)) (sym fits)
shifting-top by d (nodes.Head (head.ConstParam n)) us fits = ap (λ vs. node (head.ConstParam n) (forest vs)) (sym fits)
shifting-top by d (nodes.Head h) us fits = refl
shifting-top by d (nodes.Alias k) us fits = refl
shifting-top by d (nodes.Variable v) us fits = refl

unfilled : (args : List Tree) (o : Option Tree) (d : ℕ) (h : Head) (us : List Tree) → o ≡ None → us ≡ [] →
    unwrap_or (option_map (shifted d 0) o) (leaf h) ≡ node h (forest us)
unfilled args o d h us e f = ap (λ p. unwrap_or (option_map (shifted d 0) p) (leaf h)) e ∙ ap (λ vs. node h (forest vs)) (sym f)

instantiating-top : (args : List Tree) (d : ℕ) (n : Node) (us : List Tree) → argument_for args n ≡ None → Fits (folded_top (instantiating args) d n) us →
    rewritten (instantiating args) d n us ≡ tree_with (folded_top (instantiating args) d n) us
unfolding folded_top folded_node argument_for
instantiating-top args d (nodes.Head (head.TyParam n)) us e fits = unfilled args (argument_of args kind.Ty n) d (head.TyParam n) us e fits
instantiating-top args d (nodes.Head (head.ConstParam n)) us e fits = unfilled args (argument_of args kind.Const n) d (head.ConstParam n) us e fits
instantiating-top args d (nodes.Head h) us e fits = refl
instantiating-top args d (nodes.Alias k) us e fits = refl
instantiating-top args d (nodes.Variable v) us e fits = refl

-- a parameter for which there is an argument
pub instantiated-param : (args : List Tree) (d : ℕ) (t u : Tree) → argument_for args (node_of t) ≡ Some u → folded (instantiating args) d t ≡ shifted d 0 u
unfolding folded folded_node argument_for
instantiated-param args d (node (head.TyParam n) ts) u e = ap (λ o. unwrap_or (option_map (shifted d 0) o) (leaf (head.TyParam n))) e
instantiated-param args d (node (head.ConstParam n) ts) u e = ap (λ o. unwrap_or (option_map (shifted d 0) o) (leaf (head.ConstParam n))) e
instantiated-param args d (node h ts) u e = absurd (cc)
instantiated-param args d (alias k ts) u e = absurd (cc)
instantiated-param args d (variable v) u e = absurd (cc)

-- a node fits its parts after rewriting
pub made-fits : (f : Folding) → KeepsSorts f → (d e : ℕ) (n m : Node) (ps us : List Tree) → Fits n ps → m ≡ folded_top f d n →
    us ≡ map (folded f e) ps → Fits m us
made-fits f keeps d e n m ps us fits top parts =
    subst (λ x. Fits x us) (sym top) (subst (Fits (folded_top f d n)) (sym parts) (folded-fits f keeps d e n ps fits))

-- a term is rewritten by its top and its parts
made_tree : (f : Folding) → KeepsSorts f → (d e : ℕ) (t : Tree) (n m : Node) (us : List Tree) →
    ((vs : List Tree) → Fits (folded_top f d n) vs → rewritten f d n vs ≡ tree_with (folded_top f d n) vs) →
    n ≡ node_of t → Fits n (parts_of t) → e ≡ depth_of_parts n d → m ≡ folded_top f d n → us ≡ map (folded f e) (parts_of t) →
    tree_with m us ≡ folded f d t
made_tree f keeps d e t n m us top node_is fits depth top_is parts =
    let vs : List Tree = map (folded f e) (parts_of t) in
    ap (λ x. tree_with x us) top_is ∙ ap (tree_with (folded_top f d n)) parts
    ∙ sym (top vs (folded-fits f keeps d e n (parts_of t) fits))
    ∙ ap (λ k. rewritten f d n (map (folded f k) (parts_of t))) depth
    ∙ ap (λ x. rewritten f d x (map (folded f (depth_of_parts x d)) (parts_of t))) node_is
    ∙ sym (folded-walk f d t)

pub shifted-made : (by d e : ℕ) (t : Tree) (n m : Node) (us : List Tree) → n ≡ node_of t → Fits n (parts_of t) → e ≡ depth_of_parts n d →
    m ≡ folded_top (shifting by) d n → us ≡ map (folded (shifting by) e) (parts_of t) → tree_with m us ≡ shifted by d t
shifted-made by d e t n m us node_is fits depth top parts =
    made_tree (shifting by) (shifting-sorts by) d e t n m us (shifting-top by d n) node_is fits depth top parts

pub instantiated-made : (args : List Tree) → All IsArgument args → (d e : ℕ) (t : Tree) (n m : Node) (us : List Tree) → argument_for args n ≡ None →
    n ≡ node_of t → Fits n (parts_of t) → e ≡ depth_of_parts n d → m ≡ folded_top (instantiating args) d n →
    us ≡ map (folded (instantiating args) e) (parts_of t) → tree_with m us ≡ folded (instantiating args) d t
instantiated-made args all d e t n m us unfilled node_is fits depth top parts =
    made_tree (instantiating args) (instantiating-sorts args all) d e t n m us (λ vs. instantiating-top args d n vs unfilled) node_is fits depth top parts

-- an argument by its number
module _ (g : TermId → Tree) where
  argument_at : (ids : List TermId) (j : ParamKind) (n : ℕ) (z : TermId) → n < length ids →
      argument_of (map g ids) j n ≡ (if same_kind (kind_of (node_of (g (get_or ids n z)))) j then Some (g (get_or ids n z)) else None)
  unfolding argument_of
  argument_at [] j n z l = absurd (omega arith)
  argument_at (id ∷ ids) j zero z l = refl
  argument_at (id ∷ ids) j (suc n) z l = argument_at ids j n z (omega arith)

  pub argument-none : (ids : List TermId) (j : ParamKind) (n : ℕ) → length ids ≤ n → None ≡ argument_of (map g ids) j n
  unfolding argument_of
  argument-none [] j n l = refl
  argument-none (id ∷ ids) j zero l = absurd (omega arith)
  argument-none (id ∷ ids) j (suc n) l = argument-none ids j n (omega arith)

  pub argument-found : (ids : List TermId) (j : ParamKind) (n : ℕ) (z : TermId) (b : Bool) (k : ParamKind) (x : Node) → n < length ids →
      b ≡ same_kind k j → k ≡ kind_of x → x ≡ node_of (g (get_or ids n z)) → b ≡ true → Some (g (get_or ids n z)) ≡ argument_of (map g ids) j n
  argument-found ids j n z b k x l same kind_is top e =
      let t : Tree = g (get_or ids n z) in
      sym (argument_at ids j n z l
      ∙ ap (λ c. if c then Some t else None) (sym (same ∙ ap (λ i. same_kind i j) (kind_is ∙ ap kind_of top)) ∙ e))

  pub argument-other : (ids : List TermId) (j : ParamKind) (n : ℕ) (z : TermId) (b : Bool) (k : ParamKind) (x : Node) → n < length ids →
      b ≡ same_kind k j → k ≡ kind_of x → x ≡ node_of (g (get_or ids n z)) → b ≡ false → None ≡ argument_of (map g ids) j n
  argument-other ids j n z b k x l same kind_is top e =
      let t : Tree = g (get_or ids n z) in
      sym (argument_at ids j n z l
      ∙ ap (λ c. if c then Some t else None) (sym (same ∙ ap (λ i. same_kind i j) (kind_is ∙ ap kind_of top)) ∙ e))

-- a table that has grown
pub trees-same : (old new : List Tree) (ids : List TermId) → Keeps old new → AreBelow (length old) ids → map (tree_at new) ids ≡ map (tree_at old) ids
trees-same old new [] keeps below = refl
trees-same old new (id ∷ ids) keeps below =
    ap (λ t. t ∷ map (tree_at new) ids) (keeps.same id (All-head (λ i. i.0 < length old) id ids below))
    ∙ ap (λ ts. tree_at old id ∷ ts) (trees-same old new ids keeps (All-tail (λ i. i.0 < length old) id ids below))

pub below-longer : (old new : List Tree) (ids : List TermId) → Keeps old new → AreBelow (length old) ids → AreBelow (length new) ids
below-longer old new ids keeps below =
    let longer : length old ≤ length new = keeps.longer in
    All-weaker (λ i. i.0 < length old) (λ i. i.0 < length new) (λ i h. omega arith) ids below

pub count-parts : (ts : List Tree) (ids : List TermId) (ps : List Tree) → map (tree_at ts) ids ≡ ps → length ps ≡ length ids
count-parts ts ids ps e = ap length (sym e) ∙ length-map ids (tree_at ts)

-- a part of a term, read from a table that has grown
pub part-read : (g : Tree → Tree) (t u p : Tree) (k : ℕ) → u ≡ t → k < length (parts_of t) → p ≡ part_at u k → slice_get (map g (parts_of t)) k ≡ Some (g p)
part-read g t u p k same l e =
    slice_get-map g (parts_of t) k ∙ ap (option_map g) (slice_get-get_or (parts_of t) k (leaf head.Bool) l)
    ∙ ap (λ x. Some (g x)) (sym (e ∙ ap (λ x. part_at x k) same))

pub part-seen : (g : Tree → Tree) (ts : List Tree) (p : Tree) (k : ℕ) → slice_get ts k ≡ Some p → slice_get (map g ts) k ≡ Some (g p)
part-seen g ts p k e = slice_get-map g ts k ∙ ap (option_map g) e

-- all parts of a term are rewritten
pub all-rewritten : (g : Tree → Tree) (us ts ps : List Tree) (i : ℕ) → us ≡ take i (map g ts) → length ts ≤ i → ts ≡ ps → us ≡ map g ps
all-rewritten g us ts ps i e l f =
    e ∙ take_all i (map g ts) (omega (arith, length-map ts g)) ∙ ap (map g) f

-- a node that fits the parts of its term
pub node-fits : (t : Tree) (n : Node) → n ≡ node_of t → IsFit t → Fits n (parts_of t)
unfolding IsFit
node-fits t n e fit = subst (λ x. Fits x (parts_of t)) (sym e) fit

-- a type is an argument
pub type-argument : (t : Tree) (u : Ty) → t ≡ tree_of_ty u → All IsArgument (t ∷ [])
type-argument t u e =
    All-cons IsArgument t [] (ap (λ x. is_argument_sort (sort_at x)) e ∙ ap is_argument_sort (ty_sort u)) (All-nil IsArgument)
