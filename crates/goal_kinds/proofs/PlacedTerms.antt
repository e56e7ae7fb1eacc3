-- Terms in which each alias is of the kind of its row, and each part of the sort of its place.
use Rattle.std.proofs.Common.{◌≡◌, ℕ, zero, suc, Bool, true, false, List, [], ◌∷◌, ◌++◌, take, drop, Option, Some, None, refl, ap, ◌∙◌}
use Rattle.std.specs.Prelude.{slice_get, if◌then◌else◌}
use Rattle.std.specs.Option.{option_map, option_and_then, unwrap_or}
use Rattle.std.proofs.lemmas.Bool.{false≢true}
use Rattle.goal_terms.specs.Erased.{erased, erased_row, erased_head}
use Rattle.goal_terms.specs.Folding.{Folding, depth_below, folded_node, folded, folded_row, shifting, shifted, argument_of, instance_of, instance, instantiating}
use Rattle.goal_terms.specs.Kinds.{same_kind, kind_of, kind_of_head, kind_of_alias}
use Rattle.goal_terms.specs.Sorts.{sort_of, sort_of_head, is_argument_sort}
use Rattle.goal_terms.specs.Tree.{Tree, Trees, node, alias, variable, none, more, node_of, forest, list_of}
use Rattle.goal_terms.specs.TreeOf.{leaf, is_type_kind}
use Rattle.goal_terms.specs.declared.answers.ParamKind.{ParamKind}
use Rattle.goal_terms.specs.declared.answers.ParamKind.TheVariants as kind
use Rattle.goal_terms.specs.declared.heads.Head.{Head}
use Rattle.goal_terms.specs.declared.heads.Head.TheVariants as head
use Rattle.goal_terms.specs.declared.heads.Node.TheVariants as nodes
use Rattle.goal_terms.specs.declared.heads.Variable.TheVariants as variables
use Rattle.goal_terms.specs.declared.sorts.Sort.{Sort}
use Rattle.goal_terms.specs.declared.sorts.Sort.TheVariants as sorts
use Rattle.goal_terms.specs.declared.terms.AliasTermKind.{AliasTermKind}
use Rattle.goal_tables.specs.Rows.{item_of}
use Rattle.goal_tables.specs.Sites.{kind_of_row, is_of_other_kind}
use Rattle.goal_tables.specs.declared.rows.ItemRow.{ItemRow}
use Rattle.goal_tables.specs.declared.rows.Tables.{Tables}
use Rattle.goal_lists.specs.Candidates.{last_of}
use Rattle.goal_lists.specs.Headers.{under}
use Rattle.goal_lists.specs.Words.{Each}
use Rattle.goal_lists.proofs.KindOfTermLemmas.{kind_of_term, same_kind-true}

-- the sort of a term
abbrev pub sort_at : Tree → Sort
sort_at u = sort_of (node_of u)

-- the sort of a row's value, by whether that is a constant
abbrev pub sort_of_value : Bool → Sort
sort_of_value is_const = if is_const then sorts.Const else sorts.Ty

-- whether a sort is that of types, or that of clauses of `dyn` types
abbrev pub is_type_sort : Sort → Bool
is_type_sort sorts.Ty = true
is_type_sort sorts.Const = false
is_type_sort sorts.Lifetime = false
is_type_sort sorts.Clause = false

abbrev pub is_clause_sort : Sort → Bool
is_clause_sort sorts.Ty = false
is_clause_sort sorts.Const = false
is_clause_sort sorts.Lifetime = false
is_clause_sort sorts.Clause = true

-- the sorts of which a constructor has parts: clauses, types, or any but clauses
unfoldable pub takes : Head → Sort → Bool
takes (head.Dynamic n r) = is_clause_sort
takes (head.FnPtr b n q) = is_type_sort
takes h = is_argument_sort

-- the last term of a row, if there is one, is of a sort
unfoldable pub EndsAs : Sort → Trees → Type 0
EndsAs s none = Unit {0}
EndsAs s (more u none) = sort_at u ≡ s
EndsAs s (more u (more v vs)) = EndsAs s (more v vs)

-- a clause of a `dyn` type that names an item ends in a term of the item's sort
unfoldable pub EndsAsSaid : Tables → Head → Trees → Type 0
EndsAsSaid t (head.DynProjection i n) ts = (r : ItemRow) → item_of t i ≡ Some r → EndsAs (sort_of_value r.is_const) ts
EndsAsSaid t h ts = Unit {0}

-- an alias is of the kind of its row
abbrev pub AliasIsPlaced : Tables → AliasTermKind → Type 0
AliasIsPlaced t k = is_of_other_kind (kind_of_row t k) (kind_of_alias k) ≡ false

-- each alias in a term is of the kind of its row, and each part of a sort that its place takes
unfoldable mutual
  pub IsPlaced : Tables → Tree → Type 0
  IsPlaced t (node h ts) = EndsAsSaid t h ts × RowIsPlaced t (takes h) ts
  IsPlaced t (alias k ts) = AliasIsPlaced t k × RowIsPlaced t is_argument_sort ts
  IsPlaced t (variable v) = Unit {0}

  pub RowIsPlaced : Tables → (Sort → Bool) → Trees → Type 0
  RowIsPlaced t test none = Unit {0}
  RowIsPlaced t test (more u us) = ((test (sort_at u) ≡ true) × IsPlaced t u) × RowIsPlaced t test us

-- such a term of a sort that passes a test, or of a given sort
abbrev pub IsPlacedIn : Tables → (Sort → Bool) → Tree → Type 0
IsPlacedIn t test u = (test (sort_at u) ≡ true) × IsPlaced t u

abbrev pub IsPlacedAs : Tables → Sort → Tree → Type 0
IsPlacedAs t s u = (sort_at u ≡ s) × IsPlaced t u

-- such a term that may be an argument, and a list of such
abbrev pub IsPlacedArgument : Tables → Tree → Type 0
IsPlacedArgument t u = IsPlacedIn t is_argument_sort u

abbrev pub ArePlaced : Tables → List Tree → Type 0
ArePlaced t ts = Each (IsPlacedArgument t) ts

-- one that may be there
abbrev pub Holds : (Tree → Type 0) → Option Tree → Type 0
Holds P None = Unit {0}
Holds P (Some u) = P u

-- a row, as a list, and a list, as a row
pub placed-list : (t : Tables) (test : Sort → Bool) (ts : Trees) → RowIsPlaced t test ts → Each (IsPlacedIn t test) (list_of ts)
unfolding Each IsPlaced
placed-list t test none e = tt
placed-list t test (more u us) e = (e.0, placed-list t test us e.1)

pub placed-forest : (t : Tables) (test : Sort → Bool) (ts : List Tree) → Each (IsPlacedIn t test) ts → RowIsPlaced t test (forest ts)
unfolding Each IsPlaced
placed-forest t test [] all = tt
placed-forest t test (u ∷ us) all = (all.0, placed-forest t test us all.1)

-- an alias of its row's kind
pub placed-alias : (t : Tables) (k : AliasTermKind) (ts : List Tree) → AliasIsPlaced t k → ArePlaced t ts → IsPlaced t (alias k (forest ts))
unfolding IsPlaced
placed-alias t k ts e all = (e, placed-forest t is_argument_sort ts all)

-- lists in a row, and parts of a list
pub placed-append : (t : Tables) (ts us : List Tree) → ArePlaced t ts → ArePlaced t us → ArePlaced t (ts ++ us)
unfolding Each
placed-append t [] us all others = others
placed-append t (u ∷ ts) us all others = (all.0, placed-append t ts us all.1 others)

pub placed-take : (t : Tables) (n : ℕ) (ts : List Tree) → ArePlaced t ts → ArePlaced t (take n ts)
unfolding Each
placed-take t zero ts all = tt
placed-take t (suc n) [] all = tt
placed-take t (suc n) (u ∷ ts) all = (all.0, placed-take t n ts all.1)

pub placed-drop : (t : Tables) (n : ℕ) (ts : List Tree) → ArePlaced t ts → ArePlaced t (drop n ts)
unfolding Each
placed-drop t zero ts all = all
placed-drop t (suc n) [] all = tt
placed-drop t (suc n) (u ∷ ts) all = placed-drop t n ts all.1

-- the last term of a list has what each has
pub placed-last : (P : Tree → Type 0) (ts : List Tree) → Each P ts → Holds P (last_of ts)
unfolding Each last_of
placed-last P [] all = tt
placed-last P (u ∷ []) all = all.0
placed-last P (u ∷ v ∷ vs) all = placed-last P (v ∷ vs) all.1

placed-got : (P : Tree → Type 0) (ts : List Tree) (n : ℕ) → Each P ts → Holds P (slice_get ts n)
unfolding Each
placed-got P [] n all = tt
placed-got P (u ∷ ts) zero all = all.0
placed-got P (u ∷ ts) (suc n) all = placed-got P ts n all.1

-- an alias may be an argument
argument-either : (b : Bool) → is_argument_sort (if b then sorts.Ty else sorts.Const) ≡ true
argument-either true = refl
argument-either false = refl

pub argument-alias : (k : AliasTermKind) → is_argument_sort (sort_of (nodes.Alias k)) ≡ true
argument-alias k = argument-either (is_type_kind k)

-- a constructor without its lifetimes is of its sort, and takes the same
sort_of_head-erased : (h : Head) → sort_of_head (erased_head h) ≡ sort_of_head h
sort_of_head-erased (head.Ref r m) = refl
sort_of_head-erased (head.FnPtr b n q) = refl
sort_of_head-erased (head.Dynamic n r) = refl
sort_of_head-erased (head.Lifetime r) = refl
sort_of_head-erased h = refl

takes-erased : (h : Head) (s : Sort) → takes (erased_head h) s ≡ takes h s
unfolding takes
takes-erased (head.Ref r m) s = refl
takes-erased (head.FnPtr b n q) s = refl
takes-erased (head.Dynamic n r) s = refl
takes-erased (head.Lifetime r) s = refl
takes-erased h s = refl

pub sort-erased : (u : Tree) → sort_at (erased u) ≡ sort_at u
unfolding erased
sort-erased (node h ts) = sort_of_head-erased h
sort-erased (alias k ts) = refl
sort-erased (variable v) = refl

ends-erased : (s : Sort) (ts : Trees) → EndsAs s ts → EndsAs s (erased_row ts)
unfolding EndsAs erased
ends-erased s none e = tt
ends-erased s (more u none) e = sort-erased u ∙ e
ends-erased s (more u (more v vs)) e = ends-erased s (more v vs) e

said-erased : (t : Tables) (h : Head) (ts : Trees) → EndsAsSaid t h ts → EndsAsSaid t (erased_head h) (erased_row ts)
unfolding EndsAsSaid
said-erased t (head.DynProjection i n) ts e = λ r found. ends-erased (sort_of_value r.is_const) ts (e r found)
said-erased t (head.Ref r m) ts e = tt
said-erased t (head.FnPtr b n q) ts e = tt
said-erased t (head.Dynamic n r) ts e = tt
said-erased t (head.Lifetime r) ts e = tt
said-erased t h ts e = e

mutual
  unfolding erased IsPlaced

  -- a term without its lifetimes
  pub placed-erased : (t : Tables) (u : Tree) → IsPlaced t u → IsPlaced t (erased u)
  placed-erased t (node h ts) e = (said-erased t h ts e.0, placed-erased_row t (takes h) (takes (erased_head h)) (takes-erased h) ts e.1)
  placed-erased t (alias k ts) e = (e.0, placed-erased_row t is_argument_sort is_argument_sort (λ s. refl) ts e.1)
  placed-erased t (variable v) e = tt

  placed-erased_row : (t : Tables) (a b : Sort → Bool) → ((s : Sort) → b s ≡ a s) → (ts : Trees) → RowIsPlaced t a ts → RowIsPlaced t b (erased_row ts)
  placed-erased_row t a b same none e = tt
  placed-erased_row t a b same (more u us) e =
      ((ap b (sort-erased u) ∙ same (sort_at u) ∙ e.0.0, placed-erased t u e.0.1), placed-erased_row t a b same us e.1)

-- a rewriting puts types in place of type parameters, and constants in place of const parameters
abbrev PutsPlaced : Tables → Folding → Type 0
PutsPlaced t f = (d n : ℕ) → IsPlacedAs t sorts.Ty (f.ty_param d n) × IsPlacedAs t sorts.Const (f.const_param d n)

-- a rewritten constructor is of its sort
sort-folded_node : (t : Tables) (f : Folding) → PutsPlaced t f → (d : ℕ) (h : Head) (ts : Trees) → sort_at (folded_node f d h ts) ≡ sort_of_head h
unfolding folded_node
sort-folded_node t f puts d (head.TyParam n) ts = (puts d n).0.0
sort-folded_node t f puts d (head.ConstParam n) ts = (puts d n).1.0
sort-folded_node t f puts d (head.Ref r m) ts = refl
sort-folded_node t f puts d (head.Dynamic n r) ts = refl
sort-folded_node t f puts d (head.Lifetime r) ts = refl
sort-folded_node t f puts d h ts = refl

-- and so is a term
sort-folded : (t : Tables) (f : Folding) → PutsPlaced t f → (d : ℕ) (u : Tree) → sort_at (folded f d u) ≡ sort_at u
unfolding folded
sort-folded t f puts d (node h ts) = sort-folded_node t f puts d h (folded_row f (depth_below h d) ts)
sort-folded t f puts d (alias k ts) = refl
sort-folded t f puts d (variable v) = refl

ends-folded : (t : Tables) (f : Folding) → PutsPlaced t f → (d : ℕ) (s : Sort) (ts : Trees) → EndsAs s ts → EndsAs s (folded_row f d ts)
unfolding EndsAs folded
ends-folded t f puts d s none e = tt
ends-folded t f puts d s (more u none) e = sort-folded t f puts d u ∙ e
ends-folded t f puts d s (more u (more v vs)) e = ends-folded t f puts d s (more v vs) e

-- a rewritten constructor whose parts are rewritten already
placed-folded_node : (t : Tables) (f : Folding) → PutsPlaced t f → (d b : ℕ) (h : Head) (ts : Trees) → EndsAsSaid t h ts →
    RowIsPlaced t (takes h) (folded_row f b ts) → IsPlaced t (folded_node f d h (folded_row f b ts))
unfolding folded_node IsPlaced EndsAsSaid takes
placed-folded_node t f puts d b (head.TyParam n) ts e row = (puts d n).0.1
placed-folded_node t f puts d b (head.ConstParam n) ts e row = (puts d n).1.1
placed-folded_node t f puts d b (head.DynProjection i n) ts e row = (λ r found. ends-folded t f puts b (sort_of_value r.is_const) ts (e r found), row)
placed-folded_node t f puts d b (head.Ref r m) ts e row = (tt, row)
placed-folded_node t f puts d b (head.Dynamic n r) ts e row = (tt, row)
placed-folded_node t f puts d b (head.Lifetime r) ts e row = (tt, row)
placed-folded_node t f puts d b h ts e row = (e, row)

mutual
  unfolding folded IsPlaced

  -- a rewritten term
  placed-folded : (t : Tables) (f : Folding) → PutsPlaced t f → (d : ℕ) (u : Tree) → IsPlaced t u → IsPlaced t (folded f d u)
  placed-folded t f puts d (node h ts) e =
      placed-folded_node t f puts d (depth_below h d) h ts e.0 (placed-folded_row t f puts (depth_below h d) (takes h) ts e.1)
  placed-folded t f puts d (alias k ts) e = (e.0, placed-folded_row t f puts d is_argument_sort ts e.1)
  placed-folded t f puts d (variable v) e = e

  placed-folded_row : (t : Tables) (f : Folding) → PutsPlaced t f → (d : ℕ) (test : Sort → Bool) (ts : Trees) → RowIsPlaced t test ts →
      RowIsPlaced t test (folded_row f d ts)
  placed-folded_row t f puts d test none e = e
  placed-folded_row t f puts d test (more u us) e =
      ((ap test (sort-folded t f puts d u) ∙ e.0.0, placed-folded t f puts d u e.0.1), placed-folded_row t f puts d test us e.1)

-- a term whose lifetimes are moved
placed-shifting : (t : Tables) (b : ℕ) → PutsPlaced t (shifting b)
unfolding IsPlaced EndsAsSaid takes
placed-shifting t b d n = ((refl, (tt, tt)), (refl, (tt, tt)))

placed-shifted : (t : Tables) (b d : ℕ) (s : Sort) (u : Tree) → IsPlacedAs t s u → IsPlacedAs t s (shifted b d u)
placed-shifted t b d s u e = (sort-folded t (shifting b) (placed-shifting t b) d u ∙ e.0, placed-folded t (shifting b) (placed-shifting t b) d u e.1)

-- an argument of a kind is of that sort
abbrev pub sort_of_kind : ParamKind → Sort
sort_of_kind kind.Ty = sorts.Ty
sort_of_kind kind.Const = sorts.Const
sort_of_kind kind.Lifetime = sorts.Lifetime

either_sort : (b : Bool) → (if b then sorts.Ty else sorts.Const) ≡ sort_of_kind (if b then kind.Ty else kind.Const)
either_sort true = refl
either_sort false = refl

other_sort : (b : Bool) → (if b then sorts.Const else sorts.Ty) ≡ sort_of_kind (if b then kind.Const else kind.Ty)
other_sort true = refl
other_sort false = refl

sort_of_head-kind : (h : Head) → is_argument_sort (sort_of_head h) ≡ true → sort_of_head h ≡ sort_of_kind (kind_of_head h)
unfolding kind_of_head
sort_of_head-kind (head.Value n) e = refl
sort_of_head-kind (head.ConstParam n) e = refl
sort_of_head-kind (head.ConstPlaceholder n) e = refl
sort_of_head-kind (head.ConstError n) e = refl
sort_of_head-kind (head.Lifetime r) e = refl
sort_of_head-kind (head.DynTrait i n) e = absurd (false≢true e)
sort_of_head-kind (head.DynProjection i n) e = absurd (false≢true e)
sort_of_head-kind (head.Misplaced k) e = other_sort (is_type_kind k)
sort_of_head-kind h e = refl

sort_at-kind : (u : Tree) → is_argument_sort (sort_at u) ≡ true → sort_at u ≡ sort_of_kind (kind_of_term u)
unfolding kind_of
sort_at-kind (node h ts) e = sort_of_head-kind h e
sort_at-kind (alias k ts) e = either_sort (is_type_kind k)
sort_at-kind (variable (variables.Ty v)) e = refl
sort_at-kind (variable (variables.Const n)) e = refl

pub sort-by_kind : (u : Tree) (k : ParamKind) → is_argument_sort (sort_at u) ≡ true → kind_of_term u ≡ k → sort_at u ≡ sort_of_kind k
sort-by_kind u k e f = sort_at-kind u e ∙ ap sort_of_kind f

-- what stands for a parameter is of its sort
placed-kept : (t : Tables) (s : Sort) (b : Bool) (u : Tree) → (b ≡ true → sort_at u ≡ s) → IsPlaced t u →
    Holds (IsPlacedAs t s) (if b then Some u else None)
placed-kept t s true u f e = (f refl, e)
placed-kept t s false u f e = tt

placed-of_kind : (t : Tables) (o : Option Tree) (k : ParamKind) → Holds (IsPlacedArgument t) o →
    Holds (IsPlacedAs t (sort_of_kind k)) (option_and_then (λ u. if same_kind (kind_of (node_of u)) k then Some u else None) o)
placed-of_kind t None k e = tt
placed-of_kind t (Some u) k e =
    placed-kept t (sort_of_kind k) (same_kind (kind_of (node_of u)) k) u (λ f. sort-by_kind u k e.0 (same_kind-true (kind_of_term u) k f)) e.1

placed-standing : (t : Tables) (s : Sort) (o : Option Tree) (h : Head) (d : ℕ) → IsPlacedAs t s (leaf h) → Holds (IsPlacedAs t s) o →
    IsPlacedAs t s (unwrap_or (option_map (shifted d 0) o) (leaf h))
placed-standing t s None h d own e = own
placed-standing t s (Some u) h d own e = placed-shifted t d 0 s u e

placed-instance_of : (t : Tables) (args : List Tree) → ArePlaced t args → (k : ParamKind) (h : Head) (d n : ℕ) → IsPlacedAs t (sort_of_kind k) (leaf h) →
    IsPlacedAs t (sort_of_kind k) (instance_of args k h d n)
unfolding argument_of
placed-instance_of t args all k h d n own =
    placed-standing t (sort_of_kind k) (option_and_then (λ u. if same_kind (kind_of (node_of u)) k then Some u else None) (slice_get args n)) h d own
    (placed-of_kind t (slice_get args n) k (placed-got (IsPlacedArgument t) args n all))

placed-instantiating : (t : Tables) (args : List Tree) → ArePlaced t args → PutsPlaced t (instantiating args)
unfolding IsPlaced EndsAsSaid
placed-instantiating t args all d n = (
  placed-instance_of t args all kind.Ty (head.TyParam n) d n (refl, (tt, tt)),
  placed-instance_of t args all kind.Const (head.ConstParam n) d n (refl, (tt, tt)),
)

-- a row's term under arguments stays of its sort
pub placed-under : (t : Tables) (args : List Tree) → ArePlaced t args → (u : Tree) → IsPlaced t u → IsPlacedAs t (sort_at u) (under args u)
placed-under t args all u e =
    let puts : PutsPlaced t (instantiating args) = placed-instantiating t args all in (
      sort-erased (instance args u) ∙ sort-folded t (instantiating args) puts 0 u,
      placed-erased t (instance args u) (placed-folded t (instantiating args) puts 0 u e),
    )

-- and so does one of a given sort
pub placed-under_as : (t : Tables) (args : List Tree) → ArePlaced t args → (s : Sort) (u : Tree) → IsPlacedAs t s u → IsPlacedAs t s (under args u)
placed-under_as t args all s u e = let x : IsPlacedAs t (sort_at u) (under args u) = placed-under t args all u e.1 in (x.0 ∙ e.0, x.1)

-- an argument stays one without its lifetimes
pub placed-erased_argument : (t : Tables) (u : Tree) → IsPlacedArgument t u → IsPlacedArgument t (erased u)
placed-erased_argument t u e = (ap is_argument_sort (sort-erased u) ∙ e.0, placed-erased t u e.1)

-- a type may be an argument
pub placed-type : (t : Tables) (u : Tree) → IsPlacedAs t sorts.Ty u → IsPlacedArgument t u
placed-type t u e = (ap is_argument_sort e.0, e.1)
