-- Rewriting of terms.
use Rattle.std.specs.Prelude.{◌≡◌, ℕ, ◌+◌, min, Bool, true, false, ◌==◌, nat_lt, List, [], ◌∷◌, slice_get, Option, Some, None, if◌then◌else◌}
use Rattle.std.proofs.Common.{refl}
use Rattle.std.specs.List.{find}
use Rattle.std.specs.Option.{option_map, option_and_then, unwrap_or}
use Rattle.goal_terms.specs.Kinds.{same_kind, kind_of, kind_of_head}
use Rattle.goal_terms.specs.Tree.{Tree, Trees, node, alias, variable, none, more, node_of}
use Rattle.goal_terms.specs.TreeOf.{leaf}
use Rattle.goal_terms.specs.declared.answers.ParamKind.{ParamKind}
use Rattle.goal_terms.specs.declared.answers.ParamKind.TheVariants as kind
use Rattle.goal_terms.specs.declared.heads.Head.{Head}
use Rattle.goal_terms.specs.declared.heads.Head.TheVariants.{Ref, FnPtr, Dynamic, TyParam, ConstParam, Lifetime, DynTrait, DynProjection}
use Rattle.goal_terms.specs.declared.terms.Region.{Region}
use Rattle.goal_terms.specs.declared.terms.Region.TheVariants as regions

-- what a rewriting puts in place of the lifetimes and parameters of a term, each below a number of binders
pub record Folding : Type 0 where
  pub region : ℕ → Region → Region
  pub ty_param : ℕ → ℕ → Tree
  pub const_param : ℕ → ℕ → Tree

-- a number of binders, raised; at the largest `u32` it stays. Raised by nothing it is itself
abbrev pub raised : ℕ → ℕ → ℕ
raised n by = if by == 0 then n else min (n + by) 4294967295

-- whether a constructor is a binder, so that its parts stand below it: pointers to functions, and clauses of `dyn` types
abbrev pub binds : Head → Bool
binds (FnPtr bound inputs fn_traits) = true
binds (DynTrait i n) = true
binds (DynProjection i n) = true
binds _ = false

-- the number of binders above the parts, from that above the whole
unfoldable pub depth_below : Head → ℕ → ℕ
depth_below h d = if binds h then raised d 1 else d

-- a constructor with the lifetime that it names itself rewritten, below a number of binders
abbrev pub folded_head : Folding → ℕ → Head → Head
folded_head f d (Ref r m) = Ref (f.region d r) m
folded_head f d (Dynamic n r) = Dynamic n (f.region d r)
folded_head f d (Lifetime r) = Lifetime (f.region d r)
folded_head f d h = h

-- what becomes of a constructor whose parts are rewritten already
unfoldable pub folded_node : Folding → ℕ → Head → Trees → Tree
folded_node f d (TyParam n) ts = f.ty_param d n
folded_node f d (ConstParam n) ts = f.const_param d n
folded_node f d h ts = node (folded_head f d h) ts

-- a term, rewritten below a number of binders
unfoldable mutual
  pub folded : Folding → ℕ → Tree → Tree
  folded f d (node h ts) = folded_node f d h (folded_row f (depth_below h d) ts)
  folded f d (alias k ts) = alias k (folded_row f d ts)
  folded f d (variable v) = variable v

  pub folded_row : Folding → ℕ → Trees → Trees
  folded_row f d none = none
  folded_row f d (more t ts) = more (folded f d t) (folded_row f d ts)

-- a lifetime, which names a binder `by` further out if the one that it names is outside of the innermost `d`
unfoldable pub shifted_region : ℕ → ℕ → Region → Region
shifted_region by d (regions.Bound b k) = if nat_lt b d then regions.Bound b k else regions.Bound (raised b by) k
shifted_region by d r = r

-- lets each lifetime that is bound outside of a term name a binder `by` further out
abbrev pub shifting : ℕ → Folding
shifting by = record { region = shifted_region by; ty_param = λ d n. leaf (TyParam n); const_param = λ d n. leaf (ConstParam n) }

-- a term that is put below `by` more binders, as a part that stands below `d` binders of the whole
abbrev pub shifted : ℕ → ℕ → Tree → Tree
shifted by d t = folded (shifting by) d t

-- for the examples: `fn() -> t`, and `dyn 'b`, where `'b` is lifetime 0 of the binder `b` levels out
abbrev pointer_to : Tree → Tree
pointer_to t = node (FnPtr 1 0 false) (more t none)

abbrev bounded_by : ℕ → Tree
bounded_by b = node (Dynamic 0 (regions.Bound b 0)) none

-- a lifetime of the pointer's own stays
shifted-own : shifted 2 0 (pointer_to (bounded_by 0)) ≡ pointer_to (bounded_by 0)
unfolding folded folded_node depth_below shifted_region
shifted-own = refl

-- one from outside of the pointer moves
shifted-outside : shifted 2 0 (pointer_to (bounded_by 1)) ≡ pointer_to (bounded_by 3)
unfolding folded folded_node depth_below shifted_region
shifted-outside = refl

-- the argument at a place, if it is of a kind
unfoldable pub argument_of : List Tree → ParamKind → ℕ → Option Tree
argument_of args k n = option_and_then (λ t. if same_kind (kind_of (node_of t)) k then Some t else None) (slice_get args n)

-- the lifetime that an argument is
abbrev pub lifetime_of : Tree → Option Region
lifetime_of (node (Lifetime r) ts) = Some r
lifetime_of _ = None

-- what stands for a parameter below a number of binders: its argument, or the parameter if there is none of its kind
abbrev pub instance_of : List Tree → ParamKind → Head → ℕ → ℕ → Tree
instance_of args k h d n = unwrap_or (option_map (shifted d 0) (argument_of args k n)) (leaf h)

-- what stands for a lifetime below a number of binders: for a parameter its argument, likewise
unfoldable pub region_instance : List Tree → ℕ → Region → Region
region_instance args d (regions.Param n) =
    unwrap_or (option_map (shifted_region d 0) (option_and_then lifetime_of (argument_of args kind.Lifetime n))) (regions.Param n)
region_instance args d r = r

-- puts arguments in place of parameters
abbrev pub instantiating : List Tree → Folding
instantiating args = record {
  region = region_instance args;
  ty_param = λ d n. instance_of args kind.Ty (TyParam n) d n;
  const_param = λ d n. instance_of args kind.Const (ConstParam n) d n;
}

-- a term with arguments in place of its parameters
abbrev pub instance : List Tree → Tree → Tree
instance args t = folded (instantiating args) 0 t

-- the argument comes to stand below the pointer's binder
instance-below_binder : instance (bounded_by 0 ∷ []) (pointer_to (leaf (TyParam 0))) ≡ pointer_to (bounded_by 1)
unfolding folded folded_node depth_below shifted_region argument_of kind_of kind_of_head
instance-below_binder = refl

-- a lifetime doesn't stand for a type
instance-other_kind : instance (leaf (Lifetime regions.Static) ∷ []) (leaf (TyParam 0)) ≡ leaf (TyParam 0)
unfolding folded folded_node depth_below argument_of kind_of kind_of_head
instance-other_kind = refl

-- the first lifetime with a number
unfoldable pub first_region : List (ℕ × Region) → ℕ → Option Region
first_region by_number k = option_map (λ p. p.1) (find (λ p. p.0 == k) by_number)

-- what stands for a lifetime, `d` binders below the one that is entered
unfoldable pub region_entered : List (ℕ × Region) → ℕ → Region → Region
region_entered by_number d (regions.Bound b k) =
    if b == d then unwrap_or (option_map (shifted_region d 0) (first_region by_number k)) (regions.Bound b k) else regions.Bound b k
region_entered by_number d r = r

-- puts lifetimes in place of those that a binder binds, by their numbers; one without a number given stays
abbrev pub entering : List (ℕ × Region) → Folding
entering by_number = record { region = region_entered by_number; ty_param = λ d n. leaf (TyParam n); const_param = λ d n. leaf (ConstParam n) }

-- a term that stands right below a binder, when that is entered
abbrev pub entered : List (ℕ × Region) → Tree → Tree
entered by_number t = folded (entering by_number) 0 t

-- below the pointer's binder the one that is entered is one level out
entered-below_binder : entered ((0, regions.Static) ∷ []) (pointer_to (bounded_by 1)) ≡ pointer_to (node (Dynamic 0 regions.Static) none)
unfolding folded folded_node depth_below shifted_region first_region region_entered
entered-below_binder = refl
