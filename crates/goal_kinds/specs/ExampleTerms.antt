-- Words for the worked examples: terms as goals and answers have them, and the types that rows hold.
use Rattle.std.specs.Prelude.{ℕ, true, ◌^◌, T, ltb, List, [], ◌∷◌, length, Vec}
use Rattle.std.proofs.Common.{refl, lit<, le_refl}
use Rattle.std.specs.Global.{Global}
use denote.RawPtr.{null_ptr}
use Rattle.goal_terms.specs.Tree.{Tree, node, alias, forest}
use Rattle.goal_terms.specs.TreeOf.{leaf}
use Rattle.goal_terms.specs.declared.heads.Head.TheVariants as head
use Rattle.goal_terms.specs.declared.ids.AdtId.{AdtId}
use Rattle.goal_terms.specs.declared.ids.ImplId.{ImplId}
use Rattle.goal_terms.specs.declared.ids.ItemId.{ItemId}
use Rattle.goal_terms.specs.declared.ids.TraitId.{TraitId}
use Rattle.goal_terms.specs.declared.predicates.Clause.{Clause}
use Rattle.goal_terms.specs.declared.predicates.ClauseKind.TheVariants as clause
use Rattle.goal_terms.specs.declared.scalars.IntTy.TheVariants as signed
use Rattle.goal_terms.specs.declared.scalars.UintTy.TheVariants as unsigned
use Rattle.goal_terms.specs.declared.terms.AliasTermKind.{AliasTermKind}
use Rattle.goal_terms.specs.declared.terms.AliasTermKind.TheVariants.{ProjectionTy, FreeTy, OpaqueTy}
use Rattle.goal_terms.specs.declared.terms.GenericArg.{GenericArg}
use Rattle.goal_terms.specs.declared.terms.GenericArg as arg
use Rattle.goal_terms.specs.declared.terms.Ty.{Ty}
use Rattle.goal_terms.specs.declared.terms.Ty as ty

-- a vector of some elements, of which there are few
abbrev pub vec : {A : Type 0} (xs : List A) → T (ltb (length xs) (2 ^ 63)) → Vec A Global
vec xs few = record {
  ptr = null_ptr;
  len = length xs;
  cap = length xs;
  alloc = record { memory = record { seal = tt } };
  items = xs;
  ok = (refl, le_refl (length xs));
  small = lit< few;
}

-- ids, by their numbers
abbrev pub trait : ℕ → TraitId
trait n = record { 0 = n }

abbrev pub item : ℕ → ItemId
item n = record { 0 = n }

abbrev pub impl : ℕ → ImplId
impl n = record { 0 = n }

abbrev pub adt : ℕ → AdtId
adt n = record { 0 = n }

-- simple types
abbrev pub bool_ty : Tree
bool_ty = leaf head.Bool

abbrev pub str_ty : Tree
str_ty = leaf head.Str

abbrev pub u16_ty : Tree
u16_ty = leaf (head.Uint unsigned.U16)

abbrev pub u32_ty : Tree
u32_ty = leaf (head.Uint unsigned.U32)

abbrev pub u64_ty : Tree
u64_ty = leaf (head.Uint unsigned.U64)

abbrev pub i32_ty : Tree
i32_ty = leaf (head.Int signed.I32)

-- a type parameter
abbrev pub param : ℕ → Tree
param n = leaf (head.TyParam n)

-- an error
abbrev pub error_ty : ℕ → Tree
error_ty n = leaf (head.TyError n)

-- a struct with arguments
abbrev pub struct : ℕ → List Tree → Tree
struct n ts = node (head.Adt (adt n) (length ts)) (forest ts)

-- `Vec<t>` and `Box<t>`
abbrev pub vec_of : Tree → Tree
vec_of t = struct 1 (t ∷ [])

abbrev pub box_of : Tree → Tree
box_of t = struct 2 (t ∷ [])

-- structs without parameters
abbrev pub y_ty : Tree
y_ty = struct 4 []

abbrev pub z_ty : Tree
z_ty = struct 5 []

abbrev pub w_ty : Tree
w_ty = struct 7 []

abbrev pub p_ty : Tree
p_ty = struct 8 []

-- a tuple
abbrev pub tuple : List Tree → Tree
tuple ts = node (head.Tuple (length ts)) (forest ts)

-- `fn(t) -> u`
abbrev pub fn_ty : Tree → Tree → Tree
fn_ty t u = node (head.FnPtr 0 1 true) (forest (t ∷ u ∷ []))

-- the kinds of the aliases of items, free aliases and opaque types
abbrev pub projection : ℕ → AliasTermKind
projection n = ProjectionTy (item n)

abbrev pub free : ℕ → AliasTermKind
free n = FreeTy (record { 0 = n })

abbrev pub opaque : ℕ → AliasTermKind
opaque n = OpaqueTy (record { 0 = n })

-- an alias as a term
abbrev pub alias_of : AliasTermKind → List Tree → Tree
alias_of k ts = alias k (forest ts)

-- what rows hold: a struct with one argument or none, a tuple of three, and the clause that a type has a trait
abbrev pub struct_of : ℕ → Ty → Ty
struct_of n t = ty.Adt (adt n) (vec (arg.Ty t ∷ []) tt)

abbrev pub plain_struct : ℕ → Ty
plain_struct n = ty.Adt (adt n) (vec [] tt)

abbrev pub triple : Ty → Ty → Ty → Ty
triple t u v = ty.Tuple (vec (t ∷ u ∷ v ∷ []) tt)

abbrev pub has_trait : Ty → ℕ → Clause
has_trait t n = record { bound_regions = 0; kind = clause.Trait (record { trait_ref = record { def_id = trait n; args = vec (arg.Ty t ∷ []) tt } }) }
