-- Terms from their tops and their parts.
use Rattle.std.proofs.Common.{◌≡◌, ℕ, ◌+◌, Bool, true, false, List, [], ◌∷◌, ◌++◌, length, map, take, Vec, Box, Global, refl, sym, ap, ◌∙◌, subst, arith, length-append}
use Rattle.std.specs.Prelude.{if◌then◌else◌}
use Rattle.std.proofs.lemmas.List.{length-map, take_all, take_more}
use Rattle.goal_terms.specs.Tree.{Tree, node, alias, forest, node_of, parts_of}
use Rattle.goal_terms.specs.TreeOf.{leaf, is_type_kind, at_type, at_const, tree_of_ty, tree_of_const, tree_of_arg, tree_of_term, tree_of_clause, tree_of_alias, tree_of_sig}
use Rattle.goal_terms.specs.TreeWith.{tree_with}
use Rattle.goal_terms.specs.Sorts.{sort_of, sort_of_head, IsSort, IsArgument, Are, HeadFits, tree_in, part_at}
use Rattle.goal_terms.specs.declared.ids.AdtId.{AdtId}
use Rattle.goal_terms.specs.declared.ids.ForeignId.{ForeignId}
use Rattle.goal_terms.specs.declared.ids.FnId.{FnId}
use Rattle.goal_terms.specs.declared.ids.ClosureId.{ClosureId}
use Rattle.goal_terms.specs.declared.ids.TraitId.{TraitId}
use Rattle.goal_terms.specs.declared.ids.ItemId.{ItemId}
use Rattle.goal_terms.specs.declared.scalars.IntTy.{IntTy}
use Rattle.goal_terms.specs.declared.scalars.UintTy.{UintTy}
use Rattle.goal_terms.specs.declared.scalars.FloatTy.{FloatTy}
use Rattle.goal_terms.specs.declared.scalars.Mutability.{Mutability}
use Rattle.goal_terms.specs.declared.heads.Head.{Head}
use Rattle.goal_terms.specs.declared.heads.Head.TheVariants as head
use Rattle.goal_terms.specs.declared.heads.Node.TheVariants as nodes
use Rattle.goal_terms.specs.declared.heads.Variable.TheVariants as variables
use Rattle.goal_terms.specs.declared.sorts.Sort.TheVariants as sorts
use Rattle.goal_terms.specs.declared.terms.AliasTermKind.{AliasTermKind}
use Rattle.goal_terms.specs.declared.terms.Region.{Region}
use Rattle.goal_terms.specs.declared.terms.InferTy.{InferTy}
use Rattle.goal_terms.specs.declared.terms.Ty as ty
use Rattle.goal_terms.specs.declared.terms.Ty.{Ty}
use Rattle.goal_terms.specs.declared.terms.Const as const
use Rattle.goal_terms.specs.declared.terms.Const.{Const}
use Rattle.goal_terms.specs.declared.terms.GenericArg as arg
use Rattle.goal_terms.specs.declared.terms.GenericArg.{GenericArg}
use Rattle.goal_terms.specs.declared.terms.Term.{Term}
use Rattle.goal_terms.specs.declared.terms.DynClause as clause
use Rattle.goal_terms.specs.declared.terms.DynClause.{DynClause}
use Rattle.goal_terms.specs.declared.terms.AliasTerm.{AliasTerm}
use Rattle.goal_terms.specs.declared.terms.FnSig.{FnSig}
use Rattle.goal_interner.proofs.InternLemmas.{tree_with-parts}
use Rattle.goal_terms.proofs.TreeLemmas.{tree_of_ty-Bool, tree_of_ty-Char, tree_of_ty-Int, tree_of_ty-Uint, tree_of_ty-Float, tree_of_ty-Str, tree_of_ty-Never, tree_of_ty-Adt, tree_of_ty-Foreign, tree_of_ty-Array, tree_of_ty-Slice, tree_of_ty-RawPtr, tree_of_ty-Ref, tree_of_ty-FnDef, tree_of_ty-FnPtr, tree_of_ty-Closure, tree_of_ty-Dynamic, tree_of_ty-Tuple, tree_of_ty-Param, tree_of_ty-Placeholder, tree_of_ty-Alias, tree_of_ty-Infer, tree_of_ty-Error, tree_of_const-Value, tree_of_const-Param, tree_of_const-Placeholder, tree_of_const-Infer, tree_of_const-Alias, tree_of_const-Error, tree_of_arg-Ty, tree_of_arg-Const, tree_of_arg-Lifetime, tree_of_term-Ty, tree_of_term-Const, tree_of_clause-Trait, tree_of_clause-Projection, tree_of_alias-record, tree_of_sig-record}

whole : (t : Tree) (h : Head) (ts : List Tree) → node_of t ≡ nodes.Head h → ts ≡ parts_of t → node h (forest ts) ≡ t
whole t h ts top e = ap (λ us. node h (forest us)) e ∙ ap (λ n. tree_with n (parts_of t)) (sym top) ∙ tree_with-parts t

module _ {A : Type 0} (f : A → Tree) where
  -- the things whose trees are all of a list
  all_made : (xs : List A) (n : ℕ) (ts : List Tree) → map f xs ≡ take n ts → length ts ≡ n → map f xs ≡ ts
  all_made xs n ts e l = e ∙ take_all n ts (omega arith)

  count_made : (xs : List A) (n : ℕ) (ts : List Tree) → map f xs ≡ take n ts → length ts ≡ n → length xs ≡ n
  count_made xs n ts e l = sym (length-map xs f) ∙ ap length (all_made xs n ts e l) ∙ l

  -- and those whose trees are all but the last
  one_more : (xs : List A) (n : ℕ) (ts : List Tree) (u : Tree) → map f xs ≡ take n ts → u ≡ tree_in ts n → length ts ≡ n + 1 → map f xs ++ u ∷ [] ≡ ts
  one_more xs n ts u e last l =
      ap (λ us. us ++ u ∷ []) e ∙ ap (λ v. take n ts ++ v ∷ []) last ∙ sym (take_more ts n (leaf head.Bool) (omega arith)) ∙ take_all (n + 1) ts (omega arith)

  count_more : (xs : List A) (n : ℕ) (ts : List Tree) (u : Tree) → map f xs ≡ take n ts → u ≡ tree_in ts n → length ts ≡ n + 1 → length xs ≡ n
  count_more xs n ts u e last l =
      omega (arith, length-map xs f, ap length (one_more xs n ts u e last l), length-append (map f xs) (u ∷ []))

fits_as : (t : Tree) (h k : Head) → HeadFits h (parts_of t) → h ≡ k → HeadFits k (parts_of t)
fits_as t h k f e = subst (λ x. HeadFits x (parts_of t)) e f

top_as : (t : Tree) (h k : Head) → node_of t ≡ nodes.Head h → h ≡ k → node_of t ≡ nodes.Head k
top_as t h k top e = top ∙ ap nodes.Head e

pub rebuilt-Bool : (t : Tree) (h : Head) → node_of t ≡ nodes.Head h → HeadFits h (parts_of t) → h ≡ head.Bool → tree_of_ty ty.Bool ≡ t
rebuilt-Bool t h top fits e =
    tree_of_ty-Bool ∙ whole t head.Bool [] (top_as t h head.Bool top e) (sym (fits_as t h head.Bool fits e))

pub rebuilt-Char : (t : Tree) (h : Head) → node_of t ≡ nodes.Head h → HeadFits h (parts_of t) → h ≡ head.Char → tree_of_ty ty.Char ≡ t
rebuilt-Char t h top fits e =
    tree_of_ty-Char ∙ whole t head.Char [] (top_as t h head.Char top e) (sym (fits_as t h head.Char fits e))

pub rebuilt-Int : (t : Tree) (h : Head) (i : IntTy) → node_of t ≡ nodes.Head h → HeadFits h (parts_of t) → h ≡ head.Int i → tree_of_ty (ty.Int i) ≡ t
rebuilt-Int t h i top fits e =
    tree_of_ty-Int i ∙ whole t (head.Int i) [] (top_as t h (head.Int i) top e) (sym (fits_as t h (head.Int i) fits e))

pub rebuilt-Uint : (t : Tree) (h : Head) (i : UintTy) → node_of t ≡ nodes.Head h → HeadFits h (parts_of t) → h ≡ head.Uint i → tree_of_ty (ty.Uint i) ≡ t
rebuilt-Uint t h i top fits e =
    tree_of_ty-Uint i ∙ whole t (head.Uint i) [] (top_as t h (head.Uint i) top e) (sym (fits_as t h (head.Uint i) fits e))

pub rebuilt-Float : (t : Tree) (h : Head) (i : FloatTy) → node_of t ≡ nodes.Head h → HeadFits h (parts_of t) → h ≡ head.Float i → tree_of_ty (ty.Float i) ≡ t
rebuilt-Float t h i top fits e =
    tree_of_ty-Float i ∙ whole t (head.Float i) [] (top_as t h (head.Float i) top e) (sym (fits_as t h (head.Float i) fits e))

pub rebuilt-Str : (t : Tree) (h : Head) → node_of t ≡ nodes.Head h → HeadFits h (parts_of t) → h ≡ head.Str → tree_of_ty ty.Str ≡ t
rebuilt-Str t h top fits e =
    tree_of_ty-Str ∙ whole t head.Str [] (top_as t h head.Str top e) (sym (fits_as t h head.Str fits e))

pub rebuilt-Never : (t : Tree) (h : Head) → node_of t ≡ nodes.Head h → HeadFits h (parts_of t) → h ≡ head.Never → tree_of_ty ty.Never ≡ t
rebuilt-Never t h top fits e =
    tree_of_ty-Never ∙ whole t head.Never [] (top_as t h head.Never top e) (sym (fits_as t h head.Never fits e))

pub rebuilt-Foreign : (t : Tree) (h : Head) (i : ForeignId) → node_of t ≡ nodes.Head h → HeadFits h (parts_of t) → h ≡ head.Foreign i → tree_of_ty (ty.Foreign i) ≡ t
rebuilt-Foreign t h i top fits e =
    tree_of_ty-Foreign i ∙ whole t (head.Foreign i) [] (top_as t h (head.Foreign i) top e) (sym (fits_as t h (head.Foreign i) fits e))

pub rebuilt-Param : (t : Tree) (h : Head) (n : ℕ) → node_of t ≡ nodes.Head h → HeadFits h (parts_of t) → h ≡ head.TyParam n → tree_of_ty (ty.Param n) ≡ t
rebuilt-Param t h n top fits e =
    tree_of_ty-Param n ∙ whole t (head.TyParam n) [] (top_as t h (head.TyParam n) top e) (sym (fits_as t h (head.TyParam n) fits e))

pub rebuilt-Placeholder : (t : Tree) (h : Head) (n : ℕ) → node_of t ≡ nodes.Head h → HeadFits h (parts_of t) → h ≡ head.TyPlaceholder n → tree_of_ty (ty.Placeholder n) ≡ t
rebuilt-Placeholder t h n top fits e =
    tree_of_ty-Placeholder n ∙ whole t (head.TyPlaceholder n) [] (top_as t h (head.TyPlaceholder n) top e) (sym (fits_as t h (head.TyPlaceholder n) fits e))

pub rebuilt-Error : (t : Tree) (h : Head) (n : ℕ) → node_of t ≡ nodes.Head h → HeadFits h (parts_of t) → h ≡ head.TyError n → tree_of_ty (ty.Error n) ≡ t
rebuilt-Error t h n top fits e =
    tree_of_ty-Error n ∙ whole t (head.TyError n) [] (top_as t h (head.TyError n) top e) (sym (fits_as t h (head.TyError n) fits e))

pub rebuilt-Adt : (t : Tree) (h : Head) (i : AdtId) (n : ℕ) (args : Vec GenericArg Global) → node_of t ≡ nodes.Head h → HeadFits h (parts_of t) → h ≡ head.Adt i n →
    map tree_of_arg args.items ≡ take n (parts_of t) → tree_of_ty (ty.Adt i args) ≡ t
rebuilt-Adt t h i n args top fits e made =
    let are : Are IsArgument n (parts_of t) = fits_as t h (head.Adt i n) fits e in
    tree_of_ty-Adt i args
    ∙ ap (λ k. node (head.Adt i k) (forest (map tree_of_arg args.items))) (count_made tree_of_arg args.items n (parts_of t) made are.0)
    ∙ whole t (head.Adt i n) (map tree_of_arg args.items) (top_as t h (head.Adt i n) top e) (all_made tree_of_arg args.items n (parts_of t) made are.0)

pub rebuilt-FnDef : (t : Tree) (h : Head) (i : FnId) (n : ℕ) (args : Vec GenericArg Global) → node_of t ≡ nodes.Head h → HeadFits h (parts_of t) → h ≡ head.FnDef i n →
    map tree_of_arg args.items ≡ take n (parts_of t) → tree_of_ty (ty.FnDef i args) ≡ t
rebuilt-FnDef t h i n args top fits e made =
    let are : Are IsArgument n (parts_of t) = fits_as t h (head.FnDef i n) fits e in
    tree_of_ty-FnDef i args
    ∙ ap (λ k. node (head.FnDef i k) (forest (map tree_of_arg args.items))) (count_made tree_of_arg args.items n (parts_of t) made are.0)
    ∙ whole t (head.FnDef i n) (map tree_of_arg args.items) (top_as t h (head.FnDef i n) top e) (all_made tree_of_arg args.items n (parts_of t) made are.0)

pub rebuilt-Closure : (t : Tree) (h : Head) (i : ClosureId) (n : ℕ) (args : Vec GenericArg Global) → node_of t ≡ nodes.Head h → HeadFits h (parts_of t) → h ≡ head.Closure i n →
    map tree_of_arg args.items ≡ take n (parts_of t) → tree_of_ty (ty.Closure i args) ≡ t
rebuilt-Closure t h i n args top fits e made =
    let are : Are IsArgument n (parts_of t) = fits_as t h (head.Closure i n) fits e in
    tree_of_ty-Closure i args
    ∙ ap (λ k. node (head.Closure i k) (forest (map tree_of_arg args.items))) (count_made tree_of_arg args.items n (parts_of t) made are.0)
    ∙ whole t (head.Closure i n) (map tree_of_arg args.items) (top_as t h (head.Closure i n) top e) (all_made tree_of_arg args.items n (parts_of t) made are.0)

pub rebuilt-Dynamic : (t : Tree) (h : Head) (n : ℕ) (r : Region) (made : Vec DynClause Global) → node_of t ≡ nodes.Head h → HeadFits h (parts_of t) → h ≡ head.Dynamic n r →
    map tree_of_clause made.items ≡ take n (parts_of t) → tree_of_ty (ty.Dynamic made r) ≡ t
rebuilt-Dynamic t h n r made top fits e so =
    let are : Are (IsSort sorts.Clause) n (parts_of t) = fits_as t h (head.Dynamic n r) fits e in
    tree_of_ty-Dynamic made r
    ∙ ap (λ k. node (head.Dynamic k r) (forest (map tree_of_clause made.items))) (count_made tree_of_clause made.items n (parts_of t) so are.0)
    ∙ whole t (head.Dynamic n r) (map tree_of_clause made.items) (top_as t h (head.Dynamic n r) top e) (all_made tree_of_clause made.items n (parts_of t) so are.0)

pub rebuilt-Tuple : (t : Tree) (h : Head) (n : ℕ) (made : Vec Ty Global) → node_of t ≡ nodes.Head h → HeadFits h (parts_of t) → h ≡ head.Tuple n →
    map tree_of_ty made.items ≡ take n (parts_of t) → tree_of_ty (ty.Tuple made) ≡ t
rebuilt-Tuple t h n made top fits e so =
    let are : Are (IsSort sorts.Ty) n (parts_of t) = fits_as t h (head.Tuple n) fits e in
    tree_of_ty-Tuple made
    ∙ ap (λ k. node (head.Tuple k) (forest (map tree_of_ty made.items))) (count_made tree_of_ty made.items n (parts_of t) so are.0)
    ∙ whole t (head.Tuple n) (map tree_of_ty made.items) (top_as t h (head.Tuple n) top e) (all_made tree_of_ty made.items n (parts_of t) so are.0)

-- a list with one tree, and with two
one_part : (ts : List Tree) (u : Tree) → length ts ≡ 1 → u ≡ tree_in ts 0 → u ∷ [] ≡ ts
one_part [] u l e = absurd (omega arith)
one_part (t ∷ []) u l e = ap (λ x. x ∷ []) e
one_part (t ∷ s ∷ ts) u l e = absurd (omega arith)

two_parts : (ts : List Tree) (u v : Tree) → length ts ≡ 2 → u ≡ tree_in ts 0 → v ≡ tree_in ts 1 → u ∷ v ∷ [] ≡ ts
two_parts [] u v l e f = absurd (omega arith)
two_parts (t ∷ []) u v l e f = absurd (omega arith)
two_parts (t ∷ s ∷ []) u v l e f = ap (λ x. x ∷ v ∷ []) e ∙ ap (λ x. t ∷ x ∷ []) f
two_parts (t ∷ s ∷ r ∷ ts) u v l e f = absurd (omega arith)

pub rebuilt-Slice : (t : Tree) (h : Head) (x : Box Ty Global) → node_of t ≡ nodes.Head h → HeadFits h (parts_of t) → h ≡ head.Slice →
    tree_of_ty x.value ≡ part_at t 0 → tree_of_ty (ty.Slice x) ≡ t
rebuilt-Slice t h x top fits e made =
    let are : Are (IsSort sorts.Ty) 1 (parts_of t) = fits_as t h head.Slice fits e in
    tree_of_ty-Slice x ∙ whole t head.Slice (tree_of_ty x.value ∷ []) (top_as t h head.Slice top e) (one_part (parts_of t) (tree_of_ty x.value) are.0 made)

pub rebuilt-RawPtr : (t : Tree) (h : Head) (m : Mutability) (x : Box Ty Global) → node_of t ≡ nodes.Head h → HeadFits h (parts_of t) → h ≡ head.RawPtr m →
    tree_of_ty x.value ≡ part_at t 0 → tree_of_ty (ty.RawPtr x m) ≡ t
rebuilt-RawPtr t h m x top fits e made =
    let are : Are (IsSort sorts.Ty) 1 (parts_of t) = fits_as t h (head.RawPtr m) fits e in
    tree_of_ty-RawPtr x m ∙ whole t (head.RawPtr m) (tree_of_ty x.value ∷ []) (top_as t h (head.RawPtr m) top e) (one_part (parts_of t) (tree_of_ty x.value) are.0 made)

pub rebuilt-Ref : (t : Tree) (h : Head) (r : Region) (m : Mutability) (x : Box Ty Global) → node_of t ≡ nodes.Head h → HeadFits h (parts_of t) → h ≡ head.Ref r m →
    tree_of_ty x.value ≡ part_at t 0 → tree_of_ty (ty.Ref r x m) ≡ t
rebuilt-Ref t h r m x top fits e made =
    let are : Are (IsSort sorts.Ty) 1 (parts_of t) = fits_as t h (head.Ref r m) fits e in
    tree_of_ty-Ref r x m ∙ whole t (head.Ref r m) (tree_of_ty x.value ∷ []) (top_as t h (head.Ref r m) top e) (one_part (parts_of t) (tree_of_ty x.value) are.0 made)

pub rebuilt-Array : (t : Tree) (h : Head) (x : Box Ty Global) (y : Box Const Global) → node_of t ≡ nodes.Head h → HeadFits h (parts_of t) → h ≡ head.Array →
    tree_of_ty x.value ≡ part_at t 0 → tree_of_const y.value ≡ part_at t 1 → tree_of_ty (ty.Array x y) ≡ t
rebuilt-Array t h x y top fits e first second =
    tree_of_ty-Array x y
    ∙ whole t head.Array (tree_of_ty x.value ∷ tree_of_const y.value ∷ []) (top_as t h head.Array top e)
    (two_parts (parts_of t) (tree_of_ty x.value) (tree_of_const y.value) (fits_as t h head.Array fits e).0 first second)

-- an alias, where it belongs and where it doesn't
placed_alias : (t : Tree) (k : AliasTermKind) → nodes.Alias k ≡ node_of t → alias k (forest (parts_of t)) ≡ t
placed_alias t k top = ap (λ n. tree_with n (parts_of t)) top ∙ tree_with-parts t

chosen : (b : Bool) (c : Bool) (t u : Tree) → b ≡ c → (if b then t else u) ≡ (if c then t else u)
chosen b c t u e = ap (λ x. if x then t else u) e

which : (b : Bool) → (if b then sorts.Ty else sorts.Const) ≡ sorts.Ty → b ≡ true
which true e = refl
which false e = absurd (cc)

which_not : (b : Bool) → (if b then sorts.Ty else sorts.Const) ≡ sorts.Const → b ≡ false
which_not true e = absurd (cc)
which_not false e = refl

misplaced_ty : (b : Bool) → (if b then sorts.Const else sorts.Ty) ≡ sorts.Ty → b ≡ false
misplaced_ty true e = absurd (cc)
misplaced_ty false e = refl

misplaced_const : (b : Bool) → (if b then sorts.Const else sorts.Ty) ≡ sorts.Const → b ≡ true
misplaced_const true e = refl
misplaced_const false e = absurd (cc)

ty_kind : (k : AliasTermKind) → sort_of (nodes.Alias k) ≡ sorts.Ty → is_type_kind k ≡ true
ty_kind k e = which (is_type_kind k) e

const_kind : (k : AliasTermKind) → sort_of (nodes.Alias k) ≡ sorts.Const → is_type_kind k ≡ false
const_kind k e = which_not (is_type_kind k) e

pub rebuilt-Alias : (t : Tree) (k : AliasTermKind) (a : AliasTerm) → nodes.Alias k ≡ node_of t → IsSort sorts.Ty t →
    tree_of_alias a ≡ alias k (forest (parts_of t)) → tree_of_ty (ty.Alias a) ≡ t
rebuilt-Alias t k a top sort made =
    tree_of_ty-Alias a ∙ ap at_type made
    ∙ chosen (is_type_kind k) true (alias k (forest (parts_of t))) (node (head.Misplaced k) (forest (parts_of t))) (ty_kind k (ap sort_of top ∙ sort))
    ∙ placed_alias t k top

pub rebuilt-Misplaced : (t : Tree) (h : Head) (k : AliasTermKind) (a : AliasTerm) → node_of t ≡ nodes.Head h → sort_of_head h ≡ sorts.Ty → h ≡ head.Misplaced k →
    tree_of_alias a ≡ alias k (forest (parts_of t)) → tree_of_ty (ty.Alias a) ≡ t
rebuilt-Misplaced t h k a top sort e made =
    tree_of_ty-Alias a ∙ ap at_type made
    ∙ chosen (is_type_kind k) false (alias k (forest (parts_of t))) (node (head.Misplaced k) (forest (parts_of t)))
    (misplaced_ty (is_type_kind k) (ap sort_of_head (sym e) ∙ sort))
    ∙ whole t (head.Misplaced k) (parts_of t) (top_as t h (head.Misplaced k) top e) refl

pub rebuilt_const-Alias : (t : Tree) (k : AliasTermKind) (a : AliasTerm) → nodes.Alias k ≡ node_of t → IsSort sorts.Const t →
    tree_of_alias a ≡ alias k (forest (parts_of t)) → tree_of_const (const.Alias a) ≡ t
rebuilt_const-Alias t k a top sort made =
    tree_of_const-Alias a ∙ ap at_const made
    ∙ chosen (is_type_kind k) false (node (head.Misplaced k) (forest (parts_of t))) (alias k (forest (parts_of t))) (const_kind k (ap sort_of top ∙ sort))
    ∙ placed_alias t k top

pub rebuilt_const-Misplaced : (t : Tree) (k : AliasTermKind) (a : AliasTerm) → nodes.Head (head.Misplaced k) ≡ node_of t → IsSort sorts.Const t →
    tree_of_alias a ≡ alias k (forest (parts_of t)) → tree_of_const (const.Alias a) ≡ t
rebuilt_const-Misplaced t k a top sort made =
    tree_of_const-Alias a ∙ ap at_const made
    ∙ chosen (is_type_kind k) true (node (head.Misplaced k) (forest (parts_of t))) (alias k (forest (parts_of t)))
    (misplaced_const (is_type_kind k) (ap sort_of top ∙ sort))
    ∙ whole t (head.Misplaced k) (parts_of t) (sym top) refl

pub rebuilt-Infer : (t : Tree) (v : InferTy) → nodes.Variable (variables.Ty v) ≡ node_of t → tree_of_ty (ty.Infer v) ≡ t
rebuilt-Infer t v top = tree_of_ty-Infer v ∙ ap (λ n. tree_with n (parts_of t)) top ∙ tree_with-parts t

pub rebuilt_const-Infer : (t : Tree) (n : ℕ) → nodes.Variable (variables.Const n) ≡ node_of t → tree_of_const (const.Infer n) ≡ t
rebuilt_const-Infer t n top = tree_of_const-Infer n ∙ ap (λ x. tree_with x (parts_of t)) top ∙ tree_with-parts t

pub rebuilt_const-Value : (t : Tree) (n : ℕ) → nodes.Head (head.Value n) ≡ node_of t → parts_of t ≡ [] → tree_of_const (const.Value n) ≡ t
rebuilt_const-Value t n top fits = tree_of_const-Value n ∙ whole t (head.Value n) [] (sym top) (sym fits)

pub rebuilt_const-Param : (t : Tree) (n : ℕ) → nodes.Head (head.ConstParam n) ≡ node_of t → parts_of t ≡ [] → tree_of_const (const.Param n) ≡ t
rebuilt_const-Param t n top fits = tree_of_const-Param n ∙ whole t (head.ConstParam n) [] (sym top) (sym fits)

pub rebuilt_const-Placeholder : (t : Tree) (n : ℕ) → nodes.Head (head.ConstPlaceholder n) ≡ node_of t → parts_of t ≡ [] → tree_of_const (const.Placeholder n) ≡ t
rebuilt_const-Placeholder t n top fits = tree_of_const-Placeholder n ∙ whole t (head.ConstPlaceholder n) [] (sym top) (sym fits)

pub rebuilt_const-Error : (t : Tree) (n : ℕ) → nodes.Head (head.ConstError n) ≡ node_of t → parts_of t ≡ [] → tree_of_const (const.Error n) ≡ t
rebuilt_const-Error t n top fits = tree_of_const-Error n ∙ whole t (head.ConstError n) [] (sym top) (sym fits)

pub rebuilt_arg-Lifetime : (t : Tree) (r : Region) → nodes.Head (head.Lifetime r) ≡ node_of t → parts_of t ≡ [] → tree_of_arg (arg.Lifetime r) ≡ t
rebuilt_arg-Lifetime t r top fits = tree_of_arg-Lifetime r ∙ whole t (head.Lifetime r) [] (sym top) (sym fits)

pub rebuilt_clause-Trait : (t : Tree) (i : TraitId) (n : ℕ) (args : Vec GenericArg Global) → nodes.Head (head.DynTrait i n) ≡ node_of t →
    Are IsArgument n (parts_of t) → map tree_of_arg args.items ≡ take n (parts_of t) → tree_of_clause (clause.Trait i args) ≡ t
rebuilt_clause-Trait t i n args top are made =
    tree_of_clause-Trait i args
    ∙ ap (λ k. node (head.DynTrait i k) (forest (map tree_of_arg args.items))) (count_made tree_of_arg args.items n (parts_of t) made are.0)
    ∙ whole t (head.DynTrait i n) (map tree_of_arg args.items) (sym top) (all_made tree_of_arg args.items n (parts_of t) made are.0)

pub rebuilt_clause-Projection : (t : Tree) (i : ItemId) (n : ℕ) (args : Vec GenericArg Global) (x : Term) → nodes.Head (head.DynProjection i n) ≡ node_of t →
    length (parts_of t) ≡ n + 1 → map tree_of_arg args.items ≡ take n (parts_of t) → tree_of_term x ≡ part_at t n →
    tree_of_clause (clause.Projection i args x) ≡ t
rebuilt_clause-Projection t i n args x top l made last =
    tree_of_clause-Projection i args x
    ∙ ap (λ k. node (head.DynProjection i k) (forest (map tree_of_arg args.items ++ tree_of_term x ∷ []))) (count_more tree_of_arg args.items n (parts_of t) (tree_of_term x) made last l)
    ∙ whole t (head.DynProjection i n) (map tree_of_arg args.items ++ tree_of_term x ∷ []) (sym top) (one_more tree_of_arg args.items n (parts_of t) (tree_of_term x) made last l)

pub rebuilt_alias : (a : AliasTerm) (ts : List Tree) (n : ℕ) → map tree_of_arg a.args.items ≡ take n ts → n ≡ length ts → tree_of_alias a ≡ alias a.kind (forest ts)
rebuilt_alias a ts n made l = tree_of_alias-record a ∙ ap (λ us. alias a.kind (forest us)) (all_made tree_of_arg a.args.items n ts made (sym l))

pub rebuilt_sig : (t : Tree) (s : FnSig) (n : ℕ) → node_of t ≡ nodes.Head (head.FnPtr s.bound_regions n s.fn_traits) →
    length (parts_of t) ≡ n + 1 → map tree_of_ty s.inputs.items ≡ take n (parts_of t) → tree_of_ty s.output ≡ part_at t n → tree_of_sig s ≡ t
rebuilt_sig t s n top l made last =
    tree_of_sig-record s
    ∙ ap (λ k. node (head.FnPtr s.bound_regions k s.fn_traits) (forest (map tree_of_ty s.inputs.items ++ tree_of_ty s.output ∷ [])))
    (count_more tree_of_ty s.inputs.items n (parts_of t) (tree_of_ty s.output) made last l)
    ∙ whole t (head.FnPtr s.bound_regions n s.fn_traits) (map tree_of_ty s.inputs.items ++ tree_of_ty s.output ∷ []) top
    (one_more tree_of_ty s.inputs.items n (parts_of t) (tree_of_ty s.output) made last l)

pub ruleset rebuilding = (tree_of_term-Ty, tree_of_term-Const, tree_of_arg-Ty, tree_of_arg-Const, tree_of_ty-FnPtr, rebuilt-Bool, rebuilt-Char, rebuilt-Int, rebuilt-Uint, rebuilt-Float, rebuilt-Str, rebuilt-Never, rebuilt-Foreign, rebuilt-Param, rebuilt-Placeholder, rebuilt-Error, rebuilt-Adt, rebuilt-FnDef, rebuilt-Closure, rebuilt-Dynamic, rebuilt-Tuple, rebuilt-Slice, rebuilt-RawPtr, rebuilt-Ref, rebuilt-Array, rebuilt-Alias, rebuilt-Misplaced, rebuilt_const-Alias, rebuilt_const-Misplaced, rebuilt-Infer, rebuilt_const-Infer, rebuilt_const-Value, rebuilt_const-Param, rebuilt_const-Placeholder, rebuilt_const-Error, rebuilt_arg-Lifetime, rebuilt_clause-Trait, rebuilt_clause-Projection, rebuilt_alias, rebuilt_sig)
