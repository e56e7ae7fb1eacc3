-- Which kind a term is of.
use Rattle.std.specs.Prelude.{Bool, true, false, if◌then◌else◌}
use Rattle.goal_terms.specs.TreeOf.{is_type_kind}
use Rattle.goal_terms.specs.declared.answers.ParamKind.{ParamKind}
use Rattle.goal_terms.specs.declared.answers.ParamKind.TheVariants as kind
use Rattle.goal_terms.specs.declared.heads.Head.{Head}
use Rattle.goal_terms.specs.declared.heads.Head.TheVariants.{Value, ConstParam, ConstPlaceholder, ConstError, Lifetime, Misplaced}
use Rattle.goal_terms.specs.declared.heads.Node.{Node}
use Rattle.goal_terms.specs.declared.heads.Node.TheVariants as nodes
use Rattle.goal_terms.specs.declared.heads.Variable.TheVariants as variables
use Rattle.goal_terms.specs.declared.terms.AliasTermKind.{AliasTermKind}

-- whether two kinds of parameters are the same
abbrev pub same_kind : ParamKind → ParamKind → Bool
same_kind kind.Ty kind.Ty = true
same_kind kind.Const kind.Const = true
same_kind kind.Lifetime kind.Lifetime = true
same_kind _ _ = false

-- the kind of what an alias stands for
abbrev pub kind_of_alias : AliasTermKind → ParamKind
kind_of_alias k = if is_type_kind k then kind.Ty else kind.Const

-- the kind of what stands where an alias of this kind is misplaced
abbrev pub kind_of_misplaced : AliasTermKind → ParamKind
kind_of_misplaced k = if is_type_kind k then kind.Const else kind.Ty

-- the kind of a term with this constructor
unfoldable pub kind_of_head : Head → ParamKind
kind_of_head (Value n) = kind.Const
kind_of_head (ConstParam n) = kind.Const
kind_of_head (ConstPlaceholder n) = kind.Const
kind_of_head (ConstError n) = kind.Const
kind_of_head (Lifetime r) = kind.Lifetime
kind_of_head (Misplaced k) = kind_of_misplaced k
kind_of_head _ = kind.Ty

-- the kind of a term with this at its top
unfoldable pub kind_of : Node → ParamKind
kind_of (nodes.Head h) = kind_of_head h
kind_of (nodes.Alias k) = kind_of_alias k
kind_of (nodes.Variable (variables.Ty v)) = kind.Ty
kind_of (nodes.Variable (variables.Const n)) = kind.Const
