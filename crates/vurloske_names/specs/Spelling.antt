-- How words of the language are written, and what they name.
use Rattle.std.specs.Prelude.{ℕ, List, codes}
use Rattle.goal_terms.specs.declared.lang.LangItem.{LangItem}
use Rattle.goal_terms.specs.declared.lang.LangItem.TheVariants as lang
use Rattle.goal_text.specs.NameText.{int_text, uint_text, float_text}
use Rattle.goal_terms.specs.Tree.{Tree}
use Rattle.goal_terms.specs.TreeOf.{leaf}
use Rattle.goal_terms.specs.declared.heads.Head.TheVariants as head
use Rattle.vurloske_names.specs.declared.builtins.Builtin.{Builtin}
use Rattle.vurloske_names.specs.declared.builtins.Builtin.TheVariants as builtin

-- how a type is written that no item has to declare
abbrev pub builtin_text : Builtin → List ℕ
builtin_text builtin.Bool = codes "bool"
builtin_text builtin.Char = codes "char"
builtin_text builtin.Str = codes "str"
builtin_text (builtin.Int i) = int_text i
builtin_text (builtin.Uint i) = uint_text i
builtin_text (builtin.Float f) = float_text f

-- such a type itself
abbrev pub builtin_tree : Builtin → Tree
builtin_tree builtin.Bool = leaf head.Bool
builtin_tree builtin.Char = leaf head.Char
builtin_tree builtin.Str = leaf head.Str
builtin_tree (builtin.Int i) = leaf (head.Int i)
builtin_tree (builtin.Uint i) = leaf (head.Uint i)
builtin_tree (builtin.Float f) = leaf (head.Float f)

-- the name that an attribute gives a lang item
abbrev pub lang_text : LangItem → List ℕ
lang_text lang.Sized = codes "sized"
lang_text lang.Copy = codes "copy"
lang_text lang.Clone = codes "clone"
lang_text lang.Fn = codes "fn"
lang_text lang.FnMut = codes "fn_mut"
lang_text lang.FnOnce = codes "fn_once"
lang_text lang.FnPtr = codes "fn_ptr_trait"
lang_text lang.Tuple = codes "tuple_trait"
lang_text lang.Pointee = codes "pointee_trait"
lang_text lang.DiscriminantKind = codes "discriminant_kind"
lang_text lang.Destruct = codes "destruct"
lang_text lang.Field = codes "field_trait"
lang_text lang.Output = codes "fn_once_output"
lang_text lang.Metadata = codes "metadata_type"
lang_text lang.Discriminant = codes "discriminant_type"
lang_text lang.Base = codes "field_base"
lang_text lang.FieldType = codes "field_type"
lang_text lang.DynMetadata = codes "dyn_metadata"
