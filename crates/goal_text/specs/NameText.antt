-- The text of names.
use Rattle.std.specs.Prelude.{ℕ, ◌==◌, List, ◌++◌, Option, Some, None, codes, if◌then◌else◌}
use Rattle.std.specs.Fmt.{decimal}
use Rattle.goal_terms.specs.declared.heads.Head.{Head}
use Rattle.goal_terms.specs.declared.heads.Head.TheVariants as head
use Rattle.goal_text.specs.declared.names.Name.{Name}
use Rattle.goal_text.specs.declared.names.Name.TheVariants.{Given, Numbered}
use Rattle.goal_terms.specs.declared.scalars.IntTy.{IntTy}
use Rattle.goal_terms.specs.declared.scalars.IntTy.TheVariants as int
use Rattle.goal_terms.specs.declared.scalars.UintTy.{UintTy}
use Rattle.goal_terms.specs.declared.scalars.UintTy.TheVariants as uint
use Rattle.goal_terms.specs.declared.scalars.FloatTy.{FloatTy}
use Rattle.goal_terms.specs.declared.scalars.FloatTy.TheVariants as float

-- a name that is given, or a word and then a number
abbrev pub name_text : Name → List ℕ
name_text (Given s) = s.now
name_text (Numbered w n) = w.now ++ decimal n

-- the text of a parameter: `T`, `U` and `V` for the first three, and else `P` with its number
abbrev pub parameter_text : ℕ → List ℕ
parameter_text n =
    if n == 0 then codes "T" else (if n == 1 then codes "U" else (if n == 2 then codes "V" else codes "P" ++ decimal n))

-- the text of a signed integer type
abbrev pub int_text : IntTy → List ℕ
int_text int.Isize = codes "isize"
int_text int.I8 = codes "i8"
int_text int.I16 = codes "i16"
int_text int.I32 = codes "i32"
int_text int.I64 = codes "i64"
int_text int.I128 = codes "i128"

-- the text of an unsigned integer type
abbrev pub uint_text : UintTy → List ℕ
uint_text uint.Usize = codes "usize"
uint_text uint.U8 = codes "u8"
uint_text uint.U16 = codes "u16"
uint_text uint.U32 = codes "u32"
uint_text uint.U64 = codes "u64"
uint_text uint.U128 = codes "u128"

-- the text of a floating type
abbrev pub float_text : FloatTy → List ℕ
float_text float.F16 = codes "f16"
float_text float.F32 = codes "f32"
float_text float.F64 = codes "f64"
float_text float.F128 = codes "f128"

-- the text of a type that has no parts and no number
abbrev pub scalar_text : Head → Option (List ℕ)
scalar_text head.Bool = Some (codes "bool")
scalar_text head.Char = Some (codes "char")
scalar_text head.Str = Some (codes "str")
scalar_text head.Never = Some (codes "!")
scalar_text (head.Int i) = Some (int_text i)
scalar_text (head.Uint i) = Some (uint_text i)
scalar_text (head.Float i) = Some (float_text i)
scalar_text _ = None
