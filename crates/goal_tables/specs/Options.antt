-- Tests of what an option holds.
use Rattle.std.specs.Prelude.{Bool, false, Option, Some, None}

-- a test of what an option holds
abbrev pub option_holds : {X : Type 0} → (X → Bool) → Option X → Bool
option_holds test None = false
option_holds test (Some x) = test x
