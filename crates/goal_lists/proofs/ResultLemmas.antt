-- What holds of a value.
use Rattle.std.specs.Prelude.{Result, Ok, Err, IfOk}

-- what holds of a value, by what implies it
pub ok-map : {A E : Type 0} (P Q : A → Type 0) (r : Result A E) → ((x : A) → P x → Q x) → IfOk r P → IfOk r Q
ok-map P Q (Ok x) f h = f x h
ok-map P Q (Err e) f h = tt
