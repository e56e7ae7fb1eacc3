-- What stands at the front of a list stays there when more is added.
use Rattle.std.proofs.Common.{◌≤◌, List, [], ◌∷◌, ◌++◌, length, take, sym, ap, ◌∙◌, arith}
use Rattle.std.proofs.lemmas.List.{length-take, take-take, take-append-le}
use Rattle.std.proofs.Math.Seq.{take-length}
use Rattle.vurloske_names.specs.Growth.{BeginsWith}

beginning-shorter : {A : Type 0} (start whole : List A) → BeginsWith whole start → length start ≤ length whole
beginning-shorter start whole e = omega (arith, ap length e, length-take (length start) whole)

-- a list begins with itself
pub begins-same : {A : Type 0} (xs : List A) → BeginsWith xs xs
begins-same xs = take-length xs

-- a beginning of a beginning is one
pub begins-through : {A : Type 0} (start middle whole : List A) → BeginsWith middle start → BeginsWith whole middle → BeginsWith whole start
begins-through start middle whole e h =
    sym (take-take (length start) (length middle) whole (beginning-shorter start middle e)) ∙ ap (take (length start)) h ∙ e

-- one element more leaves the beginning
pub begins-more : {A : Type 0} (start whole : List A) (x : A) → BeginsWith whole start → BeginsWith (whole ++ (x ∷ [])) start
begins-more start whole x e = take-append-le (length start) whole (x ∷ []) (beginning-shorter start whole e) ∙ e

pub ruleset growing = (begins-same, begins-through, begins-more)
