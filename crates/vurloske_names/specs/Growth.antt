-- Lists to which something is added.
use Rattle.std.specs.Prelude.{◌≡◌, List, length, take}

-- the first list has the second at its front
abbrev pub BeginsWith : {A : Type 0} → List A → List A → Type 0
BeginsWith whole start = take (length start) whole ≡ start
