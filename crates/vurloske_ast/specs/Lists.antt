use Rattle.std.specs.Prelude.{◌+◌, List, [], length, take, drop, nat_le, if◌then◌else◌}
use Rattle.vurloske_ast.specs.declared.ast.Run.{Run}

-- what a run is of a list: nothing where the list ends before it does
abbrev pub part_of : {X : Type 0} → List X → Run → List X
part_of xs run = if nat_le (run.first + run.len) (length xs) then take run.len (drop run.first xs) else []
