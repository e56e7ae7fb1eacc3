-- What terms name.
use Rattle.std.specs.Prelude.{Option, Some, None}
use Rattle.std.specs.Option.{option_and_then}
use Rattle.vurloske_ast.specs.declared.ast.Args.{Args}
use Rattle.vurloske_ast.specs.declared.ast.Args.TheVariants as args
use Rattle.vurloske_ast.specs.declared.ast.Ident.{Ident}
use Rattle.vurloske_ast.specs.declared.ast.Segment.{Segment}
use Rattle.vurloske_ast.specs.declared.ast.Term.{Term}
use Rattle.vurloske_ast.specs.declared.ast.TermKind.{TermKind}
use Rattle.vurloske_ast.specs.declared.ast.TermKind.TheVariants as kind

abbrev pub path_of : TermKind → Option Segment
path_of (kind.Path s) = Some s
path_of _ = None

-- the name with arguments that a term is, if it is no more
abbrev pub path_in : Term → Option Segment
path_in t = path_of t.kind

abbrev pub without : Args → Ident → Option Ident
without args.Absent i = Some i
without _ i = None

-- the name that a term is, if it is no more
abbrev pub plain_name_in : Term → Option Ident
plain_name_in t = option_and_then (λ s. without s.args s.ident) (path_in t)
