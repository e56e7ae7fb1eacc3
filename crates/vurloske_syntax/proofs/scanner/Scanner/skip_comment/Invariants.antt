use Rattle.vurloske_syntax.specs.Cuts.{Advances}
use Rattle.vurloske_syntax.proofs.scanner.Scanner.skip_comment.Given as goal

abbrev pub invariant-loop : goal.invariant-loop
invariant-loop l = Advances l.initial.self l.self
