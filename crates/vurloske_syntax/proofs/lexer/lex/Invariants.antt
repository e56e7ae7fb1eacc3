use Rattle.std.proofs.Common.{◌≡◌, length}
use Rattle.vurloske_syntax.specs.Cuts.{InOrder, offset_of, IsWithin}
use Rattle.vurloske_syntax.proofs.lexer.lex.Given as goal

abbrev pub invariant-loop : goal.invariant-loop
invariant-loop l = record {
  in_order : InOrder 0 l.tokens.items (offset_of l.scanner);
  within : IsWithin l.scanner;
  text : length l.scanner.text.now ≡ length l.text;
}
