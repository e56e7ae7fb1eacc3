use Rattle.std.proofs.Common.{length, arith}
use Rattle.vurloske_syntax.specs.Cuts.{offset_of}
use Rattle.vurloske_syntax.proofs.CutLemmas.{InOrder-next, InOrder-wider, token-within, token-text}
use Rattle.vurloske_syntax.proofs.lexer.lex.Goals as goal

pub loop-preserved : goal.loop-preserved
loop-preserved c =
    let now = c.loop.invariant in
    let token = c.in_ok-next_token.ensures in
    record {
      in_order = rw c.in_ok-push.ensures.items (InOrder-next 0 c.loop.tokens.items c.in_ok-next_token.field-0 c.loop.scanner c.skip_blanks.new.self c.next_token.new.scanner now.within c.skip_blanks.ensures token.cuts token.start token.end now.in_order);
      within = token-within c.loop.scanner c.skip_blanks.new.self c.next_token.new.scanner now.within c.skip_blanks.ensures token.cuts;
      text = token-text c.loop.scanner c.skip_blanks.new.self c.next_token.new.scanner now.within c.skip_blanks.ensures token.cuts (length c.args.text.now) now.text;
    }

pub returns : goal.returns
returns c = InOrder-wider 0 c.loop.tokens.items (offset_of c.loop.scanner) (length c.args.text.now) c.loop.invariant.in_order (omega arith)
