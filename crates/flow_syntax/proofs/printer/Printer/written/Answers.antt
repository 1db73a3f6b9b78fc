use Rattle.std.specs.Char.{encode_utf8}
use Rattle.flow_syntax.proofs.Printing.{character_then, text_written}
use Rattle.flow_syntax.proofs.printer.Printer.written.Goals as goal

pub loop-c-preserved : goal.loop-c-preserved
loop-c-preserved c =
    character_then c.args.self.now c.loop-c.self c.character.new.self c.loop-c.c-iterator.rest.now c.next.new.self.rest.now (encode_utf8 c.in-Some.c) c.args.text.now c.loop-c.invariant c.in-Some.ensures.steps.0 c.in_ok-character.ensures

pub returns : goal.returns
returns c = text_written c.args.self.now c.loop-c.self c.loop-c.c-iterator.rest.now c.args.text.now c.loop-c.invariant c.in-None.ensures.steps.0.0
