-- `put_line` meets its contract: a name, what follows it and a LF. Assumes nothing.
use Rattle.lister.proofs.Writing.{put_parts}
use Rattle.lister.proofs.line.put_line.Goals as goal

pub returns : goal.returns
returns c =
    put_parts c.args.place c.code_of-code.ensures c.kind_of-kind.ensures c.operand_of.ensures c.put_name-n.ensures c.put_spaced-m.ensures c.put_byte.ensures
