-- `print` meets its contract: what the assembler answers decides what is written over the zeros. Assumes nothing.
use Rattle.console.proofs.Printed as law
use Rattle.console.proofs.print.Goals as goal

pub returns-in-Ok : goal.returns-in-Ok
returns-in-Ok c =
    let s = c.args.source.now in
    let a = c.assemble in
    let e = law.printed_made s a.new.table a.result a.ensures.1 a.ensures.0 c.in-Ok.length c.in-Ok.is in
    law.shown s c.put_run.new.out _ c.put_run.result e c.put_run.ensures

pub returns-in-Err : goal.returns-in-Err
returns-in-Err c =
    let s = c.args.source.now in
    let a = c.assemble in
    let e = law.printed_fault s a.new.table a.result a.ensures.1 a.ensures.0 c.in-Err.fault c.in-Err.is in
    law.shown s c.put_refused.new.out _ c.put_refused.result e c.put_refused.ensures
