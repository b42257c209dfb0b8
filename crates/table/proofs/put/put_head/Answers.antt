-- Six runs, each where the last ended. Assumes nothing.
use Rattle.table.proofs.Stored.{head_stored}
use Rattle.table.proofs.put.put_head.Goals as goal

pub returns : goal.returns
returns c =
    let a = c.args in
    head_stored a.t.now a.head c.put_u32.ensures c.put_u32-2.ensures c.put_u32-3.ensures c.put_u64.ensures
    c.put_u64-2.ensures c.put_u32-4.ensures
