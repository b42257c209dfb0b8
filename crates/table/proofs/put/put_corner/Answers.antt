-- Three coordinates, each where the last ended. Assumes nothing.
use Rattle.table.proofs.Stored.{corner_stored}
use Rattle.table.proofs.put.put_corner.Goals as goal

pub returns : goal.returns
returns c =
    let a = c.args in
    corner_stored a.t.now a.at a.x a.y a.z c.put_coordinate.ensures c.put_coordinate-2.ensures c.put_coordinate-3.ensures
