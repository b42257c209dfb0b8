-- Each case gives the half on its axis. Assumes nothing.
use Rattle.tree.proofs.ShiftedHalves.{half_x, half_y, half_z}
use Rattle.tree.proofs.ShiftedBox.half.Goals as goal

pub returns-in-X : goal.returns-in-X
returns-in-X c = half_x c.args.self c.requires c.args.h c.in-X.is c.half.ensures

pub returns-in-Y : goal.returns-in-Y
returns-in-Y c = half_y c.args.self c.requires c.args.h c.in-Y.is c.half-in-Y.ensures

pub returns-in-Z : goal.returns-in-Z
returns-in-Z c = half_z c.args.self c.requires c.args.h c.in-Z.is c.half-in-Z.ensures
