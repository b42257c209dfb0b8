-- What has been tested. Assumes nothing.
use Rattle.calls.proofs.CallLaws.{fast_fits, near_is}
use Rattle.calls.proofs.calls.fast_distance.Goals as goal

pub fast_distance-requires : goal.fast_distance-requires
fast_distance-requires c =
    (fast_fits c.args.description c.in_ok-leaf.ensures.leaf c.in_ok-leaf.ensures.number, near_is c.args.p c.point_box.ensures c.in_ok-refuse_box.ensures)
