-- Numbers that are read from a lent slice: they fit, so they are the same after their bits. Assumes nothing.
use mir.ValLaws.{to_z-of_z}

pub ruleset read_back = (to_z-of_z)
