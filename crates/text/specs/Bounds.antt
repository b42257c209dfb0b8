-- CELLS WHOSE LINES ARE SHORT: a state of one digit, and coordinates within −2^20 to 2^20. Definitions only; assumes nothing.
use Rattle.std.specs.Prelude.{List, [], ◌∷◌, ◌<◌}
use Rattle.exact.specs.Within.{Within}
use Rattle.table.specs.Table.{Record}

pub record Short (m : Record) : Type 0 where
  pub state : m.state < 10
  pub lx : Within 1048576 m.box.lx
  pub ly : Within 1048576 m.box.ly
  pub lz : Within 1048576 m.box.lz
  pub hx : Within 1048576 m.box.hx
  pub hy : Within 1048576 m.box.hy
  pub hz : Within 1048576 m.box.hz

-- so are all cells of a list
abbrev pub AllShort : List Record → Type 0
AllShort [] = Unit {0}
AllShort (m ∷ ms) = Short m × AllShort ms
