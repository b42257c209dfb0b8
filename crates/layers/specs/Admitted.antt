-- WHAT NO REFUSAL LEAVES OF A CALL: its run of layers, as the code keeps it. Definitions only; assumes nothing.
use Rattle.std.specs.Prelude.{◌≡◌, true, List, ℕ, ◌+◌, ◌*◌, ◌≤◌, ℤ}
use Rattle.tree.specs.Box.{unshifted}
use Rattle.sound.specs.Sound.{sound_of}
use Rattle.layers.specs.declared.calls.Run.{Run}
use Rattle.layers.specs.Layers.{layers_in}

-- in a buffer of `len` bytes
pub record Admitted (t : List ℕ) (low high : ℤ) (len : ℕ) (run : Run) : Type 0 where
  pub is_sound : sound_of t ≡ true
  pub low_is : unshifted run.low ≡ low
  pub many : run.layers ≡ layers_in low high
  pub most : run.low + run.layers ≤ 2097152
  pub room : 24 * run.layers ≤ len
