-- DEMAND 3 of the table that the walk leaves, under either arithmetic: what it supposes and what it says, a field for each part of its
-- sentences, which stand in quotes. "Demand 3 reads the cells, their states and slot 0's numbers of cells and evaluated from the table's bytes
-- after the walk. The rest comes from description, box and D alone", and, by document 02's L6, from "the rule in use". Coordinates are signed ticks
-- and points rational. Definitions only; assumes nothing.
use Rattle.std.specs.Prelude.{◌≡◌, true, false, List, [], ◌∷◌, ◌⊎◌, ℕ, suc, ◌+◌, ◌*◌, ◌^◌, ◌≤◌, T, ℤ, pos, nat_abs, length, ◌≤ℤ◌, ◌<ℤ◌}
use Rattle.exact.specs.Fraction.{zero_f, ◌<F◌}
use Rattle.interval.specs.Interval.{Arithmetic}
use Rattle.limits.specs.Ticks.{ticks}
use Rattle.grade.specs.Grade.{Point}
use Rattle.grade.specs.Holds.{InBox}
use Rattle.gyroid.specs.declared.Description.{Description}
use Rattle.gyroid.specs.declared.State.TheVariants.{Unsettled}
use Rattle.gyroid.specs.Refusals.{refusal}
use Rattle.gyroid.specs.Leaf.{leaf}
use Rattle.gyroid.specs.Admitted.{Chosen, admitted}
use Rattle.tree.specs.declared.Axis.{Axis}
use Rattle.tree.specs.Box.{Box, box_from, low, high, lows, highs, one_cube, volume, holds_cube, holders, area_at}
use Rattle.tree.specs.Tree.{Cell}
use Rattle.table.specs.Table.{Record}
use Rattle.table.specs.Read.{first_in, cells_in, evaluated_in, solid_in, open_in, TwoZeros, records_in, chain_end}
use Rattle.sound.specs.Sound.{sound_of}
use Rattle.layers.specs.Layers.{crossing}
use Rattle.walk.specs.declared.TieRule.{TieRule}
use Rattle.walk.specs.Walk.{cut_of, state_at, cells_of, evaluated_of, solid_of}

-- every cell of the table has a property
abbrev pub Every : (Record → Type 0) → List Record → Type 0
Every P [] = Unit {0}
Every P (m ∷ ms) = P m × Every P ms

-- the cells of the table and those of the tree are as many, and have a property one by one
abbrev pub Pairwise : (Record → Cell → Type 0) → List Record → List Cell → Type 0
Pairwise P [] [] = Unit {0}
Pairwise P [] (c ∷ cs) = ⊥
Pairwise P (m ∷ ms) [] = ⊥
Pairwise P (m ∷ ms) (c ∷ cs) = P m c × Pairwise P ms cs

-- the boxes of the table's records
unfoldable pub record_boxes : List Record → List Box
record_boxes [] = []
record_boxes (m ∷ ms) = m.box ∷ record_boxes ms

module _ (d : Description) where
  -- "its admitted residuals are those with its own centre and half-widths", at a rational point of a cell, "faces included"
  abbrev pub AllBelowZero : Box → Type 0
  AllBelowZero b = (p : Point) → InBox (lows b) (highs b) p → (h : Chosen d (lows b) (highs b)) → admitted d (lows b) (highs b) h p <F zero_f

  abbrev pub AllAboveZero : Box → Type 0
  AllAboveZero b = (p : Point) → InBox (lows b) (highs b) p → (h : Chosen d (lows b) (highs b)) → zero_f <F admitted d (lows b) (highs b) h p

module _ (ar : Arithmetic) where
  -- what is supposed of a description, of the lows and highs of a box, of a depth, of a tie rule and of the length of a table
  pub record Supposed (d : Description) (lo hi : List ℤ) (D : ℤ) (rule : TieRule) (len : ℕ) : Type 0 where
    -- "Let a description be accepted,
    pub accepted : refusal d ≡ 0
    -- a box of whole ticks keep document 01's limits
    pub lows : T (ticks lo)
    pub highs : T (ticks hi)
    -- with every span at least 1,
    pub spans : (a : Axis) → low a (box_from lo hi) <ℤ high a (box_from lo hi)
    -- and the depth D be 0
    pub depth_least : pos 0 ≤ℤ D
    -- to 24."
    pub depth_most : D ≤ℤ pos 24
    -- "Let the table hold its head and all the cells", in slots of 32 bytes, "whatever its bytes were before"
    pub room : 32 * (1 + length (cells_of ar (leaf ar d) (cut_of rule d) (nat_abs D) (box_from lo hi))) ≤ len

  module _ (d : Description) where
    -- the residual does not settle the cell's box, "and it stands at depth D or is one tick cube"
    pub record Undecided (D : ℕ) (m : Record) : Type 0 where
      pub not_settled : state_at ar (leaf ar d) m.box ≡ Unsettled
      pub ended : (m.depth ≡ D) ⊎ (one_cube m.box ≡ true)

    -- of the box b, the depth D, the rule in use and the bytes t
    pub record Demand (b : Box) (D : ℕ) (rule : TieRule) (t : List ℕ) : Type 0 where
      -- "Each tick cube of the box is in exactly one cell,
      pub one_cell : (x y z : ℤ) → holds_cube x y z b ≡ true → holders x y z (record_boxes (records_in t)) ≡ 1
      -- and no cube outside the box is in any."
      pub no_cell : (x y z : ℤ) → holds_cube x y z b ≡ false → holders x y z (record_boxes (records_in t)) ≡ 0
      -- "At every rational point of a cell marked inside, all of the cell's admitted residuals are below zero."
      pub inside : Every (λ m. m.state ≡ 1 → AllBelowZero d m.box) (records_in t)
      -- "At every rational point of one marked outside, all are above zero."
      pub outside : Every (λ m. m.state ≡ 2 → AllAboveZero d m.box) (records_in t)
      -- "A cell is unsettled exactly when demand 2's residual doesn't settle its box and it stands at depth D or is one tick cube."
      pub unsettled : Every (λ m. (m.state ≡ 3 → Undecided D m) × (Undecided D m → m.state ≡ 3)) (records_in t)
      -- "The table's cells are the tree's, in walk order,
      pub walk_order : Pairwise (λ m c. (m.box ≡ c.box) × (m.depth ≡ c.depth)) (records_in t) (cells_of ar (leaf ar d) (cut_of rule d) D b)
      -- and one that isn't unsettled is marked inside or outside."
      pub marked : Every (λ m. (m.state ≡ 3 → ⊥) → (m.state ≡ 1) ⊎ (m.state ≡ 2)) (records_in t)
      -- of each cell's state word, document 02's L4: "state, depth, and two zeros"
      pub zeros : (slot : ℕ) → 1 ≤ slot → slot ≤ cells_in t → TwoZeros t slot
      -- "Evaluated = 2 × cells − 1, at most 2^(D+1) − 1", and it is the number of boxes in the tree
      pub evaluated : evaluated_in t + 1 ≡ 2 * cells_in t
      pub evaluated_most : evaluated_in t + 1 ≤ 2 ^ suc D
      pub evaluated_tree : evaluated_in t ≡ evaluated_of ar (leaf ar d) (cut_of rule d) D b
      -- the chain starts at slot 1 and ends after the last cell; the volumes of slot 0
      pub first : first_in t ≡ 1
      pub ends : chain_end (cells_in t) t (first_in t) ≡ 0
      pub solid : solid_in t ≡ solid_of ar (leaf ar d) (cut_of rule d) D b
      pub rest : solid_in t + open_in t ≡ volume b
      -- document 02's L5: the table is "sound",
      pub sound : sound_of t ≡ true
      -- and "the area of the cells crossing that layer" is, in each layer, the box's
      pub layer_area : (z : ℤ) → crossing z (records_in t) ≡ area_at z b
