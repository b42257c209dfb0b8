-- One axis at a time: the three parts of a box joined are its residual. Assumes nothing.
use mathlib.Core.Path.{◌≡◌, refl, sym, ap, ◌∙◌}
use mathlib.Core.Bool.{Bool, true, false, cond, not, ◌&&◌}
use mathlib.Core.List.{List}
use Prim.Native.Nat.{ℕ}
use lib.Ieee.{Float}
use Rattle.std.specs.Prelude.{Option, Some, None, option_map}
use Rattle.interval.specs.declared.Interval.{Interval}
use Rattle.interval.specs.Interval.{Arithmetic, point, product, mid}
use Rattle.grade.specs.declared.Piece.{Piece}
use Rattle.grade.specs.declared.LinearIntervals.{LinearIntervals}
use Rattle.grade.specs.declared.GradeIntervals.{GradeIntervals}
use Rattle.grade.specs.Intervals.{box_at, zero, zeros, along_axis, parameter_of, parameter, piece_of}
use Rattle.grade.proofs.LinearLaws.{parameter_shares, piece_constant, interval_constant, piece_linear, interval_linear, affine_linear, start_gradient}
use Rattle.gyroid.specs.declared.Circle.{Circle}
use Rattle.gyroid.specs.declared.Gyroid.{Gyroid}
use Rattle.gyroid.specs.declared.Shares.{Shares}
use Rattle.gyroid.specs.declared.Part.{Part}
use Rattle.gyroid.specs.declared.LevelAbout.{LevelAbout}
use Rattle.gyroid.specs.Refusals.{ends_within, greatest_double, all_finite}
use Rattle.gyroid.specs.Turn.{turn}
use Rattle.gyroid.specs.Jet.{waves_of, waves, jet_of, jet}
use Rattle.gyroid.specs.Residual.{centre, radius, radii, second_order, expanded, expansion, less_level, residual_on, residual, state_of, box_state}
use Rattle.gyroid.specs.Parts.{shares, part_of, part, about_on, level_about, second_of, joined_about, less_about, joined_of, joined}
use Rattle.gyroid.proofs.InfiniteLaws.{none_residual}

-- ---- in either arithmetic
module _ (ar : Arithmetic) where
  abbrev part_by : Bool → Option Circle → Gyroid → ℕ → Interval → Option Part
  part_by q t g i b = cond (not q) None (option_map (part_of ar g.intervals i b) t)

  -- ---- the radius and the shares of a part that is found
  module _ (g : Gyroid) (i : ℕ) (b : Interval) where
    abbrev radius_or : Option Part → Float
    radius_or (Some p) = p.radius
    radius_or None = radius ar b

    pub radius_found : {p : Part} → part ar g i b ≡ Some p → p.radius ≡ radius ar b
    unfolding part
    radius_found e = sym (ap radius_or e) ∙ go (ends_within greatest_double b) (turn ar g (product (point (mid b)) g.turns))
      where
        go : (q : Bool) (t : Option Circle) → radius_or (part_by q t g i b) ≡ radius ar b
        go true (Some c) = refl
        go true None = refl
        go false t = refl

    abbrev own_shares : Shares
    own_shares = shares ar g.intervals i b (point (mid b))

    abbrev shares_or : Option Part → Shares
    shares_or (Some p) = p.shares
    shares_or None = own_shares

    shares_found : {p : Part} → part ar g i b ≡ Some p → p.shares ≡ own_shares
    unfolding part
    shares_found e = sym (ap shares_or e) ∙ go (ends_within greatest_double b) (turn ar g (product (point (mid b)) g.turns))
      where
        go : (q : Bool) (t : Option Circle) → shares_or (part_by q t g i b) ≡ own_shares
        go true (Some c) = refl
        go true None = refl
        go false t = refl

  -- ---- the expansion about the centre, for any level, from parts
  abbrev pub expansion_of : Gyroid → Option Part → Option Part → Option Part → Interval → List Interval → Option Interval
  expansion_of g None y z level slope = None
  expansion_of g (Some x) None z level slope = None
  expansion_of g (Some x) (Some y) None level slope = None
  expansion_of g (Some x) (Some y) (Some z) level slope = Some (joined_about ar g x y z level slope)

  module _ (g : Gyroid) (w : List Interval) where
    abbrev x : Option Part
    x = part ar g 0 (box_at w 0)

    abbrev y : Option Part
    y = part ar g 1 (box_at w 1)

    abbrev z : Option Part
    z = part ar g 2 (box_at w 2)

    pub expansion_joined : (level : Interval) (slope : List Interval) → expansion ar g w level slope ≡ expansion_of g x y z level slope
    unfolding expansion all_finite jet waves centre radii part second_of joined_about
    expansion_joined level slope =
        go (ends_within greatest_double (box_at w 0)) (ends_within greatest_double (box_at w 1)) (ends_within greatest_double (box_at w 2))
        (turn ar g (product (point (mid (box_at w 0))) g.turns)) (turn ar g (product (point (mid (box_at w 1))) g.turns))
        (turn ar g (product (point (mid (box_at w 2))) g.turns))
      where
        of_jet : Option Circle → Option Circle → Option Circle → Option Interval
        of_jet p q r = option_map (expanded ar (second_order ar g.surface g.wave_squared (radii ar w)) level slope (radii ar w))
            (option_map (jet_of ar g.surface g.wave) (waves_of p q r))

        go : (a b c : Bool) (p q r : Option Circle) → cond (not (a && b && c)) None (of_jet p q r)
            ≡ expansion_of g (part_by a p g 0 (box_at w 0)) (part_by b q g 1 (box_at w 1)) (part_by c r g 2 (box_at w 2)) level slope
        go false b c p q r = refl
        go true false c (Some s) q r = refl
        go true false c None q r = refl
        go true true false (Some s) (Some t) r = refl
        go true true false (Some s) None r = refl
        go true true false None q r = refl
        go true true true (Some s) (Some t) (Some u) = refl
        go true true true (Some s) (Some t) None = refl
        go true true true (Some s) None r = refl
        go true true true None q r = refl

    -- ---- where all three parts are found
    module _ {p q r : Part} (on_x : x ≡ Some p) (on_y : y ≡ Some q) (on_z : z ≡ Some r) where
      expansion_found : (level : Interval) (slope : List Interval) → Some (joined_about ar g p q r level slope) ≡ expansion ar g w level slope
      expansion_found level slope = sym (expansion_joined level slope ∙ (λ j. expansion_of g (on_x j) (on_y j) (on_z j) level slope))

      at_level : {a b : Interval} (slope : List Interval) → a ≡ b → Some (joined_about ar g p q r a slope) ≡ expansion ar g w b slope
      at_level {b} slope e = (λ j. Some (joined_about ar g p q r (e j) slope)) ∙ expansion_found b slope

      -- the level about the centre of the box
      abbrev about_box : LevelAbout
      about_box = level_about ar g.intervals (own_shares g 0 (box_at w 0)) (own_shares g 1 (box_at w 1)) (own_shares g 2 (box_at w 2))

      shares_about : Some (joined_of ar g p q r) ≡ Some (less_about ar g p q r about_box)
      unfolding joined_of
      shares_about = λ j. Some (less_about ar g p q r (level_about ar g.intervals (shares_found g 0 (box_at w 0) on_x j)
          (shares_found g 1 (box_at w 1) on_y j) (shares_found g 2 (box_at w 2) on_z j)))

  -- ---- a leaf by its levels
  module _ (g : Gyroid) (w : List Interval) where
    abbrev with : GradeIntervals → Gyroid
    with k = record g { intervals = k }

    module _ {p q r : Part} (l : LinearIntervals) (on_x : x (with (GradeIntervals.Linear l)) w ≡ Some p)
        (on_y : y (with (GradeIntervals.Linear l)) w ≡ Some q) (on_z : z (with (GradeIntervals.Linear l)) w ≡ Some r) where
      abbrev h : Gyroid
      h = with (GradeIntervals.Linear l)

      on_piece : (a : Option Piece) → Some (less_about ar h p q r (about_on ar a l (parameter ar l w) (parameter ar l (centre w)))) ≡ residual_on ar a h w
      on_piece (Some Piece.Start) = at_level h w on_x on_y on_z _ (sym (interval_linear ar l (centre w)))
      on_piece (Some Piece.Ramp) = at_level h w on_x on_y on_z _ (sym (affine_linear ar l (centre w)))
      on_piece (Some Piece.End) = at_level h w on_x on_y on_z _ (sym (interval_linear ar l (centre w)))
      on_piece None = λ j. less_level ar (expansion_found h w on_x on_y on_z zero zeros j) (sym (interval_linear ar l w) j)

      m_is : parameter_of ar l (along_axis ar l 0 (point (mid (box_at w 0)))) (along_axis ar l 1 (point (mid (box_at w 1))))
          (along_axis ar l 2 (point (mid (box_at w 2)))) ≡ parameter ar l (centre w)
      unfolding centre
      m_is = sym (parameter_shares ar l (centre w))

      linear_case : Some (less_about ar h p q r (about_box h w on_x on_y on_z)) ≡ residual ar h w
      unfolding level_about shares residual
      linear_case = rw (m_is, sym (parameter_shares ar l w)) (on_piece (piece_of (parameter ar l w)))
          ∙ ap (λ (a : Option Piece). residual_on ar a h w) (sym (piece_linear ar l w))

    by_level : (k : GradeIntervals) {p q r : Part} (on_x : x (with k) w ≡ Some p) (on_y : y (with k) w ≡ Some q) (on_z : z (with k) w ≡ Some r)
        → Some (less_about ar (with k) p q r (about_box (with k) w on_x on_y on_z)) ≡ residual ar (with k) w
    unfolding level_about residual
    by_level (GradeIntervals.Constant v) e f h =
        let g = with (GradeIntervals.Constant v) in
        expansion_found g w e f h v zeros
        ∙ (λ j. expansion ar g w (sym (interval_constant ar v (centre w)) j) (sym (start_gradient (GradeIntervals.Constant v)) j))
        ∙ ap (λ (a : Option Piece). residual_on ar a g w) (sym (piece_constant ar v w))
    by_level (GradeIntervals.Linear l) e f h = linear_case l e f h

    -- ---- THE LAW
    pub joined_residual : joined ar g (x g w) (y g w) (z g w) ≡ residual ar g w
    joined_residual = go (x g w) (y g w) (z g w) refl refl refl
      where
        go : (p q r : Option Part) → x g w ≡ p → y g w ≡ q → z g w ≡ r → joined ar g p q r ≡ residual ar g w
        go None q r e f h =
            sym (none_residual ar g w (λ level slope. expansion_joined g w level slope ∙ (λ j. expansion_of g (e j) (y g w) (z g w) level slope)))
        go (Some p) None r e f h =
            sym (none_residual ar g w (λ level slope. expansion_joined g w level slope ∙ (λ j. expansion_of g (e j) (f j) (z g w) level slope)))
        go (Some p) (Some q) None e f h =
            sym (none_residual ar g w (λ level slope. expansion_joined g w level slope ∙ (λ j. expansion_of g (e j) (f j) (h j) level slope)))
        go (Some p) (Some q) (Some r) e f h = shares_about g w e f h ∙ by_level g.intervals e f h

    -- the other way round, as the code's proof takes it
    pub residual_joined : residual ar g w ≡ joined ar g (x g w) (y g w) (z g w)
    residual_joined = sym joined_residual

    pub joined_state : state_of (joined ar g (x g w) (y g w) (z g w)) ≡ box_state ar g w
    unfolding box_state
    joined_state = ap state_of joined_residual
