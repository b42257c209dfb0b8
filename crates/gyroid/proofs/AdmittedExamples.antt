-- One admitted residual of each surface, worked by computation: a ramp along y, a box whose quarter numbers are 1, 2 and −1, and a choice in
-- which no error is zero; e is minus half its bound for the network, and minus its bound for the primitive surface. The fractions are those of a
-- script that was written from documents 01 and 02 alone. Assumes nothing.
use mathlib.Core.Path.{◌≡◌, refl}
use mathlib.Core.List.{List, [], ◌∷◌}
use Prim.Native.Nat.{ℕ, zero, suc}
use lib.Dec.{T, lit<}
use lib.IntN.{ℤ, pos, negsuc, ◌*ℤ◌}
use lib.Signed.{le_z, le_z_yes}
use lib.Ieee.{of_bits, to_bits, is_nan, neg, add, mul, lt, round}
use Rattle.exact.specs.Fraction.{Fraction, den_z, ratio, whole, ◌+F◌, ◌-F◌, ◌*F◌, ◌/F◌, neg_f, ◌≤F◌, ◌≈F◌, AbsF, min_f, max_f, held_f}
use Rattle.interval.specs.Step.{b64, next_up, next_down}
use Rattle.interval.specs.Interval.{product, mid}
use Rattle.interval.specs.Nearest.{from_rational}
use Rattle.interval.specs.Floor.{quarter_number}
use Rattle.grade.specs.Grade as grade
use Rattle.limits.specs.Ticks.{at, ticks}
use Rattle.grade.specs.Grade.{minus, dot, Point, along, t, level}
use Rattle.grade.specs.Exact.{linear_of, compiled}
use Rattle.grade.specs.Certified.{axis, distance, rise, linear_certification, certification}
use Rattle.grade.specs.Holds.{InBox, AtTick}
use Rattle.grade.proofs.Axes.{three}
use Rattle.gyroid.specs.declared.Description.{Description}
use Rattle.gyroid.specs.Description.{in_limits, frame_in_limits, part_frame}
use Rattle.gyroid.specs.Refusals.{refusal}
use Rattle.gyroid.specs.Fits.{Accepted}
use Rattle.gyroid.specs.Admitted.{half_width, tick_box, sine_polynomial, cosine_polynomial, sine_tail, cosine_tail, turned_by, bracket_of, surface}
use Rattle.gyroid.specs.Admitted.{quarter, wave, Chosen, waves, admitted}

abbrev description : ℤ → Description
description kind = record {
  period = pos 3000;
  kind = kind;
  level = record { kind = pos 1; from = pos 0 ∷ pos 0 ∷ pos 0 ∷ []; to = pos 0 ∷ pos 10240 ∷ pos 0 ∷ []; start = negsuc 255; end = pos 256 };
  frame = record { w = pos 1; x = pos 0; y = pos 0; z = pos 0; translation = pos 0 ∷ pos 0 ∷ pos 0 ∷ [] };
}

abbrev network : Description
network = description (pos 0)

abbrev primitive : Description
primitive = description (pos 2)

abbrev lows : List ℤ
lows = pos 745 ∷ pos 1500 ∷ negsuc 756 ∷ []

abbrev highs : List ℤ
highs = pos 751 ∷ pos 1502 ∷ negsuc 738 ∷ []

accepted : Accepted network × Accepted primitive
unfolding refusal in_limits frame_in_limits part_frame grade.in_limits minus dot linear_of compiled axis distance rise linear_certification certification
accepted = (record { none = refl }, record { none = refl })

limits : T (ticks lows) × T (ticks highs)
limits = (tt, tt)

-- a box of ticks is one that a caller can pass: the listing's inside cell, from 0 to 512 and twice from 0 to 1024, by the bits of its ends
bits : tick_box (pos 0 ∷ pos 0 ∷ pos 0 ∷ []) (pos 512 ∷ pos 1024 ∷ pos 1024 ∷ []) ≡ record { lo = b64 0; hi = b64 0x3fe0_0000_0000_0000 } ∷ record { lo = b64 0; hi = b64 0x3ff0_0000_0000_0000 } ∷ record { lo = b64 0; hi = b64 0x3ff0_0000_0000_0000 } ∷ []
unfolding of_bits round
bits = refl

-- −0 is the tick 0 too
minus_zero : AtTick (b64 0x8000_0000_0000_0000) (pos 0)
unfolding of_bits ◌/F◌
minus_zero = record { finite = tt; value = record { eq = refl } }

quarters : (quarter network lows highs 0 ≡ pos 1) × (quarter network lows highs 1 ≡ pos 2) × (quarter network lows highs 2 ≡ negsuc 0)
unfolding of_bits to_bits is_nan neg add mul lt round next_up next_down product mid from_rational quarter_number
quarters = (refl, refl, refl)

-- ---- what is chosen
-- a size, by its two comparisons multiplied out
decided : {x a : Fraction} → T (le_z ((neg_f a).num *ℤ den_z x) (x.num *ℤ den_z (neg_f a))) → T (le_z (x.num *ℤ den_z a) (a.num *ℤ den_z x)) → AbsF x a
decided l h = record { low = record { le = le_z_yes l }; high = record { le = le_z_yes h } }

abbrev sine_error : ℕ → Fraction
sine_error zero = ratio (pos 2097152) 35403383781909942626953125 (lit< tt)
sine_error (suc zero) = ratio (pos 4194304) 106210151345729827880859375 (lit< tt)
sine_error (suc (suc i)) = ratio (negsuc 4194303) 35403383781909942626953125 (lit< tt)

abbrev cosine_error : ℕ → Fraction
cosine_error zero = ratio (negsuc 1048575) 372667197704315185546875 (lit< tt)
cosine_error (suc zero) = ratio (pos 1048576) 372667197704315185546875 (lit< tt)
cosine_error (suc (suc i)) = ratio (pos 1048576) 2608670383930206298828125 (lit< tt)

abbrev w : Fraction
w = ratio (pos 491701844) 78256779 (lit< tt)

-- the bound of e
abbrev most : Description → Fraction
most d =
    let k = wave d lows highs w in
    k *F k *F bracket_of (surface d lows highs) (half_width lows highs 0) (half_width lows highs 1) (half_width lows highs 2)

-- with any e within it
choice : (d : Description) (e : Fraction) → AbsF e (most d) → Chosen d lows highs
unfolding of_bits neg_f
choice d e within = record {
  w = w;
  sine_error = sine_error;
  cosine_error = cosine_error;
  e = e;
  w_between = record { above = record { le = le_z_yes tt }; below = record { le = le_z_yes tt } };
  sine_within = three (λ i. AbsF (sine_error i) sine_tail) (decided tt tt) (decided tt tt) (decided tt tt);
  cosine_within = three (λ i. AbsF (cosine_error i) cosine_tail) (decided tt tt) (decided tt tt) (decided tt tt);
  e_within = within;
}

chosen : Chosen network lows highs
unfolding ◌+F◌ ◌*F◌ ◌/F◌ neg_f
chosen = choice network (ratio (negsuc 196438696506812772) 688963889188669612500 (lit< tt)) (decided tt tt)

chosen_primitive : Chosen primitive lows highs
unfolding ◌+F◌ ◌*F◌ ◌/F◌ neg_f
chosen_primitive = choice primitive (ratio (negsuc 1375070875547689410) 6889638891886696125000 (lit< tt)) (decided tt tt)

-- ---- where, and the admitted residuals there
abbrev place : Point
place zero = ratio (pos 5241) 7 (lit< tt)
place (suc zero) = ratio (pos 1501) 1 (lit< tt)
place (suc (suc i)) = ratio (negsuc 2244) 3 (lit< tt)

place_inside : InBox lows highs place
place_inside = record {
  above = three (λ i. whole (at lows i) ≤F place i) (record { le = le_z_yes tt }) (record { le = le_z_yes tt }) (record { le = le_z_yes tt });
  below = three (λ i. place i ≤F whole (at highs i)) (record { le = le_z_yes tt }) (record { le = le_z_yes tt }) (record { le = le_z_yes tt });
}

worked : admitted network lows highs chosen place ≈F ratio
    (negsuc 3365019240659292241864788064448494962193758335891209804353945609268418906725240319281088369331298902437932097193040401161966649498145886514660062444357135543940577101472071936032918336783631996610010411137712302622124746626189279070246104824811412916195858954562497784823215851721941754021258653371009737199622486339777023192418397007463114310163264502541544218463000856991096136791758226918882753119415782)
    4072534404815028044062559070606464689805027151055716675470784334748827469412966303584162543254493039081290503651438957808431989410764292244292756598295121800554710604115172645927550362602042878074069487809379681178463170104843416434030441353540868190290163508969707644173888731147584714040825212678089861682518845061549972452752399476594291627407073974609375000000000000000000000000000000000000000000000000 (lit< tt)
unfolding choice chosen of_bits to_bits is_nan neg add mul lt round next_up next_down product mid from_rational quarter_number ◌+F◌ ◌-F◌ ◌*F◌ ◌/F◌ neg_f
    min_f max_f held_f minus dot along t level turned_by sine_polynomial cosine_polynomial waves admitted
worked = record { eq = refl }

worked_primitive : admitted primitive lows highs chosen_primitive place ≈F ratio
    (negsuc 13500208951021259517697681998225058766315121475010917783215765817037276094470818103360282469432598393638144888356108726934111126879252875163130304682739500030999891703227956299224937810108488583852230)
    16517957921759522813058137787781492312922243514976750400522349711453010457200327471424518816475917991979750804473696887689316486180175915339340863885379624366760253906250000000000000000000000000000000 (lit< tt)
unfolding choice chosen_primitive of_bits to_bits is_nan neg add mul lt round next_up next_down product mid from_rational quarter_number ◌+F◌ ◌-F◌ ◌*F◌ ◌/F◌ neg_f
    min_f max_f held_f minus dot along t level turned_by sine_polynomial cosine_polynomial waves admitted
worked_primitive = record { eq = refl }
