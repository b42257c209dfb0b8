-- Worked examples, by computation: the definitions at the ends of the format, and against numbers that were worked out independently of them.
-- Assumes nothing.
use Rattle.std.proofs.Common.{◌≡◌, true, false, T, pos, negsuc, refl, lit<, lit≤}
use lib.Ieee.{Float, nan, inf, of_bits, to_bits, mul, add, sub, div, round, lt, neg, is_nan}
use Rattle.exact.specs.Fraction.{Fraction, ratio, ◌+F◌, ◌-F◌, ◌*F◌, ◌≈F◌}
use lib.Ieee.Scale.{finite}
use Rattle.interval.specs.declared.Interval.{Interval}
use Rattle.interval.specs.Step.{b64, next_up, next_down}
use Rattle.interval.specs.Interval.{Arithmetic, Wide, Narrow, point, two_pi, exact_sum, exact_difference, sum, difference, product, quotient, square, mid}
use Rattle.interval.specs.Nearest.{nearest, from_rational}
use Rattle.interval.specs.Floor.{floor, mod_four}
use Rattle.interval.specs.Encloses.{value, ◌∈◌}
use Rattle.interval.proofs.Membership.{In}
use Rattle.interval.proofs.Encloses.{sub_encloses, mul_encloses, fraction_encloses}
use Rattle.interval.proofs.Exact.{binary, nearest_exact, mid_exact}
use Rattle.interval.proofs.Quotient.{div_encloses, fraction_apart}

abbrev one : Float
one = b64 0x3ff0_0000_0000_0000

abbrev two : Float
two = b64 0x4000_0000_0000_0000

-- ---- the steps at the ends of the format
after_one : next_up (b64 0x3ff0_0000_0000_0000) ≡ b64 0x3ff0_0000_0000_0001
unfolding next_up next_down sum product quotient square from_rational of_bits to_bits is_nan neg add mul div lt round
after_one = refl

before_one : next_down (b64 0x3ff0_0000_0000_0000) ≡ b64 0x3fef_ffff_ffff_ffff
unfolding next_up next_down sum product quotient square from_rational of_bits to_bits is_nan neg add mul div lt round
before_one = refl

after_zero : next_up (b64 0) ≡ b64 1
unfolding next_up next_down sum product quotient square from_rational of_bits to_bits is_nan neg add mul div lt round
after_zero = refl

after_minus_zero : next_up (b64 0x8000_0000_0000_0000) ≡ b64 1
unfolding next_up next_down sum product quotient square from_rational of_bits to_bits is_nan neg add mul div lt round
after_minus_zero = refl

before_zero : next_down (b64 0) ≡ b64 0x8000_0000_0000_0001
unfolding next_up next_down sum product quotient square from_rational of_bits to_bits is_nan neg add mul div lt round
before_zero = refl

to_minus_zero : next_up (b64 0x8000_0000_0000_0001) ≡ b64 0x8000_0000_0000_0000
unfolding next_up next_down sum product quotient square from_rational of_bits to_bits is_nan neg add mul div lt round
to_minus_zero = refl

into_the_normal : next_up (b64 0x000f_ffff_ffff_ffff) ≡ b64 0x0010_0000_0000_0000
unfolding next_up next_down sum product quotient square from_rational of_bits to_bits is_nan neg add mul div lt round
into_the_normal = refl

after_the_largest : next_up (b64 0x7fef_ffff_ffff_ffff) ≡ inf false
unfolding next_up next_down sum product quotient square from_rational of_bits to_bits is_nan neg add mul div lt round
after_the_largest = refl

infinity_stays : next_up (inf false) ≡ inf false
unfolding next_up next_down sum product quotient square from_rational of_bits to_bits is_nan neg add mul div lt round
infinity_stays = refl

before_infinity : next_down (inf false) ≡ b64 0x7fef_ffff_ffff_ffff
unfolding next_up next_down sum product quotient square from_rational of_bits to_bits is_nan neg add mul div lt round
before_infinity = refl

after_minus_infinity : next_up (inf true) ≡ b64 0xffef_ffff_ffff_ffff
unfolding next_up next_down sum product quotient square from_rational of_bits to_bits is_nan neg add mul div lt round
after_minus_infinity = refl

nan_stays : next_up nan ≡ nan
unfolding next_up next_down sum product quotient square from_rational of_bits to_bits is_nan neg add mul div lt round
nan_stays = refl

-- ---- the first 22 digits of 2π lie between the ends of `two_pi`
two_pi_is : ratio (pos 6283185307179586476925) 1000000000000000000000 (lit< tt) ∈ two_pi
unfolding next_up next_down sum product quotient square from_rational of_bits to_bits is_nan neg add mul div lt round
two_pi_is = record { above = record { le = record { le = tt } }; below = record { le = record { le = tt } } }

-- ---- sums under either arithmetic
-- 1 + 2 is exact
one_and_two : sum Narrow (point one) (point two) ≡ record { lo = b64 0x4008_0000_0000_0000; hi = b64 0x4008_0000_0000_0000 }
unfolding next_up next_down sum difference exact_sum exact_difference ◌+F◌ ◌-F◌ of_bits to_bits is_nan neg add sub mul lt round
one_and_two = refl

one_and_two_wide : sum Wide (point one) (point two) ≡ record { lo = b64 0x4007_ffff_ffff_ffff; hi = b64 0x4008_0000_0000_0001 }
unfolding next_up next_down sum difference exact_sum exact_difference ◌+F◌ ◌-F◌ of_bits to_bits is_nan neg add sub mul lt round
one_and_two_wide = refl

-- the sum of the doubles 0.1 and 0.2 is rounded up, and steps up all the same
tenths : (ar : Arithmetic) → sum ar (point (b64 0x3fb9_9999_9999_999a))
    (point (b64 0x3fc9_9999_9999_999a)) ≡ record { lo = b64 0x3fd3_3333_3333_3333; hi = b64 0x3fd3_3333_3333_3335 }
unfolding next_up next_down sum difference exact_sum exact_difference ◌+F◌ ◌-F◌ of_bits to_bits is_nan neg add sub mul lt round
tenths Wide = refl
tenths Narrow = refl

-- 0.1 − 0.1 is zero
nothing_left : difference Narrow (point (b64 0x3fb9_9999_9999_999a)) (point (b64 0x3fb9_9999_9999_999a)) ≡ point (b64 0)
unfolding next_up next_down sum difference exact_sum exact_difference ◌+F◌ ◌-F◌ of_bits to_bits is_nan neg add sub mul lt round
nothing_left = refl

-- each end by itself: 1 + 2 and 0.1 + 0.2
one_end : sum Narrow (record { lo = b64 0x3fb9_9999_9999_999a; hi = one })
    (record { lo = b64 0x3fc9_9999_9999_999a; hi = two }) ≡ record { lo = b64 0x3fd3_3333_3333_3333; hi = b64 0x4008_0000_0000_0000 }
unfolding next_up next_down sum difference exact_sum exact_difference ◌+F◌ ◌-F◌ of_bits to_bits is_nan neg add sub mul lt round
one_end = refl

-- twice the largest double is beyond the format: it is no exact end, and steps
overflow : (ar : Arithmetic) → sum ar (point (b64 0x7fef_ffff_ffff_ffff))
    (point (b64 0x7fef_ffff_ffff_ffff)) ≡ record { lo = b64 0x7fef_ffff_ffff_ffff; hi = inf false }
unfolding next_up next_down sum difference exact_sum exact_difference ◌+F◌ ◌-F◌ of_bits to_bits is_nan neg add sub mul lt round
overflow Wide = refl
overflow Narrow = refl

-- a fraction that is a double is stepped too: 1 / 2
one_half : from_rational (pos 1) 2 ≡ record { lo = b64 0x3fdf_ffff_ffff_ffff; hi = b64 0x3fe0_0000_0000_0001 }
unfolding next_up next_down sum product quotient square from_rational of_bits to_bits is_nan neg add mul div lt round
one_half = refl

-- ---- of the period 10240: turns, wave, its square, the Lipschitz bound, the curvature
abbrev turns : Interval
turns = record { lo = b64 0x3fb9_9999_9999_9999; hi = b64 0x3fb9_9999_9999_999b }

abbrev wave : Interval
wave = record { lo = b64 0x3fe4_1b2f_769c_f0df; hi = b64 0x3fe4_1b2f_769c_f0e3 }

abbrev wave_squared : Interval
wave_squared = record { lo = b64 0x3fd9_4424_d945_7823; hi = b64 0x3fd9_4424_d945_782f }

turns_is : from_rational (pos 1024) 10240 ≡ turns
unfolding next_up next_down sum product quotient square from_rational of_bits to_bits is_nan neg add mul div lt round
turns_is = refl

wave_is : product two_pi turns ≡ wave
unfolding next_up next_down sum product quotient square from_rational of_bits to_bits is_nan neg add mul div lt round
wave_is = refl

wave_squared_is : square wave ≡ wave_squared
unfolding next_up next_down sum product quotient square from_rational of_bits to_bits is_nan neg add mul div lt round
wave_squared_is = refl

lipschitz_is : from_rational (pos 22528) 10240 ≡ record { lo = b64 0x4001_9999_9999_9999; hi = b64 0x4001_9999_9999_999b }
unfolding next_up next_down sum product quotient square from_rational of_bits to_bits is_nan neg add mul div lt round
lipschitz_is = refl

curvature_is : product wave_squared (point (b64 0x400c_0000_0000_0000)) ≡ record { lo = b64 0x3ff6_1ba0_3e1c_c91e; hi = b64 0x3ff6_1ba0_3e1c_c92a }
unfolding next_up next_down sum product quotient square from_rational of_bits to_bits is_nan neg add mul div lt round
curvature_is = refl

-- ---- floors and remainders below zero
floor_below_zero : floor (b64 0xbff8_0000_0000_0000) ≡ negsuc 1
unfolding next_up next_down sum product quotient square from_rational of_bits to_bits is_nan neg add mul div lt round
floor_below_zero = refl

remainder_below_zero : mod_four (negsuc 0) ≡ 3
unfolding next_up next_down sum product quotient square from_rational of_bits to_bits is_nan neg add mul div lt round
remainder_below_zero = refl

-- ---- the laws at work: a derivation repeats the expression; sizes are computed, and each test is `tt`
abbrev tenth : Fraction
tenth = ratio (pos 1) 10 (lit< tt)

tenth_in : In 1 tenth (from_rational (pos 1) 10)
tenth_in = fraction_encloses 0 tenth tt (lit≤ tt)

-- 1/10 × 1/10 − 1/10
product_less : (ar : Arithmetic)
    → In 5 (tenth *F tenth -F tenth) (difference ar (product (from_rational (pos 1) 10) (from_rational (pos 1) 10)) (from_rational (pos 1) 10))
product_less ar = sub_encloses ar tt (mul_encloses tt tenth_in tenth_in) tenth_in

-- 1/10 over 3 / 2 ^ 20
third_of_tenth : In 23 (tenth *F ratio (pos 1048576) 3 (lit< tt)) (quotient (from_rational (pos 1) 10) (from_rational (pos 3) 1048576))
third_of_tenth = div_encloses 21 (lit< tt) tt
    (fraction_apart 19 0 (ratio (pos 3) 1048576 (lit< tt)) tt tt (lit≤ tt) (record { le = record { le = tt } })) tenth_in
    (fraction_encloses 0 (ratio (pos 3) 1048576 (lit< tt)) tt (lit≤ tt))

-- the middle of the ticks -3 and 5 is the fraction 2 / 2048: nothing is rounded
middle : T (finite (mid (record { lo = nearest (negsuc 2) 1024; hi = nearest (pos 5) 1024 }))) ×
    (value (mid (record { lo = nearest (negsuc 2) 1024; hi = nearest (pos 5) 1024 })) ≈F binary (pos 2) 11)
middle =
    let (f, e) = nearest_exact 10 (negsuc 2) tt (lit< tt) in
    let (g, v) = nearest_exact 10 (pos 5) tt (lit< tt) in
    mid_exact 10 (negsuc 2) (pos 5) (record { lo = nearest (negsuc 2) 1024; hi = nearest (pos 5) 1024 }) tt (lit< tt) f g e v
