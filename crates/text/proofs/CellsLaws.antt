-- From a line's numbers to the walk, and from the walk to what is printed. Assumes nothing.
use mathlib.Core.Path.{◌≡◌, refl, sym, ap, ◌∙◌}
use mathlib.Core.List.{List, [], ◌∷◌}
use Prim.Native.Nat.{ℕ, ◌^◌, ◌≤◌, ◌<◌}
use native.Mathlib.Omega.{arith}
use lib.IntN.{ℤ}
use lib.ListN.{length, replicate, length-replicate}
use lib.Signed.{mag}
use mir.Syntax.{w64}
use mir.Val.{to_z, of_z}
use Rattle.std.specs.Prelude.{Option, Some, None, Result, Ok, Err, ok_or}
use Rattle.std.specs.Option.{option_map_or}
use Rattle.limits.specs.declared.refusals.Refusal.{Refusal}
use Rattle.limits.specs.declared.refusals.Refusal.TheVariants.{Line}
use Rattle.limits.specs.Refusals.{number}
use Rattle.exact.proofs.Signed.{back}
use Rattle.limits.specs.Ticks.{at}
use Rattle.limits.proofs.RefusalLaws.{number_above, refused_is, answer_is}
use Rattle.table.specs.declared.Head.{Head}
use Rattle.table.specs.Table.{Record}
use Rattle.grade.specs.InUse.{in_use}
use Rattle.walk.specs.declared.TieRule.TheVariants.{LowestAxis}
use Rattle.walk.specs.Demand.{Every}
use Rattle.walk.proofs.TableLaws.{InTree, Tells, tells}
use Rattle.text.specs.Line.{line_of}
use Rattle.text.specs.Listing.{refused_text, listing}
use Rattle.text.specs.Bounds.{AllShort}
use Rattle.text.specs.Cells.{described, lows_in, highs_in, depth_in, fresh_table, number_of, table_of, walked_text, cells_text}
use Rattle.text.proofs.FitLaws.{good_short, listing_fits}

-- a number of the line, read back from its bits
pub entry : (ns : List ℤ) (i : ℕ) → mag (at ns i) < 2 ^ 63 → to_z w64 (of_z w64 (at ns i)) ≡ at ns i
entry ns i h = back (record { sfits = h })

-- ---- its listing fits the buffer
short : (ms : List Record) → Every InTree ms → AllShort ms
short [] h = tt
short (m ∷ ms) h = (good_short m (omega (arith, h.0.state)) h.0.good, short ms h.1)

tells_fit : (t : List ℕ) {n : ℕ} {h : Head} (ms : List Record) → n ≡ 2048 → Tells n t h ms → length (listing t) ≤ 131072
tells_fit t ms e w = listing_fits t _ ms w.told w.head_fits (omega (arith, w.fits)) (short ms w.records)

fits : (ns : List ℤ) → number_of ns (length fresh_table) ≡ 0 → length (listing (table_of ns fresh_table)) ≤ 131072
unfolding number_of table_of fresh_table
fits ns e =
    tells_fit _ _ (omega (arith, length-replicate {A = ℕ} 65536 0)) (tells in_use (described ns) (lows_in ns) (highs_in ns) (depth_in ns) LowestAxis fresh_table e)

-- ---- what is printed
pub fresh : replicate 65536 0 ≡ fresh_table
unfolding fresh_table
fresh = refl

module _ (ns : List ℤ) {t : List ℕ} {n : ℕ} (table : t ≡ fresh_table) (answer : n ≡ number_of ns (length t)) where
  same : n ≡ number_of ns (length fresh_table)
  same = answer ∙ ap (λ (u : List ℕ). number_of ns (length u)) table

  pub text_refused : (r : Refusal) → n ≡ number r → refused_text (number r) ≡ walked_text ns
  unfolding walked_text
  text_refused r e = refused_is refused_text (listing (table_of ns fresh_table)) (sym e ∙ same) (number_above r)

  module _ (none : n ≡ 0) {u : List ℕ} (left : u ≡ table_of ns t) where
    listing_is : listing u ≡ listing (table_of ns fresh_table)
    listing_is = ap listing (left ∙ ap (table_of ns) table)

    pub text_listed : listing u ≡ walked_text ns
    unfolding walked_text
    text_listed = answer_is (refused_text (number_of ns (length fresh_table))) same none listing_is

    pub listing_small : length (listing u) ≤ 131072
    listing_small = omega (arith, ap length listing_is, fits ns (sym same ∙ none))

-- a text that is no line is refused, and a line is walked
module _ (t : List ℕ) {x : Result (List ℤ) Refusal} (e : x ≡ ok_or (line_of t) Line) where
  pub no_line : (r : Refusal) → x ≡ Err r → refused_text (number r) ≡ cells_text t
  unfolding cells_text
  no_line r h = go (line_of t) refl (sym h ∙ e)
    where
      go : (l : Option (List ℤ)) → line_of t ≡ l → Err r ≡ ok_or (line_of t) Line
          → refused_text (number r) ≡ option_map_or walked_text (line_of t) (refused_text 14)
      go None f g = let same : r ≡ Line = cc in rw (same, f) refl
      go (Some ns) f g = absurd (cc)

  pub a_line : (ns : List ℤ) → x ≡ Ok ns → walked_text ns ≡ cells_text t
  unfolding cells_text
  a_line ns h = go (line_of t) refl (sym h ∙ e)
    where
      go : (l : Option (List ℤ)) → line_of t ≡ l → Ok ns ≡ ok_or (line_of t) Line → walked_text ns ≡ option_map_or walked_text (line_of t) (refused_text 14)
      go None f g = absurd (cc)
      go (Some ms) f g = let same : ns ≡ ms = cc in rw (same, f) refl
