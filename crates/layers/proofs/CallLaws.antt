-- The run that is reported, what a refused run leaves, and what the bytes of a report say. Assumes nothing.
use mathlib.Core.Path.{◌≡◌, sym, ap, ◌∙◌}
use mathlib.Core.Bool.{true, false}
use mathlib.Core.List.{List, ◌++◌}
use Prim.Native.Nat.{ℕ, suc, ◌+◌, ◌-◌, ◌*◌, ◌≤◌, ◌<◌}
use native.Mathlib.Omega.{arith}
use lib.IntN.{ℤ, pos, ◌+ℤ◌}
use lib.ListN.{drop, length}
use mir.Syntax.{w64}
use mir.Val.{to_z, of_z, SFits}
use Rattle.exact.proofs.IntegerOrder.{zarith}
use Rattle.exact.proofs.Signed.{back}
use Rattle.limits.proofs.TestLaws.{holds}
use Rattle.limits.proofs.RefusalLaws.{refused_is}
use Rattle.limits.specs.Ticks.{side}
use Rattle.limits.proofs.TickLaws.{sided}
use Rattle.tree.specs.Box.{unshifted}
use Rattle.tree.proofs.Spans.{span_is}
use Rattle.tree.proofs.ShiftedLaws.{unshifted_parts}
use Rattle.table.specs.Read.{u64_at, records_in}
use Rattle.table.specs.Words.{bytes_of}
use Rattle.sound.specs.Sound.{sound_of}
use Rattle.sound.proofs.ChainLaws.{sound_is}
use Rattle.layers.specs.Layers.{area_in, crossing, layers_in, report_of, layers_number, layers_report, Reported}
use Rattle.layers.proofs.ThreesLaws.{threes, areas_are}
use Rattle.layers.proofs.AddedLaws.{read_one}
use Rattle.layers.proofs.SumLaws.{three_states, area_le, crossing_le}

-- ---- the layers from low to high, which the code keeps as u and v
pub many_layers : {low high : ℤ} (u v : ℕ) → SFits w64 low → SFits w64 high → side low high ≡ true
    → (unshifted u ≡ to_z w64 (of_z w64 low)) × (u ≤ 2097152) → (unshifted v ≡ to_z w64 (of_z w64 high)) × (v ≤ 2097152) → v - u ≡ layers_in low high
many_layers {low} {high} u v f g e p q =
    let l = p.0 ∙ back f in
    let h = q.0 ∙ back g in
    let s = sided (unshifted u) (unshifted v) (holds ((λ i. side (l i) (h i)) ∙ e)) in
    let c = s.spans in
    let up : u < v = omega (zarith, unshifted_parts u, unshifted_parts v) in
    sym (span_is (unshifted u) (unshifted v) (v - u) (omega (arith, unshifted_parts u, unshifted_parts v))) ∙ (λ i. layers_in (l i) (h i))

-- ---- number, bytes and what they say, where the run is refused: the calls' answers do without, and the law stands since documents name it
abbrev pub Answered : List ℕ → ℤ → ℤ → List ℕ → ℕ → List ℕ → Type 0
Answered t low high r n w = (n ≡ layers_number t low high (length r)) × ((w ≡ layers_report t low high r) × (n ≡ 0 → Reported t low high w))

pub no_run : (t : List ℕ) (low high : ℤ) (r : List ℕ) → sound_of t ≡ true → side low high ≡ false → Answered t low high r 16 r
unfolding layers_number layers_report
no_run t low high r sound e =
    let n : 16 ≡ layers_number t low high (length r) = rw (sound, e) in
    (n, (refused_is (λ _. r) (report_of (records_in t) (layers_in low high) low r) n (λ z. omega arith), (λ z. absurd (omega arith))))

-- ---- what the bytes of the report say
module _ (t : List ℕ) (low high : ℤ) (r : List ℕ) (sound : sound_of t ≡ true) where
  abbrev numbers : ℕ → ℕ → ℕ
  numbers k s = area_in s (low +ℤ pos k) (records_in t)

  at_most : (k : ℕ) → crossing (low +ℤ pos k) (records_in t) ≤ 9223372036854775808
  at_most k = let x = sound_is t sound in omega (arith, crossing_le (low +ℤ pos k) (records_in t) x.cells, x.small)

  abbrev Bytes : List ℕ → Type 0
  Bytes w = w ≡ bytes_of (threes (layers_in low high) numbers) ++ drop (24 * layers_in low high) r

  one : (w : List ℕ) → Bytes w → (k s : ℕ) → k < layers_in low high → s < 3 → u64_at w (24 * k + 8 * s) ≡ numbers k (suc s)
  one w e k s h l =
      ap (λ (x : List ℕ). u64_at x (24 * k + 8 * s)) e ∙ read_one (layers_in low high) (drop (24 * layers_in low high) r) numbers k s h l
      (λ i j q. omega (arith, area_le j (low +ℤ pos i) (records_in t), at_most i))

  pub says : (w : List ℕ) → w ≡ report_of (records_in t) (layers_in low high) low r → Reported t low high w
  unfolding report_of
  says w p =
      let e : Bytes w = p ∙ ap (λ (l : List ℕ). bytes_of l ++ drop (24 * layers_in low high) r) (areas_are (layers_in low high) low (records_in t)) in
      record {
        reads = λ k s h l. one w e k s h l;
        three = λ k h.
            let z : 24 * k ≡ 24 * k + 8 * 0 = omega arith in
            let at : (s : ℕ) → s < 3 → u64_at w (24 * k + 8 * s) ≡ numbers k (suc s) = λ s l. one w e k s h l in
            (λ i. (ap (u64_at w) z ∙ at 0 (omega arith)) i + at 1 (omega arith) i + at 2 (omega arith) i)
            ∙ three_states (low +ℤ pos k) (records_in t) (sound_is t sound).cells;
        most = λ k h. at_most k;
      }
