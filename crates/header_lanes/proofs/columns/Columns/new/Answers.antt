use Rattle.std.proofs.Common.{◌≡◌, ℕ, ap, sym, length, min, replicate, slice_index, take}
use Rattle.header_lanes.specs.Slots.{head}
use Rattle.header_lanes.proofs.columns.Columns.new.Goals as goal

pub returns : goal.returns
returns c = λ s empty none.
    let byte : (i : ℕ) → slice_index (head s) i ≡ 0 = λ i. ap (λ n. slice_index (take n s.bytes) i) empty in
    record {
      lengths = ap (replicate 16) (sym (ap (λ n. length (take n s.bytes)) empty));
      protocols = ap (replicate 16) (sym (ap (λ p. min p 255) none));
      first_high = ap (replicate 16) (sym (byte 12));
      first_low = ap (replicate 16) (sym (byte 13));
      second_high = ap (replicate 16) (sym (byte 16));
      second_low = ap (replicate 16) (sym (byte 17));
      third_high = ap (replicate 16) (sym (byte 20));
      third_low = ap (replicate 16) (sym (byte 21));
    }
