use Rattle.std.proofs.Common.{◌∙◌, arith, ap, sym, length, min, slice_index}
use Rattle.header_lanes.specs.Slots.{head}
use Rattle.header_lanes.proofs.Held.{one_put, byte_put, length_put}
use Rattle.header_lanes.proofs.columns.Columns.put_long.Goals as goal

pub returns : goal.returns
returns c = λ slots s are front same.
    let k = c.args.place in
    let h = c.args.header.now in
    record {
      lengths = one_put (λ x. length (head x)) slots k s are.lengths (c.min.ensures ∙ length_put s h front);
      protocols = one_put (λ x. min x.protocol 255) slots k s are.protocols (c.min-2.ensures ∙ ap (λ p. min p 255) (sym same));
      first_high = one_put (λ x. slice_index (head x) 12) slots k s are.first_high (byte_put s h 12 (omega arith) front);
      first_low = one_put (λ x. slice_index (head x) 13) slots k s are.first_low (byte_put s h 13 (omega arith) front);
      second_high = one_put (λ x. slice_index (head x) 16) slots k s are.second_high (byte_put s h 16 (omega arith) front);
      second_low = one_put (λ x. slice_index (head x) 17) slots k s are.second_low (byte_put s h 17 (omega arith) front);
      third_high = one_put (λ x. slice_index (head x) 20) slots k s are.third_high (byte_put s h 20 (omega arith) front);
      third_low = one_put (λ x. slice_index (head x) 21) slots k s are.third_low (byte_put s h 21 (omega arith) front);
    }
