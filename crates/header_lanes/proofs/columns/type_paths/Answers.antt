use Rattle.std.proofs.Common.{arith, ℕ, Bool, ◌+◌, ◌*◌, ◌∙◌, slice_index, nat_eq, nat_le}
use Rattle.std.proofs.lemmas.Simd.{zip2_of_maps}
use Rattle.header_lanes.specs.Slots.{head, flag, type_at, type_of}
use Rattle.header_lanes.proofs.Flags.{chosen, everywhere}
use Rattle.header_lanes.proofs.columns.type_paths.Goals as goal

pub returns : goal.returns
returns c =
    let ss = c.args.slots.now in
    let splat = λ (k : ℕ). everywhere ss k (omega arith) in
    let tests = λ (t : ℕ → Bool). zip2_of_maps {Z = ℕ} (λ h l. flag (t (h * 256 + l))) (λ s. slice_index (head s) (type_at s)) (λ s. slice_index (head s) (type_at s + 1)) ss c.requires.high c.requires.low in
    let named = c.pick-named.ensures ∙ chosen ss (λ s. nat_eq (type_of s) 0x86dd) _ _ (c.number_equal-is_ipv6.ensures ∙ tests (λ t. nat_eq t 0x86dd)) (splat 6) (splat 7) in
    let ipv4 = c.pick-ipv4.ensures ∙ chosen ss (λ s. nat_eq (type_of s) 0x0800) _ _ (c.number_equal-is_ipv4.ensures ∙ tests (λ t. nat_eq t 0x0800)) (splat 5) named in
    let arp = c.pick-arp.ensures ∙ chosen ss (λ s. nat_eq (type_of s) 0x0806) _ _ (c.number_equal-is_arp.ensures ∙ tests (λ t. nat_eq t 0x0806)) (splat 4) ipv4 in
    let undefined = c.pick-undefined.ensures ∙ chosen ss (λ s. nat_le (type_of s) 1535) _ _ (c.number_at_most-is_undefined.ensures ∙ tests (λ t. nat_le t 1535)) (splat 3) arp in
    c.pick.ensures ∙ chosen ss (λ s. nat_le (type_of s) 1500) _ _ (c.number_at_most-is_length.ensures ∙ tests (λ t. nat_le t 1500)) (splat 2) undefined
