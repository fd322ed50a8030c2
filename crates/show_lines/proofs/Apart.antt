-- The lines of a datagram and of a fault begin with different letters.
use Rattle.std.proofs.Common.{◌≡◌, ℕ, List, get_or, ap, arith}
use Rattle.wire_spec.specs.declared.fault.Fault.{Fault}
use Rattle.wire_spec.specs.Shapes.{union, Tree}
use Rattle.show_lines.specs.Lines.{fault_line, datagram_line}
use Rattle.show_lines.specs.Shown.{datagram_text}

pub no_fault_line : (t : Tree) (f : Fault) → datagram_text t ≡ fault_line f → ⊥
unfolding datagram_text datagram_line fault_line
no_fault_line (union k body) f e =
    let first : 100 ≡ 102 = ap (λ (l : List ℕ). get_or l 0 0) e in omega (arith, first)
no_fault_line t f e = let first : 0 ≡ 102 = ap (λ (l : List ℕ). get_or l 0 0) e in omega (arith, first)
