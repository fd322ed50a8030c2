-- The last member of a structure is read behind the others.
use Rattle.std.proofs.Common.{◌≡◌, Result, Ok, Err, refl}
use Rattle.wire_spec.specs.declared.pad.Pad.{Pad}
use Rattle.wire_spec.specs.declared.fault.Fault.{Fault}
use Rattle.wire_spec.specs.Shapes.{Shape, Shapes, end, ◌then◌, Tree, Trees, none, ◌&◌}
use Rattle.wire_spec.specs.Fails.{Remaining}
use Rattle.wire_spec.specs.Reading.{◌>>=◌, reading, members_at}
use Rattle.wire_spec.specs.Members.{with_last, with_last_tree}

-- a tree in front of those that are read
abbrev in_front : Tree → Trees × Remaining → Result (Trees × Remaining) Fault
in_front t xs = Ok (t & xs.0, xs.1)

-- a tree behind those that were read
abbrev at_last : Trees → Tree × Remaining → Result (Trees × Remaining) Fault
at_last ts x = Ok (with_last_tree ts x.0, x.1)

pub last_member : (p : Pad) (ss : Shapes) (s : Shape) (b : Remaining)
    → members_at p (with_last ss s) b ≡ (members_at p ss b >>= λ h. reading p s h.1 >>= at_last h.0)
last_member p end s b = only (reading p s b)
  where
    only : (r : Result (Tree × Remaining) Fault)
        → (r >>= λ x. let o : Result (Trees × Remaining) Fault = Ok (none, x.1) in o >>= in_front x.0)
        ≡ (r >>= at_last none)
    only (Ok x) = refl
    only (Err f) = refl
last_member p (first then ss) s b = behind_first (λ c. last_member p ss s c) (reading p first b)
  where
    behind_last : (t : Tree) (h : Trees × Remaining) (r : Result (Tree × Remaining) Fault)
        → ((r >>= at_last h.0) >>= in_front t) ≡ (r >>= at_last (t & h.0))
    behind_last t h (Ok x) = refl
    behind_last t h (Err f) = refl

    behind_others : (t : Tree) (r : Result (Trees × Remaining) Fault)
        → ((r >>= λ h. reading p s h.1 >>= at_last h.0) >>= in_front t)
        ≡ ((r >>= in_front t) >>= λ h. reading p s h.1 >>= at_last h.0)
    behind_others t (Ok h) = behind_last t h (reading p s h.1)
    behind_others t (Err f) = refl

    behind_first : ((c : Remaining) → members_at p (with_last ss s) c ≡ (members_at p ss c >>= λ h. reading p s h.1 >>= at_last h.0))
        → (r : Result (Tree × Remaining) Fault)
        → (r >>= λ x. members_at p (with_last ss s) x.1 >>= in_front x.0)
        ≡ ((r >>= λ x. members_at p ss x.1 >>= in_front x.0) >>= λ h. reading p s h.1 >>= at_last h.0)
    behind_first others (Ok x) = rw (others x.1) (behind_others x.0 (members_at p ss x.1))
    behind_first others (Err f) = refl
