-- Datagrams that have none of the further records, and one that has.
use Rattle.std.proofs.Common.{◌≡◌, ◌≢◌, ℕ, ◌<◌, refl, inl, inr, arith}
use Rattle.wire_spec.specs.declared.pad.Pad.TheVariants.{Any}
use Rattle.wire_spec.specs.Shapes.{Table}
use Rattle.wire_spec.specs.Examples.{gateway_datagram}
use Rattle.wire_spec.specs.FurtherExamples.{nat_record}
use Rattle.wire_spec.specs.FurtherFormats.{IsFurther, LacksFurther}

not_further : (T : Table) (k : ℕ) → k ≢ 1004 → k ≢ 1005 → k ≢ 1006 → k ≢ 1007 → k ≢ 1001 → IsFurther T k → ⊥
not_further T k four five six seven one (inl (e, inl a)) = four a
not_further T k four five six seven one (inl (e, inr (inl a))) = five a
not_further T k four five six seven one (inl (e, inr (inr (inl a)))) = six a
not_further T k four five six seven one (inl (e, inr (inr (inr a)))) = seven a
not_further T k four five six seven one (inr (e, a)) = one a

few : (T : Table) (k : ℕ) → k < 1001 → IsFurther T k → ⊥
few T k h = not_further T k (λ e. omega (arith, e, h)) (λ e. omega (arith, e, h)) (λ e. omega (arith, e, h))
    (λ e. omega (arith, e, h)) (λ e. omega (arith, e, h))

gateway : (T : Table) → IsFurther T 1003 → ⊥
gateway T = not_further T 1003 (λ e. omega (arith, e)) (λ e. omega (arith, e)) (λ e. omega (arith, e))
    (λ e. omega (arith, e)) (λ e. omega (arith, e))

-- a row that isn't the one
other : {A : Type 0} (k j : ℕ) → k ≢ j → k ≡ j → A
other k j ne e = absurd (ne e)

pub sound : LacksFurther Any (gateway_datagram 1)
sound = (λ _. ((λ _. tt, λ _. (λ _. tt, λ _. (λ _. tt, λ _. tt))), (tt, (tt, (tt, (((few _ 1 (omega arith), (λ _. (tt, (tt, (tt, (tt, (tt, (tt, (tt, (((gateway _, (other 1003 1 (λ e. omega (arith, e)), λ _. (other 1003 2 (λ e. omega (arith, e)), λ _. (other 1003 3 (λ e. omega (arith, e)), λ _. (other 1003 4 (λ e. omega (arith, e)), λ _. (other 1003 1001 (λ e. omega (arith, e)), λ _. (other 1003 1002 (λ e. omega (arith, e)), λ _. (λ _. ((λ _. tt, λ _. (λ _. tt, λ _. (λ _. tt, λ _. tt))), (tt, (tt, (tt, (((λ _. (tt, (tt, tt)), λ ne. absurd (ne refl)), ((other 2 1 (λ e. omega (arith, e)), λ _. (λ _. (tt, tt), λ _. tt)), tt)), (tt, (tt, tt))))))), λ ne. absurd (ne refl))))))))), tt), tt)))))))), λ ne. absurd (ne refl))), tt), tt))))), λ _. tt)

pub faulty : LacksFurther Any (gateway_datagram 3)
faulty = (λ _. ((λ _. tt, λ _. (λ _. tt, λ _. (λ _. tt, λ _. tt))), (tt, (tt, (tt, (((few _ 1 (omega arith), (λ _. (tt, (tt, (tt, (tt, (tt, (tt, (tt, (((gateway _, (other 1003 1 (λ e. omega (arith, e)), λ _. (other 1003 2 (λ e. omega (arith, e)), λ _. (other 1003 3 (λ e. omega (arith, e)), λ _. (other 1003 4 (λ e. omega (arith, e)), λ _. (other 1003 1001 (λ e. omega (arith, e)), λ _. (other 1003 1002 (λ e. omega (arith, e)), λ _. (λ _. ((λ _. tt, λ _. (λ _. tt, λ _. (λ _. tt, λ _. tt))), (tt, (tt, (tt, (((other 3 1 (λ e. omega (arith, e)), λ _. (other 3 2 (λ e. omega (arith, e)), λ _. tt)), tt), tt))))), λ ne. absurd (ne refl))))))))), tt), tt)))))))), λ ne. absurd (ne refl))), tt), tt))))), λ _. tt)

pub has_one : LacksFurther Any (nat_record 1) → ⊥
has_one h = ((h.0 refl).1.1.1.1.0.0.1.0 refl).1.1.1.1.1.1.1.0.0.0 (inl (refl, inr (inr (inr refl))))
