use Rattle.std.proofs.Common.{arith}
use Rattle.if_ledger.proofs.rises.Rises.enter.Goals as goal

pub returns-clause-few : goal.returns-clause-few
returns-clause-few c = λ most few. record {
  in_octets = (let a = few.in_octets in let b = c.enter.ensures.few in omega (arith, a, b));
  in_ucast = (let a = few.in_ucast in let b = c.enter-2.ensures.few in omega (arith, a, b));
  in_multicast = (let a = few.in_multicast in let b = c.enter-3.ensures.few in omega (arith, a, b));
  in_broadcast = (let a = few.in_broadcast in let b = c.enter-4.ensures.few in omega (arith, a, b));
  in_discards = (let a = few.in_discards in let b = c.enter-5.ensures.few in omega (arith, a, b));
  in_errors = (let a = few.in_errors in let b = c.enter-6.ensures.few in omega (arith, a, b));
  in_unknown = (let a = few.in_unknown in let b = c.enter-7.ensures.few in omega (arith, a, b));
  out_octets = (let a = few.out_octets in let b = c.enter-8.ensures.few in omega (arith, a, b));
  out_ucast = (let a = few.out_ucast in let b = c.enter-9.ensures.few in omega (arith, a, b));
  out_multicast = (let a = few.out_multicast in let b = c.enter-10.ensures.few in omega (arith, a, b));
  out_broadcast = (let a = few.out_broadcast in let b = c.enter-11.ensures.few in omega (arith, a, b));
  out_discards = (let a = few.out_discards in let b = c.enter-12.ensures.few in omega (arith, a, b));
  out_errors = (let a = few.out_errors in let b = c.enter-13.ensures.few in omega (arith, a, b));
}
