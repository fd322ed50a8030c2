-- The boots so far are counted, and none has 2^64 of anything.
use Rattle.std.proofs.Common.{◌≡◌, ◌+◌, ◌*◌, ◌<◌, length, take}
use Rattle.std.specs.List.{sum_by}
use Rattle.true_samples.specs.States.{BootState}
use Rattle.true_samples.proofs.sub_agent.TrueSubAgent.totals.Given as goal

abbrev pub invariant-loop-boot : goal.invariant-loop-boot
invariant-loop-boot l = record {
  datagrams : l.totals.datagrams ≡ length l.self.current.datagrams
      + sum_by (λ (b : BootState). length b.datagrams) (take l.boot-index l.boot-items);
  issued : l.totals.issued ≡ l.self.current.issued + sum_by (λ (b : BootState). b.issued) (take l.boot-index l.boot-items);
  dropped : l.totals.dropped ≡ l.self.current.dropped + sum_by (λ (b : BootState). b.dropped) (take l.boot-index l.boot-items);
  few_datagrams : l.totals.datagrams < (1 + l.boot-index) * 18446744073709551616;
  few_issued : l.totals.issued < (1 + l.boot-index) * 18446744073709551616;
  few_dropped : l.totals.dropped < (1 + l.boot-index) * 18446744073709551616;
}
