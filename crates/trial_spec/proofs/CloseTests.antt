-- The test of the samples of one source in one boot.
use Rattle.std.proofs.Common.{ℕ, ◌^◌, List}
use Rattle.std.specs.Bool.{Decides}
use Rattle.std.specs.List.{list_all}
use Rattle.std.proofs.lemmas.Bool.Decides.{Decides-and, Decides-like}
use Rattle.count_spec.specs.TrueStretches.{true_stretches}
use Rattle.account_spec.specs.Arrivals.{Arrived, generation_of, sample_number}
use Rattle.account_spec.specs.Accounts.{kept, values, pool_of, drops_of}
use Rattle.account_spec.specs.Close.{RiseSlowly, AreCloseSamples}
use Rattle.trial_spec.specs.CloseTests.{rise_by_less, are_close_each, rise_slowly, are_close_samples}
use Rattle.trial_spec.proofs.Tests.{decides-each}
use Rattle.trial_spec.proofs.Newest.{decides-close-each}
use Rattle.trial_spec.proofs.Ends.{decides-rise}

decides-slowly : (width : ℕ) (generation : List Arrived) → Decides (rise_slowly width generation) (RiseSlowly width generation)
decides-slowly width generation =
    Decides-like (rise_slowly width generation)
    (λ h. record { pools = h.0; drops = h.1 }) (λ h. (h.pools, h.drops))
    (Decides-and (rise_by_less (2 ^ 32) (values pool_of (kept width generation)))
    (rise_by_less (2 ^ 32) (values drops_of (kept width generation)))
    (decides-rise (2 ^ 32) (values pool_of (kept width generation)))
    (decides-rise (2 ^ 32) (values drops_of (kept width generation))))

pub decides-samples : (width : ℕ) (samples : List Arrived)
    → Decides (are_close_samples width samples) (AreCloseSamples width samples)
decides-samples width samples =
    Decides-like (are_close_samples width samples)
    (λ h. record { numbers = h.0; rise = h.1 }) (λ h. (h.numbers, h.rise))
    (Decides-and (are_close_each generation_of sample_number samples)
    (list_all (rise_slowly width) (true_stretches generation_of samples))
    (decides-close-each generation_of sample_number samples)
    (decides-each (rise_slowly width) (RiseSlowly width) (decides-slowly width) (true_stretches generation_of samples)))
