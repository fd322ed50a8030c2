-- What is handed in of a delivery and of its samples, and what of a history they are.
use Rattle.std.specs.Prelude.{◌≡◌, ◌≤◌, List, [], ◌∷◌, Some, slice_get, pos, ℤ, ◌-ℤ◌}
use Rattle.books_spec.specs.Items.{SourceId}
use Rattle.agent_spec.specs.Samples.{Sample}
use Rattle.account_spec.specs.Deliveries.{Delivery, id_in}
use Rattle.trial_spec.specs.VisibleTests.{NewestBoot}
use Rattle.trial_premises.specs.declared.delivered.TrueDatagram.{TrueDatagram}
use Rattle.trial_premises.specs.declared.delivered.TrueSample.{TrueSample}

-- of this delivery
pub record IsOf (t : TrueDatagram) (d : Delivery) : Type 0 where
  pub boot : d.boot ≡ t.boot
  pub counted : 1 ≤ t.boot
  pub number : d.datagram.number ≡ t.number
  pub uptime : d.datagram.uptime ≡ t.uptime
  pub arrival : d.arrival ≡ t.arrival

-- where the receiver's clock stood when the uptime was 0
abbrev pub mark : TrueDatagram → ℤ
mark t = pos t.arrival -ℤ pos t.uptime

-- the same as what is kept of the newest boot
abbrev pub newest_shown : TrueDatagram → NewestBoot
newest_shown t = record { boot = t.boot; number = pos t.number; mark = mark t }

-- of this sample, where the sources of its sub-agent stand so
pub record IsSample (ids : List SourceId) (t : TrueSample) (s : Sample) : Type 0 where
  pub source : slice_get ids t.source ≡ Some (id_in s)
  pub generation : s.turn.generation ≡ t.generation
  pub counted : 1 ≤ t.generation
  pub number : s.number ≡ t.number
  pub pool : s.pool ≡ t.pool
  pub drops : s.drops ≡ t.drops

abbrev pub AreSamples : List SourceId → List TrueSample → List Sample → Type 0
AreSamples ids [] [] = Unit {0}
AreSamples ids [] (s ∷ more) = ⊥
AreSamples ids (t ∷ rest) [] = ⊥
AreSamples ids (t ∷ rest) (s ∷ more) = IsSample ids t s × AreSamples ids rest more
