-- A history of which two datagrams are 2^31 numbers apart. Every list has the LATEST FIRST.
use Rattle.std.specs.Prelude.{ℕ, zero, suc, List, [], ◌∷◌}
use Rattle.std.specs.List.{sum_by}
use Rattle.books_spec.specs.Books.{StreamBooks}
use Rattle.agent_spec.specs.Events.{Event}
use Rattle.account_spec.specs.Histories.{SubAgent}
use Rattle.account_spec.specs.Deliveries.{Delivery}
use Rattle.account_spec.specs.Rows.{sub_agent, plain, sample_sent, delivery, datagram_of}

-- so many packets, each sampled and sent
-- (it stays folded, so that no check writes out two thousand million events)
unfoldable pub rounds : ℕ → List Event
rounds zero = []
rounds (suc n) = sample_sent plain 500 (rounds n)

abbrev pub many_sent : List SubAgent
many_sent = sub_agent 0 1 plain (rounds 2147483649 ∷ []) ∷ []

abbrev pub two_far_apart : List Delivery
two_far_apart =
    delivery 0 1 1100 (datagram_of 2147483649 500 1 2147483649 2147483649 0)
    ∷ delivery 0 1 1000 (datagram_of 1 500 1 1 1 0) ∷ []

-- how many datagrams of these streams were received
abbrev pub received : List StreamBooks → ℕ
received streams = sum_by (λ (b : StreamBooks). b.view.received) streams
