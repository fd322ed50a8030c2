-- Deliveries of the worked rows: the LATEST FIRST. What is asked of a history is that it has this sub-agent and its source.
use Rattle.std.specs.Prelude.{List, [], ◌∷◌}
use Rattle.account_spec.specs.Histories.{SubAgent}
use Rattle.account_spec.specs.Deliveries.{Delivery}
use Rattle.account_spec.specs.Rows.{plain, sub_agent, delivery, datagram_of}

abbrev pub history : List SubAgent
history = sub_agent 0 1 plain [] ∷ []

-- boot, arrival, and of the datagram its number, uptime, and of its sample generation, number, pool and drops
abbrev pub all_hold : List Delivery
all_hold =
    delivery 0 1 20300 (datagram_of 6 10300 2 4 4 0)
    ∷ delivery 0 2 20200 (datagram_of 1 200 1 1 1 0)
    ∷ delivery 0 1 10700 (datagram_of 4 400 2 2 2 0)
    ∷ delivery 0 1 10600 (datagram_of 5 500 2 3 3 0)
    ∷ delivery 0 1 10500 (datagram_of 1 100 1 1 1 0)
    ∷ delivery 0 1 10400 (datagram_of 3 300 2 1 1 0)
    ∷ delivery 0 1 10300 (datagram_of 1 100 1 1 1 0)
    ∷ delivery 0 1 10200 (datagram_of 2 200 1 2 2 0) ∷ []

-- the mark of the newest datagram is 10000, and that of the one that came last 4000; that of the next boot is 14000
abbrev pub restart_too_soon : List Delivery
restart_too_soon =
    delivery 0 2 14100 (datagram_of 1 100 1 1 1 0)
    ∷ delivery 0 1 10100 (datagram_of 1 6100 1 1 1 0)
    ∷ delivery 0 1 10200 (datagram_of 2 200 1 2 2 0) ∷ []

abbrev pub pool_too_high : List Delivery
pool_too_high =
    delivery 0 1 10300 (datagram_of 1 100 1 1 1 0)
    ∷ delivery 0 1 10200 (datagram_of 2 200 1 2 4294967297 0) ∷ []

abbrev pub numbers_far_apart : List Delivery
numbers_far_apart =
    delivery 0 1 10300 (datagram_of 2147483649 100 1 2 2 0)
    ∷ delivery 0 1 10200 (datagram_of 1 100 1 1 1 0) ∷ []

abbrev pub reset_first : List Delivery
reset_first =
    delivery 0 1 10400 (datagram_of 1 100 1 1 1 0)
    ∷ delivery 0 1 10300 (datagram_of 2 200 2 1 1 0) ∷ []
