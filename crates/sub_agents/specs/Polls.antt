-- What a poll does. Sources that are due stand in the order of the set-up.
use Rattle.std.specs.Prelude.{◌≡◌, ℕ, ◌+◌, ◌-◌, min, nat_le, ◌||◌, ◌==◌, Bool, List, [], ◌∷◌, ◌++◌, length, map, take, set, slice_get, Result, Ok, Err}
use Rattle.std.specs.List.{filter}
use Rattle.std.specs.declared.option.Option.TheVariants.{Some}
use Rattle.circular_buffer.specs.Buffer.{buffer}
use Rattle.wire_spec.specs.Shapes.{Tree}
use Rattle.wire_spec.specs.Heads.{address_tree}
use Rattle.wire_spec.specs.Spelling.{spell}
use Rattle.data_format.specs.Addresses.{address_of}
use Rattle.data_format.specs.Records.{Content}
use Rattle.data_format.specs.declared.source.SourceId.{SourceId}
use Rattle.rec_counters.specs.Contents.{interface_content}
use Rattle.agent_spec.specs.Events.{Poll}
use Rattle.agent_spec.specs.Polls.{is_due_after}
use Rattle.agent_spec.specs.Counting.{next_count}
use Rattle.agent_poller.specs.Polling as polling
use Rattle.agent_poller.specs.Polling.{PollerState, number_behind}
use Rattle.sub_agents.specs.declared.polling.PollRefusal.{PollRefusal}
use Rattle.sub_agents.specs.declared.polling.PollRefusal.TheVariants.{TooLarge, MeterFault}
use Rattle.sub_agents.specs.declared.staged.StagedCounters.{StagedCounters}
use Rattle.sub_agents.specs.declared.staged.Staged.TheVariants.{Counters}
use Rattle.sub_agents.specs.Sizes.{counters_bytes}
use Rattle.sub_agents.specs.Counts.{counter_setup, polled_sources}
use Rattle.agent_setups.specs.Ids.{AreDistinct}
use Rattle.sub_agents.specs.SubAgents.{SubAgentState, BootSoFar, with_event, StandsFor}

-- there is no source to be polled, or a counters sample fits a datagram alone
abbrev pub counters_fit : SubAgentState → Bool
counters_fit s = (length s.pollers == 0)
    || nat_le (20 + length (spell (address_tree (address_of s.agent))) + counters_bytes s.form) s.max_datagram

abbrev pub is_due_at : ℕ → PollerState → Bool
is_due_at now p = is_due_after p.every p.last now

-- the sources that are due
abbrev pub due_ids : SubAgentState → ℕ → List SourceId
due_ids s now = map (λ (p : PollerState). p.source) (filter (is_due_at now) s.pollers)

-- how many samples the stage has room for
abbrev pub places : SubAgentState → ℕ
places s = s.stage.capacity - length s.stage.items

module _ {M : Type 0} (gives : M → SourceId → Content → M → Type 0) (faults : M → ℕ) where
  -- the meter gave these readings for these sources, one after the other
  abbrev pub Gave : List SourceId → List Tree → M → M → Type 0
  Gave [] [] old new = old ≡ new
  Gave [] (reading ∷ more) old new = ⊥
  Gave (id ∷ ids) [] old new = ⊥
  Gave (id ∷ ids) (reading ∷ more) old new = (mid : M) × gives old id (reading, []) mid × Gave ids more mid new

  -- the sub-agent stands for a poll with the readings that the meter gave; of a poll that went through there are as many
  -- as sources are due and as the stage has places
  pub record Polled (s new : SubAgentState) (b : BootSoFar) (now : ℕ) (before after : M) : Type 0 where
    pub readings : List Tree
    pub gave : Gave (take (length readings) (due_ids s now)) readings before after
    pub kept : faults after ≡ faults before
    pub stands : StandsFor new (with_event (Poll now readings) b)

  abbrev pub Polls : SubAgentState → SubAgentState → BootSoFar → ℕ → M → M → Result ℕ PollRefusal → Type 0
  Polls s new b now before after (Ok n) = (p : Polled s new b now before after) × (length p.readings ≡ n)
      × (n ≡ min (length (due_ids s now)) (places s))
  Polls s new b now before after (Err TooLarge) = Unit {0}
  Polls s new b now before after (Err MeterFault) =
      (mid : M) × Polled s new b now before mid × (faults after ≡ next_count (faults mid))

  -- the source at a place was polled: its next sample is staged
  pub record PolledOne (s new : SubAgentState) (place now : ℕ) (before after : M) : Type 0 where
    pub old : PollerState
    pub at : slice_get s.pollers place ≡ Some old
    pub polled : PollerState
    pub sample : StagedCounters
    pub after_it : new ≡ record s {
      pollers = set s.pollers place polled;
      stage = buffer (s.stage.items ++ Counters sample ∷ []) s.stage.capacity;
    }
    pub setup : counter_setup polled ≡ counter_setup old
    pub stands : (issued last : ℕ) → polling.StandsFor old issued last → polling.StandsFor polled (1 + issued) now
    pub number : (issued last : ℕ) → polling.StandsFor old issued last → sample.head.sequence ≡ number_behind old.first issued
    pub source : sample.head.source ≡ old.source
    pub tail : sample.counters.tail.now ≡ []
    pub gave : gives before old.source (interface_content sample.counters) after
    pub kept : faults after ≡ faults before
    pub apart : AreDistinct (polled_sources s.pollers)
