-- What is asked of an input so that its report is the agents' own account: it is a capture of what a history and deliveries
-- give, and the premises hold. Deliveries and their entries have the LATEST FIRST.
use Rattle.std.specs.Prelude.{◌≡◌, ℕ, List, map, reverse}
use Rattle.wire_spec.specs.Captures.{Entry}
use Rattle.capture_spec.specs.declared.capture_version.CaptureVersion.{CaptureVersion}
use Rattle.capture_spec.specs.Items.{Received, entry_of}
use Rattle.sflow_io.specs.CaptureSteps.{IsAllOf}
use Rattle.books_spec.specs.declared.limits.Limits.{Limits}
use Rattle.account_spec.specs.Histories.{SubAgent}
use Rattle.account_spec.specs.Deliveries.{Delivery, Delivers}
use Rattle.account_spec.specs.Premises.{Premises}
use Rattle.delivered_items.specs.Accepted.{AreAccepted}

-- the input is a capture, of either version, of these entries
pub record IsCaptureOf (entries : List Entry) (input : List ℕ) : Type 0 where
  pub version : CaptureVersion
  pub received : List Received
  pub whole : IsAllOf version received input
  -- it has them in order of arrival
  pub in_order : map entry_of received ≡ reverse entries

-- the input delivers datagrams of agents, and the premises hold
pub record IsDelivered (l : Limits) (history : List SubAgent) (deliveries : List Delivery) (input : List ℕ) : Type 0 where
  pub accepted : AreAccepted history
  pub premises : Premises l history deliveries
  pub entries : List Entry
  pub delivers : Delivers history deliveries entries
  pub capture : IsCaptureOf entries input

-- these datagrams are those that agents sent, in order of arrival, and the premises hold
pub record IsCollected (l : Limits) (history : List SubAgent) (deliveries : List Delivery) (came : List Entry)
    : Type 0 where
  pub accepted : AreAccepted history
  pub premises : Premises l history deliveries
  pub entries : List Entry
  pub delivers : Delivers history deliveries entries
  pub in_order : came ≡ reverse entries
