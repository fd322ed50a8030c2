-- What is kept of a stream, and the datagrams for which it stands, the LATEST FIRST.
use Rattle.std.specs.Prelude.{◌≡◌, ℕ, ◌^◌, ◌≤◌, List, [], ◌∷◌, length, map, ℤ, pos, ◌+ℤ◌, ◌-ℤ◌, ◌≤ℤ◌, cond, ◌==◌}
use Rattle.count_spec.specs.Boots.{sequences, newest_boot_mark, place_at, boots, stale_items}
use Rattle.count_spec.specs.declared.stretch_place.StretchPlace.{StretchPlace}
use Rattle.count_spec.specs.declared.stretch_place.StretchPlace.TheVariants.{Next}
use Rattle.source_ledger.specs.Boots.{BootsState}
use Rattle.source_ledger.specs.Boots as ledger
use Rattle.books_spec.specs.Items.{Datagram, stamp_of}
use Rattle.stream_books.specs.declared.stream.StreamRecord.TheInside.{Inside}

-- what is to be seen of what is kept
pub record StreamState : Type 0 where
  -- the ledger of the datagram numbers
  pub ledger : BootsState
  -- the boot mark of the datagram with the greatest number of the current boot, in ms
  pub newest : ℤ
  -- how many datagrams were stale
  pub stale : ℕ

abbrev pub stream_state : Inside → StreamState
stream_state s = record { ledger = s.ledger; newest = s.newest; stale = s.stale }

-- the boot mark of the datagram with the greatest number of the current boot
abbrev pub newest_in : ℕ → List (List Datagram) → ℤ
newest_in width [] = pos 0
newest_in width (current ∷ closed) = newest_boot_mark stamp_of width current

-- what is kept shows these boots and stale datagrams
pub record ShowsStream (s : StreamState) (bs : List (List Datagram)) (stale : List Datagram) : Type 0 where
  pub ledger_stands : ledger.StandsFor s.ledger (map (sequences stamp_of) bs)
  pub boots_are : s.ledger.boot ≡ length bs
  pub newest_is : s.newest ≡ newest_in s.ledger.marks.width bs
  pub stale_are : s.stale ≡ length stale

-- it stands for these datagrams of the stream, where the boot marks of one boot may differ by the slack, in ms
abbrev pub StandsFor : ℕ → StreamState → List Datagram → Type 0
StandsFor slack s ds =
    ShowsStream s (boots stamp_of slack s.ledger.marks.width ds) (stale_items stamp_of slack s.ledger.marks.width ds)

-- where a datagram with this boot mark belongs, as what is kept tells it
abbrev pub place_after : ℕ → StreamState → ℤ → StretchPlace
place_after slack s mark = cond (s.ledger.boot == 0) Next (place_at slack (mark -ℤ s.newest))

-- the datagram has this arrival and uptime in ms, and this sequence word
abbrev pub IsAt : Datagram → ℕ → ℕ → ℕ → Type 0
IsAt d arrival uptime sequence =
    (d.arrival ≡ arrival) × (d.head.uptime ≡ uptime) × (d.head.sequence ≡ sequence)

-- what is always kept
pub record IsStream (s : Inside) : Type 0 where
  pub newest_from : pos 0 ≤ℤ (s.newest +ℤ pos (2 ^ 32))
  pub newest_to : s.newest ≤ℤ pos (2 ^ 64)
  pub few_boots : s.ledger.boot ≤ s.ledger.marks.entered
