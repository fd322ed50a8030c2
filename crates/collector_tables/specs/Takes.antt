-- What one more datagram makes of what is kept of its stream.
use Rattle.std.specs.Prelude.{◌≡◌, ℕ, List, ◌∷◌}
use Rattle.count_spec.specs.Boots.{boots}
use Rattle.books_spec.specs.Items.{Datagram, stamp_of}
use Rattle.stream_books.specs.Receipts.{receipt_in}
use Rattle.stream_books.specs.Streams.{StreamState, StandsFor, IsAt}
use Rattle.stream_books.specs.declared.taken.Receipt.{Receipt}

pub record Takes (slack arrival uptime sequence : ℕ) (was now : StreamState) (given : Receipt) : Type 0 where
  pub stands : (d : Datagram) (ds : List Datagram) → IsAt d arrival uptime sequence
      → StandsFor slack was ds → StandsFor slack now (d ∷ ds)
  pub answered : (d : Datagram) (ds : List Datagram) → IsAt d arrival uptime sequence → StandsFor slack was ds
      → given ≡ receipt_in slack was.ledger.marks.width (boots stamp_of slack was.ledger.marks.width ds) d
  pub width : now.ledger.marks.width ≡ was.ledger.marks.width
