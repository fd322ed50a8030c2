-- What the code knows of a word, as the reading has it.
use Rattle.command_words.specs.declared.meaning.Meaning.{Meaning}
use Rattle.command_words.specs.declared.meaning.Meaning.TheVariants as word
use Rattle.command_words.specs.declared.meaning.Piece.{Piece}
use Rattle.command_words.specs.declared.meaning.Piece.TheVariants.{Joined, Apart, Alone}
use Rattle.command_words.specs.Pieces.{Piece as Read, joined, apart, alone}
use Rattle.command_words.specs.Reading.{Meaning as ReadMeaning, whole, opens, nothing}

abbrev pub piece_of : Piece → Read
piece_of (Joined name text) = joined name.now text.now
piece_of (Apart name text) = apart name.now text.now
piece_of (Alone name) = alone name.now

abbrev pub shown : Meaning → ReadMeaning
shown (word.Whole piece) = whole (piece_of piece)
shown (word.Opens name) = opens name.now
shown word.Nothing = nothing
