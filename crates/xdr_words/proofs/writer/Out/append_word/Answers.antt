use Rattle.std.proofs.Common.{rules, refl}
use Rattle.std.proofs.lemmas.Slice.{overwrites}
use Rattle.xdr_words.proofs.writer.Out.append_word.Goals as goal

pub returns : goal.returns
returns c = record {
  room = record { same = refl; size = search (rules, overwrites) };
  fits = c.requires;
  len = refl;
  whole = search (rules, overwrites);
  behind = search (rules, overwrites);
}
