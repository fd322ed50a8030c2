use Rattle.std.proofs.Common.{rules, refl, arith}
use Rattle.std.proofs.lemmas.Slice.{overwrites}
use Rattle.xdr_words.proofs.writer.Out.put_raw.Goals as goal

pub returns : goal.returns
returns c = record {
  room = record { same = refl; size = search (rules, overwrites) };
  fits = omega arith;
  len = refl;
  whole = search (rules, overwrites);
  behind = search (rules, overwrites);
}
