use Rattle.std.proofs.Common.{◌≡◌, ◌∙◌, ◌+◌, ◌<◌, length, sym, arith}
use Rattle.script_words.proofs.HexBytes.{hex_step, hex_odd, hex_long, hex_none}
use Rattle.script_words.proofs.Pushes.{on_err, on_ok, ok_is}
use Rattle.script_words.proofs.hex.hex_bytes_in.Goals as goal

pub returns-then-at-word : goal.returns-then-at-word
returns-then-at-word c =
    sym (hex_none c.args.word.now
    (hex_odd c.args.word.now c.loop-at.bytes.items c.loop-at.at c.loop-at.invariant.read c.loop-at-test.true c.if-at-word.true))

pub returns-then-is_err : goal.returns-then-is_err
returns-then-is_err c =
    sym (hex_long c.args.word.now c.loop-at.bytes.items c.loop-at.at c.in_ok-hex_byte.field-0 c.loop-at.invariant.read
    c.loop-at-test.true c.if-at-word.false (sym c.hex_byte.ensures ∙ c.in_ok-hex_byte.was)
    (on_err c.try_push.result _ c.try_push.ensures.full (sym c.is_err.ensures.value ∙ c.if-is_err.true)))

pub loop-at-preserved : goal.loop-at-preserved
loop-at-preserved c =
    let fine = sym c.is_err.ensures.value ∙ c.if-is_err.false in
    let pushed = on_ok c.try_push.result _ c.try_push.ensures.ok fine in
    let room : length c.loop-at.bytes.items < 128 = c.try_push.ensures.variant.0 (ok_is c.try_push.result fine) in
    let longer : length c.try_push.new.self.items ≡ length c.loop-at.bytes.items + 1 = on_ok c.try_push.result _ c.try_push.ensures.len fine in
    let other = c.if-at-word.false in
    let inside = c.loop-at-test.true in
    record {
      within = omega arith;
      few = omega arith;
      read = rw pushed (hex_step c.args.word.now c.loop-at.bytes.items c.loop-at.at c.loop-at.invariant.read
          c.in_ok-hex_byte.field-0 inside other (sym c.hex_byte.ensures ∙ c.in_ok-hex_byte.was));
    }
