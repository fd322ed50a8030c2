-- How each line of a script is written: the words that say it, with one space between each two. Which lines can be
-- written: those whose numbers, addresses and bytes are within their ranges.
use Rattle.std.specs.Prelude.{◌≡◌, ◌==◌, ◌&&◌, Bool, true, not, List, ◌∷◌, codes}
use Rattle.std.specs.List.{join_with_byte}
use Rattle.agent_spec.specs.Samples.{Port}
use Rattle.script_spec.specs.Words.{Text}
use Rattle.script_spec.specs.Lines.{Line, MaxLine, SubLine, FlowLine, CounterLine, PacketLine, PollLine, SendLine, RestartLine, ResetLine, DeliverLine, place_of}
use Rattle.script_spec.specs.Forms.{max_part, sub_part, flow_part, counter_part, packet_part, moment_part, restart_part, reset_part, deliver_part}

-- a single interface
abbrev pub is_single : Port → Bool
is_single p = p.form == 0

-- the line can be written
abbrev pub may_be_written : Line → Bool
may_be_written (MaxLine bytes) = max_part.may bytes
may_be_written (SubLine s) = sub_part.may (s.id, (s.address, (s.first, (s.at, s.stage))))
may_be_written (FlowLine id f) =
    f.source.flow && flow_part.may (id, (place_of f.source, (f.rate, (f.first, (f.pool, (f.drops, f.skips))))))
may_be_written (CounterLine id c) =
    not c.source.flow && counter_part.may (id, (place_of c.source, (c.every, c.first)))
may_be_written (PacketLine p k) =
    is_single k.input && (is_single k.output
    && packet_part.may (p, (k.input.value, (k.output.value, (k.vlan, (k.frame_length, k.header))))))
may_be_written (PollLine id now) = moment_part.may (id, now)
may_be_written (SendLine id now) = moment_part.may (id, now)
may_be_written (RestartLine id at) = restart_part.may (id, at)
may_be_written (ResetLine s) = reset_part.may (s.flow, place_of s)
may_be_written (DeliverLine d) = deliver_part.may (d.id, (d.boot, (d.number, d.at)))

-- its words
abbrev pub words_of : Line → List Text
words_of (MaxLine bytes) = codes "max" ∷ max_part.words bytes
words_of (SubLine s) = codes "sub" ∷ sub_part.words (s.id, (s.address, (s.first, (s.at, s.stage))))
words_of (FlowLine id f) =
    codes "flow" ∷ flow_part.words (id, (place_of f.source, (f.rate, (f.first, (f.pool, (f.drops, f.skips))))))
words_of (CounterLine id c) =
    codes "counter" ∷ counter_part.words (id, (place_of c.source, (c.every, c.first)))
words_of (PacketLine p k) =
    codes "packet" ∷ packet_part.words (p, (k.input.value, (k.output.value, (k.vlan, (k.frame_length, k.header)))))
words_of (PollLine id now) = codes "poll" ∷ moment_part.words (id, now)
words_of (SendLine id now) = codes "send" ∷ moment_part.words (id, now)
words_of (RestartLine id at) = codes "restart" ∷ restart_part.words (id, at)
words_of (ResetLine s) = codes "reset" ∷ reset_part.words (s.flow, place_of s)
words_of (DeliverLine d) = codes "deliver" ∷ deliver_part.words (d.id, (d.boot, (d.number, d.at)))

-- the one text that says the line
unfoldable pub text_of : Line → Text
text_of line = join_with_byte 32 (words_of line)

-- the text says this line
pub record Says (text : Text) (line : Line) : Type 0 where
  pub may : may_be_written line ≡ true
  pub is : text ≡ text_of line
