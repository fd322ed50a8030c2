use Rattle.std.proofs.Common.{rules, List, map, take, arith}
use Rattle.wire_spec.specs.Heads.{Head}
use Rattle.wire_spec.specs.Shapes.{Tree}
use Rattle.datagram_core.specs.Heads.{head_of}
use Rattle.sub_agents.specs.Staged.{staged_value, values}
use Rattle.sub_agents.proofs.writing.write_datagram.Goals as goal

pub returns-clause-written : goal.returns-clause-written
returns-clause-written c =
    let h : Head = head_of c.args.head.now in
    let ts : List Tree = map (staged_value c.args.form) (take c.args.count c.args.stage.now.items) in
    search (
      rules,
      c.finish.ensures.written h (values ts) (c.write_samples.ensures.has h c.start-writer.ensures.has),
    )

pub returns-clause-within : goal.returns-clause-within
returns-clause-within c =
    let h : Head = head_of c.args.head.now in
    let ts : List Tree = map (staged_value c.args.form) (take c.args.count c.args.stage.now.items) in
    omega (
      arith,
      c.requires.room,
      c.finish.ensures.length h (values ts) (c.write_samples.ensures.has h c.start-writer.ensures.has),
    )
