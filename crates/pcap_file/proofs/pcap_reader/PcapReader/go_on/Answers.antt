use Rattle.std.proofs.Common.{sym, subst}
use Rattle.pcap_file.specs.PcapAnswers.{ReaderState}
use Rattle.pcap_file.specs.PcapSteps.{IsBehind}
use Rattle.pcap_file.proofs.PcapSteps.{within_given}
use Rattle.pcap_file.proofs.pcap_reader.PcapReader.go_on.Goals as goal
use Rattle.byte_ends.specs.Unread.{unread}

pub returns-clause-given : goal.returns-clause-given
returns-clause-given g c = λ bytes packets behind.
    let before =
    subst
    (λ (r : ReaderState). IsBehind c.args.order packets bytes c.args.count c.args.offset (unread r.held (g.S.Source.seen c.args.source.now)))
    (sym c.self.view_is) behind in
    let read = c.read_within-answer.ensures in
    rw c.stage_behind-self-inside.ensures.after
    (within_given c.args.order bytes packets c.args.count c.args.offset _ _ _ _ _ before read.told read.stops)
