use Rattle.sflow_tool.proofs.CheckLaws.{datagram_line, fails_faulty, faulty_fails, faulty_line}
use Rattle.sflow_tool.proofs.laws.check_lines_are_exact.Goals as goal

pub returns : goal.returns
returns c = record {
  datagram = λ p number e t spelled. datagram_line p number e t spelled;
  fault = λ p number e f fails. faulty_line p number e f fails;
  faulty = λ p e are. (λ is. faulty_fails p e are is, λ fails. fails_faulty p e fails.0 fails.1);
}
