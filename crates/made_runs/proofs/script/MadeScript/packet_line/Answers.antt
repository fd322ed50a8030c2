use Rattle.std.proofs.Common.{◌≡◌, ◌∙◌, ◌%◌, ◌+◌, suc, List, subst, sym, ap, arith}
use Rattle.std.proofs.Math.Nat.{mod-eq_of_lt}
use Rattle.script_spec.specs.Lines.{Line, PacketLine}
use Rattle.script_lines.specs.Shown.{shown}
use Rattle.trial_spec.specs.Made.{is_sent, made_packet}
use Rattle.made_runs.specs.declared.script.Phase.{Phase}
use Rattle.made_runs.specs.declared.script.Phase.TheVariants.{Packet}
use Rattle.made_runs.specs.declared.script.Stage.TheVariants.{Going}
use Rattle.made_runs.specs.Scripts.{ScriptState, Told, Gives, named_by, nothing_due, port}
use Rattle.made_runs.proofs.Scripting.{packet_gives, stage_of}
use Rattle.made_runs.proofs.script.MadeScript.packet_line.Goals as goal
use Rattle.made_runs.proofs.script.MadeScript.packet_line.Goals.{then-is_sent, else-is_sent}

pub returns : goal.returns
returns c =
    let k = (c.self.inside.packets + 1) % 4294967296 in
    let T : Phase → ScriptState = λ phase. record { seed = c.self.inside.seed; total = c.self.inside.total; run = c.packet-packet.new.self; packets = k; decided = c.self.inside.decided; due = c.self.inside.due; stage = Going phase } in
    let S : ScriptState = record { seed = c.self.inside.seed; total = c.self.inside.total; run = c.self.inside.run; packets = c.self.inside.packets; decided = c.self.inside.decided; due = c.self.inside.due; stage = c.self.inside.stage } in
    let P : ScriptState → Type 0 = λ s. (lines : List Line) → Told Packet s lines → s.due ≡ nothing_due
    → Gives s (T c.if-is_sent.self) lines (shown c.line_of_packet.result) in
    let phase_is : stage_of (is_sent c.self.inside.total k) ≡ c.if-is_sent.self =
    elim c.if-is_sent.branch [
      | then-is_sent w ↦ ap stage_of (sym c.is_sent.ensures ∙ w.if-is_sent.true) ∙ sym w.self-is
      | else-is_sent w ↦ ap stage_of (sym c.is_sent.ensures ∙ w.if-is_sent.false) ∙ sym w.self-is
    ] in
    subst P c.self.view_is (λ lines g none.
    let few : k ≡ suc c.self.inside.packets = mod-eq_of_lt (omega (arith, g.at.more, g.most)) ∙ omega arith in
    let line : shown c.line_of_packet.result ≡ PacketLine port (made_packet g.now.state) =
    c.line_of_packet.ensures g.now.state (c.packet-packet.ensures.packet (named_by lines) g.now g.run) in
    subst (Gives S (T c.if-is_sent.self) lines) (sym line)
    (subst (λ phase. Gives S (T phase) lines (PacketLine port (made_packet g.now.state))) phase_is
    (packet_gives S lines none c.packet-packet.new.self k g few c.packet-packet.ensures.stands)))
