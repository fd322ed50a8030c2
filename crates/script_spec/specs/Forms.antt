-- The lines of a script, word by word.
use Rattle.std.specs.Prelude.{ℕ, Bool, List, [], ◌∷◌, Option, None, if◌then◌else◌, option_map, codes, bytes_eq}
use Rattle.wire_spec.specs.Heads.{AgentAddress}
use Rattle.agent_spec.specs.Samples.{Port}
use Rattle.script_spec.specs.Words.{Text, WordForm, number, number32, number64, vlan, header, kind}
use Rattle.script_spec.specs.Values.{Place, place, skip_list, address}
use Rattle.script_spec.specs.Parts.{Part, one, named, both, whole, split_at}
use Rattle.script_spec.specs.Lines.{Line, MaxLine, SubLine, FlowLine, CounterLine, PacketLine, PollLine, SendLine, RestartLine, ResetLine, DeliverLine, flow_at, counter_at, source_at}

-- a time at which a boot arrives is below 2^63 ms, so that with an uptime it is below 2^64
abbrev pub boot_time : WordForm ℕ
boot_time = number 0 9223372036854775807

-- a port is a single interface: the form is 0, and the value has 30 bits
abbrev pub interface : WordForm ℕ
interface = number 0 1073741823

-- ---- what stands behind the first word of each line

-- BYTES
abbrev pub max_part : Part ℕ
max_part = one (number 512 65535)

-- ID ADDRESS first N at MS stage K
abbrev pub SubWords : Type 0
SubWords = ℕ × (AgentAddress × (ℕ × (ℕ × ℕ)))

abbrev pub sub_part : Part SubWords
sub_part =
    both (one number32) (both (one address) (both (named (codes "first") (one number32))
    (both (named (codes "at") (one boot_time)) (named (codes "stage") (one (number 1 1024))))))

abbrev pub sub_line : SubWords → Line
sub_line w = SubLine (record { id = w.0; address = w.1.0; first = w.1.1.0; at = w.1.1.1.0; stage = w.1.1.1.1 })

-- ID C:I rate R first N pool P drops D skips A,B,..
abbrev pub FlowWords : Type 0
FlowWords = ℕ × (Place × (ℕ × (ℕ × (ℕ × (ℕ × List ℕ)))))

abbrev pub flow_part : Part FlowWords
flow_part =
    both (one number32) (both (one place) (both (named (codes "rate") (one (number 1 4294967295)))
    (both (named (codes "first") (one number32)) (both (named (codes "pool") (one number32))
    (both (named (codes "drops") (one number32)) (named (codes "skips") (one skip_list)))))))

abbrev pub flow_line : FlowWords → Line
flow_line w = FlowLine w.0 (record {
  source = flow_at w.1.0;
  rate = w.1.1.0;
  first = w.1.1.1.0;
  pool = w.1.1.1.1.0;
  drops = w.1.1.1.1.1.0;
  skips = w.1.1.1.1.1.1;
})

-- ID C:I every MS first N
abbrev pub CounterWords : Type 0
CounterWords = ℕ × (Place × (ℕ × ℕ))

abbrev pub counter_part : Part CounterWords
counter_part =
    both (one number32) (both (one place) (both (named (codes "every") (one (number 1 4294967295)))
    (named (codes "first") (one number32))))

abbrev pub counter_line : CounterWords → Line
counter_line w = CounterLine w.0 (record { source = counter_at w.1.0; every = w.1.1.0; first = w.1.1.1 })

-- C:I in V out W vlan X length L HEX
abbrev pub PacketWords : Type 0
PacketWords = Place × (ℕ × (ℕ × (Option ℕ × (ℕ × List ℕ))))

abbrev pub packet_part : Part PacketWords
packet_part =
    both (one place) (both (named (codes "in") (one interface)) (both (named (codes "out") (one interface))
    (both (named (codes "vlan") (one vlan)) (both (named (codes "length") (one number32)) (one header)))))

abbrev pub single : ℕ → Port
single value = record { form = 0; value = value }

abbrev pub packet_line : PacketWords → Line
packet_line w = PacketLine w.0 (record {
  input = single w.1.0;
  output = single w.1.1.0;
  vlan = w.1.1.1.0;
  frame_length = w.1.1.1.1.0;
  header = w.1.1.1.1.1;
})

-- ID UPTIME
abbrev pub moment_part : Part (ℕ × ℕ)
moment_part = both (one number32) (one number32)

abbrev pub poll_line : ℕ × ℕ → Line
poll_line w = PollLine w.0 w.1

abbrev pub send_line : ℕ × ℕ → Line
send_line w = SendLine w.0 w.1

-- ID at MS
abbrev pub restart_part : Part (ℕ × ℕ)
restart_part = both (one number32) (named (codes "at") (one boot_time))

abbrev pub restart_line : ℕ × ℕ → Line
restart_line w = RestartLine w.0 w.1

-- flow C:I, or counter C:I
abbrev pub reset_part : Part (Bool × Place)
reset_part = both (one kind) (one place)

abbrev pub reset_line : Bool × Place → Line
reset_line w = ResetLine (source_at w.0 w.1)

-- ID BOOT NUMBER MS
abbrev pub DeliverWords : Type 0
DeliverWords = ℕ × (ℕ × (ℕ × ℕ))

abbrev pub deliver_part : Part DeliverWords
deliver_part = both (one number32) (both (one number64) (both (one number64) (one number64)))

abbrev pub deliver_line : DeliverWords → Line
deliver_line w = DeliverLine (record { id = w.0; boot = w.1.0; number = w.1.1.0; at = w.1.1.1 })

-- ---- a whole line

-- what the words behind the first one say
abbrev pub line_named : Text → List Text → Option Line
line_named name words =
    if bytes_eq name (codes "max") then option_map (λ n. MaxLine n) (whole max_part words)
    else if bytes_eq name (codes "sub") then option_map sub_line (whole sub_part words)
    else if bytes_eq name (codes "flow") then option_map flow_line (whole flow_part words)
    else if bytes_eq name (codes "counter") then option_map counter_line (whole counter_part words)
    else if bytes_eq name (codes "packet") then option_map packet_line (whole packet_part words)
    else if bytes_eq name (codes "poll") then option_map poll_line (whole moment_part words)
    else if bytes_eq name (codes "send") then option_map send_line (whole moment_part words)
    else if bytes_eq name (codes "restart") then option_map restart_line (whole restart_part words)
    else if bytes_eq name (codes "reset") then option_map reset_line (whole reset_part words)
    else if bytes_eq name (codes "deliver") then option_map deliver_line (whole deliver_part words)
    else None

abbrev pub line_of_words : List Text → Option Line
line_of_words [] = None
line_of_words (name ∷ words) = line_named name words

-- what a text says; a space, 32, stands between each two words, so none stands at the ends
unfoldable pub line_in : Text → Option Line
line_in text = line_of_words (split_at 32 text)
