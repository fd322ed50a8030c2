-- The lines of a script: what is read of a text is what its one text says.
use Rattle.std.proofs.Common.{◌≡◌, ◌∙◌, ◌<◌, ◌^◌, ℕ, Bool, true, false, not, List, [], ◌∷◌, Some, refl, ap, ap₂, sym, arith}
use Rattle.std.specs.Prelude.{option_map, bytes_eq, codes}
use Rattle.std.specs.List.{join_with_byte}
use Rattle.std.proofs.lemmas.Bool.Decides.{nat_tests}
use Rattle.std.proofs.lemmas.List.Splits.{join_with_byte-slice_split}
use Rattle.std.proofs.lemmas.Slice.Eq.{bytes_eq-Decides}
use Rattle.agent_spec.specs.Samples.{Port}
use Rattle.script_spec.specs.Words.{Text, WordForm, number, header, vlan, kind}
use Rattle.script_spec.specs.Parts.{Part, one, named, both, whole, split_at}
use Rattle.script_spec.specs.Values.{Place, place, skip_list, address}
use Rattle.script_spec.specs.Lines.{Line, MaxLine, SubLine, FlowLine, CounterLine, PacketLine, PollLine, SendLine, RestartLine, ResetLine, DeliverLine, place_of}
use Rattle.script_spec.specs.Forms.{SubWords, FlowWords, CounterWords, PacketWords, DeliverWords, sub_line, flow_line, counter_line, packet_line, poll_line, send_line, restart_line, reset_line, deliver_line, line_named, line_of_words, line_in}
use Rattle.script_laws.specs.Written.{is_single, may_be_written, words_of, text_of, Says}
use Rattle.script_laws.proofs.Texts.{both_true, chosen, mapped, Lacks, split_joined}
use Rattle.script_laws.proofs.Parting.{IsForm, FormLacks, IsPart, PartLacks, one_part, one_lacks, named_part, named_lacks, both_part, both_lacks, whole_read, whole_written}
use Rattle.script_laws.proofs.Numbers.{number_form, number_lacks}
use Rattle.script_laws.proofs.Bytes.{header_form, header_lacks, vlan_form, vlan_lacks, kind_form, kind_lacks}
use Rattle.script_laws.proofs.Made.{place_form, place_lacks, skip_list_form, skip_list_lacks, address_form, address_lacks}

-- a part with its laws
record Proved (A : Type 0) : Type 0 where
  pub part : Part A
  pub law : IsPart part
  pub lacks : PartLacks 32 part

abbrev a_word : {A : Type 0} (form : WordForm A) → IsForm form → FormLacks 32 form → Proved A
a_word form law lack = record { part = one form; law = one_part form law; lacks = one_lacks 32 form lack }

abbrev a_number : (least most : ℕ) → most < 2 ^ 64 → Proved ℕ
a_number least most fits = a_word (number least most) (number_form least most fits) (number_lacks 32 least most fits refl)

abbrev behind_name : {A : Type 0} (name : Text) → Lacks 32 name → Proved A → Proved A
behind_name name plain p = record {
  part = named name p.part;
  law = named_part name p.part p.law;
  lacks = named_lacks 32 name p.part plain p.lacks;
}

abbrev pair : {A B : Type 0} → Proved A → Proved B → Proved (A × B)
pair p q = record {
  part = both p.part q.part;
  law = both_part p.part q.part p.law q.law;
  lacks = both_lacks 32 p.part q.part p.lacks q.lacks;
}

abbrev n32 : Proved ℕ
n32 = a_number 0 4294967295 (omega arith)

abbrev n64 : Proved ℕ
n64 = a_number 0 18446744073709551615 (omega arith)

abbrev time : Proved ℕ
time = a_number 0 9223372036854775807 (omega arith)

abbrev port : Proved ℕ
port = a_number 0 1073741823 (omega arith)

abbrev positive : Proved ℕ
positive = a_number 1 4294967295 (omega arith)

abbrev a_place : Proved Place
a_place = a_word place place_form place_lacks

abbrev max_proved : Proved ℕ
max_proved = a_number 512 65535 (omega arith)

abbrev sub_proved : Proved SubWords
sub_proved =
    pair n32 (pair (a_word address address_form address_lacks) (pair (behind_name (codes "first") refl n32)
    (pair (behind_name (codes "at") refl time) (behind_name (codes "stage") refl (a_number 1 1024 (omega arith))))))

abbrev flow_proved : Proved FlowWords
flow_proved =
    pair n32 (pair a_place (pair (behind_name (codes "rate") refl positive) (pair (behind_name (codes "first") refl n32)
    (pair (behind_name (codes "pool") refl n32) (pair (behind_name (codes "drops") refl n32)
    (behind_name (codes "skips") refl (a_word skip_list skip_list_form skip_list_lacks)))))))

abbrev counter_proved : Proved CounterWords
counter_proved =
    pair n32 (pair a_place (pair (behind_name (codes "every") refl positive) (behind_name (codes "first") refl n32)))

abbrev packet_proved : Proved PacketWords
packet_proved =
    pair a_place (pair (behind_name (codes "in") refl port) (pair (behind_name (codes "out") refl port)
    (pair (behind_name (codes "vlan") refl (a_word vlan vlan_form (vlan_lacks 32 refl refl)))
    (pair (behind_name (codes "length") refl n32) (a_word header header_form (header_lacks 32 refl refl))))))

abbrev moment_proved : Proved (ℕ × ℕ)
moment_proved = pair n32 n32

abbrev restart_proved : Proved (ℕ × ℕ)
restart_proved = pair n32 (behind_name (codes "at") refl time)

abbrev reset_proved : Proved (Bool × Place)
reset_proved = pair (a_word kind kind_form kind_lacks) a_place

abbrev deliver_proved : Proved DeliverWords
deliver_proved = pair n32 (pair n64 (pair n64 n64))

-- ---- what is read

abbrev IsSaid : Text → List Text → Line → Type 0
IsSaid name words line = (may_be_written line ≡ true) × (name ∷ words ≡ words_of line)

module _ {A : Type 0} (key : Text) (p : Proved A) (to : A → Line) (mays : (a : A) → may_be_written (to a) ≡ p.part.may a)
    (says : (a : A) → words_of (to a) ≡ key ∷ p.part.words a) where
  said : (name : Text) (words : List Text) (line : Line) → bytes_eq name key ≡ true
      → option_map to (whole p.part words) ≡ Some line → IsSaid name words line
  said name words line first e =
      let m = mapped to (whole p.part words) line e in
      let read = whole_read p.part p.law words m.a m.is in (
        ap may_be_written (sym m.to) ∙ mays m.a ∙ read.0,
        ap (λ (t : Text). t ∷ words) ((bytes_eq-Decides name key).0 first) ∙ ap (λ (l : List Text). key ∷ l) read.1
            ∙ sym (says m.a) ∙ ap words_of m.to,
      )

said_by_name : (name : Text) (words : List Text) (line : Line) → line_named name words ≡ Some line → IsSaid name words line
said_by_name name words line e =
    let P : Type 0 = IsSaid name words line in
    chosen (bytes_eq name (codes "max")) _ _ line P e
    (said (codes "max") max_proved (λ n. MaxLine n) (λ a. refl) (λ a. refl) name words line)
    (λ n0 e0. chosen (bytes_eq name (codes "sub")) _ _ line P e0
    (said (codes "sub") sub_proved sub_line (λ a. refl) (λ a. refl) name words line)
    (λ n1 e1. chosen (bytes_eq name (codes "flow")) _ _ line P e1
    (said (codes "flow") flow_proved flow_line (λ a. refl) (λ a. refl) name words line)
    (λ n2 e2. chosen (bytes_eq name (codes "counter")) _ _ line P e2
    (said (codes "counter") counter_proved counter_line (λ a. refl) (λ a. refl) name words line)
    (λ n3 e3. chosen (bytes_eq name (codes "packet")) _ _ line P e3
    (said (codes "packet") packet_proved packet_line (λ a. refl) (λ a. refl) name words line)
    (λ n4 e4. chosen (bytes_eq name (codes "poll")) _ _ line P e4
    (said (codes "poll") moment_proved poll_line (λ a. refl) (λ a. refl) name words line)
    (λ n5 e5. chosen (bytes_eq name (codes "send")) _ _ line P e5
    (said (codes "send") moment_proved send_line (λ a. refl) (λ a. refl) name words line)
    (λ n6 e6. chosen (bytes_eq name (codes "restart")) _ _ line P e6
    (said (codes "restart") restart_proved restart_line (λ a. refl) (λ a. refl) name words line)
    (λ n7 e7. chosen (bytes_eq name (codes "reset")) _ _ line P e7
    (said (codes "reset") reset_proved reset_line (λ a. refl) (λ a. refl) name words line)
    (λ n8 e8. chosen (bytes_eq name (codes "deliver")) _ _ line P e8
    (said (codes "deliver") deliver_proved deliver_line (λ a. refl) (λ a. refl) name words line)
    (λ n9 bad. absurd cc))))))))))

read_words : (text : Text) (words : List Text) (line : Line) → split_at 32 text ≡ words → line_of_words words ≡ Some line
    → (may_be_written line ≡ true) × (text ≡ join_with_byte 32 (words_of line))
read_words text [] line is e = absurd cc
read_words text (name ∷ words) line is e =
    let s = said_by_name name words line e in
    (s.0, sym (join_with_byte-slice_split 32 text) ∙ ap (join_with_byte 32) (is ∙ s.1))

pub line_said : (text : Text) (line : Line) → line_in text ≡ Some line → Says text line
unfolding line_in text_of
line_said text line e =
    let r = read_words text (split_at 32 text) line refl e in
    record { may = r.0; is = r.1 }

-- ---- what is written

-- the words are those of their text, and say the line
record IsWritten (line : Line) : Type 0 where
  pub split : split_at 32 (join_with_byte 32 (words_of line)) ≡ words_of line
  pub read : line_of_words (words_of line) ≡ Some line

wrote : {A : Type 0} (key : Text) (p : Proved A) (to : A → Line) (a : A) (line : Line) → Lacks 32 key → p.part.may a ≡ true
    → words_of line ≡ key ∷ p.part.words a → to a ≡ line
    → line_of_words (key ∷ p.part.words a) ≡ option_map to (whole p.part (p.part.words a)) → IsWritten line
wrote key p to a line plain may says is named_so = record {
  split = ap (λ (l : List Text). split_at 32 (join_with_byte 32 l)) says
      ∙ split_joined 32 key (p.part.words a) (plain, p.lacks a may) ∙ sym says;
  read = ap line_of_words says ∙ named_so ∙ ap (option_map to) (whole_written p.part p.law a may) ∙ ap (λ (l : Line). Some l) is;
}

not_true : (b : Bool) → not b ≡ true → b ≡ false
not_true true e = absurd cc
not_true false e = refl

zero_form : (p : Port) → is_single p ≡ true → record { form = 0; value = p.value } ≡ p
zero_form p e =
    let zero : p.form ≡ 0 = grind (arith, nat_tests) in
    ap (λ (n : ℕ). record { form = n; value = p.value }) (sym zero)

written : (line : Line) → may_be_written line ≡ true → IsWritten line
written (MaxLine n) may = wrote (codes "max") max_proved (λ n. MaxLine n) n (MaxLine n) refl may refl refl refl
written (SubLine s) may =
    wrote (codes "sub") sub_proved sub_line (s.id, (s.address, (s.first, (s.at, s.stage)))) (SubLine s) refl may refl refl refl
written (FlowLine id f) may =
    let parts = both_true f.source.flow _ may in
    wrote (codes "flow") flow_proved flow_line (id, (place_of f.source, (f.rate, (f.first, (f.pool, (f.drops, f.skips))))))
    (FlowLine id f) refl parts.1 refl
    (ap (λ (flow : Bool). FlowLine id (record {
      source = record { flow = flow; class = f.source.class; index = f.source.index };
      rate = f.rate;
      skips = f.skips;
      first = f.first;
      pool = f.pool;
      drops = f.drops;
    })) (sym parts.0)) refl
written (CounterLine id c) may =
    let parts = both_true (not c.source.flow) _ may in
    wrote (codes "counter") counter_proved counter_line (id, (place_of c.source, (c.every, c.first))) (CounterLine id c) refl parts.1 refl
    (ap (λ (flow : Bool). CounterLine id (record {
      source = record { flow = flow; class = c.source.class; index = c.source.index };
      every = c.every;
      first = c.first;
    })) (sym (not_true c.source.flow parts.0))) refl
written (PacketLine p k) may =
    let one = both_true (is_single k.input) _ may in
    let two = both_true (is_single k.output) _ one.1 in
    wrote (codes "packet") packet_proved packet_line
    (p, (k.input.value, (k.output.value, (k.vlan, (k.frame_length, k.header))))) (PacketLine p k) refl two.1 refl
    (ap₂ (λ (i o : Port). PacketLine p (record { input = i; output = o; frame_length = k.frame_length; vlan = k.vlan; header = k.header }))
    (zero_form k.input one.0) (zero_form k.output two.0)) refl
written (PollLine id now) may = wrote (codes "poll") moment_proved poll_line (id, now) (PollLine id now) refl may refl refl refl
written (SendLine id now) may = wrote (codes "send") moment_proved send_line (id, now) (SendLine id now) refl may refl refl refl
written (RestartLine id at) may =
    wrote (codes "restart") restart_proved restart_line (id, at) (RestartLine id at) refl may refl refl refl
written (ResetLine s) may =
    wrote (codes "reset") reset_proved reset_line (s.flow, place_of s) (ResetLine s) refl may refl refl refl
written (DeliverLine d) may =
    wrote (codes "deliver") deliver_proved deliver_line (d.id, (d.boot, (d.number, d.at))) (DeliverLine d) refl may refl refl refl

pub line_read : (text : Text) (line : Line) → Says text line → line_in text ≡ Some line
unfolding line_in text_of
line_read text line s =
    let w = written line s.may in
    ap (λ (t : Text). line_of_words (split_at 32 t)) s.is ∙ ap line_of_words w.split ∙ w.read
