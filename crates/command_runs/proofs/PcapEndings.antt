-- Each input makes a run over a pcap file end in one way.
use Rattle.std.proofs.Common.{◌≡◌, ℕ, ◌+◌, ◌<◌, ◌≤◌, ◌^◌, ◌⊎◌, Bool, true, false, inl, inr, if◌then◌else◌, List, [], ◌∷◌, ◌++◌, length, take, drop, Ok, Err, refl, sym, ap, subst, ◌∙◌, arith, length-append, length-take-le, length-drop}
use Rattle.std.proofs.lemmas.Bool.{cases_lt}
use Rattle.wire_spec.specs.declared.input_kind.InputKind.{InputKind}
use Rattle.wire_spec.specs.declared.input_kind.InputKind.TheVariants.{Magic, Version, Link, Long, Cut}
use Rattle.capture_spec.specs.declared.byte_order.ByteOrder.{ByteOrder}
use Rattle.capture_spec.specs.PcapFiles.{EndsWithin, Front, Holds, IsTooLong, Packet, PcapFault, PcapFile, Stops, Walks, front_of, packets_length}
use Rattle.capture_spec.specs.PcapReading.{IsPcapOutcome, PcapOutcome, pcap_reading}
use Rattle.capture_spec.proofs.PacketWalks.{end_stops}
use Rattle.capture_spec.proofs.PcapOutcomes.{outcome_back, shows_so}
use Rattle.pcap_file.specs.PcapAnswers.{FaultsAt, HasNoHeader}
use Rattle.pcap_file.specs.PcapFaults.{FileThen}
use Rattle.pcap_file.specs.PcapSteps.{FaultBehind, GoesOn}
use Rattle.command_runs.specs.declared.status.Status.{Status}
use Rattle.command_runs.specs.declared.status.Status.TheVariants.{Done, Found, Usage, ReadFault, WriteFault, BadInput, Memory, LinkFault, Spent}
use Rattle.command_runs.specs.Acts.{Act}
use Rattle.command_runs.specs.Grammars.{pcap_files}
use Rattle.command_runs.specs.Readings.{Decides, HasOneEnding, IsRead}
use Rattle.pcap_file.proofs.Headers.{no_link, no_magic, no_version, one_order}
use Rattle.command_runs.proofs.PacketWalks.{compare, longer, same, shorter, walk_cut, walk_left, walk_some}

-- ---- where a run stands when its reading has ended

-- what the front behind the packets says, where there are fewer than 2^48 of them; no reading ends before a packet
abbrev by_front : Act (List Packet) → List Packet → Front → Status
by_front a ps Stops = if a.finds ps then Found else Done
by_front a ps (Holds p more) = ReadFault
by_front a ps EndsWithin = BadInput (24 + packets_length ps) Cut
by_front a ps IsTooLong = BadInput (24 + packets_length ps + 8) Long

-- it ends there
abbrev IsEnd : Front → Type 0
IsEnd Stops = Unit {0}
IsEnd (Holds p more) = ⊥
IsEnd EndsWithin = Unit {0}
IsEnd IsTooLong = Unit {0}

-- why reading ended behind these packets, where this is left
data Halts (order : ByteOrder) (a : Act (List Packet)) (ps : List Packet) (r : List ℕ) (status : Status) : Type 0 where
  at_end : r ≡ [] → status ≡ by_front a ps Stops → Halts order a ps r status
  broken : (front : Front) → front_of order r ≡ front → IsEnd front → length ps < 2 ^ 48
      → status ≡ by_front a ps front → Halts order a ps r status
  goes_on : 0 < length r → length ps ≡ 2 ^ 48 → status ≡ Spent → Halts order a ps r status

-- the input has no header, or it begins with these packets
data Halted (a : Act (List Packet)) (input : List ℕ) (ps : List Packet) (status : Status) : Type 0 where
  headless : HasNoHeader input → (fault : ℕ × InputKind) → PcapFault input fault.0 fault.1
      → status ≡ BadInput fault.0 fault.1 → Halted a input ps status
  behind : (order : ByteOrder) (r : List ℕ) → FileThen order ps r input → length ps ≤ 2 ^ 48
      → Halts order a ps r status → Halted a input ps status

-- ---- a further packet doesn't stand there

no_further : (order : ByteOrder) (a : Act (List Packet)) (ps : List Packet) (r : List ℕ) (status : Status) (p : Packet)
    (mid : List ℕ) → Halts order a ps r status → front_of order r ≡ Holds p mid → length ps < 2 ^ 48 → ⊥
no_further order a ps r status p mid (at_end none is) front few =
    let both : Stops ≡ Holds p mid = sym (end_stops order r none) ∙ front in
    absurd cc
no_further order a ps r status p mid (broken x at ends few' is) front few = subst IsEnd (sym at ∙ front) ends
no_further order a ps r status p mid (goes_on some number is) front few = absurd (omega (arith, number, few))

no_longer : (order : ByteOrder) (a : Act (List Packet)) (ps qs : List Packet) (r : List ℕ) (status : Status) (p : Packet)
    (more : List Packet) (mid : List ℕ) → qs ≡ ps ++ p ∷ more → front_of order r ≡ Holds p mid
    → Halts order a ps r status → length qs ≤ 2 ^ 48 → ⊥
no_longer order a ps qs r status p more mid is front halts few =
    no_further order a ps r status p mid halts front
    (omega (arith, few, ap (λ (l : List Packet). length l) is, length-append ps (p ∷ more)))

-- ---- the status

front_status : (order : ByteOrder) (a : Act (List Packet)) (ps : List Packet) (r : List ℕ) (status : Status)
    → Halts order a ps r status → length ps < 2 ^ 48 → status ≡ by_front a ps (front_of order r)
front_status order a ps r status (at_end none is) few = is ∙ ap (by_front a ps) (sym (end_stops order r none))
front_status order a ps r status (broken x at ends few' is) few = is ∙ ap (by_front a ps) (sym at)
front_status order a ps r status (goes_on some number is) few = absurd (omega (arith, number, few))

abbrev full : Act (List Packet) → List Packet → List ℕ → Status
full a ps [] = by_front a ps Stops
full a ps (b ∷ more) = Spent

full_spent : (a : Act (List Packet)) (ps : List Packet) (r : List ℕ) → 0 < length r → full a ps r ≡ Spent
full_spent a ps [] some = absurd (omega (arith, some))
full_spent a ps (b ∷ more) some = refl

full_status : (order : ByteOrder) (a : Act (List Packet)) (ps : List Packet) (r : List ℕ) (status : Status)
    → Halts order a ps r status → length ps ≡ 2 ^ 48 → status ≡ full a ps r
full_status order a ps r status (at_end none is) number = is ∙ ap (full a ps) (sym none)
full_status order a ps r status (broken x at ends few is) number = absurd (omega (arith, number, few))
full_status order a ps r status (goes_on some number' is) number = is ∙ sym (full_spent a ps r some)

same_status : (order : ByteOrder) (a : Act (List Packet)) (ps : List Packet) (r : List ℕ) (one other : Status)
    → length ps ≤ 2 ^ 48 → Halts order a ps r one → Halts order a ps r other → one ≡ other
same_status order a ps r one other few first second =
    elim (cases_lt (length ps) (2 ^ 48)) [
      | inl lt ↦ front_status order a ps r one first lt ∙ sym (front_status order a ps r other second lt)
      | inr le ↦
          let number : length ps ≡ 2 ^ 48 = omega (arith, le, few) in
          full_status order a ps r one first number ∙ sym (full_status order a ps r other second number)
    ]

-- ---- two readings of one input

one_fault : (x y : ℕ × InputKind) (r : PcapOutcome) → r ≡ Err x → r ≡ Err y → x ≡ y
one_fault x y r one two = cc

both_behind : (order : ByteOrder) (a : Act (List Packet)) (input : List ℕ) (ps qs : List Packet) (one other : Status)
    (r s : List ℕ) → FileThen order ps r input → FileThen order qs s input → length ps ≤ 2 ^ 48 → length qs ≤ 2 ^ 48
    → Halts order a ps r one → Halts order a qs s other → one ≡ other
both_behind order a input ps qs one other r s first second few few' halts halts' =
    elim (compare order ps qs r s (drop 24 input) first.packets_are second.packets_are) [
      | same is left ↦
          same_status order a qs s one other few'
          (subst (λ l. Halts order a qs l one) left (subst (λ (l : List Packet). Halts order a l r one) is halts))
          halts'
      | shorter p more mid is front ↦ absurd (no_longer order a ps qs r one p more mid is front halts few')
      | longer p more mid is front ↦ absurd (no_longer order a qs ps s other p more mid is front halts' few)
    ]

one_halt : (a : Act (List Packet)) (input : List ℕ) (ps qs : List Packet) (one other : Status) → Halted a input ps one
    → Halted a input qs other → one ≡ other
one_halt a input ps qs one other (headless none x fault is) (headless none' y fault' is') =
    is
    ∙ ap (λ (p : ℕ × InputKind). BadInput p.0 p.1)
    (one_fault x y (pcap_reading input) (outcome_back input (Err x) fault) (outcome_back input (Err y) fault'))
    ∙ sym is'
one_halt a input ps qs one other (headless none x fault is) (behind order s second few halts) =
    absurd (none order second.header)
one_halt a input ps qs one other (behind order r first few halts) (headless none y fault is) =
    absurd (none order first.header)
one_halt a input ps qs one other (behind order r first few halts) (behind order' s second few' halts') =
    let same_order : order' ≡ order = one_order order' order _ second.header.magic_is first.header.magic_is in
    both_behind order a input ps qs one other r s first
    (subst (λ (o : ByteOrder). FileThen o qs s input) same_order second) few few' halts
    (subst (λ (o : ByteOrder). Halts o a qs s other) same_order halts')

-- ---- from what is said of a reading

all_halt : (a : Act (List Packet)) (input : List ℕ) (ps : List Packet) (status : Status) (found : Bool)
    → IsRead pcap_files a ps input found → status ≡ (if found then Found else Done) → Halted a input ps status
all_halt a input ps status found reads is =
    behind reads.all.file.order []
    (record { header = reads.all.file.header; packets_are = reads.all.file.packets_are }) reads.all.few
    (at_end refl (is ∙ ap (λ b. if b then Found else Done) (sym reads.found_is)))

break_halts : (order : ByteOrder) (a : Act (List Packet)) (ps : List Packet) (r : List ℕ) (at : ℕ) (kind : InputKind)
    → FaultsAt (24 + packets_length ps) (front_of order r) at kind → length ps < 2 ^ 48
    → Halts order a ps r (BadInput at kind)
break_halts order a ps r at Cut h few = broken EndsWithin h.0 tt few (ap (λ n. BadInput n Cut) h.1)
break_halts order a ps r at Long h few = broken IsTooLong h.0 tt few (ap (λ n. BadInput n Long) h.1)
break_halts order a ps r at _ h few = absurd h

fault_halts : (a : Act (List Packet)) (input : List ℕ) (ps : List Packet) (at : ℕ) (kind : InputKind)
    → FaultBehind ps input at kind → Halted a input ps (BadInput at kind)
fault_halts a input ps at kind h =
    elim h.behind [
      | inl none ↦ headless none.1 (at, kind) h.fault refl
      | inr b ↦
          behind b.order b.rest b.before (omega (arith, h.few)) (break_halts b.order a ps b.rest at kind b.broken h.few)
    ]

spent_halts : (a : Act (List Packet)) (input : List ℕ) (ps : List Packet) → GoesOn ps input → Halted a input ps Spent
spent_halts a input ps h = behind h.order h.rest h.before (omega (arith, h.number)) (goes_on h.more h.number refl)

halted : (a : Act (List Packet)) (input : List ℕ) (status : Status) → Decides pcap_files a input status
    → (ps : List Packet) × Halted a input ps status
halted a input Done d = (d.0, all_halt a input d.0 Done false d.1 refl)
halted a input Found d = (d.0, all_halt a input d.0 Found true d.1 refl)
halted a input Usage d = absurd d.1
halted a input ReadFault d = absurd d.1
halted a input WriteFault d = absurd d.1
halted a input (BadInput at kind) d = (d.0, fault_halts a input d.0 at kind d.1)
halted a input Memory d = absurd d.1
halted a input LinkFault d = absurd d.1
halted a input Spent d = (d.0, spent_halts a input d.0 d.1)

one_ending : (a : Act (List Packet)) (input : List ℕ) (one other : Status) → Decides pcap_files a input one
    → Decides pcap_files a input other → one ≡ other
one_ending a input one other first second =
    let x = halted a input one first in
    let y = halted a input other second in
    one_halt a input x.0 y.0 one other x.1 y.1

-- ---- every input

abbrev Ending : Act (List Packet) → List ℕ → Type 0
Ending a input = (status : Status) × Decides pcap_files a input status

-- behind the first 2^48 packets something is left
cut_behind : (ps : List Packet) (order : ByteOrder) (rest input : List ℕ) → FileThen order ps rest input
    → 2 ^ 48 ≤ length ps → (2 ^ 48 < length ps) ⊎ (0 < length rest) → GoesOn (take (2 ^ 48) ps) input
cut_behind ps order rest input h many more =
    let cut = walk_cut (2 ^ 48) order ps (drop 24 input) rest h.packets_are many in
    record {
      order = order;
      rest = cut.0;
      before = record { header = h.header; packets_are = cut.1.0 };
      number = length-take-le (2 ^ 48) ps many;
      more = left_over cut.0 cut.1.1 more;
    }
  where
    left_over : (mid : List ℕ) → Walks order mid (drop (2 ^ 48) ps) rest → (2 ^ 48 < length ps) ⊎ (0 < length rest)
        → 0 < length mid
    left_over mid w (inl further) =
        walk_some order (drop (2 ^ 48) ps) mid rest w (omega (arith, further, length-drop (2 ^ 48) ps))
    left_over mid w (inr some) = walk_left order (drop (2 ^ 48) ps) mid rest w some

all_read : (a : Act (List Packet)) (input : List ℕ) (ps : List Packet) → PcapFile input ps → length ps ≤ 2 ^ 48
    → (found : Bool) → a.finds ps ≡ found → Ending a input
all_read a input ps is few true found =
    (Found, (ps, record { all = record { few = few; file = is }; found_is = found }))
all_read a input ps is few false found =
    (Done, (ps, record { all = record { few = few; file = is }; found_is = found }))

of_file : (a : Act (List Packet)) (input : List ℕ) (ps : List Packet) → PcapFile input ps → Ending a input
of_file a input ps is = elim (cases_lt (2 ^ 48) (length ps)) [
  | inl many ↦ (
    Spent,
    (
      take (2 ^ 48) ps,
      cut_behind ps is.order [] input (record { header = is.header; packets_are = is.packets_are })
          (omega (arith, many)) (inl many),
    ),
  )
  | inr few ↦ all_read a input ps is few (a.finds ps) refl
]

-- a packet is faulty behind these
of_break : (a : Act (List Packet)) (input : List ℕ) (at : ℕ) (kind : InputKind) (ps : List Packet) (order : ByteOrder)
    (rest : List ℕ) → PcapFault input at kind → FileThen order ps rest input → 0 < length rest
    → FaultsAt (24 + packets_length ps) (front_of order rest) at kind → Ending a input
of_break a input at kind ps order rest fault before some faulty = elim (cases_lt (length ps) (2 ^ 48)) [
  | inl few ↦ (
    BadInput at kind,
    (
      ps,
      record {
        few = few;
        fault = fault;
        behind = inr (record { order = order; rest = rest; before = before; broken = faulty });
      },
    ),
  )
  | inr many ↦ (Spent, (take (2 ^ 48) ps, cut_behind ps order rest input before many (inr some)))
]

no_header : (a : Act (List Packet)) (input : List ℕ) (at : ℕ) (kind : InputKind) → PcapFault input at kind
    → HasNoHeader input → Ending a input
no_header a input at kind fault none =
    (BadInput at kind, ([], record { few = omega arith; fault = fault; behind = inl (refl, none) }))

-- something stands where a packet is faulty
faulty_some : (order : ByteOrder) (rest : List ℕ) (front : Front) → front_of order rest ≡ front → (Stops ≡ front → ⊥)
    → 0 < length rest
faulty_some order [] front is other = absurd (other (sym (end_stops order [] refl) ∙ is))
faulty_some order (b ∷ rest) front is other = omega arith

of_fault : (a : Act (List Packet)) (input : List ℕ) (at : ℕ) (kind : InputKind) → PcapFault input at kind
    → Ending a input
of_fault a input at Magic (is, high, low) = no_header a input at Magic (is, high, low) (no_magic input high low)
of_fault a input at Version (is, order, (m, none)) =
    no_header a input at Version (is, order, (m, none)) (no_version order input m none)
of_fault a input at Link (is, order, (m, v, none)) =
    no_header a input at Link (is, order, (m, v, none)) (no_link order input m none)
of_fault a input at Cut h =
    of_break a input at Cut h.packets h.order h.rest h (record { header = h.header; packets_are = h.before })
    (faulty_some h.order h.rest EndsWithin h.front_is (λ e. cc)) (h.front_is, h.place)
of_fault a input at Long (packet, place, h) =
    of_break a input at Long h.packets h.order h.rest (packet, place, h)
    (record { header = h.header; packets_are = h.before })
    (faulty_some h.order h.rest IsTooLong h.front_is (λ e. cc)) (h.front_is, omega (arith, place, h.place))
of_fault a input at _ fault = absurd fault

by_reading : (a : Act (List Packet)) (input : List ℕ) (r : PcapOutcome) → IsPcapOutcome input r → Ending a input
by_reading a input (Ok ps) is = of_file a input ps is
by_reading a input (Err fault) is = of_fault a input fault.0 fault.1 is

pub pcap_files_once : HasOneEnding pcap_files
pcap_files_once = record {
  some = λ a input are. by_reading a input (pcap_reading input) (shows_so input (pcap_reading input) refl);
  one = λ a input one other are first second. one_ending a input one other first second;
}
