-- An input makes a run of a command over a capture end in one way.
use Rattle.std.proofs.Common.{◌≡◌, ℕ, ◌+◌, ◌<◌, ◌≤◌, ◌^◌, Bool, true, false, if◌then◌else◌, inl, inr, List, ◌∷◌, ◌++◌, length, Err, refl, sym, ap, subst, ◌∙◌, arith, length-append}
use Rattle.wire_spec.specs.declared.input_kind.InputKind.{InputKind}
use Rattle.capture_spec.specs.declared.capture_version.CaptureVersion.{CaptureVersion}
use Rattle.capture_spec.specs.declared.capture_version.CaptureVersion.TheVariants.{One, Two}
use Rattle.capture_spec.specs.Items.{Received, end_item, hyper, word}
use Rattle.capture_spec.specs.ItemReading.{Breaks, Front, Holds, Stops, front_in, received_reading}
use Rattle.capture_spec.specs.VersionedCaptures.{ReceivedAll, ReceivedFault, ReceivedOutcome, ReceivedThen, ending_bytes, opened_bytes}
use Rattle.capture_spec.proofs.ItemFrontsBack.{back_in}
use Rattle.capture_spec.proofs.VersionedOutcomes.{outcome_back}
use Rattle.capture_spec.proofs.Words.{reads_word}
use Rattle.sflow_io.specs.CaptureAnswers.{HasNoHeader, IsFurther}
use Rattle.sflow_io.specs.CaptureSteps.{FaultBehind, GoesOn, IsMet}
use Rattle.command_runs.specs.declared.status.Status.{Status}
use Rattle.command_runs.specs.declared.status.Status.TheVariants.{Done, Found, Usage, ReadFault, WriteFault, BadInput, Memory, LinkFault, Spent}
use Rattle.command_runs.specs.Acts.{Act}
use Rattle.command_runs.specs.Grammars.{Capture, captures}
use Rattle.command_runs.specs.Readings.{Decides, IsRead}
use Rattle.command_runs.proofs.EntryWalks.{compared, longer, one_version, same, shorter, with_header}

abbrev capture_of : CaptureVersion → List Received → Capture
capture_of v es = record { version = v; entries = es }

-- ---- where a run stands when its reading has ended

abbrev all_status : Act Capture → CaptureVersion → List Received → Status
all_status a v es = if a.finds (capture_of v es) then Found else Done

-- why reading ended behind these entries, where this is left
data Halts (v : CaptureVersion) (a : Act Capture) (es : List Received) (r : List ℕ) (status : Status) : Type 0 where
  at_end : r ≡ ending_bytes v (length es) → front_in v (length es) r ≡ Stops → status ≡ all_status a v es
      → Halts v a es r status
  broken : (within : ℕ) (kind : InputKind) → front_in v (length es) r ≡ Breaks within kind → IsMet v es r
      → status ≡ BadInput (length (opened_bytes v es) + within) kind → Halts v a es r status
  goes_on : IsFurther v r → length es ≡ 2 ^ 48 → status ≡ Spent → Halts v a es r status

-- the input has no header, or it begins with these entries
data Halted (a : Act Capture) (input : List ℕ) (es : List Received) (status : Status) : Type 0 where
  headless : HasNoHeader input → (fault : ℕ × InputKind) → ReceivedFault input fault.0 fault.1
      → status ≡ BadInput fault.0 fault.1 → Halted a input es status
  behind : (v : CaptureVersion) (r : List ℕ) → ReceivedThen v es r input → length es ≤ 2 ^ 48
      → Halts v a es r status → Halted a input es status

-- ---- a further entry doesn't stand there

stops_holds : (x : Front) (e : Received) (mid : List ℕ) → x ≡ Stops → x ≡ Holds e mid → ⊥
stops_holds x e mid one two = let both : Stops ≡ Holds e mid = sym one ∙ two in absurd cc

breaks_holds : (x : Front) (within : ℕ) (kind : InputKind) (e : Received) (mid : List ℕ) → x ≡ Breaks within kind
    → x ≡ Holds e mid → ⊥
breaks_holds x within kind e mid one two = let both : Breaks within kind ≡ Holds e mid = sym one ∙ two in absurd cc

stops_breaks : (x : Front) (within : ℕ) (kind : InputKind) → x ≡ Stops → x ≡ Breaks within kind → ⊥
stops_breaks x within kind one two = let both : Stops ≡ Breaks within kind = sym one ∙ two in absurd cc

same_break : (x : Front) (m n : ℕ) (k l : InputKind) → x ≡ Breaks m k → x ≡ Breaks n l → (m ≡ n) × (k ≡ l)
same_break x m n k l one two = let both : Breaks m k ≡ Breaks n l = sym one ∙ two in (cc, cc)

no_further : (v : CaptureVersion) (a : Act Capture) (es : List Received) (r : List ℕ) (status : Status) (m : ℕ) (e : Received)
    (mid : List ℕ) → Halts v a es r status → m ≡ 0 + length es → front_in v m r ≡ Holds e mid → length es < 2 ^ 48 → ⊥
no_further v a es r status m e mid halts at front few =
    let here : front_in v (length es) r ≡ Holds e mid =
    ap (λ n. front_in v n r) (omega (arith, at)) ∙ front in
    elim halts [
      | at_end none stops is ↦ stops_holds _ e mid stops here
      | broken within kind breaks met is ↦ breaks_holds _ within kind e mid breaks here
      | goes_on some number is ↦ absurd (omega (arith, number, few))
    ]

no_longer : (v : CaptureVersion) (a : Act Capture) (es fs : List Received) (r : List ℕ) (status : Status) (m : ℕ) (e : Received)
    (more : List Received) (mid : List ℕ) → m ≡ 0 + length es → fs ≡ es ++ e ∷ more → front_in v m r ≡ Holds e mid
    → Halts v a es r status → length fs ≤ 2 ^ 48 → ⊥
no_longer v a es fs r status m e more mid at is front halts few =
    no_further v a es r status m e mid halts at front
    (omega (arith, few, ap (λ (l : List Received). length l) is, length-append es (e ∷ more)))

-- ---- nothing further is to come at the end

end_begins : (count : ℕ) → end_item count ≡ word 0 ++ hyper count
unfolding end_item
end_begins count = refl

not_further : (v : CaptureVersion) (count : ℕ) (r : List ℕ) → r ≡ ending_bytes v count → IsFurther v r → ⊥
not_further One count r none some = absurd (omega (arith, some, ap (λ (l : List ℕ). length l) none))
not_further Two count r none some =
    let zero = reads_word r (hyper count) 0 (none ∙ end_begins count) (omega arith) in
    absurd (omega (arith, zero.is, some.1))

unmet : (v : CaptureVersion) (es : List Received) (r : List ℕ) → IsMet v es r → IsFurther v r → length es ≡ 2 ^ 48 → ⊥
unmet v es r (inl few) some number = absurd (omega (arith, few, number))
unmet v es r (inr met) some number = met.1 some

-- ---- the status

same_status : (v : CaptureVersion) (a : Act Capture) (es : List Received) (r : List ℕ) (one other : Status)
    → Halts v a es r one → Halts v a es r other → one ≡ other
same_status v a es r one other (at_end none stops is) (at_end none' stops' is') = is ∙ sym is'
same_status v a es r one other (at_end none stops is) (broken within kind breaks met is') =
    absurd (stops_breaks _ within kind stops breaks)
same_status v a es r one other (at_end none stops is) (goes_on some number is') =
    absurd (not_further v (length es) r none some)
same_status v a es r one other (broken within kind breaks met is) (at_end none stops is') =
    absurd (stops_breaks _ within kind stops breaks)
same_status v a es r one other (broken within kind breaks met is) (broken within' kind' breaks' met' is') =
    let both = same_break _ within within' kind kind' breaks breaks' in
    is ∙ ap (λ n. BadInput (length (opened_bytes v es) + n) kind) both.0
    ∙ ap (λ k. BadInput (length (opened_bytes v es) + within') k) both.1 ∙ sym is'
same_status v a es r one other (broken within kind breaks met is) (goes_on some number is') =
    absurd (unmet v es r met some number)
same_status v a es r one other (goes_on some number is) (at_end none stops is') =
    absurd (not_further v (length es) r none some)
same_status v a es r one other (goes_on some number is) (broken within kind breaks met is') =
    absurd (unmet v es r met some number)
same_status v a es r one other (goes_on some number is) (goes_on some' number' is') = is ∙ sym is'

-- ---- two readings of one input

one_fault : (x y : ℕ × InputKind) (r : ReceivedOutcome) → r ≡ Err x → r ≡ Err y → x ≡ y
one_fault x y r one two = cc

both_behind : (v : CaptureVersion) (a : Act Capture) (input : List ℕ) (es fs : List Received) (one other : Status) (r s : List ℕ)
    → ReceivedThen v es r input → ReceivedThen v fs s input → length es ≤ 2 ^ 48 → length fs ≤ 2 ^ 48
    → Halts v a es r one → Halts v a fs s other → one ≡ other
both_behind v a input es fs one other r s first second few few' halts halts' =
    elim (compared v es fs r s input first second) [
      | same is left ↦
          same_status v a fs s one other
          (subst (λ l. Halts v a fs l one) left (subst (λ (l : List Received). Halts v a l r one) is halts))
          halts'
      | shorter m e more mid at is front ↦ absurd (no_longer v a es fs r one m e more mid at is front halts few')
      | longer m e more mid at is front ↦ absurd (no_longer v a fs es s other m e more mid at is front halts' few)
    ]

one_halt : (a : Act Capture) (input : List ℕ) (es fs : List Received) (one other : Status) → Halted a input es one
    → Halted a input fs other → one ≡ other
one_halt a input es fs one other (headless none x fault is) (headless none' y fault' is') =
    is
    ∙ ap (λ (p : ℕ × InputKind). BadInput p.0 p.1)
    (one_fault x y (received_reading input) (outcome_back input (Err x) fault) (outcome_back input (Err y) fault'))
    ∙ sym is'
one_halt a input es fs one other (headless none x fault is) (behind v s second few halts) =
    absurd (none v (with_header v fs s input second))
one_halt a input es fs one other (behind v r first few halts) (headless none y fault is) =
    absurd (none v (with_header v es r input first))
one_halt a input es fs one other (behind v r first few halts) (behind w s second few' halts') =
    let same_version : w ≡ v = one_version w v input (with_header w fs s input second) (with_header v es r input first) in
    both_behind v a input es fs one other r s first
    (subst (λ (o : CaptureVersion). ReceivedThen o fs s input) same_version second) few few' halts
    (subst (λ (o : CaptureVersion). Halts o a fs s other) same_version halts')

-- ---- from what is said of a reading

all_then : (v : CaptureVersion) (es : List Received) (input : List ℕ) → ReceivedAll v es input
    → ReceivedThen v es (ending_bytes v (length es)) input
all_then v es input h = record { each = h.each; whole = h.whole }

all_halt : (a : Act Capture) (input : List ℕ) (x : Capture) (status : Status) (found : Bool) → IsRead captures a x input found
    → status ≡ (if found then Found else Done) → Halted a input x.entries status
all_halt a input x status found reads is =
    behind x.version (ending_bytes x.version (length x.entries)) (all_then x.version x.entries input reads.all.capture)
    reads.all.few
    (at_end refl
    (back_in x.version (length x.entries) (ending_bytes x.version (length x.entries)) Stops (refl, reads.all.capture.number))
    (is ∙ ap (λ b. if b then Found else Done) (sym reads.found_is)))

met_few : (v : CaptureVersion) (es : List Received) (r : List ℕ) → IsMet v es r → length es ≤ 2 ^ 48
met_few v es r (inl few) = omega (arith, few)
met_few v es r (inr met) = omega (arith, met.0)

fault_halts : (a : Act Capture) (input : List ℕ) (es : List Received) (at : ℕ) (kind : InputKind) → FaultBehind es input at kind
    → Halted a input es (BadInput at kind)
fault_halts a input es at kind h =
    elim h.behind [
      | inl none ↦ headless none.1 (at, kind) h.fault refl
      | inr b ↦
          behind b.version b.rest b.before (met_few b.version es b.rest b.met)
          (broken b.within kind (back_in b.version (length es) b.rest (Breaks b.within kind) b.broken) b.met
          (ap (λ n. BadInput n kind) b.place))
    ]

spent_halts : (a : Act Capture) (input : List ℕ) (es : List Received) → GoesOn es input → Halted a input es Spent
spent_halts a input es h = behind h.version h.rest h.before (omega (arith, h.number)) (goes_on h.more h.number refl)

halted : (a : Act Capture) (input : List ℕ) (status : Status) → Decides captures a input status
    → (es : List Received) × Halted a input es status
halted a input Done d = (d.0.entries, all_halt a input d.0 Done false d.1 refl)
halted a input Found d = (d.0.entries, all_halt a input d.0 Found true d.1 refl)
halted a input Usage d = absurd d.1
halted a input ReadFault d = absurd d.1
halted a input WriteFault d = absurd d.1
halted a input (BadInput at kind) d = (d.0.entries, fault_halts a input d.0.entries at kind d.1)
halted a input Memory d = absurd d.1
halted a input LinkFault d = absurd d.1
halted a input Spent d = (d.0.entries, spent_halts a input d.0.entries d.1)

pub one_ending : (a : Act Capture) (input : List ℕ) (one other : Status) → Decides captures a input one → Decides captures a input other
    → one ≡ other
one_ending a input one other first second =
    let x = halted a input one first in
    let y = halted a input other second in
    one_halt a input x.0 y.0 one other x.1 y.1
