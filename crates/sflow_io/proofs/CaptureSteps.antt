-- A further answer keeps what was given in the words of captures.
use Rattle.std.proofs.Common.{◌≡◌, ℕ, ◌+◌, ◌^◌, ◌<◌, ◌≤◌, inl, inr, List, [], ◌∷◌, length, take, Option, Some, None, Ok, Err, refl, sym, ap, subst, ◌∙◌, arith, length-append}
use Rattle.std.proofs.lemmas.Bool.{cases_lt}
use Rattle.wire_spec.specs.declared.input_kind.InputKind.{InputKind}
use Rattle.wire_spec.specs.Bytes.{AreBytes}
use Rattle.capture_spec.specs.declared.capture_version.CaptureVersion.{CaptureVersion}
use Rattle.capture_spec.specs.Items.{Received}
use Rattle.capture_spec.specs.ItemReading.{Breaks, Holds, front_in}
use Rattle.capture_spec.specs.VersionedCaptures.{ReceivedFault, ReceivedThen, opened_bytes, received_bytes}
use Rattle.capture_spec.proofs.VersionedWalks.{header_length, none_opened, opened-push, stands, walk_begins, walk_breaks, walk_goes_on, walk_stops}
use Rattle.byte_ends.specs.Unread.{StopsWithin}
use Rattle.sflow_io.specs.declared.capture.Next.TheVariants as next
use Rattle.sflow_io.specs.declared.capture.ReadRefusal.{ReadRefusal}
use Rattle.sflow_io.specs.declared.capture.ReadRefusal.TheVariants as refusal
use Rattle.sflow_io.specs.declared.capture.Stage.TheVariants as stage
use Rattle.sflow_io.specs.declared.sender.Sender.{Sender}
use Rattle.sflow_io.specs.CaptureAnswers.{Answer, AnswersFront, AnswersLast, AnswersWithin, FaultsAt, GivesEntry, ReadsHeader, stage_after}
use Rattle.sflow_io.specs.CaptureSteps.{EndsAt, FaultBehind, HasGivenAt, IsBehind, IsMet, with_answer}
use Rattle.sflow_io.specs.ReadFaults.{StopsBehind, StopsIn}
use Rattle.sflow_io.specs.Senders.{sender_in}
use Rattle.sflow_io.proofs.ReadFaults.{stopped_behind, stopped_in_header}
use Rattle.sflow_io.proofs.Sizes.{received_length}

-- ---- behind a header and some entries

-- `has` is what the source has left then
module _ (v : CaptureVersion) (bytes : List ℕ) (are : AreBytes bytes) (entries : List Received) (has : Option (List ℕ))
    (rest : List ℕ) (before : ReceivedThen v entries rest bytes) (count offset : ℕ) (count_is : count ≡ length entries)
    (offset_is : offset ≡ length (opened_bytes v entries)) where
  abbrev LosesNone : Answer → Type 0
  LosesNone answer = answer ≡ Err refusal.ReadFault → StopsBehind entries bytes has

  -- after this answer the same is so
  abbrev Keeps : List ℕ → Option (List ℕ) → Answer → Type 0
  Keeps room left answer =
      HasGivenAt bytes (with_answer entries room answer) (stage_after (stage.Within v count offset) answer) left has

  entry_given : (at len : ℕ) (from : Option Sender) (room : List ℕ) (left : Option (List ℕ)) → count < 2 ^ 48
      → GivesEntry (front_in v (length entries) rest) room left at from len
      → Keeps room left (Ok (next.Entry at from len))
  entry_given at len from room left few g =
      let e : Received = record { arrival = at; sender = sender_in from; bytes = take len room } in
      let shown = stands v entries rest bytes are before (Holds e g.rest) g.holds in
      record {
        rest = g.rest;
        before = walk_goes_on v entries rest bytes are before e g.rest g.holds;
        left_is = g.left_is;
        count_is = omega (arith, count_is, length-append entries (e ∷ []));
        offset_is = omega (
          arith,
          offset_is,
          g.length_is,
          ap length (opened-push v entries e),
          length-append (opened_bytes v entries) (received_bytes v e),
          received_length v e shown.0,
        );
        few = omega (arith, few);
      }

  broken_behind : (at : ℕ) (kind : InputKind) → IsMet v entries rest
      → FaultsAt offset (front_in v (length entries) rest) at kind → FaultBehind entries bytes at kind
  broken_behind at kind met h =
      let place : at ≡ length (opened_bytes v entries) + h.0 = omega (arith, offset_is, h.2) in
      record {
        fault = subst (λ n. ReceivedFault bytes n kind) (sym place) (walk_breaks v entries rest bytes h.0 kind are before h.1);
        behind = inr (record {
          version = v;
          rest = rest;
          within = h.0;
          before = before;
          met = met;
          broken = stands v entries rest bytes are before (Breaks h.0 kind) h.1;
          place = place;
        });
      }

  front_given : (room : List ℕ) (left : Option (List ℕ)) (answer : Answer) → count < 2 ^ 48
      → AnswersFront offset (front_in v (length entries) rest) room left answer → LosesNone answer
      → Keeps room left answer
  front_given room left (Ok (next.Entry at from len)) few a stops = entry_given at len from room left few a
  front_given room left (Ok next.End) few a stops =
      record { few = omega (arith, few, count_is); capture = walk_stops v entries rest bytes are before a }
  front_given room left (Err (refusal.BadInput at kind)) few a stops =
      broken_behind at kind (inl (omega (arith, few, count_is))) a
  front_given room left (Err refusal.ReadFault) few a stops = stops refl
  front_given room left (Err refusal.Spent) few a stops = absurd a

  last_given : (room : List ℕ) (left : Option (List ℕ)) (answer : Answer) → length entries ≡ 2 ^ 48
      → AnswersLast v offset rest (front_in v (length entries) rest) answer → LosesNone answer
      → Keeps room left answer
  last_given room left (Ok (next.Entry at from len)) number a stops = absurd a
  last_given room left (Ok next.End) number a stops =
      record { few = omega (arith, number); capture = walk_stops v entries rest bytes are before a }
  last_given room left (Err (refusal.BadInput at kind)) number a stops =
      broken_behind at kind (inr (number, a.0)) a.1
  last_given room left (Err refusal.ReadFault) number a stops = stops refl
  last_given room left (Err refusal.Spent) number a stops =
      record { version = v; rest = rest; before = before; number = number; more = a }

  behind_given : (room : List ℕ) (old left : Option (List ℕ)) (answer : Answer) → old ≡ Some rest → count ≤ 2 ^ 48
      → AnswersWithin v count offset rest room left answer
      → (answer ≡ Err refusal.ReadFault → StopsIn (front_in v count) old has) → Keeps room left answer
  behind_given room old left answer told few a stops =
      let none : LosesNone answer =
      λ failed. stopped_behind v entries count bytes rest old has before told (stops failed) in
      elim (cases_lt count (2 ^ 48)) [
        | inl lt ↦
            front_given room left answer lt
            (subst (λ n. AnswersFront offset (front_in v n rest) room left answer) count_is (a.goes_on lt)) none
        | inr le ↦
            last_given room left answer (omega (arith, le, few, count_is))
            (subst (λ n. AnswersLast v offset rest (front_in v n rest) answer) count_is (a.at_most le)) none
      ]

-- ---- a further answer of a reader behind some entries

pub within_given : (v : CaptureVersion) (bytes : List ℕ) (entries : List Received) (count offset : ℕ) (room : List ℕ)
    (old left has : Option (List ℕ)) (answer : Answer) → AreBytes bytes → IsBehind v entries bytes count offset old
    → ((rest : List ℕ) → old ≡ Some rest → AnswersWithin v count offset rest room left answer)
    → (answer ≡ Err refusal.ReadFault → StopsIn (front_in v count) old has)
    → HasGivenAt bytes (with_answer entries room answer) (stage_after (stage.Within v count offset) answer) left has
within_given v bytes entries count offset room old left has answer are h a stops =
    behind_given v bytes are entries has h.rest h.before count offset h.count_is h.offset_is room old left answer
    h.left_is h.few (a h.rest h.left_is) stops

-- ---- at the start

pub begins_behind : (v : CaptureVersion) (bytes : List ℕ) (entries : List Received) (more mid : Option (List ℕ))
    → entries ≡ [] → more ≡ Some bytes
    → ((bytes : List ℕ) → more ≡ Some bytes → ReadsHeader bytes mid (Ok v))
    → IsBehind v entries bytes 0 8 mid
begins_behind v bytes entries more mid none told header =
    let h = header bytes told in
    let begins : ReceivedThen v [] h.0 bytes =
    subst (λ l. ReceivedThen v [] h.0 l) (sym h.1) (walk_begins v h.0) in
    subst (λ (l : List Received). IsBehind v l bytes 0 8 mid) (sym none) (record {
      rest = h.0;
      before = begins;
      left_is = h.2;
      count_is = refl;
      offset_is = sym (ap length (none_opened v) ∙ header_length v);
      few = omega arith;
    })

pub refused_at_start : (bytes : List ℕ) (entries : List Received) (more mid has : Option (List ℕ)) (e : ReadRefusal)
    → entries ≡ [] → more ≡ Some bytes
    → ((bytes : List ℕ) → more ≡ Some bytes → ReadsHeader bytes mid (Err e))
    → (e ≡ refusal.ReadFault → StopsWithin more has 8)
    → EndsAt None entries bytes has (Err e)
refused_at_start bytes entries more mid has (refusal.BadInput at kind) none told header stops =
    let h = header bytes told in record { fault = h.1; behind = inl (none, h.0) }
refused_at_start bytes entries more mid has refusal.ReadFault none told header stops =
    stopped_in_header entries bytes more has none told (stops refl)
refused_at_start bytes entries more mid has refusal.Spent none told header stops = absurd (header bytes told)

-- ---- after the end

pub given_again : (v : Option CaptureVersion) (bytes : List ℕ) (entries : List Received) (room : List ℕ)
    (has : Option (List ℕ)) (last : Answer) → EndsAt v entries bytes has last
    → EndsAt v (with_answer entries room last) bytes has last
given_again v bytes entries room has (Ok (next.Entry at from len)) h = absurd h
given_again v bytes entries room has (Ok next.End) h = h
given_again v bytes entries room has (Err e) h = h
