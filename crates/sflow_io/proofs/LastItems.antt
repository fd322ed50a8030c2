-- What follows the last entry that is read of version 2.
use Rattle.std.proofs.Common.{◌≡◌, ◌≢◌, ℕ, ◌<◌, ◌≤◌, List, length, Option, Some, Ok, Err, sym, ap, ◌∙◌, arith, take_at, length-append}
use Rattle.std.specs.Int.{w32, from_be_bytes}
use Rattle.capture_spec.specs.declared.capture_version.CaptureVersion.TheVariants.{Two}
use Rattle.capture_spec.specs.ItemReading.{Front, Breaks, front_of_item, word_in}
use Rattle.capture_spec.proofs.ItemFrontsBack.{item_short}
use Rattle.byte_ends.specs.Seen.{Seen}
use Rattle.byte_ends.specs.Unread.{unread}
use Rattle.byte_ends.proofs.Unread.{moved}
use Rattle.sflow_io.specs.declared.capture.Next.TheVariants as next
use Rattle.sflow_io.specs.declared.capture.ReadRefusal.{ReadRefusal}
use Rattle.sflow_io.specs.declared.capture.ReadRefusal.TheVariants as refusal
use Rattle.sflow_io.specs.CaptureAnswers.{Answer, AnswersFront, AnswersLast, IsFurther, IsNoEntry}
use Rattle.sflow_io.specs.Fronts.{ReadsFront, ReadsPart}

-- what is no further entry
to_last : (offset : ℕ) (bytes room : List ℕ) (left : Option (List ℕ)) (front : Front) (answer : Answer)
    → ¬ (IsFurther Two bytes) → IsNoEntry answer → AnswersFront offset front room left answer
    → AnswersLast Two offset bytes front answer
to_last offset bytes room left front (Ok (next.Entry at from len)) not none a = absurd none
to_last offset bytes room left front (Ok next.End) not none a = a
to_last offset bytes room left front (Err (refusal.BadInput at kind)) not none a = (not, a)
to_last offset bytes room left front (Err refusal.ReadFault) not none a = tt
to_last offset bytes room left front (Err refusal.Spent) not none a = absurd a

module _ (offset : ℕ) (held : List ℕ) (source : Seen) (held' : List ℕ) (source' : Seen) (part : List ℕ)
    (long : length part ≡ 4) (bytes : List ℕ) (told : unread held source ≡ Some bytes) where
  pub last_short : (count : ℕ) (e : ReadRefusal) → ReadsPart offset held source held' source' part (Err e)
      → AnswersLast Two offset bytes (front_of_item count bytes) (Err e)
  last_short count (refusal.BadInput at kind) h =
      let short : length bytes < 4 = omega (arith, h.outcome.2 bytes told, long) in (
        (λ further. omega (arith, further.0, short)),
        (0, item_short count bytes short ∙ ap (Breaks 0) (sym h.outcome.1), omega (arith, h.outcome.0)),
      )
  last_short count refusal.ReadFault h = tt
  last_short count refusal.Spent h = absurd h.outcome

  word_is : ReadsPart offset held source held' source' part (Ok tt)
      → (4 ≤ length bytes) × (word_in bytes ≡ from_be_bytes w32 part)
  word_is h =
      let m = moved (unread held source) (unread held' source') bytes part told h.outcome in (
        omega (arith, ap length m.whole, length-append part m.rest, long),
        ap word_in m.whole ∙ ap (from_be_bytes w32) (take_at part m.rest 4 long),
      )

  pub further_entry : ReadsPart offset held source held' source' part (Ok tt) → from_be_bytes w32 part ≡ 1
      → IsFurther Two bytes
  further_entry h one = let w = word_is h in (w.0, w.1 ∙ one)

  pub last_behind : (count : ℕ) (room : List ℕ) (new_held : List ℕ) (new : Seen) (answer : Answer)
      → ReadsPart offset held source held' source' part (Ok tt) → from_be_bytes w32 part ≢ 1 → IsNoEntry answer
      → ReadsFront (front_of_item count) offset held source new_held new room answer
      → AnswersLast Two offset bytes (front_of_item count bytes) answer
  last_behind count room new_held new answer h other none r =
      let w = word_is h in
      to_last offset bytes room (unread new_held new) (front_of_item count bytes) answer
      (λ further. other (sym w.1 ∙ further.1)) none (r.told bytes told)
