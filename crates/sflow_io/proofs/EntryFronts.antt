-- What stands at the front of an entry and of a datagram, from what was read of it.
use Rattle.std.proofs.Common.{◌≡◌, ℕ, ◌+◌, ◌^◌, ◌<◌, ◌≤◌, true, false, nat_lt, List, [], ◌∷◌, ◌++◌, length, take, drop, Option, Some, None, Err, refl, sym, ap, subst, ◌∙◌, append_assoc, arith, take_at, drop_at, take_all, length-append, length-drop, length-take-le, lt-ltb, le-ltb}
use Rattle.std.proofs.lemmas.Bool.{cond_both, ltb-false}
use Rattle.std.proofs.lemmas.List.{drop-append-le, take-append-le}
use Rattle.std.specs.Int.{w32, w64, from_be_bytes}
use Rattle.wire_spec.specs.declared.input_kind.InputKind.TheVariants.{Cut, Long, Padding}
use Rattle.wire_spec.specs.CaptureReading.{Stops, Holds, Breaks, first_nonzero, arrival_at, length_at, unless_stray, front_of, front_of_entry, front_of_body, front_of_padding}
use Rattle.wire_spec.specs.Padding.{padding_of}
use Rattle.capture_spec.specs.declared.capture_version.CaptureVersion.TheVariants.{One}
use Rattle.capture_spec.specs.Items.{Sender, hyper}
use Rattle.capture_spec.specs.ItemReading.{front_from, front_in}
use Rattle.capture_spec.proofs.Words.{hyper_again, length-hyper}
use Rattle.byte_ends.specs.Seen.{Seen, Fills}
use Rattle.byte_ends.specs.Unread.{StopsWithin, unread}
use Rattle.byte_ends.proofs.Filled.{full_room, short_room, front_read}
use Rattle.sflow_io.specs.declared.capture.ReadRefusal.TheVariants.{ReadFault}
use Rattle.sflow_io.specs.CaptureAnswers.{Answer, AnswersFront, EndsSource, HasReadCause, IsShortEntry}
use Rattle.sflow_io.specs.Fronts.{ReadsFront, body_front, sized, sized_front}
use Rattle.sflow_io.specs.ReadFaults.{HoldsNone, StopsIn}

-- ---- the padding: `room` is for it, and stands before other bytes

module _ (arrival len count : ℕ) (body bytes room more : List ℕ) (old new : Seen)
    (is : length body ≡ len) (long : length room ≡ padding_of len) (told : old.told ≡ Some bytes)
    (f : Fills old new count room) where
  searched : first_nonzero (take (padding_of len) bytes) ≡ first_nonzero (take count (room ++ more))
  searched =
      ap first_nonzero
      (ap (λ n. take n bytes) (sym long) ∙ front_read old new count room bytes told f
      ∙ sym (take-append-le count room more f.within))

  pub padding_breaks : (place : ℕ) → Some place ≡ first_nonzero (take count (room ++ more))
      → front_of_padding arrival body bytes ≡ Breaks (12 + len + place) Padding
  unfolding front_of_padding
  padding_breaks place found = rw (is, searched, ← found) refl

  pub padding_cut : None ≡ first_nonzero (take count (room ++ more)) → count < padding_of len
      → front_of_padding arrival body bytes ≡ Breaks 0 Cut
  unfolding front_of_padding
  padding_cut none short =
      let h = short_room old new count room bytes told f (omega (arith, long)) in
      let fewer : nat_lt (length bytes) (padding_of len) ≡ true = lt-ltb _ _ (omega (arith, h.number)) in
      rw (is, searched, ← none, fewer) refl

  pub padding_holds : None ≡ first_nonzero (take count (room ++ more)) → padding_of len ≤ count
      → (front_of_padding arrival body bytes
      ≡ Holds (record { arrival = arrival; bytes = body }) (drop (padding_of len) bytes))
      × (new.told ≡ Some (drop (padding_of len) bytes))
  unfolding front_of_padding
  padding_holds none full =
      let h = full_room old new count room bytes told f (omega (arith, long)) in
      let enough : nat_lt (length bytes) (padding_of len) ≡ false =
      le-ltb _ _ (omega (arith, h.enough, long)) in
      (rw (is, searched, ← none, enough) refl, h.left_is ∙ ap (λ n. Some (drop n bytes)) long)

-- ---- the bytes

module _ (arrival len count : ℕ) (bytes room more : List ℕ) (old new : Seen)
    (long : length room ≡ len) (told : old.told ≡ Some bytes) (f : Fills old new count room) where
  pub body_cut : count < len → front_of_body arrival len bytes ≡ Breaks 0 Cut
  unfolding front_of_body
  body_cut short =
      let h = short_room old new count room bytes told f (omega (arith, long)) in
      let fewer : nat_lt (length bytes) len ≡ true = lt-ltb _ _ (omega (arith, h.number)) in
      rw fewer refl

  pub body_goes_on : len ≤ count
      → (front_of_body arrival len bytes
      ≡ front_of_padding arrival (take len (room ++ more)) (drop len bytes))
      × (new.told ≡ Some (drop len bytes))
  unfolding front_of_body
  body_goes_on full =
      let h = full_room old new count room bytes told f (omega (arith, long)) in
      let enough : nat_lt (length bytes) len ≡ false = le-ltb _ _ (omega (arith, h.enough, long)) in
      let front : take len bytes ≡ take len (room ++ more) =
      ap (λ n. take n bytes) (sym long) ∙ h.front ∙ sym (take_at room more len long) in
      (rw (enough, front) refl, h.left_is ∙ ap (λ n. Some (drop n bytes)) long)

-- ---- the arrival and the length

not_end : (bytes : List ℕ) → 0 < length bytes → front_of bytes ≡ front_of_entry bytes
unfolding front_of
not_end [] some = absurd (omega arith)
not_end (b ∷ more) some = refl

pub no_bytes : (bytes : List ℕ) → length bytes ≡ 0 → front_of bytes ≡ Stops
unfolding front_of
no_bytes [] none = refl
no_bytes (b ∷ more) none = absurd (omega arith)

entry_cut : (bytes : List ℕ) → length bytes < 12 → front_of_entry bytes ≡ Breaks 0 Cut
unfolding front_of_entry
entry_cut bytes short = let fewer : nat_lt (length bytes) 12 ≡ true = lt-ltb _ _ short in rw fewer refl

entry_sized : (bytes : List ℕ) → 12 ≤ length bytes
    → front_of_entry bytes ≡ sized (arrival_at bytes) (length_at bytes) (drop 12 bytes)
unfolding front_of_entry
entry_sized bytes full = let enough : nat_lt (length bytes) 12 ≡ false = le-ltb _ _ full in rw enough refl

-- the word at the ninth byte of a head
pub front_word : (head part : List ℕ) → length head ≡ 12 → take 4 (drop 8 (head ++ part)) ≡ take 4 (drop 8 head)
front_word head part long =
    ap (take 4) (drop-append-le 8 head part (omega (arith, long)))
    ∙ take-append-le 4 (drop 8 head) part (omega (arith, long, length-drop 8 head))

-- a head, and then a datagram behind the word of its length
pub head_sized : (head tail : List ℕ) → length head ≡ 12
    → front_of (head ++ tail) ≡ sized (from_be_bytes w64 (take 8 head)) (from_be_bytes w32 (take 4 (drop 8 head))) tail
head_sized head tail long =
    let whole : List ℕ = head ++ tail in
    let full : 12 ≤ length whole = omega (arith, length-append head tail, long) in
    let arrival : arrival_at whole ≡ from_be_bytes w64 (take 8 head) =
    ap (from_be_bytes w64) (take-append-le 8 head tail (omega (arith, long))) in
    let len : length_at whole ≡ from_be_bytes w32 (take 4 (drop 8 head)) =
    ap (from_be_bytes w32) (front_word head tail long) in
    not_end whole (omega (arith, full)) ∙ entry_sized whole full
    ∙ ap (λ n. sized n (length_at whole) (drop 12 whole)) arrival
    ∙ ap (λ n. sized (from_be_bytes w64 (take 8 head)) n (drop 12 whole)) len
    ∙ ap (sized (from_be_bytes w64 (take 8 head)) (from_be_bytes w32 (take 4 (drop 8 head)))) (drop_at head tail 12 long)

pub head_stops : (bytes : List ℕ) → length bytes ≡ 0 → front_of bytes ≡ Stops
head_stops bytes none = no_bytes bytes none

pub head_cut : (bytes : List ℕ) → 0 < length bytes → length bytes < 12 → front_of bytes ≡ Breaks 0 Cut
head_cut bytes some short = not_end bytes some ∙ entry_cut bytes short

-- ---- a datagram

pub sized_long : (at len : ℕ) (bytes : List ℕ) → 65535 < len → sized at len bytes ≡ Breaks 8 Long
sized_long at len bytes over = let long : nat_lt 65535 len ≡ true = lt-ltb _ _ over in rw long refl

pub sized_body : (at len : ℕ) (bytes : List ℕ) → len ≤ 65535 → sized at len bytes ≡ front_of_body at len bytes
sized_body at len bytes fits = let short : nat_lt 65535 len ≡ false = le-ltb _ _ fits in rw short refl

pub datagram_cut : (at : ℕ) (bytes : List ℕ) → length bytes < 4 → front_of (hyper at ++ bytes) ≡ Breaks 0 Cut
datagram_cut at bytes short =
    let number : length (hyper at ++ bytes) ≡ 8 + length bytes =
    omega (arith, length-append (hyper at) bytes, length-hyper at) in
    head_cut (hyper at ++ bytes) (omega (arith, number)) (omega (arith, number, short))

pub datagram_sized : (at : ℕ) (word tail : List ℕ) → at < 2 ^ 64 → length word ≡ 4
    → front_of (hyper at ++ (word ++ tail)) ≡ sized at (from_be_bytes w32 word) tail
datagram_sized at word tail time long =
    let head : List ℕ = hyper at ++ word in
    let number : length head ≡ 12 = omega (arith, length-append (hyper at) word, length-hyper at, long) in
    let arrival : from_be_bytes w64 (take 8 head) ≡ at =
    ap (from_be_bytes w64) (take_at (hyper at) word 8 (length-hyper at)) ∙ hyper_again at time in
    let len : from_be_bytes w32 (take 4 (drop 8 head)) ≡ from_be_bytes w32 word =
    ap (from_be_bytes w32) (ap (take 4) (drop_at (hyper at) word 8 (length-hyper at))
    ∙ take_all 4 word (omega (arith, long))) in
    ap front_of (sym (append_assoc (hyper at) word tail)) ∙ head_sized head tail number
    ∙ ap (λ n. sized n (from_be_bytes w32 (take 4 (drop 8 head))) tail) arrival
    ∙ ap (λ n. sized at n tail) len

-- ---- what was read before a read failed

padding_none : (sender : Option Sender) (more at len : ℕ) (body part : List ℕ) → length body ≡ len
    → length part < padding_of len → HoldsNone (front_from sender more (front_of_padding at body part))
unfolding front_of_padding
padding_none sender more at len body part is short =
    let fewer : nat_lt (length part) (padding_of (length body)) ≡ true =
    lt-ltb _ _ (subst (λ n. length part < padding_of n) (sym is) short) in
    rw fewer (by_search (first_nonzero (take (padding_of (length body)) part)))
  where
    by_search : (found : Option ℕ)
        → HoldsNone (front_from sender more (unless_stray found (12 + length body) (Breaks 0 Cut)))
    by_search None = tt
    by_search (Some k) = tt

pub body_none : (sender : Option Sender) (more at len : ℕ) (part : List ℕ) → length part < len + padding_of len
    → HoldsNone (body_front sender more at len part)
unfolding front_of_body
body_none sender more at len part short =
    cond_both (nat_lt (length part) len) (Breaks 0 Cut) (front_of_padding at (take len part) (drop len part))
    (λ f. HoldsNone (front_from sender more f))
    (λ fewer. tt)
    (λ full.
    let enough : len ≤ length part = ltb-false (length part) len full in
    padding_none sender more at len (take len part) (drop len part) (length-take-le len part enough)
    (omega (arith, short, enough, length-drop len part)))

-- what reading a body gives where this is its length
pub body_reads : (sender : Option Sender) (more at len offset : ℕ) (held : List ℕ) (source : Seen) (held' : List ℕ)
    (source' : Seen) (room : List ℕ) (answer : Answer) → len ≤ 65535
    → ((bytes : List ℕ) → unread held source ≡ Some bytes
    → AnswersFront offset (body_front sender more at len bytes) room (unread held' source') answer)
    → IsShortEntry answer → EndsSource answer source'.told → HasReadCause source source' answer
    → (answer ≡ Err ReadFault → StopsWithin (unread held source) source'.told (len + padding_of len))
    → ReadsFront (sized_front sender more at len) offset held source held' source' room answer
body_reads sender more at len offset held source held' source' room answer fits told short at_end cause stops =
    let is : (bytes : List ℕ) → sized_front sender more at len bytes ≡ body_front sender more at len bytes =
    λ bytes. ap (front_from sender more) (sized_body at len bytes fits) in
    record {
      told = λ bytes t. subst (λ f. AnswersFront offset f room (unread held' source') answer) (sym (is bytes)) (told bytes t);
      stops = λ failed.
          let s = stops failed in
          record {
            part = s.part;
            moved = s.moved;
            none = subst HoldsNone (sym (is s.part)) (body_none sender more at len s.part s.few);
          };
      short = short;
      at_end = at_end;
      cause = cause;
    }

-- a part of a head holds no entry of version 1
pub head_none : (bytes : List ℕ) → length bytes < 12 → HoldsNone (front_from None 0 (front_of bytes))
head_none [] short = subst (λ f. HoldsNone (front_from None 0 f)) (sym (no_bytes [] refl)) tt
head_none (b ∷ more) short =
    subst (λ f. HoldsNone (front_from None 0 f)) (sym (head_cut (b ∷ more) (omega arith) short)) tt

-- nor does no byte at all
pub none_left : (count : ℕ) (old new : Option (List ℕ)) → StopsWithin old new 1 → StopsIn (front_in One count) old new
none_left count old new s =
    record { part = s.part; moved = s.moved; none = head_none s.part (omega (arith, s.few)) }
