-- What is read part by part.
use Rattle.std.proofs.Common.{◌≡◌, ◌≢◌, ℕ, ◌+◌, ◌<◌, ◌≤◌, List, [], ◌++◌, length, Result, Ok, Err, refl, sym, ap, subst, ◌∙◌, arith, take_all}
use Rattle.std.proofs.KnownBytes.{Consumes-trans}
use Rattle.std.specs.Io.KnownBytes.{Consumes}
use Rattle.wire_spec.specs.declared.input_kind.InputKind.{InputKind}
use Rattle.wire_spec.specs.declared.input_kind.InputKind.TheVariants.{Cut}
use Rattle.capture_spec.specs.ItemReading.{Front, Stops, Breaks}
use Rattle.byte_ends.specs.Seen.{Seen, Fills, FillsPart, next_count, with_held}
use Rattle.byte_ends.specs.Unread.{unread}
use Rattle.byte_ends.proofs.Filled.{behind_held, short_room}
use Rattle.byte_ends.proofs.Unread.{moved, stops_within}
use Rattle.sflow_io.specs.declared.capture.Next.TheVariants as next
use Rattle.sflow_io.specs.declared.capture.ReadRefusal.{ReadRefusal}
use Rattle.sflow_io.specs.declared.capture.ReadRefusal.TheVariants as refusal
use Rattle.sflow_io.specs.CaptureAnswers.{Answer, AnswersFront, HasReadCause}
use Rattle.sflow_io.specs.Fronts.{ReadsFront, ReadsPart}
use Rattle.sflow_io.specs.ReadFaults.{HoldsNone}

same_refusal : {T : Type 0} (d e : ReadRefusal) → ◌≡◌ {A = Result T ReadRefusal} (Err d) (Err e) → d ≡ e
same_refusal d e is = cc

not_failed : {T : Type 0} (d : T) → ◌≢◌ {A = Result T ReadRefusal} (Ok d) (Err refusal.ReadFault)
not_failed d is = absurd cc

bad_not_failed : {T : Type 0} (at : ℕ) (kind : InputKind) → ◌≢◌ {A = Result T ReadRefusal} (Err (refusal.BadInput at kind)) (Err refusal.ReadFault)
bad_not_failed at kind is = absurd cc

-- a refusal has its cause whatever was wanted
pub cause_as : {T U : Type 0} (old new : Seen) (e : ReadRefusal) → HasReadCause {T = T} old new (Err e)
    → HasReadCause {T = U} old new (Err e)
cause_as old new e h = record {
  failed = λ is. h.failed (ap (λ r. Err r) (same_refusal e refusal.ReadFault is));
  kept = λ other. h.kept (λ is. other (ap (λ r. Err r) (same_refusal e refusal.ReadFault is)));
}

-- no call failed before
pub cause_after : {T U : Type 0} (old mid new : Seen) (d : T) (answer : Result U ReadRefusal) → HasReadCause {T = T} old mid (Ok d)
    → HasReadCause mid new answer → HasReadCause old new answer
cause_after old mid new d answer first h =
    let kept = first.kept (not_failed d) in
    record { failed = λ is. h.failed is ∙ ap next_count kept; kept = λ other. h.kept other ∙ kept }

module _ (offset : ℕ) (held : List ℕ) (source : Seen) (held' : List ℕ) (source' : Seen) (part room : List ℕ) where
  -- a part isn't there, or a read of it failed
  pub stops_short : (front : List ℕ → Front) (e : ReadRefusal) → ReadsPart offset held source held' source' part (Err e)
      → ((bytes : List ℕ) → length bytes < length part → front bytes ≡ Breaks 0 Cut)
      → ReadsFront front offset held source held' source' room (Err e)
  stops_short front (refusal.BadInput at kind) h short = record {
    told = λ bytes told. (
      0,
      short bytes (h.outcome.2 bytes told) ∙ ap (Breaks 0) (sym h.outcome.1),
      omega (arith, h.outcome.0),
    );
    stops = λ is. absurd (bad_not_failed at kind is);
    short = tt;
    at_end = tt;
    cause = cause_as source source' (refusal.BadInput at kind) h.cause;
  }
  stops_short front refusal.ReadFault h short = record {
    told = λ bytes told. tt;
    stops = λ is. record {
      part = h.outcome.part;
      moved = h.outcome.moved;
      none = subst HoldsNone (sym (short h.outcome.part h.outcome.few)) tt;
    };
    short = tt;
    at_end = tt;
    cause = cause_as source source' refusal.ReadFault h.cause;
  }
  stops_short front refusal.Spent h short = absurd h.outcome

  -- behind a part there is what breaks
  pub breaks : (front : List ℕ → Front) (at within : ℕ) (kind : InputKind)
      → ReadsPart offset held source held' source' part (Ok tt)
      → ((tail : List ℕ) → front (part ++ tail) ≡ Breaks within kind) → at ≡ offset + within
      → ReadsFront front offset held source held' source' room (Err (refusal.BadInput at kind))
  breaks front at within kind h is place = record {
    told = λ bytes told.
        let m = moved (unread held source) (unread held' source') bytes part told h.outcome in
        (within, ap front m.whole ∙ is m.rest, place);
    stops = λ failed. absurd (bad_not_failed at kind failed);
    short = tt;
    at_end = tt;
    cause = record { failed = λ failed. absurd (bad_not_failed at kind failed); kept = λ other. h.cause.kept (not_failed tt) };
  }

  -- a part, and then what is read behind it
  pub goes_on : (front behind : List ℕ → Front) (mid_held : List ℕ) (mid : Seen) (answer : Answer)
      → ReadsPart offset held source mid_held mid part (Ok tt)
      → ((tail : List ℕ) → front (part ++ tail) ≡ behind tail)
      → ReadsFront behind offset mid_held mid held' source' room answer
      → ReadsFront front offset held source held' source' room answer
  goes_on front behind mid_held mid answer h is r = record {
    told = λ bytes told.
        let m = moved (unread held source) (unread mid_held mid) bytes part told h.outcome in
        subst (λ f. AnswersFront offset f room (unread held' source') answer) (sym (ap front m.whole ∙ is m.rest))
        (r.told m.rest m.left_is);
    stops = λ failed.
        let s = r.stops failed in
        record {
          part = part ++ s.part;
          moved = Consumes-trans (unread held source) (unread mid_held mid) source'.told part s.part h.outcome s.moved;
          none = subst HoldsNone (sym (is s.part)) s.none;
        };
    short = r.short;
    at_end = r.at_end;
    cause = cause_after source mid source' tt answer h.cause r.cause;
  }

-- nothing was read, and yet it breaks
pub breaks_here : (front : List ℕ → Front) (offset at within : ℕ) (kind : InputKind) (held : List ℕ) (source : Seen)
    (room : List ℕ) → ((bytes : List ℕ) → front bytes ≡ Breaks within kind) → at ≡ offset + within
    → ReadsFront front offset held source held source room (Err (refusal.BadInput at kind))
breaks_here front offset at within kind held source room is place = record {
  told = λ bytes told. (within, is bytes, place);
  stops = λ failed. absurd (bad_not_failed at kind failed);
  short = tt;
  at_end = tt;
  cause = record { failed = λ failed. absurd (bad_not_failed at kind failed); kept = λ other. refl };
}

-- the same of another front
pub front_as : (front other : List ℕ → Front) (offset : ℕ) (held : List ℕ) (source : Seen) (held' : List ℕ) (source' : Seen)
    (room : List ℕ) (answer : Answer) → ((bytes : List ℕ) → other bytes ≡ front bytes)
    → ReadsFront front offset held source held' source' room answer
    → ReadsFront other offset held source held' source' room answer
front_as front other offset held source held' source' room answer is r = record {
  told = λ bytes told. subst (λ f. AnswersFront offset f room (unread held' source') answer) (sym (is bytes)) (r.told bytes told);
  stops = λ failed.
      let s = r.stops failed in
      record { part = s.part; moved = s.moved; none = subst HoldsNone (sym (is s.part)) s.none };
  short = r.short;
  at_end = r.at_end;
  cause = r.cause;
}

-- ---- a part

module _ (offset : ℕ) (held : List ℕ) (source : Seen) (held' : List ℕ) (source' : Seen) (part : List ℕ) where
  pub part_filled : (count : ℕ) → Fills (with_held held source) (with_held held' source') count part → length part ≤ count
      → ReadsPart offset held source held' source' part (Ok tt)
  part_filled count f full = record {
    outcome = subst (Consumes (unread held source) (unread held' source')) (take_all count part full) f.given.consumed;
    cause = record { failed = λ is. absurd (not_failed tt is); kept = λ other. f.given.kept };
  }

  -- nothing is left
  pub ends_here : (front : List ℕ → Front) (room : List ℕ) (count : ℕ)
      → Fills (with_held held source) (with_held held' source') count part → count ≡ 0 → 0 < length part
      → ((bytes : List ℕ) → length bytes ≡ 0 → front bytes ≡ Stops)
      → ReadsFront front offset held source held' source' room (Ok next.End)
  ends_here front room count f none some is = record {
    told = λ bytes told.
        let h =
        short_room (with_held held source) (with_held held' source') count part bytes told f (omega (arith, none, some)) in
        is bytes (omega (arith, h.number, none));
    stops = λ failed. absurd (not_failed next.End failed);
    short = tt;
    at_end = behind_held held' source'.told (f.all (omega (arith, none, some)));
    cause = record { failed = λ failed. absurd (not_failed next.End failed); kept = λ other. f.given.kept };
  }

  -- something is left, and less than a part
  pub cut_here : (front : List ℕ → Front) (room : List ℕ) (count : ℕ)
      → Fills (with_held held source) (with_held held' source') count part → 0 < count → count < length part
      → ((bytes : List ℕ) → 0 < length bytes → length bytes < length part → front bytes ≡ Breaks 0 Cut)
      → ReadsFront front offset held source held' source' room (Err (refusal.BadInput offset Cut))
  cut_here front room count f some short is = record {
    told = λ bytes told.
        let h = short_room (with_held held source) (with_held held' source') count part bytes told f short in
        (0, is bytes (omega (arith, h.number, some)) (omega (arith, h.number, short)), omega arith);
    stops = λ failed. absurd (bad_not_failed offset Cut failed);
    short = tt;
    at_end = tt;
    cause = record { failed = λ failed. absurd (bad_not_failed offset Cut failed); kept = λ other. f.given.kept };
  }

  -- a read for a part failed
  pub failed_here : (front : List ℕ → Front) (room : List ℕ)
      → FillsPart (with_held held source) (with_held held' source') part → held' ≡ []
      → ((bytes : List ℕ) → length bytes < length part → HoldsNone (front bytes))
      → ReadsFront front offset held source held' source' room (Err refusal.ReadFault)
  failed_here front room f none is =
      let s = stops_within (with_held held source) source' held' part (length part) f none refl in
      record {
        told = λ bytes told. tt;
        stops = λ failed. record { part = s.part; moved = s.moved; none = is s.part s.few };
        short = tt;
        at_end = tt;
        cause = record { failed = λ failed. f.failed; kept = λ other. absurd (other refl) };
      }
