-- One more datagram of a stream.
use Rattle.std.proofs.Common.{◌≡◌, ℕ, suc, ◌+◌, Bool, true, false, cond, List, [], ◌∷◌, length, add-one, map, ℤ, ◌-ℤ◌, refl, sym, ap, subst, ◌∙◌, true≢false, arith}
use Rattle.std.specs.Prelude.{◌==◌}
use Rattle.std.proofs.lemmas.Bool.{eqb-true}
use Rattle.count_spec.specs.Windows.{answer, counted, is_newest}
use Rattle.count_spec.specs.declared.entered.Entered.{Entered}
use Rattle.count_spec.specs.Boots.{boot_mark, sequences, newest_boot_mark, place_at, boot_place, boots, stale_items}
use Rattle.count_spec.specs.Stretches.{placed, with_stale}
use Rattle.count_spec.specs.declared.stretch_place.StretchPlace.{StretchPlace}
use Rattle.count_spec.specs.declared.stretch_place.StretchPlace.TheVariants.{Current, Next, Stale}
use Rattle.count_spec.proofs.Restarts.{newest_boot_mark-step}
use Rattle.source_ledger.specs.Boots as ledger
use Rattle.books_spec.specs.Items.{Datagram, stamp_of}
use Rattle.stream_books.specs.Streams.{StreamState, ShowsStream, place_after}

lengths : (bs : List (List Datagram)) → length (map (sequences stamp_of) bs) ≡ length bs
lengths [] = refl
lengths (boot ∷ more) = ap suc (lengths more)

abbrev is_current : StretchPlace → Bool
is_current Current = true
is_current Next = false
is_current Stale = false

abbrev is_next : StretchPlace → Bool
is_next Current = false
is_next Next = true
is_next Stale = false

pub place-later : (slack : ℕ) (s : StreamState) (start : ℤ) (boot : ℕ) → boot ≡ s.ledger.boot → (boot ≡ 0 → ⊥)
    → place_after slack s start ≡ place_at slack (start -ℤ s.newest)
place-later slack s start boot same some = go (s.ledger.boot == 0) refl
  where
    go : (b : Bool) → (s.ledger.boot == 0) ≡ b
        → cond b Next (place_at slack (start -ℤ s.newest)) ≡ place_at slack (start -ℤ s.newest)
    go true e = absurd (some (same ∙ eqb-true s.ledger.boot 0 e))
    go false e = refl

pub place-is : (slack : ℕ) (s : StreamState) (bs : List (List Datagram)) (stale : List Datagram) (d : Datagram) (start : ℤ)
    → boot_mark (stamp_of d) ≡ start → ShowsStream s bs stale
    → boot_place stamp_of slack s.ledger.marks.width bs d ≡ place_after slack s start
place-is slack s [] stale d start mark st =
    ap (λ n. cond (n == 0) Next (place_at slack (start -ℤ s.newest))) (sym st.boots_are)
place-is slack s (current ∷ closed) stale d start mark st =
    (λ j. place_at slack (mark j -ℤ sym st.newest_is j)) ∙ go (s.ledger.boot == 0) refl
  where
    go : (b : Bool) → (s.ledger.boot == 0) ≡ b
        → place_at slack (start -ℤ s.newest) ≡ cond b Next (place_at slack (start -ℤ s.newest))
    go true e = absurd (
        let none : s.ledger.boot ≡ 0 = eqb-true s.ledger.boot 0 e in
        let some : s.ledger.boot ≡ suc (length closed) = st.boots_are in
        omega arith)
    go false e = refl

pub newest-first : (width : ℕ) (d : Datagram) → newest_boot_mark stamp_of width (d ∷ []) ≡ boot_mark (stamp_of d)
newest-first width d = newest_boot_mark-step stamp_of width d []

-- a datagram begins a boot
pub begins : (s t : StreamState) (d : Datagram) (bs : List (List Datagram)) (stale : List Datagram) (start : ℤ) (word : ℕ)
    → boot_mark (stamp_of d) ≡ start → d.head.sequence ≡ word → ShowsStream s bs stale
    → ((current : List ℕ) (closed : List (List ℕ)) → length closed + 1 ≡ s.ledger.boot + 1
    → ledger.StandsFor s.ledger (current ∷ closed) → ledger.StandsFor t.ledger ((word ∷ current) ∷ closed))
    → t.ledger.boot ≡ s.ledger.boot + 1 → t.newest ≡ start → t.stale ≡ s.stale
    → ShowsStream t ((d ∷ []) ∷ bs) stale
begins s t d bs stale start word mark same_word st enters boot newest stales =
    let same_length : length (map (sequences stamp_of) bs) + 1 ≡ s.ledger.boot + 1 =
    ap (λ (n : ℕ). n + 1) (lengths bs ∙ sym st.boots_are) in
    let P : ℕ → Type 0 = λ n. ledger.StandsFor t.ledger ((n ∷ []) ∷ map (sequences stamp_of) bs) in
    record {
      ledger_stands = subst P (sym same_word) (enters [] (map (sequences stamp_of) bs) same_length st.ledger_stands);
      boots_are = boot ∙ ap (λ (n : ℕ). n + 1) st.boots_are ∙ add-one (length bs);
      newest_is = newest ∙ sym mark ∙ sym (newest-first t.ledger.marks.width d);
      stale_are = stales ∙ st.stale_are;
    }

-- a datagram joins the current boot, under this answer of its window
pub joins : (s t : StreamState) (d : Datagram) (current : List Datagram) (closed : List (List Datagram))
    (stale : List Datagram) (start : ℤ) (word : ℕ) (entered : Entered)
    → boot_mark (stamp_of d) ≡ start → d.head.sequence ≡ word → ShowsStream s (current ∷ closed) stale
    → ((current : List ℕ) (closed : List (List ℕ)) → length closed + 1 ≡ s.ledger.boot
    → ledger.StandsFor s.ledger (current ∷ closed) → ledger.StandsFor t.ledger ((word ∷ current) ∷ closed))
    → ((current : List ℕ) (closed : List (List ℕ)) → length closed + 1 ≡ s.ledger.boot
    → ledger.StandsFor s.ledger (current ∷ closed)
    → entered ≡ answer s.ledger.marks.width (counted s.ledger.marks.width current) word)
    → t.ledger.marks.width ≡ s.ledger.marks.width → t.ledger.boot ≡ s.ledger.boot
    → t.newest ≡ cond (is_newest entered) start s.newest → t.stale ≡ s.stale
    → ShowsStream t ((d ∷ current) ∷ closed) stale
joins s t d current closed stale start word entered mark same_word st enters answers width boot newest stales =
    let same_length : length (map (sequences stamp_of) closed) + 1 ≡ s.ledger.boot =
    ap (λ (n : ℕ). n + 1) (lengths closed) ∙ add-one (length closed) ∙ sym st.boots_are in
    let P : ℕ → Type 0 =
    λ n. ledger.StandsFor t.ledger ((n ∷ sequences stamp_of current) ∷ map (sequences stamp_of) closed) in
    let answered : entered ≡ answer s.ledger.marks.width (counted s.ledger.marks.width (sequences stamp_of current)) d.head.sequence =
    answers (sequences stamp_of current) (map (sequences stamp_of) closed) same_length st.ledger_stands
    ∙ ap (answer s.ledger.marks.width (counted s.ledger.marks.width (sequences stamp_of current))) (sym same_word) in
    let moved = newest_boot_mark-step stamp_of s.ledger.marks.width d current in
    record {
      ledger_stands = subst P (sym same_word)
          (enters (sequences stamp_of current) (map (sequences stamp_of) closed) same_length st.ledger_stands);
      boots_are = boot ∙ st.boots_are;
      newest_is = newest
          ∙ (λ j. cond (is_newest (answered j)) (sym mark j) (st.newest_is j))
          ∙ sym moved ∙ ap (λ w. newest_boot_mark stamp_of w (d ∷ current)) (sym width);
      stale_are = stales ∙ st.stale_are;
    }

-- the state after a datagram that has this place
pub record Next_state (slack : ℕ) (s t : StreamState) (start : ℤ) (d : Datagram) : Type 0 where
  pub width : t.ledger.marks.width ≡ s.ledger.marks.width
  pub current : place_after slack s start ≡ Current → (current : List Datagram) (closed : List (List Datagram)) (stale : List Datagram)
      → ShowsStream s (current ∷ closed) stale → ShowsStream t ((d ∷ current) ∷ closed) stale
  pub next : place_after slack s start ≡ Next → (bs : List (List Datagram)) (stale : List Datagram)
      → ShowsStream s bs stale → ShowsStream t ((d ∷ []) ∷ bs) stale
  pub stale : place_after slack s start ≡ Stale → (bs : List (List Datagram)) (stale : List Datagram)
      → ShowsStream s bs stale → ShowsStream t bs (d ∷ stale)

pub after-current : (slack : ℕ) (s t : StreamState) (start : ℤ) (d : Datagram) → place_after slack s start ≡ Current
    → t.ledger.marks.width ≡ s.ledger.marks.width
    → ((current : List Datagram) (closed : List (List Datagram)) (stale : List Datagram)
    → ShowsStream s (current ∷ closed) stale → ShowsStream t ((d ∷ current) ∷ closed) stale)
    → Next_state slack s t start d
after-current slack s t start d is width step = record {
  width = width;
  current = λ e. step;
  next = λ e. absurd (true≢false (ap is_current (sym is ∙ e)));
  stale = λ e. absurd (true≢false (ap is_current (sym is ∙ e)));
}

pub after-next : (slack : ℕ) (s t : StreamState) (start : ℤ) (d : Datagram) → place_after slack s start ≡ Next
    → t.ledger.marks.width ≡ s.ledger.marks.width
    → ((bs : List (List Datagram)) (stale : List Datagram) → ShowsStream s bs stale → ShowsStream t ((d ∷ []) ∷ bs) stale)
    → Next_state slack s t start d
after-next slack s t start d is width step = record {
  width = width;
  current = λ e. absurd (true≢false (ap is_next (sym is ∙ e)));
  next = λ e. step;
  stale = λ e. absurd (true≢false (ap is_next (sym is ∙ e)));
}

pub after-stale : (slack : ℕ) (s t : StreamState) (start : ℤ) (d : Datagram) → place_after slack s start ≡ Stale
    → t.ledger.marks.width ≡ s.ledger.marks.width
    → ((bs : List (List Datagram)) (stale : List Datagram) → ShowsStream s bs stale → ShowsStream t bs (d ∷ stale))
    → Next_state slack s t start d
after-stale slack s t start d is width step = record {
  width = width;
  current = λ e. absurd (true≢false (sym (ap is_current (sym is ∙ e))));
  next = λ e. absurd (true≢false (sym (ap is_next (sym is ∙ e))));
  stale = λ e. step;
}

-- the boots and the stale datagrams, of which one place has one more
pub placed-shows : (slack : ℕ) (s t : StreamState) (start : ℤ) (d : Datagram) (bs : List (List Datagram)) (stale : List Datagram)
    → boot_mark (stamp_of d) ≡ start → Next_state slack s t start d → ShowsStream s bs stale
    → ShowsStream t (placed (boot_place stamp_of slack s.ledger.marks.width bs d) d bs)
    (with_stale (boot_place stamp_of slack s.ledger.marks.width bs d) d stale)
placed-shows slack s t start d [] stale mark n st =
    n.next (sym (place-is slack s [] stale d start mark st)) [] stale st
placed-shows slack s t start d (current ∷ closed) stale mark n st =
    go (boot_place stamp_of slack s.ledger.marks.width (current ∷ closed) d)
    (sym (place-is slack s (current ∷ closed) stale d start mark st))
  where
    go : (p : StretchPlace) → place_after slack s start ≡ p
        → ShowsStream t (placed p d (current ∷ closed)) (with_stale p d stale)
    go Current e = n.current e current closed stale st
    go Next e = n.next e (current ∷ closed) stale st
    go Stale e = n.stale e (current ∷ closed) stale st

pub take-stands : (slack : ℕ) (s t : StreamState) (start : ℤ) (d : Datagram) (ds : List Datagram)
    → boot_mark (stamp_of d) ≡ start → Next_state slack s t start d
    → ShowsStream s (boots stamp_of slack s.ledger.marks.width ds) (stale_items stamp_of slack s.ledger.marks.width ds)
    → ShowsStream t (boots stamp_of slack t.ledger.marks.width (d ∷ ds)) (stale_items stamp_of slack t.ledger.marks.width (d ∷ ds))
take-stands slack s t start d ds mark n st =
    let P : ℕ → Type 0 = λ w. ShowsStream t (boots stamp_of slack w (d ∷ ds)) (stale_items stamp_of slack w (d ∷ ds)) in
    subst P (sym n.width) (placed-shows slack s t start d (boots stamp_of slack s.ledger.marks.width ds)
    (stale_items stamp_of slack s.ledger.marks.width ds) mark n st)
