-- What stands at a front is read there.
use Rattle.std.proofs.Common.{◌≡◌, ◌≢◌, ℕ, ◌+◌, ◌^◌, ◌<◌, ◌≤◌, true, false, nat_lt, inl, inr, List, [], ◌∷◌, ◌++◌, length, replicate, refl, sym, ap, ◌∙◌, append_assoc, arith, take_at, drop_at, take_all, length-append, lt-ltb, le-ltb}
use Rattle.std.proofs.lemmas.Bool.{cases_lt}
use Rattle.wire_spec.specs.declared.input_kind.InputKind.{InputKind}
use Rattle.wire_spec.specs.declared.input_kind.InputKind.TheVariants.{Cut, Long, Padding}
use Rattle.wire_spec.specs.Padding.{padding_of}
use Rattle.wire_spec.specs.Captures.{Entry, IsEntry, entry_head, entry_bytes, IsCutEntry, IsLongEntry, IsBadPadding, IsBroken}
use Rattle.wire_spec.specs.CaptureReading.{Front, Stops, Holds, Breaks, front_of_padding, front_of_body, front_of_entry, front_of, IsFront}
use Rattle.wire_spec.proofs.ByteLists.{split_append}
use Rattle.wire_spec.proofs.ZeroBytes.{length_zeros, found_after_zeros, none_in_zeros, zeros_split, take_stray}
use Rattle.wire_spec.proofs.EntryHeads.{length-entry_head, ReadsHead, head_reads}
use Rattle.wire_spec.proofs.CaptureFronts.{entry_of, entry_bytes_are}

-- ---- the padding

padding_holds : (bytes more : List ℕ) (arrival : ℕ)
    → front_of_padding arrival bytes (replicate (padding_of (length bytes)) 0 ++ more)
    ≡ Holds (entry_of arrival bytes) more
unfolding front_of_padding
padding_holds bytes more arrival =
    let n = padding_of (length bytes) in
    let number = length_zeros n in
    let full : nat_lt (length (replicate n 0 ++ more)) n ≡ false =
    le-ltb _ _ (omega (arith, length-append (replicate n 0) more, number)) in
    rw (
      take_at (replicate n 0) more n number,
      none_in_zeros n,
      full,
      drop_at (replicate n 0) more n number,
    ) refl

padding_cut : (bytes : List ℕ) (arrival zeros : ℕ) → zeros < padding_of (length bytes)
    → front_of_padding arrival bytes (replicate zeros 0) ≡ Breaks 0 Cut
unfolding front_of_padding
padding_cut bytes arrival zeros short =
    let n = padding_of (length bytes) in
    let number = length_zeros zeros in
    let fewer : nat_lt (length {A =
    ℕ} (replicate zeros 0)) n ≡ true = lt-ltb _ _ (omega (arith, number, short)) in
    rw (
      take_all {A = ℕ} n (replicate zeros 0) (omega (arith, number, short)),
      none_in_zeros zeros,
      fewer,
    ) refl

padding_breaks : (bytes more : List ℕ) (arrival zeros stray : ℕ) → zeros < padding_of (length bytes)
    → stray ≢ 0
    → front_of_padding arrival bytes (replicate zeros 0 ++ stray ∷ more)
    ≡ Breaks (12 + length bytes + zeros) Padding
unfolding front_of_padding
padding_breaks bytes more arrival zeros stray short isnt =
    let n = padding_of (length bytes) in
    let p = take_stray zeros n stray more short in
    rw (p.1, found_after_zeros zeros stray p.0 isnt) refl

-- ---- the bytes

body_goes : (bytes tail : List ℕ) (arrival n : ℕ) → length bytes ≡ n
    → front_of_body arrival n (bytes ++ tail) ≡ front_of_padding arrival bytes tail
unfolding front_of_body
body_goes bytes tail arrival n long =
    let full : nat_lt (length (bytes ++ tail)) n ≡ false =
    le-ltb _ _ (omega (arith, length-append bytes tail, long)) in
    rw (full, take_at bytes tail n long, drop_at bytes tail n long) refl

body_cut : (rest : List ℕ) (arrival n : ℕ) → length rest < n → front_of_body arrival n rest ≡ Breaks 0 Cut
unfolding front_of_body
body_cut rest arrival n short =
    let fewer : nat_lt (length rest) n ≡ true = lt-ltb _ _ short in rw fewer refl

-- ---- the arrival and the length

entry_goes : (rest tail : List ℕ) (arrival n : ℕ) → ReadsHead rest tail arrival n → n ≤ 65535
    → front_of_entry rest ≡ front_of_body arrival n tail
unfolding front_of_entry
entry_goes rest tail arrival n h small =
    let full : nat_lt (length rest) 12 ≡ false = le-ltb _ _ (omega (arith, h.long)) in
    let fits : nat_lt 65535 n ≡ false = le-ltb _ _ small in
    rw (full, h.length_is, fits, h.arrival_is, h.tail_is) refl

entry_long : (rest tail : List ℕ) (arrival n : ℕ) → ReadsHead rest tail arrival n → 65535 < n
    → front_of_entry rest ≡ Breaks 8 Long
unfolding front_of_entry
entry_long rest tail arrival n h large =
    let full : nat_lt (length rest) 12 ≡ false = le-ltb _ _ (omega (arith, h.long)) in
    let over : nat_lt 65535 n ≡ true = lt-ltb _ _ large in
    rw (full, h.length_is, over) refl

entry_short : (rest : List ℕ) → length rest < 12 → front_of_entry rest ≡ Breaks 0 Cut
unfolding front_of_entry
entry_short rest short = let fewer : nat_lt (length rest) 12 ≡ true = lt-ltb _ _ short in rw fewer refl

goes_in : (rest : List ℕ) → 0 < length rest → front_of rest ≡ front_of_entry rest
unfolding front_of
goes_in [] some = absurd (omega arith)
goes_in (b ∷ more) some = refl

-- from twelve bytes with a lawful length on, the rest decides
pub past_head : (rest tail : List ℕ) (arrival n : ℕ) → rest ≡ entry_head arrival n ++ tail → arrival < 2 ^ 64
    → n ≤ 65535
    → front_of rest ≡ front_of_body arrival n tail
past_head rest tail arrival n e time small =
    let h = head_reads rest tail arrival n e time (omega (arith, small)) in
    goes_in rest (omega (arith, h.long)) ∙ entry_goes rest tail arrival n h small

past_bytes : (rest bytes tail : List ℕ) (arrival : ℕ)
    → rest ≡ entry_head arrival (length bytes) ++ (bytes ++ tail)
    → IsEntry (entry_of arrival bytes) → front_of rest ≡ front_of_padding arrival bytes tail
past_bytes rest bytes tail arrival e fits =
    past_head rest (bytes ++ tail) arrival (length bytes) e fits.arrival fits.bytes
    ∙ body_goes bytes tail arrival (length bytes) refl

-- ---- each front

holds_back : (e : Entry) (rest more : List ℕ) → IsEntry e → rest ≡ entry_bytes e ++ more
    → front_of rest ≡ Holds e more
holds_back e rest more fits whole =
    let zeros : List ℕ = replicate (padding_of (length e.bytes)) 0 in
    let head = entry_head e.arrival (length e.bytes) in
    past_bytes rest e.bytes (zeros ++ more) e.arrival
    (whole ∙ ap (λ l. l ++ more) (entry_bytes_are e) ∙ regroup head e.bytes zeros more) fits
    ∙ padding_holds e.bytes more e.arrival
  where
    regroup : (head bytes zeros more : List ℕ)
        → (head ++ (bytes ++ zeros)) ++ more ≡ head ++ (bytes ++ (zeros ++ more))
    regroup head bytes zeros more = simp append_assoc

long_back : (rest : List ℕ) → IsLongEntry rest → front_of rest ≡ Breaks 8 Long
long_back rest (arrival, n, time, large, word, (tail, e)) =
    let h = head_reads rest tail arrival n e time word in
    goes_in rest (omega (arith, h.long)) ∙ entry_long rest tail arrival n h large

padding_back : (rest : List ℕ) (within : ℕ) → IsBadPadding rest within → front_of rest ≡ Breaks within Padding
padding_back rest within h =
    let bytes = h.entry.bytes in
    let head = entry_head h.entry.arrival (length bytes) in
    past_bytes rest bytes (replicate h.zeros 0 ++ h.stray ∷ h.begins.0) h.entry.arrival
    (h.begins.1 ∙ regroup head bytes (replicate h.zeros 0) h.begins.0 h.stray) h.fits
    ∙ padding_breaks bytes h.begins.0 h.entry.arrival h.zeros h.stray h.short h.not_zero
    ∙ ap (λ k. Breaks k Padding) (sym h.place)
  where
    regroup : (head bytes zeros more : List ℕ) (stray : ℕ)
        → (head ++ (bytes ++ (zeros ++ stray ∷ []))) ++ more ≡ head ++ (bytes ++ (zeros ++ stray ∷ more))
    regroup head bytes zeros more stray = simp append_assoc

-- a part of an entry that has its whole head
part_back : (e : Entry) (rest missing : List ℕ) → IsEntry e → 0 < length missing
    → entry_bytes e ≡ rest ++ missing
    → 12 ≤ length rest → front_of rest ≡ Breaks 0 Cut
part_back e rest missing fits lacks whole long =
    let n = length e.bytes in
    let head = entry_head e.arrival n in
    let zeros : List ℕ = replicate (padding_of n) 0 in
    let first = split_append head (e.bytes ++ zeros) rest missing (sym (entry_bytes_are e) ∙ whole)
    (omega (arith, length-entry_head e.arrival n)) in
    let tail = first.0 in
    elim (cases_lt (length tail) n) [
      | inl short ↦
          past_head rest tail e.arrival n first.1 fits.arrival fits.bytes ∙ body_cut tail e.arrival n short
      | inr full ↦
          let second = split_append e.bytes zeros tail missing first.2 full in
          let third = zeros_split (padding_of n) second.0 missing second.2 in
          past_bytes rest e.bytes second.0 e.arrival (first.1 ∙ ap (λ l. head ++ l) second.1) fits
          ∙ ap (front_of_padding e.arrival e.bytes) third.0
          ∙ padding_cut e.bytes e.arrival (length second.0) (omega (arith, third.1, lacks))
    ]

cut_back : (rest : List ℕ) → IsCutEntry rest → front_of rest ≡ Breaks 0 Cut
cut_back rest (some, inl short) = goes_in rest some ∙ entry_short rest short
cut_back rest (some, inr (e, missing, fits, lacks, whole)) =
    elim (cases_lt (length rest) 12) [
      | inl short ↦ goes_in rest some ∙ entry_short rest short
      | inr long ↦ part_back e rest missing fits lacks whole long
    ]

broken_back : (rest : List ℕ) (within : ℕ) (kind : InputKind) → IsBroken rest within kind
    → front_of rest ≡ Breaks within kind
broken_back rest within Cut h = cut_back rest h.1 ∙ ap (λ k. Breaks k Cut) (sym h.0)
broken_back rest within Long h = long_back rest h.1 ∙ ap (λ k. Breaks k Long) (sym h.0)
broken_back rest within Padding h = padding_back rest within h
broken_back rest within _ h = absurd h

stops_back : (rest : List ℕ) → rest ≡ [] → front_of rest ≡ Stops
unfolding front_of
stops_back rest e = ap front_of e

-- what stands at a front is read there
pub front_back : (rest : List ℕ) (front : Front) → IsFront rest front → front_of rest ≡ front
front_back rest Stops h = stops_back rest h
front_back rest (Holds e more) h = holds_back e rest more h.0 h.1
front_back rest (Breaks within kind) h = broken_back rest within kind h
