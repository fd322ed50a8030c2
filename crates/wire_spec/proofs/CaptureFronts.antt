-- What is read at a front says what stands there.
use Rattle.std.proofs.Common.{◌≡◌, ℕ, ◌+◌, ◌-◌, ◌^◌, ◌<◌, ◌≤◌, nat_lt, inl, inr, List, [], ◌∷◌, ◌++◌, length, take, drop, replicate, Option, Some, None, refl, sym, ap, ◌∙◌, append_assoc, arith, take_all, take-append-drop, length-append, length-take, length-take-le}
use Rattle.std.proofs.lemmas.Bool.{ltb-true, ltb-false, cond_both}
use Rattle.wire_spec.specs.declared.input_kind.InputKind.TheVariants.{Cut, Long, Padding}
use Rattle.wire_spec.specs.Bytes.{AreBytes}
use Rattle.wire_spec.specs.Padding.{padding_of}
use Rattle.wire_spec.specs.Captures.{Entry, IsEntry, entry_head, entry_bytes, IsCutEntry, IsBadPadding}
use Rattle.wire_spec.specs.CaptureReading.{Front, Holds, Breaks, first_nonzero, arrival_at, length_at, unless_stray, front_of_padding, front_of_body, front_of_entry, front_of, IsFront}
use Rattle.wire_spec.proofs.ZeroBytes.{length_zeros, zeros_filled, HasStray, zeros_from_none, stray_from_some}
use Rattle.wire_spec.proofs.EntryHeads.{length-entry_head, head_is}

abbrev pub entry_of : ℕ → List ℕ → Entry
entry_of arrival bytes = record { arrival = arrival; bytes = bytes }

pub entry_bytes_are : (e : Entry)
    → entry_bytes e
    ≡ entry_head e.arrival (length e.bytes) ++ (e.bytes ++ replicate (padding_of (length e.bytes)) 0)
unfolding entry_bytes
entry_bytes_are e = refl

-- the two answers of a search in the padding
stray_cases : (whole : List ℕ) (found : Option ℕ) (behind : ℕ) (front : Front)
    → ((k : ℕ) → found ≡ Some k → IsFront whole (Breaks (behind + k) Padding))
    → (found ≡ None → IsFront whole front) → IsFront whole (unless_stray found behind front)
stray_cases whole None behind front some none = none refl
stray_cases whole (Some k) behind front some none = some k refl

-- ---- the padding

bad_padding : (whole bytes rest : List ℕ) (arrival k : ℕ)
    → whole ≡ entry_head arrival (length bytes) ++ (bytes ++ rest)
    → IsEntry (entry_of arrival bytes) → HasStray (take (padding_of (length bytes)) rest) k
    → IsBadPadding whole (12 + length bytes + k)
bad_padding whole bytes rest arrival k e fits h =
    let n = padding_of (length bytes) in
    let head = entry_head arrival (length bytes) in
    let few : length (take n rest) ≤ n = omega (arith, length-take n rest) in
    let less : k < n =
    omega (arith, few, ap length h.whole, length-append (replicate k 0) (h.stray ∷ h.more), length_zeros k) in
    let rest_is : rest ≡ (replicate k 0 ++ h.stray ∷ h.more) ++ drop n rest =
    sym (take-append-drop n rest) ∙ ap (λ l. l ++ drop n rest) h.whole in
    record {
      entry = entry_of arrival bytes;
      fits = fits;
      zeros = k;
      short = less;
      stray = h.stray;
      not_zero = h.not_zero;
      begins = (
        h.more ++ drop n rest,
        e ∙ ap (λ l. head ++ (bytes ++ l)) rest_is
            ∙ regroup head bytes (replicate k 0) h.more (drop n rest) h.stray,
      );
      place = refl;
    }
  where
    regroup : (head bytes zeros more back : List ℕ) (stray : ℕ)
        → head ++ (bytes ++ ((zeros ++ stray ∷ more) ++ back))
        ≡ (head ++ (bytes ++ (zeros ++ stray ∷ []))) ++ (more ++ back)
    regroup head bytes zeros more back stray = simp append_assoc

cut_padding : (whole bytes rest : List ℕ) (arrival : ℕ)
    → whole ≡ entry_head arrival (length bytes) ++ (bytes ++ rest)
    → IsEntry (entry_of arrival bytes) → first_nonzero (take (padding_of (length bytes)) rest) ≡ None
    → length rest < padding_of (length bytes) → IsCutEntry whole
cut_padding whole bytes rest arrival e fits none short =
    let n = padding_of (length bytes) in
    let head = entry_head arrival (length bytes) in
    let missing : List ℕ = replicate (n - length rest) 0 in
    let all : take n rest ≡ rest = take_all n rest (omega (arith, short)) in
    let zeros : rest ≡ replicate (length rest) 0 =
    zeros_from_none rest (sym (ap first_nonzero all) ∙ none) in
    let padding : replicate n 0 ≡ rest ++ missing = zeros_filled n rest zeros (omega (arith, short)) in
    let some : 0 < length whole =
    omega (
      arith,
      ap length e,
      length-append head (bytes ++ rest),
      length-entry_head arrival (length bytes),
    ) in
    let lacks : 0 < length missing = omega (arith, length_zeros (n - length rest), short) in
    let same : entry_bytes (entry_of arrival bytes) ≡ whole ++ missing =
    entry_bytes_are (entry_of arrival bytes) ∙ ap (λ l. head ++ (bytes ++ l)) padding
    ∙ regroup head bytes rest missing ∙ ap (λ l. l ++ missing) (sym e) in
    (some, inr (entry_of arrival bytes, missing, fits, lacks, same))
  where
    regroup : (head bytes rest missing : List ℕ)
        → head ++ (bytes ++ (rest ++ missing)) ≡ (head ++ (bytes ++ rest)) ++ missing
    regroup head bytes rest missing = simp append_assoc

whole_padding : (whole bytes rest : List ℕ) (arrival : ℕ)
    → whole ≡ entry_head arrival (length bytes) ++ (bytes ++ rest)
    → first_nonzero (take (padding_of (length bytes)) rest) ≡ None → padding_of (length bytes) ≤ length rest
    → whole ≡ entry_bytes (entry_of arrival bytes) ++ drop (padding_of (length bytes)) rest
whole_padding whole bytes rest arrival e none full =
    let n = padding_of (length bytes) in
    let head = entry_head arrival (length bytes) in
    let zeros : take n rest ≡ replicate n 0 =
    zeros_from_none (take n rest) none ∙ ap (λ k. replicate k 0) (length-take-le n rest full) in
    let rest_is : rest ≡ replicate n 0 ++ drop n rest =
    sym (take-append-drop n rest) ∙ ap (λ l. l ++ drop n rest) zeros in
    e ∙ ap (λ l. head ++ (bytes ++ l)) rest_is ∙ regroup head bytes (replicate n 0) (drop n rest)
    ∙ sym (ap (λ l. l ++ drop n rest) (entry_bytes_are (entry_of arrival bytes)))
  where
    regroup : (head bytes zeros back : List ℕ)
        → head ++ (bytes ++ (zeros ++ back)) ≡ (head ++ (bytes ++ zeros)) ++ back
    regroup head bytes zeros back = simp append_assoc

padding_shows : (whole bytes rest : List ℕ) (arrival : ℕ)
    → whole ≡ entry_head arrival (length bytes) ++ (bytes ++ rest)
    → IsEntry (entry_of arrival bytes) → IsFront whole (front_of_padding arrival bytes rest)
unfolding front_of_padding
padding_shows whole bytes rest arrival e fits =
    let n = padding_of (length bytes) in
    stray_cases whole (first_nonzero (take n rest)) (12 + length bytes) _
    (λ k found. bad_padding whole bytes rest arrival k e fits (stray_from_some (take n rest) k found))
    (λ none. cond_both (nat_lt (length rest) n) (Breaks 0 Cut) (Holds (entry_of arrival bytes) (drop n rest))
    (IsFront whole)
    (λ short. (refl, cut_padding whole bytes rest arrival e fits none (ltb-true (length rest) n short)))
    (λ full. (fits, whole_padding whole bytes rest arrival e none (ltb-false (length rest) n full))))

-- ---- the bytes

cut_body : (whole rest : List ℕ) (arrival n : ℕ) → whole ≡ entry_head arrival n ++ rest → arrival < 2 ^ 64
    → n ≤ 65535 → length rest < n → IsCutEntry whole
cut_body whole rest arrival n e time small short =
    let lack : List ℕ = replicate (n - length rest) 0 in
    let missing : List ℕ = lack ++ replicate (padding_of n) 0 in
    let bytes : List ℕ = rest ++ lack in
    let long : length bytes ≡ n =
    omega (arith, length-append rest lack, length_zeros (n - length rest), short) in
    let some : 0 < length whole =
    omega (arith, ap length e, length-append (entry_head arrival n) rest, length-entry_head arrival n) in
    let lacks : 0 < length missing =
    omega (arith, length-append lack (replicate (padding_of n) 0), length_zeros (n - length rest), short) in
    let same : entry_bytes (entry_of arrival bytes) ≡ whole ++ missing =
    entry_bytes_are (entry_of arrival bytes)
    ∙ ap (λ k. entry_head arrival k ++ (bytes ++ replicate (padding_of k) 0)) long
    ∙ regroup (entry_head arrival n) rest lack (replicate (padding_of n) 0)
    ∙ ap (λ l. l ++ missing) (sym e) in (
      some,
      inr (
        entry_of arrival bytes,
        missing,
        record {
          arrival = time;
          bytes = omega (
            arith,
            long,
            small,
          );
        },
        lacks,
        same,
      ),
    )
  where
    regroup : (head rest lack zeros : List ℕ)
        → head ++ ((rest ++ lack) ++ zeros) ≡ (head ++ rest) ++ (lack ++ zeros)
    regroup head rest lack zeros = simp append_assoc

body_shows : (whole rest : List ℕ) (arrival n : ℕ) → whole ≡ entry_head arrival n ++ rest → arrival < 2 ^ 64
    → n ≤ 65535 → IsFront whole (front_of_body arrival n rest)
unfolding front_of_body
body_shows whole rest arrival n e time small =
    cond_both (nat_lt (length rest) n) (Breaks 0 Cut) (front_of_padding arrival (take n rest) (drop n rest))
    (IsFront whole)
    (λ short. (refl, cut_body whole rest arrival n e time small (ltb-true (length rest) n short)))
    (λ full.
    let long : length (take n rest) ≡ n = length-take-le n rest (ltb-false (length rest) n full) in
    padding_shows whole (take n rest) (drop n rest) arrival
    (e ∙ sym (ap (λ l. entry_head arrival n ++ l) (take-append-drop n rest))
    ∙ sym (ap (λ k. entry_head arrival k ++ (take n rest ++ drop n rest)) long))
    (record { arrival = time; bytes = omega (arith, long, small) }))

-- ---- the arrival and the length

entry_shows : (rest : List ℕ) → AreBytes rest → 0 < length rest → IsFront rest (front_of_entry rest)
unfolding front_of_entry
entry_shows rest bytes some =
    cond_both (nat_lt (length rest) 12) (Breaks 0 Cut) _ (IsFront rest)
    (λ short. (refl, (some, inl (ltb-true (length rest) 12 short))))
    (λ full.
    let head = head_is rest bytes (ltb-false (length rest) 12 full) in
    cond_both (nat_lt 65535 (length_at rest)) (Breaks 8 Long) _ (IsFront rest)
    (λ long. (
      refl,
      (
        arrival_at rest,
        length_at rest,
        head.arrival,
        ltb-true 65535 (length_at rest) long,
        head.length_word,
        (drop 12 rest, head.whole),
      ),
    ))
    (λ fits. body_shows rest (drop 12 rest) (arrival_at rest) (length_at rest) head.whole head.arrival
    (ltb-false 65535 (length_at rest) fits)))

-- what is read at a front stands there
pub front_shows : (rest : List ℕ) → AreBytes rest → IsFront rest (front_of rest)
unfolding front_of
front_shows [] bytes = refl
front_shows (b ∷ more) bytes = entry_shows (b ∷ more) bytes (omega arith)
