-- The first twelve bytes of an entry.
use Rattle.std.proofs.Common.{◌≡◌, ℕ, ◌+◌, ◌^◌, ◌<◌, ◌≤◌, List, ◌++◌, length, take, drop, refl, sym, ap, ◌∙◌, append_assoc, arith, drop_at, take-append-drop, length-append, length-drop, length-take-le, drop-drop}
use Rattle.std.specs.Int.{w32, w64, to_be_bytes}
use Rattle.std.proofs.lemmas.Nat.{be_bytes_4, be_bytes_8, from_be_bytes-to_be_bytes_4, from_be_bytes-to_be_bytes_8}
use Rattle.wire_spec.specs.Bytes.{AreBytes}
use Rattle.wire_spec.specs.Captures.{entry_head}
use Rattle.wire_spec.specs.CaptureReading.{arrival_at, length_at}
use Rattle.wire_spec.proofs.ByteLists.{drop_bytes, take_bytes}

pub length-entry_head : (arrival n : ℕ) → length (entry_head arrival n) ≡ 12
unfolding entry_head
length-entry_head arrival n = refl

arrival_again : (arrival n : ℕ) (tail : List ℕ) → arrival < 2 ^ 64
    → arrival_at (entry_head arrival n ++ tail) ≡ arrival
unfolding entry_head
arrival_again arrival n tail fits = from_be_bytes-to_be_bytes_8 arrival fits

length_again : (arrival n : ℕ) (tail : List ℕ) → n < 2 ^ 32 → length_at (entry_head arrival n ++ tail) ≡ n
unfolding entry_head
length_again arrival n tail fits = from_be_bytes-to_be_bytes_4 n fits

-- what is read at the front of an entry
pub record ReadsHead (rest tail : List ℕ) (arrival n : ℕ) : Type 0 where
  pub arrival_is : arrival_at rest ≡ arrival
  pub length_is : length_at rest ≡ n
  pub tail_is : drop 12 rest ≡ tail
  pub long : length rest ≡ 12 + length tail

pub head_reads : (rest tail : List ℕ) (arrival n : ℕ) → rest ≡ entry_head arrival n ++ tail
    → arrival < 2 ^ 64 → n < 2 ^ 32
    → ReadsHead rest tail arrival n
head_reads rest tail arrival n e time word = record {
  arrival_is = ap arrival_at e ∙ arrival_again arrival n tail time;
  length_is = ap length_at e ∙ length_again arrival n tail word;
  tail_is = ap (drop 12) e ∙ drop_at (entry_head arrival n) tail 12 (length-entry_head arrival n);
  long = omega (arith, ap length e, length-append (entry_head arrival n) tail, length-entry_head arrival n);
}

-- twelve bytes are the head of some entry
pub record HasHead (rest : List ℕ) : Type 0 where
  pub whole : rest ≡ entry_head (arrival_at rest) (length_at rest) ++ drop 12 rest
  pub arrival : arrival_at rest < 2 ^ 64
  pub length_word : length_at rest < 2 ^ 32

head_again : (rest : List ℕ) → AreBytes rest → 12 ≤ length rest
    → rest ≡ entry_head (arrival_at rest) (length_at rest) ++ drop 12 rest
unfolding entry_head
head_again rest bytes long =
    let word_long : 4 ≤ length (drop 8 rest) = omega (arith, length-drop 8 rest) in
    let hyper : to_be_bytes w64 (arrival_at rest) ≡ take 8 rest =
    be_bytes_8 (take 8 rest) _ (length-take-le 8 rest (omega arith)) (take_bytes 8 rest bytes) refl in
    let word : to_be_bytes w32 (length_at rest) ≡ take 4 (drop 8 rest) =
    be_bytes_4 (take 4 (drop 8 rest)) _ (length-take-le 4 (drop 8 rest) word_long)
    (take_bytes 4 (drop 8 rest) (drop_bytes 8 rest bytes)) refl in
    together rest _ _ hyper word
  where
    together : (rest hyper word : List ℕ) → hyper ≡ take 8 rest → word ≡ take 4 (drop 8 rest)
        → rest ≡ (hyper ++ word) ++ drop 12 rest
    together rest hyper word h w =
        let back : drop 4 (drop 8 rest) ≡ drop 12 rest = drop-drop 4 8 rest in
        let ends : drop 8 rest ≡ word ++ drop 12 rest =
        sym (take-append-drop 4 (drop 8 rest)) ∙ ap (λ l. l ++ drop 4 (drop 8 rest)) (sym w)
        ∙ ap (λ l. word ++ l) back in
        sym (take-append-drop 8 rest) ∙ ap (λ l. l ++ drop 8 rest) (sym h) ∙ ap (λ l. hyper ++ l) ends
        ∙ sym (append_assoc hyper word (drop 12 rest))

pub head_is : (rest : List ℕ) → AreBytes rest → 12 ≤ length rest → HasHead rest
head_is rest bytes long =
    let h = take_bytes 8 rest bytes in
    let w = take_bytes 4 (drop 8 rest) (drop_bytes 8 rest bytes) in
    record {
      whole = head_again rest bytes long;
      arrival = omega (arith, h 0, h 1, h 2, h 3, h 4, h 5, h 6, h 7);
      length_word = omega (arith, w 0, w 1, w 2, w 3);
    }
