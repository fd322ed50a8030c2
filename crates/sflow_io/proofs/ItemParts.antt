-- What stands at the front of an item, from what was read of it.
use Rattle.std.proofs.Common.{◌≡◌, ◌≢◌, ℕ, ◌+◌, ◌<◌, ◌==◌, false, nat_lt, if◌then◌else◌, inl, inr, List, ◌++◌, length, take, drop, sym, ap, ap₂, ◌∙◌, arith, take_at, drop_at, length-append, length-drop, lt-ltb, le-ltb}
use Rattle.std.proofs.lemmas.Bool.{cases_lt, cond-true, cond-false, eq-eqb, ne_eqb}
use Rattle.std.proofs.lemmas.List.{drop-append-le, take-append-le}
use Rattle.std.specs.Int.{w32, w64, from_be_bytes}
use Rattle.wire_spec.specs.declared.input_kind.InputKind.TheVariants.{After, Count, Cut}
use Rattle.wire_spec.specs.Heads.{AgentAddress}
use Rattle.capture_spec.specs.ItemReading.{Stops, Breaks, word_in, hyper_in, front_of_address, front_of_end, front_of_head, front_of_item, front_of_kind, front_of_port, front_of_word}
use Rattle.sflow_io.specs.Fronts.{after_front}
use Rattle.sflow_io.proofs.EntryFronts.{front_word}

-- a part, and then the tail
module _ (part tail : List ℕ) where
  enough : (n : ℕ) → length part ≡ n → nat_lt (length (part ++ tail)) n ≡ false
  enough n long = le-ltb (length (part ++ tail)) n (omega (arith, length-append part tail, long))

  first_word : length part ≡ 4 → word_in (part ++ tail) ≡ from_be_bytes w32 part
  first_word long = ap (from_be_bytes w32) (take_at part tail 4 long)

  pub item_word : (count : ℕ) → length part ≡ 4
      → front_of_item count (part ++ tail) ≡ front_of_word count (from_be_bytes w32 part) tail
  unfolding front_of_item
  item_word count long =
      cond-false (nat_lt (length (part ++ tail)) 4) _ _ (enough 4 long)
      ∙ ap₂ (front_of_word count) (first_word long) (drop_at part tail 4 long)

  pub head_kind : length part ≡ 12
      → front_of_head (part ++ tail)
      ≡ front_of_kind (from_be_bytes w64 (take 8 part)) (from_be_bytes w32 (take 4 (drop 8 part))) tail
  unfolding front_of_head
  head_kind long =
      let arrival : hyper_in (part ++ tail) ≡ from_be_bytes w64 (take 8 part) =
      ap (from_be_bytes w64) (take-append-le 8 part tail (omega (arith, long))) in
      let kind : word_in (drop 8 (part ++ tail)) ≡ from_be_bytes w32 (take 4 (drop 8 part)) =
      ap (from_be_bytes w32) (front_word part tail long) in
      cond-false (nat_lt (length (part ++ tail)) 12) _ _ (enough 12 long)
      ∙ ap (λ n. front_of_kind n (word_in (drop 8 (part ++ tail))) (drop 12 (part ++ tail))) arrival
      ∙ ap₂ (front_of_kind (from_be_bytes w64 (take 8 part))) kind (drop_at part tail 12 long)

  pub address_port : (at : ℕ) (address : List ℕ → AgentAddress) (size : ℕ) → length part ≡ size + 4
      → front_of_address at address size (part ++ tail)
      ≡ front_of_port at (address (take size part)) size (from_be_bytes w32 (drop size part)) tail
  unfolding front_of_address
  address_port at address size long =
      let bytes : take size (part ++ tail) ≡ take size part =
      take-append-le size part tail (omega (arith, long)) in
      let behind : drop size (part ++ tail) ≡ drop size part ++ tail =
      drop-append-le size part tail (omega (arith, long)) in
      let number : length (drop size part) ≡ 4 = omega (arith, length-drop size part, long) in
      let port : word_in (drop size (part ++ tail)) ≡ from_be_bytes w32 (drop size part) =
      ap word_in behind ∙ ap (from_be_bytes w32) (take_at (drop size part) tail 4 number) in
      cond-false (nat_lt (length (part ++ tail)) (size + 4)) _ _ (enough (size + 4) long)
      ∙ ap (λ l. front_of_port at (address l) size (word_in (drop size (part ++ tail))) (drop (size + 4) (part ++ tail))) bytes
      ∙ ap₂ (front_of_port at (address (take size part)) size) port (drop_at part tail (size + 4) long)

  pub end_other : (count : ℕ) → length part ≡ 8 → from_be_bytes w64 part ≢ count
      → front_of_end count (part ++ tail) ≡ Breaks 4 Count
  unfolding front_of_end
  end_other count long other =
      let number : hyper_in (part ++ tail) ≡ from_be_bytes w64 part = ap (from_be_bytes w64) (take_at part tail 8 long) in
      cond-false (nat_lt (length (part ++ tail)) 8) _ _ (enough 8 long)
      ∙ cond-false (hyper_in (part ++ tail) == count) _ _ (ne_eqb _ _ (λ e. other (sym number ∙ e)))

  pub end_number : (count : ℕ) → length part ≡ 8 → from_be_bytes w64 part ≡ count
      → front_of_end count (part ++ tail) ≡ after_front tail
  unfolding front_of_end
  end_number count long same =
      let number : hyper_in (part ++ tail) ≡ count = ap (from_be_bytes w64) (take_at part tail 8 long) ∙ same in
      cond-false (nat_lt (length (part ++ tail)) 8) _ _ (enough 8 long)
      ∙ cond-true (hyper_in (part ++ tail) == count) _ _ (eq-eqb _ _ number)
      ∙ ap (λ b. if b then Breaks 12 After else Stops) (further long)
    where
      further : length part ≡ 8 → nat_lt 8 (length (part ++ tail)) ≡ nat_lt 0 (length tail)
      further long =
          elim (cases_lt 0 (length tail)) [
            | inl some ↦ lt-ltb _ _ (omega (arith, some, length-append part tail, long)) ∙ sym (lt-ltb _ _ some)
            | inr none ↦ le-ltb _ _ (omega (arith, none, length-append part tail, long)) ∙ sym (le-ltb _ _ none)
          ]

pub address_cut : (at : ℕ) (address : List ℕ → AgentAddress) (size : ℕ) (bytes : List ℕ) → length bytes < size + 4
    → front_of_address at address size bytes ≡ Breaks 0 Cut
unfolding front_of_address
address_cut at address size bytes short =
    cond-true (nat_lt (length bytes) (size + 4)) _ _ (lt-ltb (length bytes) (size + 4) short)

pub after_none : (bytes : List ℕ) → length bytes ≡ 0 → after_front bytes ≡ Stops
after_none bytes none =
    cond-false (nat_lt 0 (length bytes)) _ _ (le-ltb 0 (length bytes) (omega (arith, none)))
