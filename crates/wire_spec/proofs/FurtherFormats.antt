-- Bytes in which no record has one of the further formats are read alike over the tables with them and without them.
use Rattle.std.proofs.Common.{◌≡◌, ◌≢◌, ℕ, zero, suc, Bool, true, false, cond, eqb, ne_eqb, nat_lt, List, length, Result, Ok, Err, if◌then◌else◌, refl, sym, ap, ◌∙◌, inl, inr}
use Rattle.std.proofs.lemmas.Bool.{eqb-true, eqb-false}
use Rattle.std.specs.Prelude.{IfOk, ◌↔◌}
use Rattle.wire_spec.specs.declared.pad.Pad.{Pad}
use Rattle.wire_spec.specs.declared.fault.Fault.{Fault}
use Rattle.wire_spec.specs.Bytes.{AreBytes}
use Rattle.wire_spec.specs.Shapes.{Union, version, Shape, word, array, structure, union, frame, Shapes, end, ◌then◌, Table, empty, row, Tree, known, Trees, ◌&◌}
use Rattle.wire_spec.specs.Fails.{Remaining}
use Rattle.wire_spec.specs.Reading.{◌>>=◌, word_at, body_at, body_end_at, past_body, many_at, reading, members_at, union_at, inside_at}
use Rattle.wire_spec.specs.Tables.{agent_address, flow_table, counter_table, datagram}
use Rattle.wire_spec.specs.Whole.{from_start, too_long, at_end, whole_reading, SpellsWhole, FailsWhole}
use Rattle.wire_spec.specs.FurtherFormats.{Formats, EachLacks, Lacks, AllLack, RowLacks, fewer_flow_records, fewer_counter_records, samples_with, datagram_without, IsFurther, LacksFurther}
use Rattle.wire_spec.proofs.OneReading.{whole_good, whole_bad, whole_taken, whole_refused}

if_ok : {A : Type 0} {P Q : A → Type 0} (r : Result A Fault) → ((x : A) → P x → Q x) → IfOk r P → IfOk r Q
if_ok (Ok x) f h = f x h
if_ok (Err e) f h = tt

-- two steps, of which the first ones are the same, and the second ones on what it gives
both_alike : {A B : Type 0} (q r : Result A Fault) (g h : A → Result B Fault) → q ≡ r → IfOk q (λ x. g x ≡ h x)
    → (q >>= g) ≡ (r >>= h)
both_alike {A = A} {B = B} q r g h same then_same = on q then_same ∙ ap (λ (y : Result A Fault). y >>= h) same
  where
    on : (q : Result A Fault) → IfOk q (λ x. g x ≡ h x) → (q >>= g) ≡ (q >>= h)
    on (Ok x) e = e
    on (Err f) e = refl

module _ (F : Formats) (p : Pad) where
  -- where no frame has such a format, both shapes read the same
  abbrev Alike : Shape → Shape → Type 0
  Alike s t = (b : Remaining) → Lacks F p s b → reading p s b ≡ reading p t b

  abbrev AllAlike : Shapes → Shapes → Type 0
  AllAlike ss ts = (b : Remaining) → AllLack F p ss b → members_at p ss b ≡ members_at p ts b

  -- the insides of frames are read alike
  abbrev RowsAlike : Table → Table → Type 0
  RowsAlike T U = (k : ℕ) (b : Remaining) → RowLacks F p T k b → inside_at p T k b ≡ inside_at p U k b

  itself : (s : Shape) → Alike s s
  itself s b h = refl

  many_alike : (s t : Shape) → Alike s t → (n : ℕ) (b : Remaining) → EachLacks (Lacks F p s) (reading p s) n b
      → many_at (reading p s) n b ≡ many_at (reading p t) n b
  many_alike s t same zero b h = refl
  many_alike s t same (suc n) b h =
      both_alike (reading p s b) (reading p t b)
      (λ x. many_at (reading p s) n x.1 >>= λ xs. Ok (x.0 & xs.0, xs.1))
      (λ x. many_at (reading p t) n x.1 >>= λ xs. Ok (x.0 & xs.0, xs.1))
      (same b h.0)
      (if_ok (reading p s b) (λ x more. ap (λ (y : Result (Trees × Remaining) Fault). y >>= λ xs. let o : Result (Trees × Remaining) Fault = Ok (x.0 & xs.0, xs.1) in o) (many_alike s t same n x.1 more)) h.1)

  array_alike : (s t : Shape) → Alike s t → Alike (array s) (array t)
  array_alike s t same b h =
      both_alike (word_at b) (word_at b)
      (λ n. many_at (reading p s) n.0 n.1 >>= λ x. Ok (Tree.array x.0, x.1))
      (λ n. many_at (reading p t) n.0 n.1 >>= λ x. Ok (Tree.array x.0, x.1))
      refl
      (if_ok (word_at b) (λ n more. ap (λ (y : Result (Trees × Remaining) Fault). y >>= λ x. let o : Result (Tree × Remaining) Fault = Ok (Tree.array x.0, x.1) in o) (many_alike s t same n.0 n.1 more)) h)

  no_more : AllAlike end end
  no_more b h = refl

  then_alike : (s t : Shape) (ss ts : Shapes) → Alike s t → AllAlike ss ts → AllAlike (s then ss) (t then ts)
  then_alike s t ss ts one others b h =
      both_alike (reading p s b) (reading p t b)
      (λ x. members_at p ss x.1 >>= λ xs. Ok (x.0 & xs.0, xs.1))
      (λ x. members_at p ts x.1 >>= λ xs. Ok (x.0 & xs.0, xs.1))
      (one b h.0)
      (if_ok (reading p s b) (λ x more. ap (λ (y : Result (Trees × Remaining) Fault). y >>= λ xs. let o : Result (Trees × Remaining) Fault = Ok (x.0 & xs.0, xs.1) in o) (others x.1 more)) h.1)

  structure_alike : (ss ts : Shapes) → AllAlike ss ts → Alike (structure ss) (structure ts)
  structure_alike ss ts all b h =
      ap (λ (y : Result (Trees × Remaining) Fault). y >>= λ x. let o : Result (Tree × Remaining) Fault = Ok (Tree.structure x.0, x.1) in o) (all b h)

  -- ---- rows

  choose : {A : Type 0} (k j : ℕ) (a c d : A) (t : Bool) → eqb k j ≡ t → ((k ≡ j) → a ≡ c) → cond t a d ≡ cond t c d
  choose k j a c d true e h = h (eqb-true k j e)
  choose k j a c d false e h = refl

  choose_rest : {A : Type 0} (k j : ℕ) (a c d : A) (t : Bool) → eqb k j ≡ t → ((k ≢ j) → c ≡ d) → cond t a c ≡ cond t a d
  choose_rest k j a c d true e h = refl
  choose_rest k j a c d false e h = h (eqb-false k j e)

  no_rows : RowsAlike empty empty
  no_rows k b h = refl

  row_alike : (j : ℕ) (s t : Shape) (T U : Table) → Alike s t → RowsAlike T U → RowsAlike (row j s T) (row j t U)
  row_alike j s t T U one others k b h =
      let value : Tree × Remaining → Result Tree Fault = λ x. Ok (known k x.0 x.1.bytes) in
      choose k j (reading p s b >>= value) (reading p t b >>= value) (inside_at p T k b) (eqb k j) refl
      (λ e. ap (λ (y : Result (Tree × Remaining) Fault). y >>= value) (one b (h.0 e)))
      ∙ choose_rest k j (reading p t b >>= value) (inside_at p T k b) (inside_at p U k b) (eqb k j) refl
      (λ ne. others k b (h.1 ne))

  frame_alike : (T U : Table)
      → ((k : ℕ) (b : Remaining) → (F T k → ⊥) → RowLacks F p T k b → inside_at p T k b ≡ inside_at p U k b)
      → Alike (frame T) (frame U)
  frame_alike T U inside b h =
      both_alike (word_at b) (word_at b) (λ k. step T k) (λ k. step U k) refl
      (if_ok (word_at b) (λ k more. both_alike (word_at k.1) (word_at k.1) (λ n. body T k.0 n) (λ n. body U k.0 n) refl
      (if_ok (word_at k.1) (λ n more. both_alike (body_at n.0 n.1) (body_at n.0 n.1)
      (past_body p (inside_at p T k.0) n.0) (past_body p (inside_at p U k.0) n.0) refl
      (if_ok (body_at n.0 n.1) (λ x more. ap (λ (y : Result Tree Fault). y >>= λ v. ends v n.0 x.1) (inside k.0 x.0 more.0 more.1))
      more)) more)) h)
    where
      body : Table → ℕ → ℕ × Remaining → Result (Tree × Remaining) Fault
      body V k n = body_at n.0 n.1 >>= past_body p (inside_at p V k) n.0

      step : Table → ℕ × Remaining → Result (Tree × Remaining) Fault
      step V k = word_at k.1 >>= λ n. body V k.0 n

      ends : Tree → ℕ → Remaining → Result (Tree × Remaining) Fault
      ends v n c = body_end_at p n c >>= λ e. Ok (v, e.1)

  -- a union of one row
  one_alike : (u : Union) (j : ℕ) (s t : Shape) → Alike s t → Alike (union u (row j s empty)) (union u (row j t empty))
  one_alike u j s t same b h =
      both_alike (word_at b) (word_at b)
      (λ k. union_at p u b.at (row j s empty) k.0 k.1 >>= λ x. Ok (Tree.union k.0 x.0, x.1))
      (λ k. union_at p u b.at (row j t empty) k.0 k.1 >>= λ x. Ok (Tree.union k.0 x.0, x.1))
      refl
      (if_ok (word_at b) (λ k more. ap (λ (y : Result (Tree × Remaining) Fault). y >>= λ x. let o : Result (Tree × Remaining) Fault = Ok (Tree.union k.0 x.0, x.1) in o)
      (choose k.0 j (reading p s k.1) (reading p t k.1) (union_at p u b.at empty k.0 k.1) (eqb k.0 j) refl
      (λ e. same k.1 (more.0 e)))) h)

-- ---- the tables with the five formats and without them

-- words in front of others
abbrev words_of : ℕ → Shapes → Shapes
words_of zero ss = ss
words_of (suc n) ss = word then words_of n ss

abbrev frames : Table → Shapes
frames T = array (frame T) then end

abbrev sample_of : ℕ → Table → Shape
sample_of n T = structure (words_of n (frames T))

abbrev from_four : Table → Table
from_four counters = row 4 (sample_of 3 counters) empty

abbrev from_three : Table → Table → Table
from_three flows counters = row 3 (sample_of 10 flows) (from_four counters)

abbrev from_two : Table → Table → Table
from_two flows counters = row 2 (sample_of 2 counters) (from_three flows counters)

abbrev samples_now : Table
samples_now = samples_with flow_table counter_table

abbrev samples_before : Table
samples_before = samples_with fewer_flow_records fewer_counter_records

module _ (p : Pad) where
  flows_alike : (k : ℕ) (b : Remaining) → (IsFurther flow_table k → ⊥) → RowLacks IsFurther p flow_table k b
      → inside_at p flow_table k b ≡ inside_at p fewer_flow_records k b
  flows_alike k b none h =
      let four : k ≢ 1004 = λ e. none (inl (refl, inl e)) in
      let five : k ≢ 1005 = λ e. none (inl (refl, inr (inl e))) in
      let six : k ≢ 1006 = λ e. none (inl (refl, inr (inr (inl e)))) in
      let seven : k ≢ 1007 = λ e. none (inl (refl, inr (inr (inr e)))) in
      rw (ne_eqb k 1004 four, ne_eqb k 1005 five, ne_eqb k 1006 six, ne_eqb k 1007 seven) refl

  counters_alike : (k : ℕ) (b : Remaining) → (IsFurther counter_table k → ⊥) → RowLacks IsFurther p counter_table k b
      → inside_at p counter_table k b ≡ inside_at p fewer_counter_records k b
  counters_alike k b none h = rw (ne_eqb k 1001 (λ e. none (inr (refl, e)))) refl

  words_then : (n : ℕ) (ss ts : Shapes) → AllAlike IsFurther p ss ts → AllAlike IsFurther p (words_of n ss) (words_of n ts)
  words_then zero ss ts all = all
  words_then (suc n) ss ts all =
      then_alike IsFurther p word word (words_of n ss) (words_of n ts) (itself IsFurther p word) (words_then n ss ts all)

  list_of : (T U : Table) → Alike IsFurther p (frame T) (frame U) → AllAlike IsFurther p (frames T) (frames U)
  list_of T U same = then_alike IsFurther p (array (frame T)) (array (frame U)) end end
      (array_alike IsFurther p (frame T) (frame U) same) (no_more IsFurther p)

  sample_alike : (n : ℕ) (T U : Table) → Alike IsFurther p (frame T) (frame U) → Alike IsFurther p (sample_of n T) (sample_of n U)
  sample_alike n T U same =
      structure_alike IsFurther p (words_of n (frames T)) (words_of n (frames U))
      (words_then n (frames T) (frames U) (list_of T U same))

  flow_frames : Alike IsFurther p (frame flow_table) (frame fewer_flow_records)
  flow_frames = frame_alike IsFurther p flow_table fewer_flow_records flows_alike

  counter_frames : Alike IsFurther p (frame counter_table) (frame fewer_counter_records)
  counter_frames = frame_alike IsFurther p counter_table fewer_counter_records counters_alike

  samples_alike : RowsAlike IsFurther p (samples_with flow_table counter_table)
      (samples_with fewer_flow_records fewer_counter_records)
  samples_alike =
      row_alike IsFurther p 1 (sample_of 7 flow_table) (sample_of 7 fewer_flow_records) (from_two flow_table counter_table) (from_two fewer_flow_records fewer_counter_records) (sample_alike 7 flow_table fewer_flow_records flow_frames)
      (row_alike IsFurther p 2 (sample_of 2 counter_table) (sample_of 2 fewer_counter_records) (from_three flow_table counter_table) (from_three fewer_flow_records fewer_counter_records) (sample_alike 2 counter_table fewer_counter_records counter_frames)
      (row_alike IsFurther p 3 (sample_of 10 flow_table) (sample_of 10 fewer_flow_records) (from_four counter_table) (from_four fewer_counter_records) (sample_alike 10 flow_table fewer_flow_records flow_frames)
      (row_alike IsFurther p 4 (sample_of 3 counter_table) (sample_of 3 fewer_counter_records) empty empty (sample_alike 3 counter_table fewer_counter_records counter_frames)
      (no_rows IsFurther p))))

  datagram_alike : Alike IsFurther p datagram datagram_without
  datagram_alike =
      one_alike IsFurther p version 5 (structure (agent_address then words_of 3 (frames samples_now))) (structure (agent_address then words_of 3 (frames samples_before)))
      (structure_alike IsFurther p (agent_address then words_of 3 (frames samples_now)) (agent_address then words_of 3 (frames samples_before))
      (then_alike IsFurther p agent_address agent_address (words_of 3 (frames samples_now)) (words_of 3 (frames samples_before))
      (itself IsFurther p agent_address)
      (words_then 3 (frames samples_now) (frames samples_before) (list_of samples_now samples_before (frame_alike IsFurther p samples_now samples_before (λ k b none h. samples_alike k b h))))))

  pub alike_whole : (bytes : List ℕ) → LacksFurther p bytes
      → whole_reading p datagram bytes ≡ whole_reading p datagram_without bytes
  alike_whole bytes h =
      ap (λ (r : Result (Tree × Remaining) Fault). let o : Result Tree Fault = if nat_lt 65535 (length bytes) then Err too_long else (r >>= at_end) in o)
      (datagram_alike (from_start bytes) h)

  pub value_alike : (bytes : List ℕ) (t : Tree) → AreBytes bytes → LacksFurther p bytes
      → (SpellsWhole p datagram bytes t ↔ SpellsWhole p datagram_without bytes t)
  value_alike bytes t fits h = (
    λ s. whole_good p datagram_without bytes t fits (sym (alike_whole bytes h) ∙ whole_taken p datagram bytes t s),
    λ s. whole_good p datagram bytes t fits (alike_whole bytes h ∙ whole_taken p datagram_without bytes t s),
  )

  pub fault_alike : (bytes : List ℕ) (f : Fault) → AreBytes bytes → LacksFurther p bytes
      → (FailsWhole p datagram bytes f ↔ FailsWhole p datagram_without bytes f)
  fault_alike bytes f fits h = (
    λ s. whole_bad p datagram_without bytes f fits (sym (alike_whole bytes h) ∙ whole_refused p datagram bytes f s),
    λ s. whole_bad p datagram bytes f fits (alike_whole bytes h ∙ whole_refused p datagram_without bytes f s),
  )
