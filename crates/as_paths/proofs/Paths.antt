-- The segments of a path are an array of the grammar, and what was read once is there again.
use Rattle.std.proofs.Common.{◌≡◌, ◌≢◌, ℕ, zero, suc, ◌+◌, ◌-◌, ◌*◌, ◌%◌, ◌<◌, Bool, true, false, cond, eqb, List, [], ◌∷◌, ◌++◌, length, take, ◌≤◌, Result, Ok, Err, refl, sym, ap, subst, ◌∙◌, arith}
use Rattle.std.specs.Int.{w32, to_be_bytes}
use Rattle.std.proofs.lemmas.Bool.{eqb-true, ne_eqb}
use Rattle.std.proofs.lemmas.List.{append-nil, length-append, take_at, take_all}
use Rattle.wire_spec.specs.declared.pad.Pad.{Pad}
use Rattle.wire_spec.specs.declared.pad.Pad.TheVariants as pads
use Rattle.wire_spec.specs.declared.fault.Fault.{Fault}
use Rattle.wire_spec.specs.Bytes.{AreBytes}
use Rattle.wire_spec.specs.Shapes.{segment, word, array, row, empty, Tree, Trees, none, ◌&◌, count_of}
use Rattle.wire_spec.specs.Spells.{Each, Spells}
use Rattle.wire_spec.specs.Spelling.{spell_all, AllTrees, IsLawful}
use Rattle.wire_spec.specs.Fails.{Remaining, past, unknown_word, Fails, FailsAmong}
use Rattle.wire_spec.specs.Reading.{◌>>=◌, word_at, many_at, reading, union_at}
use Rattle.wire_spec.specs.Bodies.{items_at}
use Rattle.wire_spec.specs.Tables.{path_segment}
use Rattle.wire_spec.specs.Whole.{from_start, trailing}
use Rattle.wire_spec.proofs.ByteLists.{take_bytes, rest_bytes}
use Rattle.wire_spec.proofs.Grammar.{agrees}
use Rattle.wire_spec.proofs.Lists.{IsMany, many_agree}
use Rattle.wire_spec.proofs.Runs.{first_step, same_value}
use Rattle.wire_spec.proofs.Spellings.{one_spelling, spelled_lawful}
use Rattle.wire_spec.proofs.Steps.{IsSo}
use Rattle.xdr_words.specs.Readers.{Reader, Reads, remaining}
use Rattle.as_paths.specs.Arrays.{list_of}
use Rattle.as_paths.proofs.Arrays.{many_as_items, count-trees}
use Rattle.as_paths.specs.declared.segment.Segment.{Segment}
use Rattle.as_paths.specs.WordLists.{word_trees, numbers_at}
use Rattle.as_paths.specs.Paths.{kind_word, segment_tree, segment_trees, kind_of, segment_at, path_at, path_over, segments_in, AreSegments}
use Rattle.as_paths.proofs.WordRuns.{numbers_as_array}

-- ---- one segment

abbrev as_tree : Segment × Remaining → Result (Tree × Remaining) Fault
as_tree s = Ok (segment_tree s.0, s.1)

pub segment_as_union : (p : Pad) (b : Remaining) → reading p path_segment b ≡ (segment_at b >>= as_tree)
segment_as_union p b = at_word (word_at b)
  where
    numbers_behind : Bool → Remaining → Result (Segment × Remaining) Fault
    numbers_behind o c = numbers_at c >>= λ ns. Ok (record { ordered = o; numbers = ns.0 }, ns.1)

    at_numbers : (k : ℕ) (o : Bool) → k ≡ kind_word o → (r : Result (List ℕ × Remaining) Fault)
        → ((r >>= λ ns. let q : Result (Tree × Remaining) Fault = Ok (Tree.array (word_trees ns.0), ns.1) in q)
        >>= λ x. let q : Result (Tree × Remaining) Fault = Ok (Tree.union k x.0, x.1) in q)
        ≡ ((r >>= λ ns. let q : Result (Segment × Remaining) Fault = Ok (record { ordered = o; numbers = ns.0 }, ns.1) in q)
        >>= as_tree)
    at_numbers k o e (Ok ns) =
        ap (λ (j : ℕ). let q : Result (Tree × Remaining) Fault = Ok (Tree.union j (Tree.array (word_trees ns.0)), ns.1) in q) e
    at_numbers k o e (Err f) = refl

    at_kind : (k : ℕ) (c : Remaining) (t u : Bool) → eqb k 1 ≡ t → eqb k 2 ≡ u
        → (cond t (reading p (array word) c) (cond u (reading p (array word) c) (Err (unknown_word segment b.at k)))
        >>= λ x. let q : Result (Tree × Remaining) Fault = Ok (Tree.union k x.0, x.1) in q)
        ≡ ((cond t (Ok false) (cond u (Ok true) (Err (unknown_word segment b.at k))) >>= λ o. numbers_at c
        >>= λ ns. let q : Result (Segment × Remaining) Fault = Ok (record { ordered = o; numbers = ns.0 }, ns.1) in q)
        >>= as_tree)
    at_kind k c true u e h = rw (numbers_as_array p c) (at_numbers k false (eqb-true k 1 e) (numbers_at c))
    at_kind k c false true e h = rw (numbers_as_array p c) (at_numbers k true (eqb-true k 2 h) (numbers_at c))
    at_kind k c false false e h = refl

    at_word : (r : Result (ℕ × Remaining) Fault)
        → (r >>= λ k. union_at p segment b.at (row 1 (array word) (row 2 (array word) empty)) k.0 k.1
        >>= λ x. let q : Result (Tree × Remaining) Fault = Ok (Tree.union k.0 x.0, x.1) in q)
        ≡ ((r >>= λ k. kind_of b.at k.0 >>= λ o. numbers_at k.1
        >>= λ ns. let q : Result (Segment × Remaining) Fault = Ok (record { ordered = o; numbers = ns.0 }, ns.1) in q)
        >>= as_tree)
    at_word (Ok k) = at_kind k.0 k.1 (eqb k.0 1) (eqb k.0 2) refl refl
    at_word (Err f) = refl

-- ---- all of them

abbrev each_tree : Pad → Remaining → Result (Tree × Remaining) Fault
each_tree p = reading p path_segment

pub segments_as_trees : (p : Pad) (n : ℕ) (b : Remaining)
    → many_at (each_tree p) n b ≡ (items_at segment_at n b >>= λ xs. Ok (segment_trees xs.0, xs.1))
segments_as_trees p n b = many_as_items (each_tree p) segment_at segment_tree (segment_as_union p) n b

pub path_as_array : (p : Pad) (b : Remaining)
    → reading p (array path_segment) b ≡ (path_at b >>= λ xs. Ok (Tree.array (segment_trees xs.0), xs.1))
path_as_array p b = at_count (word_at b)
  where
    at_run : (r : Result (List Segment × Remaining) Fault)
        → ((r >>= λ xs. let q : Result (Trees × Remaining) Fault = Ok (segment_trees xs.0, xs.1) in q)
        >>= λ ts. let q : Result (Tree × Remaining) Fault = Ok (Tree.array ts.0, ts.1) in q)
        ≡ (r >>= λ xs. Ok (Tree.array (segment_trees xs.0), xs.1))
    at_run (Ok x) = refl
    at_run (Err e) = refl

    at_count : (r : Result (ℕ × Remaining) Fault)
        → (r >>= λ n. many_at (each_tree p) n.0 n.1
        >>= λ x. let q : Result (Tree × Remaining) Fault = Ok (Tree.array x.0, x.1) in q)
        ≡ ((r >>= λ n. items_at segment_at n.0 n.1) >>= λ xs. Ok (Tree.array (segment_trees xs.0), xs.1))
    at_count (Ok n) = rw (segments_as_trees p n.0 n.1) (at_run (items_at segment_at n.0 n.1))
    at_count (Err e) = refl

-- ---- segments whose trees are the same are the same

same_numbers : (xs ys : List ℕ) → word_trees xs ≡ word_trees ys → xs ≡ ys
same_numbers [] [] e = refl
same_numbers [] (y ∷ ys) e = absurd cc
same_numbers (x ∷ xs) [] e = absurd cc
same_numbers (x ∷ xs) (y ∷ ys) e =
    let one : x ≡ y = cc in
    let more : word_trees xs ≡ word_trees ys = cc in
    rw (one, same_numbers xs ys more) refl

same_kind : (o q : Bool) → kind_word o ≡ kind_word q → o ≡ q
same_kind true true e = refl
same_kind true false e = absurd (omega arith)
same_kind false true e = absurd (omega arith)
same_kind false false e = refl

same_segment : (s t : Segment) → segment_tree s ≡ segment_tree t → s ≡ t
same_segment s t e =
    let kinds : kind_word s.ordered ≡ kind_word t.ordered = cc in
    let numbers : word_trees s.numbers ≡ word_trees t.numbers = cc in
    let make : Bool → List ℕ → Segment = λ o ns. record { ordered = o; numbers = ns } in
    ap (λ (o : Bool). make o s.numbers) (same_kind s.ordered t.ordered kinds)
    ∙ ap (make t.ordered) (same_numbers s.numbers t.numbers numbers)

same_segments : (xs ys : List Segment) → segment_trees xs ≡ segment_trees ys → xs ≡ ys
same_segments [] [] e = refl
same_segments [] (y ∷ ys) e = absurd cc
same_segments (x ∷ xs) [] e = absurd cc
same_segments (x ∷ xs) (y ∷ ys) e =
    let one : segment_tree x ≡ segment_tree y = cc in
    let more : segment_trees xs ≡ segment_trees ys = cc in
    rw (same_segment x y one, same_segments xs ys more) refl

-- ---- what was read once

each_spells : (ts : Trees) (a : List ℕ) → Each (Spells pads.Zero path_segment) ts a → a ≡ spell_all ts
each_spells none a e = e
each_spells (t & ts) a (x, y, one, others, e) = e ∙ rw (one_spelling path_segment t x one, each_spells ts y others) refl

-- n segments that were read have a front of the bytes, which is these n segments and nothing else
pub record WereRead (n : ℕ) (b c : Remaining) (xs : List Segment) : Type 0 where
  pub front : List ℕ
  pub bytes : b.bytes ≡ front ++ c.bytes
  pub at : c.at ≡ b.at + length front
  pub all : AreBytes front
  pub number : length xs ≡ n
  pub spelled : spell_all (segment_trees xs) ≡ front
  pub again : items_at segment_at n (from_start front) ≡ Ok (xs, past (from_start front) front [])
  pub lawful : AllTrees (IsLawful path_segment) (segment_trees xs)

each_lawful : (ts : Trees) (a : List ℕ) → Each (Spells pads.Zero path_segment) ts a → AllTrees (IsLawful path_segment) ts
each_lawful none a h = tt
each_lawful (t & ts) a (x, y, one, others, e) =
    (spelled_lawful pads.Zero path_segment t x one, each_lawful ts y others)

pub were_read : (n : ℕ) (b c : Remaining) (xs : List Segment) → AreBytes b.bytes → items_at segment_at n b ≡ Ok (xs, c)
    → WereRead n b c xs
were_read n b c xs fits e =
    let p = pads.Zero in
    let Good : Trees → List ℕ → Type 0 = IsMany (Spells p path_segment) n in
    let Bad : Remaining → Fault → Type 0 = FailsAmong (Spells p path_segment) (Fails p path_segment) n in
    let agree = many_agree (Spells p path_segment) (Fails p path_segment) (each_tree p) (agrees p path_segment) n in
    let step : List Segment × Remaining → Result (Trees × Remaining) Fault = λ xs. Ok (segment_trees xs.0, xs.1) in
    let steps : Result (List Segment × Remaining) Fault → Result (Trees × Remaining) Fault = λ r. r >>= step in
    let read : many_at (each_tree p) n b ≡ Ok (segment_trees xs, c) = segments_as_trees p n b ∙ ap steps e in
    let P : Result (Trees × Remaining) Fault → Type 0 = IsSo b Good Bad in
    let so : P (Ok (segment_trees xs, c)) = subst P read (agree.so b fits) in
    let a = so.0 in
    let Q : List ℕ → Type 0 = AreBytes in
    let cut : take (length a) b.bytes ≡ a = ap (take (length a)) so.2 ∙ take_at a c.bytes (length a) refl in
    let d = from_start a in
    let end : Remaining = past d a [] in
    let trees : many_at (each_tree p) n d ≡ Ok (segment_trees xs, end) =
    agree.takes d (segment_trees xs) a [] so.1 (sym (append-nil a)) in
    let inner = first_step (items_at segment_at n d) step (segment_trees xs, end) (sym (segments_as_trees p n d) ∙ trees) in
    let there : Trees × Remaining = (segment_trees inner.0.0, inner.0.1) in
    let same : there ≡ (segment_trees xs, end) = same_value there (segment_trees xs, end) inner.2 in
    let segments : inner.0.0 ≡ xs = same_segments inner.0.0 xs (ap (λ (z : Trees × Remaining). z.0) {x = there} same) in
    let rest : inner.0.1 ≡ end = ap (λ (z : Trees × Remaining). z.1) {x = there} same in
    let answer : List Segment → Remaining → Result (List Segment × Remaining) Fault = λ ys k. Ok (ys, k) in
    record {
      front = a;
      bytes = so.2;
      at = so.3;
      all = subst Q cut (take_bytes (length a) b.bytes fits);
      number = sym (count-trees segment_tree xs) ∙ so.1.0;
      spelled = sym (each_spells (segment_trees xs) a so.1.1);
      again = inner.1 ∙ ap (λ (ys : List Segment). answer ys inner.0.1) segments ∙ ap (answer xs) rest;
      lawful = each_lawful (segment_trees xs) a so.1.1;
    }

-- they are the segments of that front
pub front_segments : (n : ℕ) (b c : Remaining) (xs : List Segment) (h : WereRead n b c xs)
    → (segments_in n h.front ≡ xs) × AreSegments n h.front
unfolding segments_in AreSegments
front_segments n b c xs h =
    let these : list_of (items_at segment_at n (from_start h.front)) ≡ xs = rw h.again refl in
    (these, (rw these h.again, rw these h.spelled))

-- the segments of bytes were read from them
pub read_from : (n : ℕ) (bytes : List ℕ) → AreBytes bytes → AreSegments n bytes
    → WereRead n (from_start bytes) (past (from_start bytes) bytes []) (segments_in n bytes)
unfolding segments_in AreSegments
read_from n bytes fits h =
    were_read n (from_start bytes) (past (from_start bytes) bytes []) (segments_in n bytes) fits h.0

pub length-segments_in : (n : ℕ) (bytes : List ℕ) → AreBytes bytes → AreSegments n bytes → length (segments_in n bytes) ≡ n
length-segments_in n bytes fits h = (read_from n bytes fits h).number

pub segments_in_lawful : (n : ℕ) (bytes : List ℕ) → AreBytes bytes → AreSegments n bytes
    → AllTrees (IsLawful path_segment) (segment_trees (segments_in n bytes))
segments_in_lawful n bytes fits h = (read_from n bytes fits h).lawful

pub segments_in_spelled : (n : ℕ) (bytes : List ℕ) → AreSegments n bytes
    → spell_all (segment_trees (segments_in n bytes)) ≡ bytes
unfolding segments_in AreSegments
segments_in_spelled n bytes h = h.1

-- ---- one after the other

pub no_segments : (n : ℕ) (bytes : List ℕ) → n ≡ 0 → segments_in n bytes ≡ []
unfolding segments_in
no_segments zero bytes e = refl
no_segments (suc n) bytes e = absurd (omega arith)

pub segment_is_there : (n : ℕ) (bytes : List ℕ) (f : Fault) → n ≢ 0 → AreSegments n bytes
    → segment_at (from_start bytes) ≡ Err f → ⊥
unfolding AreSegments
segment_is_there zero bytes f some h e = some refl
segment_is_there (suc n) bytes f some h e =
    let next : Segment × Remaining → Result (List Segment × Remaining) Fault =
    λ x. items_at segment_at n x.1 >>= λ xs. Ok (x.0 ∷ xs.0, xs.1) in
    let one = first_step (segment_at (from_start bytes)) next (segments_in (suc n) bytes, past (from_start bytes) bytes []) h.0 in
    let none : Ok one.0 ≡ Err f = sym one.1 ∙ e in
    cc

-- the first of them, and what the rest of the bytes are
pub record NextGiven (n : ℕ) (bytes : List ℕ) (s : Segment) (rest : List ℕ) : Type 0 where
  pub all : AreBytes rest
  pub short : length rest ≤ length bytes
  pub others : AreSegments (n - 1) rest
  pub first : segments_in n bytes ≡ s ∷ segments_in (n - 1) rest

rest_of_segment : (b c : Remaining) (s : Segment) → AreBytes b.bytes → segment_at b ≡ Ok (s, c)
    → AreBytes c.bytes × (length c.bytes ≤ length b.bytes)
rest_of_segment b c s fits e =
    let p = pads.Zero in
    let steps : Result (Segment × Remaining) Fault → Result (Tree × Remaining) Fault = λ r. r >>= as_tree in
    let read : reading p path_segment b ≡ Ok (segment_tree s, c) = segment_as_union p b ∙ ap steps e in
    let P : Result (Tree × Remaining) Fault → Type 0 = IsSo b (Spells p path_segment) (Fails p path_segment) in
    let so : P (Ok (segment_tree s, c)) = subst P read ((agrees p path_segment).so b fits) in
    let Q : List ℕ → Type 0 = AreBytes in
    (rest_bytes so.0 c.bytes (subst Q so.2 fits), omega (arith, ap length so.2, length-append so.0 c.bytes))

pub next_given : (n : ℕ) (bytes : List ℕ) (s : Segment) (c : Remaining) → n ≢ 0 → AreBytes bytes → AreSegments n bytes
    → segment_at (from_start bytes) ≡ Ok (s, c) → NextGiven n bytes s c.bytes
unfolding segments_in AreSegments
next_given zero bytes s c some fits h e = absurd (some refl)
next_given (suc n) bytes s c some fits h e =
    let b = from_start bytes in
    let end : Remaining = past b bytes [] in
    let all = segments_in (suc n) bytes in
    let join : List Segment × Remaining → Result (List Segment × Remaining) Fault = λ xs. Ok (s ∷ xs.0, xs.1) in
    let next : Segment × Remaining → Result (List Segment × Remaining) Fault =
    λ x. items_at segment_at n x.1 >>= λ xs. Ok (x.0 ∷ xs.0, xs.1) in
    let steps : Result (Segment × Remaining) Fault → Result (List Segment × Remaining) Fault = λ r. r >>= next in
    let behind : (items_at segment_at n c >>= join) ≡ Ok (all, end) = sym (ap steps e) ∙ h.0 in
    let others = first_step (items_at segment_at n c) join (all, end) behind in
    let there : List Segment × Remaining = (s ∷ others.0.0, others.0.1) in
    let same : there ≡ (all, end) = same_value there (all, end) others.2 in
    let ended : others.0.1 ≡ end = ap (λ (z : List Segment × Remaining). z.1) {x = there} same in
    let rest = rest_of_segment b c s fits e in
    let read = were_read n c others.0.1 others.0.0 rest.0 others.1 in
    let nothing : List ℕ → Type 0 = λ t. t ≡ c.bytes in
    let whole : read.front ≡ c.bytes =
    sym (append-nil read.front) ∙ sym (read.bytes ∙ ap (λ (k : Remaining). read.front ++ k.bytes) ended) in
    let these = front_segments n c others.0.1 others.0.0 read in
    let less : suc n - 1 ≡ n = omega arith in
    let R : List ℕ → Type 0 = λ t. (segments_in n t ≡ others.0.0) × AreSegments n t in
    let moved : R c.bytes = subst R whole these in
    let firsts : all ≡ s ∷ others.0.0 = sym (ap (λ (z : List Segment × Remaining). z.0) {x = there} same) in
    record {
      all = rest.0;
      short = rest.1;
      others = rw less moved.1;
      first = rw less (firsts ∙ ap (λ (t : List Segment). s ∷ t) (sym moved.0));
    }

-- ---- whole words

length-numbers : (ns : List ℕ) → length (spell_all (word_trees ns)) ≡ 4 * length ns
length-numbers [] = refl
length-numbers (n ∷ ns) =
    omega (arith, length-append (to_be_bytes w32 n) (spell_all (word_trees ns)), length-numbers ns, word_size n)
  where
    word_size : (n : ℕ) → length (to_be_bytes w32 n) ≡ 4
    word_size n = refl

pub whole_segments : (xs : List Segment) → length (spell_all (segment_trees xs)) % 4 ≡ 0
whole_segments [] = refl
whole_segments (x ∷ xs) =
    let kind = to_be_bytes w32 (kind_word x.ordered) in
    let count = to_be_bytes w32 (count_of (word_trees x.numbers)) in
    let numbers = spell_all (word_trees x.numbers) in
    let more = spell_all (segment_trees xs) in
    let kind_size : length kind ≡ 4 = refl in
    let count_size : length count ≡ 4 = refl in
    let here : length ((kind ++ (count ++ numbers)) ++ more) ≡ 8 + 4 * length x.numbers + length more =
    omega (
      arith,
      length-append (kind ++ (count ++ numbers)) more,
      length-append kind (count ++ numbers),
      length-append count numbers,
      length-numbers x.numbers,
    ) in
    omega (arith, here, whole_segments xs)

pub counted_segments : (old new : Reader) (r : Result (List Segment) Fault)
    → Reads (λ p. p) (λ f. f) old new r (path_at (remaining old))
    → Reads (λ p. Tree.array (segment_trees p)) (λ f. f) old new r (reading old.pad (array path_segment) (remaining old))
counted_segments old new (Ok xs) h = (rw (path_as_array old.pad (remaining old), h.0) refl, h.1)
counted_segments old new (Err f) h = (rw (path_as_array old.pad (remaining old), h.0) refl, h.1)

-- ---- paths that were read

-- the bytes up to where the reading ended
pub record PathTaken (n : ℕ) (b c : Remaining) (xs : List Segment) (cut : List ℕ) : Type 0 where
  pub all : AreBytes cut
  pub from : b.at ≤ c.at
  pub to : c.at - b.at ≤ length b.bytes
  pub short : length cut ≤ length b.bytes
  pub segments : AreSegments n cut
  pub these : segments_in n cut ≡ xs

pub path_taken : (n : ℕ) (b c : Remaining) (xs : List Segment) (cut : List ℕ) → AreBytes b.bytes
    → items_at segment_at n b ≡ Ok (xs, c) → cut ≡ take (c.at - b.at) b.bytes → PathTaken n b c xs cut
path_taken n b c xs cut fits e same =
    let h = were_read n b c xs fits e in
    let len : c.at - b.at ≡ length h.front = omega (arith, h.at) in
    let whole : h.front ≡ cut =
    sym (same ∙ ap (λ (k : ℕ). take k b.bytes) len ∙ ap (take (length h.front)) h.bytes ∙ take_at h.front c.bytes (length h.front) refl) in
    let these = front_segments n b c xs h in
    let P : List ℕ → Type 0 = AreBytes in
    let Q : List ℕ → Type 0 = AreSegments n in
    let R : List ℕ → Type 0 = λ t. segments_in n t ≡ xs in
    record {
      all = subst P whole h.all;
      from = omega (arith, h.at);
      to = omega (arith, h.at, ap length h.bytes, length-append h.front c.bytes);
      short = omega (arith, ap length whole, ap length h.bytes, length-append h.front c.bytes);
      segments = subst Q whole these.1;
      these = subst R whole these.0;
    }

pub path_ended : (n : ℕ) (bytes : List ℕ) (c : Remaining) (xs : List Segment) → AreBytes bytes
    → items_at segment_at n (from_start bytes) ≡ Ok (xs, c) → length c.bytes ≡ 0
    → AreSegments n bytes × (segments_in n bytes ≡ xs) × (path_over n bytes ≡ Ok (segments_in n bytes))
path_ended n bytes c xs fits e ended =
    let h = were_read n (from_start bytes) c xs fits e in
    let all : bytes ≡ take (c.at - 0) bytes =
    sym (take_all (c.at - 0) bytes (omega (arith, h.at, ap length h.bytes, length-append h.front c.bytes, ended))) in
    let taken = path_taken n (from_start bytes) c xs bytes fits e all in
    let over : path_over n bytes ≡ Ok xs = rw (e, ended) refl in
    let answer : List Segment → Result (List Segment) Fault = λ ys. Ok ys in
    (taken.segments, taken.these, over ∙ ap answer (sym taken.these))

pub path_trails : (n : ℕ) (bytes : List ℕ) (c : Remaining) (xs : List Segment)
    → items_at segment_at n (from_start bytes) ≡ Ok (xs, c) → 0 < length c.bytes
    → path_over n bytes ≡ Err (trailing c.at (length c.bytes))
path_trails n bytes c xs e some =
    let more : eqb (length c.bytes) 0 ≡ false = ne_eqb _ _ (λ e. omega (arith, e, some)) in
    rw (e, more) refl

pub path_fails : (n : ℕ) (bytes : List ℕ) (f : Fault) → items_at segment_at n (from_start bytes) ≡ Err f
    → path_over n bytes ≡ Err f
path_fails n bytes f e = rw e refl
