-- Headers that wait, in their rows.
use Rattle.std.proofs.Common.{◌≡◌, ℕ, zero, suc, ◌+◌, ◌<◌, ◌≤◌, List, [], ◌∷◌, ◌++◌, length, take, set, get_or, refl, sym, ap, ap₂, ◌∙◌, arith}
use Rattle.std.proofs.lemmas.List.{take_more, take_all}
use Rattle.std.proofs.Math.Seq.{take-suc-set}
use Rattle.header_lanes.specs.declared.header.HeaderFacts.{HeaderFacts}
use Rattle.sample_taps.specs.declared.brief.Brief.{Brief}
use Rattle.sample_taps.specs.declared.brief.Sampled.{Sampled}
use Rattle.sample_taps.specs.Briefs.{brief_of, briefs_with}

-- ---- one more

one_waits : (rows : List Sampled) (fs : List HeaderFacts) (s : Sampled) (f : HeaderFacts) → length fs < length rows
    → briefs_with (set rows (length fs) s) (fs ++ f ∷ []) ≡ briefs_with rows fs ++ brief_of s f ∷ []
one_waits [] [] s f lt = absurd (omega (arith, lt))
one_waits (r ∷ rows) [] s f lt = refl
one_waits [] (g ∷ fs) s f lt = absurd (omega (arith, lt))
one_waits (r ∷ rows) (g ∷ fs) s f lt = ap (λ l. brief_of r g ∷ l) (one_waits rows fs s f (omega (arith, lt)))

-- one more waits behind the others
pub waits : (rows : List Sampled) (fs new : List HeaderFacts) (s : Sampled) (f : HeaderFacts) (place : ℕ) → place ≡ length fs
    → length fs < length rows → new ≡ fs ++ f ∷ [] → briefs_with (set rows place s) new ≡ briefs_with rows fs ++ brief_of s f ∷ []
waits rows fs new s f place at lt is = ap₂ (λ p l. briefs_with (set rows p s) l) at is ∙ one_waits rows fs s f lt

-- ---- as many briefs as headers

pub as_many : (rows : List Sampled) (fs : List HeaderFacts) → length fs ≤ length rows → length (briefs_with rows fs) ≡ length fs
as_many [] [] le = refl
as_many (r ∷ rows) [] le = refl
as_many [] (g ∷ fs) le = absurd (omega (arith, le))
as_many (r ∷ rows) (g ∷ fs) le = ap suc (as_many rows fs (omega (arith, le)))

-- ---- those in front

in_front : (rows : List Sampled) (fs rest : List HeaderFacts) → length fs ≤ length rows
    → take (length fs) (briefs_with rows (fs ++ rest)) ≡ briefs_with rows fs
in_front [] [] rest le = refl
in_front (r ∷ rows) [] rest le = refl
in_front [] (g ∷ fs) rest le = absurd (omega (arith, le))
in_front (r ∷ rows) (g ∷ fs) rest le = ap (λ l. brief_of r g ∷ l) (in_front rows fs rest (omega (arith, le)))

-- the briefs of those that wait stand in front of the others
pub front : (rows : List Sampled) (fs rest all : List HeaderFacts) (briefs : List Brief) → length fs ≤ length rows
    → all ≡ fs ++ rest → briefs ≡ briefs_with rows all → take (length (briefs_with rows fs)) briefs ≡ briefs_with rows fs
front rows fs rest all briefs le is made =
    ap₂ (λ n l. take n l) (as_many rows fs le) (made ∙ ap (briefs_with rows) is) ∙ in_front rows fs rest le

-- ---- one after the other

at_place : (rows : List Sampled) (fs : List HeaderFacts) (k : ℕ) (r : Sampled) (f : HeaderFacts) (b : Brief) → k < length rows → k < length fs
    → get_or (briefs_with rows fs) k b ≡ brief_of (get_or rows k r) (get_or fs k f)
at_place [] fs k r f b lt few = absurd (omega (arith, lt))
at_place (x ∷ rows) [] k r f b lt few = absurd (omega (arith, few))
at_place (x ∷ rows) (y ∷ fs) zero r f b lt few = refl
at_place (x ∷ rows) (y ∷ fs) (suc k) r f b lt few = at_place rows fs k r f b (omega (arith, lt)) (omega (arith, few))

-- one more is written
pub written : (rows : List Sampled) (fs : List HeaderFacts) (briefs : List Brief) (k : ℕ) (r : Sampled) (f : HeaderFacts) (b : Brief)
    → length rows ≡ 16 → length fs ≡ 16 → length briefs ≡ 16 → k < 16 → take k briefs ≡ take k (briefs_with rows fs)
    → b ≡ brief_of (get_or rows k r) (get_or fs k f) → take (k + 1) (set briefs k b) ≡ take (k + 1) (briefs_with rows fs)
written rows fs briefs k r f b all_rows all_facts all_briefs lt same is =
    let next : k + 1 ≡ suc k = omega arith in
    let whole : length (briefs_with rows fs) ≡ 16 = as_many rows fs (omega (arith, all_rows, all_facts)) ∙ all_facts in
    ap (λ n. take n (set briefs k b)) next
    ∙ take-suc-set briefs k b (omega (arith, all_briefs, lt))
    ∙ ap₂ (λ l x. l ++ x ∷ []) same (is ∙ sym (at_place rows fs k r f b (omega (arith, all_rows, lt)) (omega (arith, all_facts, lt))))
    ∙ sym (take_more (briefs_with rows fs) k b (omega (arith, whole, lt)))

-- all are written
pub all_written : (rows : List Sampled) (fs : List HeaderFacts) (briefs : List Brief) (k : ℕ) → length rows ≡ 16 → length fs ≡ 16
    → length briefs ≡ 16 → 16 ≤ k → take k briefs ≡ take k (briefs_with rows fs) → briefs ≡ briefs_with rows fs
all_written rows fs briefs k all_rows all_facts all_briefs le same =
    let whole : length (briefs_with rows fs) ≡ 16 = as_many rows fs (omega (arith, all_rows, all_facts)) ∙ all_facts in
    sym (take_all k briefs (omega (arith, all_briefs, le))) ∙ same ∙ take_all k (briefs_with rows fs) (omega (arith, whole, le))
