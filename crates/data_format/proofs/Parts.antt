-- Members and the frames behind them are a structure of the grammar.
use Rattle.std.proofs.Common.{◌≡◌, ℕ, List, Result, Ok, Err, refl, ap, subst, ◌∙◌}
use Rattle.wire_spec.specs.declared.pad.Pad.{Pad}
use Rattle.wire_spec.specs.declared.fault.Fault.{Fault}
use Rattle.wire_spec.specs.Bytes.{AreBytes}
use Rattle.wire_spec.specs.Shapes.{array, frame, Shapes, Table, Tree, known, Trees}
use Rattle.wire_spec.specs.Spells.{Spells, SpellsAll}
use Rattle.wire_spec.specs.Fails.{Remaining, Fails, FailsMember}
use Rattle.wire_spec.specs.Members.{with_last_tree}
use Rattle.wire_spec.specs.Reading.{◌>>=◌, reading, members_at}
use Rattle.wire_spec.specs.Whole.{SpellsFront}
use Rattle.wire_spec.proofs.Grammar.{agrees, members_agree}
use Rattle.wire_spec.proofs.LastMember.{last_member}
use Rattle.wire_spec.proofs.Runs.{first_step, same_value}
use Rattle.wire_spec.proofs.Steps.{IsSo}
use Rattle.data_format.specs.Views.{FrameView}
use Rattle.data_format.specs.Frames.{Test, frames_at}
use Rattle.data_format.specs.Ranges.{StandIn, EndsWith}
use Rattle.data_format.specs.Trees.{table_test, IsTestOf, frame_trees, AllPass}
use Rattle.data_format.specs.Parts.{with_frames, Parts, parts_tree, frames_behind, parts_at}
use Rattle.data_format.specs.Samples.{SampleParts, sample_reading}
use Rattle.data_format.proofs.Ranges.{IsEndOf, all_of_it, end_past, frames_stand}
use Rattle.data_format.proofs.Tables.{frames_as_array, frames_pass}
use Rattle.data_format.proofs.TableFrames.{same_test}

abbrev as_tree : Table → Parts × Remaining → Result (Tree × Remaining) Fault
as_tree T x = Ok (parts_tree T x.0, x.1)

-- the parts are read as the structure is
pub parts_as_structure : (p : Pad) (ss : Shapes) (T : Table) (b : Remaining)
    → reading p (with_frames ss T) b ≡ (parts_at p ss (table_test p T) b >>= as_tree T)
parts_as_structure p ss T b = rw (last_member p ss (array (frame T)) b) (at_members (members_at p ss b))
  where
    at_frames : (h : Trees) (r : Result (List FrameView × Remaining) Fault)
        → (((r >>= λ fs. let o : Result (Tree × Remaining) Fault = Ok (Tree.array (frame_trees T fs.0), fs.1) in o)
        >>= λ x. let o : Result (Trees × Remaining) Fault = Ok (with_last_tree h x.0, x.1) in o)
        >>= λ x. let o : Result (Tree × Remaining) Fault = Ok (Tree.structure x.0, x.1) in o)
        ≡ ((r >>= λ fs. let o : Result (Parts × Remaining) Fault = Ok ((h, fs.0), fs.1) in o) >>= as_tree T)
    at_frames h (Ok fs) = refl
    at_frames h (Err f) = refl

    at_members : (r : Result (Trees × Remaining) Fault)
        → ((r >>= λ h. reading p (array (frame T)) h.1
        >>= λ x. let o : Result (Trees × Remaining) Fault = Ok (with_last_tree h.0 x.0, x.1) in o)
        >>= λ x. let o : Result (Tree × Remaining) Fault = Ok (Tree.structure x.0, x.1) in o)
        ≡ ((r >>= frames_behind p (table_test p T)) >>= as_tree T)
    at_members (Ok h) = rw (frames_as_array p T h.1) (at_frames h.0 (frames_at p (table_test p T) h.1))
    at_members (Err f) = refl

-- ---- where a test is a table's

abbrev without_place : Parts × Remaining → Result SampleParts Fault
without_place x = Ok (x.0, x.1.bytes)

pub with_table : (p : Pad) (ss : Shapes) (T : Table) (test : Test) (b : Remaining) (r : Result SampleParts Fault)
    → IsTestOf p T test → sample_reading p ss test b ≡ r → sample_reading p ss (table_test p T) b ≡ r
with_table p ss T test b r alike e =
    let P : Test → Type 0 = λ t. sample_reading p ss t b ≡ r in subst P (same_test p T test alike) e

pub parts_spelled : (p : Pad) (ss : Shapes) (T : Table) (test : Test) (b : Remaining) (x : SampleParts) → IsTestOf p T test
    → AreBytes b.bytes → sample_reading p ss test b ≡ Ok x → SpellsFront p (with_frames ss T) b.bytes (parts_tree T x.0, x.1)
parts_spelled p ss T test b x alike fits e =
    let s = with_frames ss T in
    let one = first_step (parts_at p ss (table_test p T) b) without_place x (with_table p ss T test b (Ok x) alike e) in
    let y = one.0 in
    let step : Result (Parts × Remaining) Fault → Result (Tree × Remaining) Fault = λ r. r >>= as_tree T in
    let read : reading p s b ≡ Ok (parts_tree T y.0, y.1) = parts_as_structure p ss T b ∙ ap step one.1 in
    let P : Result (Tree × Remaining) Fault → Type 0 = IsSo b (Spells p s) (Fails p s) in
    let so : P (Ok (parts_tree T y.0, y.1)) = subst P read ((agrees p s).so b fits) in
    let Q : SampleParts → Type 0 = λ x. SpellsFront p s b.bytes (parts_tree T x.0, x.1) in
    subst Q {x = (y.0, y.1.bytes)} (same_value (y.0, y.1.bytes) x one.2) (so.0, y.1.bytes, so.1, refl, so.2)

pub parts_fault : (p : Pad) (ss : Shapes) (T : Table) (test : Test) (b : Remaining) (f : Fault) → IsTestOf p T test
    → AreBytes b.bytes → sample_reading p ss test b ≡ Err f → Fails p (with_frames ss T) b f
parts_fault p ss T test b f alike fits e =
    let s = with_frames ss T in
    let P : Result (Tree × Remaining) Fault → Type 0 = IsSo b (Spells p s) (Fails p s) in
    let read = parts_as_structure p ss T b ∙ failed (parts_at p ss (table_test p T) b) (with_table p ss T test b (Err f) alike e) in
    subst P read ((agrees p s).so b fits)
  where
    failed : (r : Result (Parts × Remaining) Fault) → (r >>= without_place) ≡ Err f → (r >>= as_tree T) ≡ Err f
    failed (Ok y) e = absurd cc
    failed (Err g) e = let same : g ≡ f = cc in rw same refl

-- as the inside of a frame of format k
pub parts_inside : (p : Pad) (ss : Shapes) (T : Table) (b : Remaining) (k : ℕ)
    → (reading p (with_frames ss T) b >>= λ x. let o : Result Tree Fault = Ok (known k x.0 x.1.bytes) in o)
    ≡ (sample_reading p ss (table_test p T) b >>= λ x. Ok (known k (parts_tree T x.0) x.1))
parts_inside p ss T b k = rw (parts_as_structure p ss T b) (inside (parts_at p ss (table_test p T) b))
  where
    inside : (r : Result (Parts × Remaining) Fault)
        → ((r >>= as_tree T) >>= λ x. let o : Result Tree Fault = Ok (known k x.0 x.1.bytes) in o)
        ≡ ((r >>= without_place) >>= λ x. Ok (known k (parts_tree T x.0) x.1))
    inside (Ok x) = refl
    inside (Err f) = refl

-- ---- what the parts are

pub parts_steps : (p : Pad) (ss : Shapes) (test : Test) (b : Remaining) (y : Parts × Remaining) → parts_at p ss test b ≡ Ok y
    → (h : Trees × Remaining) × (fs : List FrameView × Remaining)
    × (members_at p ss b ≡ Ok h) × (frames_at p test h.1 ≡ Ok fs) × (((h.0, fs.0), fs.1) ≡ y)
parts_steps p ss test b y e =
    let one = first_step (members_at p ss b) (frames_behind p test) y e in
    let h = one.0 in
    let join : List FrameView × Remaining → Result (Parts × Remaining) Fault = λ fs. Ok ((h.0, fs.0), fs.1) in
    let two = first_step (frames_at p test h.1) join y one.2 in
    let there : Parts × Remaining = ((h.0, two.0.0), two.0.1) in
    (h, two.0, one.1, two.1, same_value there y two.2)

-- the frames pass the test of their table also where padding is free
pub parts_pass : (p : Pad) (ss : Shapes) (T : Table) (test : Test) (b : Remaining) (x : SampleParts) → IsTestOf p T test
    → sample_reading p ss test b ≡ Ok x → AllPass T x.0.1
parts_pass p ss T test b x alike e =
    let one = first_step (parts_at p ss (table_test p T) b) without_place x (with_table p ss T test b (Ok x) alike e) in
    let (h, fs, members, frames, same) = parts_steps p ss (table_test p T) b one.0 one.1 in
    let P : Parts × Remaining → Type 0 = λ y. AllPass T y.0.1 in
    let Q : SampleParts → Type 0 = λ x. AllPass T x.0.1 in
    subst Q {x = (one.0.0, one.0.1.bytes)} (same_value (one.0.0, one.0.1.bytes) x one.2)
    (subst P {x = ((h.0, fs.0), fs.1)} same (frames_pass p T h.1 fs frames))

-- where they stand
abbrev pub PartsStand : Remaining → Parts × Remaining → Type 0
PartsStand whole y = StandIn whole y.0.1 × IsEndOf whole y.1

pub parts_stand : (whole : Remaining) (p : Pad) (ss : Shapes) (test : Test) (b : Remaining) (y : Parts × Remaining)
    → AreBytes b.bytes → IsEndOf whole b → parts_at p ss test b ≡ Ok y → PartsStand whole y
parts_stand whole p ss test b y fits end e =
    let (h, fs, members, frames, same) = parts_steps p ss test b y e in
    let P : Result (Trees × Remaining) Fault → Type 0 = IsSo b (SpellsAll p ss) (FailsMember p ss) in
    let so : P (Ok h) = subst P members ((members_agree p ss).so b fits) in
    let Q : Parts × Remaining → Type 0 = PartsStand whole in
    subst Q {x = ((h.0, fs.0), fs.1)} same
    (frames_stand whole p test h.1 fs frames (end_past whole b h.1 so.0 so.2 so.3 end))

-- the same of a body: the frames stand in it, and the tail is its end
abbrev BodyStands : Remaining → SampleParts → Type 0
BodyStands b x = StandIn b x.0.1 × EndsWith b.bytes x.1

pub body_stands : (p : Pad) (ss : Shapes) (test : Test) (b : Remaining) (x : SampleParts) → AreBytes b.bytes
    → sample_reading p ss test b ≡ Ok x → BodyStands b x
body_stands p ss test b x fits e =
    let one = first_step (parts_at p ss test b) without_place x e in
    let stand = parts_stand b p ss test b one.0 fits (all_of_it b) one.1 in
    let P : SampleParts → Type 0 = BodyStands b in
    subst P {x = (one.0.0, one.0.1.bytes)} (same_value (one.0.0, one.0.1.bytes) x one.2)
    (stand.0, (stand.1.0, stand.1.1))
