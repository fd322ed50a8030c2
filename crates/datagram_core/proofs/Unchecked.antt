-- The parts of a sample that passed its check are there.
use Rattle.std.proofs.Common.{◌≡◌, ℕ, Result, Ok, Err, refl, subst}
use Rattle.std.specs.Prelude.{IsOk}
use Rattle.wire_spec.specs.declared.pad.Pad.TheVariants as pads
use Rattle.wire_spec.specs.declared.fault.Fault.{Fault}
use Rattle.wire_spec.specs.Shapes.{Shapes, Table, Tree, known}
use Rattle.wire_spec.specs.Fails.{Remaining}
use Rattle.wire_spec.specs.Reading.{◌>>=◌, reading, inside_at}
use Rattle.data_format.specs.declared.heads.Form.TheVariants.{Compact, Expanded}
use Rattle.data_format.specs.Parts.{with_frames, parts_tree}
use Rattle.data_format.specs.Samples.{flow_members, counters_members, sample_reading}
use Rattle.data_format.specs.Trees.{table_test}
use Rattle.data_format.specs.Views.{FrameView, body_of}
use Rattle.data_format.proofs.Parts.{parts_inside}
use Rattle.datagram_core.specs.Tables.{flow_records_read, counter_records_read, samples_read}

-- ---- the parts of a frame that passes are there

abbrev without_value : {A : Type 0} → Result A Fault → Result (Unit {0}) Fault
without_value r = r >>= λ _. Ok tt

passed : {A : Type 0} (r : Result A Fault) → without_value r ≡ Ok tt → IsOk r
passed (Ok x) e = refl
passed (Err f) e = absurd cc

first_there : {A B : Type 0} (r : Result A Fault) (next : A → Result B Fault) → IsOk (r >>= next) → IsOk r
first_there (Ok x) next h = refl
first_there (Err f) next h = absurd cc

parts_there : (ss : Shapes) (T : Table) (b : Remaining) (k : ℕ)
    → without_value (reading pads.Any (with_frames ss T) b >>= λ x. let o : Result Tree Fault = Ok (known k x.0 x.1.bytes) in o) ≡ Ok tt
    → IsOk (sample_reading pads.Any ss (table_test pads.Any T) b)
parts_there ss T b k e =
    let P : Result Tree Fault → Type 0 = IsOk in
    first_there (sample_reading pads.Any ss (table_test pads.Any T) b) (λ x. Ok (known k (parts_tree T x.0) x.1))
    (subst P (parts_inside pads.Any ss T b k) (passed _ e))

-- a body with a fault doesn't pass
pub not_passed : (T : Table) (f : FrameView) (e : Fault) → inside_at pads.Any T f.format (body_of f) ≡ Err e
    → table_test pads.Any T f ≡ Ok tt → ⊥
not_passed T f e fault passes =
    let P : Result Tree Fault → Type 0 = λ r. without_value r ≡ Ok tt in
    let no : P (Err e) = subst P fault passes in
    absurd cc

-- a frame of this format that passes
abbrev PassesAs : ℕ → FrameView → Type 0
PassesAs k f = (f.format ≡ k) × (table_test pads.Any samples_read f ≡ Ok tt)

-- its parts over the records of this table are there
abbrev AreThere : Shapes → Table → FrameView → Type 0
AreThere ss T f = IsOk (sample_reading pads.Any ss (table_test pads.Any T) (body_of f))

as_format : (k : ℕ) (f : FrameView) → PassesAs k f → without_value (inside_at pads.Any samples_read k (body_of f)) ≡ Ok tt
as_format k f h =
    let P : ℕ → Type 0 = λ k. without_value (inside_at pads.Any samples_read k (body_of f)) ≡ Ok tt in
    subst P h.0 h.1

pub flow_there : (f : FrameView) → PassesAs 1 f → AreThere (flow_members Compact) flow_records_read f
unfolding samples_read
flow_there f h = parts_there (flow_members Compact) flow_records_read (body_of f) 1 (as_format 1 f h)

pub counters_there : (f : FrameView) → PassesAs 2 f → AreThere (counters_members Compact) counter_records_read f
unfolding samples_read
counters_there f h = parts_there (counters_members Compact) counter_records_read (body_of f) 2 (as_format 2 f h)

pub expanded_flow_there : (f : FrameView) → PassesAs 3 f → AreThere (flow_members Expanded) flow_records_read f
unfolding samples_read
expanded_flow_there f h = parts_there (flow_members Expanded) flow_records_read (body_of f) 3 (as_format 3 f h)

pub expanded_counters_there : (f : FrameView) → PassesAs 4 f → AreThere (counters_members Expanded) counter_records_read f
unfolding samples_read
expanded_counters_there f h =
    parts_there (counters_members Expanded) counter_records_read (body_of f) 4 (as_format 4 f h)
